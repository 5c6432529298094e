-- What a line says compares as equal exactly where it is the same.
use Rattle.std.proofs.Common.{◌≡◌, ℕ, Bool, true, arith}
use Rattle.sched_time.specs.declared.policies.Which.{Which}
use Rattle.executor_model.specs.declared.types.Kind.{Kind}
use Rattle.executor_model.specs.declared.types.Refusal.{Refusal}
use Rattle.executor_model.specs.declared.types.CancelEffect.{CancelEffect}
use Rattle.executor_model.specs.declared.types.EventError.{EventError}
use Rattle.executor_model.specs.declared.said.Said.{Said}
use Rattle.executor_model.specs.declared.said.Said.TheVariants as s
use Rattle.executor_model.specs.contracts.said.SaidPartialEq.TheImpl as equality

same_submit : (kind : Kind) (task due : ℕ) (b : Said) → equality.ghosts.eq (s.Submit kind task due) b ≡ true → s.Submit kind task due ≡ b
same_submit kind task due b q = grind (arith)

same_refuse : (refusal : Refusal) (task : ℕ) (b : Said) → equality.ghosts.eq (s.Refuse refusal task) b ≡ true → s.Refuse refusal task ≡ b
same_refuse refusal task b q = grind (arith)

same_cancel : (effect : CancelEffect) (task : ℕ) (b : Said) → equality.ghosts.eq (s.Cancel effect task) b ≡ true → s.Cancel effect task ≡ b
same_cancel effect task b q = grind (arith)

same_outside : (effect : CancelEffect) (task : ℕ) (b : Said) → equality.ghosts.eq (s.Outside effect task) b ≡ true → s.Outside effect task ≡ b
same_outside effect task b q = grind (arith)

same_purge : (b : Said) → equality.ghosts.eq s.Purge b ≡ true → s.Purge ≡ b
same_purge b q = grind (arith)

same_policy : (which : Which) (value : Bool) (b : Said) → equality.ghosts.eq (s.Policy which value) b ≡ true → s.Policy which value ≡ b
same_policy which value b q = grind (arith)

same_shutdown : (b : Said) → equality.ghosts.eq s.Shutdown b ≡ true → s.Shutdown ≡ b
same_shutdown b q = grind (arith)

same_shutdown_again : (b : Said) → equality.ghosts.eq s.ShutdownAgain b ≡ true → s.ShutdownAgain ≡ b
same_shutdown_again b q = grind (arith)

same_shutdown_now : (b : Said) → equality.ghosts.eq s.ShutdownNow b ≡ true → s.ShutdownNow ≡ b
same_shutdown_now b q = grind (arith)

same_ask : (shutdown terminated : Bool) (queue running : ℕ) (b : Said) → equality.ghosts.eq (s.Ask shutdown terminated queue running) b ≡ true → s.Ask shutdown terminated queue running ≡ b
same_ask shutdown terminated queue running b q = grind (arith)

same_clock : (b : Said) → equality.ghosts.eq s.Clock b ≡ true → s.Clock ≡ b
same_clock b q = grind (arith)

same_start : (worker task run due : ℕ) (b : Said) → equality.ghosts.eq (s.Start worker task run due) b ≡ true → s.Start worker task run due ≡ b
same_start worker task run due b q = grind (arith)

same_idle : (worker : ℕ) (b : Said) → equality.ghosts.eq (s.Idle worker) b ≡ true → s.Idle worker ≡ b
same_idle worker b q = grind (arith)

same_done : (worker task run value : ℕ) (b : Said) → equality.ghosts.eq (s.Done worker task run value) b ≡ true → s.Done worker task run value ≡ b
same_done worker task run value b q = grind (arith)

same_failed : (worker task run code : ℕ) (b : Said) → equality.ghosts.eq (s.Failed worker task run code) b ≡ true → s.Failed worker task run code ≡ b
same_failed worker task run code b q = grind (arith)

same_again : (worker task run due : ℕ) (b : Said) → equality.ghosts.eq (s.Again worker task run due) b ≡ true → s.Again worker task run due ≡ b
same_again worker task run due b q = grind (arith)

same_dropped : (worker task run : ℕ) (b : Said) → equality.ghosts.eq (s.Dropped worker task run) b ≡ true → s.Dropped worker task run ≡ b
same_dropped worker task run b q = grind (arith)

same_ended : (worker task run : ℕ) (b : Said) → equality.ghosts.eq (s.Ended worker task run) b ≡ true → s.Ended worker task run ≡ b
same_ended worker task run b q = grind (arith)

same_error : (error : EventError) (b : Said) → equality.ghosts.eq (s.Error error) b ≡ true → s.Error error ≡ b
same_error error b q = grind (arith)

same_end : (task : ℕ) (b : Said) → equality.ghosts.eq (s.End task) b ≡ true → s.End task ≡ b
same_end task b q = grind (arith)

-- what compares as equal is the same
pub said_is_same : (a b : Said) → equality.ghosts.eq a b ≡ true → a ≡ b
said_is_same (s.Submit kind task due) b q = same_submit kind task due b q
said_is_same (s.Refuse refusal task) b q = same_refuse refusal task b q
said_is_same (s.Cancel effect task) b q = same_cancel effect task b q
said_is_same (s.Outside effect task) b q = same_outside effect task b q
said_is_same s.Purge b q = same_purge b q
said_is_same (s.Policy which value) b q = same_policy which value b q
said_is_same s.Shutdown b q = same_shutdown b q
said_is_same s.ShutdownAgain b q = same_shutdown_again b q
said_is_same s.ShutdownNow b q = same_shutdown_now b q
said_is_same (s.Ask shutdown terminated queue running) b q = same_ask shutdown terminated queue running b q
said_is_same s.Clock b q = same_clock b q
said_is_same (s.Start worker task run due) b q = same_start worker task run due b q
said_is_same (s.Idle worker) b q = same_idle worker b q
said_is_same (s.Done worker task run value) b q = same_done worker task run value b q
said_is_same (s.Failed worker task run code) b q = same_failed worker task run code b q
said_is_same (s.Again worker task run due) b q = same_again worker task run due b q
said_is_same (s.Dropped worker task run) b q = same_dropped worker task run b q
said_is_same (s.Ended worker task run) b q = same_ended worker task run b q
said_is_same (s.Error error) b q = same_error error b q
said_is_same (s.End task) b q = same_end task b q

-- and each compares as equal with itself
pub said_equals_itself : (a : Said) → equality.ghosts.eq a a ≡ true
said_equals_itself (s.Submit kind task due) = grind (arith)
said_equals_itself (s.Refuse refusal task) = grind (arith)
said_equals_itself (s.Cancel effect task) = grind (arith)
said_equals_itself (s.Outside effect task) = grind (arith)
said_equals_itself s.Purge = grind (arith)
said_equals_itself (s.Policy which value) = grind (arith)
said_equals_itself s.Shutdown = grind (arith)
said_equals_itself s.ShutdownAgain = grind (arith)
said_equals_itself s.ShutdownNow = grind (arith)
said_equals_itself (s.Ask shutdown terminated queue running) = grind (arith)
said_equals_itself s.Clock = grind (arith)
said_equals_itself (s.Start worker task run due) = grind (arith)
said_equals_itself (s.Idle worker) = grind (arith)
said_equals_itself (s.Done worker task run value) = grind (arith)
said_equals_itself (s.Failed worker task run code) = grind (arith)
said_equals_itself (s.Again worker task run due) = grind (arith)
said_equals_itself (s.Dropped worker task run) = grind (arith)
said_equals_itself (s.Ended worker task run) = grind (arith)
said_equals_itself (s.Error error) = grind (arith)
said_equals_itself (s.End task) = grind (arith)
