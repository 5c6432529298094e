-- The tree of a plan of calls is plain: it has texts, whole numbers and truth values alone at its ends, and nests four deep.
use Rattle.std.proofs.Common.{◌≡◌, ◌-◌, ◌==◌, ℕ, zero, suc, pos, true, List, [], ◌∷◌, length, take, drop, codes, refl, inl, inr}
use Rattle.std.proofs.lemmas.Bool.{cases_Bool}
use Rattle.toml.specs.Data.{string, integer, boolean, array, Members, no_members}
use Rattle.plan_read.specs.Keys.{unit_key}
use Rattle.plan_read.specs.Migrating.{with_member}
use Rattle.plan_read.specs.Plans.{most_block_calls}
use Rattle.plan_read.specs.own.Plain.{items_are_plain, members_are_plain}
use Rattle.plan_read.proofs.PlainMigrated.{plain_with_member}
use Rattle.call_text.specs.declared.call.CallLine.{CallLine}
use Rattle.call_text.specs.declared.call.CallLine.TheVariants as call
use Rattle.call_journal.specs.declared.journal.MadeCall.{MadeCall}
use Rattle.call_journal.specs.Plans as p

-- ---- the table of a call

plain_span : (n : ℕ) (key : List ℕ) (nanos : ℕ) (ms : Members) → members_are_plain n ms ≡ true → members_are_plain n (p.with_span key nanos ms) ≡ true
plain_span n key nanos ms h =
    plain_with_member n (unit_key key) (string (codes "ns")) (with_member key (integer (pos (p.written nanos))) ms) refl
    (plain_with_member n key (integer (pos (p.written nanos))) ms refl h)

plain_offset : (n nanos : ℕ) (ms : Members) → members_are_plain n ms ≡ true → members_are_plain n (p.with_offset nanos ms) ≡ true
plain_offset n nanos ms h =
    elim (cases_Bool (nanos == 0)) [
      | inl t ↦ rw t h
      | inr f ↦ rw f (plain_span n (codes "at") nanos ms h)
    ]

plain_operation : (n : ℕ) (word : List ℕ) → members_are_plain n (p.of_operation word) ≡ true
plain_operation n word = plain_with_member n (codes "op") (string word) no_members refl refl

plain_task : (n : ℕ) (word : List ℕ) (task : ℕ) → members_are_plain n (p.on_task word task) ≡ true
plain_task n word task = plain_with_member n (codes "name") (string (p.task_name task)) (p.of_operation word) refl (plain_operation n word)

plain_own : (n task : ℕ) (c : CallLine) → members_are_plain n (p.own_members task c) ≡ true
plain_own n task (call.Schedule delay) = plain_span n (codes "delay") delay (p.on_task (codes "schedule") task) (plain_task n (codes "schedule") task)
plain_own n task call.Execute = plain_task n (codes "execute") task
plain_own n task (call.Rate first period) =
    plain_span n (codes "period") period (p.with_span (codes "first") first (p.on_task (codes "rate") task))
    (plain_span n (codes "first") first (p.on_task (codes "rate") task) (plain_task n (codes "rate") task))
plain_own n task (call.Fixed first delay) =
    plain_span n (codes "delay") delay (p.with_span (codes "first") first (p.on_task (codes "fixed") task))
    (plain_span n (codes "first") first (p.on_task (codes "fixed") task) (plain_task n (codes "fixed") task))
plain_own n task (call.Cancel other) = plain_task n (codes "cancel") other
plain_own n task (call.Policy which value) =
    plain_with_member n (codes "value") (boolean value) (with_member (codes "which") (string (p.which_word which)) (p.of_operation (codes "policy"))) refl
    (plain_with_member n (codes "which") (string (p.which_word which)) (p.of_operation (codes "policy")) refl (plain_operation n (codes "policy")))
plain_own n task call.Shutdown = plain_operation n (codes "shutdown")
plain_own n task call.ShutdownNow = plain_operation n (codes "shutdown_now")
plain_own n task call.Ask = plain_operation n (codes "ask")

plain_call : (n begin task : ℕ) (c : MadeCall) → members_are_plain n (p.call_members begin task c) ≡ true
plain_call n begin task c = plain_offset n (c.moment - begin) (p.own_members task c.call) (plain_own n task c.call)

plain_calls : (n begin task : ℕ) (cs : List MadeCall) → items_are_plain (suc n) (p.call_items begin task cs) ≡ true
plain_calls n begin task [] = refl
plain_calls n begin task (c ∷ cs) = rw (plain_call n begin task c) (plain_calls n begin (p.task_after task c.call) cs)

-- ---- blocks and the tree

plain_block : (n begin task : ℕ) (cs : List MadeCall) → members_are_plain (suc (suc n)) (p.block_members begin task cs) ≡ true
plain_block n begin task cs =
    plain_offset (suc (suc n)) begin (with_member (codes "call") (array (p.call_items begin task cs)) no_members)
    (plain_with_member (suc (suc n)) (codes "call") (array (p.call_items begin task cs)) no_members (plain_calls n begin task cs) refl)

plain_blocks : (n count begin task : ℕ) (cs : List MadeCall) → items_are_plain (suc (suc (suc n))) (p.block_items count begin task cs) ≡ true
plain_blocks n zero begin task cs = refl
plain_blocks n (suc count) begin task cs =
    rw (plain_block n begin task (take most_block_calls cs))
    (plain_blocks n count (p.first_moment (drop most_block_calls cs)) (p.tasks_after task (take most_block_calls cs)) (drop most_block_calls cs))

-- the tree is plain
pub plain_tree : (cs : List MadeCall) → members_are_plain 4 (p.tree_of_calls cs) ≡ true
plain_tree [] = plain_with_member 4 (codes "version") (integer (pos 2)) no_members refl refl
plain_tree (c ∷ cs) =
    plain_with_member 4 (codes "block") (array (p.block_items (p.block_count (length (c ∷ cs))) 0 0 (c ∷ cs))) p.no_blocks
    (plain_blocks 0 (p.block_count (length (c ∷ cs))) 0 0 (c ∷ cs))
    (plain_with_member 4 (codes "version") (integer (pos 2)) no_members refl refl)
