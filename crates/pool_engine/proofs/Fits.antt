-- Fits: what the happenings of an ended book hand in is in range, and they are not too many. So the text of its history conforms.
use Rattle.std.proofs.Common.{◌≡◌, ℕ, ◌-◌, ◌^◌, ◌<◌, ◌≤◌, List, [], reverse, length, inl, inr, ap, sym, subst, ◌∙◌, arith, append-nil}
use Rattle.std.specs.Prelude.{All}
use Rattle.std.proofs.lemmas.List.{get_or-reverse, length-reverse}
use Rattle.std.proofs.lemmas.List.Elements.{All-get_or, All-from_get_or}
use Rattle.queue_code.specs.Calls.{Planned}
use Rattle.executor_model.specs.declared.Happening.{Happening}
use Rattle.executor_model.specs.declared.Happening.TheVariants as h
use Rattle.executor_model.specs.Histories.{happenings}
use Rattle.executor_model.proofs.Flowing.{happenings_from}
use Rattle.trace_check.proofs.Fitting.{histories_conform}
use Rattle.sched_engine.proofs.Inputs.{length-happenings}
use Rattle.worker_pool.specs.Books.{history_for}
use Rattle.pool_engine.specs.Laws.{PoolRunsConform}

-- the happenings of a history are what happened, the newest first
turned : (calls : List Planned) (workers : ℕ) (happened : List Happening) → happenings (history_for calls workers happened) ≡ reverse happened
turned calls workers happened = happenings_from calls workers [] (reverse happened) ∙ append-nil (reverse happened)

all_turned : (P : Happening → Type 0) (happened : List Happening) → All P happened → All P (reverse happened)
all_turned P happened fit =
    All-from_get_or P (reverse happened) h.Call (λ i low.
    let here : i < length happened = omega (arith, low, length-reverse happened) in
    subst P (sym (get_or-reverse happened i h.Call here)) (All-get_or P happened (length happened - 1 - i) h.Call (omega (arith, here)) fit))

-- all happenings of a history are so, where all that happened is
pub history_all : (P : Happening → Type 0) (calls : List Planned) (workers : ℕ) (happened : List Happening) → All P happened → All P (happenings (history_for calls workers happened))
history_all P calls workers happened all = subst (All P) (sym (turned calls workers happened)) (all_turned P happened all)

-- a history is as long as what happened
pub history_short : (calls : List Planned) (workers : ℕ) (happened : List Happening) → length happened ≤ 2 ^ 64 → length (history_for calls workers happened) ≤ 2 ^ 64
history_short calls workers happened short =
    omega (arith, short, length-happenings (history_for calls workers happened), ap length (turned calls workers happened), length-reverse happened)

pub pool_runs_conform : PoolRunsConform
pool_runs_conform calls workers limit moments past o count (inl r) = histories_conform calls workers past o count r.means r.fit r.short
pool_runs_conform calls workers limit moments past o count (inr r) = histories_conform calls workers past o count r.means r.fit r.short
