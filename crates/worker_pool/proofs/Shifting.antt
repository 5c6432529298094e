-- What ends a run of a pool, and what is told of an event, and of a clock.
use Rattle.std.proofs.Common.{◌≡◌, ◌⊎◌, ◌∙◌, ◌≤◌, ℕ, List, ◌++◌, ◌∷◌, inl, inr, refl, sym, ap, subst, true, false, Bool, if◌then◌else◌, None, length, length-append, arith}
use Rattle.std.proofs.lemmas.Bool.{false≢true}
use Rattle.worker_pool.specs.declared.error.PoolError.{PoolError}
use Rattle.worker_pool.specs.declared.error.PoolError.TheVariants as p
use Rattle.std.specs.Prelude.{slice_index_or, IfOk, Result, Ok, Err}
use Rattle.executor_model.specs.declared.types.Answer.TheVariants as a
use Rattle.executor_model.specs.declared.types.EventError.TheVariants as x
use Rattle.executor_model.specs.declared.types.Event.{Event}
use Rattle.executor_model.specs.declared.types.Event.TheVariants as v
use Rattle.executor_model.specs.declared.types.Happening.{Happening}
use Rattle.executor_model.specs.declared.types.Happening.TheVariants as h
use Rattle.executor_model.specs.Histories.{IsHistoryOf, answer, happenings, now_of}
use Rattle.executor_model.specs.Flows.{lines_at, lines_of, reply_in}
use Rattle.executor_core.specs.CoreView.{workers_of}
use Rattle.worker_pool.specs.declared.applied.Applied.{Applied}
use Rattle.worker_pool.specs.Books.{BookView, IsBook, past_of}
use Rattle.worker_pool.specs.Applies.{Applies, Tells, work_started}
use Rattle.worker_pool.specs.own.Shifts.{ends_runs, TookEvent}
use Rattle.worker_pool.proofs.Entries.{lines_more}

-- what ends runs is full or out of memory
pub full_or_memory : (e : PoolError) → ends_runs e ≡ true → (e ≡ p.Full) ⊎ (e ≡ p.Memory)
full_or_memory p.Full ends = inl refl
full_or_memory p.Memory ends = inr refl
full_or_memory p.Workers ends = absurd (false≢true ends)
full_or_memory p.Limit ends = absurd (false≢true ends)
full_or_memory p.Seats ends = absurd (false≢true ends)
full_or_memory p.Running ends = absurd (false≢true ends)

-- no run was refused for another one
pub not_running : (e : PoolError) → ends_runs e ≡ true → e ≡ p.Running → ⊥
not_running e ends at = false≢true (ap ends_runs (sym at) ∙ ends)

-- an event was taken, with the work that is told of it
pub took : (old new : BookView) (event : Event) (told : Applied) → ((did : Applies old new event) × Tells old new did.last told) → TookEvent old new event told.work
took old new event told did = record { did = did.0; work = did.1.work }

-- an event adds a line at least
pub counts_a_line : (cells : List ℕ) (old new : BookView) (event : Event) (told : Applied) → IsBook cells old → IsBook cells new → new.core.calls ≡ old.core.calls →
    ((did : Applies old new event) × Tells old new did.last told) → 1 ≤ told.count
counts_a_line cells old new event told before after same did =
    let calls = old.core.calls in
    let e = did.0.last in
    let rest = did.0.between ++ past_of old in
    let more = lines_more calls did.0.between (past_of old) in
    let own = lines_at (now_of calls (happenings (e ∷ rest))) (reply_in e) in
    let written : new.lines ≡ lines_of calls rest ++ own = after.written ∙ (ap (λ c. lines_of c (past_of new)) same ∙ ap (lines_of calls) did.0.past) in
    let said : 1 ≤ length own = omega arith in
    omega (arith, said, did.1.first, did.1.count, ap length written, ap length before.written, ap length more.1, length-append (lines_of calls (past_of old)) more.0, length-append (lines_of calls rest) own)

-- what is answered to a clock starts no work
starts_none : (backward far : Bool) → work_started (if backward then a.Error x.Backward else (if far then a.Error x.TooFar else a.Clock)) ≡ None
starts_none true far = refl
starts_none false true = refl
starts_none false false = refl

-- no work is told of a clock
pub tells_no_work : (cells : List ℕ) (old new : BookView) (moment : ℕ) (told : Applied) → IsBook cells new →
    ((did : Applies old new (v.Clock moment)) × Tells old new did.last told) → told.work ≡ None
tells_no_work cells old new moment told after did =
    let calls = new.core.calls in
    let workers = workers_of new.core in
    let rest = did.0.between ++ past_of old in
    let means = subst (IsHistoryOf calls workers) did.0.past after.means in
    let clock : did.0.last.happening ≡ h.Clock moment = ap (λ (hs : List Happening). slice_index_or hs 0 (h.Clock moment)) did.0.part in
    did.1.work ∙ (ap work_started (means.2 ∙ ap (λ (y : Happening). (answer calls workers rest y).answer) clock) ∙ starts_none _ _)

-- both are told of a clock that was taken
pub told_of_a_clock : (cells : List ℕ) (old new : BookView) (moment : ℕ) (result : Result Applied PoolError) → IsBook cells old → IsBook cells new → new.core.calls ≡ old.core.calls →
    IfOk result (λ told. (did : Applies old new (v.Clock moment)) × Tells old new did.last told) → IfOk result (λ told. (1 ≤ told.count) × (told.work ≡ None))
told_of_a_clock cells old new moment (Ok told) before after same did =
    (counts_a_line cells old new (v.Clock moment) told before after same did, tells_no_work cells old new moment told after did)
told_of_a_clock cells old new moment (Err fault) before after same did = tt
