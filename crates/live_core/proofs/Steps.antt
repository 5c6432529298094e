-- The steps of an executor, by kinds of calls and events, each from that of its table.
use Rattle.std.proofs.Common.{◌≡◌, ℕ, ◌+◌, ◌<◌, ◌≤◌, ◌==◌, ◌||◌, false, List, [], refl, sym, ap, ◌∙◌, arith, subst}
use Rattle.std.specs.Prelude.{max, nat_lt, ◌^◌}
use Rattle.std.proofs.lemmas.Bool.Decides.{nat_tests}
use Rattle.sched_time.specs.Times.{longest}
use Rattle.sched_time.specs.declared.timing.Timing.{Timing}
use Rattle.queue_code.specs.declared.call.CodeCall.{CodeCall}
use Rattle.queue_code.specs.declared.call.CodeCall.TheVariants as c
use Rattle.queue_code.specs.Calls.{IsOrderlyCall, IsTimed, count_after}
use Rattle.executor_model.specs.declared.types.Happening.{Happening}
use Rattle.executor_model.specs.declared.types.Happening.TheVariants as h
use Rattle.executor_model.specs.declared.types.Refusal.TheVariants as refusal
use Rattle.executor_model.specs.declared.types.Answer.TheVariants as a
use Rattle.executor_model.specs.Answers.{Reply, bare, kind_of}
use Rattle.executor_model.specs.Histories.{is_submit, is_call}
use Rattle.executor_laws.specs.Additions.{LooksBelow}
use Rattle.task_table.specs.declared.seat.TaskRef.{TaskRef}
use Rattle.task_table.specs.Tables.{TableView, workers_of, CallSteps, EventSteps}
use Rattle.live_core.specs.Lives.{LiveView, Calls, Happens, never, quiet, passed, moment_of_call}
use Rattle.task_table.specs.Changes.{at_moment}
use Rattle.live_core.specs.own.Formed.{IsRoomier}
use Rattle.live_core.specs.own.Changes.{accepting, rejecting, clocking}
use Rattle.live_core.proofs.Making.{MayAdd, makes}
use Rattle.live_core.proofs.Meeting.{meets}

-- ---- calls

-- the moment of a call is one at which it may be made
pub may_add : (m : LiveView) (at : ℕ) (call : CodeCall) → moment_of_call m at ≤ longest → IsOrderlyCall m.count call → count_after m.count call ≤ never → MayAdd m (moment_of_call m at, call)
may_add m at call near orderly few = record {
  early = behind at m.table.moment m.earliest;
  ahead = after_now at m.table.moment m.earliest;
  near = near;
  orderly = orderly;
  few = few;
}
  where
    behind : (at now earliest : ℕ) → earliest ≤ max at (max now earliest)
    behind at now earliest = grind arith

    after_now : (at now earliest : ℕ) → now ≤ max at (max now earliest)
    after_now at now earliest = grind arith

-- one more is accepted
one_more : (count k : ℕ) → ((count == k) || nat_lt k count) ≡ nat_lt k (count + 1)
one_more count k = grind (arith, nat_tests)

-- a submission that is accepted
pub accepts : (m : LiveView) (table : TableView) (at delay due : ℕ) (timing : Timing) → MayAdd m (at, c.Submit m.count timing delay) → workers_of table ≡ workers_of m.table → m.accepted ≡ m.count →
    CallSteps m.table table (at, c.Submit m.count timing delay) (bare (a.Submit m.count (kind_of timing) due)) →
    Calls m (accepting m table) (at, c.Submit m.count timing delay) (bare (a.Submit m.count (kind_of timing) due))
accepts m table at delay due timing may width open_there steps =
    makes m (accepting m table) (at, c.Submit m.count timing delay) (bare (a.Submit m.count (kind_of timing) due)) may
    (record {
      workers = width;
      count = refl;
      earliest = refl;
      accepted = λ k. subst (λ n. ((n == k) || nat_lt k m.accepted) ≡ nat_lt k (m.accepted + 1)) open_there (one_more m.accepted k);
    })
    steps

-- a submission that is rejected
pub rejects : (m : LiveView) (table : TableView) (at delay : ℕ) (timing : Timing) → MayAdd m (at, c.Submit m.count timing delay) → workers_of table ≡ workers_of m.table →
    CallSteps m.table table (at, c.Submit m.count timing delay) (bare (a.Refuse m.count refusal.Rejected)) →
    Calls m (rejecting m table) (at, c.Submit m.count timing delay) (bare (a.Refuse m.count refusal.Rejected))
rejects m table at delay timing may width steps =
    makes m (rejecting m table) (at, c.Submit m.count timing delay) (bare (a.Refuse m.count refusal.Rejected)) may
    (record { workers = width; count = refl; earliest = refl; accepted = λ k. refl })
    steps

-- a call that submits nothing, and an answer that names no submission
pub makes_other : (m : LiveView) (table : TableView) (ended : List TaskRef) (at : ℕ) (call : CodeCall) (r : Reply) → MayAdd m (at, call) → count_after m.count call ≡ m.count → ((k : ℕ) → is_submit k r.answer ≡ false) →
    workers_of table ≡ workers_of m.table → CallSteps m.table table (at, call) r → Calls m (record m { table = table; ended = ended }) (at, call) r
makes_other m table ended at call r may same none width steps =
    makes m (record m { table = table; ended = ended }) (at, call) r may
    (record { workers = width; count = sym same; earliest = refl; accepted = λ k. ap (λ b. b || nat_lt k m.accepted) (none k) })
    steps

-- ---- events

-- a clock that is accepted
pub meets_clock : (m : LiveView) (table : TableView) (t : ℕ) (r : Reply) → m.earliest ≤ t + 1 → t ≤ table.moment → passed m.earliest (h.Clock t) r.answer ≡ t + 1 → workers_of table ≡ workers_of m.table → EventSteps m.table table (h.Clock t) r → Happens m (clocking m table t) (h.Clock t) r
meets_clock m table t r later there is width steps =
    meets m (clocking m table t) (h.Clock t) r refl
    (record { workers = width; count = refl; accepted = refl; earliest = later; behind = λ _. omega (arith, there); looks = λ accepted. omega arith; clock = sym is })
    steps

-- an event that is answered so that it looks at no number and no moment
pub meets_other : (m : LiveView) (table : TableView) (y : Happening) (r : Reply) → is_call y ≡ false → passed m.earliest y r.answer ≡ m.earliest → LooksBelow m.earliest m.count never y r.answer → workers_of table ≡ workers_of m.table → EventSteps m.table table y r →
    Happens m (quiet m table) y r
meets_other m table y r event unclocked looks width steps =
    meets m (quiet m table) y r event
    (record { workers = width; count = refl; accepted = refl; earliest = omega arith; behind = λ q. q; looks = looks; clock = sym unclocked })
    steps

-- ---- submissions, as the code makes them

-- where one may be made
pub may_submit : (m now : LiveView) (at delay : ℕ) (timing : Timing) → m ≡ now → now.earliest ≤ at → now.table.moment ≤ at → at ≤ longest → now.count + 1 < 2 ^ 64 → delay ≤ longest → IsTimed timing → MayAdd m (at, c.Submit m.count timing delay)
may_submit m now at delay timing same early ahead near few short timed = record {
  early = subst (λ (v : LiveView). v.earliest ≤ at) (sym same) early;
  ahead = subst (λ (v : LiveView). v.table.moment ≤ at) (sym same) ahead;
  near = near;
  orderly = (refl, short, timed);
  few = subst (λ (v : LiveView). v.count + 1 ≤ never) (sym same) (omega (arith, few));
}

-- room is made, and a task comes into its slot
pub accepts_there : (m : LiveView) (room table : TableView) (ended : List TaskRef) (at delay due number : ℕ) (timing : Timing) → MayAdd m (at, c.Submit m.count timing delay) → IsRoomier m.table room → workers_of table ≡ workers_of room → m.accepted ≡ m.count →
    ended ≡ [] → number ≡ m.count → CallSteps room table (at, c.Submit m.count timing delay) (bare (a.Submit m.count (kind_of timing) due)) →
    Calls m (record { table = table; count = m.count + 1; accepted = m.accepted + 1; earliest = m.earliest; ended = ended }) (at, c.Submit m.count timing delay) (bare (a.Submit number (kind_of timing) due))
accepts_there m room table ended at delay due number timing may roomier width unshut none own steps =
    subst (λ (k : ℕ). Calls m (record { table = table; count = m.count + 1; accepted = m.accepted + 1; earliest = m.earliest; ended = ended }) (at, c.Submit m.count timing delay) (bare (a.Submit k (kind_of timing) due))) (sym own)
    (subst (λ (l : List TaskRef). Calls m (record { table = table; count = m.count + 1; accepted = m.accepted + 1; earliest = m.earliest; ended = l }) (at, c.Submit m.count timing delay) (bare (a.Submit m.count (kind_of timing) due))) (sym none)
    (accepts m table at delay due timing may (width ∙ roomier.workers) unshut (λ calls past st next. steps calls past (roomier.stands calls past st) next)))

-- it is rejected
pub rejects_there : (m : LiveView) (table : TableView) (ended : List TaskRef) (at delay : ℕ) (timing : Timing) → MayAdd m (at, c.Submit m.count timing delay) → table ≡ at_moment m.table at → ended ≡ [] →
    CallSteps m.table table (at, c.Submit m.count timing delay) (bare (a.Refuse m.count refusal.Rejected)) →
    Calls m (record { table = table; count = m.count + 1; accepted = m.accepted; earliest = m.earliest; ended = ended }) (at, c.Submit m.count timing delay) (bare (a.Refuse m.count refusal.Rejected))
rejects_there m table ended at delay timing may is none steps =
    subst (λ (l : List TaskRef). Calls m (record { table = table; count = m.count + 1; accepted = m.accepted; earliest = m.earliest; ended = l }) (at, c.Submit m.count timing delay) (bare (a.Refuse m.count refusal.Rejected))) (sym none)
    (rejects m table at delay timing may (ap workers_of is) steps)
