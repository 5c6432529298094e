-- The start of a worker: the kept tasks that it meets are dropped, and then it begins a run of the first task that is due, or none.
use Rattle.std.proofs.Common.{◌≡◌, ℕ, ◌+◌, ◌<◌, ◌^◌, nat_lt, Bool, List, length, Option, Some, refl, sym, ap, ◌∙◌, arith, subst}
use Rattle.std.specs.Prelude.{slice_index_or}
use Rattle.std.proofs.lemmas.Bool.{lt-ltb}
use Rattle.std.proofs.lemmas.List.{length-set}
use Rattle.queue_code.specs.Calls.{Planned}
use Rattle.executor_model.specs.declared.types.Happening.TheVariants as h
use Rattle.executor_model.specs.declared.types.Answer.TheVariants as a
use Rattle.executor_model.specs.declared.task.Task.{Task}
use Rattle.executor_model.specs.Answers.{Reply, bare}
use Rattle.executor_model.specs.Histories.{happenings}
use Rattle.executor_model.specs.State.{vacant, after, reply_of}
use Rattle.executor_model.specs.Needs.{need_of, need_of_answer}
use Rattle.task_table.specs.declared.seat.Seat.{Seat}
use Rattle.task_table.specs.declared.answers.Begun.{Begun}
use Rattle.task_table.specs.Seats.{task_in, slot_of}
use Rattle.task_table.specs.Tables.{TableView, StandsBefore, Takes as TableTakes}
use Rattle.task_table.specs.Firsts.{IsFirstDue, FirstIs}
use Rattle.task_table.specs.Changes.{begun, started}
use Rattle.task_table.specs.Runs.{IsFree, Begins, Idles, MayRun}
use Rattle.task_table.proofs.Knowing.{known}
use Rattle.task_table.proofs.Firsts.{start_gets, start_said}
use Rattle.task_table.proofs.Starts.{stands_before}
use Rattle.task_table.proofs.Written.{slot_within}
use Rattle.executor_core.specs.plan_table.Numbered.{task_at, tasks_at}
use Rattle.executor_core.specs.CoreView.{state_of, RunsBelowTaken}
use Rattle.executor_core.specs.own.Invariants.{core_of, ArePlaced, IsCore}
use Rattle.executor_core.specs.own.OwnSteps.{Takes, AreUnkept}
use Rattle.executor_core.proofs.Reaching.{read_task, state_there}
use Rattle.executor_core.proofs.Placing.{put_placed, put_empty, unkept_placed, unkept_empty, unkept_seat}
use Rattle.executor_core.proofs.Landing.{StaysGone, stays_gone, lands, stays}

-- a table with other slots
abbrev pub with_slots : TableView → List (Option Seat) → TableView
with_slots t slots = record t { slots = slots }

-- the reply to a start of a worker without work, in the state of the core
start_reply : (calls : List Planned) (limit taken count : ℕ) (t : TableView) (sought : Bool) (slots : List (Option Seat)) (w : ℕ) (first : Option Seat) (f : IsCore (core_of calls limit taken count t) t sought) → IsFree t w →
    StandsBefore (with_slots t slots) calls f.past (h.Start w) → FirstIs (with_slots t slots) first → reply_of calls (length t.work) (state_of (core_of calls limit taken count t)) (h.Start w) ≡ bare (start_gets w first)
start_reply calls limit taken count t sought slots w first f free before is =
    let there = state_there calls limit taken count t f.past f.reached f.placed in
    let knows = known calls (length t.work) f.past f.reached.stands.orderly f.reached.stands.means in
    ap (λ s. reply_of calls (length t.work) s (h.Start w)) (sym there) ∙ start_said (with_slots t slots) calls (after calls (length t.work) (happenings f.past)) before.kept w first knows before.shows free.0 free.1 is

-- where no task is kept yet any less
pub core_start_said : (calls : List Planned) (limit taken count : ℕ) (t : TableView) (sought : Bool) (w : ℕ) (first : Option Seat) (f : IsCore (core_of calls limit taken count t) t sought) → IsFree t w → FirstIs t first →
    reply_of calls (length t.work) (state_of (core_of calls limit taken count t)) (h.Start w) ≡ bare (start_gets w first)
core_start_said calls limit taken count t sought w first f free is = start_reply calls limit taken count t sought t.slots w first f free (stands_before t calls f.past (h.Start w) f.reached.stands) is

-- the first task that is due has a run below the number of events taken
below_in : (calls : List Planned) (limit taken count : ℕ) (t : TableView) (sought : Bool) (slots : List (Option Seat)) (w i : ℕ) (x : Seat) (f : IsCore (core_of calls limit taken count t) t sought) → IsFree t w → AreUnkept t (with_slots t slots) →
    StandsBefore (with_slots t slots) calls f.past (h.Start w) → RunsBelowTaken (core_of calls limit taken count t) (need_of calls (length t.work) (state_of (core_of calls limit taken count t)) (h.Start w)) → IsFirstDue (with_slots t slots) i x → x.run < taken
below_in calls limit taken count t sought slots w i x f free unkept before counted first =
    let said = start_reply calls limit taken count t sought slots w (Some x) f free before (i, first) in
    let low : (slice_index_or (tasks_at t.slots) x.number vacant).run < taken = counted x.number (ap (λ (r : Reply). need_of_answer t.shut r.answer) said) in
    let was = unkept_seat t (with_slots t slots) i x unkept first.there in
    let named : x.number ≡ i = ap (λ (y : Seat). y.number) was.3 ∙ (f.placed i was.0 was.2).named in
    let task : slice_index_or (tasks_at t.slots) x.number vacant ≡ task_in was.0 = ap (λ k. slice_index_or (tasks_at t.slots) k vacant) named ∙ (read_task t.slots i ∙ ap task_at was.2) in
    omega (arith, low, ap (λ (y : Task). y.run) task, ap (λ (y : Seat). y.run) was.3)

-- of a table in which some tasks are kept no more
pub first_below : (calls : List Planned) (limit taken count : ℕ) (t mid : TableView) (sought : Bool) (w i : ℕ) (x : Seat) (f : IsCore (core_of calls limit taken count t) t sought) → IsFree t w → AreUnkept t mid →
    StandsBefore mid calls f.past (h.Start w) → RunsBelowTaken (core_of calls limit taken count t) (need_of calls (length t.work) (state_of (core_of calls limit taken count t)) (h.Start w)) → IsFirstDue mid i x → x.run < taken
first_below calls limit taken count t mid sought w i x f free unkept before counted first =
    let same = unkept.rest in
    below_in calls limit taken count t sought mid.slots w i x f free (subst (AreUnkept t) same unkept) (subst (λ m. StandsBefore m calls f.past (h.Start w)) same before) counted (subst (λ m. IsFirstDue m i x) same first)

-- a worker begins a run
begins_in : (calls : List Planned) (limit taken count : ℕ) (t : TableView) (sought : Bool) (slots : List (Option Seat)) (w slot run due : ℕ) (x : Seat) (f : IsCore (core_of calls limit taken count t) t sought) → AreUnkept t (with_slots t slots) →
    slot_of slots slot ≡ Some x → x.run < taken → TableTakes (started (with_slots t slots) w slot x) calls f.past (h.Start w) (bare (a.Start w slot run due)) →
    Takes (core_of calls limit taken count t) (core_of calls limit taken count (started (with_slots t slots) w slot x)) (h.Start w) (a.Start w slot run due) × IsCore (core_of calls limit taken count (started (with_slots t slots) w slot x)) (started (with_slots t slots) w slot x) sought
begins_in calls limit taken count t sought slots w slot run due x f unkept there below takes =
    let u = started (with_slots t slots) w slot x in
    let low = slot_within slots slot x there in
    let mid = unkept_placed taken t (with_slots t slots) unkept f.placed in
    let here = mid slot x there in
    let placed : ArePlaced taken u.slots = put_placed taken slots slot (begun x) low mid (record { named = here.named; submitted = λ e. cc; below = here.below; begun = λ e. below }) in
    let width : length u.work ≡ length t.work = length-set t.work w (Some slot) in
    let size : length u.slots ≡ length t.slots = length-set slots slot (Some (begun x)) ∙ unkept.count in
    let gone : StaysGone calls t u f.past (h.Start w) =
    stays_gone calls count t u f.past (h.Start w) f.reached (λ i q. (unkept_empty t (with_slots t slots) i unkept (put_empty slots slot i (begun x) low q).1, tt))
    in (
      lands calls limit taken count count t u sought (h.Start w) (a.Start w slot run due) f tt width takes gone placed refl,
      stays calls limit taken count count t u sought (h.Start w) (bare (a.Start w slot run due)) f tt width takes gone placed refl size f.moment f.made f.ahead,
    )

pub begins : (calls : List Planned) (limit taken count : ℕ) (t mid u : TableView) (sought : Bool) (w : ℕ) (b : Begun) (f : IsCore (core_of calls limit taken count t) t sought) → IsFree t w → AreUnkept t mid →
    StandsBefore mid calls f.past (h.Start w) → RunsBelowTaken (core_of calls limit taken count t) (need_of calls (length t.work) (state_of (core_of calls limit taken count t)) (h.Start w)) → Begins mid u w b →
    Takes (core_of calls limit taken count t) (core_of calls limit taken count u) (h.Start w) (a.Start w b.task.slot b.run b.due) × IsCore (core_of calls limit taken count u) u sought
begins calls limit taken count t mid u sought w b f free unkept before counted did =
    let first : IsFirstDue mid b.task.slot did.task = did.first in
    let below = first_below calls limit taken count t mid sought w b.task.slot did.task f free unkept before counted first in
    let number : b.task.number ≡ b.task.slot = did.number ∙ (unkept_placed taken t mid unkept f.placed b.task.slot did.task first.there).named in
    let takes : TableTakes u calls f.past (h.Start w) (bare (a.Start w b.task.slot b.run b.due)) = subst (λ k. TableTakes u calls f.past (h.Start w) (bare (a.Start w k b.run b.due))) number (did.steps calls f.past before) in
    let is : u ≡ started (with_slots t mid.slots) w b.task.slot did.task = did.is ∙ ap (λ m. started m w b.task.slot did.task) unkept.rest in
    let done = begins_in calls limit taken count t sought mid.slots w b.task.slot b.run b.due did.task f (subst (AreUnkept t) unkept.rest unkept) first.there below
    (subst (λ v. TableTakes v calls f.past (h.Start w) (bare (a.Start w b.task.slot b.run b.due))) is takes)
    in (
      subst (λ v. Takes (core_of calls limit taken count t) (core_of calls limit taken count v) (h.Start w) (a.Start w b.task.slot b.run b.due)) (sym is) done.0,
      subst (λ v. IsCore (core_of calls limit taken count v) v sought) (sym is) done.1,
    )

-- or none
idles_in : (calls : List Planned) (limit taken count : ℕ) (t : TableView) (sought : Bool) (slots : List (Option Seat)) (w : ℕ) (f : IsCore (core_of calls limit taken count t) t sought) → AreUnkept t (with_slots t slots) →
    TableTakes (with_slots t slots) calls f.past (h.Start w) (bare (a.Idle w)) →
    Takes (core_of calls limit taken count t) (core_of calls limit taken count (with_slots t slots)) (h.Start w) (a.Idle w) × IsCore (core_of calls limit taken count (with_slots t slots)) (with_slots t slots) sought
idles_in calls limit taken count t sought slots w f unkept takes =
    let u = with_slots t slots in
    let placed = unkept_placed taken t u unkept f.placed in
    let gone : StaysGone calls t u f.past (h.Start w) = stays_gone calls count t u f.past (h.Start w) f.reached (λ i q. (unkept_empty t u i unkept q, tt)) in (
      lands calls limit taken count count t u sought (h.Start w) (a.Idle w) f tt refl takes gone placed refl,
      stays calls limit taken count count t u sought (h.Start w) (bare (a.Idle w)) f tt refl takes gone placed refl unkept.count f.moment f.made f.ahead,
    )

pub idles : (calls : List Planned) (limit taken count : ℕ) (t mid u : TableView) (sought : Bool) (w : ℕ) (f : IsCore (core_of calls limit taken count t) t sought) → AreUnkept t mid → StandsBefore mid calls f.past (h.Start w) → Idles mid u w →
    Takes (core_of calls limit taken count t) (core_of calls limit taken count u) (h.Start w) (a.Idle w) × IsCore (core_of calls limit taken count u) u sought
idles calls limit taken count t mid u sought w f unkept before did =
    let is : u ≡ with_slots t mid.slots = did.is ∙ unkept.rest in
    let done = idles_in calls limit taken count t sought mid.slots w f (subst (AreUnkept t) unkept.rest unkept) (subst (λ v. TableTakes v calls f.past (h.Start w) (bare (a.Idle w))) is (did.steps calls f.past before)) in (
      subst (λ v. Takes (core_of calls limit taken count t) (core_of calls limit taken count v) (h.Start w) (a.Idle w)) (sym is) done.0,
      subst (λ v. IsCore (core_of calls limit taken count v) v sought) (sym is) done.1,
    )

-- the run of the first task that is due may be under way
pub may_run : (taken : ℕ) (m : TableView) → taken < 2 ^ 32 → ((i : ℕ) (x : Seat) → IsFirstDue m i x → x.run < taken) → MayRun (λ run. nat_lt (run + 1) (2 ^ 32)) m
may_run taken m few below i x first room = lt-ltb (x.run + 1) (2 ^ 32) (omega (arith, few, below i x first))
