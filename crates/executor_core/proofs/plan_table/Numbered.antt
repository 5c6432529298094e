-- The tasks of a plan in slots: what the slots hold, and how they are written.
use Rattle.std.proofs.Common.{◌≡◌, ◌≢◌, ℕ, ◌+◌, ◌<◌, ◌||◌, zero, suc, Bool, true, false, List, [], ◌∷◌, length, replicate, Option, Some, None, refl, sym, ap, subst, ◌∙◌, arith}
use Rattle.std.specs.Prelude.{slice_index_or}
use Rattle.std.proofs.Math.ListN.{set}
use Rattle.std.proofs.lemmas.List.{get_or-set_same, length-replicate}
use Rattle.std.proofs.lemmas.Option.{none-some, same_Some}
use Rattle.sched_time.specs.declared.timing.Timing.{Timing}
use Rattle.sched_time.specs.declared.timing.Timing.TheVariants as t
use Rattle.task_word.specs.Words.{Parts}
use Rattle.executor_model.specs.declared.task.Stage.{Stage}
use Rattle.executor_model.specs.declared.task.Stage.TheVariants as ph
use Rattle.executor_model.specs.declared.task.Task.{Task}
use Rattle.executor_model.specs.State.{vacant, end_task}
use Rattle.executor_model.specs.declared.types.Outcome.{Outcome}
use Rattle.executor_model.specs.declared.types.Outcome.TheVariants as o
use Rattle.executor_model.proofs.Tables.{at_replicate}
use Rattle.task_table.specs.declared.seat.Seat.{Seat}
use Rattle.task_table.specs.Seats.{task_in, slot_of}
use Rattle.task_table.specs.Changes.{ended, cancelled_keeping}
use Rattle.executor_core.specs.plan_table.Numbered.{seat_of, seat_in, slot_by, slots_by, task_at, tasks_at}
use Rattle.executor_core.specs.declared.plan_table.tallies.Tallies.{Tallies}
use Rattle.executor_core.specs.declared.plan_table.tasks.Detail.{Detail}
use Rattle.executor_core.specs.plan_table.Tasks.{is_periodic}
use Rattle.executor_core.specs.plan_table.own.Tables.{tasks_in_tables, TablesAgree, is_again}
use Rattle.executor_core.proofs.plan_table.Counting.{end_accepted}

-- ---- what the slots hold

-- there are as many slots as tasks
pub slots_length : (first : ℕ) (tasks : List Task) → length (slots_by first tasks) ≡ length tasks
slots_length first [] = refl
slots_length first (t ∷ tasks) = ap suc (slots_length (suc first) tasks)

first_is : (n : ℕ) → n ≡ n + 0
first_is n = omega arith

next_is : (n k : ℕ) → suc n + k ≡ n + suc k
next_is n k = omega arith

none_before : (n : ℕ) → 0 + n ≡ n
none_before n = omega arith

-- a slot holds the task of its number, and nothing past the last one
slot_from : (first : ℕ) (tasks : List Task) (i : ℕ) → slot_of (slots_by first tasks) i ≡ slot_by (first + i) (slice_index_or tasks i vacant)
slot_from first [] i = refl
slot_from first (t ∷ tasks) zero = ap (λ n. slot_by n t) (first_is first)
slot_from first (t ∷ tasks) (suc i) = slot_from (suc first) tasks i ∙ ap (λ n. slot_by n (slice_index_or tasks i vacant)) (next_is first i)

-- the same where the first slot has number 0
pub slot_at : (tasks : List Task) (i : ℕ) → slot_of (slots_by 0 tasks) i ≡ slot_by i (slice_index_or tasks i vacant)
slot_at tasks i = slot_from 0 tasks i ∙ ap (λ n. slot_by n (slice_index_or tasks i vacant)) (none_before i)

-- a task that was submitted is in its slot
in_phase : (phase : Stage) (number : ℕ) (t : Task) → phase ≢ ph.Vacant → seat_in phase number t ≡ Some (seat_of number t)
in_phase ph.Vacant number t accepted = absurd (accepted refl)
in_phase ph.Waiting number t accepted = refl
in_phase ph.Running number t accepted = refl
in_phase ph.Done number t accepted = refl
in_phase ph.Failed number t accepted = refl
in_phase ph.Dropped number t accepted = refl

pub in_slot : (number : ℕ) (t : Task) → t.phase ≢ ph.Vacant → slot_by number t ≡ Some (seat_of number t)
in_slot number t accepted = in_phase t.phase number t accepted

-- the slot of a task that was not is empty
pub slot_empty : (number : ℕ) (t : Task) → t.phase ≡ ph.Vacant → slot_by number t ≡ None
slot_empty number t q = ap (λ phase. seat_in phase number t) q

-- past the last task nothing is held
past_end : (tasks : List Task) (i : ℕ) → (i < length tasks → ⊥) → slice_index_or tasks i vacant ≡ vacant
past_end [] i past = refl
past_end (t ∷ tasks) zero past = absurd (past (omega arith))
past_end (t ∷ tasks) (suc i) past = past_end tasks i (λ low. past (omega (arith, low)))

pub none_past : (tasks : List Task) (i : ℕ) → (i < length tasks → ⊥) → slot_of (slots_by 0 tasks) i ≡ None
none_past tasks i past = slot_at tasks i ∙ slot_empty i (slice_index_or tasks i vacant) (ap (λ (t : Task). t.phase) (past_end tasks i past))

-- ---- how they are written

set_from : (first : ℕ) (tasks : List Task) (i : ℕ) (t : Task) → i < length tasks → t.phase ≢ ph.Vacant → slots_by first (set tasks i t) ≡ set (slots_by first tasks) i (Some (seat_of (first + i) t))
set_from first [] i t low accepted = absurd (omega (arith, low))
set_from first (x ∷ tasks) zero t low accepted = ap (λ o. o ∷ slots_by (suc first) tasks) (in_slot first t accepted ∙ ap (λ n. Some (seat_of n t)) (first_is first))
set_from first (x ∷ tasks) (suc i) t low accepted =
    ap (λ l. slot_by first x ∷ l) (set_from (suc first) tasks i t (omega (arith, low)) accepted ∙ ap (λ n. set (slots_by (suc first) tasks) i (Some (seat_of n t))) (next_is first i))

-- a task that was submitted is written
pub slot_set : (tasks : List Task) (i : ℕ) (t : Task) → i < length tasks → t.phase ≢ ph.Vacant → slots_by 0 (set tasks i t) ≡ set (slots_by 0 tasks) i (Some (seat_of i t))
slot_set tasks i t low accepted = set_from 0 tasks i t low accepted ∙ ap (λ n. set (slots_by 0 tasks) i (Some (seat_of n t))) (none_before i)

-- ---- what a slot tells

-- a slot holds the task of its number, which was submitted
pub record Holds (number : ℕ) (t : Task) (x : Seat) : Type 0 where
  pub accepted : t.phase ≢ ph.Vacant
  pub seat : x ≡ seat_of number t
  pub task : t ≡ task_in x

holds_in : (phase : Stage) (number : ℕ) (t : Task) (x : Seat) → t.phase ≡ phase → seat_in phase number t ≡ Some x → Holds number t x
holds_in phase number t x is there = by phase is there
  where
    by_seat : (p : Stage) → t.phase ≡ p → p ≢ ph.Vacant → Some (seat_of number t) ≡ Some x → Holds number t x
    by_seat p is accepted there =
        let same : seat_of number t ≡ x = same_Some (seat_of number t) x there in
        record { accepted = λ q. accepted (sym is ∙ q); seat = sym same; task = ap task_in same }

    by : (p : Stage) → t.phase ≡ p → seat_in p number t ≡ Some x → Holds number t x
    by ph.Vacant is there = absurd (none-some x there)
    by ph.Waiting is there = by_seat ph.Waiting is (λ q. absurd cc) there
    by ph.Running is there = by_seat ph.Running is (λ q. absurd cc) there
    by ph.Done is there = by_seat ph.Done is (λ q. absurd cc) there
    by ph.Failed is there = by_seat ph.Failed is (λ q. absurd cc) there
    by ph.Dropped is there = by_seat ph.Dropped is (λ q. absurd cc) there

pub held_there : (tasks : List Task) (i : ℕ) (x : Seat) → slot_of (slots_by 0 tasks) i ≡ Some x → Holds i (slice_index_or tasks i vacant) x
held_there tasks i x there = holds_in (slice_index_or tasks i vacant).phase i (slice_index_or tasks i vacant) x refl (sym (slot_at tasks i) ∙ there)

-- a place that is not past the end
within : (tasks : List Task) (i : ℕ) → slice_index_or tasks i vacant ≢ vacant → i < length tasks
within [] i some = absurd (some refl)
within (t ∷ tasks) zero some = omega arith
within (t ∷ tasks) (suc i) some = omega (arith, within tasks i some)

-- a slot that holds a task is there
pub slot_within : (tasks : List Task) (i : ℕ) (x : Seat) → slot_of (slots_by 0 tasks) i ≡ Some x → i < length tasks
slot_within tasks i x there = within tasks i (λ q. (held_there tasks i x there).accepted (ap (λ (t : Task). t.phase) q))

-- an empty slot has a task that was not submitted
pub empty_slot : (tasks : List Task) (i : ℕ) → slot_of (slots_by 0 tasks) i ≡ None → (slice_index_or tasks i vacant).phase ≡ ph.Vacant
empty_slot tasks i none = by (slice_index_or tasks i vacant).phase (sym (slot_at tasks i) ∙ none)
  where
    by : (p : Stage) → seat_in p i (slice_index_or tasks i vacant) ≡ None → p ≡ ph.Vacant
    by ph.Vacant q = refl
    by ph.Waiting q = absurd (none-some (seat_of i (slice_index_or tasks i vacant)) (sym q))
    by ph.Running q = absurd (none-some (seat_of i (slice_index_or tasks i vacant)) (sym q))
    by ph.Done q = absurd (none-some (seat_of i (slice_index_or tasks i vacant)) (sym q))
    by ph.Failed q = absurd (none-some (seat_of i (slice_index_or tasks i vacant)) (sym q))
    by ph.Dropped q = absurd (none-some (seat_of i (slice_index_or tasks i vacant)) (sym q))

-- ---- what a call makes of them

-- a task stands for the one in a slot
pub put : (tasks new : List Task) (i : ℕ) (t : Task) (y : Seat) → i < length tasks → new ≡ set tasks i t → t.phase ≢ ph.Vacant → seat_of i t ≡ y → slots_by 0 new ≡ set (slots_by 0 tasks) i (Some y)
put tasks new i t y low is accepted held = ap (slots_by 0) is ∙ slot_set tasks i t low accepted ∙ ap (λ q. set (slots_by 0 tasks) i (Some q)) held

-- and the slot holds it
pub put_there : (tasks new : List Task) (i : ℕ) (t : Task) (y : Seat) → i < length tasks → new ≡ set tasks i t → t.phase ≢ ph.Vacant → seat_of i t ≡ y → slot_of (slots_by 0 new) i ≡ Some y
put_there tasks new i t y low is accepted held = ap (λ l. slot_of l i) (put tasks new i t y low is accepted held) ∙ get_or-set_same (slots_by 0 tasks) i (Some y) None (omega (arith, low, slots_length 0 tasks))

-- a place is written twice
set_twice : {X : Type 0} (xs : List X) (i : ℕ) (x y : X) → set (set xs i x) i y ≡ set xs i y
set_twice [] i x y = refl
set_twice (z ∷ xs) zero x y = refl
set_twice (z ∷ xs) (suc i) x y = ap (λ l. z ∷ l) (set_twice xs i x y)

-- a slot is written twice
pub put_twice : (slots mid last : List (Option Seat)) (i : ℕ) (x y : Option Seat) → mid ≡ set slots i x → last ≡ set mid i y → last ≡ set slots i y
put_twice slots mid last i x y first second = second ∙ ap (λ l. set l i y) first ∙ set_twice slots i x y

-- a task after its run, but for one that is cancelled as the run ends
pub ended_seat : (outcome : Outcome) (due number : ℕ) (t : Task) → outcome ≢ o.Ended → seat_of number (end_task outcome due t) ≡ ended outcome due (seat_of number t)
ended_seat (o.Done value) due number t other = refl
ended_seat (o.Failed code) due number t other = refl
ended_seat o.Dropped due number t other = refl
ended_seat o.Ended due number t other = absurd (other refl)
ended_seat (o.Again next) due number t other =
    ap (λ n. record { number = number; run = n; due = due; timing = t.timing; phase = ph.Waiting; cancelled = t.cancelled; kept = t.kept }) (more t.run)
  where
    more : (n : ℕ) → 1 + n ≡ n + 1
    more n = omega arith

-- a test that passes, with another
or_true : (b : Bool) → true ≡ (b || true)
or_true true = refl
or_true false = refl

-- and one that does not
or_false : (b : Bool) → b ≡ (b || false)
or_false true = refl
or_false false = refl

-- a task is cancelled
abbrev marked : Seat → Seat
marked x = record x { cancelled = true }

-- a task in a slot is cancelled
pub marks : (tasks new : List Task) (i : ℕ) (x : Seat) → slot_of (slots_by 0 tasks) i ≡ Some x → new ≡ set tasks i (record (slice_index_or tasks i vacant) { cancelled = true }) → slots_by 0 new ≡ set (slots_by 0 tasks) i (Some (record x { cancelled = true }))
marks tasks new i x there is =
    let held = held_there tasks i x there in
    put tasks new i _ _ (slot_within tasks i x there) is held.accepted (ap marked (sym held.seat))

-- and the slot holds it
pub marked_there : (tasks new : List Task) (i : ℕ) (x : Seat) → slot_of (slots_by 0 tasks) i ≡ Some x → new ≡ set tasks i (record (slice_index_or tasks i vacant) { cancelled = true }) → slot_of (slots_by 0 new) i ≡ Some (record x { cancelled = true })
marked_there tasks new i x there is =
    let held = held_there tasks i x there in
    put_there tasks new i _ _ (slot_within tasks i x there) is held.accepted (ap marked (sym held.seat))

-- a task in a slot is kept from now on, or is kept no more
pub keeps_so : (tasks new : List Task) (i : ℕ) (x : Seat) (kept : Bool) → slot_of (slots_by 0 tasks) i ≡ Some x → new ≡ set tasks i (record (slice_index_or tasks i vacant) { kept = kept }) → slots_by 0 new ≡ set (slots_by 0 tasks) i (Some (record x { kept = kept }))
keeps_so tasks new i x kept there is =
    let held = held_there tasks i x there in
    put tasks new i _ _ (slot_within tasks i x there) is held.accepted (ap (λ (y : Seat). record y { kept = kept }) (sym held.seat))

-- a task in a slot is cancelled, and kept
pub marks_keeping : (tasks mid new : List Task) (i : ℕ) (x : Seat) (keeps : Bool) → slot_of (slots_by 0 tasks) i ≡ Some x → mid ≡ set tasks i (record (slice_index_or tasks i vacant) { cancelled = true }) → new ≡ set mid i (record (slice_index_or mid i vacant) { kept = true })
    → keeps ≡ true → slots_by 0 new ≡ set (slots_by 0 tasks) i (Some (cancelled_keeping keeps x))
marks_keeping tasks mid new i x keeps there first second so =
    put_twice (slots_by 0 tasks) (slots_by 0 mid) (slots_by 0 new) i (Some (record x { cancelled = true })) (Some (record x { cancelled = true; kept = true })) (marks tasks mid i x there first) (keeps_so mid new i (record x { cancelled = true }) true (marked_there tasks mid i x there first) second)
    ∙ ap (λ b. set (slots_by 0 tasks) i (Some (record x { cancelled = true; kept = b }))) (or_true x.kept ∙ ap (λ b. x.kept || b) (sym so))

-- a task in a slot is cancelled, and kept only where it was
pub marks_alone : (tasks new : List Task) (i : ℕ) (x : Seat) (keeps : Bool) → slot_of (slots_by 0 tasks) i ≡ Some x → new ≡ set tasks i (record (slice_index_or tasks i vacant) { cancelled = true }) → keeps ≡ false → slots_by 0 new ≡ set (slots_by 0 tasks) i (Some (cancelled_keeping keeps x))
marks_alone tasks new i x keeps there is so =
    marks tasks new i x there is ∙ ap (λ b. set (slots_by 0 tasks) i (Some (record x { cancelled = true; kept = b }))) (or_false x.kept ∙ ap (λ b. x.kept || b) (sym so))

-- a task that waits for another run has more runs than one
pub again_periodic : (outcome : Outcome) (timing : Timing) → ((next : ℕ) → outcome ≡ o.Again next → timing ≢ t.Once) → is_again outcome ≡ true → is_periodic timing ≡ true
again_periodic (o.Done value) timing only q = absurd cc
again_periodic (o.Failed code) timing only q = absurd cc
again_periodic o.Dropped timing only q = absurd cc
again_periodic o.Ended timing only q = absurd cc
again_periodic (o.Again next) t.Once only q = absurd (only next refl refl)
again_periodic (o.Again next) (t.Rate period) only q = refl
again_periodic (o.Again next) (t.Fixed delay) only q = refl

-- the run of the task in a slot ends, but not as the task is cancelled
pub ends_so : (tasks new : List Task) (i : ℕ) (x : Seat) (outcome : Outcome) (due : ℕ) → slot_of (slots_by 0 tasks) i ≡ Some x → new ≡ set tasks i (end_task outcome due (slice_index_or tasks i vacant)) → outcome ≢ o.Ended
    → slots_by 0 new ≡ set (slots_by 0 tasks) i (Some (ended outcome due x))
ends_so tasks new i x outcome due there is other =
    let t = slice_index_or tasks i vacant in
    let held = held_there tasks i x there in
    put tasks new i (end_task outcome due t) (ended outcome due x) (slot_within tasks i x there) is (end_accepted outcome due t) (ended_seat outcome due i t other ∙ ap (ended outcome due) (sym held.seat))

-- what is in the slot once the run has ended
pub end_there : (tasks new : List Task) (i : ℕ) (x : Seat) (outcome : Outcome) (due : ℕ) → slot_of (slots_by 0 tasks) i ≡ Some x → new ≡ set tasks i (end_task outcome due (slice_index_or tasks i vacant)) →
    slot_of (slots_by 0 new) i ≡ Some (seat_of i (end_task outcome due (slice_index_or tasks i vacant)))
end_there tasks new i x outcome due there is =
    let t = slice_index_or tasks i vacant in
    put_there tasks new i (end_task outcome due t) (seat_of i (end_task outcome due t)) (slot_within tasks i x there) is (end_accepted outcome due t) refl

-- where the task is to be cancelled as its run ends, it is not before
pub ending_live : (tasks new : List Task) (i : ℕ) (x : Seat) (outcome : Outcome) (due : ℕ) → slot_of (slots_by 0 tasks) i ≡ Some x → new ≡ set tasks i (end_task outcome due (slice_index_or tasks i vacant)) → outcome ≡ o.Ended → (outcome ≢ o.Dropped → x.cancelled ≡ false)
    → (slice_index_or new i vacant).cancelled ≡ false
ending_live tasks new i x outcome due there is over live =
    let t = slice_index_or tasks i vacant in
    ap (λ (q : Task). q.cancelled) (held_there new i (seat_of i (end_task outcome due t)) (end_there tasks new i x outcome due there is)).task
    ∙ ap (λ q. (end_task q due t).cancelled) over ∙ ap (λ (q : Task). q.cancelled) (held_there tasks i x there).task ∙ live (λ q. absurd (other (sym over ∙ q)))
  where
    other : o.Ended ≢ o.Dropped
    other q = absurd cc

-- the run of the task in a slot ends, as the task is cancelled
pub ends_cancelled : (tasks mid new : List Task) (i : ℕ) (x : Seat) (outcome : Outcome) (due : ℕ) → slot_of (slots_by 0 tasks) i ≡ Some x → mid ≡ set tasks i (end_task outcome due (slice_index_or tasks i vacant)) →
    new ≡ set mid i (record (slice_index_or mid i vacant) { cancelled = true }) → outcome ≡ o.Ended → slots_by 0 new ≡ set (slots_by 0 tasks) i (Some (ended outcome due x))
ends_cancelled tasks mid new i x outcome due there first second over =
    let t = slice_index_or tasks i vacant in
    let held = held_there tasks i x there in
    let y : Seat = seat_of i (end_task outcome due t) in
    put_twice (slots_by 0 tasks) (slots_by 0 mid) (slots_by 0 new) i (Some y) (Some (marked y)) (put tasks mid i (end_task outcome due t) y (slot_within tasks i x there) first (end_accepted outcome due t) refl) (marks mid new i y (end_there tasks mid i x outcome due there first) second)
    ∙ ap (λ q. set (slots_by 0 tasks) i (Some (marked (seat_of i (end_task q due t))))) over ∙ ap (λ s. set (slots_by 0 tasks) i (Some (ended o.Ended due s))) (sym held.seat) ∙ ap (λ q. set (slots_by 0 tasks) i (Some (ended q due x))) (sym over)

-- ---- the tasks that the slots hold

-- a task, by its slot
task_back : (number : ℕ) (t : Task) → (t.phase ≡ ph.Vacant → t ≡ vacant) → task_at (slot_by number t) ≡ t
task_back number t blank = by t.phase refl
  where
    by : (p : Stage) → t.phase ≡ p → task_at (seat_in p number t) ≡ t
    by ph.Vacant is = sym (blank is)
    by ph.Waiting is = refl
    by ph.Running is = refl
    by ph.Done is = refl
    by ph.Failed is = refl
    by ph.Dropped is = refl

tasks_back : (first : ℕ) (tasks : List Task) → ((k : ℕ) → (slice_index_or tasks k vacant).phase ≡ ph.Vacant → slice_index_or tasks k vacant ≡ vacant) → tasks_at (slots_by first tasks) ≡ tasks
tasks_back first [] blank = refl
tasks_back first (t ∷ tasks) blank = λ i. task_back first t (blank 0) i ∷ tasks_back (suc first) tasks (λ k. blank (suc k)) i

-- they are the tasks, where of one that was not submitted nothing is kept
pub tasks_same : (ws : List Parts) (ds : List Detail) (tasks : List Task) (tallies : Tallies) → TablesAgree ws ds tallies → tasks_in_tables ws ds ≡ tasks → tasks_at (slots_by 0 tasks) ≡ tasks
tasks_same ws ds tasks tallies are view = subst (λ l. tasks_at (slots_by 0 l) ≡ l) view (tasks_back 0 (tasks_in_tables ws ds) are.blank)

-- the slots of tasks of which none was submitted are empty
slots_vacant : (first n : ℕ) → slots_by first (replicate n vacant) ≡ replicate n None
slots_vacant first zero = refl
slots_vacant first (suc n) = ap (λ l. None ∷ l) (slots_vacant (suc first) n)

-- and that is what all of them hold
pub none_held : (tasks : List Task) (n i : ℕ) → tasks ≡ replicate n vacant → slot_of (slots_by 0 tasks) i ≡ None
none_held tasks n i all = ap (λ l. slot_of (slots_by 0 l) i) all ∙ ap (λ l. slot_of l i) (slots_vacant 0 n) ∙ at_replicate n i None

-- as many slots as there are tasks
pub slots_count : (tasks : List Task) (n : ℕ) → tasks ≡ replicate n vacant → length (slots_by 0 tasks) ≡ n
slots_count tasks n all = slots_length 0 tasks ∙ ap length all ∙ length-replicate n vacant

-- their slots
pub slots_empty : (tasks : List Task) (n : ℕ) → tasks ≡ replicate n vacant → slots_by 0 tasks ≡ replicate n None
slots_empty tasks n all = ap (slots_by 0) all ∙ slots_vacant 0 n
