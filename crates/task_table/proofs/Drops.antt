-- A kept task that a start meets is dropped before the start is answered.
use Rattle.std.proofs.Common.{◌≡◌, ℕ, ◌<◌, ◌==◌, ◌&&◌, ◌||◌, not, Bool, true, false, List, Option, Some, None, refl, sym, ap, ◌∙◌, subst}
use Rattle.std.specs.Prelude.{slice_index_or}
use Rattle.std.proofs.lemmas.Bool.{eq-eqb, and_parts, and_right}
use Rattle.executor_model.specs.declared.types.Happening.TheVariants as h
use Rattle.executor_model.specs.declared.types.Answer.{Answer}
use Rattle.executor_model.specs.declared.task.Task.{Task}
use Rattle.queue_code.specs.Calls.{Planned}
use Rattle.executor_model.specs.View.{View, is_waiting}
use Rattle.executor_model.specs.Answers.{Reply, reply, bare}
use Rattle.executor_model.specs.Histories.{HistoryEntry, happenings, view_of_history, answer, is_sweep, is_cancel, meets, kept_after}
use Rattle.executor_model.specs.State.{State, after, view_of_state, reply_of}
use Rattle.task_table.specs.declared.seat.Seat.{Seat}
use Rattle.task_table.specs.Seats.{task_in, slot_of}
use Rattle.task_table.specs.Tables.{TableView, workers_of, Shows, keeping, StandsBefore}
use Rattle.task_table.specs.Firsts.{FirstIs, is_met}
use Rattle.task_table.specs.Changes.{put, unkept}
use Rattle.task_table.specs.Formed.{IsFormed}
use Rattle.task_table.proofs.Written.{by_eqb, Writes, set_writes, slot_within, ChangesOne, holds_put, knows_put}
use Rattle.task_table.proofs.Standing.{Known, view_there}
use Rattle.task_table.proofs.Knowing.{known}
use Rattle.task_table.proofs.Firsts.{start_gets, start_said, start_meets}
use Rattle.task_table.proofs.Starts.{gets_no_sweep, gets_no_cancel, works_put}

-- an answer that is no sweep and cancels none keeps no task that it meets
met_leaves : (v : View) (k : ℕ) (answer : Answer) → is_sweep v.shut answer ≡ false → meets v (v.fate k).due k answer ≡ true → is_cancel k answer ≡ false → kept_after v k answer ≡ false
met_leaves v k answer sweep met cancels =
    (λ i. not (sweep i) && (((v.fate k).kept && not (met i)) || (cancels i && (is_waiting (v.fate k) && not v.policies.removes)))) ∙ ap (λ b. b || false) (and_right (v.fate k).kept false refl)

-- ---- the tasks that are kept, but for one

abbrev pub all_but : ℕ → (ℕ → Bool) → ℕ → Bool
all_but number kept k = not (number == k) && kept k

-- the table shows it once the task in its slot is kept no more
pub drop_shown : (m : TableView) (slot : ℕ) (x : Seat) (s : State) (kept : ℕ → Bool) → IsFormed m → slot_of m.slots slot ≡ Some x → Shows m (keeping s kept) → Shows (put m slot (unkept x)) (keeping s (all_but x.number kept))
drop_shown m slot x s kept formed there shows = record {
  moment = shows.moment;
  policies = shows.policies;
  shut = shows.shut;
  stopped = shows.stopped;
  held = holds_put m.slots new slot x (unkept x) (keeping s kept).tasks (keeping s (all_but x.number kept)).tasks formed.apart there refl writes shows.held other here;
  known = knows_put m.slots new slot x (unkept x) (keeping s kept).tasks (keeping s (all_but x.number kept)).tasks there refl writes shows.known other;
  work = λ u. works_put m.slots new slot x (unkept x) there refl writes (slice_index_or m.work u None) (s.workers u) (shows.work u);
}
  where
    new : List (Option Seat)
    new = (put m slot (unkept x)).slots

    writes : Writes m.slots new slot (unkept x)
    writes = set_writes m.slots slot (unkept x) (slot_within m.slots slot x there)

    here : (keeping s (all_but x.number kept)).tasks x.number ≡ task_in (unkept x)
    here = (λ i. record (s.tasks x.number) { kept = not (eq-eqb x.number x.number refl i) && kept x.number }) ∙ ap (λ (t : Task). record t { kept = false }) (shows.held slot x there)

    other : ChangesOne x.number (keeping s kept).tasks (keeping s (all_but x.number kept)).tasks
    other k apart = λ i. record (s.tasks k) { kept = not (apart i) && kept k }

-- ---- a start meets it

-- where what is known of the state is given
pub drop_met_by : (m : TableView) (slot : ℕ) (x : Seat) → IsFormed m → slot_of m.slots slot ≡ Some x → x.kept ≡ true → (first : Option Seat) → FirstIs m first → is_met m.moment first x ≡ true →
    (w : ℕ) → w < workers_of m → slice_index_or m.work w None ≡ None → (calls : List Planned) (past : List HistoryEntry) → Known calls (after calls (workers_of m) (happenings past)) →
    StandsBefore m calls past (h.Start w) → StandsBefore (put m slot (unkept x)) calls past (h.Start w)
drop_met_by m slot x formed here kept first is met w there free calls past known before = record {
  orderly = before.orderly;
  means = before.means;
  kept = all_but x.number before.kept;
  shows = drop_shown m slot x s before.kept formed here before.shows;
  fewer = λ k q. before.fewer k (and_parts (not (x.number == k)) (before.kept k) q).1;
  dropped = λ k q r. by_eqb x.number k
      (λ same. subst (λ n. kept_after (view_of_history calls past) n (answer calls (workers_of m) past (h.Start w)).answer ≡ false) same leaves)
      (λ apart. before.dropped k q (sym (ap (λ b. not b && before.kept k) apart) ∙ r));
}
  where
    s : State
    s = after calls (workers_of m) (happenings past)

    v : View
    v = view_of_state calls s

    said : reply_of calls (workers_of m) s (h.Start w) ≡ bare (start_gets w first)
    said = start_said m calls s before.kept w first known before.shows there free is

    meets_it : meets v (v.fate x.number).due x.number (start_gets w first) ≡ true
    meets_it = start_meets m calls s before.kept w first slot x before.shows is here ((formed.seated slot x here).kept kept).0 ∙ met

    leaves : kept_after (view_of_history calls past) x.number (answer calls (workers_of m) past (h.Start w)).answer ≡ false
    leaves = sym (ap (λ (u : View). kept_after u x.number (reply calls (workers_of m) u (h.Start w)).answer) (view_there calls (workers_of m) past before.means))
        ∙ (ap (λ (r : Reply). kept_after v x.number r.answer) said ∙ met_leaves v x.number (start_gets w first) (gets_no_sweep s.shut w first) meets_it (gets_no_cancel x.number w first))

-- whatever the calls and their history are: a kept task that the start meets may be dropped before it is answered
pub drop_met : (m : TableView) (slot : ℕ) (x : Seat) → IsFormed m → slot_of m.slots slot ≡ Some x → x.kept ≡ true → (first : Option Seat) → FirstIs m first → is_met m.moment first x ≡ true →
    (w : ℕ) → w < workers_of m → slice_index_or m.work w None ≡ None → (calls : List Planned) (past : List HistoryEntry) → StandsBefore m calls past (h.Start w) → StandsBefore (put m slot (unkept x)) calls past (h.Start w)
drop_met m slot x formed here kept first is met w there free calls past before =
    drop_met_by m slot x formed here kept first is met w there free calls past (known calls (workers_of m) past before.orderly before.means) before
