-- A purge: kept tasks are dropped, one after the other, and once none is kept it is made.
use Rattle.std.proofs.Common.{◌≡◌, ℕ, ◌==◌, ◌&&◌, ◌||◌, Bool, false, List, Some, refl, sym, ap, ◌∙◌, subst}
use Rattle.std.specs.Prelude.{not}
use Rattle.std.proofs.lemmas.Bool.{false≢true, false_from_ne_true, and_parts, or_left, or_right}
use Rattle.queue_code.specs.Calls.{Planned}
use Rattle.executor_model.specs.declared.types.Happening.TheVariants as h
use Rattle.executor_model.specs.declared.types.Answer.TheVariants as a
use Rattle.executor_model.specs.declared.task.Task.{Task}
use Rattle.executor_model.specs.Answers.{bare}
use Rattle.executor_model.specs.Histories.{HistoryEntry, happenings, view_of_history}
use Rattle.executor_model.specs.State.{State, after, view_of_state, state_after}
use Rattle.executor_model.proofs.Keeping.{kept_purged}
use Rattle.task_table.specs.declared.seat.Seat.{Seat}
use Rattle.task_table.specs.Seats.{task_in, slot_of, is_running_in, waits}
use Rattle.task_table.specs.Tables.{TableView, workers_of, Shows, keeping, StandsBefore, EventStepsBefore}
use Rattle.task_table.specs.Firsts.{NoneKept}
use Rattle.task_table.specs.Changes.{put, unkept}
use Rattle.task_table.specs.Formed.{IsFormed}
use Rattle.task_table.proofs.Standing.{takes}
use Rattle.task_table.proofs.SweepDrops.{shows_unkept}

-- before a purge a kept task may be dropped
pub purge_drops : (m : TableView) (slot : ℕ) (x : Seat) → slot_of m.slots slot ≡ Some x → IsFormed m → (calls : List Planned) (past : List HistoryEntry) →
    StandsBefore m calls past h.Purge → StandsBefore (put m slot (unkept x)) calls past h.Purge
purge_drops m slot x there formed calls past before = record {
  orderly = before.orderly;
  means = before.means;
  kept = λ k. before.kept k && not (x.number == k);
  shows = shows_unkept m (after calls (workers_of m) (happenings past)) before.kept slot x formed there before.shows;
  fewer = λ k q. before.fewer k (and_parts (before.kept k) (not (x.number == k)) q).0;
  dropped = λ k was gone. kept_purged (view_of_history calls past) k;
}

-- no task is kept in a state that a table shows, where none is kept in the table
none_there : (m : TableView) (s : State) (kept : ℕ → Bool) → NoneKept m → Shows m (keeping s kept) → (k : ℕ) → kept k ≡ false
none_there m s kept none shows k = false_from_ne_true (kept k) (λ held.
    let t : Task = (keeping s kept).tasks k in
    let at = shows.known k (or_left (waits t || kept k) (is_running_in t.phase) (or_right (waits t) (kept k) held)) in
    let same : t ≡ task_in at.1 = ap (keeping s kept).tasks (sym at.3) ∙ shows.held at.0 at.1 at.2 in
    absurd (false≢true (sym (none at.0 at.1 at.2) ∙ (sym (ap (λ (x : Task). x.kept) same) ∙ held))))

-- the state after a purge is the one in which none is kept
purged_state : (calls : List Planned) (s : State) (kept : ℕ → Bool) → ((k : ℕ) → kept k ≡ false) → keeping s kept ≡ state_after calls s h.Purge (bare a.Purge)
purged_state calls s kept none = λ i. record s { tasks = λ k. record (s.tasks k) { kept = (none k ∙ sym (kept_purged (view_of_state calls s) k)) i } }

-- where no task is kept, a purge is made
pub purge_steps : (m : TableView) → NoneKept m → EventStepsBefore m m h.Purge (bare a.Purge)
purge_steps m none calls past before =
    let s = after calls (workers_of m) (happenings past) in
    takes m m calls past h.Purge (bare a.Purge) before.means refl refl
    (subst (Shows m) (purged_state calls s before.kept (none_there m s before.kept none before.shows)) before.shows)
