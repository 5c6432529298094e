-- A slot is emptied once nothing may come of its task, and the table grows: the table stands where it stood.
use Rattle.std.proofs.Common.{◌≡◌, ℕ, zero, suc, ◌-◌, ◌==◌, ◌&&◌, ◌||◌, Bool, true, false, cond, List, [], ◌∷◌, ◌++◌, length, Option, Some, None, refl, sym, ap, ◌∙◌}
use Rattle.std.specs.Prelude.{slice_index_or, replicate, not}
use Rattle.std.proofs.lemmas.Bool.{false≢true}
use Rattle.std.proofs.lemmas.Option.{none-some, same_Some}
use Rattle.executor_model.specs.declared.task.Stage.TheVariants as ph
use Rattle.queue_code.specs.Calls.{Planned}
use Rattle.executor_model.specs.declared.types.Happening.{Happening}
use Rattle.executor_model.specs.Histories.{HistoryEntry, happenings}
use Rattle.executor_model.specs.State.{State, after}
use Rattle.executor_model.proofs.Tables.{at_set, at_replicate}
use Rattle.task_table.specs.declared.seat.Seat.{Seat}
use Rattle.task_table.specs.Seats.{task_in, slot_of, is_alive, is_waiting_in, is_running_in}
use Rattle.task_table.specs.Tables.{TableView, workers_of, WorkIs, Shows, keeping, Stands, StandsBefore}
use Rattle.task_table.specs.Changes.{emptied, grown}
use Rattle.task_table.specs.Formed.{IsFormed}
use Rattle.task_table.proofs.Written.{apart_eqb, slot_within}

-- ---- a slot is emptied

-- what is in a slot then
emptied_at : (m : TableView) (slot i : ℕ) (x : Seat) → slot_of m.slots slot ≡ Some x → slot_of (emptied m slot).slots i ≡ cond (slot == i) None (slot_of m.slots i)
emptied_at m slot i x there = at_set m.slots slot i None None (slot_within m.slots slot x there)

-- what is in a slot then was there before
left_there : (m : TableView) (slot i : ℕ) (x y : Seat) → slot_of m.slots slot ≡ Some x → slot_of (emptied m slot).slots i ≡ Some y → slot_of m.slots i ≡ Some y
left_there m slot i x y there q = by (slot == i) (sym (emptied_at m slot i x there) ∙ q)
  where
    by : (b : Bool) → cond b None (slot_of m.slots i) ≡ Some y → slot_of m.slots i ≡ Some y
    by true is = absurd (none-some y is)
    by false is = is

-- another slot holds what it held
others_stay : (m : TableView) (slot i : ℕ) (x : Seat) → slot_of m.slots slot ≡ Some x → (slot ≡ i → ⊥) → slot_of (emptied m slot).slots i ≡ slot_of m.slots i
others_stay m slot i x there differ = emptied_at m slot i x there ∙ ap (λ b. cond b None (slot_of m.slots i)) (apart_eqb slot i differ)

-- something may come of a task whose run is under way
running_alive : (x : Seat) → x.phase ≡ ph.Running → is_alive (task_in x) ≡ true
running_alive x runs = ap (λ p. ((is_waiting_in p && not x.cancelled) || x.kept) || is_running_in p) runs ∙ or_true x.kept
  where
    or_true : (b : Bool) → (b || true) ≡ true
    or_true true = refl
    or_true false = refl

-- the slot of a task of which nothing may come is emptied: the table shows what it showed
release_shows : (m : TableView) (slot : ℕ) (x : Seat) (s : State) → IsFormed m → slot_of m.slots slot ≡ Some x → is_alive (task_in x) ≡ false → Shows m s → Shows (emptied m slot) s
release_shows m slot x s formed there dead shows = record {
  moment = shows.moment;
  policies = shows.policies;
  shut = shows.shut;
  stopped = shows.stopped;
  held = λ i y q. shows.held i y (left_there m slot i x y there q);
  known = λ k q. let at = shows.known k q in (at.0, at.1, others_stay m slot at.0 x there (λ here. lives k at.0 at.1 here at.2 at.3 q) ∙ at.2, at.3);
  work = λ w. works w (slice_index_or m.work w None) refl (shows.work w);
}
  where
    lives : (k i : ℕ) (y : Seat) → slot ≡ i → slot_of m.slots i ≡ Some y → y.number ≡ k → is_alive (s.tasks k) ≡ true → ⊥
    lives k i y here is same alive =
        let one : x ≡ y = same_Some x y (sym there ∙ (ap (slot_of m.slots) here ∙ is)) in
        let task : s.tasks k ≡ task_in y = ap s.tasks (sym same) ∙ shows.held i y is in
        false≢true (sym dead ∙ (ap (λ (z : Seat). is_alive (task_in z)) one ∙ (sym (ap is_alive task) ∙ alive)))

    idle : (w i : ℕ) → slice_index_or m.work w None ≡ Some i → slot ≡ i → ⊥
    idle w i is here =
        let staff = formed.staffed w i is in
        let one : x ≡ staff.0 = same_Some x staff.0 (sym there ∙ (ap (slot_of m.slots) here ∙ staff.1)) in
        false≢true (sym dead ∙ running_alive x (ap (λ (z : Seat). z.phase) one ∙ staff.2))

    works : (w : ℕ) (o : Option ℕ) → slice_index_or m.work w None ≡ o → WorkIs m.slots o (s.workers w) → WorkIs (emptied m slot).slots o (s.workers w)
    works w None is q = q
    works w (Some i) is q = (q.0, others_stay m slot i x there (idle w i is) ∙ q.1, q.2)

-- it stands where it stood
pub release_stands : (m : TableView) (slot : ℕ) (x : Seat) → IsFormed m → slot_of m.slots slot ≡ Some x → is_alive (task_in x) ≡ false → (calls : List Planned) (past : List HistoryEntry) → Stands m calls past → Stands (emptied m slot) calls past
release_stands m slot x formed there dead calls past stands =
    record { orderly = stands.orderly; means = stands.means; shows = release_shows m slot x (after calls (workers_of m) (happenings past)) formed there dead stands.shows }

-- the same where some tasks were dropped from the queue already
pub release_before : (m : TableView) (slot : ℕ) (x : Seat) → IsFormed m → slot_of m.slots slot ≡ Some x → is_alive (task_in x) ≡ false → (calls : List Planned) (past : List HistoryEntry) (y : Happening) → StandsBefore m calls past y → StandsBefore (emptied m slot) calls past y
release_before m slot x formed there dead calls past y before = record {
  orderly = before.orderly;
  means = before.means;
  kept = before.kept;
  shows = release_shows m slot x (keeping (after calls (workers_of m) (happenings past)) before.kept) formed there dead before.shows;
  fewer = before.fewer;
  dropped = before.dropped;
}

-- ---- the table grows

-- what is in a slot then
grown_at : (slots : List (Option Seat)) (n i : ℕ) → slot_of (slots ++ replicate n None) i ≡ slot_of slots i
grown_at [] n i = at_replicate n i None
grown_at (y ∷ slots) n zero = refl
grown_at (y ∷ slots) n (suc i) = grown_at slots n i

-- a table that grows stands where it stood
pub grown_stands : (m : TableView) (n : ℕ) → (calls : List Planned) (past : List HistoryEntry) → Stands m calls past → Stands (grown m n) calls past
grown_stands m n calls past stands = record {
  orderly = stands.orderly;
  means = stands.means;
  shows = record {
    moment = shows.moment;
    policies = shows.policies;
    shut = shows.shut;
    stopped = shows.stopped;
    held = λ i y q. shows.held i y (sym (same i) ∙ q);
    known = λ k q. let at = shows.known k q in (at.0, at.1, same at.0 ∙ at.2, at.3);
    work = λ w. works (slice_index_or m.work w None) (s.workers w) (shows.work w);
  };
}
  where
    s : State
    s = after calls (workers_of m) (happenings past)

    shows : Shows m s
    shows = stands.shows

    same : (i : ℕ) → slot_of (grown m n).slots i ≡ slot_of m.slots i
    same i = grown_at m.slots (n - length m.slots) i

    works : (o work : Option ℕ) → WorkIs m.slots o work → WorkIs (grown m n).slots o work
    works None work q = q
    works (Some i) work q = (q.0, same i ∙ q.1, q.2)
