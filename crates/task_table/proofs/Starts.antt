-- The steps of a start by a worker without work, where the kept tasks that it meets are dropped already.
use Rattle.std.proofs.Common.{◌≡◌, ℕ, ◌<◌, ◌==◌, ◌&&◌, ◌||◌, not, Bool, true, false, cond, List, Option, Some, None, refl, sym, ap, ◌∙◌, subst}
use Rattle.std.specs.Prelude.{slice_index_or}
use Rattle.std.proofs.Math.ListN.{length-set}
use Rattle.std.proofs.lemmas.Bool.{false≢true, eq-eqb, and_right, or_left, or_right}
use Rattle.std.proofs.lemmas.Option.{same_Some}
use Rattle.executor_model.specs.declared.types.Happening.{Happening}
use Rattle.executor_model.specs.declared.types.Happening.TheVariants as h
use Rattle.executor_model.specs.declared.types.Answer.{Answer}
use Rattle.executor_model.specs.declared.types.Answer.TheVariants as a
use Rattle.executor_model.specs.declared.task.Stage.TheVariants as ph
use Rattle.executor_model.specs.declared.task.Task.{Task}
use Rattle.queue_code.specs.Calls.{Planned}
use Rattle.executor_model.specs.View.{View, is_waiting}
use Rattle.executor_model.specs.Answers.{Reply, reply, bare}
use Rattle.executor_model.specs.Histories.{HistoryEntry, happenings, is_sweep, is_cancel, meets, kept_after}
use Rattle.executor_model.specs.State.{State, after, view_of_state, reply_of, state_after, task_after}
use Rattle.executor_model.proofs.Keeping.{kept_stays}
use Rattle.executor_model.proofs.Tables.{at_set}
use Rattle.task_table.specs.declared.seat.Seat.{Seat}
use Rattle.task_table.specs.Seats.{task_in, slot_of, is_running_in, waits}
use Rattle.task_table.specs.Tables.{TableView, workers_of, WorkIs, Shows, keeping, Stands, StandsBefore, EventStepsBefore, Takes}
use Rattle.task_table.specs.Firsts.{IsFirstDue, NoneDue, FirstIs, MeetsNone}
use Rattle.task_table.specs.Changes.{begun, started}
use Rattle.task_table.specs.Formed.{IsFormed}
use Rattle.task_table.proofs.Written.{by_eqb, Writes, set_writes, slot_within, ChangesOne, holds_put, knows_put}
use Rattle.task_table.proofs.Standing.{Known, view_there, takes}
use Rattle.task_table.proofs.Knowing.{known}
use Rattle.task_table.proofs.Firsts.{start_gets, start_said, start_meets}

-- where the table stood before, no task needs be dropped already
pub stands_before : (m : TableView) (calls : List Planned) (past : List HistoryEntry) (y : Happening) → Stands m calls past → StandsBefore m calls past y
stands_before m calls past y stands = record {
  orderly = stands.orderly;
  means = stands.means;
  kept = λ k. ((after calls (workers_of m) (happenings past)).tasks k).kept;
  shows = stands.shows;
  fewer = λ k q. q;
  dropped = λ k q r. absurd (false≢true (sym r ∙ q));
}

-- ---- which tasks are kept after an answer that is no sweep and cancels none

-- exactly those that are not dropped already, where it meets none of these
kept_left : (v : View) (k : ℕ) (answer : Answer) (kept : Bool) → is_sweep v.shut answer ≡ false → is_cancel k answer ≡ false → (kept ≡ true → (v.fate k).kept ≡ true) → (kept ≡ true → meets v (v.fate k).due k answer ≡ false) →
    ((v.fate k).kept ≡ true → kept ≡ false → kept_after v k answer ≡ false) → kept_after v k answer ≡ kept
kept_left v k answer true sweep cancels fewer unmet dropped = kept_stays v k answer sweep (unmet refl) cancels ∙ fewer refl
kept_left v k answer false sweep cancels fewer unmet dropped = by (v.fate k).kept refl
  where
    by : (b : Bool) → (v.fate k).kept ≡ b → kept_after v k answer ≡ false
    by true q = dropped q refl
    by false q =
        (λ i. not (is_sweep v.shut answer) && ((q i && not (meets v (v.fate k).due k answer)) || (cancels i && (is_waiting (v.fate k) && not v.policies.removes))))
        ∙ and_right (not (is_sweep v.shut answer)) false refl

-- what is dropped already is kept no more after the answer
pub dropped_there : (m : TableView) (calls : List Planned) (past : List HistoryEntry) (y : Happening) (answer : Answer) (before : StandsBefore m calls past y) →
    reply_of calls (workers_of m) (after calls (workers_of m) (happenings past)) y ≡ bare answer → (k : ℕ) → ((after calls (workers_of m) (happenings past)).tasks k).kept ≡ true → before.kept k ≡ false →
    kept_after (view_of_state calls (after calls (workers_of m) (happenings past))) k answer ≡ false
dropped_there m calls past y answer before said k kept dropped =
    let s = after calls (workers_of m) (happenings past) in
    ap (λ (r : Reply). kept_after (view_of_state calls s) k r.answer) (sym said)
    ∙ (ap (λ (v : View). kept_after v k (reply calls (workers_of m) v y).answer) (view_there calls (workers_of m) past before.means) ∙ before.dropped k kept dropped)

-- a start is no sweep
pub gets_no_sweep : (shut : Bool) (w : ℕ) (first : Option Seat) → is_sweep shut (start_gets w first) ≡ false
gets_no_sweep shut w None = refl
gets_no_sweep shut w (Some f) = refl

-- a start cancels no task
pub gets_no_cancel : (k w : ℕ) (first : Option Seat) → is_cancel k (start_gets w first) ≡ false
gets_no_cancel k w None = refl
gets_no_cancel k w (Some f) = refl

-- after a start that meets none of the tasks that the table keeps, just these are kept
kept_then : (m : TableView) (calls : List Planned) (past : List HistoryEntry) (w : ℕ) (first : Option Seat) → IsFormed m → FirstIs m first → MeetsNone m first → (before : StandsBefore m calls past (h.Start w)) →
    reply_of calls (workers_of m) (after calls (workers_of m) (happenings past)) (h.Start w) ≡ bare (start_gets w first) →
    (k : ℕ) → kept_after (view_of_state calls (after calls (workers_of m) (happenings past))) k (start_gets w first) ≡ before.kept k
kept_then m calls past w first formed is none before said k =
    kept_left v k (start_gets w first) (before.kept k) (gets_no_sweep s.shut w first) (gets_no_cancel k w first) (before.fewer k) unmet (dropped_there m calls past (h.Start w) (start_gets w first) before said k)
  where
    s : State
    s = after calls (workers_of m) (happenings past)

    v : View
    v = view_of_state calls s

    unmet : before.kept k ≡ true → meets v (v.fate k).due k (start_gets w first) ≡ false
    unmet kept =
        let t : Task = (keeping s before.kept).tasks k in
        let at = before.shows.known k (or_left (waits t || before.kept k) (is_running_in t.phase) (or_right (waits t) (before.kept k) kept)) in
        let same : t ≡ task_in at.1 = ap (keeping s before.kept).tasks (sym at.3) ∙ before.shows.held at.0 at.1 at.2 in
        let is_kept : at.1.kept ≡ true = sym (ap (λ (x : Task). x.kept) same) ∙ kept in
        subst (λ n. meets v (v.fate n).due n (start_gets w first) ≡ false) at.3
        (start_meets m calls s before.kept w first at.0 at.1 before.shows is at.2 ((formed.seated at.0 at.1 at.2).kept is_kept).0 ∙ none at.0 at.1 at.2 is_kept)

-- ---- a start that gets no task

idle_state : (calls : List Planned) (s : State) (w : ℕ) (kept : ℕ → Bool) → ((k : ℕ) → kept_after (view_of_state calls s) k (a.Idle w) ≡ kept k) → keeping s kept ≡ state_after calls s (h.Start w) (bare (a.Idle w))
idle_state calls s w kept then = λ i. record s { tasks = λ k. record (s.tasks k) { kept = sym (then k) i } }

-- where what is known of the state is given
pub idle_by : (m : TableView) (w : ℕ) → IsFormed m → w < workers_of m → slice_index_or m.work w None ≡ None → NoneDue m → MeetsNone m None →
    (calls : List Planned) (past : List HistoryEntry) → Known calls (after calls (workers_of m) (happenings past)) → StandsBefore m calls past (h.Start w) → Takes m calls past (h.Start w) (bare (a.Idle w))
idle_by m w formed there free none unmet calls past known before =
    let s = after calls (workers_of m) (happenings past) in
    let said = start_said m calls s before.kept w None known before.shows there free none in
    takes m m calls past (h.Start w) (bare (a.Idle w)) before.means refl said
    (subst (Shows m) (idle_state calls s w before.kept (kept_then m calls past w None formed none unmet before said)) before.shows)

-- ---- a start that gets a task

-- a worker's slot says the same of its task once another task of its number stands there
pub works_put : (old new : List (Option Seat)) (slot : ℕ) (x y : Seat) → slot_of old slot ≡ Some x → y.number ≡ x.number → Writes old new slot y → (o work : Option ℕ) → WorkIs old o work → WorkIs new o work
works_put old new slot x y there same writes None work works = works
works_put old new slot x y there same writes (Some i) work works = by_eqb slot i
    (λ here. (y, ap (slot_of new) (sym here) ∙ writes.here, works.2 ∙ (ap (λ (z : Seat). Some z.number) (same_Some works.0 x (sym works.1 ∙ (ap (slot_of old) (sym here) ∙ there))) ∙ ap Some (sym same))))
    (λ other. (works.0, writes.other i other ∙ works.1, works.2))

-- the task that it gets, and the others
started_here : (calls : List Planned) (s : State) (w : ℕ) (x : Seat) (kept : ℕ → Bool) → (keeping s kept).tasks x.number ≡ task_in x → kept_after (view_of_state calls s) x.number (a.Start w x.number x.run x.due) ≡ kept x.number →
    task_after calls s (bare (a.Start w x.number x.run x.due)) x.number ≡ task_in (begun x)
started_here calls s w x kept task then =
    let t : Task = s.tasks x.number in
    (λ i. record (cond (eq-eqb x.number x.number refl i) (record t { phase = ph.Running }) t) { cancelled = t.cancelled; kept = then i }) ∙ ap (λ (u : Task). record u { phase = ph.Running }) task

started_other : (calls : List Planned) (s : State) (w n run due k : ℕ) (kept : ℕ → Bool) → kept_after (view_of_state calls s) k (a.Start w n run due) ≡ kept k → (n == k) ≡ false →
    task_after calls s (bare (a.Start w n run due)) k ≡ (keeping s kept).tasks k
started_other calls s w n run due k kept then apart =
    let t : Task = s.tasks k in λ i. record (cond (apart i) (record t { phase = ph.Running }) t) { cancelled = t.cancelled; kept = then i }

-- where what is known of the state is given
pub start_by : (m : TableView) (w slot : ℕ) (x : Seat) → IsFormed m → w < workers_of m → slice_index_or m.work w None ≡ None → IsFirstDue m slot x → MeetsNone m (Some x) →
    (calls : List Planned) (past : List HistoryEntry) → Known calls (after calls (workers_of m) (happenings past)) → StandsBefore m calls past (h.Start w) →
    Takes (started m w slot x) calls past (h.Start w) (bare (a.Start w x.number x.run x.due))
start_by m w slot x formed there free first unmet calls past known before =
    takes m (started m w slot x) calls past (h.Start w) (bare answer) before.means (length-set m.work w (Some slot)) said (record {
      moment = before.shows.moment;
      policies = before.shows.policies;
      shut = before.shows.shut;
      stopped = before.shows.stopped;
      held = holds_put m.slots new slot x (begun x) (keeping s before.kept).tasks tasks formed.apart first.there refl writes before.shows.held other here;
      known = knows_put m.slots new slot x (begun x) (keeping s before.kept).tasks tasks first.there refl writes before.shows.known other;
      work = λ u. subst (λ o. WorkIs new o (cond (w == u) (Some x.number) (s.workers u))) (sym (at_set m.work w u (Some slot) None there)) (works (w == u) u);
    })
  where
    s : State
    s = after calls (workers_of m) (happenings past)

    answer : Answer
    answer = a.Start w x.number x.run x.due

    new : List (Option Seat)
    new = (started m w slot x).slots

    writes : Writes m.slots new slot (begun x)
    writes = set_writes m.slots slot (begun x) (slot_within m.slots slot x first.there)

    said : reply_of calls (workers_of m) s (h.Start w) ≡ bare answer
    said = start_said m calls s before.kept w (Some x) known before.shows there free (slot, first)

    then : (k : ℕ) → kept_after (view_of_state calls s) k answer ≡ before.kept k
    then = kept_then m calls past w (Some x) formed (slot, first) unmet before said

    tasks : ℕ → Task
    tasks k = task_after calls s (bare answer) k

    here : tasks x.number ≡ task_in (begun x)
    here = started_here calls s w x before.kept (before.shows.held slot x first.there) (then x.number)

    other : ChangesOne x.number (keeping s before.kept).tasks tasks
    other k apart = started_other calls s w x.number x.run x.due k before.kept (then k) apart

    works : (b : Bool) (u : ℕ) → WorkIs new (cond b (Some slot) (slice_index_or m.work u None)) (cond b (Some x.number) (s.workers u))
    works true u = (begun x, writes.here, refl)
    works false u = works_put m.slots new slot x (begun x) first.there refl writes (slice_index_or m.work u None) (s.workers u) (before.shows.work u)

-- ---- whatever the calls and their history are

-- a start where no task is due
pub idle_steps : (m : TableView) (w : ℕ) → IsFormed m → w < workers_of m → slice_index_or m.work w None ≡ None → NoneDue m → MeetsNone m None → EventStepsBefore m m (h.Start w) (bare (a.Idle w))
idle_steps m w formed there free none unmet calls past before = idle_by m w formed there free none unmet calls past (known calls (workers_of m) past before.orderly before.means) before

-- a start that gets the first due task
pub start_steps : (m : TableView) (w slot : ℕ) (x : Seat) → IsFormed m → w < workers_of m → slice_index_or m.work w None ≡ None → IsFirstDue m slot x → MeetsNone m (Some x) →
    EventStepsBefore m (started m w slot x) (h.Start w) (bare (a.Start w x.number x.run x.due))
start_steps m w slot x formed there free first unmet calls past before = start_by m w slot x formed there free first unmet calls past (known calls (workers_of m) past before.orderly before.means) before
