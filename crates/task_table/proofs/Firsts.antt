-- Which task the next start gets, and which kept tasks it meets: the table says the same as the state that it shows.
use Rattle.std.proofs.Common.{◌≡◌, ℕ, ◌+◌, ◌<◌, ◌≤◌, ◌&&◌, ◌||◌, nat_le, zero, suc, not, Bool, true, false, cond, inl, inr, List, [], ◌∷◌, take, Option, Some, None, refl, sym, ap, ◌∙◌, arith, subst}
use Rattle.std.specs.Prelude.{slice_index_or}
use Rattle.std.proofs.lemmas.Bool.{false≢true, and_parts, and_from, not-true, le-leb, leb-true, leb-false, lt-ltb}
use Rattle.std.proofs.lemmas.Option.{same_Some}
use Rattle.delay_queue.specs.Queues.{comes_before}
use Rattle.executor_model.specs.declared.types.Happening.TheVariants as h
use Rattle.executor_model.specs.declared.types.Answer.{Answer}
use Rattle.executor_model.specs.declared.types.Answer.TheVariants as a
use Rattle.executor_model.specs.declared.task.Stage.{Stage}
use Rattle.executor_model.specs.declared.task.Stage.TheVariants as ph
use Rattle.executor_model.specs.declared.task.Task.{Task}
use Rattle.queue_code.specs.Calls.{Planned, terms_of, task_count, submits_task, numbers}
use Rattle.executor_model.specs.View.{View, is_waiting, is_enabled, first_enabled}
use Rattle.executor_model.specs.Answers.{bare}
use Rattle.executor_model.specs.Histories.{meets}
use Rattle.executor_model.specs.State.{State, view_of_state, seen_phase, starts_of, due_seen, reply_of}
use Rattle.executor_model.specs.own.Soundness.{IsSound}
use Rattle.executor_model.proofs.Sound.{is_seen_waiting, enabled_in}
use Rattle.executor_model.proofs.First.{first_is, first_is_none, in_range}
use Rattle.task_table.specs.declared.seat.Seat.{Seat}
use Rattle.task_table.specs.Seats.{task_in, slot_of, is_waiting_in, is_running_in, waits, is_alive}
use Rattle.task_table.specs.Tables.{TableView, workers_of, WorkIs, Shows, keeping}
use Rattle.task_table.specs.Firsts.{IsFirstDue, FirstIs, is_met}
use Rattle.task_table.specs.Formed.{IsFormed}
use Rattle.task_table.proofs.Standing.{Known}
use Rattle.task_table.proofs.Clocks.{start_reply}

-- ---- a task that waits

phase_waits : (p : Stage) → is_waiting_in p ≡ true → p ≡ ph.Waiting
phase_waits ph.Waiting q = refl
phase_waits ph.Vacant q = absurd (false≢true q)
phase_waits ph.Running q = absurd (false≢true q)
phase_waits ph.Done q = absurd (false≢true q)
phase_waits ph.Failed q = absurd (false≢true q)
phase_waits ph.Dropped q = absurd (false≢true q)

-- a task that waits is in that phase, and not cancelled
pub waits_is : (t : Task) → waits t ≡ true → (t.phase ≡ ph.Waiting) × (t.cancelled ≡ false)
waits_is t q = let parts = and_parts (is_waiting_in t.phase) (not t.cancelled) q in (phase_waits t.phase parts.0, not-true t.cancelled parts.1)

-- a kept task does not wait
pub kept_waits_not : (m : TableView) (i : ℕ) (x : Seat) → IsFormed m → slot_of m.slots i ≡ Some x → x.kept ≡ true → waits (task_in x) ≡ true → ⊥
kept_waits_not m i x formed there kept q = false≢true (sym (waits_is (task_in x) q).1 ∙ ((formed.seated i x there).kept kept).1)

-- a front of the calls submits no more tasks than all of them
take_within : (calls : List Planned) (n : ℕ) → task_count (take n calls) ≤ task_count calls
take_within calls zero = omega arith
take_within [] (suc n) = omega arith
take_within (p ∷ calls) (suc n) =
    let rest = take_within calls n in
    let pick : (b : Bool) → cond b (1 + task_count (take n calls)) (task_count (take n calls)) ≤ cond b (1 + task_count calls) (task_count calls) = elim [ true ↦ omega (arith, rest) | false ↦ rest ] in
    pick (submits_task p.1)

-- a task that waits has one of the numbers of the calls
waits_within : (calls : List Planned) (s : State) (k : ℕ) → Known calls s → (s.tasks k).phase ≡ ph.Waiting → k < task_count calls
waits_within calls s k known waits = by (nat_le (task_count (take s.made calls)) k) refl
  where
    clash : ph.Vacant ≡ ph.Waiting → ⊥
    clash q = cc

    by : (b : Bool) → nat_le (task_count (take s.made calls)) k ≡ b → k < task_count calls
    by true q = absurd (clash (sym (ap (λ (t : Task). t.phase) (known.fresh k (leb-true (task_count (take s.made calls)) k q))) ∙ waits))
    by false q = omega (arith, leb-false (task_count (take s.made calls)) k q, take_within calls s.made)

-- ---- the first enabled task

-- the due moment that is seen of a task in a slot, which is in the phase of one that waits
pub seen_due : (m : TableView) (calls : List Planned) (s : State) (kept : ℕ → Bool) (i : ℕ) (x : Seat) → Shows m (keeping s kept) → slot_of m.slots i ≡ Some x → x.phase ≡ ph.Waiting → ((view_of_state calls s).fate x.number).due ≡ x.due
seen_due m calls s kept i x shows there phase = ap (λ (t : Task). due_seen (terms_of calls x.number) t.phase t.due) (shows.held i x there) ∙ ap (λ p. due_seen (terms_of calls x.number) p x.due) phase

-- what an enabled task has: a slot in which it waits, due at the moment that is seen of it, which is reached
record HasSlot (m : TableView) (v : View) (k : ℕ) : Type 0 where
  slot : ℕ
  seat : Seat
  there : slot_of m.slots slot ≡ Some seat
  number : seat.number ≡ k
  waiting : waits (task_in seat) ≡ true
  due : seat.due ≤ m.moment
  seen : (v.fate k).due ≡ seat.due

has_slot : (m : TableView) (calls : List Planned) (s : State) (kept : ℕ → Bool) (k : ℕ) → Shows m (keeping s kept) → IsSound s → is_enabled (view_of_state calls s) k ≡ true → HasSlot m (view_of_state calls s) k
has_slot m calls s kept k shows sound e =
    let is = enabled_in calls s k sound e in
    let alive : is_alive ((keeping s kept).tasks k) ≡ true = λ i. ((is_waiting_in (is.0 i) && not (is.1 i)) || kept k) || is_running_in (is.0 i) in
    let at = shows.known k alive in
    let task : (keeping s kept).tasks k ≡ task_in at.1 = ap (keeping s kept).tasks (sym at.3) ∙ shows.held at.0 at.1 at.2 in
    let same : (s.tasks k).due ≡ at.1.due = ap (λ (t : Task). t.due) task in
    record {
      slot = at.0;
      seat = at.1;
      there = at.2;
      number = at.3;
      waiting = sym (ap waits task) ∙ λ i. is_waiting_in (is.0 i) && not (is.1 i);
      due = omega (arith, same, is.2, shows.moment);
      seen = ap (λ p. due_seen (terms_of calls k) p (s.tasks k).due) is.0 ∙ same;
    }

-- the first due task of the table is the first enabled one of the state that it shows
pub first_there : (m : TableView) (calls : List Planned) (s : State) (kept : ℕ → Bool) (f : Seat) → Known calls s → Shows m (keeping s kept) → FirstIs m (Some f) → first_enabled (view_of_state calls s) (numbers calls) ≡ Some f.number
first_there m calls s kept f known shows first =
    let v = view_of_state calls s in
    let n = f.number in
    let is : IsFirstDue m first.0 f = first.1 in
    let waiting = waits_is (task_in f) is.waiting in
    let task : (keeping s kept).tasks n ≡ task_in f = shows.held first.0 f is.there in
    let phase : (s.tasks n).phase ≡ ph.Waiting = ap (λ (t : Task). t.phase) task ∙ waiting.0 in
    let live : (s.tasks n).cancelled ≡ false = ap (λ (t : Task). t.cancelled) task ∙ waiting.1 in
    let seen : (v.fate n).due ≡ f.due = seen_due m calls s kept first.0 f shows is.there waiting.0 in
    let waits_here : is_waiting (v.fate n) ≡ true =
    (λ i. is_waiting (seen_phase (terms_of calls n) (phase i) (s.tasks n).run (s.tasks n).due (live i) (s.tasks n).kept)) ∙ is_seen_waiting (terms_of calls n) (s.tasks n).run (s.tasks n).due (s.tasks n).kept
    in
    let enabled = and_from (is_waiting (v.fate n)) (nat_le (v.fate n).due v.moment) waits_here (le-leb (v.fate n).due v.moment (omega (arith, seen, is.due, shows.moment))) in
    first_is v (numbers calls) n (in_range 0 (task_count calls) n (omega arith) (omega (arith, waits_within calls s n known phase))) enabled
    (λ j member e.
    let other = has_slot m calls s kept j shows known.sound e in
    elim (is.least other.slot other.seat other.there other.waiting other.due) [
      | inl here ↦ inl (sym other.number ∙ ap (λ (y : Seat). y.number) (same_Some other.seat f (sym other.there ∙ (ap (slot_of m.slots) here ∙ is.there))))
      | inr less ↦ inr ((λ i. comes_before (seen i) n (other.seen i) (sym other.number i)) ∙ less)
    ])

-- where no task of the table is due, none of the state is enabled
pub none_there : (m : TableView) (calls : List Planned) (s : State) (kept : ℕ → Bool) → Known calls s → Shows m (keeping s kept) → FirstIs m None → first_enabled (view_of_state calls s) (numbers calls) ≡ None
none_there m calls s kept known shows none =
    first_is_none (view_of_state calls s) (numbers calls)
    (λ j member e. let other = has_slot m calls s kept j shows known.sound e in none other.slot other.seat other.there other.waiting other.due)

-- ---- a start by a worker without work

-- what it is answered, by the task that it gets
abbrev pub start_gets : ℕ → Option Seat → Answer
start_gets w None = a.Idle w
start_gets w (Some f) = a.Start w f.number f.run f.due

-- a worker without work has none in the state either
pub free_there : (m : TableView) (s : State) (w : ℕ) → Shows m s → slice_index_or m.work w None ≡ None → s.workers w ≡ None
free_there m s w shows free = subst (λ o. WorkIs m.slots o (s.workers w)) free (shows.work w)

-- the reply to it
pub start_said : (m : TableView) (calls : List Planned) (s : State) (kept : ℕ → Bool) (w : ℕ) (first : Option Seat) → Known calls s → Shows m (keeping s kept) → w < workers_of m → slice_index_or m.work w None ≡ None → FirstIs m first →
    reply_of calls (workers_of m) s (h.Start w) ≡ bare (start_gets w first)
start_said m calls s kept w None known shows there free first =
    start_reply calls (workers_of m) w s true None None (lt-ltb w (workers_of m) there) (free_there m (keeping s kept) w shows free) (none_there m calls s kept known shows first)
start_said m calls s kept w (Some f) known shows there free first =
    let n = f.number in
    let is : IsFirstDue m first.0 f = first.1 in
    let waiting = waits_is (task_in f) is.waiting in
    let starts : ((view_of_state calls s).fate n).starts ≡ f.run = ap (λ (t : Task). starts_of t.phase t.run) (shows.held first.0 f is.there) ∙ ap (λ p. starts_of p f.run) waiting.0 in
    let due = seen_due m calls s kept first.0 f shows is.there waiting.0 in
    start_reply calls (workers_of m) w s true None (Some n) (lt-ltb w (workers_of m) there) (free_there m (keeping s kept) w shows free) (first_there m calls s kept f known shows first)
    ∙ (λ i. bare (a.Start w n (starts i) (due i)))

-- it meets the same kept tasks
pub start_meets : (m : TableView) (calls : List Planned) (s : State) (kept : ℕ → Bool) (w : ℕ) (first : Option Seat) (i : ℕ) (x : Seat) → Shows m (keeping s kept) → FirstIs m first → slot_of m.slots i ≡ Some x → x.phase ≡ ph.Waiting →
    meets (view_of_state calls s) ((view_of_state calls s).fate x.number).due x.number (start_gets w first) ≡ is_met m.moment first x
start_meets m calls s kept w None i x shows first there phase = let seen = seen_due m calls s kept i x shows there phase in λ i. nat_le (seen i) (shows.moment i)
start_meets m calls s kept w (Some f) i x shows first there phase =
    let seen = seen_due m calls s kept i x shows there phase in
    let is : IsFirstDue m first.0 f = first.1 in
    let before = seen_due m calls s kept first.0 f shows is.there (waits_is (task_in f) is.waiting).0 in
    λ i. nat_le (seen i) (shows.moment i) && comes_before (seen i) x.number (before i) f.number
