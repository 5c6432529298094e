-- The steps of a cancel of a task that has a slot: from outside, and by a call.
use Rattle.std.proofs.Common.{◌≡◌, ◌≢◌, ℕ, suc, zero, ◌+◌, ◌<◌, ◌≤◌, ◌==◌, ◌&&◌, ◌||◌, Bool, true, false, cond, List, [], ◌∷◌, take, Some, refl, sym, ap, ◌∙◌, arith, subst}
use Rattle.std.specs.Prelude.{not}
use Rattle.std.proofs.Math.Nat.{lt_of_not-le}
use Rattle.std.proofs.lemmas.Bool.{eq-eqb, lt-ltb}
use Rattle.sched_time.specs.declared.policies.Policies.{Policies}
use Rattle.queue_code.specs.declared.call.CodeCall.TheVariants as c
use Rattle.executor_model.specs.declared.types.CancelEffect.{CancelEffect}
use Rattle.executor_model.specs.declared.types.CancelEffect.TheVariants as f
use Rattle.executor_model.specs.declared.types.EventError.TheVariants as x
use Rattle.executor_model.specs.declared.types.Happening.TheVariants as h
use Rattle.executor_model.specs.declared.types.Answer.TheVariants as a
use Rattle.executor_model.specs.declared.task.Stage.{Stage}
use Rattle.executor_model.specs.declared.task.Stage.TheVariants as ph
use Rattle.executor_model.specs.declared.task.Task.{Task}
use Rattle.queue_code.specs.Calls.{Planned, Terms, terms_of, task_count, submits_task}
use Rattle.executor_model.specs.View.{is_waiting}
use Rattle.executor_model.specs.Answers.{bare, effect_on}
use Rattle.executor_model.specs.Histories.{HistoryEntry, happenings, is_cancel, had_effect}
use Rattle.executor_model.specs.State.{State, after, view_of_state, seen_task, reply_of, task_after}
use Rattle.executor_model.specs.own.Phases.{is_waiting_phase, waits_with}
use Rattle.executor_model.specs.own.Soundness.{IsSound}
use Rattle.executor_model.proofs.Agree.{after_agrees}
use Rattle.executor_model.proofs.Seen.{seen_waits}
use Rattle.executor_model.proofs.Effects.{of_waiting, of_running, of_cancelled, of_done, of_failed}
use Rattle.executor_model.proofs.Keeping.{kept_stays}
use Rattle.task_table.specs.declared.seat.Seat.{Seat}
use Rattle.task_table.specs.Seats.{task_in, slot_of, is_waiting_in, is_running_in}
use Rattle.task_table.specs.Tables.{TableView, workers_of, Shows, Stands, Takes, EventSteps, CallSteps}
use Rattle.task_table.specs.Ends.{effect_of}
use Rattle.task_table.specs.Changes.{cancelled, cancel_by, cancel_in, at_moment}
use Rattle.task_table.specs.Formed.{IsFormed}
use Rattle.task_table.proofs.Standing.{Known, takes}
use Rattle.task_table.proofs.Knowing.{known}
use Rattle.task_table.proofs.Shown.{takes_call, same_shown, later_shown, put_shown}

-- ---- what a cancel does

-- what the table says that a cancel does is what the equations say
pub effect_is : (terms : Terms) (x : Seat) → x.phase ≢ ph.Vacant → (x.phase ≡ ph.Dropped → x.cancelled ≡ true) → effect_on (seen_task terms (task_in x)) ≡ effect_of x
effect_is terms x used over = by x.phase x.cancelled refl refl
  where
    by : (p : Stage) (b : Bool) → x.phase ≡ p → x.cancelled ≡ b → effect_on (seen_task terms (task_in x)) ≡ cond ((is_waiting_in p || is_running_in p) && not b) f.Yes f.No
    by ph.Vacant b q r = absurd (used q)
    by ph.Waiting true q r = sym (of_cancelled terms (task_in x) used r)
    by ph.Waiting false q r = sym (of_waiting terms (task_in x) q r)
    by ph.Running true q r = sym (of_cancelled terms (task_in x) used r)
    by ph.Running false q r = sym (of_running terms (task_in x) q r)
    by ph.Done b q r = sym (of_done terms (task_in x) q)
    by ph.Failed b q r = sym (of_failed terms (task_in x) q)
    by ph.Dropped b q r = sym (of_cancelled terms (task_in x) used (over q))

-- a cancel with an effect finds the task not cancelled
yes_is_live : (x : Seat) → f.Yes ≡ effect_of x → x.cancelled ≡ false
yes_is_live x = by (is_waiting_in x.phase || is_running_in x.phase) x.cancelled
  where
    by : (live b : Bool) → f.Yes ≡ cond (live && not b) f.Yes f.No → b ≡ false
    by live false q = refl
    by true true q = absurd cc
    by false true q = absurd cc

-- ---- the tasks after a cancel

-- a task that a cancel leaves
pub stays_cancel : (calls : List Planned) (s : State) (k : ℕ) (effect : CancelEffect) (j : ℕ) → is_cancel j (a.Outside k effect) ≡ false → task_after calls s (bare (a.Outside k effect)) j ≡ s.tasks j
stays_cancel calls s k effect j none = λ i. record (s.tasks j) {
  cancelled = (none i || false) || (s.tasks j).cancelled;
  kept = kept_stays (view_of_state calls s) j (a.Outside k effect) refl refl none i;
}

-- a cancel without an effect cancels no task
pub none_cancelled : (k : ℕ) (effect : CancelEffect) (j : ℕ) → had_effect effect ≡ false → is_cancel j (a.Outside k effect) ≡ false
none_cancelled k effect j none = by (k == j) ∙ none
  where
    by : (b : Bool) → (b && had_effect effect) ≡ had_effect effect
    by true = refl
    by false = sym none

and_true : (b : Bool) → (b && true) ≡ b
and_true true = refl
and_true false = refl

-- the task that a cancel with an effect cancels
cancel_here : (calls : List Planned) (s : State) (x : Seat) (removes : Bool) → IsSound s → s.tasks x.number ≡ task_in x → x.cancelled ≡ false → s.policies.removes ≡ removes →
    task_after calls s (bare (a.Outside x.number f.Yes)) x.number ≡ task_in (cancelled removes x)
cancel_here calls s x removes sound task live policy =
    let n = x.number in
    let waits : is_waiting (seen_task (terms_of calls n) (s.tasks n)) ≡ is_waiting_in x.phase =
    seen_waits (terms_of calls n) (s.tasks n) (sound.over n) ∙ (ap waits_with task ∙ (ap (λ b. is_waiting_phase x.phase && not b) live ∙ and_true (is_waiting_phase x.phase)))
    in
    (λ i. record (task i) {
      cancelled = ((eq-eqb n n refl i && true) || false) || (task i).cancelled;
      kept = ((task i).kept && true) || ((eq-eqb n n refl i && true) && (waits i && not (policy i)));
    })
    ∙ (λ i. record (task_in x) { cancelled = true; kept = and_true x.kept i || (is_waiting_in x.phase && not removes) })

-- the table shows the state after a cancel with such an effect
cancel_shown : (m : TableView) (slot : ℕ) (x : Seat) (effect : CancelEffect) (calls : List Planned) (s : State) → IsFormed m → slot_of m.slots slot ≡ Some x → effect ≡ effect_of x → IsSound s → Shows m s →
    Shows (cancel_by effect m slot x) (record s { tasks = λ k. task_after calls s (bare (a.Outside x.number effect)) k })
cancel_shown m slot x f.Yes calls s formed there is sound shows =
    put_shown m slot x (cancelled m.policies.removes x) s (λ k. task_after calls s (bare (a.Outside x.number f.Yes)) k) formed.apart there refl shows
    (λ k apart. stays_cancel calls s x.number f.Yes k (ap (λ b. b && true) apart))
    (cancel_here calls s x m.policies.removes sound (shows.held slot x there) (yes_is_live x is) (ap (λ (p : Policies). p.removes) shows.policies))
cancel_shown m slot x f.No calls s formed there is sound shows =
    same_shown m s (λ k. task_after calls s (bare (a.Outside x.number f.No)) k) shows (λ k. stays_cancel calls s x.number f.No k (none_cancelled x.number f.No k refl))
cancel_shown m slot x f.Absent calls s formed there is sound shows =
    same_shown m s (λ k. task_after calls s (bare (a.Outside x.number f.Absent)) k) shows (λ k. stays_cancel calls s x.number f.Absent k (none_cancelled x.number f.Absent k refl))

-- a cancel leaves the number of workers
cancel_width : (effect : CancelEffect) (m : TableView) (slot : ℕ) (x : Seat) → workers_of (cancel_by effect m slot x) ≡ workers_of m
cancel_width f.Yes m slot x = refl
cancel_width f.No m slot x = refl
cancel_width f.Absent m slot x = refl

-- a cancel leaves the moment
cancel_moment : (effect : CancelEffect) (m : TableView) (slot : ℕ) (x : Seat) → (cancel_by effect m slot x).moment ≡ m.moment
cancel_moment f.Yes m slot x = refl
cancel_moment f.No m slot x = refl
cancel_moment f.Absent m slot x = refl

-- what a cancel does to a task that has a slot, in the state that the table shows
effect_there : (m : TableView) (slot : ℕ) (x : Seat) (calls : List Planned) (s : State) → IsFormed m → slot_of m.slots slot ≡ Some x → Shows m s → effect_on (seen_task (terms_of calls x.number) (s.tasks x.number)) ≡ effect_of x
effect_there m slot x calls s formed there shows =
    let seated = formed.seated slot x there in
    ap (λ t. effect_on (seen_task (terms_of calls x.number) t)) (shows.held slot x there) ∙ effect_is (terms_of calls x.number) x seated.submitted seated.over

-- ---- the steps

-- a cancel by a call
pub call_cancel_steps : (m : TableView) (slot at : ℕ) (x : Seat) → IsFormed m → slot_of m.slots slot ≡ Some x → m.moment ≤ at →
    CallSteps m (at_moment (cancel_in m slot x) at) (at, c.Cancel x.number) (bare (a.Cancel x.number (effect_of x)))
call_cancel_steps m slot at x formed there ahead calls past stands is =
    let s = after calls (workers_of m) (happenings past) in
    let sound = (after_agrees calls (workers_of m) past stands.means).sound in
    let effect = effect_of x in
    let after_it = cancel_shown m slot x effect calls s formed there refl sound stands.shows in
    takes_call m (at_moment (cancel_in m slot x) at) calls past at (c.Cancel x.number) (a.Cancel x.number effect) stands is (cancel_width effect m slot x)
    (ap (λ e. bare (a.Cancel x.number e)) (effect_there m slot x calls s formed there stands.shows))
    (later_shown (cancel_in m slot x) (record s { tasks = λ k. task_after calls s (bare (a.Outside x.number effect)) k }) (1 + s.made) at (subst (λ n. n ≤ at) (sym (cancel_moment effect m slot x)) ahead) after_it)

-- a front of some calls has no more submissions than they have
front_count : (calls : List Planned) (n : ℕ) → task_count (take n calls) ≤ task_count calls
front_count [] zero = omega arith
front_count [] (suc n) = omega arith
front_count (p ∷ calls) zero = omega arith
front_count (p ∷ calls) (suc n) =
    let rest = front_count calls n in
    let pick : (b : Bool) → cond b (1 + task_count (take n calls)) (task_count (take n calls)) ≤ cond b (1 + task_count calls) (task_count calls) = elim [ true ↦ omega (arith, rest) | false ↦ rest ] in
    pick (submits_task p.1)

-- a task that was submitted is one of the calls'
pub is_submitted : (calls : List Planned) (s : State) (k : ℕ) → Known calls s → (s.tasks k).phase ≢ ph.Vacant → k < task_count calls
is_submitted calls s k knows used =
    let low : k < task_count (take s.made calls) = lt_of_not-le (λ above. used (ap (λ (t : Task). t.phase) (knows.fresh k above))) in
    omega (arith, low, front_count calls s.made)

-- the reply to a cancel from outside of a task of the calls
pub outside_said : (calls : List Planned) (workers k : ℕ) (s : State) → k < task_count calls → reply_of calls workers s (h.Cancel k) ≡ bare (a.Outside k (effect_on (seen_task (terms_of calls k) (s.tasks k))))
outside_said calls workers k s low = ap (λ b. bare (cond b (a.Outside k (effect_on (seen_task (terms_of calls k) (s.tasks k)))) (a.Error x.NoTask))) (lt-ltb k (task_count calls) low)

-- a cancel from outside, where what is known of the state is given
cancel_known : (m : TableView) (slot : ℕ) (x : Seat) → IsFormed m → slot_of m.slots slot ≡ Some x →
    (calls : List Planned) (past : List HistoryEntry) → Stands m calls past → Known calls (after calls (workers_of m) (happenings past)) → Takes (cancel_in m slot x) calls past (h.Cancel x.number) (bare (a.Outside x.number (effect_of x)))
cancel_known m slot x formed there calls past stands knows =
    let w = workers_of m in
    let s = after calls w (happenings past) in
    let effect = effect_of x in
    let used : (s.tasks x.number).phase ≢ ph.Vacant = λ q. (formed.seated slot x there).submitted (sym (ap (λ (t : Task). t.phase) (stands.shows.held slot x there)) ∙ q) in
    let said = outside_said calls w x.number s (is_submitted calls s x.number knows used) ∙ ap (λ e. bare (a.Outside x.number e)) (effect_there m slot x calls s formed there stands.shows) in
    takes m (cancel_in m slot x) calls past (h.Cancel x.number) (bare (a.Outside x.number effect)) stands.means (cancel_width effect m slot x) said (cancel_shown m slot x effect calls s formed there refl knows.sound stands.shows)

-- a cancel from outside
pub cancel_steps : (m : TableView) (slot : ℕ) (x : Seat) → IsFormed m → slot_of m.slots slot ≡ Some x → EventSteps m (cancel_in m slot x) (h.Cancel x.number) (bare (a.Outside x.number (effect_of x)))
cancel_steps m slot x formed there calls past stands = cancel_known m slot x formed there calls past stands (known calls (workers_of m) past stands.orderly stands.means)
