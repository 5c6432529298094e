-- What a happening needs after a cancel from outside that has an effect; what needs a sweep, and what a cancel from outside needs.
use Rattle.std.proofs.Common.{◌≡◌, ℕ, ◌==◌, ◌&&◌, ◌||◌, nat_lt, Bool, true, false, cond, List, Option, Some, None, refl, sym, ap, ◌∙◌, subst}
use Rattle.std.specs.Prelude.{slice_get, max, not}
use Rattle.std.specs.Option.{option_map_or}
use Rattle.std.proofs.lemmas.Bool.{false≢true}
use Rattle.std.proofs.lemmas.Option.{none-some}
use Rattle.sched_time.specs.declared.timing.Ending.{Ending}
use Rattle.queue_code.specs.declared.call.CodeCall.{CodeCall}
use Rattle.queue_code.specs.declared.call.CodeCall.TheVariants as c
use Rattle.queue_code.specs.Calls.{Planned, numbers, task_count, terms_of}
use Rattle.executor_model.specs.declared.types.EventError.TheVariants as x
use Rattle.executor_model.specs.declared.types.CancelEffect.{CancelEffect}
use Rattle.executor_model.specs.declared.types.CancelEffect.TheVariants as f
use Rattle.executor_model.specs.declared.types.Outcome.{Outcome}
use Rattle.executor_model.specs.declared.types.Outcome.TheVariants as o
use Rattle.executor_model.specs.declared.types.Happening.{Happening}
use Rattle.executor_model.specs.declared.types.Happening.TheVariants as h
use Rattle.executor_model.specs.declared.types.Answer.TheVariants as a
use Rattle.executor_model.specs.declared.types.Need.{Need}
use Rattle.executor_model.specs.declared.types.Need.TheVariants as n
use Rattle.executor_model.specs.View.{Fate, View, is_running, first_enabled}
use Rattle.executor_model.specs.Answers.{called, setting_sweeps, start_answer, finish_answer, outcome_in, stops_periodic, due_next, effect_on}
use Rattle.executor_model.specs.Histories.{is_submit}
use Rattle.executor_model.specs.State.{State, view_of_state, reply_of}
use Rattle.executor_model.specs.Needs.{need_of, need_of_answer, need_of_cancel, need_of_finish}
use Rattle.executor_laws.specs.Cancels.{is_needed, need_instead, OnlyCallsSweep, OutsideNeedsItsCancel}
use Rattle.executor_laws.proofs.CancelledTasks.{or_none, eqb_turns, cancelled_at, marks, at, reply_where, call_reply}
use Rattle.executor_laws.proofs.CancelAnswers.{first_stays, not_that, effect_stays}

-- a need stays where it does not name task j, and else another one stands for it
abbrev Turns : ℕ → Need → Need → Need → Type 0
Turns j before instead now = (is_needed j before ≡ false → now ≡ before) × (is_needed j before ≡ true → now ≡ instead)

-- nothing, or a need of task k alone
abbrev IsNeedOf : ℕ → Need → Type 0
IsNeedOf k n.Nothing = Unit {0}
IsNeedOf k (n.Submit i) = i ≡ k
IsNeedOf k (n.Start i) = i ≡ k
IsNeedOf k (n.Done i) = i ≡ k
IsNeedOf k (n.Fail i) = i ≡ k
IsNeedOf k (n.Rearm i) = i ≡ k
IsNeedOf k (n.Cancel i) = i ≡ k
IsNeedOf k n.Sweep = ⊥

cancel_is_of : (k : ℕ) (effect : CancelEffect) → IsNeedOf k (need_of_cancel k effect)
cancel_is_of k f.Yes = refl
cancel_is_of k f.No = tt
cancel_is_of k f.Absent = tt

finish_is_of : (k : ℕ) (outcome : Outcome) → IsNeedOf k (need_of_finish k outcome)
finish_is_of k (o.Done value) = refl
finish_is_of k (o.Failed code) = refl
finish_is_of k (o.Again due) = refl
finish_is_of k o.Dropped = tt
finish_is_of k o.Ended = refl

-- a need of task k names it, and no other
named : (i k j : ℕ) (b : Bool) → i ≡ k → (k == j) ≡ b → ((i == j) || false) ≡ b
named i k j b same is = or_none (i == j) ∙ (ap (λ m. m == j) same ∙ is)

-- one of task j that does not name it is nothing
unneeded : (k j : ℕ) (need : Need) → IsNeedOf k need → (k == j) ≡ true → is_needed j need ≡ false → need ≡ n.Nothing
unneeded k j n.Nothing of is q = refl
unneeded k j (n.Submit i) of is q = absurd (false≢true (sym q ∙ named i k j true of is))
unneeded k j (n.Start i) of is q = absurd (false≢true (sym q ∙ named i k j true of is))
unneeded k j (n.Done i) of is q = absurd (false≢true (sym q ∙ named i k j true of is))
unneeded k j (n.Fail i) of is q = absurd (false≢true (sym q ∙ named i k j true of is))
unneeded k j (n.Rearm i) of is q = absurd (false≢true (sym q ∙ named i k j true of is))
unneeded k j (n.Cancel i) of is q = absurd (false≢true (sym q ∙ named i k j true of is))
unneeded k j n.Sweep of is q = absurd of

-- and one of another task does not name it
other_need : (k j : ℕ) (need : Need) → IsNeedOf k need → (k == j) ≡ false → is_needed j need ≡ false
other_need k j n.Nothing of is = refl
other_need k j (n.Submit i) of is = named i k j false of is
other_need k j (n.Start i) of is = named i k j false of is
other_need k j (n.Done i) of is = named i k j false of is
other_need k j (n.Fail i) of is = named i k j false of is
other_need k j (n.Rearm i) of is = named i k j false of is
other_need k j (n.Cancel i) of is = named i k j false of is
other_need k j n.Sweep of is = absurd of

-- a need of another task stays, and one of task j goes
turns_of : (k j : ℕ) (before now : Need) → IsNeedOf k before → ((k == j) ≡ false → now ≡ before) → ((k == j) ≡ true → now ≡ n.Nothing) → Turns j before n.Nothing now
turns_of k j before now of stays goes = by (k == j) refl
  where
    by : (b : Bool) → (k == j) ≡ b → Turns j before n.Nothing now
    by true is = (λ q. goes is ∙ sym (unneeded k j before of is q), λ q. goes is)
    by false is = (λ q. stays is, λ q. absurd (false≢true (sym (other_need k j before of is) ∙ q)))

-- a need that does not name task j stays
stays_so : (j : ℕ) (need instead : Need) → (is_needed j need ≡ true → ⊥) → Turns j need instead need
stays_so j need instead apart = (λ q. refl, λ q. absurd (apart q))

-- a cancelled task is not cancelled again
no_more : (k : ℕ) (fate : Fate) → fate.cancelled ≡ true → need_of_cancel k (effect_on fate) ≡ n.Nothing
no_more k fate is =
    let effect : Bool → CancelEffect = λ bit.
    cond fate.accepted (cond ((fate.accepted && (not (is_running fate) && not (bit || (fate.failed || fate.done)))) || (is_running fate && not bit)) f.Yes f.No) f.Absent
    in
    ap (λ bit. need_of_cancel k (effect bit)) is ∙ by fate.accepted (is_running fate)
  where
    by : (accepted runs : Bool) → need_of_cancel k (cond accepted (cond ((accepted && (not runs && false)) || (runs && false)) f.Yes f.No) f.Absent) ≡ n.Nothing
    by true true = refl
    by true false = refl
    by false true = refl
    by false false = refl

-- task j is cancelled then
is_marked : (calls : List Planned) (s : State) (j k : ℕ) → (k == j) ≡ true → ((cancelled_at calls s j).tasks k).cancelled ≡ true
is_marked calls s j k same = marks j k (s.tasks k).cancelled true (eqb_turns j k ∙ same)

-- a cancel of task k turns so
cancel_turns : (calls : List Planned) (s : State) (j k : ℕ) → Turns j (need_of_cancel k (effect_on ((view_of_state calls s).fate k))) n.Nothing (need_of_cancel k (effect_on ((view_of_state calls (cancelled_at calls s j)).fate k)))
cancel_turns calls s j k =
    let u = view_of_state calls (cancelled_at calls s j) in
    let before = effect_on ((view_of_state calls s).fate k) in
    turns_of k j (need_of_cancel k before) (need_of_cancel k (effect_on (u.fate k))) (cancel_is_of k before) (λ apart. ap (need_of_cancel k) (effect_stays calls s j k apart)) (λ same. no_more k (u.fate k) (is_marked calls s j k same))

call_turns : (calls : List Planned) (s : State) (j moment : ℕ) (call : CodeCall) → (is_submit j (called calls (at (view_of_state calls s) moment) call).answer ≡ true → ⊥) →
    Turns j (need_of_answer s.shut (called calls (at (view_of_state calls s) moment) call).answer) n.Nothing (need_of_answer s.shut (called calls (at (view_of_state calls (cancelled_at calls s j)) moment) call).answer)
call_turns calls s j moment call = by s.shut call
  where
    set : (b : Bool) → Turns j (cond b n.Sweep n.Nothing) n.Nothing (cond b n.Sweep n.Nothing)
    set true = stays_so j n.Sweep n.Nothing (λ q. false≢true q)
    set false = stays_so j n.Nothing n.Nothing (λ q. false≢true q)

    by : (shut : Bool) (call : CodeCall) → (is_submit j (reply_where calls s moment shut call).answer ≡ true → ⊥) →
        Turns j (need_of_answer s.shut (reply_where calls s moment shut call).answer) n.Nothing (need_of_answer s.shut (reply_where calls (cancelled_at calls s j) moment shut call).answer)
    by shut (c.Cancel task) used = cancel_turns calls s j task
    by shut (c.SetPolicy which value) used = set (setting_sweeps s.shut which value)
    by false (c.Submit task timing delay) used = stays_so j (n.Submit task) n.Nothing (λ q. used (sym (or_none (task == j)) ∙ q))
    by true call used = stays_so j _ n.Nothing (λ q. false≢true q)
    by false call used = stays_so j _ n.Nothing (λ q. false≢true q)

-- what a start needs
start_need : (shut : Bool) (v : View) (worker : ℕ) (first : Option ℕ) → need_of_answer shut (start_answer v worker first) ≡ option_map_or (λ k. n.Start k) first n.Nothing
start_need shut v worker None = refl
start_need shut v worker (Some k) = refl

-- a start turns to the first task that is enabled then
start_turns : (calls : List Planned) (s : State) (j worker : ℕ) (first : Option ℕ) → first_enabled (view_of_state calls s) (numbers calls) ≡ first →
    Turns j (need_of_answer s.shut (start_answer (view_of_state calls s) worker first)) (need_instead calls (cancelled_at calls s j) (h.Start worker))
    (need_of_answer s.shut (start_answer (view_of_state calls (cancelled_at calls s j)) worker (first_enabled (view_of_state calls (cancelled_at calls s j)) (numbers calls))))
start_turns calls s j worker first is = by first is
  where
    by : (first : Option ℕ) → first_enabled (view_of_state calls s) (numbers calls) ≡ first → Turns j (need_of_answer s.shut (start_answer (view_of_state calls s) worker first)) (need_instead calls (cancelled_at calls s j) (h.Start worker))
        (need_of_answer s.shut (start_answer (view_of_state calls (cancelled_at calls s j)) worker (first_enabled (view_of_state calls (cancelled_at calls s j)) (numbers calls))))
    by None is = (
      λ q. ap (λ first. need_of_answer s.shut (start_answer (view_of_state calls (cancelled_at calls s j)) worker first)) (first_stays calls s j None (λ r. none-some j r) is),
      λ q. absurd (false≢true q),
    )
    by (Some k) is = (
      λ q. ap (λ first. need_of_answer s.shut (start_answer (view_of_state calls (cancelled_at calls s j)) worker first)) (first_stays calls s j (Some k) (not_that j k (sym (or_none (k == j)) ∙ q)) is),
      λ q. start_need s.shut (view_of_state calls (cancelled_at calls s j)) worker (first_enabled (view_of_state calls (cancelled_at calls s j)) (numbers calls)),
    )

-- the end of a run turns so
finish_turns : (calls : List Planned) (s : State) (j worker k : ℕ) (ending : Ending) → Turns j (need_of_answer s.shut (finish_answer calls (view_of_state calls s) worker ending (Some k))) n.Nothing
    (need_of_answer s.shut (finish_answer calls (view_of_state calls (cancelled_at calls s j)) worker ending (Some k)))
finish_turns calls s j worker k ending =
    let v = view_of_state calls s in
    let need : Bool → Need = λ bit. need_of_finish k (outcome_in bit (stops_periodic s.shut s.stopped s.policies) (terms_of calls k).timing (due_next calls v k) ending) in
    turns_of k j (need (s.tasks k).cancelled) (need ((cancelled_at calls s j).tasks k).cancelled) (finish_is_of k (outcome_in (s.tasks k).cancelled (stops_periodic s.shut s.stopped s.policies) (terms_of calls k).timing (due_next calls v k) ending))
    (λ apart. ap need (marks j k (s.tasks k).cancelled false (eqb_turns j k ∙ apart))) (λ same. ap need (is_marked calls s j k same))

-- what each happening that submits no such task needs turns so
pub needs_turn : (calls : List Planned) (workers : ℕ) (s : State) (j : ℕ) (happening : Happening) → (is_submit j (reply_of calls workers s happening).answer ≡ true → ⊥) →
    Turns j (need_of calls workers s happening) (need_instead calls (cancelled_at calls s j) happening) (need_of calls workers (cancelled_at calls s j) happening)
needs_turn calls workers s j h.Call used = by (slice_get calls s.made) used
  where
    by : (call : Option Planned) → (is_submit j (call_reply calls s call).answer ≡ true → ⊥) → Turns j (need_of_answer s.shut (call_reply calls s call).answer) n.Nothing (need_of_answer s.shut (call_reply calls (cancelled_at calls s j) call).answer)
    by None used = stays_so j n.Nothing n.Nothing (λ q. false≢true q)
    by (Some p) used = call_turns calls s j (max s.moment p.0) p.1 used
needs_turn calls workers s j (h.Clock moment) used = by _ _
  where
    by : (b d : Bool) → Turns j (need_of_answer s.shut (cond b (a.Error x.Backward) (cond d (a.Error x.TooFar) a.Clock))) n.Nothing (need_of_answer s.shut (cond b (a.Error x.Backward) (cond d (a.Error x.TooFar) a.Clock)))
    by true d = stays_so j n.Nothing n.Nothing (λ q. false≢true q)
    by false true = stays_so j n.Nothing n.Nothing (λ q. false≢true q)
    by false false = stays_so j n.Nothing n.Nothing (λ q. false≢true q)
needs_turn calls workers s j (h.Start v) used = by (nat_lt v workers) (s.workers v)
  where
    by : (b : Bool) (work : Option ℕ) → Turns j (need_of_answer s.shut (cond b (option_map_or (λ _. a.Error x.Busy) work (start_answer (view_of_state calls s) v (first_enabled (view_of_state calls s) (numbers calls)))) (a.Error x.NoWorker)))
        (need_instead calls (cancelled_at calls s j) (h.Start v))
        (need_of_answer s.shut (cond b (option_map_or (λ _. a.Error x.Busy) work (start_answer (view_of_state calls (cancelled_at calls s j)) v (first_enabled (view_of_state calls (cancelled_at calls s j)) (numbers calls)))) (a.Error x.NoWorker)))
    by true None = start_turns calls s j v (first_enabled (view_of_state calls s) (numbers calls)) refl
    by true (Some k) = stays_so j n.Nothing (need_instead calls (cancelled_at calls s j) (h.Start v)) (λ q. false≢true q)
    by false work = stays_so j n.Nothing (need_instead calls (cancelled_at calls s j) (h.Start v)) (λ q. false≢true q)
needs_turn calls workers s j (h.Finish v ending) used = by (nat_lt v workers) (s.workers v)
  where
    by : (b : Bool) (work : Option ℕ) → Turns j (need_of_answer s.shut (cond b (finish_answer calls (view_of_state calls s) v ending work) (a.Error x.NoWorker))) n.Nothing
        (need_of_answer s.shut (cond b (finish_answer calls (view_of_state calls (cancelled_at calls s j)) v ending work) (a.Error x.NoWorker)))
    by true None = stays_so j n.Nothing n.Nothing (λ q. false≢true q)
    by true (Some k) = finish_turns calls s j v k ending
    by false work = stays_so j n.Nothing n.Nothing (λ q. false≢true q)
needs_turn calls workers s j (h.Cancel k) used = by (nat_lt k (task_count calls))
  where
    by : (b : Bool) → Turns j (need_of_answer s.shut (cond b (a.Outside k (effect_on ((view_of_state calls s).fate k))) (a.Error x.NoTask))) n.Nothing
        (need_of_answer s.shut (cond b (a.Outside k (effect_on ((view_of_state calls (cancelled_at calls s j)).fate k))) (a.Error x.NoTask)))
    by true = cancel_turns calls s j k
    by false = stays_so j n.Nothing n.Nothing (λ q. false≢true q)
needs_turn calls workers s j h.Purge used = stays_so j n.Nothing n.Nothing (λ q. false≢true q)

-- the law that only calls sweep
pub only_calls_sweep : OnlyCallsSweep
only_calls_sweep calls workers s h.Call q sweep = false≢true (sym q)
only_calls_sweep calls workers s (h.Clock moment) q sweep = by _ _ sweep
  where
    by : (b d : Bool) → need_of_answer s.shut (cond b (a.Error x.Backward) (cond d (a.Error x.TooFar) a.Clock)) ≡ n.Sweep → ⊥
    by true d r = cc
    by false true r = cc
    by false false r = cc
only_calls_sweep calls workers s (h.Start v) q sweep = by (nat_lt v workers) (s.workers v) (first_enabled (view_of_state calls s) (numbers calls)) sweep
  where
    by : (b : Bool) (work first : Option ℕ) → need_of_answer s.shut (cond b (option_map_or (λ _. a.Error x.Busy) work (start_answer (view_of_state calls s) v first)) (a.Error x.NoWorker)) ≡ n.Sweep → ⊥
    by true None None r = cc
    by true None (Some k) r = cc
    by true (Some k) first r = cc
    by false work first r = cc
only_calls_sweep calls workers s (h.Finish v ending) q sweep = by (nat_lt v workers) (s.workers v) sweep
  where
    of : (k : ℕ) (outcome : Outcome) → need_of_finish k outcome ≡ n.Sweep → ⊥
    of k outcome r = subst (IsNeedOf k) r (finish_is_of k outcome)

    by : (b : Bool) (work : Option ℕ) → need_of_answer s.shut (cond b (finish_answer calls (view_of_state calls s) v ending work) (a.Error x.NoWorker)) ≡ n.Sweep → ⊥
    by true None r = cc
    by true (Some k) r = of k (outcome_in (s.tasks k).cancelled (stops_periodic s.shut s.stopped s.policies) (terms_of calls k).timing (due_next calls (view_of_state calls s) k) ending) r
    by false work r = cc
only_calls_sweep calls workers s (h.Cancel k) q sweep = by (nat_lt k (task_count calls)) sweep
  where
    by : (b : Bool) → need_of_answer s.shut (cond b (a.Outside k (effect_on ((view_of_state calls s).fate k))) (a.Error x.NoTask)) ≡ n.Sweep → ⊥
    by true r = subst (IsNeedOf k) r (cancel_is_of k (effect_on ((view_of_state calls s).fate k)))
    by false r = cc
only_calls_sweep calls workers s h.Purge q sweep = cc

-- the law that a cancel from outside needs the cancel of its task, or nothing
pub outside_needs_its_cancel : OutsideNeedsItsCancel
outside_needs_its_cancel calls workers s k = by (nat_lt k (task_count calls)) (effect_on ((view_of_state calls s).fate k))
  where
    by : (b : Bool) (effect : CancelEffect) → (cond b (a.Outside k effect) (a.Error x.NoTask) ≡ a.Outside k f.Yes → need_of_answer s.shut (cond b (a.Outside k effect) (a.Error x.NoTask)) ≡ n.Cancel k)
        × ((cond b (a.Outside k effect) (a.Error x.NoTask) ≡ a.Outside k f.Yes → ⊥) → need_of_answer s.shut (cond b (a.Outside k effect) (a.Error x.NoTask)) ≡ n.Nothing)
    by true f.Yes = (λ q. refl, λ other. absurd (other refl))
    by true f.No = (λ q. absurd cc, λ other. refl)
    by true f.Absent = (λ q. absurd cc, λ other. refl)
    by false effect = (λ q. absurd cc, λ other. refl)
