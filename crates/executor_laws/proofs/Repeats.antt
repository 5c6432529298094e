-- What holds of the runs of a task that runs more than once.
use Rattle.std.proofs.Common.{◌≡◌, ℕ, ◌+◌, ◌*◌, ◌-◌, ◌<◌, ◌≤◌, ◌==◌, ◌&&◌, nat_lt, nat_le, Bool, true, false, cond, inl, inr, List, [], ◌∷◌, ◌++◌, Option, Some, None, refl, sym, ap, ◌∙◌, arith, subst}
use Rattle.std.specs.Prelude.{slice_get, max, not, ◌||◌}
use Rattle.std.specs.Option.{option_map_or}
use Rattle.std.specs.List.{list_any}
use Rattle.std.proofs.lemmas.Bool.{false≢true, eqb-true, eq-eqb, and_parts, or_parts, or_left}
use Rattle.std.proofs.lemmas.Bool.Decides.{nat_tests}
use Rattle.sched_time.specs.declared.timing.Timing.{Timing}
use Rattle.sched_time.specs.declared.timing.Timing.TheVariants as t
use Rattle.sched_time.specs.declared.timing.Ending.{Ending}
use Rattle.sched_time.specs.declared.timing.Ending.TheVariants as e
use Rattle.queue_code.specs.declared.call.CodeCall.{CodeCall}
use Rattle.executor_model.specs.declared.types.EventError.TheVariants as x
use Rattle.executor_model.specs.declared.types.Happening.{Happening}
use Rattle.executor_model.specs.declared.types.Happening.TheVariants as h
use Rattle.executor_model.specs.declared.types.CancelEffect.{CancelEffect}
use Rattle.executor_model.specs.declared.types.CancelEffect.TheVariants as f
use Rattle.executor_model.specs.declared.types.Outcome.TheVariants as o
use Rattle.executor_model.specs.declared.types.Answer.{Answer}
use Rattle.executor_model.specs.declared.types.Answer.TheVariants as a
use Rattle.queue_code.specs.Calls.{Planned, Terms, numbers, task_count, terms_of, due_at}
use Rattle.executor_model.specs.View.{Fate, View, is_running, is_over, is_waiting, first_enabled}
use Rattle.executor_model.specs.Answers.{bare, reply, called, start_answer, finish_answer, outcome_of, due_next, stops_periodic, effect_on, outcome_in}
use Rattle.executor_model.specs.Histories.{HistoryEntry, view_of_history, happenings, now_of, is_cancel, cancels, had_effect, is_start, is_finish, is_finish_with, is_failed, starts, finishes, last_finish, was_cancelled, was_failed, due_of}
use Rattle.executor_laws.specs.Laws.{Starts, TiesGoBySubmission, RateRunsAreDue, FixedRunsAreDue, AgainIsDue, RunsDoNotOverlap, NothingStartsAfterAFailure, NothingStartsAfterACancel, CancelsHaveOneEffect}
use Rattle.executor_model.proofs.Replies.{IsAnswerTo, answers_call}
use Rattle.executor_model.proofs.Tables.{submission}
use Rattle.executor_model.proofs.Sound.{first_is_enabled}
use Rattle.executor_laws.proofs.Replies.{IsOfCall, call_answer, SaysEffect, call_effect}
use Rattle.executor_laws.proofs.StartLaws.{start_is_first, starts_are_in_order, means_front}
use Rattle.executor_laws.proofs.Waiting.{finish_found}

-- what a start says of its task: it waited, its run has the number of the starts before it, and it was due
pub record Started (calls : List Planned) (past : List HistoryEntry) (k n d : ℕ) : Type 0 where
  pub waiting : is_waiting ((view_of_history calls past).fate k) ≡ true
  pub run : n ≡ starts k past
  pub due : d ≡ due_of calls past k

-- a start in a history says that of its task
pub started_so : (calls : List Planned) (workers : ℕ) (past : List HistoryEntry) (e : HistoryEntry) (w k n d : ℕ) → Starts calls workers past e w k n d → Started calls past k n d
started_so calls workers past e w k n d s =
    let said = start_is_first calls workers past e w k n d s in
    let v = view_of_history calls past in
    record {
      waiting = (and_parts (is_waiting (v.fate k)) (nat_le (v.fate k).due v.moment) (first_is_enabled v (numbers calls) k said.first)).0;
      run = said.run;
      due = said.due;
    }

-- a task that waits started as often as it finished
pub waits_even : (calls : List Planned) (past : List HistoryEntry) (k : ℕ) → is_waiting ((view_of_history calls past).fate k) ≡ true → starts k past ≡ finishes k past
waits_even calls past k q =
    let f = (view_of_history calls past).fate k in
    let idle = (and_parts (not (is_running f)) (not (is_over f)) (and_parts f.accepted (not (is_running f) && not (is_over f)) q).1).0 in
    let pick : (b : Bool) → (starts k past == finishes k past) ≡ b → not (not b) ≡ true → starts k past ≡ finishes k past =
    elim [ true ↦ λ is q. eqb-true (starts k past) (finishes k past) is | false ↦ λ is q. absurd (false≢true q) ]
    in
    pick (starts k past == finishes k past) refl idle

-- a task that waits was not cancelled
pub waiting_live : (fate : Fate) → is_waiting fate ≡ true → fate.cancelled ≡ false
waiting_live fate q =
    let on = (and_parts (not (is_running fate)) (not (is_over fate)) (and_parts fate.accepted (not (is_running fate) && not (is_over fate)) q).1).1 in
    let pick : (a b : Bool) → not (a || b) ≡ true → a ≡ false = elim [ true ↦ λ b q. absurd (false≢true q) | false ↦ λ b q. refl ] in
    pick fate.cancelled (fate.failed || fate.done) on

-- it was not cancelled
pub waits_live : (calls : List Planned) (past : List HistoryEntry) (k : ℕ) → is_waiting ((view_of_history calls past).fate k) ≡ true → was_cancelled k past ≡ false
waits_live calls past k q = waiting_live ((view_of_history calls past).fate k) q

-- and it is not over
waits_on : (calls : List Planned) (past : List HistoryEntry) (k : ℕ) → is_waiting ((view_of_history calls past).fate k) ≡ true → was_failed k past ≡ false
waits_on calls past k q =
    let f = (view_of_history calls past).fate k in
    let on = (and_parts (not (is_running f)) (not (is_over f)) (and_parts f.accepted (not (is_running f) && not (is_over f)) q).1).1 in
    let pick : (a b d : Bool) → not (a || (b || d)) ≡ true → b ≡ false = elim [ true ↦ λ b d q. absurd (false≢true q) | false ↦ elim [ true ↦ λ d q. absurd (false≢true q) | false ↦ λ d q. refl ] ] in
    pick f.cancelled f.failed f.done on

-- ---- ties

-- the law on tasks that are due at the same moment
pub ties_go_by_submission : TiesGoBySubmission
ties_go_by_submission calls workers past e w k n d j s below enabled same =
    let due = (started_so calls workers past e w k n d s).due in
    elim (starts_are_in_order calls workers past e w k n d j s below enabled) [
      | inl is ↦ omega (arith, is)
      | inr before ↦ tie (due_of calls past k) (due_of calls past j) (sym due ∙ sym same) before
    ]
  where
    tie : (x y : ℕ) → x ≡ y → (nat_lt x y || ((x == y) && nat_lt k j)) ≡ true → k ≤ j
    tie x y q p = grind (arith, nat_tests)

-- ---- due moments

-- the due moment of a task by its terms
pub due_by : (calls : List Planned) (past : List HistoryEntry) (k : ℕ) (terms : Terms) → terms_of calls k ≡ terms → due_of calls past k ≡ due_at terms (starts k past) (last_finish calls k past)
due_by calls past k terms e = ap (λ x. due_at x (starts k past) (last_finish calls k past)) e

-- the law on the due moments of a task at a fixed rate
pub rate_runs_are_due : RateRunsAreDue
rate_runs_are_due calls workers past e w k n d place moment initial period o is s =
    let start = started_so calls workers past e w k n d s in
    let terms = (submission calls 0 0 place moment k (t.Rate period) initial o is).terms in
    start.due ∙ (due_by calls past k _ terms ∙ ap (λ i. moment + initial + i * period) (sym start.run))

-- where a task finished there is a last finish
some_finish : (calls : List Planned) (k : ℕ) (past : List HistoryEntry) → 0 < finishes k past → (finish_answer : ℕ) × (last_finish calls k past ≡ Some finish_answer)
some_finish calls k [] l = absurd (omega arith)
some_finish calls k (e ∷ past) l =
    let pick : (b : Bool) → 0 < cond b (1 + finishes k past) (finishes k past) →
    (finish_answer : ℕ) × (cond b (Some (now_of calls (happenings past))) (last_finish calls k past) ≡ Some finish_answer) =
    elim [ true ↦ λ l. (now_of calls (happenings past), refl) | false ↦ λ l. some_finish calls k past l ]
    in
    pick (is_finish k e.answer) l

no_finish : (calls : List Planned) (k : ℕ) (past : List HistoryEntry) → finishes k past ≡ 0 → last_finish calls k past ≡ None
no_finish calls k [] q = refl
no_finish calls k (e ∷ past) q =
    let pick : (b : Bool) → cond b (1 + finishes k past) (finishes k past) ≡ 0 → cond b (Some (now_of calls (happenings past))) (last_finish calls k past) ≡ None =
    elim [ true ↦ λ q. absurd (omega (arith, q)) | false ↦ λ q. no_finish calls k past q ]
    in
    pick (is_finish k e.answer) q

-- the law on the due moments of a task with a fixed delay
pub fixed_runs_are_due : FixedRunsAreDue
fixed_runs_are_due calls workers past e w k n d place moment initial delay o is s =
    let start = started_so calls workers past e w k n d s in
    let terms = (submission calls 0 0 place moment k (t.Fixed delay) initial o is).terms in
    let even = waits_even calls past k start.waiting in
    let due = start.due ∙ due_by calls past k _ terms in (
      λ none. due ∙ ap (λ last. due_at (record { timing = t.Fixed delay; first = moment + initial }) (starts k past) last) (no_finish calls k past (omega (arith, none, even, start.run))),
      λ some. let found = some_finish calls k past (omega (arith, some, even, start.run)) in
          (found.0, finish_found calls k past found.0 found.1, due ∙ ap (λ last. due_at (record { timing = t.Fixed delay; first = moment + initial }) (starts k past) last) found.1),
    )

-- ---- a finish that makes a task wait again tells the due moment of its next run, and comes where periodic tasks go on

again_landed : (stops : Bool) (timing : Timing) (due d : ℕ) (ending : Ending) → outcome_of stops timing due ending ≡ o.Again d → (d ≡ due) × (stops ≡ false)
again_landed stops timing due d (e.Fault code) q = absurd cc
again_landed stops t.Once due d (e.Value value) q = absurd cc
again_landed true (t.Rate period) due d (e.Value value) q = absurd cc
again_landed false (t.Rate period) due d (e.Value value) q = (cc, refl)
again_landed true (t.Fixed delay) due d (e.Value value) q = absurd cc
again_landed false (t.Fixed delay) due d (e.Value value) q = (cc, refl)

pub again_says : (calls : List Planned) (workers : ℕ) (v : View) (y : Happening) (w k n d : ℕ) → (reply calls workers v y).answer ≡ a.Finish w k n (o.Again d) →
    (d ≡ due_next calls v k) × (stops_periodic v.shut v.stopped v.policies ≡ false)
again_says calls workers v h.Call w k n d q =
    let pick : (q : Option Planned) → (option_map_or (λ p. called calls (record v { moment = max v.moment p.0 }) p.1) q (bare a.Clock)).answer ≡ a.Finish w k n (o.Again d) → ⊥ =
    elim [ None ↦ λ q. cc | Some p ↦ λ q. subst IsOfCall q (call_answer calls (record v { moment = max v.moment p.0 }) p.1) ]
    in
    absurd (pick (slice_get calls v.made) q)
again_says calls workers v (h.Clock t) w k n d q =
    let other : (b d' : Bool) → cond b (a.Error x.Backward) (cond d' (a.Error x.TooFar) a.Clock) ≡ a.Finish w k n (o.Again d) → ⊥ = elim [ true ↦ λ d' q. cc | false ↦ elim [ true ↦ λ q. cc | false ↦ λ q. cc ] ] in
    absurd (other _ _ q)
again_says calls workers v (h.Start u) w k n d q =
    let start : (p : Option ℕ) → start_answer v u p ≡ a.Finish w k n (o.Again d) → ⊥ = elim [ None ↦ λ q. cc | Some j ↦ λ q. cc ] in
    let other : (b : Bool) (p : Option ℕ) → cond b (option_map_or (λ _. a.Error x.Busy) p (start_answer v u (first_enabled v (numbers calls)))) (a.Error x.NoWorker) ≡ a.Finish w k n (o.Again d) → ⊥ =
    elim [ true ↦ elim [ None ↦ λ q. start (first_enabled v (numbers calls)) q | Some j ↦ λ q. cc ] | false ↦ λ p q. cc ]
    in
    absurd (other _ _ q)
again_says calls workers v (h.Finish u ending) w k n d q =
    let stops = stops_periodic v.shut v.stopped v.policies in
    let from : (j : ℕ) → a.Finish u j ((v.fate j).starts - 1) (outcome_in (v.fate j).cancelled stops (terms_of calls j).timing (due_next calls v j) ending) ≡ a.Finish w k n (o.Again d) → (d ≡ due_next calls v k) × (stops ≡ false) = λ j q.
    let same : j ≡ k = cc in
    let outcome : outcome_in (v.fate j).cancelled stops (terms_of calls j).timing (due_next calls v j) ending ≡ o.Again d = cc in
    let live : (b : Bool) → outcome_in b stops (terms_of calls j).timing (due_next calls v j) ending ≡ o.Again d → (d ≡ due_next calls v j) × (stops ≡ false) =
    elim [ true ↦ λ q. absurd cc | false ↦ λ q. again_landed stops (terms_of calls j).timing (due_next calls v j) d ending q ]
    in
    let landed = live (v.fate j).cancelled outcome in (landed.0 ∙ ap (due_next calls v) same, landed.1)
    in
    let pick : (b : Bool) (work : Option ℕ) → cond b (finish_answer calls v u ending work) (a.Error x.NoWorker) ≡ a.Finish w k n (o.Again d) → (d ≡ due_next calls v k) × (stops ≡ false) =
    elim [ true ↦ elim [ None ↦ λ q. absurd cc | Some j ↦ λ q. from j q ] | false ↦ λ work q. absurd cc ]
    in
    pick _ _ q
again_says calls workers v (h.Cancel j) w k n d q =
    let other : (b : Bool) → cond b (a.Outside j (effect_on (v.fate j))) (a.Error x.NoTask) ≡ a.Finish w k n (o.Again d) → ⊥ = elim [ true ↦ λ q. cc | false ↦ λ q. cc ] in
    absurd (other _ q)
again_says calls workers v h.Purge w k n d q = absurd cc

-- the law that the due moment of a finish is that of the next run
pub again_is_due : AgainIsDue
again_is_due calls workers past e w k n d m is =
    let v = view_of_history calls past in
    let start : is_start k e.answer ≡ false = ap (is_start k) is in
    let finish : is_finish k e.answer ≡ true = ap (is_finish k) is ∙ eq-eqb k k refl in
    (again_says calls workers v e.happening w k n d (sym m.2 ∙ is)).0
    ∙ (λ i. due_at (terms_of calls k) (cond (sym start i) (1 + starts k past) (starts k past)) (cond (sym finish i) (Some v.moment) (last_finish calls k past)))

-- ---- overlaps

-- a longer history has as many starts of a task at least
pub starts_grow : (k : ℕ) (between past : List HistoryEntry) → starts k past ≤ starts k (between ++ past)
starts_grow k [] past = omega arith
starts_grow k (e ∷ between) past =
    let rest = starts_grow k between past in
    let pick : (b : Bool) → starts k past ≤ cond b (1 + starts k (between ++ past)) (starts k (between ++ past)) = elim [ true ↦ omega (arith, rest) | false ↦ rest ] in
    pick (is_start k e.answer)

finishes_stay : (k : ℕ) (between past : List HistoryEntry) → list_any (λ e. is_finish k e.answer) between ≡ false → finishes k (between ++ past) ≡ finishes k past
finishes_stay k [] past q = refl
finishes_stay k (e ∷ between) past q =
    let parts = or_parts (is_finish k e.answer) (list_any (λ f. is_finish k f.answer) between) q in
    ap (λ b. cond b (1 + finishes k (between ++ past)) (finishes k (between ++ past))) parts.0 ∙ finishes_stay k between past parts.1

-- the law that the finish of a task stands between two starts of it
pub runs_do_not_overlap : RunsDoNotOverlap
runs_do_not_overlap calls workers past between first second v w k m n d f s is =
    let any = list_any (λ e. is_finish k e.answer) between in
    let second_waits = waits_even calls (between ++ first ∷ past) k (started_so calls workers (between ++ first ∷ past) second w k n d s).waiting in
    let means = means_front calls workers (second ∷ between) (first ∷ past) (means_front calls workers s.later (second ∷ (between ++ first ∷ past)) s.means) in
    let first_waits = waits_even calls past k (started_so calls workers past first v k m f (record { later = []; means = means; start = is })).waiting in
    let one : starts k (first ∷ past) ≡ 1 + starts k past = ap (λ b. cond b (1 + starts k past) (starts k past)) (ap (is_start k) is ∙ eq-eqb k k refl) in
    let none : finishes k (first ∷ past) ≡ finishes k past = ap (λ b. cond b (1 + finishes k past) (finishes k past)) (ap (is_finish k) is) in
    let pick : (b : Bool) → any ≡ b → b ≡ true =
    elim [
      | true ↦ λ q. refl
      | false ↦ λ q. absurd (omega (arith, second_waits, first_waits, one, none, starts_grow k between (first ∷ past), finishes_stay k between (first ∷ past) q))
    ]
    in
    pick any refl

-- ---- failures

failed_stays : (k : ℕ) (between past : List HistoryEntry) → was_failed k past ≡ true → was_failed k (between ++ past) ≡ true
failed_stays k [] past q = q
failed_stays k (e ∷ between) past q =
    let rest = failed_stays k between past q in
    let pick : (b : Bool) → (b || was_failed k (between ++ past)) ≡ true = elim [ true ↦ refl | false ↦ rest ] in
    pick (is_finish_with is_failed k e.answer)

-- the law that a task that failed does not start again
pub nothing_starts_after_a_failure : NothingStartsAfterAFailure
nothing_starts_after_a_failure calls workers past between finish start v w k m n d code s is =
    let waits = waits_on calls (between ++ finish ∷ past) k (started_so calls workers (between ++ finish ∷ past) start w k n d s).waiting in
    let failed : was_failed k (finish ∷ past) ≡ true = ap (λ b. b || was_failed k past) (ap (is_finish_with is_failed k) is ∙ ap (λ b. b && true) (eq-eqb k k refl)) in
    false≢true (sym waits ∙ failed_stays k between (finish ∷ past) failed)

-- ---- cancels

-- a cancelled task stays cancelled, whatever happens after that
pub cancelled_stays : (k : ℕ) (between past : List HistoryEntry) → was_cancelled k past ≡ true → was_cancelled k (between ++ past) ≡ true
cancelled_stays k [] past q = q
cancelled_stays k (e ∷ between) past q =
    let rest = cancelled_stays k between past q in
    let pick : (b : Bool) → (b || was_cancelled k (between ++ past)) ≡ true = elim [ true ↦ refl | false ↦ rest ] in
    pick (cancels k e.answer e.ends)

-- the law that a cancelled task does not start again
pub nothing_starts_after_a_cancel : NothingStartsAfterACancel
nothing_starts_after_a_cancel calls workers past between cancel start w k n d s is =
    let live = waits_live calls (between ++ cancel ∷ past) k (started_so calls workers (between ++ cancel ∷ past) start w k n d s).waiting in
    false≢true (sym live ∙ cancelled_stays k between (cancel ∷ past) (or_left _ (was_cancelled k past) is))

-- what a cancel does to a task of which this is known
abbrev effect_with : Bool → Bool → Bool → Bool → CancelEffect
effect_with accepted running cancelled over = cond accepted (cond ((accepted && (not running && not (cancelled || over))) || (running && not cancelled)) f.Yes f.No) f.Absent

yes_live : (accepted running cancelled over : Bool) → had_effect (effect_with accepted running cancelled over) ≡ true → cancelled ≡ false
yes_live accepted running false over q = refl
yes_live true true true over q = absurd (false≢true q)
yes_live true false true over q = absurd (false≢true q)
yes_live false true true over q = absurd (false≢true q)
yes_live false false true over q = absurd (false≢true q)

-- a cancel with an effect finds the task not cancelled
effect_live : (v : View) (j k : ℕ) → ((j == k) && had_effect (effect_on (v.fate j))) ≡ true → (v.fate k).cancelled ≡ false
effect_live v j k q =
    let fate = v.fate j in
    let parts = and_parts (j == k) (had_effect (effect_on fate)) q in
    ap (λ i. (v.fate i).cancelled) (sym (eqb-true j k parts.0)) ∙ yes_live fate.accepted (is_running fate) fate.cancelled (fate.failed || fate.done) parts.1

call_cancels : (calls : List Planned) (v : View) (call : CodeCall) (k : ℕ) → is_cancel k (called calls v call).answer ≡ true → (v.fate k).cancelled ≡ false
call_cancels calls v call k = by (called calls v call).answer (answers_call calls v call) (call_effect calls v call)
  where
    by : (x : Answer) → IsAnswerTo x call → SaysEffect v x → is_cancel k x ≡ true → (v.fate k).cancelled ≡ false
    by (a.Cancel j effect) is says q = effect_live v j k (sym (ap (λ e. (j == k) && had_effect e) says) ∙ q)
    by (a.Outside j effect) is says q = absurd is
    by x is says q = absurd (false≢true q)

-- a cancel that has an effect finds the task not cancelled
pub cancel_says : (calls : List Planned) (workers : ℕ) (v : View) (y : Happening) (k : ℕ) → is_cancel k (reply calls workers v y).answer ≡ true → (v.fate k).cancelled ≡ false
cancel_says calls workers v h.Call k =
    let pick : (p : Option Planned) → is_cancel k (option_map_or (λ p. called calls (record v { moment = max v.moment p.0 }) p.1) p (bare a.Clock)).answer ≡ true → (v.fate k).cancelled ≡ false =
    elim [ None ↦ λ q. absurd (false≢true q) | Some p ↦ call_cancels calls (record v { moment = max v.moment p.0 }) p.1 k ]
    in
    pick (slice_get calls v.made)
cancel_says calls workers v (h.Clock t) k =
    let other : (b d : Bool) → is_cancel k (cond b (a.Error x.Backward) (cond d (a.Error x.TooFar) a.Clock)) ≡ true → (v.fate k).cancelled ≡ false =
    elim [ true ↦ λ d q. absurd (false≢true q) | false ↦ elim [ true ↦ λ q. absurd (false≢true q) | false ↦ λ q. absurd (false≢true q) ] ]
    in
    other _ _
cancel_says calls workers v (h.Start u) k =
    let start : (p : Option ℕ) → is_cancel k (start_answer v u p) ≡ true → (v.fate k).cancelled ≡ false = elim [ None ↦ λ q. absurd (false≢true q) | Some j ↦ λ q. absurd (false≢true q) ] in
    let other : (b : Bool) (p : Option ℕ) → is_cancel k (cond b (option_map_or (λ _. a.Error x.Busy) p (start_answer v u (first_enabled v (numbers calls)))) (a.Error x.NoWorker)) ≡ true → (v.fate k).cancelled ≡ false =
    elim [ true ↦ elim [ None ↦ start (first_enabled v (numbers calls)) | Some j ↦ λ q. absurd (false≢true q) ] | false ↦ λ p q. absurd (false≢true q) ]
    in
    other _ _
cancel_says calls workers v (h.Finish u ending) k =
    let other : (b : Bool) (work : Option ℕ) → is_cancel k (cond b (finish_answer calls v u ending work) (a.Error x.NoWorker)) ≡ true → (v.fate k).cancelled ≡ false =
    elim [ true ↦ elim [ None ↦ λ q. absurd (false≢true q) | Some j ↦ λ q. absurd (false≢true q) ] | false ↦ λ work q. absurd (false≢true q) ]
    in
    other _ _
cancel_says calls workers v (h.Cancel j) k =
    let pick : (b : Bool) → is_cancel k (cond b (a.Outside j (effect_on (v.fate j))) (a.Error x.NoTask)) ≡ true → (v.fate k).cancelled ≡ false =
    elim [ true ↦ effect_live v j k | false ↦ λ q. absurd (false≢true q) ]
    in
    pick (nat_lt j (task_count calls))
cancel_says calls workers v h.Purge k = λ q. absurd (false≢true q)

-- the law that one cancel of a task at most has an effect
pub cancels_have_one_effect : CancelsHaveOneEffect
cancels_have_one_effect calls workers past between first second k m one other =
    let before = between ++ first ∷ past in
    let live = cancel_says calls workers (view_of_history calls before) second.happening k (sym (ap (is_cancel k) m.2) ∙ other) in
    false≢true (sym live ∙ cancelled_stays k between (first ∷ past) (or_left _ (was_cancelled k past) (or_left _ _ one)))
