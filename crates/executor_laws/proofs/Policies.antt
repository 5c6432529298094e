-- What holds of policies, the shutdown, sweeps and ended tasks.
use Rattle.std.proofs.Common.{zero, suc, ◌≡◌, ℕ, ◌+◌, ◌<◌, ◌≤◌, ◌==◌, ◌&&◌, ◌||◌, nat_lt, Bool, true, false, cond, inl, inr, List, [], ◌∷◌, ◌++◌, Option, Some, None, refl, sym, ap, ◌∙◌, arith, subst}
use Rattle.std.specs.Prelude.{slice_get, max}
use Rattle.std.specs.Option.{option_map_or}
use Rattle.std.specs.List.{list_any, filter, range_with_len}
use Rattle.std.proofs.lemmas.Bool.{false≢true, false_from_ne_true, eqb-true, eqb-false, and_parts, or_cases, or_parts, or_left, or_right}
use Rattle.std.proofs.lemmas.Bool.Decides.{nat_tests}
use Rattle.std.proofs.lemmas.List.{append-nil}
use Rattle.sched_time.specs.declared.policies.Which.{Which}
use Rattle.sched_time.specs.declared.policies.Which.TheVariants as p
use Rattle.queue_code.specs.declared.call.CodeCall.{CodeCall}
use Rattle.queue_code.specs.declared.call.CodeCall.TheVariants as c
use Rattle.sched_time.specs.declared.policies.Policies.{Policies}
use Rattle.executor_model.specs.declared.types.EventError.TheVariants as x
use Rattle.executor_model.specs.declared.types.Happening.{Happening}
use Rattle.executor_model.specs.declared.types.Happening.TheVariants as h
use Rattle.executor_model.specs.declared.types.Answer.{Answer}
use Rattle.executor_model.specs.declared.types.Answer.TheVariants as a
use Rattle.queue_code.specs.Calls.{Planned, numbers, task_count, terms_of}
use Rattle.executor_model.specs.View.{View, first_enabled}
use Rattle.executor_model.specs.Answers.{Reply, bare, reply, called, setting_sweeps, moment_after, is_swept, swept, start_answer, finish_answer, outcome_in, stops_periodic, due_next, effect_on}
use Rattle.sched_time.specs.Policies.{set_policy}
use Rattle.executor_model.specs.Histories.{HistoryEntry, IsHistoryOf, view_of_history, happenings, made, now_of, answer, is_cancel, is_end, is_finish_with, is_ended, is_shutdown, is_stop, is_sweep, cancels, was_cancelled, policies_after, policies_of}
use Rattle.executor_laws.specs.Policies.{NothingStartsAfterAnEnd, TasksAreCancelledOnce, value_of, is_same, sets, PoliciesAreTheLastSet, shuts_down, stops_at_once, WasMade, ShutIsAShutdown, AscendsFrom, SweptAreThose, SweepsEndThose}
use Rattle.executor_model.proofs.First.{range_below}
use Rattle.executor_model.proofs.Replies.{IsAnswerTo, by_answer}
use Rattle.executor_model.proofs.Swept.{ends_are}
use Rattle.executor_laws.proofs.Replies.{IsOfCall, call_answer, end_parts, ends_say}
use Rattle.executor_laws.proofs.Waiting.{made_more}
use Rattle.executor_laws.proofs.Repeats.{waiting_live, nothing_starts_after_a_cancel, cancelled_stays, cancel_says}

-- ---- ends

-- the law that an ended task does not start again
pub nothing_starts_after_an_end : NothingStartsAfterAnEnd
nothing_starts_after_an_end calls workers past between end start w k n d s is = nothing_starts_after_a_cancel calls workers past between end start w k n d s (or_right (is_cancel k end.answer) _ is)

-- what an answer that ends a run and its task says
abbrev EndsLive : View → ℕ → Answer → Type 0
EndsLive v k answer = is_finish_with is_ended k answer ≡ true → (v.fate k).cancelled ≡ false

call_ended : (v : View) (k : ℕ) (answer : Answer) → IsOfCall answer → EndsLive v k answer
call_ended v k (a.Finish worker task run outcome) of = absurd of
call_ended v k _ of = λ q. absurd (false≢true q)

-- a run that ends its task finds it not cancelled
ended_says : (calls : List Planned) (workers : ℕ) (v : View) (y : Happening) (k : ℕ) → EndsLive v k (reply calls workers v y).answer
ended_says calls workers v h.Call k =
    let pick : (o : Option Planned) → EndsLive v k (option_map_or (λ p. called calls (record v { moment = max v.moment p.0 }) p.1) o (bare a.Clock)).answer =
    elim [ None ↦ λ q. absurd (false≢true q) | Some p ↦ call_ended v k _ (call_answer calls (record v { moment = max v.moment p.0 }) p.1) ]
    in
    pick (slice_get calls v.made)
ended_says calls workers v (h.Clock t) k =
    let other : (b d : Bool) → EndsLive v k (cond b (a.Error x.Backward) (cond d (a.Error x.TooFar) a.Clock)) =
    elim [ true ↦ λ d q. absurd (false≢true q) | false ↦ elim [ true ↦ λ q. absurd (false≢true q) | false ↦ λ q. absurd (false≢true q) ] ]
    in
    other _ _
ended_says calls workers v (h.Start u) k =
    let start : (o : Option ℕ) → EndsLive v k (start_answer v u o) = elim [ None ↦ λ q. absurd (false≢true q) | Some j ↦ λ q. absurd (false≢true q) ] in
    let other : (b : Bool) (o : Option ℕ) → EndsLive v k (cond b (option_map_or (λ _. a.Error x.Busy) o (start_answer v u (first_enabled v (numbers calls)))) (a.Error x.NoWorker)) =
    elim [ true ↦ elim [ None ↦ start (first_enabled v (numbers calls)) | Some j ↦ λ q. absurd (false≢true q) ] | false ↦ λ o q. absurd (false≢true q) ]
    in
    other _ _
ended_says calls workers v (h.Finish u ending) k =
    let stops = stops_periodic v.shut v.stopped v.policies in
    let from : (j : ℕ) → EndsLive v k (finish_answer calls v u ending (Some j)) = λ j q.
    let live : (b : Bool) → is_ended (outcome_in b stops (terms_of calls j).timing (due_next calls v j) ending) ≡ true → b ≡ false = elim [ true ↦ λ q. absurd (false≢true q) | false ↦ λ q. refl ] in
    let parts = and_parts (j == k) (is_ended (outcome_in (v.fate j).cancelled stops (terms_of calls j).timing (due_next calls v j) ending)) q in
    ap (λ i. (v.fate i).cancelled) (sym (eqb-true j k parts.0)) ∙ live (v.fate j).cancelled parts.1
    in
    let pick : (b : Bool) (work : Option ℕ) → EndsLive v k (cond b (finish_answer calls v u ending work) (a.Error x.NoWorker)) =
    elim [ true ↦ elim [ None ↦ λ q. absurd (false≢true q) | Some j ↦ from j ] | false ↦ λ work q. absurd (false≢true q) ]
    in
    pick _ _
ended_says calls workers v (h.Cancel j) k =
    let other : (b : Bool) → EndsLive v k (cond b (a.Outside j (effect_on (v.fate j))) (a.Error x.NoTask)) = elim [ true ↦ λ q. absurd (false≢true q) | false ↦ λ q. absurd (false≢true q) ] in
    other _
ended_says calls workers v h.Purge k = λ q. absurd (false≢true q)

-- a reply that cancels a task finds it not cancelled
cancels_say : (calls : List Planned) (workers : ℕ) (v : View) (y : Happening) (k : ℕ) → cancels k (reply calls workers v y).answer (reply calls workers v y).ends ≡ true → (v.fate k).cancelled ≡ false
cancels_say calls workers v y k q =
    let r = reply calls workers v y in
    elim (or_cases (is_cancel k r.answer) (is_end k r.ends || is_finish_with is_ended k r.answer) q) [
      | inl cancel ↦ cancel_says calls workers v y k cancel
      | inr other ↦ elim (or_cases (is_end k r.ends) (is_finish_with is_ended k r.answer) other) [
        | inl end ↦ waiting_live (v.fate k) (ends_say calls workers v y k end).waited
        | inr last ↦ ended_says calls workers v y k last
      ]
    ]

-- the law that a task is cancelled once
pub tasks_are_cancelled_once : TasksAreCancelledOnce
tasks_are_cancelled_once calls workers past between first second k m one other =
    let before = between ++ first ∷ past in
    let live = cancels_say calls workers (view_of_history calls before) second.happening k (sym (λ i. cancels k (m.2 i) (m.3 i)) ∙ other) in
    false≢true (sym live ∙ cancelled_stays k between (first ∷ past) (or_left _ (was_cancelled k past) one))

-- ---- the policies

value_set : (which : Which) (value : Bool) (policies : Policies) → value_of which (set_policy which value policies) ≡ value
value_set p.Continue value policies = refl
value_set p.Execute value policies = refl
value_set p.Remove value policies = refl

value_unset : (which other : Which) (value : Bool) (policies : Policies) → is_same which other ≡ false → value_of which (set_policy other value policies) ≡ value_of which policies
value_unset p.Continue p.Continue value policies q = absurd (false≢true (sym q))
value_unset p.Continue p.Execute value policies q = refl
value_unset p.Continue p.Remove value policies q = refl
value_unset p.Execute p.Continue value policies q = refl
value_unset p.Execute p.Execute value policies q = absurd (false≢true (sym q))
value_unset p.Execute p.Remove value policies q = refl
value_unset p.Remove p.Continue value policies q = refl
value_unset p.Remove p.Execute value policies q = refl
value_unset p.Remove p.Remove value policies q = absurd (false≢true (sym q))

answer_unset : (which : Which) (answer : Answer) (policies : Policies) → sets which answer ≡ false → value_of which (policies_after answer policies) ≡ value_of which policies
answer_unset which (a.Policy other value) policies q = value_unset which other value policies q
answer_unset which _ policies q = refl

-- entries that do not set a policy leave its value
none_sets : (which : Which) (later before : List HistoryEntry) → list_any (λ f. sets which f.answer) later ≡ false → value_of which (policies_of (later ++ before)) ≡ value_of which (policies_of before)
none_sets which [] before q = refl
none_sets which (e ∷ later) before q =
    let parts = or_parts (sets which e.answer) (list_any (λ f. sets which f.answer) later) q in
    answer_unset which e.answer (policies_of (later ++ before)) parts.0 ∙ none_sets which later before parts.1

-- the law that a policy has the value that it was set to last
pub policies_are_the_last_set : PoliciesAreTheLastSet
policies_are_the_last_set past which = (
  λ value s. ap (λ l. value_of which (policies_of l)) s.parts
      ∙ (none_sets which s.later (s.e ∷ s.before) s.none ∙ (ap (λ r. value_of which (policies_after r (policies_of s.before))) s.set ∙ value_set which value (policies_of s.before))),
  λ q. ap (λ l. value_of which (policies_of l)) (sym (append-nil past)) ∙ none_sets which past [] q,
)

-- ---- the shutdowns

-- an answer is one to no call
abbrev is_of_event : Answer → Bool
is_of_event a.Clock = true
is_of_event (a.Start worker task run due) = true
is_of_event (a.Idle worker) = true
is_of_event (a.Finish worker task run outcome) = true
is_of_event (a.Outside task effect) = true
is_of_event a.Purge = true
is_of_event (a.Error error) = true
is_of_event _ = false

-- answers tell exactly the calls that pass a test
record Tells (tells : Answer → Bool) (test : CodeCall → Bool) : Type 0 where
  call : (calls : List Planned) (v : View) (call : CodeCall) → tells (called calls v call).answer ≡ test call
  silent : (x : Answer) → is_of_event x ≡ true → tells x ≡ false

shutdown_tells : Tells is_shutdown shuts_down
shutdown_tells = record { call = λ calls v call. by_answer (λ x. is_shutdown x ≡ shuts_down call) calls v call (by call); silent = silent }
  where
    by : (call : CodeCall) (x : Answer) → IsAnswerTo x call → is_shutdown x ≡ shuts_down call
    by c.Shutdown a.Shutdown is = refl
    by c.Shutdown a.ShutdownAgain is = refl
    by c.Shutdown x is = absurd is
    by c.ShutdownNow a.ShutdownNow is = refl
    by c.ShutdownNow x is = absurd is
    by call a.Shutdown is = absurd is
    by call a.ShutdownAgain is = absurd is
    by call a.ShutdownNow is = absurd is
    by call x is = refl

    silent : (x : Answer) → is_of_event x ≡ true → is_shutdown x ≡ false
    silent a.Shutdown q = sym q
    silent a.ShutdownAgain q = sym q
    silent a.ShutdownNow q = sym q
    silent x q = refl

stop_tells : Tells is_stop stops_at_once
stop_tells = record { call = λ calls v call. by_answer (λ x. is_stop x ≡ stops_at_once call) calls v call (by call); silent = silent }
  where
    by : (call : CodeCall) (x : Answer) → IsAnswerTo x call → is_stop x ≡ stops_at_once call
    by c.ShutdownNow a.ShutdownNow is = refl
    by c.ShutdownNow x is = absurd is
    by call a.ShutdownNow is = absurd is
    by call x is = refl

    silent : (x : Answer) → is_of_event x ≡ true → is_stop x ≡ false
    silent a.ShutdownNow q = sym q
    silent x q = refl

-- what an answer that tells such a call says of what happened
record Told (test : CodeCall → Bool) (calls : List Planned) (v : View) (y : Happening) : Type 0 where
  is : y ≡ h.Call
  moment : ℕ
  call : CodeCall
  there : slice_get calls v.made ≡ Some (moment, call)
  passes : test call ≡ true

-- no event is told
event_silent : (tells : Answer → Bool) (test : CodeCall → Bool) → Tells tells test → (x : Answer) → is_of_event x ≡ true → tells x ≡ true → ⊥
event_silent tells test of x event q = false≢true (sym (of.silent x event) ∙ q)

tell_says : (tells : Answer → Bool) (test : CodeCall → Bool) → Tells tells test → (calls : List Planned) (workers : ℕ) (v : View) (y : Happening) → tells (reply calls workers v y).answer ≡ true → Told test calls v y
tell_says tells test of calls workers v h.Call q =
    let pick : (o : Option Planned) → slice_get calls v.made ≡ o → tells (option_map_or (λ p. called calls (record v { moment = max v.moment p.0 }) p.1) o (bare a.Clock)).answer ≡ true → Told test calls v h.Call =
    elim [
      | None ↦ λ there q. absurd (event_silent tells test of a.Clock refl q)
      | Some p ↦ λ there q. record { is = refl; moment = p.0; call = p.1; there = there; passes = sym (of.call calls (record v { moment = max v.moment p.0 }) p.1) ∙ q }
    ]
    in
    pick (slice_get calls v.made) refl q
tell_says tells test of calls workers v (h.Clock t) q =
    let other : (b d : Bool) → tells (cond b (a.Error x.Backward) (cond d (a.Error x.TooFar) a.Clock)) ≡ true → ⊥ =
    elim [ true ↦ λ d q. event_silent tells test of _ refl q | false ↦ elim [ true ↦ λ q. event_silent tells test of _ refl q | false ↦ λ q. event_silent tells test of _ refl q ] ]
    in
    absurd (other _ _ q)
tell_says tells test of calls workers v (h.Start u) q =
    let start : (o : Option ℕ) → tells (start_answer v u o) ≡ true → ⊥ = elim [ None ↦ λ q. event_silent tells test of _ refl q | Some j ↦ λ q. event_silent tells test of _ refl q ] in
    let other : (b : Bool) (o : Option ℕ) → tells (cond b (option_map_or (λ _. a.Error x.Busy) o (start_answer v u (first_enabled v (numbers calls)))) (a.Error x.NoWorker)) ≡ true → ⊥ =
    elim [ true ↦ elim [ None ↦ λ q. start (first_enabled v (numbers calls)) q | Some j ↦ λ q. event_silent tells test of _ refl q ] | false ↦ λ o q. event_silent tells test of _ refl q ]
    in
    absurd (other _ _ q)
tell_says tells test of calls workers v (h.Finish u ending) q =
    let other : (b : Bool) (o : Option ℕ) → tells (cond b (finish_answer calls v u ending o) (a.Error x.NoWorker)) ≡ true → ⊥ =
    elim [ true ↦ elim [ None ↦ λ q. event_silent tells test of _ refl q | Some j ↦ λ q. event_silent tells test of _ refl q ] | false ↦ λ o q. event_silent tells test of _ refl q ]
    in
    absurd (other _ _ q)
tell_says tells test of calls workers v (h.Cancel j) q =
    let other : (b : Bool) → tells (cond b (a.Outside j (effect_on (v.fate j))) (a.Error x.NoTask)) ≡ true → ⊥ = elim [ true ↦ λ q. event_silent tells test of _ refl q | false ↦ λ q. event_silent tells test of _ refl q ] in
    absurd (other _ q)
tell_says tells test of calls workers v h.Purge q = absurd (event_silent tells test of a.Purge refl q)

-- where such a call was told, one was made
told_was_made : (tells : Answer → Bool) (test : CodeCall → Bool) → Tells tells test → (calls : List Planned) (workers : ℕ) (past : List HistoryEntry) → IsHistoryOf calls workers past → list_any (λ e. tells e.answer) past ≡ true → WasMade test calls past
told_was_made tells test of calls workers [] m q = absurd (false≢true q)
told_was_made tells test of calls workers (e ∷ past) m q = elim (or_cases (tells e.answer) (list_any (λ f. tells f.answer) past) q) [
  | inl here ↦
      let s = tell_says tells test of calls workers (view_of_history calls past) e.happening (sym (ap tells m.2) ∙ here) in
      record { place = made (happenings past); moment = s.moment; call = s.call; there = s.there; passes = s.passes; before = subst (λ y. made (happenings past) < made (y ∷ happenings past)) (sym s.is) (omega arith) }
  | inr there ↦
      let s = told_was_made tells test of calls workers past m.0 there in
      record { place = s.place; moment = s.moment; call = s.call; there = s.there; passes = s.passes; before = omega (arith, s.before, made_more e.happening (happenings past)) }
]

-- the answer to the next call, where that passes the test
told_here : (tells : Answer → Bool) (test : CodeCall → Bool) → Tells tells test → (calls : List Planned) (workers : ℕ) (past : List HistoryEntry) (moment : ℕ) (call : CodeCall) → slice_get calls (made (happenings past)) ≡ Some (moment, call) → test call ≡ true →
    tells (answer calls workers past h.Call).answer ≡ true
told_here tells test of calls workers past moment call there passes =
    let v = view_of_history calls past in
    ap (λ o. tells (option_map_or (λ p. called calls (record v { moment = max v.moment p.0 }) p.1) o (bare a.Clock)).answer) there ∙ (of.call calls (record v { moment = max v.moment moment }) call ∙ passes)

-- where such a call was made, it was told
made_was_told : (tells : Answer → Bool) (test : CodeCall → Bool) → Tells tells test → (calls : List Planned) (workers : ℕ) (past : List HistoryEntry) → IsHistoryOf calls workers past → WasMade test calls past → list_any (λ e. tells e.answer) past ≡ true
made_was_told tells test of calls workers [] m w = absurd (omega (arith, w.before))
made_was_told tells test of calls workers (e ∷ past) m w =
    let told : List HistoryEntry → Bool = λ l. list_any (λ f. tells f.answer) l in
    let behind : w.place < made (happenings past) → told (e ∷ past) ≡ true = λ low.
    or_right (tells e.answer) (told past) (made_was_told tells test of calls workers past m.0 (record { place = w.place; moment = w.moment; call = w.call; there = w.there; passes = w.passes; before = low }))
    in
    let called_now : e.happening ≡ h.Call → w.place ≡ made (happenings past) → told (e ∷ past) ≡ true = λ is same.
    or_left (tells e.answer) (told past) (ap tells (m.2 ∙ ap (λ y. (answer calls workers past y).answer) is) ∙ told_here tells test of calls workers past w.moment w.call (ap (slice_get calls) (sym same) ∙ w.there) w.passes)
    in
    let go : (y : Happening) → e.happening ≡ y → w.place < made (y ∷ happenings past) → told (e ∷ past) ≡ true =
    elim [
      | h.Call ↦ λ is low.
          let pick : (b : Bool) → (w.place == made (happenings past)) ≡ b → told (e ∷ past) ≡ true =
          elim [ true ↦ λ q. called_now is (eqb-true w.place (made (happenings past)) q) | false ↦ λ q. behind (let apart = eqb-false w.place (made (happenings past)) q in omega (arith, low, apart)) ]
          in
          pick (w.place == made (happenings past)) refl
      | h.Clock t ↦ λ is low. behind low
      | h.Start w ↦ λ is low. behind low
      | h.Finish w ending ↦ λ is low. behind low
      | h.Cancel k ↦ λ is low. behind low
      | h.Purge ↦ λ is low. behind low
    ]
    in
    go e.happening refl w.before

-- the law that the executor is shut where a shutdown was made, and stopped where one at once was made
pub shut_is_a_shutdown : ShutIsAShutdown
shut_is_a_shutdown calls workers past m = (
  (told_was_made is_shutdown shuts_down shutdown_tells calls workers past m, made_was_told is_shutdown shuts_down shutdown_tells calls workers past m),
  (told_was_made is_stop stops_at_once stop_tells calls workers past m, made_was_told is_stop stops_at_once stop_tells calls workers past m),
)

-- ---- sweeps

-- the numbers of a range that pass a test ascend
pub ascends : (test : ℕ → Bool) (low first n : ℕ) → low ≤ first → AscendsFrom low (filter test (range_with_len first n))
ascends test low first zero l = tt
ascends test low first (suc n) l =
    let pick : (b : Bool) → AscendsFrom low (cond b (first ∷ filter test (range_with_len (first + 1) n)) (filter test (range_with_len (first + 1) n))) =
    elim [ true ↦ (omega (arith, l), ascends test (first + 1) (first + 1) n (omega arith)) | false ↦ ascends test low (first + 1) n (omega (arith, l)) ]
    in
    pick (test first)

-- which the numbers of a range are that pass a test
pub ends_within : (test : ℕ → Bool) (n k : ℕ) → is_end k (filter test (range_with_len 0 n)) ≡ (nat_lt k n && test k)
ends_within test n k = by (nat_lt k n) refl
  where
    by : (b : Bool) → nat_lt k n ≡ b → is_end k (filter test (range_with_len 0 n)) ≡ (b && test k)
    by true low = ends_are test n k (λ high. absurd (grind (arith, nat_tests, low, high)))
    by false high = false_from_ne_true (is_end k (filter test (range_with_len 0 n))) (λ q. let low = range_below 0 n k (end_parts test (range_with_len 0 n) k q).0 in grind (arith, nat_tests, low, high))

-- the law on the tasks that a sweep ends
pub swept_are_those : SweptAreThose
swept_are_those calls v policies = (ascends (is_swept calls v policies) 0 0 (task_count calls) (omega arith), λ k. ends_within (is_swept calls v policies) (task_count calls) k)

-- an answer sweeps no task away, or those that the policies after it say, or all that wait where the executor is stopped after it
abbrev SweepsThose : List Planned → View → Reply → Type 0
SweepsThose calls v r = (is_sweep v.shut r.answer ≡ true → r.ends ≡ swept calls (record v { stopped = is_stop r.answer || v.stopped }) (policies_after r.answer v.policies)) × (is_sweep v.shut r.answer ≡ false → r.ends ≡ [])

call_sweeps : (calls : List Planned) (v : View) (call : CodeCall) → SweepsThose calls v (called calls v call)
call_sweeps calls v call = by v.shut call
  where
    by : (shut : Bool) (call : CodeCall) → SweepsThose calls (record v { shut = shut }) (called calls (record v { shut = shut }) call)
    by shut (c.SetPolicy which value) =
        let those = swept calls v (set_policy which value v.policies) in
        let pick : (b : Bool) → (b ≡ true → cond b those [] ≡ those) × (b ≡ false → cond b those [] ≡ []) = elim [ true ↦ (λ q. refl, λ q. absurd (false≢true (sym q))) | false ↦ (λ q. absurd (false≢true q), λ q. refl) ] in
        pick (setting_sweeps shut which value)
    by false c.Shutdown = (λ q. refl, λ q. absurd (false≢true (sym q)))
    by true c.ShutdownNow = (λ q. refl, λ q. absurd (false≢true (sym q)))
    by false c.ShutdownNow = (λ q. refl, λ q. absurd (false≢true (sym q)))
    by true call = (λ q. absurd (false≢true q), λ q. refl)
    by false call = (λ q. absurd (false≢true q), λ q. refl)

-- the same of each answer, at the moment after it
sweeps_those : (calls : List Planned) (workers : ℕ) (v : View) (y : Happening) → SweepsThose calls (record v { moment = moment_after v.moment (slice_get calls v.made) y }) (reply calls workers v y)
sweeps_those calls workers v h.Call =
    let pick : (o : Option Planned) → SweepsThose calls (record v { moment = moment_after v.moment o h.Call }) (option_map_or (λ p. called calls (record v { moment = max v.moment p.0 }) p.1) o (bare a.Clock)) =
    elim [ None ↦ (λ q. absurd (false≢true q), λ q. refl) | Some p ↦ call_sweeps calls (record v { moment = max v.moment p.0 }) p.1 ]
    in
    pick (slice_get calls v.made)
sweeps_those calls workers v (h.Clock t) =
    let now = record v { moment = moment_after v.moment (slice_get calls v.made) (h.Clock t) } in
    let pick : (b d : Bool) → SweepsThose calls now (bare (cond b (a.Error x.Backward) (cond d (a.Error x.TooFar) a.Clock))) =
    elim [ true ↦ λ d. (λ q. absurd (false≢true q), λ q. refl) | false ↦ elim [ true ↦ (λ q. absurd (false≢true q), λ q. refl) | false ↦ (λ q. absurd (false≢true q), λ q. refl) ] ]
    in
    pick _ _
sweeps_those calls workers v (h.Start u) =
    let start : (o : Option ℕ) → SweepsThose calls v (bare (start_answer v u o)) = elim [ None ↦ (λ q. absurd (false≢true q), λ q. refl) | Some j ↦ (λ q. absurd (false≢true q), λ q. refl) ] in
    let pick : (b : Bool) (o : Option ℕ) → SweepsThose calls v (bare (cond b (option_map_or (λ _. a.Error x.Busy) o (start_answer v u (first_enabled v (numbers calls)))) (a.Error x.NoWorker))) =
    elim [ true ↦ elim [ None ↦ start (first_enabled v (numbers calls)) | Some j ↦ (λ q. absurd (false≢true q), λ q. refl) ] | false ↦ λ o. (λ q. absurd (false≢true q), λ q. refl) ]
    in
    pick _ _
sweeps_those calls workers v (h.Finish u ending) =
    let pick : (b : Bool) (o : Option ℕ) → SweepsThose calls v (bare (cond b (finish_answer calls v u ending o) (a.Error x.NoWorker))) =
    elim [ true ↦ elim [ None ↦ (λ q. absurd (false≢true q), λ q. refl) | Some j ↦ (λ q. absurd (false≢true q), λ q. refl) ] | false ↦ λ o. (λ q. absurd (false≢true q), λ q. refl) ]
    in
    pick _ _
sweeps_those calls workers v (h.Cancel j) =
    let pick : (b : Bool) → SweepsThose calls v (bare (cond b (a.Outside j (effect_on (v.fate j))) (a.Error x.NoTask))) = elim [ true ↦ (λ q. absurd (false≢true q), λ q. refl) | false ↦ (λ q. absurd (false≢true q), λ q. refl) ] in
    pick _
sweeps_those calls workers v h.Purge = (λ q. absurd (false≢true q), λ q. refl)

-- the law on the tasks that an answer ends
pub sweeps_end_those : SweepsEndThose
sweeps_end_those calls workers past e m =
    let now = record (view_of_history calls past) { moment = now_of calls (happenings (e ∷ past)) } in
    let same : answer calls workers past e.happening ≡ record { answer = e.answer; ends = e.ends } = λ i. record { answer = sym m.2 i; ends = sym m.3 i } in
    subst (SweepsThose calls now) same (sweeps_those calls workers (view_of_history calls past) e.happening)
