-- A happening and the representative of its line are answered alike, and leave the same view.
use Rattle.std.proofs.Common.{◌≡◌, ℕ, ◌+◌, ◌-◌, ◌^◌, ◌<◌, ◌≤◌, zero, suc, Bool, true, false, cond, nat_lt, nat_le, List, length, Option, Some, None, refl, sym, ap, ◌∙◌, arith, inl, inr}
use Rattle.std.specs.Prelude.{slice_get, max, not}
use Rattle.std.specs.List.{range_with_len, find}
use Rattle.std.specs.Option.{option_map, option_map_or, is_some}
use Rattle.std.proofs.lemmas.Bool.{false≢true, both_ways, ltb-true, ltb-false, lt-ltb, le-ltb, le-leb, lt-leb, and_from, and_left, and_right, not-true, not_from_false}
use Rattle.std.proofs.lemmas.Option.{none-some, slice_get_cases}
use Rattle.sched_time.specs.declared.timing.Timing.{Timing}
use Rattle.sched_time.specs.declared.timing.Timing.TheVariants as t
use Rattle.sched_time.specs.declared.timing.Ending.{Ending}
use Rattle.sched_time.specs.declared.timing.Ending.TheVariants as e
use Rattle.queue_code.specs.declared.call.CodeCall.{CodeCall}
use Rattle.executor_model.specs.declared.types.Happening.{Happening}
use Rattle.executor_model.specs.declared.types.Happening.TheVariants as h
use Rattle.executor_model.specs.declared.types.EventError.{EventError}
use Rattle.executor_model.specs.declared.types.EventError.TheVariants as x
use Rattle.executor_model.specs.declared.types.Answer.{Answer}
use Rattle.executor_model.specs.declared.types.Answer.TheVariants as a
use Rattle.queue_code.specs.Calls.{Planned, terms_of, numbers, task_count}
use Rattle.executor_model.specs.View.{View, first_enabled}
use Rattle.executor_model.specs.Answers.{Reply, bare, called, start_answer, finish_answer, outcome_in, stops_periodic, due_next, effect_on, is_accepted, moment_after, reply}
use Rattle.executor_model.specs.Histories.{is_call, MayFrom}
use Rattle.executor_model.specs.declared.types.Line.{Line}
use Rattle.executor_model.proofs.Replies.{IsAnswerTo, by_answer}
use Rattle.trace_check.specs.Representatives.{is_busy, representative_of_error, representative_ending, representative_of}

-- a happening that the line of another one's reply names as its representative, with what both have in common
pub record Plainly (calls : List Planned) (workers : ℕ) (v : View) (lines : List Line) (y : Happening) (r : Reply) : Type 0 where
  pub happening : Happening
  pub representative : representative_of workers lines (moment_after v.moment (slice_get calls v.made) y) r.answer ≡ Some happening
  pub replies : reply calls workers v happening ≡ r
  pub call : is_call happening ≡ is_call y
  pub moment : moment_after v.moment (slice_get calls v.made) happening ≡ moment_after v.moment (slice_get calls v.made) y
  pub comes : MayFrom calls v.made v.moment happening

-- a happening that is its own representative
own : (calls : List Planned) (workers : ℕ) (v : View) (lines : List Line) (y : Happening) → MayFrom calls v.made v.moment y →
    representative_of workers lines (moment_after v.moment (slice_get calls v.made) y) (reply calls workers v y).answer ≡ Some y → Plainly calls workers v lines y (reply calls workers v y)
own calls workers v lines y may is = record { happening = y; representative = is; replies = refl; call = refl; moment = refl; comes = may }

-- an event that gets an error, and the representative that gets it
erring : (calls : List Planned) (workers : ℕ) (v : View) (lines : List Line) (y g : Happening) (error : EventError) → reply calls workers v y ≡ bare (a.Error error) →
    representative_of_error workers lines error ≡ Some g → reply calls workers v g ≡ bare (a.Error error) → is_call g ≡ is_call y →
    moment_after v.moment (slice_get calls v.made) g ≡ moment_after v.moment (slice_get calls v.made) y → MayFrom calls v.made v.moment g → Plainly calls workers v lines y (reply calls workers v y)
erring calls workers v lines y g error is names gives call moment may = record {
  happening = g;
  representative = ap (λ (r : Reply). representative_of workers lines (moment_after v.moment (slice_get calls v.made) y) r.answer) is ∙ names;
  replies = gives ∙ sym is;
  call = call;
  moment = moment;
  comes = may;
}

-- ---- calls

call_is_plain : (calls : List Planned) (workers : ℕ) (v : View) (lines : List Line) (moment : ℕ) (call : CodeCall) →
    representative_of workers lines moment (called calls v call).answer ≡ Some h.Call
call_is_plain calls workers v lines moment call = by_answer (λ x. representative_of workers lines moment x ≡ Some h.Call) calls v call (plain call)
  where
    plain : (call : CodeCall) (x : Answer) → IsAnswerTo x call → representative_of workers lines moment x ≡ Some h.Call
    plain call a.Clock is = absurd is
    plain call x is = grind arith

calls_plainly : (calls : List Planned) (workers : ℕ) (v : View) (lines : List Line) → v.made < length calls → Plainly calls workers v lines h.Call (reply calls workers v h.Call)
calls_plainly calls workers v lines may =
    let now = moment_after v.moment (slice_get calls v.made) h.Call in
    let pick : (o : Option Planned) → slice_get calls v.made ≡ o →
    representative_of workers lines now (option_map_or (λ (p : Planned). called calls (record v { moment = max v.moment p.0 }) p.1) o (bare a.Clock)).answer ≡ Some h.Call =
    elim [
      | None ↦ λ is. elim (slice_get_cases calls v.made).1 [
        | inl there ↦ absurd (none-some there.0 (sym is ∙ there.2))
        | inr past ↦ absurd (omega (arith, past.0, may))
      ]
      | Some p ↦ λ is. call_is_plain calls workers (record v { moment = max v.moment p.0 }) lines now p.1
    ]
    in
    own calls workers v lines h.Call may (pick (slice_get calls v.made) refl)

-- ---- clocks

-- a clock that is not accepted moves nothing and may come at any time
refused : (calls : List Planned) (v : View) (moment : ℕ) → is_accepted v.moment moment ≡ false →
    (moment_after v.moment (slice_get calls v.made) (h.Clock moment) ≡ v.moment) × MayFrom calls v.made v.moment (h.Clock moment)
refused calls v moment is = (ap (λ b. cond b moment v.moment) is, λ yes. absurd (both_ways (is_accepted v.moment moment) is yes))

clocks_plainly : (calls : List Planned) (workers : ℕ) (v : View) (lines : List Line) (t : ℕ) → v.moment ≤ 2 ^ 62 → MayFrom calls v.made v.moment (h.Clock t) →
    Plainly calls workers v lines (h.Clock t) (reply calls workers v (h.Clock t))
clocks_plainly calls workers v lines t within may =
    let now = v.moment in
    let one = representative_of workers lines (moment_after now (slice_get calls v.made) (h.Clock t)) in
    let after = λ (b d : Bool). bare (cond b (a.Error x.Backward) (cond d (a.Error x.TooFar) a.Clock)) in
    let backward : nat_lt t now ≡ true → Plainly calls workers v lines (h.Clock t) (reply calls workers v (h.Clock t)) = λ back.
    let less = ltb-true t now back in
    let plain_one = refused calls v 0 (and_left (nat_le now 0) (nat_le 0 (2 ^ 62)) (lt-leb now 0 (omega arith))) in
    let real_one = refused calls v t (and_left (nat_le now t) (nat_le t (2 ^ 62)) (lt-leb now t less)) in
    erring calls workers v lines (h.Clock t) (h.Clock 0) x.Backward (ap (λ b. after b (nat_lt (2 ^ 62) t)) back) refl (ap (λ b. after b (nat_lt (2 ^ 62) 0)) (lt-ltb 0 now (omega arith))) refl
    (plain_one.0 ∙ sym real_one.0) plain_one.1
    in
    let too_far : nat_lt t now ≡ false → nat_lt (2 ^ 62) t ≡ true → Plainly calls workers v lines (h.Clock t) (reply calls workers v (h.Clock t)) = λ back far.
    let more = ltb-true (2 ^ 62) t far in
    let plain_one = refused calls v (2 ^ 62 + 1) (and_right (nat_le now (2 ^ 62 + 1)) (nat_le (2 ^ 62 + 1) (2 ^ 62)) refl) in
    let real_one = refused calls v t (and_right (nat_le now t) (nat_le t (2 ^ 62)) (lt-leb t (2 ^ 62) more)) in
    erring calls workers v lines (h.Clock t) (h.Clock (2 ^ 62 + 1)) x.TooFar ((λ i. after (back i) (far i))) refl
    (ap (λ b. after b (nat_lt (2 ^ 62) (2 ^ 62 + 1))) (le-ltb (2 ^ 62 + 1) now (omega arith))) refl (plain_one.0 ∙ sym real_one.0) plain_one.1
    in
    let accepted : nat_lt t now ≡ false → nat_lt (2 ^ 62) t ≡ false → Plainly calls workers v lines (h.Clock t) (reply calls workers v (h.Clock t)) = λ back far.
    let here : moment_after now (slice_get calls v.made) (h.Clock t) ≡ t =
    ap (λ b. cond b t now) (and_from (nat_le now t) (nat_le t (2 ^ 62)) (le-leb now t (ltb-false t now back)) (le-leb t (2 ^ 62) (ltb-false (2 ^ 62) t far))) in
    own calls workers v lines (h.Clock t) may ((λ i. one (after (back i) (far i)).answer) ∙ ap (λ m. Some (h.Clock m)) here)
    in
    let pick : (b d : Bool) → nat_lt t now ≡ b → nat_lt (2 ^ 62) t ≡ d → Plainly calls workers v lines (h.Clock t) (reply calls workers v (h.Clock t)) =
    elim [ true ↦ λ d back far. backward back | false ↦ elim [ true ↦ λ back far. too_far back far | false ↦ λ back far. accepted back far ] ]
    in
    pick (nat_lt t now) (nat_lt (2 ^ 62) t) refl refl

-- ---- workers

-- the first number that passes a test, where some number of a range does
first_there : (test : ℕ → Bool) (a n v : ℕ) → a ≤ v → v < a + n → test v ≡ true → (w : ℕ) × (find test (range_with_len a n) ≡ Some w) × (test w ≡ true) × (w < a + n)
first_there test a zero v low high is = absurd (omega arith)
first_there test a (suc n) v low high is =
    let pick : (b : Bool) → test a ≡ b → (w : ℕ) × (cond b (Some a) (find test (range_with_len (a + 1) n)) ≡ Some w) × (test w ≡ true) × (w < a + suc n) =
    elim [
      | true ↦ λ here. (a, refl, here, omega arith)
      | false ↦ λ here.
          let later : a ≡ v → ⊥ = λ same. both_ways (test v) (ap test (sym same) ∙ here) is in
          let rest = first_there test (a + 1) n v (above a v low later) (omega arith) is in
          (rest.0, rest.1, rest.2, omega (arith, rest.3))
    ]
    in
    pick (test a) refl
  where
    above : (a v : ℕ) → a ≤ v → (a ≡ v → ⊥) → a + 1 ≤ v
    above a v low other = omega (arith, other)

no_worker : (calls : List Planned) (workers : ℕ) (v : View) → workers ≤ 64 → reply calls workers v (h.Start 255) ≡ bare (a.Error x.NoWorker)
no_worker calls workers v few =
    ap (λ b. bare (cond b (option_map_or (λ _. a.Error x.Busy) (v.work 255) (start_answer v 255 (first_enabled v (numbers calls)))) (a.Error x.NoWorker))) (le-ltb 255 workers (omega arith))

started_plain : (workers : ℕ) (v : View) (lines : List Line) (moment w : ℕ) (o : Option ℕ) → representative_of workers lines moment (start_answer v w o) ≡ Some (h.Start w)
started_plain workers v lines moment w None = refl
started_plain workers v lines moment w (Some k) = refl

starts_plainly : (calls : List Planned) (workers : ℕ) (v : View) (lines : List Line) (w : ℕ) → workers ≤ 64 → ((u : ℕ) → is_busy lines u ≡ is_some (v.work u)) →
    Plainly calls workers v lines (h.Start w) (reply calls workers v (h.Start w))
starts_plainly calls workers v lines w few busy =
    let now = moment_after v.moment (slice_get calls v.made) (h.Start w) in
    let first = first_enabled v (numbers calls) in
    let says = λ (u : ℕ) (b : Bool) (o : Option ℕ). bare (cond b (option_map_or (λ _. a.Error x.Busy) o (start_answer v u first)) (a.Error x.NoWorker)) in
    let pick : (b : Bool) (o : Option ℕ) → nat_lt w workers ≡ b → v.work w ≡ o → Plainly calls workers v lines (h.Start w) (reply calls workers v (h.Start w)) =
    elim [
      | true ↦ elim [
        | None ↦ λ is free. own calls workers v lines (h.Start w) tt ((λ i. representative_of workers lines now (says w (is i) (free i)).answer) ∙ started_plain workers v lines now w first)
        | Some k ↦ λ is work.
            let there = first_there (is_busy lines) 0 workers w (omega arith) (omega (arith, ltb-true w workers is)) (busy w ∙ ap is_some work) in
            let u = there.0 in
            let has : (o : Option ℕ) → v.work u ≡ o → reply calls workers v (h.Start u) ≡ bare (a.Error x.Busy) =
            elim [
              | None ↦ λ free. absurd (false≢true (ap is_some (sym free) ∙ (sym (busy u) ∙ there.2)))
              | Some j ↦ λ taken. λ i. says u (lt-ltb u workers (omega (arith, there.3)) i) (taken i)
            ]
            in
            erring calls workers v lines (h.Start w) (h.Start u) x.Busy (λ i. says w (is i) (work i)) (ap (option_map (λ z. h.Start z)) there.1) (has (v.work u) refl) refl refl tt
      ]
      | false ↦ λ o is work. erring calls workers v lines (h.Start w) (h.Start 255) x.NoWorker (ap (λ b. says w b (v.work w)) is) refl (no_worker calls workers v few) refl refl tt
    ]
    in
    pick (nat_lt w workers) (v.work w) refl refl

-- a run that ends as its outcome tells has this outcome
outcome_plain : (cancelled stops : Bool) (timing : Timing) (due : ℕ) (ending : Ending) →
    outcome_in cancelled stops timing due (representative_ending (outcome_in cancelled stops timing due ending)) ≡ outcome_in cancelled stops timing due ending
outcome_plain true stops timing due ending = refl
outcome_plain false stops timing due (e.Fault code) = refl
outcome_plain false stops t.Once due (e.Value value) = refl
outcome_plain false true (t.Rate period) due (e.Value value) = refl
outcome_plain false false (t.Rate period) due (e.Value value) = refl
outcome_plain false true (t.Fixed delay) due (e.Value value) = refl
outcome_plain false false (t.Fixed delay) due (e.Value value) = refl

finishes_plainly : (calls : List Planned) (workers : ℕ) (v : View) (lines : List Line) (w : ℕ) (ending : Ending) → workers ≤ 64 → ((u : ℕ) → is_busy lines u ≡ is_some (v.work u)) →
    Plainly calls workers v lines (h.Finish w ending) (reply calls workers v (h.Finish w ending))
finishes_plainly calls workers v lines w ending few busy =
    let now = moment_after v.moment (slice_get calls v.made) (h.Finish w ending) in
    let says = λ (u : ℕ) (ending : Ending) (b : Bool) (o : Option ℕ). bare (cond b (finish_answer calls v u ending o) (a.Error x.NoWorker)) in
    let pick : (b : Bool) (o : Option ℕ) → nat_lt w workers ≡ b → v.work w ≡ o → Plainly calls workers v lines (h.Finish w ending) (reply calls workers v (h.Finish w ending)) =
    elim [
      | true ↦ elim [
        | None ↦ λ is free.
            let there = first_there (λ u. not (is_busy lines u)) 0 workers w (omega arith) (omega (arith, ltb-true w workers is)) (not_from_false (is_busy lines w) (busy w ∙ ap is_some free)) in
            let u = there.0 in
            let has : (o : Option ℕ) → v.work u ≡ o → reply calls workers v (h.Finish u (e.Value 0)) ≡ bare (a.Error x.NotRunning) =
            elim [
              | None ↦ λ free. λ i. says u (e.Value 0) (lt-ltb u workers (omega (arith, there.3)) i) (free i)
              | Some j ↦ λ taken. absurd (false≢true (sym (not-true (is_busy lines u) there.2) ∙ (busy u ∙ ap is_some taken)))
            ]
            in
            erring calls workers v lines (h.Finish w ending) (h.Finish u (e.Value 0)) x.NotRunning (λ i. says w ending (is i) (free i)) (ap (option_map (λ z. h.Finish z (e.Value 0))) there.1) (has (v.work u) refl) refl refl tt
        | Some k ↦ λ is work.
            let timing = (terms_of calls k).timing in
            let stops = stops_periodic v.shut v.stopped v.policies in
            let outcome = outcome_in (v.fate k).cancelled stops timing (due_next calls v k) ending in
            record {
              happening = h.Finish w (representative_ending outcome);
              representative = λ i. representative_of workers lines now (says w ending (is i) (work i)).answer;
              replies = (λ i. says w (representative_ending outcome) (is i) (work i))
                  ∙ (ap (λ o. bare (a.Finish w k ((v.fate k).starts - 1) o)) (outcome_plain (v.fate k).cancelled stops timing (due_next calls v k) ending) ∙ (λ i. says w ending (sym is i) (sym work i)));
              call = refl;
              moment = refl;
              comes = tt;
            }
      ]
      | false ↦ λ o is work. erring calls workers v lines (h.Finish w ending) (h.Start 255) x.NoWorker (ap (λ b. says w ending b (v.work w)) is) refl (no_worker calls workers v few) refl refl tt
    ]
    in
    pick (nat_lt w workers) (v.work w) refl refl

-- ---- cancels

cancels_plainly : (calls : List Planned) (workers : ℕ) (v : View) (lines : List Line) (k : ℕ) → task_count calls ≤ 65536 → Plainly calls workers v lines (h.Cancel k) (reply calls workers v (h.Cancel k))
cancels_plainly calls workers v lines k few =
    let now = moment_after v.moment (slice_get calls v.made) (h.Cancel k) in
    let says = λ (j : ℕ) (b : Bool). bare (cond b (a.Outside j (effect_on (v.fate j))) (a.Error x.NoTask)) in
    let pick : (b : Bool) → nat_lt k (task_count calls) ≡ b → Plainly calls workers v lines (h.Cancel k) (reply calls workers v (h.Cancel k)) =
    elim [
      | true ↦ λ is. own calls workers v lines (h.Cancel k) tt (ap (λ b. representative_of workers lines now (says k b).answer) is)
      | false ↦ λ is. erring calls workers v lines (h.Cancel k) (h.Cancel 4294967295) x.NoTask (ap (says k) is) refl (ap (says 4294967295) (le-ltb 4294967295 (task_count calls) (omega arith))) refl refl tt
    ]
    in
    pick (nat_lt k (task_count calls)) refl

-- each happening that may come
pub plainly : (calls : List Planned) (workers : ℕ) (v : View) (lines : List Line) (y : Happening) → workers ≤ 64 → task_count calls ≤ 65536 → v.moment ≤ 2 ^ 62 → ((u : ℕ) → is_busy lines u ≡ is_some (v.work u)) →
    MayFrom calls v.made v.moment y → Plainly calls workers v lines y (reply calls workers v y)
plainly calls workers v lines h.Call few tasks within busy may = calls_plainly calls workers v lines may
plainly calls workers v lines (h.Clock t) few tasks within busy may = clocks_plainly calls workers v lines t within may
plainly calls workers v lines (h.Start w) few tasks within busy may = starts_plainly calls workers v lines w few busy
plainly calls workers v lines (h.Finish w ending) few tasks within busy may = finishes_plainly calls workers v lines w ending few busy
plainly calls workers v lines (h.Cancel k) few tasks within busy may = cancels_plainly calls workers v lines k tasks
plainly calls workers v lines h.Purge few tasks within busy may = own calls workers v lines h.Purge tt refl
