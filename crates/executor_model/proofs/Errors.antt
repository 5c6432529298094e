-- Events that are answered by an error: they change no state.
use Rattle.std.proofs.Common.{◌≡◌, ℕ, ◌+◌, ◌^◌, ◌&&◌, ◌||◌, nat_lt, nat_le, Bool, true, false, cond, List, [], Option, Some, None, refl, ap, ◌∙◌, arith}
use Rattle.std.specs.Prelude.{slice_get, max}
use Rattle.std.specs.Option.{option_map_or}
use Rattle.std.proofs.lemmas.Bool.Decides.{nat_tests}
use Rattle.queue_code.specs.declared.call.CodeCall.{CodeCall}
use Rattle.executor_model.specs.declared.types.Event.{Event}
use Rattle.executor_model.specs.declared.types.Event.TheVariants as v
use Rattle.executor_model.specs.declared.types.EventError.{EventError}
use Rattle.executor_model.specs.declared.types.EventError.TheVariants as x
use Rattle.executor_model.specs.declared.types.Happening.{Happening}
use Rattle.executor_model.specs.declared.types.Happening.TheVariants as h
use Rattle.executor_model.specs.declared.types.Answer.{Answer}
use Rattle.executor_model.specs.declared.types.Answer.TheVariants as a
use Rattle.queue_code.specs.Calls.{Planned, terms_of}
use Rattle.executor_model.specs.View.{View}
use Rattle.executor_model.specs.Answers.{bare, called, is_accepted, moment_after}
use Rattle.executor_model.specs.Histories.{is_call, cancels, kept_after, policies_after, is_shutdown, work_after, is_stop}
use Rattle.executor_model.specs.State.{State, view_of_state, move_task, state_after, reply_of, next}
use Rattle.executor_model.specs.Flows.{happening_of, reached, calls_before}
use Rattle.executor_model.proofs.Keeping.{kept_stays}
use Rattle.executor_model.proofs.Replies.{IsAnswerTo, by_answer}

-- a state after an error that is no call and does not move the clock
unmoved : (calls : List Planned) (s : State) (x : Happening) (answer : Answer) (error : EventError) → answer ≡ a.Error error → is_call x ≡ false → moment_after s.moment (slice_get calls s.made) x ≡ s.moment →
    state_after calls s x (bare answer) ≡ s
unmoved calls s x answer error q event still =
    let answered : state_after calls s x (bare answer) ≡ record s { tasks = λ k. record (s.tasks k) { kept = kept_after (view_of_state calls s) k (a.Error error) } } = λ i. record {
      made = cond (event i) (1 + s.made) s.made;
      moment = still i;
      tasks = λ k. record (move_task (terms_of calls k).timing s.moment k (q i) (s.tasks k)) { cancelled = cancels k (q i) [] || (s.tasks k).cancelled; kept = kept_after (view_of_state calls s) k (q i) };
      workers = λ w. work_after w (q i) (s.workers w);
      policies = policies_after (q i) s.policies;
      shut = is_shutdown (q i) || s.shut;
      stopped = is_stop (q i) || s.stopped;
    }
    in
    answered ∙ (λ i. record s { tasks = λ k. record (s.tasks k) { kept = kept_stays (view_of_state calls s) k (a.Error error) refl refl refl i } })

-- a call is not answered by an error
no_error : (calls : List Planned) (v : View) (call : CodeCall) (error : EventError) → (called calls v call).answer ≡ a.Error error → ⊥
no_error calls v call error = by_answer (λ x. x ≡ a.Error error → ⊥) calls v call (errs call)
  where
    errs : (call : CodeCall) (x : Answer) → IsAnswerTo x call → x ≡ a.Error error → ⊥
    errs call (a.Error e) is q = is
    errs call x is q = cc

-- a clock that is answered by an error is not accepted
pub refused_clock : (now t : ℕ) (error : EventError) → cond (nat_lt t now) (a.Error x.Backward) (cond (nat_lt (2 ^ 62) t) (a.Error x.TooFar) a.Clock) ≡ a.Error error → is_accepted now t ≡ false
refused_clock now t error q =
    let pick : (b d : Bool) → nat_lt t now ≡ b → nat_lt (2 ^ 62) t ≡ d → cond b (a.Error x.Backward) (cond d (a.Error x.TooFar) a.Clock) ≡ a.Error error → is_accepted now t ≡ false =
    elim [
      | true ↦ λ d back far q. ap (λ b. b && nat_le t (2 ^ 62)) (not_after now t back)
      | false ↦ elim [ true ↦ λ back far q. ap (λ b. nat_le now t && b) (not_after t (2 ^ 62) far) ∙ and_false (nat_le now t) | false ↦ λ back far q. absurd cc ]
    ]
    in
    pick (nat_lt t now) (nat_lt (2 ^ 62) t) refl refl q
  where
    not_after : (m n : ℕ) → nat_lt n m ≡ true → nat_le m n ≡ false
    not_after m n q = grind (arith, nat_tests)

    and_false : (b : Bool) → (b && false) ≡ false
    and_false true = refl
    and_false false = refl

-- the state after a happening that is answered by an error
pub errors_change_nothing : (calls : List Planned) (workers : ℕ) (s : State) (happening : Happening) (error : EventError) → (reply_of calls workers s happening).answer ≡ a.Error error → next calls workers s happening ≡ s
errors_change_nothing calls workers s h.Call error q =
    let pick : (p : Option Planned) → (option_map_or (λ p. called calls (record (view_of_state calls s) { moment = max s.moment p.0 }) p.1) p (bare a.Clock)).answer ≡ a.Error error → ⊥ =
    elim [ None ↦ λ q. cc | Some p ↦ no_error calls (record (view_of_state calls s) { moment = max s.moment p.0 }) p.1 error ]
    in
    absurd (pick (slice_get calls s.made) q)
errors_change_nothing calls workers s (h.Clock t) error q =
    unmoved calls s (h.Clock t) (reply_of calls workers s (h.Clock t)).answer error q refl (ap (λ b. cond b t s.moment) (refused_clock s.moment t error q))
errors_change_nothing calls workers s (h.Start w) error q = unmoved calls s (h.Start w) (reply_of calls workers s (h.Start w)).answer error q refl refl
errors_change_nothing calls workers s (h.Finish w ending) error q = unmoved calls s (h.Finish w ending) (reply_of calls workers s (h.Finish w ending)).answer error q refl refl
errors_change_nothing calls workers s (h.Cancel k) error q = unmoved calls s (h.Cancel k) (reply_of calls workers s (h.Cancel k)).answer error q refl refl
errors_change_nothing calls workers s h.Purge error q = absurd cc

-- no call is made before an event that is answered by an error
pub none_before : (calls : List Planned) (workers : ℕ) (s : State) (event : Event) (error : EventError) → (reply_of calls workers s (happening_of event)).answer ≡ a.Error error → calls_before calls s.made s.moment event ≡ 0
none_before calls workers s (v.Clock t) error q = ap (λ b. cond b (reached calls s.made t) 0) (refused_clock s.moment t error q)
none_before calls workers s (v.Start w) error q = refl
none_before calls workers s (v.Finish w ending) error q = refl
none_before calls workers s (v.Cancel k) error q = refl

-- an event ends no task by a line of its own
pub no_ends : (calls : List Planned) (workers : ℕ) (s : State) (event : Event) → (reply_of calls workers s (happening_of event)).ends ≡ []
no_ends calls workers s (v.Clock t) = refl
no_ends calls workers s (v.Start w) = refl
no_ends calls workers s (v.Finish w ending) = refl
no_ends calls workers s (v.Cancel k) = refl
