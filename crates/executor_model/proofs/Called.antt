-- What a call that is made is answered, and the state after it.
use Rattle.std.proofs.Common.{◌≡◌, ℕ, max, List, Option, Some, ap, ◌∙◌}
use Rattle.std.specs.Prelude.{slice_get}
use Rattle.std.specs.Option.{option_map_or}
use Rattle.queue_code.specs.declared.call.CodeCall.{CodeCall}
use Rattle.executor_model.specs.declared.types.Happening.TheVariants as h
use Rattle.executor_model.specs.declared.types.Answer.{Answer}
use Rattle.executor_model.specs.declared.types.Answer.TheVariants as a
use Rattle.queue_code.specs.Calls.{Planned}
use Rattle.executor_model.specs.View.{View}
use Rattle.executor_model.specs.Answers.{Reply, bare, called}
use Rattle.executor_model.specs.State.{State, view_of_state, reply_of, state_after}

-- what a call made at some moment looks at
abbrev pub view_at : List Planned → State → ℕ → View
view_at calls s at = record (view_of_state calls s) { moment = max s.moment at }

-- the state after a call made at some moment that has such an answer
abbrev pub called_state : List Planned → State → ℕ → Answer → State
called_state calls s at answer = record (state_after calls s h.Call (bare answer)) { moment = max s.moment at }

-- the reply to a call, given the call
abbrev reply_to : List Planned → State → Option Planned → Reply
reply_to calls s call = option_map_or (λ p. called calls (view_at calls s p.0) p.1) call (bare a.Clock)

-- the reply to the next call
pub call_reply : (calls : List Planned) (workers at : ℕ) (s : State) (call : CodeCall) (answer : Answer) → slice_get calls s.made ≡ Some (at, call) → called calls (view_at calls s at) call ≡ bare answer →
    reply_of calls workers s h.Call ≡ bare answer
call_reply calls workers at s call answer is said = ap (reply_to calls s) is ∙ said
