-- Lints: what is found of a file as it is opened is found of the file of its name.
use Rattle.std.proofs.Common.{◌≡◌, ℕ, Option, Some, None, Result, Ok, Err, inl, inr}
use Rattle.std.specs.Prelude.{IfOk, MatchOption}
use Rattle.std.specs.Borrow.{Bor}
use Rattle.std.specs.declared.io.Error.{Error}
use Rattle.clap.specs.Words.{Text}
use Rattle.plan_read.specs.Plans.{PlanTree}
use Rattle.command_work.specs.Fronts.{Reads, most_of_trace}
use Rattle.command_work.specs.Linting.{BesideRight, BesideWrong, CallsFound, CallsWrong, EventsRight, EventsWrong, Finds, FindsAsked, IsFileOf, IsUntaken, TraceRight, TraceWrong}
use Rattle.command_work.specs.declared.lint.Beside.{Beside}
use Rattle.command_work.specs.declared.lint.Beside.TheVariants.{Events, Trace}
use Rattle.command_work.specs.declared.lint.Found.{Found}
use Rattle.command_work.specs.declared.lint.Found.TheVariants.{Fine, Wrong}
use Rattle.command_work.specs.declared.lint.Looked.{Looked}
use Rattle.command_work.specs.declared.lint.Looked.TheVariants.{Calls}

-- a file that was not taken
untaken : {P : Type 0} (IsRead : Reads P) (Opens : Bor Text → Result P Error → Type 0) (name : Bor Text) (file : Result P Error)
    → Opens name file → IsUntaken (IsRead most_of_trace file) → IsUntaken (IsFileOf IsRead Opens most_of_trace name)
untaken IsRead Opens name file opens (inl none) = inl (file, opens, none)
untaken IsRead Opens name file opens (inr long) = inr (long.0, (file, opens, long.1), long.2)

-- what is found of the file of events
of_events : {P T E : Type 0} (IsRead : Reads P) (Opens : Bor Text → Result P Error → Type 0) (name : Bor Text) (file : Result P Error) (plan : PlanTree)
    (result : Result (Option T) E) → Opens name file
    → IfOk result (λ told. MatchOption told (EventsRight (IsRead most_of_trace file)) (λ line. EventsWrong (IsRead most_of_trace file)))
    → IfOk result (λ told. MatchOption told (BesideRight (IsFileOf IsRead Opens most_of_trace) plan (Events name)) (λ line. BesideWrong (IsFileOf IsRead Opens most_of_trace) plan (Events name)))
of_events IsRead Opens name file plan (Err e) opens found = tt
of_events IsRead Opens name file plan (Ok None) opens found = (found.0, ((file, opens, found.1.0), found.1.1), found.2)
of_events IsRead Opens name file plan (Ok (Some line)) opens (inl none) = inl (untaken IsRead Opens name file opens none)
of_events IsRead Opens name file plan (Ok (Some line)) opens (inr wrong) = inr (wrong.0, ((file, opens, wrong.1.0), wrong.1.1), wrong.2)

-- what is found of the file of a trace
of_trace : {P T E : Type 0} (IsRead : Reads P) (Opens : Bor Text → Result P Error → Type 0) (name : Bor Text) (workers : ℕ) (file : Result P Error) (plan : PlanTree)
    (result : Result (Option T) E) → Opens name file
    → IfOk result (λ told. MatchOption told (TraceRight (IsRead most_of_trace file) plan workers) (λ line. TraceWrong (IsRead most_of_trace file) plan workers))
    → IfOk result (λ told. MatchOption told (BesideRight (IsFileOf IsRead Opens most_of_trace) plan (Trace name workers)) (λ line. BesideWrong (IsFileOf IsRead Opens most_of_trace) plan (Trace name workers)))
of_trace IsRead Opens name workers file plan (Err e) opens found = tt
of_trace IsRead Opens name workers file plan (Ok None) opens found = (found.0, ((file, opens, found.1.0), found.1.1), found.2)
of_trace IsRead Opens name workers file plan (Ok (Some line)) opens (inl none) = inl (untaken IsRead Opens name file opens none)
of_trace IsRead Opens name workers file plan (Ok (Some line)) opens (inr wrong) = inr (wrong.0, ((file, opens, wrong.1.0), wrong.1.1), wrong.2, wrong.3)

-- what is found of the file of calls
of_calls : {P E : Type 0} (IsRead : Reads P) (Opens : Bor Text → Result P Error → Type 0) (name : Bor Text) (file : Result P Error)
    (result : Result Found E) → Opens name file → IfOk result (CallsFound (IsRead most_of_trace file)) → IfOk result (Finds IsRead Opens (Calls name))
of_calls IsRead Opens name file (Err e) opens found = tt
of_calls IsRead Opens name file (Ok (Fine lines)) opens found = ((found.0.0, ((file, opens, found.0.1.0), found.0.1.1), found.0.2), found.1)
of_calls IsRead Opens name file (Ok (Wrong line)) opens found = wrong found
  where
    wrong : CallsWrong (IsRead most_of_trace file) → CallsWrong (IsFileOf IsRead Opens most_of_trace name)
    wrong (inl none) = inl (untaken IsRead Opens name file opens none)
    wrong (inr other) = inr (other.0, ((file, opens, other.1.0), other.1.1), other.2)

-- what is found of what is beside a plan
pub beside_events : {P T E : Type 0} (IsRead : Reads P) (Opens : Bor Text → Result P Error → Type 0) (beside : Beside) (name : Bor Text) (file : Result P Error) (plan : PlanTree)
    (result : Result (Option T) E) → beside ≡ Events name → Opens name file
    → IfOk result (λ told. MatchOption told (EventsRight (IsRead most_of_trace file)) (λ line. EventsWrong (IsRead most_of_trace file)))
    → IfOk result (λ told. MatchOption told (BesideRight (IsFileOf IsRead Opens most_of_trace) plan beside) (λ line. BesideWrong (IsFileOf IsRead Opens most_of_trace) plan beside))
beside_events IsRead Opens beside name file plan result is opens found = rw is (of_events IsRead Opens name file plan result opens found)

pub beside_trace : {P T E : Type 0} (IsRead : Reads P) (Opens : Bor Text → Result P Error → Type 0) (beside : Beside) (name : Bor Text) (workers : ℕ) (file : Result P Error) (plan : PlanTree)
    (result : Result (Option T) E) → beside ≡ Trace name workers → Opens name file
    → IfOk result (λ told. MatchOption told (TraceRight (IsRead most_of_trace file) plan workers) (λ line. TraceWrong (IsRead most_of_trace file) plan workers))
    → IfOk result (λ told. MatchOption told (BesideRight (IsFileOf IsRead Opens most_of_trace) plan beside) (λ line. BesideWrong (IsFileOf IsRead Opens most_of_trace) plan beside))
beside_trace IsRead Opens beside name workers file plan result is opens found = rw is (of_trace IsRead Opens name workers file plan result opens found)

-- what is found of the lines of a live run, where these are asked for
pub asked_calls : {P E : Type 0} (IsRead : Reads P) (Opens : Bor Text → Result P Error → Type 0) (asked : Option Looked) (name : Bor Text) (file : Result P Error)
    (result : Result Found E) → asked ≡ Some (Calls name) → Opens name file → IfOk result (CallsFound (IsRead most_of_trace file)) → IfOk result (FindsAsked IsRead Opens asked)
asked_calls IsRead Opens asked name file result is opens found = rw is (of_calls IsRead Opens name file result opens found)
