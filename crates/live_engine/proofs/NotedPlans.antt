-- The calls that a run notes in an empty journal are such as a plan may make.
use Rattle.std.proofs.Common.{◌≡◌, ℕ, List, [], ◌∷◌, ◌++◌, Option, Result, Ok, Err, refl, subst, sym, ap, ◌∙◌, inl, inr, arith}
use Rattle.queue_code.specs.Calls.{Planned, task_count, IsOrderly}
use Rattle.sched_engine.specs.declared.report.RunError.{RunError}
use Rattle.sched_engine.specs.declared.report.RunError.TheVariants as x
use Rattle.call_journal.specs.Journals.{JournalView}
use Rattle.call_journal.specs.MadeCalls.{code_of, executor_calls, MayBePlanned}
use Rattle.call_journal.specs.declared.journal.MadeCall.{MadeCall}
use Rattle.call_journal.proofs.BlockCalls.{AllFit}
use Rattle.call_journal.proofs.NotedCalls.{Keeps, keeps_none, keeps_noted, kept_may, executor_calls-more, fit_more}
use Rattle.live_engine.specs.declared.live_line.LiveLine.{LiveLine}
use Rattle.live_engine.specs.declared.live_line.LiveLine.TheVariants as l
use Rattle.live_engine.specs.declared.report.LiveReport.{LiveReport}
use Rattle.live_engine.specs.LiveLines.{FitsLive, LiveHistory, MayCome, after_meant, live_history, meant_in, next_moment}
use Rattle.live_engine.specs.LiveRuns.{LiveEnds, Ran, Taken, all_noted, made_by, made_calls}
use Rattle.live_engine.proofs.Steps.{fits_meant}

-- some calls that fit are those of an executor, and a journal in which some were noted keeps the first of them
record HasNoted (old : JournalView) (noted : List MadeCall) (calls : List Planned) : Type 0 where
  all : List MadeCall
  keeps : Keeps (all_noted old noted) all
  fit : AllFit all
  same : executor_calls all ≡ calls

-- one line more, which is meant so
has_noted_one : (workers : ℕ) (old : JournalView) (noted : List MadeCall) (so_far : LiveHistory) (line : LiveLine) → FitsLive line → HasNoted old noted so_far.calls → HasNoted old (made_by so_far line ++ noted) (after_meant workers so_far line).calls
has_noted_one workers old noted so_far (l.Event event) fits has = record { all = has.all; keeps = has.keeps; fit = has.fit; same = has.same }
has_noted_one workers old noted so_far (l.Call call) fits has =
    let next : MadeCall = record { moment = next_moment so_far; call = call } in
    record {
      all = has.all ++ next ∷ [];
      keeps = keeps_noted (all_noted old noted) has.all next has.keeps;
      fit = fit_more has.all next has.fit (fits, tt);
      same = executor_calls-more has.all next ∙ ap (λ (calls : List Planned). calls ++ (next.moment, code_of (task_count calls) call) ∷ []) has.same;
    }

has_noted : (workers : ℕ) (old : JournalView) (lines : List LiveLine) → old.calls ≡ [] → MayCome workers lines → HasNoted old (made_calls workers lines) (live_history workers lines).calls
has_noted workers old [] none may = record { all = []; keeps = keeps_none old none; fit = tt; same = refl }
has_noted workers old (line ∷ before) none may =
    let so_far = live_history workers before in
    has_noted_one workers old (made_calls workers before) so_far (meant_in so_far line) (fits_meant (task_count so_far.calls) line may.1) (has_noted workers old before none may.0)

-- what a run took of its input
taken_may : {workers : ℕ} {input left : Option (List ℕ)} {old new : JournalView} {IsAhead IsRest : LiveHistory → List ℕ → Type 0} {Gives : List LiveLine → LiveHistory → Type 0}
    → Taken workers input left old new IsAhead IsRest Gives → old.calls ≡ [] → MayBePlanned new.calls
taken_may {workers} {old = old} {new = new} taken none =
    let noted = has_noted workers old taken.lines none taken.come in
    let kept : MayBePlanned (all_noted old (made_calls workers taken.lines)).calls =
    kept_may (all_noted old (made_calls workers taken.lines)) noted.all noted.keeps (subst IsOrderly (sym noted.same) taken.allowed.orderly) noted.fit in
    subst MayBePlanned (sym (ap (λ (j : JournalView). j.calls) taken.journal)) kept

none_may : (old new : JournalView) → old.calls ≡ [] → new ≡ old → MayBePlanned new.calls
none_may old new none same = subst MayBePlanned (sym (ap (λ (j : JournalView). j.calls) same ∙ none)) ((omega arith, tt), tt)

-- the law on what a run noted
pub noted_may : (result : Result LiveReport RunError) (workers : ℕ) (old new : LiveEnds) → Ran result workers old new → old.journal.calls ≡ [] → MayBePlanned new.journal.calls
noted_may (Ok report) workers old new ran none = taken_may ran.1 none
noted_may (Err x.Workers) workers old new ran none = none_may old.journal new.journal none ran.1.1
noted_may (Err (x.EventLine n)) workers old new ran none = taken_may ran.1 none
noted_may (Err x.Full) workers old new ran none = taken_may ran.1 none
noted_may (Err x.Read) workers old new ran none = taken_may ran.1 none
noted_may (Err x.Write) workers old new ran none = taken_may ran.1 none
noted_may (Err x.Memory) workers old new (inl idle) none = none_may old.journal new.journal none idle.1.1
noted_may (Err x.Memory) workers old new (inr ran) none = taken_may ran.1 none
noted_may (Err e) workers old new ran none = absurd ran
