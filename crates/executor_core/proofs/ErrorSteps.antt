-- A core that answers an event by an error: nothing changes but the number of events taken.
use Rattle.std.proofs.Common.{suc, ◌≡◌, ℕ, ◌+◌, List, [], ◌∷◌, ◌++◌, length, None, refl, ap, ◌∙◌, arith}
use Rattle.std.specs.Prelude.{slice_index_or, replicate}
use Rattle.executor_model.specs.declared.types.Event.{Event}
use Rattle.executor_model.specs.declared.types.Happening.TheVariants as h
use Rattle.executor_model.specs.declared.types.Line.{Line}
use Rattle.executor_model.specs.State.{State, vacant, after_from}
use Rattle.executor_model.specs.Flows.{happening_of, part_of, lines_at, lines_from}
use Rattle.executor_core.specs.CoreView.{CoreView, workers_of, state_of, Steps, ErrorOnlyCounts}
use Rattle.executor_model.proofs.Errors.{errors_change_nothing, none_before, no_ends}

-- tables of one length with the same items are one
same_table : {X : Type 0} (d : X) (xs ys : List X) → length xs ≡ length ys → ((k : ℕ) → slice_index_or xs k d ≡ slice_index_or ys k d) → xs ≡ ys
same_table d [] [] e same = refl
same_table d [] (y ∷ ys) e same = absurd (omega (arith, e))
same_table d (x ∷ xs) [] e same = absurd (omega (arith, e))
same_table d (x ∷ xs) (y ∷ ys) e same = λ i. same 0 i ∷ same_table d xs ys (omega (arith, e)) (λ k. same (suc k)) i

-- an event that is answered by an error changes nothing in a core but the number of events taken
pub error_only_counts : (old new : CoreView) (before lines : List Line) (event : Event) → Steps old new before lines (part_of old.calls old.made old.moment event) → new.taken ≡ old.taken + 1 → length new.tasks ≡ length old.tasks →
    ErrorOnlyCounts old new before lines event
error_only_counts old new before lines event steps taken count error q =
    let calls = old.calls in
    let workers = workers_of old in
    let s = state_of old in
    let none = none_before calls workers s event error q in
    let still = errors_change_nothing calls workers s (happening_of event) error q in
    let part : part_of calls old.made old.moment event ≡ happening_of event ∷ [] = ap (λ n. happening_of event ∷ replicate n h.Call) none in
    let state : state_of new ≡ s = steps.state ∙ (ap (after_from calls workers s) part ∙ still) in
    let tasks = same_table vacant new.tasks old.tasks count (λ k. ap (λ (z : State). z.tasks k) state) in
    let work = same_table None new.work old.work steps.workers (λ w. ap (λ (z : State). z.workers w) state) in (
      λ i. record { calls = steps.calls i; limit = steps.limit i; taken = taken i; made = (state i).made; moment = (state i).moment; tasks = tasks i; work = work i; policies = (state i).policies; shut = (state i).shut; stopped = (state i).stopped },
      steps.lines ∙ (ap (λ hs. before ++ lines_from calls workers s hs) part ∙ λ i. before ++ lines_at (still i).moment (record { answer = q i; ends = no_ends calls workers s event i })),
    )
