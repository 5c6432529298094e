-- A verdict that was put into its cell, or was refused.
use Rattle.std.proofs.Common.{◌≡◌, ℕ, Option, Some, None, List, cond, refl, sym, ap, ◌∙◌, subst}
use Rattle.std.specs.Prelude.{option_map, is_some, is_none, IfSome, IfNone, slice_index_or}
use Rattle.once_cell.specs.declared.race.note.Note.{Note}
use Rattle.sched_time.specs.declared.timing.Ending.{Ending}
use Rattle.sched_time.specs.declared.timing.Ending.TheVariants as e
use Rattle.result_cell.specs.declared.verdict.Verdict.{Verdict}
use Rattle.executor_model.specs.declared.types.Answer.{Answer}
use Rattle.executor_model.specs.declared.types.Answer.TheVariants as a
use Rattle.worker_pool.specs.Books.{ending_in, ending_of_outcome}
use Rattle.executor_model.specs.declared.types.Outcome.TheVariants as o
use Rattle.worker_pool.specs.own.Results.{HasNoteOf, verdict_in, verdict_told}
use Rattle.worker_pool.specs.Applies.{lacks_note}
use Rattle.worker_pool.proofs.Bools.{same_eqb}

abbrev make : ℕ → Ending → Verdict
make task ending = record { task = task; ending = ending }

-- the verdict that an answer tells, as its ending
told_in : (answer : Answer) (verdict : Verdict) → verdict_in answer ≡ Some verdict → ending_in verdict.task answer ≡ Some verdict.ending
told_in (a.Finish worker task run outcome) verdict q = by (ending_of_outcome outcome) refl q
  where
    by : (found : Option Ending) → ending_of_outcome outcome ≡ found → option_map (λ ending. make task ending) found ≡ Some verdict → ending_in verdict.task (a.Finish worker task run outcome) ≡ Some verdict.ending
    by None is q = absurd cc
    by (Some ending) is q =
        let same : make task ending ≡ verdict = ap (λ (o : Option Verdict). Rattle.std.specs.Option.option_map_or (λ n. n) o verdict) q in
        subst (λ (v : Verdict). ending_in v.task (a.Finish worker task run outcome) ≡ Some v.ending) same (ap (λ b. cond b (ending_of_outcome outcome) None) (same_eqb task) ∙ is)
told_in _ verdict q = absurd cc

pub told_so : (answer : Option Answer) (verdict : Verdict) → verdict_told answer ≡ Some verdict → (said : Answer) × (answer ≡ Some said) × (ending_in verdict.task said ≡ Some verdict.ending)
told_so None verdict q = absurd cc
told_so (Some answer) verdict q = (answer, refl, told_in answer verdict q)

-- of one verdict
at_verdict : {R : Type 0} (Holds : R → Verdict → Type 0) (cells : List ℕ) (old notes : List (Option (Note Verdict))) (verdict : Verdict) (result : Option R) →
    IfNone result (HasNoteOf cells notes verdict) × IfSome result (λ back. Holds back verdict × (notes ≡ old)) → slice_index_or old verdict.task None ≡ None → is_some result ≡ is_none (slice_index_or notes verdict.task None)
at_verdict {R} Holds cells old notes verdict None told none = sym (ap (λ (n : Option (Note Verdict)). is_none n) told.0.1)
at_verdict {R} Holds cells old notes verdict (Some back) told none = sym (ap (λ (n : Option (Note Verdict)). is_none n) (ap (λ (ns : List (Option (Note Verdict))). slice_index_or ns verdict.task None) told.1.1 ∙ none))

-- a room came back exactly where the task of the verdict that the answer tells has no note
pub back_lacks : {R : Type 0} (Holds : R → Verdict → Type 0) (cells : List ℕ) (old notes : List (Option (Note Verdict))) (answer : Answer) (result : Option R) → (verdict_in answer ≡ None → result ≡ None) →
    IfSome (verdict_in answer) (λ v. IfNone result (HasNoteOf cells notes v) × IfSome result (λ back. Holds back v × (notes ≡ old))) →
    ((verdict : Verdict) → ending_in verdict.task answer ≡ Some verdict.ending → slice_index_or old verdict.task None ≡ None) → is_some result ≡ lacks_note notes answer
back_lacks {R} Holds cells old notes (a.Finish worker task run (o.Done value)) result untold told none = at_verdict Holds cells old notes (make task (e.Value value)) result told (none (make task (e.Value value)) (ap (λ b. cond b (Some (e.Value value)) None) (same_eqb task)))
back_lacks {R} Holds cells old notes (a.Finish worker task run (o.Failed code)) result untold told none = at_verdict Holds cells old notes (make task (e.Fault code)) result told (none (make task (e.Fault code)) (ap (λ b. cond b (Some (e.Fault code)) None) (same_eqb task)))
back_lacks {R} Holds cells old notes (a.Finish worker task run (o.Again due)) result untold told none = ap (λ (r : Option R). is_some r) (untold refl)
back_lacks {R} Holds cells old notes (a.Finish worker task run o.Dropped) result untold told none = ap (λ (r : Option R). is_some r) (untold refl)
back_lacks {R} Holds cells old notes (a.Finish worker task run o.Ended) result untold told none = ap (λ (r : Option R). is_some r) (untold refl)
back_lacks {R} Holds cells old notes _ result untold told none = ap (λ (r : Option R). is_some r) (untold refl)
