use Rattle.std.proofs.Common.{rules, arith, ◌∙◌, sym, ◌+◌, ◌<◌, ◌++◌, ◌∷◌, [], List, length, take, slice_index_or, slice_set, subst}
use Rattle.std.proofs.lemmas.List.{take_more, take_more_set, drop-set-lt}
use Rattle.std.proofs.lemmas.Grind.{drop_more_same}
use Rattle.timers_c.specs.declared.runs.End.{End}
use Rattle.timers_c.specs.declared.runs.Ending.{Ending}
use Rattle.timers_c.specs.declared.status.Status.{Status}
use Rattle.timers_c.specs.declared.status.Status.TheVariants as s
use Rattle.timers_c.specs.Many.{FinishesEach, TakesEnding}
use Rattle.timers_c.proofs.Each.{ends_more}
use Rattle.timers_c.proofs.many.finish_each.Goals as goal

pub loop-count-preserved : goal.loop-count-preserved
loop-count-preserved c =
    let endings = c.args.endings.now in let ends = c.loop-count.ends in let i = c.loop-count.count in let old = c.args.session.now in let now = c.args.now in
    let before = c.loop-count.session in let after = c.end_as-status.new.session in let end : End = c.end_as-status.result.1 in
    let none : Ending = record { value = 0; worker = 0; failed = 0 } in
    let ending : Ending = slice_index_or endings i none in
    let there : i < length endings = search rules in let within : i < length ends = search rules in
    let one : TakesEnding s.Done now ending end before after =
    subst (λ (status : Status). TakesEnding status now ending end before after) c.in-Done.is c.end_as-status.ensures.takes in
    record {
      within = search rules;
      size = search rules;
      ends = subst (λ (es : List Ending). FinishesEach old now es (take (i + 1) (slice_set ends i end)) after) (sym (take_more endings i none there))
          (subst (λ (rs : List End). FinishesEach old now (take i endings ++ ending ∷ []) rs after) (sym (take_more_set ends i end within))
          (ends_more old now before (take i endings) (take i ends) ending end after c.loop-count.invariant.ends one));
      unwritten = drop-set-lt (i + 1) ends i end (omega arith) ∙ drop_more_same ends c.args.ends.now i c.loop-count.invariant.unwritten;
    }
