use Rattle.std.proofs.Common.{rules, arith, ◌∙◌, sym, ◌+◌, ◌<◌, ◌++◌, ◌∷◌, [], List, Some, length, take, slice_index_or, slice_set, subst}
use Rattle.std.proofs.lemmas.List.{take_more, take_more_set, drop-set-lt}
use Rattle.std.proofs.lemmas.Grind.{drop_more_same}
use Rattle.timers_c.specs.declared.runs.Run.{Run}
use Rattle.timers_c.specs.declared.status.Status.{Status}
use Rattle.timers_c.specs.declared.status.Status.TheVariants as s
use Rattle.timers_c.specs.Calls.{TakesPoll, no_run}
use Rattle.timers_c.specs.Many.{PollsEach}
use Rattle.timers_c.proofs.Each.{begins_more, same_there}
use Rattle.timers_c.proofs.many.poll_each.Goals as goal

pub loop-count-preserved : goal.loop-count-preserved
loop-count-preserved c =
    let places = c.args.runs.now in let runs = c.loop-count.runs in let i = c.loop-count.count in let old = c.args.session.now in let now = c.args.now in
    let before = c.loop-count.session in let after = c.begin-status.new.session in let run : Run = c.begin-status.result.1 in
    let place : Run = slice_index_or places i no_run in
    let within : i < length runs = search rules in let there : i < length places = search rules in
    let took : TakesPoll s.Done now (slice_index_or runs i no_run).worker run (Some before) (Some after) =
    subst (λ (status : Status). TakesPoll status now (slice_index_or runs i no_run).worker run (Some before) (Some after)) c.in-Done.is c.begin-status.ensures.takes in
    let one : TakesPoll s.Done now place.worker run (Some before) (Some after) =
    subst (λ (p : Run). TakesPoll s.Done now p.worker run (Some before) (Some after)) (same_there runs places i no_run c.loop-count.invariant.unwritten) took in
    record {
      within = search rules;
      size = search rules;
      begins = subst (λ (ps : List Run). PollsEach old now ps (take (i + 1) (slice_set runs i run)) after) (sym (take_more places i no_run there))
          (subst (λ (rs : List Run). PollsEach old now (take i places ++ place ∷ []) rs after) (sym (take_more_set runs i run within))
          (begins_more old now before (take i places) (take i runs) place run after c.loop-count.invariant.begins one));
      unwritten = drop-set-lt (i + 1) runs i run (omega arith) ∙ drop_more_same runs places i c.loop-count.invariant.unwritten;
    }
