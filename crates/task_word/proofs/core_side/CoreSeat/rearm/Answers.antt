use Rattle.std.proofs.Common.{refl, sym, ap, ◌∙◌, subst}
use Rattle.task_word.specs.Words.{rearmed}
use Rattle.task_word.specs.Writes as write
use Rattle.task_word.specs.Views.{entry}
use Rattle.task_word.proofs.Writes.{rearms}
use Rattle.task_word.proofs.core_side.CoreSeat.rearm.Goals as goal

pub advance-requires-clause-exchange : goal.advance-requires-clause-exchange
advance-requires-clause-exchange g c =
    let e = entry c.args.self.now.view c.args.k in
    (write.rearm, refl, subst (write.ChangesWord write.rearm e) (sym (c.rearmed-next.ensures ∙ ap rearmed c.known.ensures)) (rearms e c.requires.phase c.requires.live))
