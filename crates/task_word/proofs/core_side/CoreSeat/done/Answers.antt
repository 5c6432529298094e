use Rattle.std.proofs.Common.{refl, sym, ap, ◌∙◌, subst}
use Rattle.task_word.specs.Words.{ended_well}
use Rattle.task_word.specs.Writes as write
use Rattle.task_word.specs.Views.{entry}
use Rattle.task_word.proofs.Writes.{ends_well}
use Rattle.task_word.proofs.core_side.CoreSeat.done.Goals as goal

pub advance-requires-clause-exchange : goal.advance-requires-clause-exchange
advance-requires-clause-exchange g c =
    let e = entry c.args.self.now.view c.args.k in
    (write.done, refl, subst (write.ChangesWord write.done e) (sym (c.done-next.ensures ∙ ap ended_well c.known.ensures)) (ends_well e c.requires.phase c.requires.live))
