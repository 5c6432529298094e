use Rattle.std.proofs.Common.{refl, sym, ap, ◌∙◌, subst}
use Rattle.task_word.specs.Words.{started}
use Rattle.task_word.specs.Writes as write
use Rattle.task_word.specs.Views.{entry}
use Rattle.task_word.proofs.Writes.{starts}
use Rattle.task_word.proofs.core_side.CoreSeat.start.Goals as goal

pub advance-requires-clause-exchange : goal.advance-requires-clause-exchange
advance-requires-clause-exchange g c =
    let e = entry c.args.self.now.view c.args.k in
    (write.start, refl, subst (write.ChangesWord write.start e) (sym (c.started-next.ensures ∙ ap started c.known.ensures)) (starts e c.requires.phase c.requires.live))
