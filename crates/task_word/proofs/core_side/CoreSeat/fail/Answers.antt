use Rattle.std.proofs.Common.{refl, sym, ap, ◌∙◌, subst}
use Rattle.task_word.specs.Words.{ended_badly}
use Rattle.task_word.specs.Writes as write
use Rattle.task_word.specs.Views.{entry}
use Rattle.task_word.proofs.Writes.{ends_badly}
use Rattle.task_word.proofs.core_side.CoreSeat.fail.Goals as goal

pub advance-requires-clause-exchange : goal.advance-requires-clause-exchange
advance-requires-clause-exchange g c =
    let e = entry c.args.self.now.view c.args.k in
    (write.fail, refl, subst (write.ChangesWord write.fail e) (sym (c.failed-next.ensures ∙ ap ended_badly c.known.ensures)) (ends_badly e c.requires.phase c.requires.live))
