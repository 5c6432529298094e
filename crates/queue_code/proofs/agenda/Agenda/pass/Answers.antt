use Rattle.std.proofs.Common.{◌<◌, length, sym, subst}
use Rattle.queue_code.specs.Codes.{calls_of}
use Rattle.queue_code.specs.own.Agendas.{made_of}
use Rattle.queue_code.specs.Agendas.{Course}
use Rattle.queue_code.proofs.Agendas.{next_ahead}
use Rattle.queue_code.proofs.agenda.Agenda.pass.Goals as goal

pub invariant_of-self : goal.invariant_of-self
invariant_of-self g c =
    let a = c.self.inside in
    let low : made_of a.code a.left < length (calls_of a.code) = subst (λ (x : Course). x.made < length x.items) (sym c.self.view_is) c.requires.left in
    next_ahead a.code a.cursor c.fetch-self-inside.new.self a.next c.fetch-self-inside.result a.left c.self.invariant low c.fetch-self-inside.ensures.cursor c.fetch-self-inside.ensures.call c.fetch-self-inside.ensures.left
