use Rattle.std.specs.Prelude.{IsTrue, ◌↔◌}
use Rattle.std.proofs.Common.{sym, subst}
use Rattle.std.proofs.lemmas.Result.{IfOk-weaker}
use Rattle.live_engine.specs.LiveLines.{after_line, meant_in}
use Rattle.live_plain.specs.PlainLines.{IsPlain}
use Rattle.live_plain.specs.own.Scripts.{Shows}
use Rattle.live_plain.proofs.script.Script.take.Goals as goal

pub returns-in-Call-clause-plain : goal.returns-in-Call-clause-plain
returns-in-Call-clause-plain g c =
    IfOk-weaker c.take_call.result _ _ (λ taken plain workers so_far shows. subst (λ line. IsTrue taken ↔ IsPlain so_far (meant_in so_far line)) (sym c.in-Call.is) (plain workers so_far shows)) c.take_call.ensures.plain

pub returns-in-Call-clause-shows : goal.returns-in-Call-clause-shows
returns-in-Call-clause-shows g c =
    IfOk-weaker c.take_call.result _ _ (λ taken all workers so_far shows true. subst (λ line. Shows workers (after_line workers so_far line) c.take_call.new.self) (sym c.in-Call.is) (all workers so_far shows true)) c.take_call.ensures.shows
