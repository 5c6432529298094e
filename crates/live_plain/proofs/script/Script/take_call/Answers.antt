use Rattle.std.specs.Prelude.{◌≤◌, IsTrue, ◌↔◌}
use Rattle.std.proofs.Common.{subst}
use Rattle.std.proofs.lemmas.Result.{IfOk-weaker}
use Rattle.live_engine.specs.declared.live_line.LiveLine.{LiveLine}
use Rattle.live_engine.specs.LiveLines.{after_meant}
use Rattle.live_plain.specs.PlainLines.{IsPlain}
use Rattle.live_plain.specs.own.Scripts.{NamesGiven, ScriptView, Shows}
use Rattle.live_plain.proofs.Taking.{meant_call, meant_event}
use Rattle.live_plain.proofs.script.Script.take_call.Goals as goal

pub returns-in-Some-clause-plain : goal.returns-in-Some-clause-plain
returns-in-Some-clause-plain g c =
    IfOk-weaker c.take_event.result _ _
    (λ taken true workers so_far shows.
    subst (λ (line : LiveLine). IsTrue taken ↔ IsPlain so_far line)
    (meant_event so_far c.args.self.now.numbers c.in-Some.task c.args.call shows.numbers (subst (λ (s : ScriptView). s.numbers ≤ c.in-Some.task) c.self.view_is c.in-Some.ensures.1) c.in-Some.ensures.0) ((λ _. tt), (λ _. true)))
    c.take_event.ensures.plain

pub returns-in-Some-clause-shows : goal.returns-in-Some-clause-shows
returns-in-Some-clause-shows g c =
    IfOk-weaker c.take_event.result _ _
    (λ taken all workers so_far shows true.
    subst (λ (line : LiveLine). Shows workers (after_meant workers so_far line) c.take_event.new.self)
    (meant_event so_far c.args.self.now.numbers c.in-Some.task c.args.call shows.numbers (subst (λ (s : ScriptView). s.numbers ≤ c.in-Some.task) c.self.view_is c.in-Some.ensures.1) c.in-Some.ensures.0) (all workers so_far shows))
    c.take_event.ensures.shows

pub returns-in-None-clause-plain : goal.returns-in-None-clause-plain
returns-in-None-clause-plain g c =
    IfOk-weaker c.take_made.result _ _
    (λ taken plain workers so_far shows.
    subst (λ (line : LiveLine). IsTrue taken ↔ IsPlain so_far line) (meant_call so_far c.args.self.now.numbers c.args.call shows.numbers (subst (λ (s : ScriptView). NamesGiven s.numbers c.args.call) c.self.view_is c.in-None.ensures)) (plain workers so_far shows))
    c.take_made.ensures.plain

pub returns-in-None-clause-shows : goal.returns-in-None-clause-shows
returns-in-None-clause-shows g c =
    IfOk-weaker c.take_made.result _ _
    (λ taken all workers so_far shows true.
    subst (λ (line : LiveLine). Shows workers (after_meant workers so_far line) c.take_made.new.self)
    (meant_call so_far c.args.self.now.numbers c.args.call shows.numbers (subst (λ (s : ScriptView). NamesGiven s.numbers c.args.call) c.self.view_is c.in-None.ensures)) (all workers so_far shows true))
    c.take_made.ensures.shows
