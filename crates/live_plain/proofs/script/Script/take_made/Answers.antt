use Rattle.std.proofs.Common.{◌≡◌, ◌≤◌, sym, ap, ◌∙◌, subst}
use Rattle.sched_time.specs.Times.{longest}
use Rattle.live_engine.specs.declared.live_line.LiveLine.TheVariants as l
use Rattle.call_journal.specs.MadeCalls.{code_of}
use Rattle.live_engine.specs.LiveLines.{after_meant}
use Rattle.live_plain.specs.own.Scripts.{ScriptView, Shows, moment_in}
use Rattle.live_plain.proofs.Taking.{IsTested, call_shows}
use Rattle.live_plain.proofs.script.Script.take_made.Goals as goal

pub returns-clause-shows : goal.returns-clause-shows
returns-clause-shows g c workers so_far shows taken =
    let script = c.args.self.now in
    let call = c.args.call in
    let at : c.max-moment.result ≡ moment_in script = c.max-moment.ensures ∙ ap moment_in c.self.view_is in
    let room = c.has_room.ensures.0 c.if-not-has_room.false in
    let tested : IsTested script call = record {
      few = room.0;
      near = subst (λ n. n ≤ longest) at room.1;
      fits = c.in-Some.ensures.1;
      given = c.requires.given;
    }
    in
    subst (λ s. Shows workers (after_meant workers so_far (l.Call call)) s) (sym c.in_ok-make.ensures)
    (call_shows workers so_far script call c.max-moment.result c.in-Some.code shows tested at (c.in-Some.ensures.0 ∙ ap (λ (s : ScriptView). code_of s.numbers call) c.self.view_is))
