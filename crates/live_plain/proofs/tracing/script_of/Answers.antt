use Rattle.std.proofs.Common.{take, sym, ◌∙◌, subst}
use Rattle.std.specs.Prelude.{reverse}
use Rattle.std.proofs.lemmas.Bool.{false≢true}
use Rattle.std.proofs.lemmas.List.{take_all}
use Rattle.live_engine.specs.declared.live_line.LiveLine.{LiveLine}
use Rattle.live_engine.specs.declared.live_line.LiveLine.TheVariants as l
use Rattle.executor_model.specs.declared.types.Event.TheVariants as v
use Rattle.live_engine.specs.LiveLines.{live_history}
use Rattle.live_plain.specs.own.Scripts.{ShowsAll}
use Rattle.live_plain.proofs.Taking.{each_plain, line_shown}
use Rattle.live_plain.proofs.tracing.script_of.Goals as goal

-- a line where there is none
abbrev none : LiveLine
none = l.Event (v.Clock 0)

pub returns-then-not-branch : goal.returns-then-not-branch
returns-then-not-branch g c workers plain =
    let i = c.loop-line.line-index in
    let so_far = live_history workers (reverse (take i c.args.lines.now)) in
    let line = each_plain workers c.args.lines.now i none c.loop-line-test.true plain in
    let taken = (c.in_ok-take.ensures.plain workers so_far (c.loop-line.invariant workers).1).1 line in
    false≢true (sym c.if-not-branch.true ∙ taken)

pub loop-line-preserved : goal.loop-line-preserved
loop-line-preserved g c workers =
    let i = c.loop-line.line-index in
    let so_far = live_history workers (reverse (take i c.args.lines.now)) in
    let before = c.loop-line.invariant workers in
    let plain = (c.in_ok-take.ensures.plain workers so_far before.1).0 c.if-not-branch.false in
    line_shown workers c.args.lines.now i none c.take.new.self c.loop-line-test.true before.0 plain (c.in_ok-take.ensures.shows workers so_far before.1 c.if-not-branch.false)

pub returns : goal.returns
returns g c workers =
    subst (λ lines. ShowsAll workers (reverse lines) c.loop-line.script) (take_all c.loop-line.line-index c.args.lines.now c.loop-line-test.false) (c.loop-line.invariant workers)
