use Rattle.std.proofs.Common.{ℕ, ◌+◌, List, drop, ap, ◌∙◌, sym, subst, arith}
use Rattle.sched_engine.specs.Pieces.{Output}
use Rattle.sched_engine.specs.own.Turns.{Done, IsAnswered, Progress}
use Rattle.sched_engine.proofs.Inputs.{count_fits}
use Rattle.sched_engine.proofs.Turns.{answered, nothing_taken}
use Rattle.sched_engine.proofs.engine.Engine.answer_held.Goals as goal

pub overflow_add-self : goal.overflow_add-self
overflow_add-self g c =
    let answer = c.in_ok-answered.ensures in
    let stop = c.in_ok-answered.answered in
    let old = c.args.self.now in
    let new = c.answer_events.new in
    let before : Output = record { contents = g.W.Sink.contents c.args.writer.now; text = old.draft } in
    let after : Output = record { contents = g.W.Sink.contents new.writer; text = new.draft } in
    omega (arith, c.requires.few, count_fits old.core new.core c.bytes.result.now before after stop.bytes stop.lines c.requires.standing answer.answered answer.within)

pub returns-clause-done : goal.returns-clause-done
returns-clause-done g c = λ some run left done.
    let old = c.args.self.now in
    let contents = g.W.Sink.contents c.args.writer.now in
    let at : Progress = record { left = left; held = old.held; text = old.draft; contents = contents; core = old.core; count = old.count } in
    let stop = c.in_ok-answered.answered in
    let new = c.answer_events.new in
    let before : Output = record { contents = contents; text = old.draft } in
    let after : Output = record { contents = g.W.Sink.contents new.writer; text = new.draft } in
    let answer : IsAnswered old.core new.core old.held stop.bytes before after stop.lines =
    subst (λ (held : List ℕ). IsAnswered old.core new.core held stop.bytes before after stop.lines) c.bytes.ensures.bytes c.in_ok-answered.ensures.answered in
    let next = answered run at new.core stop.bytes stop.lines after done answer c.in_ok-answered.ensures.within in
    subst (λ (held : List ℕ). Done run (record { left = left; held = held; text = new.draft; contents = after.contents; core = new.core; count = old.count + stop.lines })) (sym c.skip.ensures) next

pub returns-clause-same : goal.returns-clause-same
returns-clause-same g c = λ some same.
    let stop = c.in_ok-answered.answered in
    let old = c.args.self.now in
    let new = c.answer_events.new in
    let before : Output = record { contents = g.W.Sink.contents c.args.writer.now; text = old.draft } in
    let after : Output = record { contents = g.W.Sink.contents new.writer; text = new.draft } in
    c.skip.ensures ∙ (ap (drop stop.bytes) (sym c.bytes.ensures.bytes) ∙ (nothing_taken old.core new.core c.bytes.result.now stop.bytes before after stop.lines c.in_ok-answered.ensures.answered same ∙ c.bytes.ensures.bytes))
