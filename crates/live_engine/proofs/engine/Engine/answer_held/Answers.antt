use Rattle.std.proofs.Common.{ℕ, List, Option, drop, refl, ap, ◌∙◌, sym, subst}
use Rattle.live_engine.specs.own.LiveTurns.{DoneAt, IsCut, Progress, Stopped}
use Rattle.live_engine.proofs.engine.Engine.answer_held.Goals as goal

pub returns-clause-stopped : goal.returns-clause-stopped
returns-clause-stopped g c = λ run left taken.
    let old = c.args.self.now in
    let new = c.answer_lines.new in
    let stop = c.in_ok-answered.answered in
    let before : List ℕ → Progress = λ held. record { ends = record { left = left; contents = g.W.Sink.contents c.args.writer.now; journal = c.args.journal.now }; held = held; text = old.draft; counts = old.counts } in
    let after : List ℕ → Progress = λ held. record { ends = record { left = left; contents = g.W.Sink.contents new.writer; journal = new.journal }; held = held; text = new.draft; counts = new.counts } in
    subst (λ (held : List ℕ). DoneAt run (before old.held) old.executor taken → Stopped stop.end run (after held) new.executor) (sym c.skip.ensures)
    (subst (λ (held : List ℕ). DoneAt run (before held) old.executor taken → Stopped stop.end run (after (drop stop.bytes held)) new.executor) c.bytes.ensures.bytes (c.in_ok-answered.ensures.stopped run left taken))

pub returns-clause-same : goal.returns-clause-same
returns-clause-same g c = λ some same.
    let stop = c.in_ok-answered.answered in
    c.skip.ensures ∙ ap (λ n. drop n c.args.self.now.held) (c.in_ok-answered.ensures.same same)

pub returns-in_err-answered-clause-cut : goal.returns-in_err-answered-clause-cut
returns-in_err-answered-clause-cut g c = λ none run left taken.
    let old = c.args.self.now in
    let new = c.answer_lines.new in
    let before : Option (List ℕ) → List ℕ → Progress = λ left held. record { ends = record { left = left; contents = g.W.Sink.contents c.args.writer.now; journal = c.args.journal.now }; held = held; text = old.draft; counts = old.counts } in
    subst (λ (held : List ℕ). DoneAt run (before left held) old.executor taken → IsCut run left held (g.W.Sink.contents new.writer) new.journal) c.bytes.ensures.bytes (c.in_err-answered.ensures.cut refl run left taken)
