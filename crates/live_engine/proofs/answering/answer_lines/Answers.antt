use Rattle.std.proofs.Common.{◌≡◌, ℕ, ◌+◌, List, ◌∷◌, ◌++◌, length, ap, sym, subst, arith, length-append}
use Rattle.executor_model.specs.declared.Line.{Line}
use Rattle.call_journal.specs.Journals.{JournalView}
use Rattle.sched_engine.specs.Pieces.{Output}
use Rattle.byte_ends.proofs.Tries.{good_then_bad, good_then_good}
use Rattle.live_core.specs.Lives.{LiveView}
use Rattle.live_engine.specs.declared.counts.Counts.{Counts}
use Rattle.live_engine.specs.declared.stops.PieceEnd.{PieceEnd}
use Rattle.live_engine.specs.LiveLines.{live_history, live_line}
use Rattle.live_engine.specs.own.LiveSteps.{Answers, lines_told}
use Rattle.live_engine.specs.own.LiveTurns.{Progress, Stopped}
use Rattle.live_engine.proofs.Steps.{not_taken_meant}
use Rattle.live_engine.proofs.Going.{cut, cut_within, front_end, left_more, line_end, taken, unnoted}
use Rattle.live_engine.proofs.answering.answer_lines.Goals as goal
use Rattle.live_engine.proofs.answering.answer_lines.Goals.{in-Err, in-Ok+in-Err-answer_line}

pub returns-then-not-give-clause-cut : goal.returns-then-not-give-clause-cut
returns-then-not-give-clause-cut g c = λ none run left before d.
    let kept = c.loop-next.invariant in
    let so = kept.done run left before d in
    let line = c.in-Ok.next.0 in
    let told = c.in-Ok-answer_line.told in
    let lines = lines_told told c.deref.result.now in
    let after = c.answer_line.new in
    let at : Progress = record { ends = record { left = left; contents = g.W.Sink.contents c.loop-next.writer; journal = c.loop-next.journal }; held = c.loop-next.rest.now; text = c.loop-next.draft; counts = c.loop-next.counts } in
    let contents = g.W.Sink.contents c.give.new.writer in
    let answers = subst (λ (l : List Line). Answers c.loop-next.executor after.executor line (lines_told told l) c.loop-next.counts after.counts c.loop-next.journal after.journal) (sym c.deref.ensures.value) c.in-Ok-answer_line.ensures.answers in
    let text = c.if-not-give.ensures.text in
    cut_within run left contents c.loop-next.rest.now c.args.held.now after.journal
    (cut run at c.loop-next.executor after.executor line so.0 lines c.in-Ok.next.1.now after.counts after.journal contents text.0 so.1 answers c.in-Ok.ensures.line.1 text.1) kept.bound

pub returns-then-not-give-clause-write : goal.returns-then-not-give-clause-write
returns-then-not-give-clause-write g c = good_then_bad _ _ _ _ _ _ c.loop-next.invariant.tries c.if-not-give.ensures.counts

pub loop-next-preserved : goal.loop-next-preserved
loop-next-preserved g c =
    let kept = c.loop-next.invariant in
    let line = c.in-Ok.next.0 in
    let next = c.in-Ok.next.1.now in
    let rest = c.loop-next.rest.now in
    let told = c.in-Ok-answer_line.told in
    let lines = lines_told told c.deref.result.now in
    let after = c.answer_line.new in
    let out : Output = record { contents = g.W.Sink.contents c.give.new.writer; text = c.give.new.draft } in
    let answers = subst (λ (l : List Line). Answers c.loop-next.executor after.executor line (lines_told told l) c.loop-next.counts after.counts c.loop-next.journal after.journal) (sym c.deref.ensures.value) c.in-Ok-answer_line.ensures.answers in
    let front : rest ≡ live_line line ++ next = c.in-Ok.ensures.line.1 in
    let read : after.counts.read ≡ c.loop-next.counts.read + 1 = ap (λ (n : Counts). n.read) answers.counts in
    record {
      done = λ run left before d.
          let so = kept.done run left before d in
          let at : Progress = record { ends = record { left = left; contents = g.W.Sink.contents c.loop-next.writer; journal = c.loop-next.journal }; held = rest; text = c.loop-next.draft; counts = c.loop-next.counts } in
          (line ∷ so.0, taken run at c.loop-next.executor after.executor line so.0 lines next after.counts after.journal out so.1 answers front c.if-not-give.ensures.text);
      behind = left_more (live_line line) c.args.held.now rest next kept.behind kept.bound front;
      bound = omega (arith, kept.bound, ap length front, length-append (live_line line) next);
      few = c.answer_line.ensures.few;
      counted = c.in-Ok-answer_line.ensures.counted;
      rises = omega (arith, kept.rises, read);
      same = λ q. absurd (omega (arith, q, kept.rises, read));
      tries = good_then_good _ _ _ _ _ _ kept.tries c.if-not-give.ensures.counts;
    }

pub returns-clause-stopped : goal.returns-clause-stopped
returns-clause-stopped g c = λ run left before d.
    let kept = c.loop-next.invariant in
    let so = kept.done run left before d in
    let rest = c.loop-next.rest.now in
    let here = c.match-split_live in
    let at : Progress = record { ends = record { left = left; contents = g.W.Sink.contents c.loop-next.writer; journal = c.loop-next.journal }; held = rest; text = c.loop-next.draft; counts = c.loop-next.counts } in
    let S : PieceEnd → JournalView → Counts → LiveView → List ℕ → Type 0 = λ end journal counts m held.
    Stopped end run (record { ends = record { left = left; contents = g.W.Sink.contents c.loop-next.writer; journal = journal }; held = held; text = c.loop-next.draft; counts = counts }) m in
    subst (λ held. S here.end here.journal here.counts here.executor held) kept.behind
    (elim c.match-split_live.branch [
      | in-Err w ↦
          subst (λ end. S end here.journal here.counts here.executor rest) (sym w.end-is)
          (subst (λ journal. S w.in-Err.end journal here.counts here.executor rest) (sym w.journal-is)
          (subst (λ counts. S w.in-Err.end c.loop-next.journal counts here.executor rest) (sym w.counts-is)
          (subst (λ m. S w.in-Err.end c.loop-next.journal c.loop-next.counts m rest) (sym w.executor-is)
          (record { lines = so.0; done = so.1.done; stop = front_end w.in-Err.end run.workers c.loop-next.executor so.0 rest w.in-Err.ensures.end so.1.stands }))))
      | in-Ok+in-Err-answer_line w ↦
          let end = w.in-Err-answer_line.end in
          let told = w.in-Err-answer_line.ensures in
          let after = w.answer_line.new in
          let so_far = live_history run.workers so.0 in
          subst (λ end. S end here.journal here.counts here.executor rest) (sym w.end-is)
          (subst (λ journal. S end journal here.counts here.executor rest) (sym w.journal-is)
          (subst (λ counts. S end after.journal counts here.executor rest) (sym w.counts-is)
          (subst (λ m. S end after.journal after.counts m rest) (sym w.executor-is)
          (record {
            lines = so.0;
            done = unnoted run at so.0 after.counts after.journal so.1.done told.uncounted told.unnoted;
            stop = line_end end run.workers after.executor so.0 rest w.in-Ok.next.1.now w.in-Ok.next.0 w.in-Ok.ensures.line
                (not_taken_meant end run.workers c.loop-next.executor so_far w.in-Ok.next.0 so.1.stands (told.refuses run.workers so_far so.1.stands so.1.done.counted));
          }))))
    ])
