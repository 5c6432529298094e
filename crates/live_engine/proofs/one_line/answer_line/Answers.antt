use Rattle.std.proofs.Common.{◌≡◌, ◌+◌, ◌-◌, ◌<◌, ◌≤◌, List, length, ap, ◌∙◌, sym, subst}
use Rattle.executor_model.specs.declared.Line.{Line}
use Rattle.task_table.specs.declared.seat.TaskRef.{TaskRef}
use Rattle.live_core.specs.Said.{ending}
use Rattle.live_engine.specs.declared.live_line.LiveLine.{LiveLine}
use Rattle.live_engine.specs.declared.stops.PieceEnd.TheVariants as e
use Rattle.live_engine.specs.LiveLines.{FitsLive, IsBeyond, IsCallLine, meant, most_lines}
use Rattle.live_engine.specs.own.LiveSteps.{IsMeant, IsNotTaken, TakesLine, lines_told, noted_line}
use Rattle.live_engine.proofs.Steps.{fits_meant, is_meant}
use Rattle.live_engine.proofs.Lengths.{ends_some, has_room, no_room, some_room}
use Rattle.live_engine.proofs.Notings.{noted_after_room, nothing_noted}
use Rattle.live_engine.proofs.one_line.answer_line.Goals as goal
use Rattle.live_engine.proofs.one_line.answer_line.Goals.{in-Call+else-is_err, in_default-line}

pub step-requires-clause-fits : goal.step-requires-clause-fits
step-requires-clause-fits g c = subst FitsLive (sym c.meant-line.ensures) (fits_meant c.numbers.result c.args.line c.requires.fits)

pub step-requires-clause-meant : goal.step-requires-clause-meant
step-requires-clause-meant g c =
    subst (λ n. IsMeant n c.meant-line.result) c.numbers.ensures (subst (IsMeant c.numbers.result) (sym c.meant-line.ensures) (is_meant c.numbers.result c.args.line))

pub returns-clause-answers : goal.returns-clause-answers
returns-clause-answers g c =
    let old = c.args.executor.now in
    let new = c.step.new.executor in
    let line = c.meant-line.result in
    let named : line ≡ meant old.count c.args.line = c.meant-line.ensures ∙ ap (λ n. meant n c.args.line) c.numbers.ensures in
    let before = c.args.counts.now in
    let journal = c.args.journal.now in
    let next = c.match-line.journal in
    let reply = ending c.in-Ok.answer new.ended in
    let many : c.count_told.result ≡ length (lines_told c.in-Some.told c.tell.new.lines.items) =
    c.count_told.ensures ∙ ap (λ (items : List Line). length (lines_told c.in-Some.told items)) c.deref.ensures.value in
    record {
      reply = reply;
      takes = subst (λ (line : LiveLine). TakesLine old new line reply) named c.in-Ok.ensures.takes;
      fits = c.requires.fits;
      room = λ workers so_far at counted.
          subst (λ (line : LiveLine). IsBeyond workers so_far line → ⊥) named
          (has_room old new line c.in-Ok.answer before.written c.in-Ok.ensures.takes
          (subst (λ (ended : List TaskRef). length ended < most_lines - before.written) c.ended.ensures c.if-ended-counts.false) workers so_far at counted);
      given = c.in-Some.ensures.told;
      counts = ap (λ n. record { read = before.read + 1; written = before.written + n }) many;
      notes = subst (λ (line : LiveLine). next ≡ record (noted_line journal line new.table.moment) { room = next.room }) named
          (elim c.match-line.branch [
            | in-Call+else-is_err w ↦
                subst (λ (line : LiveLine). next ≡ record (noted_line journal line new.table.moment) { room = next.room }) (sym w.in-Call.is)
                (noted_after_room journal w.make_room.new.self next new.table.moment w.now.result w.in-Call.call w.make_room.ensures.same (w.journal-is ∙ w.note.ensures) w.now.ensures.value)
            | in_default-line w ↦
                subst (λ (line : LiveLine). next ≡ record (noted_line journal line new.table.moment) { room = next.room }) (sym w.in_default-line.is)
                (nothing_noted journal next w.journal-is)
          ]);
    }

pub returns-then-ended-counts-clause-refuses : goal.returns-then-ended-counts-clause-refuses
returns-then-ended-counts-clause-refuses g c workers so_far at counted =
    subst (IsNotTaken e.Full workers so_far) (c.meant-line.ensures ∙ ap (λ n. meant n c.args.line) c.numbers.ensures)
    (no_room c.args.executor.now c.step.new.executor c.meant-line.result c.in-Ok.answer c.args.counts.now.written c.in-Ok.ensures.takes
    (subst (λ (ended : List TaskRef). most_lines - c.args.counts.now.written ≤ length ended) c.ended.ensures c.if-ended-counts.true) workers so_far at counted)

pub returns-in_default-clause-refuses : goal.returns-in_default-clause-refuses
returns-in_default-clause-refuses g c workers so_far at counted =
    subst (IsNotTaken e.Memory workers so_far) (c.meant-line.ensures ∙ ap (λ n. meant n c.args.line) c.numbers.ensures)
    (some_room c.args.executor.now c.step.new.executor c.meant-line.result c.in-Ok.answer c.args.counts.now.written (ends_some c.meant-line.result c.step.new.executor.ended c.in-Ok.ensures.ended c.in_default.ensures.none) c.in-Ok.ensures.takes
    (subst (λ (ended : List TaskRef). length ended < most_lines - c.args.counts.now.written) c.ended.ensures c.if-ended-counts.false) workers so_far at counted)

pub returns-then-is_err-clause-refuses : goal.returns-then-is_err-clause-refuses
returns-then-is_err-clause-refuses g c workers so_far at counted =
    subst (IsNotTaken e.Memory workers so_far) (c.meant-line.ensures ∙ ap (λ n. meant n c.args.line) c.numbers.ensures)
    (some_room c.args.executor.now c.step.new.executor c.meant-line.result c.in-Ok.answer c.args.counts.now.written (subst IsCallLine (sym c.in-Call.is) tt) c.in-Ok.ensures.takes
    (subst (λ (ended : List TaskRef). length ended < most_lines - c.args.counts.now.written) c.ended.ensures c.if-ended-counts.false) workers so_far at counted)
