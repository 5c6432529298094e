-- The executor has what is written, or no executor that is sound has it.
use Rattle.std.proofs.Common.{◌≡◌, List, Option, vec_capacity, sym, ap, subst, ◌∙◌, arith, rules}
use Rattle.std.specs.Prelude.{Result, Err}
use Rattle.std.proofs.lemmas.Bool.{false≢true}
use Rattle.task_table.specs.declared.image.RestoreError.{RestoreError}
use Rattle.task_table.specs.declared.image.RestoreError.TheVariants as e
use Rattle.task_table.specs.declared.seat.Seat.{Seat}
use Rattle.live_core.specs.Empties.{held_numbers}
use Rattle.live_core.specs.Lives.{LiveView}
use Rattle.live_core.specs.own.Restoring.{AreOnceEmpty}
use Rattle.live_core.proofs.Restored.{sound_frame, sound_live, written_size, written_table, written_empty, made_written, made_live}
use Rattle.live_core.proofs.executor.ScheduledExecutor.restore.Goals as goal

pub returns-then-not-is_sound-clause-unsound : goal.returns-then-not-is_sound-clause-unsound
returns-then-not-is_sound-clause-unsound g c = λ _ m sound w. false≢true (sym c.if-not-is_sound.true ∙ c.is_sound.ensures.1 (sound_frame m c.args.frame.now sound w.frame))

pub returns-then-not-are_live-clause-unsound : goal.returns-then-not-are_live-clause-unsound
returns-then-not-are_live-clause-unsound g c = λ _ m sound w. false≢true (sym c.if-not-are_live.true ∙ (c.are_live.ensures ∙ sound_live m c.args.frame.now c.args.tasks.now sound w.frame w.tasks))

pub returns-then-not-are_as_many-clause-unsound : goal.returns-then-not-are_as_many-clause-unsound
returns-then-not-are_as_many-clause-unsound g c = λ _ m sound w. false≢true (sym c.if-not-are_as_many.true ∙ c.are_as_many.ensures.1 (written_size m c.args.frame.now c.args.tasks.now c.args.empty.now w))

pub returns-in_err-table-clause-unsound : goal.returns-in_err-table-clause-unsound
returns-in_err-table-clause-unsound g c =
    let x = c.in_err-table.field-0.0 in
    let fault : Result LiveView RestoreError = Err x in
    let told : fault ≡ c.from_residual.result = search rules in
    λ q m sound w.
    let same : x ≡ e.Unsound = cc (told ∙ q) in
    c.in_err-table.ensures.unsound (ap Err same) m.table sound.table (written_table m c.args.frame.now c.args.tasks.now c.args.empty.now w)

pub returns-in_err-check_empty-clause-unsound : goal.returns-in_err-check_empty-clause-unsound
returns-in_err-check_empty-clause-unsound g c =
    let x = c.in_err-check_empty.field-0.0 in
    let fault : Result LiveView RestoreError = Err x in
    let told : fault ≡ c.from_residual-in_err-check_empty.result = search rules in
    λ q m sound w.
    let same : x ≡ e.Unsound = cc (told ∙ q) in
    c.in_err-check_empty.ensures.unsound (ap Err same)
    (subst (λ (seats : List (Option Seat)). AreOnceEmpty (held_numbers seats) c.args.empty.now) (sym c.seats.ensures)
    (written_empty m c.in_ok-table.table c.args.frame.now c.args.tasks.now c.args.empty.now w c.in_ok-table.ensures.is))

pub invariant_of-result : goal.invariant_of-result
invariant_of-result g c =
    let f = c.args.frame.now in
    let tasks = c.args.tasks.now in
    let empty = c.args.empty.now in
    let notes = c.in-Ok.notes in
    let once = subst (λ (seats : List (Option Seat)). AreOnceEmpty (held_numbers seats) empty) c.seats.ensures c.in_ok-check_empty.ensures.is in
    made_live c.in_ok-table.table f c.in-Ok-with_capacity.ended.items tasks empty notes.free notes.entries notes.slot_room (vec_capacity c.in-Ok-with_capacity.ended) c.in_ok-table.ensures.is c.each_table_is_formed.ensures.moment
    (c.is_sound.ensures.0 c.if-not-is_sound.false) (omega arith) (sym c.are_live.ensures ∙ c.if-not-are_live.false) (c.are_as_many.ensures.0 c.if-not-are_as_many.false) once
    c.in-Ok.ensures.free c.in-Ok.ensures.entries c.in-Ok.ensures.room c.in-Ok-with_capacity.ensures.capacity

pub returns-clause-is : goal.returns-clause-is
returns-clause-is g c =
    let empty = c.args.empty.now in
    let once = subst (λ (seats : List (Option Seat)). AreOnceEmpty (held_numbers seats) empty) c.seats.ensures c.in_ok-check_empty.ensures.is in
    made_written c.in_ok-table.table c.args.frame.now c.in-Ok-with_capacity.ended.items c.args.tasks.now empty c.in_ok-table.ensures.is (c.are_as_many.ensures.0 c.if-not-are_as_many.false) once
