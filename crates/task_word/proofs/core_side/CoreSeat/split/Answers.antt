use Rattle.std.proofs.Common.{sym, ap, ◌∙◌, arith}
use Rattle.task_word.proofs.SeatSplits.{splits}
use Rattle.task_word.proofs.core_side.CoreSeat.split.Goals as goal

pub split_seat-seat-requires : goal.split_seat-seat-requires
split_seat-seat-requires g c =
    let seat = c.self.inside.seat in (
      ap (λ s. s.table) c.self.view_is ∙ (c.requires.table ∙ sym (ap (λ w. w.table) c.words.view_is)),
      omega (arith, c.words.invariant.1),
      splits c.words.inside.table.shared.key seat.id seat.me.0 c.self.invariant.0 c.self.invariant.1 (omega (arith, c.self.invariant.3, c.if-self-ge-MOST_HANDLES.false)),
    )
