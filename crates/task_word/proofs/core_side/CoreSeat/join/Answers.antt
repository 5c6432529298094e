use Rattle.std.proofs.Common.{sym, ap, ◌∙◌, arith}
use Rattle.task_word.proofs.SeatSplits.{joins}
use Rattle.task_word.proofs.core_side.CoreSeat.join.Goals as goal

pub join_seat-requires : goal.join_seat-requires
join_seat-requires g c =
    let seat = c.self.inside.seat in (
      ap (λ s. s.table) c.self.view_is ∙ (c.requires.table ∙ sym (ap (λ w. w.table) c.words.view_is)),
      ap (λ s. s.table) c.handle.view_is ∙ (c.requires.handle ∙ sym (ap (λ w. w.table) c.words.view_is)),
      c.handle.invariant.1,
      omega (arith, c.words.invariant.1),
      joins c.words.inside.table.shared.key seat.id _ seat.me.0 _ c.self.invariant.0 c.self.invariant.1 c.handle.invariant.0,
    )
