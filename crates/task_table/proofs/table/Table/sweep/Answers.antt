-- The sweep comes to each slot.
use Rattle.std.proofs.Common.{◌≡◌, ◌<◌, ◌++◌, length, vec_capacity, ap, subst, ◌∙◌, arith}
use Rattle.std.proofs.lemmas.List.{take_all}
use Rattle.task_table.specs.Seats.{slot_of}
use Rattle.task_table.specs.Tables.{TableView}
use Rattle.task_table.specs.Ends.{ends_task}
use Rattle.task_table.specs.own.Found.{ref_of, found}
use Rattle.task_table.specs.Formed.{IsFormed}
use Rattle.task_table.proofs.Finding.{sweep_more, room_more, partly_all, none_ref, swept_at, some_ref}
use Rattle.task_table.proofs.Sorting.{sweep_ends}
use Rattle.task_table.proofs.table.Table.sweep.Goals as goal
use Rattle.task_table.proofs.table.Table.sweep.Goals.{then-ended, else-ended}

pub held-number-requires : goal.held-number-requires
held-number-requires g k =
    let s = k.sweep_slot-ended in
    let swept = swept_at k.loop-slot.self s.new.self k.loop-slot.slot s.result s.ensures.ends k.if-ended.true s.ensures.swept in
    (swept.task, swept.there)

pub push_reserved-requires : goal.push_reserved-requires
push_reserved-requires g k =
    let n = k.args.self.now in
    let l = k.loop-slot in
    let low : l.slot < length n.slots = omega (arith, k.loop-slot-test.true, k.len-count.ensures, ap (λ (v : TableView). length v.slots) k.self.view_is) in
    omega (arith, l.ends.ok.0, room_more n l.slot _ _ l.ends.items low k.requires.room l.invariant.room l.invariant.found)

pub loop-slot-preserved : goal.loop-slot-preserved
loop-slot-preserved g k =
    let n = k.args.self.now in
    let l = k.loop-slot in
    let s = k.sweep_slot-ended in
    let low : l.slot < length n.slots = omega (arith, k.loop-slot-test.true, k.len-count.ensures, ap (λ (v : TableView). length v.slots) k.self.view_is) in
    elim k.if-ended.branch [
      | then-ended w ↦
          let swept = swept_at l.self s.new.self l.slot s.result s.ensures.ends w.if-ended.true s.ensures.swept in
          let adds : k.if-ended.ends.items ≡ l.ends.items ++ ref_of (ends_task l.self) l.slot (slot_of l.self.slots l.slot) =
          ap (λ v. v.items) w.ends-is ∙ (w.push_reserved.ensures.items ∙ ap (λ rest. l.ends.items ++ rest) (some_ref l.self s.new.self l.slot w.held-number.result swept w.held-number.ensures.held))
          in
          let more = sweep_more n l.self s.new.self l.slot l.ends.items k.if-ended.ends.items low l.invariant.swept l.invariant.found s.ensures.swept adds in
          record { swept = more.0; found = more.1; room = ap vec_capacity w.ends-is ∙ (w.push_reserved.ensures.capacity ∙ l.invariant.room) }
      | else-ended w ↦
          let adds : k.if-ended.ends.items ≡ l.ends.items ++ ref_of (ends_task l.self) l.slot (slot_of l.self.slots l.slot) =
          ap (λ v. v.items) w.ends-is ∙ none_ref l.self l.slot s.result l.ends.items s.ensures.ends w.if-ended.false
          in
          let more = sweep_more n l.self s.new.self l.slot l.ends.items k.if-ended.ends.items low l.invariant.swept l.invariant.found s.ensures.swept adds in
          record { swept = more.0; found = more.1; room = ap vec_capacity w.ends-is ∙ l.invariant.room }
    ]

pub returns-clause-ends : goal.returns-clause-ends
returns-clause-ends g k =
    let n = k.args.self.now in
    let l = k.loop-slot in
    let formed : IsFormed n = subst IsFormed k.self.view_is k.self.invariant.formed in
    let last : l.slot ≡ length n.slots = omega (arith, k.loop-slot-test.false, l.auto.slot-end, k.len-count.ensures, ap (λ (v : TableView). length v.slots) k.self.view_is) in
    sweep_ends n l.self l.ends.items k.sort_by_number.new.ends.items formed (l.invariant.swept ∙ partly_all n l.slot last)
    (l.invariant.found ∙ ap (found (ends_task n) 0) (take_all l.slot n.slots (omega (arith, last)))) k.sort_by_number.ensures.moved k.sort_by_number.ensures.sorted
