-- The sweep comes to each slot.
use Rattle.std.proofs.Common.{◌≡◌, ℕ, ◌<◌, ◌++◌, ◌∷◌, [], true, false, cond, length, vec_len, vec_capacity, refl, sym, ap, ◌∙◌, arith}
use Rattle.std.proofs.lemmas.List.{append-nil}
use Rattle.executor_model.specs.Flows.{end_line}
use Rattle.executor_model.specs.Tasks.{uncancelled_in}
use Rattle.task_table.specs.Seats.{slot_of}
use Rattle.task_table.specs.Tables.{TableView}
use Rattle.task_table.specs.Ends.{ends_at_slot}
use Rattle.executor_core.specs.plan_table.Numbered.{tasks_at}
use Rattle.executor_core.proofs.Sweeping.{partly_count, one_more, unreached_ends, lines_more, fewer_in}
use Rattle.executor_core.proofs.machine.sweeps.end_tasks.Goals as goal
use Rattle.executor_core.proofs.machine.sweeps.end_tasks.Goals.{then-sweep_slot, else-sweep_slot}

pub push_reserved-requires : goal.push_reserved-requires
push_reserved-requires g c =
    let l = c.loop-task in
    let fewer = fewer_in l.table l.task (slot_of l.table.slots l.task) refl in
    let ends : ends_at_slot l.table l.task ≡ true = sym c.sweep_slot.ensures.ends ∙ c.if-sweep_slot.true in
    let one : ◌≡◌ {A = ℕ} (cond (ends_at_slot l.table l.task) 1 0) 1 = ap (λ b. cond b 1 0) ends in
    omega (arith, l.invariant.room, l.invariant.capacity, c.requires.room, fewer, one)

pub overflow_add-task : goal.overflow_add-task
overflow_add-task g c =
    let l = c.loop-task in
    omega (arith, c.loop-task-test.true, c.slots.ensures, ap (λ (v : TableView). length v.slots) l.invariant.swept, partly_count c.args.table.now l.task, c.requires.few)

pub loop-task-preserved : goal.loop-task-preserved
loop-task-preserved g c =
    let n = c.args.table.now in
    let l = c.loop-task in
    let s = c.sweep_slot in
    let low : l.task < length n.slots = omega (arith, c.loop-task-test.true, c.slots.ensures, ap (λ (v : TableView). length v.slots) l.invariant.swept, partly_count n l.task) in
    let swept = one_more n l.table s.new.self l.task l.invariant.swept low s.ensures.swept in
    let fewer = fewer_in l.table l.task (slot_of l.table.slots l.task) refl in
    let left = ap (λ (v : TableView). uncancelled_in (tasks_at v.slots)) s.ensures.swept in
    let ends : s.result ≡ ends_at_slot n l.task = s.ensures.ends ∙ (ap (λ (v : TableView). ends_at_slot v l.task) l.invariant.swept ∙ unreached_ends n l.task) in
    elim c.if-sweep_slot.branch [
      | then-sweep_slot w ↦
          let yes : ends_at_slot n l.task ≡ true = sym ends ∙ w.if-sweep_slot.true in
          let line : w.new.result ≡ end_line n.moment l.task = w.new.ensures ∙ (λ i. end_line ((w.now.ensures.value ∙ ap (λ (v : TableView). v.moment) swept) i) l.task) in
          let adds : c.if-sweep_slot.out.items ≡ l.out.items ++ cond (ends_at_slot n l.task) (end_line n.moment l.task ∷ []) [] =
          ap (λ v. v.items) w.out-is ∙ (w.push_reserved.ensures.items ∙ (λ i. l.out.items ++ cond (sym yes i) (line i ∷ []) []))
          in
          let one : ◌≡◌ {A = ℕ} (cond (ends_at_slot l.table l.task) 1 0) 1 = ap (λ b. cond b 1 0) (sym s.ensures.ends ∙ w.if-sweep_slot.true) in
          record {
            within = omega (arith, low);
            swept = swept;
            lines = lines_more n l.task c.args.out.now.items l.out.items c.if-sweep_slot.out.items l.invariant.lines adds;
            room = omega (arith, l.invariant.room, fewer, left, one, ap vec_len w.out-is, w.push_reserved.ensures.len);
            capacity = ap vec_capacity w.out-is ∙ (w.push_reserved.ensures.capacity ∙ l.invariant.capacity);
          }
      | else-sweep_slot w ↦
          let no : ends_at_slot n l.task ≡ false = sym ends ∙ w.if-sweep_slot.false in
          let adds : c.if-sweep_slot.out.items ≡ l.out.items ++ cond (ends_at_slot n l.task) (end_line n.moment l.task ∷ []) [] =
          ap (λ v. v.items) w.out-is ∙ (sym (append-nil l.out.items) ∙ (λ i. l.out.items ++ cond (sym no i) (end_line n.moment l.task ∷ []) []))
          in
          let none : ◌≡◌ {A = ℕ} (cond (ends_at_slot l.table l.task) 1 0) 0 = ap (λ b. cond b 1 0) (sym s.ensures.ends ∙ w.if-sweep_slot.false) in
          record {
            within = omega (arith, low);
            swept = swept;
            lines = lines_more n l.task c.args.out.now.items l.out.items c.if-sweep_slot.out.items l.invariant.lines adds;
            room = omega (arith, l.invariant.room, fewer, left, none, ap vec_len w.out-is);
            capacity = ap vec_capacity w.out-is ∙ l.invariant.capacity;
          }
    ]
