use Rattle.std.proofs.Common.{rules, refl, sym, List, take, subst, slice_index_or}
use Rattle.std.proofs.lemmas.List.{take_more}
use Rattle.delay_queue_c.specs.Slots.{Inserts, InsertsEach}
use Rattle.delay_queue_c.specs.declared.entry.DqEntry.{DqEntry}
use Rattle.delay_queue_c.proofs.Each.{inserts_more}
use Rattle.delay_queue_c.proofs.many.insert_each.Goals as goal

pub loop-count-preserved : goal.loop-count-preserved
loop-count-preserved c =
    let entries = c.args.entries.now in let none : DqEntry = record { due = 0; task = 0 } in
    let next : DqEntry = slice_index_or entries c.loop-count.count none in
    let one : Inserts c.loop-count.queue next c.insert_into.new.queue = record {
      admitted = sym c.in-Done.ensures.answers;
      inserted = c.in-Done.ensures.inserted refl;
      touched = c.in-Done.ensures.touched refl;
    } in
    record {
      within = search rules;
      tasks = search rules;
      added = subst (λ (es : List DqEntry). InsertsEach c.args.queue.now es c.insert_into.new.queue) (sym (take_more entries c.loop-count.count none c.loop-count-test.true))
          (inserts_more c.args.queue.now c.loop-count.queue (take c.loop-count.count entries) next c.insert_into.new.queue c.loop-count.invariant.added one);
    }
