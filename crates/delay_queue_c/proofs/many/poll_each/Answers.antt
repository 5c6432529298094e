use Rattle.std.proofs.Common.{rules, arith, ◌∙◌, sym, ◌+◌, List, take, subst}
use Rattle.std.proofs.lemmas.List.{take_more_set, drop-set-lt}
use Rattle.std.proofs.lemmas.Grind.{drop_more_same}
use Rattle.delay_queue_c.specs.Slots.{Polls, PollsEach}
use Rattle.delay_queue_c.specs.declared.entry.DqEntry.{DqEntry}
use Rattle.delay_queue_c.proofs.Each.{polls_more}
use Rattle.delay_queue_c.proofs.many.poll_each.Goals as goal

pub loop-count-preserved : goal.loop-count-preserved
loop-count-preserved c =
    let places = c.loop-count.out in let next : DqEntry = c.of.result in
    let one : Polls c.loop-count.queue c.args.now next c.poll.new.self = record {
      least = search rules;
      due = search rules;
      removed = search rules;
      touched = search rules;
    } in
    record {
      within = search rules;
      room = search rules;
      tasks = search rules;
      polled = subst (λ (es : List DqEntry). PollsEach c.args.queue.now c.args.now es c.poll.new.self) (sym (take_more_set places c.loop-count.count next (search rules)))
          (polls_more c.args.queue.now c.args.now c.loop-count.queue (take c.loop-count.count places) next c.poll.new.self c.loop-count.invariant.polled one);
      unwritten = drop-set-lt (c.loop-count.count + 1) places c.loop-count.count next (omega arith) ∙ drop_more_same places c.args.out.now c.loop-count.count c.loop-count.invariant.unwritten;
    }
