-- The first task that is due begins its run, or the worker is idle.
use Rattle.std.proofs.Common.{Some, None, refl, sym, subst, ◌∙◌}
use Rattle.std.proofs.lemmas.Option.{same_Some}
use Rattle.executor_model.specs.declared.types.Answer.TheVariants as a
use Rattle.executor_model.specs.declared.types.Happening.TheVariants as h
use Rattle.executor_model.specs.Answers.{bare}
use Rattle.task_table.specs.Tables.{EventStepsBefore}
use Rattle.task_table.specs.Firsts.{IsFirstDue}
use Rattle.task_table.proofs.Starts.{idle_steps, start_steps}
use Rattle.task_table.proofs.table.Table.start_free.Goals as goal

pub returns-in_default-clause-started : goal.returns-in_default-clause-started
returns-in_default-clause-started g k =
    let free = k.requires.free in
    let none = k.in_default.ensures.none in
    record { free = free; none = none; is = refl; steps = idle_steps k.args.self.now k.args.worker k.first_due.ensures.formed free.0 free.1 none (k.requires.met None none) }

pub returns-clause-started : goal.returns-clause-started
returns-clause-started g k =
    let x = k.args in
    let n = x.self.now in
    let seat = k.held-seat.result in
    let f = k.in-Some.ensures.first in
    let slot = k.in-Some.first.slot in
    let first : IsFirstDue n slot seat = subst (IsFirstDue n slot) (same_Some f.task seat (sym f.first.there ∙ k.held-seat.ensures.held)) f.first in
    record {
      free = k.requires.free;
      task = seat;
      first = first;
      number = refl;
      run = refl;
      due = refl;
      is = k.begin.ensures;
      steps = subst (λ v. EventStepsBefore n v (h.Start x.worker) (bare (a.Start x.worker seat.number seat.run seat.due))) (sym k.begin.ensures)
          (start_steps n x.worker slot seat k.held-seat.ensures.formed k.requires.free.0 k.requires.free.1 first (k.requires.met (Some seat) (slot, first)));
    }
