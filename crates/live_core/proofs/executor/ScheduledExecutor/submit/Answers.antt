-- A submission where the executor is shut is made, and rejected.
use Rattle.sched_time.specs.Times.{longest}
use Rattle.std.proofs.Common.{◌≡◌, ◌≤◌, rules, arith, sym, ap, subst, ◌∙◌}
use Rattle.std.specs.Prelude.{not, true}
use Rattle.queue_code.specs.declared.call.CodeCall.TheVariants as call
use Rattle.live_core.specs.declared.answers.Submitted.{Submitted}
use Rattle.live_core.specs.Lives.{Calls}
use Rattle.live_core.specs.Said.{SlotsFor, number_of, has_task, submit_reply}
use Rattle.live_core.proofs.executor.ScheduledExecutor.submit.Goals as goal

pub returns-then-is_shut-clause-made : goal.returns-then-is_shut-clause-made
returns-then-is_shut-clause-made g c =
    let m = c.args.self.now in
    let new = c.reject.new.self in
    let s = c.reject.result in
    let short : c.args.delay ≤ longest = omega (arith, c.if-delay-gt-LONGEST.false) in
    let shut : m.table.shut ≡ true = search rules in
    record {
      short = (short, c.requires);
      near = omega (arith, c.moment_of-moment.ensures, c.if-moment-gt-LONGEST.false);
      number = ap number_of c.reject.ensures.number;
      numbers = search rules;
      accepts = ap has_task c.reject.ensures.number ∙ sym (ap not shut);
      makes = subst (λ t. Calls m new (t, call.Submit m.count c.args.timing c.args.delay) (submit_reply c.args.timing s)) c.moment_of-moment.ensures (c.reject.ensures.made c.args.timing c.args.delay short c.requires);
      seated = c.reject.ensures.seated;
      slots = subst (λ (x : Submitted). SlotsFor m.table.slots new.table.slots x) (sym c.reject.ensures.number) c.reject.ensures.slots;
    }
