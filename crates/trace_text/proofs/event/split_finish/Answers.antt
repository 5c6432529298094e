use Rattle.std.proofs.Common.{arith}
use Rattle.trace_text.proofs.EventTexts.{unread_finish, the_finish}
use Rattle.trace_text.proofs.event.split_finish.Goals as goal

pub returns-then-number : goal.returns-then-number
returns-then-number c =
    let front = c.in-Some.ensures in
    unread_finish c.args.bytes.now (λ w e tail small fits h.
    let one = the_finish c.args.bytes.now c.in-Some.rest.now c.in-Some.number front.0 front.1 front.2 w e tail small fits h in
    absurd (omega (arith, one.0, c.if-number.true, small)))

pub returns-in_default-split_ending : goal.returns-in_default-split_ending
returns-in_default-split_ending c =
    let front = c.in-Some.ensures in
    unread_finish c.args.bytes.now (λ w e tail small fits h.
    let one = the_finish c.args.bytes.now c.in-Some.rest.now c.in-Some.number front.0 front.1 front.2 w e tail small fits h in
    c.in_default-split_ending.ensures e tail fits one.1)
