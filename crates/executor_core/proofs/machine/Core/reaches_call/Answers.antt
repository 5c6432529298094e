use Rattle.std.proofs.Common.{◌≡◌, ◌&&◌, true, Some, None, sym, ap, rules, arith}
use Rattle.std.specs.Prelude.{slice_get, nat_le}
use Rattle.std.proofs.lemmas.Bool.Decides.{nat_tests}
use Rattle.sched_time.specs.Times.{longest}
use Rattle.executor_core.proofs.Opens.{end_reached}
use Rattle.executor_core.proofs.Parts.{told_by, told_unreached}
use Rattle.executor_core.proofs.machine.Core.reaches_call.Goals as goal

pub returns-then-moment-le-LONGEST-clause-comes : goal.returns-then-moment-le-LONGEST-clause-comes
returns-then-moment-le-LONGEST-clause-comes g c =
    let m = c.args.self.now in
    let t = c.in-Clock.moment in
    let is : slice_get m.calls m.made ≡ Some (c.in-Some.at, c.in-Some.field-0-1) = search rules in
    let near : nat_le t longest ≡ true = grind (arith, nat_tests, c.if-moment-le-LONGEST.true) in
    rw c.in-Clock.is (told_by m.calls m.made m.moment t (c.in-Some.at, c.in-Some.field-0-1) (nat_le c.in-Some.at t) c.next_call.ensures.orderly is (c.next_call.ensures.ahead (c.in-Some.at, c.in-Some.field-0-1) is) (ap (λ b. b && nat_le c.in-Some.at t) (sym near))).comes

pub returns-in-None-clause-comes : goal.returns-in-None-clause-comes
returns-in-None-clause-comes g c =
    let m = c.args.self.now in
    let t = c.in-Clock.moment in
    let over : slice_get m.calls m.made ≡ None = search rules in
    rw c.in-Clock.is (told_unreached m.calls m.made m.moment t c.next_call.ensures.orderly (end_reached m.calls m.made t over)).comes

pub returns-then-moment-le-LONGEST-clause-call : goal.returns-then-moment-le-LONGEST-clause-call
returns-then-moment-le-LONGEST-clause-call g c =
    let m = c.args.self.now in
    let t = c.in-Clock.moment in
    let is : slice_get m.calls m.made ≡ Some (c.in-Some.at, c.in-Some.field-0-1) = search rules in
    let near : nat_le t longest ≡ true = grind (arith, nat_tests, c.if-moment-le-LONGEST.true) in
    rw c.in-Clock.is (told_by m.calls m.made m.moment t (c.in-Some.at, c.in-Some.field-0-1) (nat_le c.in-Some.at t) c.next_call.ensures.orderly is (c.next_call.ensures.ahead (c.in-Some.at, c.in-Some.field-0-1) is) (ap (λ b. b && nat_le c.in-Some.at t) (sym near))).call

pub returns-in-None-clause-call : goal.returns-in-None-clause-call
returns-in-None-clause-call g c =
    let m = c.args.self.now in
    let t = c.in-Clock.moment in
    let over : slice_get m.calls m.made ≡ None = search rules in
    rw c.in-Clock.is (told_unreached m.calls m.made m.moment t c.next_call.ensures.orderly (end_reached m.calls m.made t over)).call

pub returns-then-moment-le-LONGEST-clause-event : goal.returns-then-moment-le-LONGEST-clause-event
returns-then-moment-le-LONGEST-clause-event g c =
    let m = c.args.self.now in
    let t = c.in-Clock.moment in
    let is : slice_get m.calls m.made ≡ Some (c.in-Some.at, c.in-Some.field-0-1) = search rules in
    let near : nat_le t longest ≡ true = grind (arith, nat_tests, c.if-moment-le-LONGEST.true) in
    rw c.in-Clock.is (told_by m.calls m.made m.moment t (c.in-Some.at, c.in-Some.field-0-1) (nat_le c.in-Some.at t) c.next_call.ensures.orderly is (c.next_call.ensures.ahead (c.in-Some.at, c.in-Some.field-0-1) is) (ap (λ b. b && nat_le c.in-Some.at t) (sym near))).alone

pub returns-in-None-clause-event : goal.returns-in-None-clause-event
returns-in-None-clause-event g c =
    let m = c.args.self.now in
    let t = c.in-Clock.moment in
    let over : slice_get m.calls m.made ≡ None = search rules in
    rw c.in-Clock.is (told_unreached m.calls m.made m.moment t c.next_call.ensures.orderly (end_reached m.calls m.made t over)).alone
