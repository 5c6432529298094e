use Rattle.std.proofs.Common.{◌≡◌, Some, None, refl, arith, rules, false}
use Rattle.std.specs.Prelude.{slice_get, nat_le}
use Rattle.std.proofs.lemmas.Bool.{le-leb}
use Rattle.std.proofs.lemmas.Bool.Decides.{nat_tests}
use Rattle.std.proofs.lemmas.Option.{slice_get_within}
use Rattle.executor_model.proofs.Tables.{call_moment}
use Rattle.executor_core.proofs.Needing.{all_made}
use Rattle.executor_core.proofs.Opens.{end_reached, tells_next, tells_none}
use Rattle.executor_core.proofs.machine.Core.call_need.Goals as goal

pub returns-then-moment-at-clause-none : goal.returns-then-moment-at-clause-none
returns-then-moment-at-clause-none g c =
    let old = c.args.self.now in
    let is : slice_get old.calls old.made ≡ Some (c.in_ok-at.at, c.in_ok-at.call) = search rules in
    (λ q. all_made old.calls old.made c.args.moment (c.in_ok-at.at, c.in_ok-at.call) c.next_call.ensures.orderly is c.if-moment-at.true, λ made. refl)

pub returns-then-moment-at-clause-last : goal.returns-then-moment-at-clause-last
returns-then-moment-at-clause-last g c = λ q far.
    let old = c.args.self.now in
    let is : slice_get old.calls old.made ≡ Some (c.in_ok-at.at, c.in_ok-at.call) = search rules in
    absurd (omega (arith, far, c.if-moment-at.true, call_moment old.calls 0 0 old.made c.in_ok-at.at c.in_ok-at.call c.next_call.ensures.orderly is))

pub returns-clause-left : goal.returns-clause-left
returns-clause-left g c =
    let old = c.args.self.now in
    let is : slice_get old.calls old.made ≡ Some (c.in_ok-at.at, c.in_ok-at.call) = search rules in
    slice_get_within old.calls old.made (c.in_ok-at.at, c.in_ok-at.call) is

pub returns-clause-next : goal.returns-clause-next
returns-clause-next g c =
    let old = c.args.self.now in
    let is : slice_get old.calls old.made ≡ Some (c.in_ok-at.at, c.in_ok-at.call) = search rules in
    tells_next old.calls old.made c.args.moment (c.in_ok-at.at, c.in_ok-at.call) c.next_call.ensures.orderly is (le-leb c.in_ok-at.at c.args.moment (omega (arith, c.if-moment-at.false)))

pub returns-in_err-at-clause-over : goal.returns-in_err-at-clause-over
returns-in_err-at-clause-over g c = λ q.
    let old = c.args.self.now in
    let none : slice_get old.calls old.made ≡ None = search rules in
    end_reached old.calls old.made c.args.moment none

pub returns-then-moment-at-clause-over : goal.returns-then-moment-at-clause-over
returns-then-moment-at-clause-over g c = λ q.
    let old = c.args.self.now in
    let is : slice_get old.calls old.made ≡ Some (c.in_ok-at.at, c.in_ok-at.call) = search rules in
    let later : nat_le c.in_ok-at.at c.args.moment ≡ false = grind (arith, nat_tests, c.if-moment-at.true) in
    tells_none old.calls old.made c.args.moment (c.in_ok-at.at, c.in_ok-at.call) c.next_call.ensures.orderly is later
