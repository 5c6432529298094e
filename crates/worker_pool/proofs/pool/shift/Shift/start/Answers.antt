use Rattle.std.proofs.Common.{◌≡◌, ◌∙◌, Bool, true, false, if◌then◌else◌, refl, sym, ap, rules}
use Rattle.std.specs.Prelude.{is_some}
use Rattle.worker_pool.specs.own.Shifts.{one_more}
use Rattle.worker_pool.proofs.Shifting.{took}
use Rattle.worker_pool.proofs.pool.shift.Shift.start.Goals as goal

pub returns-then-is_some-clause-taken : goal.returns-then-is_some-clause-taken
returns-then-is_some-clause-taken g c =
    let r = c.args.self.now.running in
    let got : is_some c.in-Ok.applied.work ≡ true = search rules in
    let one : c.saturating_add-self.result ≡ one_more r = search rules in
    record {
      work = c.requires.work;
      took = took _ _ _ _ c.in-Ok.ensures.applied;
      stage = refl;
      running = one ∙ sym (ap (λ (b : Bool). if b then one_more r else r) got);
      fault = refl;
      sleepers = refl;
    }

pub returns-else-is_some-clause-taken : goal.returns-else-is_some-clause-taken
returns-else-is_some-clause-taken g c =
    let r = c.args.self.now.running in
    let got : is_some c.in-Ok.applied.work ≡ false = search rules in
    record {
      work = c.requires.work;
      took = took _ _ _ _ c.in-Ok.ensures.applied;
      stage = refl;
      running = sym (ap (λ (b : Bool). if b then one_more r else r) got);
      fault = refl;
      sleepers = refl;
    }
