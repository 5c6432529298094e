use Rattle.std.proofs.Common.{◌≡◌, List, ℕ, rules, subst, sym}
use Rattle.command_work.proofs.OneLines.{front_is_one}
use Rattle.command_work.specs.Refusals.{IsOneLine, front_line}
use Rattle.command_work.proofs.refusal.Refusal.new.Goals as goal

pub invariant_of-result : goal.invariant_of-result
invariant_of-result c =
    let line : c.push.new.self.items ≡ front_line c.args.text.now = search rules in
    record { one = subst IsOneLine (sym line) (front_is_one c.args.text.now (search rules)) }
