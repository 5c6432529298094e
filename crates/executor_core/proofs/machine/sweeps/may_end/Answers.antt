-- The policies let run what waits, where none is to be ended.
use Rattle.std.proofs.Common.{◌≡◌, nat_lt, true, false, inl, inr, sym, ap, ◌∙◌, ◌⊎◌, arith}
use Rattle.std.proofs.lemmas.Bool.Decides.{nat_tests}
use Rattle.executor_model.proofs.Swept.{not_false}
use Rattle.executor_core.specs.plan_table.Numbered.{tasks_at}
use Rattle.executor_core.specs.plan_table.Tasks.{periodic_in}
use Rattle.executor_core.proofs.Sweeping.{none_barred}
use Rattle.executor_core.proofs.machine.sweeps.may_end.Goals as goal
use Rattle.executor_core.proofs.machine.sweeps.may_end.Goals.{then-not-policies, else-not-policies}

pub returns-then-not-policies-2 : goal.returns-then-not-policies-2
returns-then-not-policies-2 g c =
    let n = c.args.table.now in
    let running : n.stopped ≡ false = sym c.is_stopped.ensures ∙ c.if-is_stopped.false in
    let runs : (n.policies.continues ≡ true) ⊎ (periodic_in (tasks_at n.slots) ≡ 0) = elim c.if-not-policies.branch [
      | then-not-policies w ↦
          let more : nat_lt 0 w.periodic.result ≡ false = sym w.value-is ∙ c.if-periodic-gt0.false in
          let none : w.periodic.result ≡ 0 = grind (arith, nat_tests, more) in
          inr (ap (λ l. periodic_in (tasks_at l)) (sym w.stored.ensures) ∙ (ap periodic_in w.periodic.ensures.same ∙ (sym w.periodic.ensures.value ∙ none)))
      | else-not-policies w ↦ inl (ap (λ p. p.continues) (sym c.policies-policies.ensures) ∙ not_false c.policies-policies.result.continues w.if-not-policies.false)
    ]
    in
    λ q. none_barred n running runs (inr (c.requires (not_false c.args.sought q)))

pub returns-else-not-policies-2 : goal.returns-else-not-policies-2
returns-else-not-policies-2 g c =
    let n = c.args.table.now in
    let running : n.stopped ≡ false = sym c.is_stopped.ensures ∙ c.if-is_stopped.false in
    let runs : (n.policies.continues ≡ true) ⊎ (periodic_in (tasks_at n.slots) ≡ 0) = elim c.if-not-policies.branch [
      | then-not-policies w ↦
          let more : nat_lt 0 w.periodic.result ≡ false = sym w.value-is ∙ c.if-periodic-gt0.false in
          let none : w.periodic.result ≡ 0 = grind (arith, nat_tests, more) in
          inr (ap (λ l. periodic_in (tasks_at l)) (sym w.stored.ensures) ∙ (ap periodic_in w.periodic.ensures.same ∙ (sym w.periodic.ensures.value ∙ none)))
      | else-not-policies w ↦ inl (ap (λ p. p.continues) (sym c.policies-policies.ensures) ∙ not_false c.policies-policies.result.continues w.if-not-policies.false)
    ]
    in
    λ q. none_barred n running runs (inl (ap (λ p. p.executes) (sym c.policies-policies.ensures) ∙ not_false c.policies-policies.result.executes q))
