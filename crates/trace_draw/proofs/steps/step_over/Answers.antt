use Rattle.std.proofs.Common.{ap, ◌∙◌}
use Rattle.std.specs.Prelude.{unwrap_or}
use Rattle.sched_time.specs.declared.unit.Unit.TheVariants.{Day}
use Rattle.trace_draw.specs.Ticks.{steps}
use Rattle.trace_draw.proofs.steps.step_over.Goals as goal

pub returns-clause-step : goal.returns-clause-step
unfolding steps
returns-clause-step c = c.unwrap_or.ensures ∙ ap (λ r. unwrap_or r (50000, Day)) c.first_over.ensures
