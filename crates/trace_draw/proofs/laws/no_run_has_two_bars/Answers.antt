use Rattle.trace_draw.proofs.Runs
use Rattle.trace_draw.proofs.laws.no_run_has_two_bars.Goals as goal

pub returns : goal.returns
returns c = Runs.no_run_has_two_bars
