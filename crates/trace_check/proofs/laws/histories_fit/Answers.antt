use Rattle.trace_check.proofs.Fitting
use Rattle.trace_check.proofs.laws.histories_fit.Goals as goal

pub returns : goal.returns
returns c = Fitting.histories_fit
