use Rattle.trace_check.proofs.Traces
use Rattle.trace_check.proofs.laws.traces_go.Goals as goal

pub returns : goal.returns
returns c = Traces.traces_go
