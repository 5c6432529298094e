use Rattle.trace_draw.proofs.Spelled
use Rattle.trace_draw.proofs.laws.conforming_texts_are_traces.Goals as goal

pub returns : goal.returns
returns c = Spelled.conforming_texts_are_traces
