use Rattle.std.proofs.Common.{◌^◌, arith, codes}
use Rattle.trace_text.specs.Reading.{Below, number_then}
use Rattle.trace_text.proofs.Parts.{number_once}
use Rattle.snapshot_text.specs.Spelling.{FitsSpan}
use Rattle.snapshot_text.proofs.Fields.{none_within}
use Rattle.snapshot_text.proofs.Tasks.{span_small}
use Rattle.snapshot_text.proofs.task.span_before.Goals as goal

pub returns-in_default-span_of_nanos : goal.returns-in_default-span_of_nanos
returns-in_default-span_of_nanos c =
    none_within (number_then (codes " ")) (Below (2 ^ 64)) FitsSpan span_small (number_once (2 ^ 64) (codes " ") (omega arith) (λ r. omega (arith, r)) (omega arith))
    c.args.bytes.now c.in-Some.rest.now c.in-Some.number c.in-Some.ensures (λ f. omega (arith, f, c.in_default-span_of_nanos.ensures.long))
