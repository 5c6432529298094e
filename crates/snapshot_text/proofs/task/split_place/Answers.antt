use Rattle.std.proofs.Common.{◌^◌, arith, codes}
use Rattle.snapshot_text.specs.Spelling.{FitTwo, two_text}
use Rattle.snapshot_text.proofs.Fields.{none_within}
use Rattle.snapshot_text.proofs.Tasks.{place_within, places_once}
use Rattle.snapshot_text.proofs.task.split_place.Goals as goal

pub returns-then-place : goal.returns-then-place
returns-then-place c =
    none_within (two_text (codes "task ") (codes " slot ") (codes " ")) (FitTwo (2 ^ 64) (2 ^ 64)) (FitTwo (2 ^ 64) (2 ^ 32)) place_within places_once
    c.args.bytes.now c.in-Some.rest.now c.in-Some.place c.in-Some.ensures (λ f. omega (arith, f.1, c.if-place.true))
