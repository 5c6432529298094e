use Rattle.std.proofs.Common.{◌^◌, arith}
use Rattle.snapshot_text.specs.Spelling.{FitTwo, size_text}
use Rattle.snapshot_text.proofs.Fields.{none_within}
use Rattle.snapshot_text.proofs.Heads.{size_within, sizes_once}
use Rattle.snapshot_text.proofs.front.split_size.Goals as goal

pub returns-then-size : goal.returns-then-size
returns-then-size c =
    none_within size_text (FitTwo (2 ^ 64) (2 ^ 64)) (FitTwo (2 ^ 8) (2 ^ 32)) size_within sizes_once
    c.args.bytes.now c.in-Some.rest.now c.in-Some.size c.in-Some.ensures (λ f. omega (arith, f.0, c.if-size.true))

pub returns-then-size-2 : goal.returns-then-size-2
returns-then-size-2 c =
    none_within size_text (FitTwo (2 ^ 64) (2 ^ 64)) (FitTwo (2 ^ 8) (2 ^ 32)) size_within sizes_once
    c.args.bytes.now c.in-Some.rest.now c.in-Some.size c.in-Some.ensures (λ f. omega (arith, f.1, c.if-size-2.true))
