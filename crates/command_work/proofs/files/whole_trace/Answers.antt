use Rattle.std.proofs.Common.{ap, ◌≡◌, ◌<◌, ◌≤◌, ◌∙◌, arith, ℕ, List, length, Option, Some, None, take}
use Rattle.std.specs.Prelude.{IfSome}
use Rattle.std.proofs.lemmas.List.{length-take, take_all}
use Rattle.trace_check.specs.Standing.{most_bytes}
use Rattle.command_work.proofs.files.whole_trace.Goals as goal

-- a front with as many bytes as it may have shows that there are as many
is_long : (known : Option (List ℕ)) (text : List ℕ) → IfSome known (λ bytes. text ≡ take 67108865 bytes) → 67108865 ≤ length text → IfSome known (λ bytes. most_bytes < length bytes)
is_long None text front long = front
is_long (Some bytes) text front long = omega (arith, ap length front, length-take 67108865 bytes, long)

-- a front with fewer bytes than it may have is all there is
is_all : (known : Option (List ℕ)) (text : List ℕ) → IfSome known (λ bytes. text ≡ take 67108865 bytes) → length text < 67108865 → IfSome known (λ bytes. text ≡ bytes)
is_all None text front short = front
is_all (Some bytes) text front short =
    front ∙ take_all 67108865 bytes (omega (arith, ap length front, length-take 67108865 bytes, short))

pub returns-then-len-ge-MOST_OF_TRACE-clause-long : goal.returns-then-len-ge-MOST_OF_TRACE-clause-long
returns-then-len-ge-MOST_OF_TRACE-clause-long g c = λ q. is_long (g.P.Source.remaining c.args.file.now) c.in_ok-text.text.items c.in_ok-text.ensures.text (omega (arith, c.if-len-ge-MOST_OF_TRACE.true, c.len.ensures, c.in_ok-text.text.ok.0))

pub returns-clause-text : goal.returns-clause-text
returns-clause-text g c = is_all (g.P.Source.remaining c.args.file.now) c.in_ok-text.text.items c.in_ok-text.ensures.text (omega (arith, c.if-len-ge-MOST_OF_TRACE.false, c.len.ensures, c.in_ok-text.text.ok.0))
