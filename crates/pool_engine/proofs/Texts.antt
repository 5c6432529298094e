-- Texts: a text that was given out, and then what was left of it; and what the tries at both count.
use Rattle.std.proofs.Common.{◌≡◌, ℕ, ◌+◌, List, [], ◌++◌, Bool, true, false, Option, length, take, ap, ◌∙◌, sym, subst}
use Rattle.std.specs.Io.KnownBytes.{Appends}
use Rattle.byte_ends.specs.Ends.{AllGood, CountsTries, WritesText}
use Rattle.sched_engine.specs.Pieces.{Gives}
use Rattle.sched_engine.proofs.Runs.{gave, gave_front}
use Rattle.byte_ends.proofs.Tries.{good_then_bad, good_then_good}
use Rattle.pool_engine.specs.own.Ended.{TextWritten}

-- a text was given out with none at hand before, and then what was left at hand was written
pub text_written : (r : Bool) (a b c : Option (List ℕ)) (draft left bytes text : List ℕ) → draft ≡ [] → Gives (record { contents = a; text = draft }) (record { contents = b; text = left }) text
    → bytes ≡ left → WritesText r b c bytes → TextWritten r a c text
text_written true a b c draft left bytes text none given same wrote =
    let whole : given.0 ++ bytes ≡ text = ap (λ l. given.0 ++ l) same ∙ (sym given.2 ∙ ap (λ l. l ++ text) none) in
    subst (Appends a c) whole (gave a b c given.0 bytes given.1 wrote)
text_written false a b c draft left bytes text none given same wrote =
    let whole : given.0 ++ bytes ≡ text = ap (λ l. given.0 ++ l) same ∙ (sym given.2 ∙ ap (λ l. l ++ text) none) in
    (length given.0 + wrote.0, subst (λ l. Appends a c (take (length given.0 + wrote.0) l)) whole (gave_front a b c given.0 bytes wrote.0 given.1 wrote.2))

-- tries one behind the other, of which the last was good or bad
pub counts_then : (r : Bool) (f n f' n' f'' n'' : ℕ) → AllGood f n f' n' → CountsTries r f' n' f'' n'' → CountsTries r f n f'' n''
counts_then true f n f' n' f'' n'' p q = good_then_good f n f' n' f'' n'' p q
counts_then false f n f' n' f'' n'' p q = good_then_bad f n f' n' f'' n'' p q
