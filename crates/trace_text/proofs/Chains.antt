-- Chains: texts that are put one behind the other.
use Rattle.std.proofs.Common.{◌≡◌, ℕ, ◌+◌, ◌≤◌, List, ◌++◌, take, drop, length, ap, ◌∙◌, sym, arith, append_assoc}
use Rattle.std.specs.Fmt.{decimal}
use Rattle.std.proofs.Math.Seq.{take-append_seam}
use Rattle.trace_text.proofs.Texts.{take_add}
use Rattle.trace_text.specs.Writing.{Puts}

-- a text, and then more
pub next : {old mid new a b : List ℕ} → Puts old mid a → Puts mid new b → Puts old new (a ++ b)
next {old} {mid} {new} {a} {b} first more = record { is = more.is ∙ (ap (λ l. l ++ b) first.is ∙ append_assoc old a b) }

-- three texts that were put as one, and then more
pub next_three : {old mid new d : List ℕ} (a b c : List ℕ) → Puts old mid (a ++ (b ++ c)) → Puts mid new d → Puts old new (a ++ (b ++ (c ++ d)))
next_three {old} {mid} {new} {d} a b c first more =
    record { is = (next first more).is ∙ ap (λ l. old ++ l) (append_assoc a (b ++ c) d ∙ ap (λ l. a ++ l) (append_assoc b c d)) }

-- a number that was put so that it ends at `end`
pub number_put : (old new : List ℕ) (at end start n : ℕ) → at ≤ length old → end ≡ at + length (decimal n) → start + length (decimal n) ≡ end → drop start new ≡ decimal n ++ drop end old
    → take start new ≡ take start old → Puts (take at old) (take end new) (decimal n)
number_put old new at end start n within is started written before =
    let same : start ≡ at = omega (arith, is, started) in
    let behind : drop at new ≡ decimal n ++ drop end old = ap (λ k. drop k new) (sym same) ∙ written in
    let front : take at new ≡ take at old = ap (λ k. take k new) (sym same) ∙ before ∙ ap (λ k. take k old) same in
    record {
      is =
          ap (λ k. take k new) is
          ∙ (sym (take_add at (length (decimal n)) new)
          ∙ (ap (λ l. l ++ take (length (decimal n)) (drop at new)) front ∙ ap (λ l. take at old ++ l) (ap (take (length (decimal n))) behind ∙ take-append_seam (decimal n) (drop end old))));
    }
