-- Tries: what tries of an end count, one behind the other.
use Rattle.std.proofs.Common.{ℕ, ◌+◌, inl, inr, refl, ◌∙◌, arith}
use Rattle.byte_ends.specs.Ends.{AllGood, IsBadTry, IsGoodTry, LastBad, NoneFailed, OneFailed, RisesBy}

-- ---- calls, and then more of them

rises_on : (a b c c' c'' : ℕ) → RisesBy a c c' → RisesBy b c' c'' → RisesBy (a + b) c c''
rises_on a b c c' c'' p q = omega (arith, p, q)

none_then_none : (a b f r f' r' f'' r'' : ℕ) → NoneFailed a f r f' r' → NoneFailed b f' r' f'' r'' → NoneFailed (a + b) f r f'' r''
none_then_none a b f r f' r' f'' r'' p q = (q.0 ∙ p.0, rises_on a b r r' r'' p.1 q.1)

none_then_one : (a b f r f' r' f'' r'' : ℕ) → NoneFailed a f r f' r' → OneFailed b f' r' f'' r'' → OneFailed (a + b) f r f'' r''
none_then_one a b f r f' r' f'' r'' p q = (omega (arith, p.0, q.0), rises_on a b r r' r'' p.1 q.1)

pub no_call : (f r : ℕ) → NoneFailed 0 f r f r
no_call f r = (refl, omega arith)

-- ---- tries, and then more of them

pub no_try : (f r : ℕ) → AllGood f r f r
no_try f r = (0, no_call f r)

pub good_try : (f r f' r' : ℕ) → IsGoodTry f r f' r' → AllGood f r f' r'
good_try f r f' r' p = (p.0, p.2)

pub bad_try : (f r f' r' : ℕ) → IsBadTry f r f' r' → LastBad f r f' r'
bad_try f r f' r' (inl p) = inl (p.0, p.2)
bad_try f r f' r' (inr p) = inr (1000, omega arith, p)

pub good_then_good : (f r f' r' f'' r'' : ℕ) → AllGood f r f' r' → AllGood f' r' f'' r'' → AllGood f r f'' r''
good_then_good f r f' r' f'' r'' p q = (p.0 + q.0, none_then_none p.0 q.0 f r f' r' f'' r'' p.1 q.1)

pub good_then_bad : (f r f' r' f'' r'' : ℕ) → AllGood f r f' r' → LastBad f' r' f'' r'' → LastBad f r f'' r''
good_then_bad f r f' r' f'' r'' p (inl q) = inl (p.0 + q.0, none_then_one p.0 q.0 f r f' r' f'' r'' p.1 q.1)
good_then_bad f r f' r' f'' r'' p (inr q) = inr (p.0 + q.0, omega (arith, q.1), none_then_none p.0 q.0 f r f' r' f'' r'' p.1 q.2)

-- a bad try is no standstill of two counts of 0
pub no_bad : LastBad 0 0 0 0 → ⊥
no_bad (inl p) = omega (arith, p.1.0)
no_bad (inr p) = omega (arith, p.1, p.2.1)
