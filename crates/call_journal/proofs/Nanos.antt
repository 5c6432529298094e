-- Times in nanoseconds: each unit that stands in a table is "ns", and what is written of a span is that span.
use Rattle.std.proofs.Common.{◌≡◌, ◌⊎◌, ◌<◌, ◌≤◌, ◌*◌, ℕ, zero, suc, pos, Bool, true, false, List, Option, Some, None, bytes_eq, codes, refl, sym, ap, ◌∙◌, inl, inr, arith}
use Rattle.toml.specs.Data.{Data, string, integer, Members, get_member}
use Rattle.sched_time.specs.Times.{longest, period_of}
use Rattle.sched_time.specs.declared.unit.Unit.TheVariants.{Ns}
use Rattle.plan_read.specs.declared.versions.Version.TheVariants.{Two}
use Rattle.plan_read.specs.Keys.{unit_key, unit_of_word}
use Rattle.plan_read.specs.Writes.{Has, UnitAt, HaveUnits, SpanAt, DelayAt, PeriodAt}
use Rattle.plan_read.proofs.MigratedLookups.{one_word}
use Rattle.call_journal.specs.Plans.{written}

-- ---- units

-- no unit, or nanoseconds
abbrev pub is_nanos : Option Data → Bool
is_nanos None = true
is_nanos (Some (string word)) = bytes_eq word (codes "ns")
is_nanos _ = false

-- it is so at a key
abbrev pub NanosAt : List ℕ → Members → Type 0
NanosAt key ms = is_nanos (get_member key ms) ≡ true

-- it is so of all times
abbrev pub AreInNanos : Members → Type 0
AreInNanos ms =
    NanosAt (codes "at_unit") ms × NanosAt (codes "every_unit") ms × NanosAt (codes "delay_unit") ms × NanosAt (codes "first_unit") ms × NanosAt (codes "period_unit") ms

unit_found : (o : Option Data) → is_nanos o ≡ true
    → (word : List ℕ) × ((o ≡ Some (string word)) ⊎ ((o ≡ None) × (word ≡ codes "ns"))) × (unit_of_word Two word ≡ Some Ns)
unit_found None h = (codes "ns", inr (refl, refl), refl)
unit_found (Some (string word)) h = (codes "ns", inl (ap (λ (w : List ℕ). Some (string w)) (one_word word (codes "ns") h)), refl)
unit_found (Some d) h = absurd (cc)

-- the unit at a key
pub nanos_at : (key : List ℕ) (ms : Members) → NanosAt key ms → UnitAt Two key ms Ns
nanos_at key ms h = unit_found (get_member key ms) h

-- each time has a unit
pub have_units : (ms : Members) → AreInNanos ms → HaveUnits Two ms
have_units ms h = (
  (Ns, nanos_at (codes "at_unit") ms h.0),
  (
    (Ns, nanos_at (codes "every_unit") ms h.1),
    (
      (Ns, nanos_at (codes "delay_unit") ms h.2),
      (
        (Ns, nanos_at (codes "first_unit") ms h.3),
        (
          (Ns, nanos_at (codes "period_unit") ms h.4),
          tt,
        ),
      ),
    ),
  ),
)

-- ---- spans

-- a span that is within the limit is written as it is
pub written_is : (n : ℕ) → n ≤ longest → written n ≡ n
written_is n h = grind (arith, h)

once : (n : ℕ) → n ≡ n * 1
once n = omega arith

-- an offset or a moment of nothing
pub no_span : (key : List ℕ) (ms : Members) → NanosAt (unit_key key) ms → get_member key ms ≡ None → SpanAt Two Ns key ms 0
no_span key ms unit none = (Ns, nanos_at (unit_key key) ms unit, 0, inr (none, refl), refl, omega arith)

-- a span at a key
pub span_is : (key : List ℕ) (ms : Members) (n : ℕ) → NanosAt (unit_key key) ms → Has ms key (integer (pos (written n))) → n ≤ longest → SpanAt Two Ns key ms n
span_is key ms n unit has short =
    (Ns, nanos_at (unit_key key) ms unit, n, inl (has ∙ ap (λ (k : ℕ). Some (integer (pos k))) (written_is n short)), once n, short)

-- a delay at a key
pub delay_is : (key : List ℕ) (ms : Members) (n : ℕ) → NanosAt (unit_key key) ms → Has ms key (integer (pos (written n))) → n ≤ longest → DelayAt Two Ns key ms n
delay_is key ms n unit has short =
    (Ns, nanos_at (unit_key key) ms unit, pos n, has ∙ ap (λ (k : ℕ). Some (integer (pos k))) (written_is n short), once n, short)

period_found : (n : ℕ) → 0 < n → period_of (pos n) Ns ≡ Some n
period_found zero h = absurd (omega (arith, h))
period_found (suc n) h = ap (λ (k : ℕ). Some k) (sym (once (suc n)))

-- a period at a key
pub period_is : (key : List ℕ) (ms : Members) (n : ℕ) → NanosAt (unit_key key) ms → Has ms key (integer (pos (written n))) → 0 < n → n ≤ longest → PeriodAt Two Ns key ms (Some n)
period_is key ms n unit has some short =
    let within : n * 1 ≤ longest = omega (arith, short) in
    (Ns, nanos_at (unit_key key) ms unit, pos n, has ∙ ap (λ (k : ℕ). Some (integer (pos k))) (written_is n short), sym (period_found n some), within)
