-- The times of a table of version 1 are those of the table with units in version 2.
use Rattle.std.proofs.Common.{◌≡◌, ◌≤◌, ℕ, ◌*◌, ℤ, pos, Bool, true, false, cond, List, [], ◌∷◌, Option, None, Some, codes, bytes_eq, refl, subst, sym, ap, ◌∙◌, inl, inr, arith}
use Rattle.std.specs.List.{AllByRecursion}
use Rattle.toml.specs.Data.{Data, integer, Members, get_member}
use Rattle.sched_time.specs.Times.{longest, nanos_of, span_of, period_of}
use Rattle.sched_time.specs.declared.unit.Unit.{Unit as TimeUnit}
use Rattle.sched_time.specs.declared.unit.Unit.TheVariants.{Ns, Us, Ms, S}
use Rattle.plan_read.specs.declared.versions.Version.TheVariants.{One, Two}
use Rattle.plan_read.specs.Keys.{time_keys, unit_key, unit_of_word}
use Rattle.plan_read.specs.Writes.{Has, IntegerAt, WholeAt, UnitAt, HaveUnits, SpanAt, DelayAt, PeriodAt}
use Rattle.plan_read.proofs.MigratedUnits.{unit_beside, CarriesUnits}

-- ---- units

-- the unit of a block is that of its word, and nanoseconds where it has none
abbrev pub IsUnit : Option (List ℕ) → TimeUnit → Type 0
IsUnit None unit = unit ≡ Ns
IsUnit (Some word) unit = unit_of_word One word ≡ Some unit

more_words : (a b c d : Bool) (w x y z : TimeUnit) (more : Option TimeUnit) (unit : TimeUnit)
    → cond a (Some w) (cond b (Some x) (cond c (Some y) (cond d (Some z) None))) ≡ Some unit → cond a (Some w) (cond b (Some x) (cond c (Some y) (cond d (Some z) more))) ≡ Some unit
more_words true b c d w x y z more unit h = h
more_words false true c d w x y z more unit h = h
more_words false false true d w x y z more unit h = h
more_words false false false true w x y z more unit h = h
more_words false false false false w x y z more unit h = absurd (cc)

-- a word of version 1 names the same unit in version 2
pub unit_kept : (word : List ℕ) (unit : TimeUnit) → unit_of_word One word ≡ Some unit → unit_of_word Two word ≡ Some unit
unit_kept word unit h = more_words (bytes_eq word (codes "ns")) (bytes_eq word (codes "us")) (bytes_eq word (codes "ms")) (bytes_eq word (codes "s")) Ns Us Ms S _ unit h

-- one table has a unit beside the time at a key of another, and at the key the same
abbrev pub CarriesAt : Option (List ℕ) → List ℕ → Members → Members → Type 0
CarriesAt word key ms ns = (get_member (unit_key key) ns ≡ unit_beside word (get_member key ms)) × (get_member key ns ≡ get_member key ms)

there_at : (word : Option (List ℕ)) (unit : TimeUnit) (key : List ℕ) (ns : Members) (d : Data) → IsUnit word unit → get_member key ns ≡ unit_beside word (Some d) → UnitAt Two key ns unit
there_at None unit key ns d is h = (codes "ns", inr (h, refl), ap (λ (u : TimeUnit). Some u) (sym is))
there_at (Some word) unit key ns d is h = (word, inl h, unit_kept word unit is)

left_at : (word : Option (List ℕ)) (key : List ℕ) (ns : Members) → get_member key ns ≡ unit_beside word None → UnitAt Two key ns Ns
left_at None key ns h = (codes "ns", inr (h, refl), refl)
left_at (Some word) key ns h = (codes "ns", inr (h, refl), refl)

-- the unit of a time that is there is that of the block
unit_there : (word : Option (List ℕ)) (unit : TimeUnit) (key : List ℕ) (ms ns : Members) (d : Data) → IsUnit word unit → CarriesAt word key ms ns → Has ms key d → UnitAt Two (unit_key key) ns unit
unit_there word unit key ms ns d is c there = there_at word unit (unit_key key) ns d is (c.0 ∙ ap (λ (o : Option Data). unit_beside word o) there)

-- the unit of a time that is left out is nanoseconds
unit_left : (word : Option (List ℕ)) (key : List ℕ) (ms ns : Members) → CarriesAt word key ms ns → get_member key ms ≡ None → UnitAt Two (unit_key key) ns Ns
unit_left word key ms ns c none = left_at word (unit_key key) ns (c.0 ∙ ap (λ (o : Option Data). unit_beside word o) none)

some_unit : (word : Option (List ℕ)) (unit : TimeUnit) (key : List ℕ) (ns : Members) (o : Option Data) → IsUnit word unit → get_member key ns ≡ unit_beside word o → (u : TimeUnit) × UnitAt Two key ns u
some_unit word unit key ns None is h = (Ns, left_at word key ns h)
some_unit word unit key ns (Some d) is h = (unit, there_at word unit key ns d is h)

have_each : (word : Option (List ℕ)) (unit : TimeUnit) (ms ns : Members) (times : List (List ℕ)) → IsUnit word unit → AllByRecursion (λ t. get_member (unit_key t) ns ≡ unit_beside word (get_member t ms)) times
    → AllByRecursion (λ key. (u : TimeUnit) × UnitAt Two (unit_key key) ns u) times
have_each word unit ms ns [] is h = tt
have_each word unit ms ns (t ∷ times) is h = (some_unit word unit (unit_key t) ns (get_member t ms) is h.0, have_each word unit ms ns times is h.1)

-- each time of a table with units has one
pub have_units : (word : Option (List ℕ)) (unit : TimeUnit) (ms ns : Members) → IsUnit word unit → CarriesUnits word ms ns → HaveUnits Two ns
have_units word unit ms ns is c = have_each word unit ms ns time_keys is c.units

-- ---- times

-- an integer stands where the same is found
pub integer_same : (default : ℤ) (key : List ℕ) (ms ns : Members) (z : ℤ) → get_member key ns ≡ get_member key ms → IntegerAt default key ms z → IntegerAt default key ns z
integer_same default key ms ns z e (inl h) = inl (e ∙ h)
integer_same default key ms ns z e (inr h) = inr (e ∙ h.0, h.1)

in_unit : (n units : ℕ) (given unit : TimeUnit) → given ≡ unit → n ≡ units * nanos_of given → n ≡ units * nanos_of unit
in_unit n units given unit same h = subst (λ (u : TimeUnit). n ≡ units * nanos_of u) same h

no_time : (n units : ℕ) (given : TimeUnit) → pos units ≡ pos 0 → n ≡ units * nanos_of given → n ≡ units * nanos_of Ns
no_time n units given none h =
    let zero : units ≡ 0 = cc in
    let left : n ≡ 0 * nanos_of given = subst (λ (u : ℕ). n ≡ u * nanos_of given) zero h in
    subst (λ (u : ℕ). n ≡ u * nanos_of Ns) (sym zero) (left ∙ omega arith)

span_by : (word : Option (List ℕ)) (block unit given : TimeUnit) (key : List ℕ) (ms ns : Members) (n units : ℕ) → IsUnit word unit → CarriesAt word key ms ns → given ≡ unit → WholeAt key ms units
    → n ≡ units * nanos_of given → n ≤ longest → SpanAt Two block key ns n
span_by word block unit given key ms ns n units is c same (inl there) e short = (unit, unit_there word unit key ms ns (integer (pos units)) is c there, units, inl (c.1 ∙ there), in_unit n units given unit same e, short)
span_by word block unit given key ms ns n units is c same (inr none) e short = (Ns, unit_left word key ms ns c none.0, units, inr (c.1 ∙ none.0, none.1), no_time n units given none.1 e, short)

-- a span is the same in the unit beside it
pub span_carried : (word : Option (List ℕ)) (block unit : TimeUnit) (key : List ℕ) (ms ns : Members) (n : ℕ) → IsUnit word unit → CarriesAt word key ms ns → SpanAt One unit key ms n → SpanAt Two block key ns n
span_carried word block unit key ms ns n is c s = span_by word block unit s.0 key ms ns n s.2 is c s.1 s.3 s.4 s.5

-- a delay is the same in the unit beside it
pub delay_carried : (word : Option (List ℕ)) (block unit : TimeUnit) (key : List ℕ) (ms ns : Members) (n : ℕ) → IsUnit word unit → CarriesAt word key ms ns → DelayAt One unit key ms n → DelayAt Two block key ns n
delay_carried word block unit key ms ns n is c s =
    (unit, unit_there word unit key ms ns (integer s.2) is c s.3, s.2, c.1 ∙ s.3, subst (λ (u : TimeUnit). n ≡ span_of s.2 u) s.1 s.4, s.5)

-- a period is the same in the unit beside it
pub period_carried : (word : Option (List ℕ)) (block unit : TimeUnit) (key : List ℕ) (ms ns : Members) (period : Option ℕ) → IsUnit word unit → CarriesAt word key ms ns → PeriodAt One unit key ms period → PeriodAt Two block key ns period
period_carried word block unit key ms ns period is c s =
    (unit, unit_there word unit key ms ns (integer s.2) is c s.3, s.2, c.1 ∙ s.3, subst (λ (u : TimeUnit). period ≡ period_of s.2 u) s.1 s.4, subst (λ (u : TimeUnit). span_of s.2 u ≤ longest) s.1 s.5)
