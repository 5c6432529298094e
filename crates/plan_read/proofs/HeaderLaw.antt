-- The tests of a header agree with its checks.
use Rattle.std.proofs.Common.{◌≡◌, ◌⊎◌, ◌≤◌, ℕ, ℤ, pos, negsuc, ◌+◌, ◌*◌, true, not, ◌&&◌, ◌||◌, nat_le, [], length, Option, None, Some, IsSome, is_some, codes, refl, sym, inl, inr, arith}
use Rattle.std.proofs.lemmas.Bool.{and_parts, cases_Bool}
use Rattle.std.proofs.lemmas.Bool.Decides.{nat_tests}
use Rattle.toml.specs.Data.{Data, Members, get_member}
use Rattle.sched_time.specs.Times.{longest, delay_units}
use Rattle.sched_time.specs.declared.unit.Unit.{Unit as TimeUnit}
use Rattle.plan_read.specs.declared.versions.Version.{Version}
use Rattle.plan_read.specs.declared.versions.Version.TheVariants.{One, Two}
use Rattle.plan_read.specs.Checks.{Passes}
use Rattle.plan_read.specs.Keys.{fits, header_keys, has_only, are_typed}
use Rattle.plan_read.specs.Plans.{most_block_calls, most_calls}
use Rattle.plan_read.specs.Writes.{Head, TimesAt, SpanAt, HaveUnits, BlockUnitAt, header_checks}
use Rattle.plan_read.specs.own.Values.{tables_at, header_of, header_units, unit_at, times_at, is_negative, span_at}
use Rattle.plan_read.specs.own.Walk.{are_header_units, header_key_tests, times_tests, header_tests}
use Rattle.plan_read.proofs.Accepted.{list_all_true, le_from_test, typed_header}
use Rattle.plan_read.proofs.Agreeing.{Agree}
use Rattle.plan_read.proofs.Holding.{integer_fits, integer_is, whole_fits, whole_is, span_fits, span_is, tables_fit, tables_are}
use Rattle.plan_read.proofs.UnitLaw.{unit_fits, unit_is, units_fit, units_are, unit_of_is, at_unit, every_unit}
use Rattle.plan_read.proofs.VersionKeys.{header_texts}

-- ---- tests of numbers

-- the test holds of two numbers of which the first is at most the second
pub test_from_le : (a b : ℕ) → a ≤ b → nat_le a b ≡ true
test_from_le a b h = grind (arith, nat_tests)

-- where one of two tests holds, a number is at most another or a value is there
pub or_test : (a b : ℕ) (o : Option Data) → (nat_le a b || is_some o) ≡ true → (a ≤ b) ⊎ IsSome o
or_test a b None h = inl (elim (cases_Bool (nat_le a b)) [ inl t ↦ le_from_test a b t | inr f ↦ absurd (let e = rw f at h in cc) ])
or_test a b (Some d) h = inr refl

-- where a number is at most another or a value is there, one of the two tests holds
pub or_true : (a b : ℕ) (o : Option Data) → (a ≤ b) ⊎ IsSome o → (nat_le a b || is_some o) ≡ true
or_true a b o (inl h) = rw (test_from_le a b h) refl
or_true a b None (inr h) = absurd (cc)
or_true a b (Some d) (inr h) = elim (cases_Bool (nat_le a b)) [ inl t ↦ rw t refl | inr f ↦ rw f refl ]

units_positive : (z : ℤ) → 1 ≤ delay_units z → z ≡ pos (delay_units z)
units_positive (pos n) h = refl
units_positive (negsuc n) h = absurd (omega arith)

-- ---- what is read of a header

-- what is read of a block's table
abbrev pub head_at : Version → Members → Head
head_at version ms = record { header = header_of version ms; tables = tables_at (codes "call") ms }

-- the unit of a block is read where its texts are units
block_unit_fits : (version : Version) (ms : Members) → has_only (header_keys version) ms ≡ true → are_typed (header_keys version) ms ≡ true → are_header_units version ms ≡ true
    → BlockUnitAt version ms (unit_at version ms)
block_unit_fits One ms only typed known = unit_fits One (codes "unit") ms (list_all_true (λ k. fits k.shape (get_member k.name ms)) (header_keys One) typed).1.0 known
block_unit_fits Two ms only typed known = (refl, units_fit ms (header_texts ms only typed) known)

-- and is the one that is read
block_unit_is : (version : Version) (ms : Members) (unit : TimeUnit) → BlockUnitAt version ms unit → (are_header_units version ms ≡ true) × (unit_at version ms ≡ unit)
block_unit_is One ms unit w = unit_is One (codes "unit") ms unit w
block_unit_is Two ms unit w = (units_are Two ms w.1, sym w.0)

-- each time of a header has a unit
have_units : (version : Version) (ms : Members) (unit : TimeUnit) → BlockUnitAt version ms unit → HaveUnits version ms
have_units One ms unit w = tt
have_units Two ms unit w = w.1

-- a span of a header is within the limit, and is what is read there
at_is : (version : Version) (ms : Members) (unit : TimeUnit) (n : ℕ) → unit_at version ms ≡ unit → SpanAt version unit (codes "at") ms n → (n ≤ longest) × (span_at (header_units version ms).at (codes "at") ms ≡ n)
at_is version ms unit n block w =
    let s = span_is version unit (codes "at") ms n w in
    (s.0, rw (block, unit_of_is version unit (codes "at") ms w.0 w.1) s.1)

every_is : (version : Version) (ms : Members) (unit : TimeUnit) (n : ℕ) → unit_at version ms ≡ unit → SpanAt version unit (codes "every") ms n → (n ≤ longest) × (span_at (header_units version ms).every (codes "every") ms ≡ n)
every_is version ms unit n block w =
    let s = span_is version unit (codes "every") ms n w in
    (s.0, rw (block, unit_of_is version unit (codes "every") ms w.0 w.1) s.1)

times_is : (ms : Members) (n : ℕ) → TimesAt ms n → delay_units (times_at ms) ≡ n
times_is ms n w = rw (integer_is (pos 1) (codes "times") ms (pos n) w.0).1 refl

times_fit : (version : Version) (ms : Members) → are_typed (header_keys version) ms ≡ true → (1 ≤ delay_units (times_at ms)) × (delay_units (times_at ms) ≤ most_calls) → TimesAt ms (delay_units (times_at ms))
times_fit version ms typed range =
    (rw (← units_positive (times_at ms) range.0) (integer_fits (get_member (codes "times") ms) (pos 1) (typed_header version ms typed).times), range.0, range.1)

both_le : (a b c d : ℕ) → (nat_le a b && nat_le c d) ≡ true → (a ≤ b) × (c ≤ d)
both_le a b c d h = let p = and_parts (nat_le a b) (nat_le c d) h in (le_from_test a b p.0, le_from_test c d p.1)

both_true : (a b c d : ℕ) → a ≤ b → c ≤ d → (nat_le a b && nat_le c d) ≡ true
both_true a b c d h k = rw (test_from_le a b h, test_from_le c d k) refl

-- ---- the tests and the checks

pub header_agrees : (version : Version) (end made : ℕ) (ms : Members) → Agree (head_at version ms) [] (header_tests version end made ms) (header_checks version end made ms)
unfolding header_tests header_key_tests times_tests header_checks header_of
header_agrees version end made ms =
    let calls = length (tables_at (codes "call") ms) in
    let at = span_at (header_units version ms).at (codes "at") ms in
    let every = span_at (header_units version ms).every (codes "every") ms in
    let times = delay_units (times_at ms) in (
      refl,
      λ b t. t,
      λ x b h. h,
      (
        refl,
        λ b t. (t, tables_fit (codes "call") ms (typed_header version ms t).tables),
        λ x b h. h.0,
        (
          refl,
          λ b t. block_unit_fits version ms b.0 b.1.0.0 t,
          λ x b h. (block_unit_is version ms x.header.unit h).0,
          (
            refl,
            λ b t. times_fit version ms b.1.0.0 (both_le 1 times times most_calls t),
            λ x b h. rw (times_is ms x.header.times h) (both_true 1 x.header.times x.header.times most_calls h.1 h.2),
            (
              refl,
              λ b t. or_test times 1 (get_member (codes "every") ms) t,
              λ x b h. rw (times_is ms x.header.times b.1.1.1.0) (or_true x.header.times 1 (get_member (codes "every") ms) h),
              (
                refl,
                λ b t. (let n = and_parts (not (is_negative (codes "at") ms)) (not (is_negative (codes "every") ms)) t in
                    let typed = typed_header version ms b.1.0.0 in
                    ((_, whole_fits (codes "at") ms typed.at n.0), (_, whole_fits (codes "every") ms typed.every n.1))),
                λ x b h. rw ((whole_is (codes "at") ms h.0.0 h.0.1).0, (whole_is (codes "every") ms h.1.0 h.1.1).0) refl,
                (
                  refl,
                  λ b t. (let n = both_le at longest every longest t in
                      let units = have_units version ms (unit_at version ms) b.1.1.0 in (
                        span_fits version (unit_at version ms) (header_units version ms).at (codes "at") ms b.1.1.1.1.1.0.0.0 (at_unit version (unit_at version ms) ms units) b.1.1.1.1.1.0.0.1 n.0,
                        span_fits version (unit_at version ms) (header_units version ms).every (codes "every") ms b.1.1.1.1.1.0.1.0 (every_unit version (unit_at version ms) ms units) b.1.1.1.1.1.0.1.1 n.1,
                      )),
                  λ x b h. (let unit = (block_unit_is version ms x.header.unit b.1.1.0).1 in
                      let a = at_is version ms x.header.unit x.header.at unit h.0 in
                      let e = every_is version ms x.header.unit x.header.every unit h.1 in
                      rw (a.1, e.1) (both_true x.header.at longest x.header.every longest a.0 e.0)),
                  (
                    refl,
                    λ b t. le_from_test end at t,
                    λ x b h. (let unit = (block_unit_is version ms x.header.unit b.1.1.0).1 in
                        let a = at_is version ms x.header.unit x.header.at unit b.1.1.1.1.1.1.0.0 in
                        rw a.1 (test_from_le end x.header.at h)),
                    (
                      refl,
                      λ b t. both_le calls most_block_calls (made + times * calls) most_calls t,
                      λ x b h. (let tables = tables_are (codes "call") ms x.tables b.1.0.1 in
                          rw (times_is ms x.header.times b.1.1.1.0, tables.1) (both_true (length x.tables) most_block_calls (made + x.header.times * length x.tables) most_calls h.0 h.1)),
                      tt,
                    ),
                  ),
                ),
              ),
            ),
          ),
        ),
      ),
    )

-- what passes the checks is what is read
pub head_is : (version : Version) (end made : ℕ) (ms : Members) (x : Head) → Passes (header_checks version end made ms) x → x ≡ head_at version ms
unfolding header_checks header_of
head_is version end made ms x b =
    let unit = (block_unit_is version ms x.header.unit b.1.1.0).1 in
    let a = at_is version ms x.header.unit x.header.at unit b.1.1.1.1.1.1.0.0 in
    let e = every_is version ms x.header.unit x.header.every unit b.1.1.1.1.1.1.0.1 in
    let tables = tables_are (codes "call") ms x.tables b.1.0.1 in
    rw (times_is ms x.header.times b.1.1.1.0, a.1, e.1, tables.1, unit) refl
