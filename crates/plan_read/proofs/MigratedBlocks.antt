-- A block of version 1 is that of the migrated table in version 2.
use Rattle.std.proofs.Common.{◌≡◌, ◌≤◌, ℕ, ◌+◌, ◌*◌, Bool, true, false, ◌||◌, List, [], ◌∷◌, map, length, Option, None, Some, is_some, codes, bytes_eq, refl, subst, sym, ap, ◌∙◌, inl, inr}
use Rattle.std.specs.Prelude.{option_map}
use Rattle.std.proofs.lemmas.Bool.{cases_Bool, and_parts, and_from}
use Rattle.std.proofs.lemmas.List.{length-map}
use Rattle.toml.specs.Data.{Data, Members, get_member}
use Rattle.sched_time.specs.declared.unit.Unit.TheVariants.{Ns}
use Rattle.plan_read.specs.declared.keys.Shape.TheVariants.{Text, Integer, Tables}
use Rattle.plan_read.specs.declared.versions.Version.TheVariants.{One, Two}
use Rattle.plan_read.specs.Keys.{Key, optional, header_keys, unit_of_word, fits, is_key, has_only, are_typed}
use Rattle.plan_read.specs.Plans.{BlockTree, PlanTree, most_block_calls, most_calls, made_by}
use Rattle.plan_read.specs.Writes.{TextAt, header_checks, WritesHead, WritesBlock}
use Rattle.plan_read.specs.Migrating.{without, changed_at, each_table, beside_times, migrated_by, migrated_block, block_in_nanoseconds, in_nanoseconds}
use Rattle.plan_read.proofs.MigratedLookups.{left_own, left_other, changed_own, changed_other, one_word, only_from, only_at}
use Rattle.plan_read.proofs.MigratedUnits.{carried, CarriesUnits, units_carried, unit_beside, no_units, only_carried, typed_carried}
use Rattle.plan_read.proofs.MigratedTimes.{IsUnit, CarriesAt, have_units, integer_same, span_carried}
use Rattle.plan_read.proofs.MigratedPlans.{header_in_nanoseconds, end_same, made_same}
use Rattle.plan_read.proofs.MigratedTables.{tables_fit_each, tables_each, none_changed}
use Rattle.plan_read.proofs.MigratedCalls.{calls_carried}

-- ---- without the unit of the block

-- the keys of a block but for those of units
abbrev bare_keys : List Key
bare_keys = optional (codes "at") Integer ∷ optional (codes "times") Integer ∷ optional (codes "every") Integer ∷ optional (codes "call") Tables ∷ []

-- one table is another without the unit, with units in the tables of its calls
record IsBare (word : Option (List ℕ)) (ms ns : Members) : Type 0 where
  unit : get_member (codes "unit") ns ≡ None
  calls : get_member (codes "call") ns ≡ option_map (each_table (carried word)) (get_member (codes "call") ms)
  others : (n : List ℕ) → bytes_eq n (codes "unit") ≡ false → bytes_eq n (codes "call") ≡ false → get_member n ns ≡ get_member n ms

bare_itself : (ms : Members) → get_member (codes "unit") ms ≡ None → IsBare None ms ms
bare_itself ms none = record { unit = none; calls = sym (none_changed (get_member (codes "call") ms)); others = λ n a b. refl }

-- a block but for the units of its times
abbrev bare_block : List ℕ → Members → Members
bare_block word ms = changed_at (codes "call") (each_table (beside_times word)) (without (codes "unit") ms)

bare_with_units : (word : List ℕ) (ms : Members) → IsBare (Some word) ms (bare_block word ms)
bare_with_units word ms = record {
  unit = changed_other (codes "unit") (codes "call") (each_table (beside_times word)) (without (codes "unit") ms) refl ∙ left_own (codes "unit") ms;
  calls = changed_own (codes "call") (each_table (beside_times word)) (without (codes "unit") ms)
      ∙ ap (λ (o : Option Data). option_map (each_table (beside_times word)) o) (left_other (codes "call") (codes "unit") ms refl);
  others = λ n a b. changed_other n (codes "call") (each_table (beside_times word)) (without (codes "unit") ms) b ∙ left_other n (codes "unit") ms a;
}

drop_second : (a b c : Bool) → b ≡ false → (a || (b || c)) ≡ true → (a || c) ≡ true
drop_second true b c f h = refl
drop_second false true c f h = absurd (cc)
drop_second false false c f h = h

none_there : (o : Option Data) → o ≡ None → is_some o ≡ true → ⊥
none_there None e h = absurd (cc)
none_there (Some d) e h = absurd (cc)

bare_only : (word : Option (List ℕ)) (ms ns : Members) → IsBare word ms ns → has_only (header_keys One) ms ≡ true → has_only bare_keys ns ≡ true
bare_only word ms ns b h = only_from bare_keys ns (λ n there. elim (cases_Bool (bytes_eq n (codes "unit"))) [
  | inl u ↦ (
      let found : is_some (get_member (codes "unit") ns) ≡ true = subst (λ (w : List ℕ). is_some (get_member w ns) ≡ true) (one_word n (codes "unit") u) there in
      absurd (none_there (get_member (codes "unit") ns) b.unit found))
  | inr a ↦ elim (cases_Bool (bytes_eq n (codes "call"))) [
    | inl c ↦ subst (λ (w : List ℕ). is_key bare_keys w ≡ true) (sym (one_word n (codes "call") c)) refl
    | inr f ↦ (
        let found : is_some (get_member n ms) ≡ true = subst (λ (o : Option Data). is_some o ≡ true) (b.others n a f) there in
        drop_second (bytes_eq n (codes "at")) (bytes_eq n (codes "unit")) _ a (only_at (header_keys One) ms n h found))
  ]
])

bare_typed : (word : Option (List ℕ)) (ms ns : Members) → IsBare word ms ns → are_typed (header_keys One) ms ≡ true → are_typed bare_keys ns ≡ true
bare_typed word ms ns b h =
    let at = and_parts (fits Integer (get_member (codes "at") ms)) _ h in
    let unit = and_parts (fits Text (get_member (codes "unit") ms)) _ at.1 in
    let times = and_parts (fits Integer (get_member (codes "times") ms)) _ unit.1 in
    let every = and_parts (fits Integer (get_member (codes "every") ms)) _ times.1 in
    let calls = and_parts (fits Tables (get_member (codes "call") ms)) _ every.1 in
    let same = λ (n : List ℕ) (e : get_member n ns ≡ get_member n ms) (t : fits Integer (get_member n ms) ≡ true). subst (λ (o : Option Data). fits Integer o ≡ true) (sym e) t in
    let at_there : fits Integer (get_member (codes "at") ns) ≡ true = same (codes "at") (b.others (codes "at") refl refl) at.0 in
    let times_there : fits Integer (get_member (codes "times") ns) ≡ true = same (codes "times") (b.others (codes "times") refl refl) times.0 in
    let every_there : fits Integer (get_member (codes "every") ns) ≡ true = same (codes "every") (b.others (codes "every") refl refl) every.0 in
    let calls_there : fits Tables (get_member (codes "call") ns) ≡ true =
    ap (λ (o : Option Data). fits Tables o) b.calls ∙ tables_fit_each (carried word) (get_member (codes "call") ms) ∙ calls.0 in
    and_from (fits Integer (get_member (codes "at") ns)) _ at_there
    (and_from (fits Integer (get_member (codes "times") ns)) _ times_there
    (and_from (fits Integer (get_member (codes "every") ns)) _ every_there
    (and_from (fits Tables (get_member (codes "call") ns)) true calls_there refl)))

-- ---- the header

-- a header of version 1 is that of the migrated table in version 2
head_of : (word : Option (List ℕ)) (earlier : PlanTree) (ms mid ns : Members) (b : BlockTree) (tables : List Members) → IsUnit word b.header.unit → IsBare word ms mid → CarriesUnits word mid ns
    → has_only (header_keys Two) ns ≡ true → are_typed (header_keys Two) ns ≡ true
    → WritesHead One earlier ms (record { header = b.header; tables = tables }) → WritesHead Two (in_nanoseconds earlier) ns (record { header = header_in_nanoseconds b.header; tables = map (carried word) tables })
unfolding header_checks
head_of word earlier ms mid ns b tables is bare u only typed w =
    let count : length (map (carried word) tables) ≡ length tables = length-map tables (carried word) in
    let same = λ (n : List ℕ) (e : get_member n ns ≡ get_member n mid) (a : bytes_eq n (codes "unit") ≡ false) (c : bytes_eq n (codes "call") ≡ false). e ∙ bare.others n a c in
    let at = same (codes "at") (u.others (codes "at") refl) refl refl in
    let every = same (codes "every") (u.others (codes "every") refl) refl refl in
    let times = same (codes "times") (u.others (codes "times") refl) refl refl in
    let calls : get_member (codes "call") ns ≡ option_map (each_table (carried word)) (get_member (codes "call") ms) = u.others (codes "call") refl ∙ bare.calls in
    let at_carried : CarriesAt word (codes "at") ms ns = (u.units.0 ∙ ap (λ (o : Option Data). unit_beside word o) (bare.others (codes "at") refl refl), at) in
    let every_carried : CarriesAt word (codes "every") ms ns = (u.units.1.0 ∙ ap (λ (o : Option Data). unit_beside word o) (bare.others (codes "every") refl refl), every) in
    let tables_typed = w.1.0 in
    let in_times = w.1.1.1.0 in
    let needed = w.1.1.1.1.0 in
    let forward = w.1.1.1.1.1.0 in
    let short = w.1.1.1.1.1.1.0 in
    let order = w.1.1.1.1.1.1.1.0 in
    let few = w.1.1.1.1.1.1.1.1.0 in (
      only,
      (
        (typed, tables_each (carried word) (codes "call") ms ns tables calls tables_typed.1),
        (
          (refl, have_units word b.header.unit mid ns is u),
          (
            (integer_same _ (codes "times") ms ns _ times in_times.0, in_times.1, in_times.2),
            (
              elim needed [ inl once ↦ inl once | inr there ↦ inr (subst (λ (o : Option Data). is_some o ≡ true) (sym every) there) ],
              (
                ((forward.0.0, integer_same _ (codes "at") ms ns _ at forward.0.1), (forward.1.0, integer_same _ (codes "every") ms ns _ every forward.1.1)),
                (
                  (span_carried word Ns b.header.unit (codes "at") ms ns b.header.at is at_carried short.0, span_carried word Ns b.header.unit (codes "every") ms ns b.header.every is every_carried short.1),
                  (
                    subst (λ (n : ℕ). n ≤ b.header.at) (sym (end_same earlier)) order,
                    (
                      (
                        subst (λ (n : ℕ). n ≤ most_block_calls) (sym count) few.0,
                        subst (λ (n : ℕ). n + b.header.times * length (map (carried word) tables) ≤ most_calls) (sym (made_same earlier))
                            (subst (λ (n : ℕ). made_by earlier + b.header.times * n ≤ most_calls) (sym count) few.1),
                      ),
                      tt,
                    ),
                  ),
                ),
              ),
            ),
          ),
        ),
      ),
    )

-- ---- the block

block_of : (word : Option (List ℕ)) (earlier : PlanTree) (ms mid : Members) (b : BlockTree) → IsUnit word b.header.unit → IsBare word ms mid → WritesBlock One earlier ms b
    → WritesBlock Two (in_nanoseconds earlier) (carried word mid) (block_in_nanoseconds b)
unfolding header_checks
block_of word earlier ms mid b is bare w =
    let only = bare_only word ms mid bare w.head.0 in
    let typed = bare_typed word ms mid bare w.head.1.0.0 in
    let u : CarriesUnits word mid (carried word mid) = units_carried word mid (no_units bare_keys mid only (refl, (refl, (refl, (refl, (refl, tt)))))) in
    record {
      tables = map (carried word) w.tables;
      head = head_of word earlier ms mid (carried word mid) b w.tables is bare u (only_carried bare_keys word mid (carried word mid) u only) (typed_carried bare_keys word mid (carried word mid) u refl typed) w.head;
      calls = calls_carried word earlier b.header [] w.tables b.calls is w.calls;
    }

block_by : (earlier : PlanTree) (ms : Members) (b : BlockTree) (word : List ℕ) → TextAt (codes "ns") (codes "unit") ms word → unit_of_word One word ≡ Some b.header.unit → WritesBlock One earlier ms b
    → WritesBlock Two (in_nanoseconds earlier) (migrated_block ms) (block_in_nanoseconds b)
block_by earlier ms b word (inl there) is w =
    subst (λ (o : Option Data). WritesBlock Two (in_nanoseconds earlier) (migrated_by o ms) (block_in_nanoseconds b)) (sym there)
    (block_of (Some word) earlier ms (bare_block word ms) b is (bare_with_units word ms) w)
block_by earlier ms b word (inr none) is w =
    let named : unit_of_word One (codes "ns") ≡ Some b.header.unit = subst (λ (v : List ℕ). unit_of_word One v ≡ Some b.header.unit) none.1 is in
    let nanoseconds : b.header.unit ≡ Ns = cc in
    subst (λ (o : Option Data). WritesBlock Two (in_nanoseconds earlier) (migrated_by o ms) (block_in_nanoseconds b)) (sym none.0)
    (block_of None earlier ms ms b nanoseconds (bare_itself ms none.0) w)

-- a block of version 1 is that of the migrated table in version 2
pub block_migrated : (earlier : PlanTree) (ms : Members) (b : BlockTree) → WritesBlock One earlier ms b → WritesBlock Two (in_nanoseconds earlier) (migrated_block ms) (block_in_nanoseconds b)
unfolding header_checks
block_migrated earlier ms b w = let unit = w.head.1.1.0 in block_by earlier ms b unit.0 unit.1 unit.2 w
