-- A table with a unit beside each of its times: what is found in it, and that it has the keys of version 2.
use Rattle.std.proofs.Common.{◌≡◌, ℕ, Bool, true, false, not, ◌||◌, ◌&&◌, List, [], ◌∷◌, ◌++◌, Option, None, Some, is_some, codes, bytes_eq, refl, subst, sym, ap, ◌∙◌, inl, inr}
use Rattle.std.proofs.lemmas.Bool.{cases_Bool, and_parts, and_from, or_parts, or_cases, or_left, or_right, not-true}
use Rattle.std.specs.List.{list_any, list_all, AllByRecursion}
use Rattle.toml.specs.Data.{Data, string, Members, get_member}
use Rattle.plan_read.specs.declared.keys.Shape.TheVariants.{Text}
use Rattle.plan_read.specs.Keys.{Key, optional, time_keys, is_time_key, unit_key, with_unit_keys, fits, is_key, has_only, has_required, are_typed}
use Rattle.plan_read.specs.Migrating.{beside, beside_each, beside_times}
use Rattle.plan_read.proofs.MigratedLookups.{added_own, added_other, own_bytes, one_word, only_from, only_at, none_at}

-- ---- what stands beside times

-- a name is that of the unit of one of these times
abbrev pub units_among : List (List ℕ) → List ℕ → Bool
units_among times n = list_any (λ t. bytes_eq n (unit_key t)) times

-- a name is that of the unit of a time
abbrev pub is_unit_key : List ℕ → Bool
is_unit_key n = units_among time_keys n

-- what stands beside a time, where there is a unit
abbrev pub unit_beside : Option (List ℕ) → Option Data → Option Data
unit_beside None d = None
unit_beside (Some word) None = None
unit_beside (Some word) (Some d) = Some (string word)

-- a table with a unit beside each of its times, where there is a unit
abbrev pub carried : Option (List ℕ) → Members → Members
carried None ms = ms
carried (Some word) ms = beside_times word ms

-- one table has a unit beside each time of another, and else the same
pub record CarriesUnits (unit : Option (List ℕ)) (ms ns : Members) : Type 0 where
  pub units : AllByRecursion (λ t. get_member (unit_key t) ns ≡ unit_beside unit (get_member t ms)) time_keys
  pub others : (n : List ℕ) → is_unit_key n ≡ false → get_member n ns ≡ get_member n ms

-- no unit stands beside a time
abbrev pub HasNoUnits : Members → Type 0
HasNoUnits ms = AllByRecursion (λ t. get_member (unit_key t) ms ≡ None) time_keys

beside_other : (word t n : List ℕ) (ms : Members) → bytes_eq n (unit_key t) ≡ false → get_member n (beside word t ms) ≡ get_member n ms
beside_other word t n ms apart = elim (cases_Bool (is_some (get_member t ms))) [
  | inl h ↦ rw h (added_other n (unit_key t) (string word) ms apart)
  | inr h ↦ rw h refl
]

beside_own_by : (o : Option Data) (word t : List ℕ) (ms : Members) → get_member t ms ≡ o → get_member (unit_key t) ms ≡ None → get_member (unit_key t) (beside word t ms) ≡ unit_beside (Some word) o
beside_own_by None word t ms h none = rw h none
beside_own_by (Some d) word t ms h none = rw h (added_own (unit_key t) (string word) ms)

each_other : (word : List ℕ) (times : List (List ℕ)) (n : List ℕ) (ms : Members) → units_among times n ≡ false → get_member n (beside_each word times ms) ≡ get_member n ms
each_other word [] n ms apart = refl
each_other word (t ∷ times) n ms apart =
    let both = or_parts (bytes_eq n (unit_key t)) (units_among times n) apart in
    each_other word times n (beside word t ms) both.1 ∙ beside_other word t n ms both.0

each_own : (word : List ℕ) (before : List (List ℕ)) (t : List ℕ) (after : List (List ℕ)) (ms : Members) → get_member (unit_key t) ms ≡ None
    → units_among before (unit_key t) ≡ false → units_among before t ≡ false → units_among after (unit_key t) ≡ false
    → get_member (unit_key t) (beside_each word (before ++ t ∷ after) ms) ≡ unit_beside (Some word) (get_member t ms)
each_own word [] t after ms none a b c = each_other word after (unit_key t) (beside word t ms) c ∙ beside_own_by (get_member t ms) word t ms refl none
each_own word (u ∷ before) t after ms none a b c =
    let units = or_parts (bytes_eq (unit_key t) (unit_key u)) (units_among before (unit_key t)) a in
    let times = or_parts (bytes_eq t (unit_key u)) (units_among before t) b in
    each_own word before t after (beside word u ms) (beside_other word u (unit_key t) ms units.0 ∙ none) units.1 times.1 c
    ∙ ap (λ (d : Option Data). unit_beside (Some word) d) (beside_other word u t ms times.0)

-- a table with a unit beside each of its times
pub times_carried : (word : List ℕ) (ms : Members) → HasNoUnits ms → CarriesUnits (Some word) ms (beside_times word ms)
times_carried word ms none = record {
  units = (
    each_own word [] (codes "at") (codes "every" ∷ codes "delay" ∷ codes "first" ∷ codes "period" ∷ []) ms none.0 refl refl refl,
    (
      each_own word (codes "at" ∷ []) (codes "every") (codes "delay" ∷ codes "first" ∷ codes "period" ∷ []) ms none.1.0 refl refl refl,
      (
        each_own word (codes "at" ∷ codes "every" ∷ []) (codes "delay") (codes "first" ∷ codes "period" ∷ []) ms none.1.1.0 refl refl refl,
        (
          each_own word (codes "at" ∷ codes "every" ∷ codes "delay" ∷ []) (codes "first") (codes "period" ∷ []) ms none.1.1.1.0 refl refl refl,
          (each_own word (codes "at" ∷ codes "every" ∷ codes "delay" ∷ codes "first" ∷ []) (codes "period") [] ms none.1.1.1.1.0 refl refl refl, tt),
        ),
      ),
    ),
  );
  others = λ n apart. each_other word time_keys n ms apart;
}

-- the same, also where there is no unit
pub units_carried : (unit : Option (List ℕ)) (ms : Members) → HasNoUnits ms → CarriesUnits unit ms (carried unit ms)
units_carried None ms none = record { units = none; others = λ n apart. refl }
units_carried (Some word) ms none = times_carried word ms none

-- ---- keys

-- none of the keys is that of a unit
abbrev pub AreNoUnits : List Key → Type 0
AreNoUnits keys = AllByRecursion (λ t. is_key keys (unit_key t) ≡ false) time_keys

each_none : (keys : List Key) (ms : Members) (times : List (List ℕ)) → has_only keys ms ≡ true → AllByRecursion (λ t. is_key keys (unit_key t) ≡ false) times
    → AllByRecursion (λ t. get_member (unit_key t) ms ≡ None) times
each_none keys ms [] h apart = tt
each_none keys ms (t ∷ times) h apart = (none_at keys ms (unit_key t) h apart.0, each_none keys ms times h apart.1)

-- a table of keys that are no units' has no unit beside a time
pub no_units : (keys : List Key) (ms : Members) → has_only keys ms ≡ true → AreNoUnits keys → HasNoUnits ms
no_units keys ms h apart = each_none keys ms time_keys h apart

-- what holds of each of some names holds of a name among them
at_name : (P : List ℕ → Type 0) (names : List (List ℕ)) (n : List ℕ) → AllByRecursion P names → list_any (λ t. bytes_eq n t) names ≡ true → P n
at_name P [] n all is = absurd (cc)
at_name P (t ∷ names) n all is = elim (or_cases (bytes_eq n t) (list_any (λ u. bytes_eq n u) names) is) [
  | inl h ↦ subst (λ (w : List ℕ). P w) (sym (one_word n t h)) all.0
  | inr h ↦ at_name P names n all.1 h
]

time_of_unit : (times : List (List ℕ)) (n : List ℕ) → units_among times n ≡ true → (t : List ℕ) × (list_any (λ u. bytes_eq t u) times ≡ true) × (n ≡ unit_key t)
time_of_unit [] n is = absurd (cc)
time_of_unit (t ∷ times) n is = elim (or_cases (bytes_eq n (unit_key t)) (units_among times n) is) [
  | inl h ↦ (t, or_left (bytes_eq t t) (list_any (λ u. bytes_eq t u) times) (own_bytes t), one_word n (unit_key t) h)
  | inr h ↦ (let r = time_of_unit times n h in (r.0, or_right (bytes_eq r.0 t) (list_any (λ u. bytes_eq r.0 u) times) r.1, r.2))
]

key_kept : (keys : List Key) (n : List ℕ) → is_key keys n ≡ true → is_key (with_unit_keys keys) n ≡ true
key_kept [] n is = absurd (cc)
key_kept (k ∷ keys) n is =
    let rest = is_key (with_unit_keys keys) n in
    let beside = bytes_eq n (unit_key k.name) in
    elim (or_cases (bytes_eq n k.name) (is_key keys n) is) [
      | inl h ↦ elim (cases_Bool (is_time_key k.name)) [ inl t ↦ rw t (or_left (bytes_eq n k.name) (beside || rest) h) | inr f ↦ rw f (or_left (bytes_eq n k.name) rest h) ]
      | inr h ↦ (
          let r = key_kept keys n h in
          elim (cases_Bool (is_time_key k.name)) [ inl t ↦ rw t (or_right (bytes_eq n k.name) (beside || rest) (or_right beside rest r)) | inr f ↦ rw f (or_right (bytes_eq n k.name) rest r) ])
    ]

unit_key_kept : (keys : List Key) (n : List ℕ) → is_time_key n ≡ true → is_key keys n ≡ true → is_key (with_unit_keys keys) (unit_key n) ≡ true
unit_key_kept [] n time is = absurd (cc)
unit_key_kept (k ∷ keys) n time is =
    let rest = is_key (with_unit_keys keys) (unit_key n) in
    let beside = bytes_eq (unit_key n) (unit_key k.name) in
    let first = bytes_eq (unit_key n) k.name in
    elim (or_cases (bytes_eq n k.name) (is_key keys n) is) [
      | inl h ↦ (
          let same : n ≡ k.name = one_word n k.name h in
          let t : is_time_key k.name ≡ true = subst (λ (w : List ℕ). is_time_key w ≡ true) same time in
          let own : beside ≡ true = subst (λ (w : List ℕ). bytes_eq (unit_key n) (unit_key w) ≡ true) same (own_bytes (unit_key n)) in
          rw t (or_right first (beside || rest) (or_left beside rest own)))
      | inr h ↦ (
          let r = unit_key_kept keys n time h in
          elim (cases_Bool (is_time_key k.name)) [ inl t ↦ rw t (or_right first (beside || rest) (or_right beside rest r)) | inr f ↦ rw f (or_right first rest r) ])
    ]

there_beside : (unit : Option (List ℕ)) (d : Option Data) → is_some (unit_beside unit d) ≡ true → is_some d ≡ true
there_beside None d h = absurd (cc)
there_beside (Some word) None h = absurd (cc)
there_beside (Some word) (Some d) h = refl

-- a table with units has only the keys with those of units
pub only_carried : (keys : List Key) (unit : Option (List ℕ)) (ms ns : Members) → CarriesUnits unit ms ns → has_only keys ms ≡ true → has_only (with_unit_keys keys) ns ≡ true
only_carried keys unit ms ns c h = only_from (with_unit_keys keys) ns (λ n there. elim (cases_Bool (is_unit_key n)) [
  | inl t ↦ (
      let u = time_of_unit time_keys n t in
      let found : is_some (get_member (unit_key u.0) ns) ≡ true = subst (λ (w : List ℕ). is_some (get_member w ns) ≡ true) u.2 there in
      let beside : get_member (unit_key u.0) ns ≡ unit_beside unit (get_member u.0 ms) = at_name (λ t. get_member (unit_key t) ns ≡ unit_beside unit (get_member t ms)) time_keys u.0 c.units u.1 in
      let time : is_some (get_member u.0 ms) ≡ true = there_beside unit (get_member u.0 ms) (subst (λ (o : Option Data). is_some o ≡ true) beside found) in
      subst (λ (w : List ℕ). is_key (with_unit_keys keys) w ≡ true) (sym u.2) (unit_key_kept keys u.0 u.1 (only_at keys ms u.0 h time)))
  | inr f ↦ key_kept keys n (only_at keys ms n h (subst (λ (o : Option Data). is_some o ≡ true) (c.others n f) there))
])

-- ---- tests of the values at keys

-- no key is that of a unit
abbrev pub are_no_units : List Key → Bool
are_no_units keys = list_all (λ k. not (is_unit_key k.name)) keys

all_with_units : (test other : Key → Bool) (keys : List Key) → ((k : Key) → is_unit_key k.name ≡ false → test k ≡ true → other k ≡ true) → ((t : List ℕ) → is_time_key t ≡ true → other (optional (unit_key t) Text) ≡ true)
    → are_no_units keys ≡ true → list_all test keys ≡ true → list_all other (with_unit_keys keys) ≡ true
all_with_units test other [] kept beside apart all = refl
all_with_units test other (k ∷ keys) kept beside apart all =
    let aparts = and_parts (not (is_unit_key k.name)) (are_no_units keys) apart in
    let tests = and_parts (test k) (list_all test keys) all in
    let rest = all_with_units test other keys kept beside aparts.1 tests.1 in
    let first : other k ≡ true = kept k (not-true (is_unit_key k.name) aparts.0) tests.0 in
    elim (cases_Bool (is_time_key k.name)) [
      | inl t ↦ rw t (and_from (other k) (other (optional (unit_key k.name) Text) && list_all other (with_unit_keys keys)) first
          (and_from (other (optional (unit_key k.name) Text)) (list_all other (with_unit_keys keys)) (beside k.name t) rest))
      | inr f ↦ rw f (and_from (other k) (list_all other (with_unit_keys keys)) first rest)
    ]

-- in a table with units all is there that has to be there
pub required_carried : (keys : List Key) (unit : Option (List ℕ)) (ms ns : Members) → CarriesUnits unit ms ns → are_no_units keys ≡ true → has_required keys ms ≡ true → has_required (with_unit_keys keys) ns ≡ true
required_carried keys unit ms ns c apart h =
    all_with_units (λ k. not k.required || is_some (get_member k.name ms)) (λ k. not k.required || is_some (get_member k.name ns)) keys
    (λ k f t. subst (λ (o : Option Data). (not k.required || is_some o) ≡ true) (sym (c.others k.name f)) t) (λ t is. refl) apart h

text_beside : (unit : Option (List ℕ)) (d : Option Data) → fits Text (unit_beside unit d) ≡ true
text_beside None d = refl
text_beside (Some word) None = refl
text_beside (Some word) (Some d) = refl

-- a table with units has values of the right shapes
pub typed_carried : (keys : List Key) (unit : Option (List ℕ)) (ms ns : Members) → CarriesUnits unit ms ns → are_no_units keys ≡ true → are_typed keys ms ≡ true → are_typed (with_unit_keys keys) ns ≡ true
typed_carried keys unit ms ns c apart h =
    all_with_units (λ k. fits k.shape (get_member k.name ms)) (λ k. fits k.shape (get_member k.name ns)) keys
    (λ k f t. subst (λ (o : Option Data). fits k.shape o ≡ true) (sym (c.others k.name f)) t)
    (λ t is. (
    let beside : get_member (unit_key t) ns ≡ unit_beside unit (get_member t ms) = at_name (λ t. get_member (unit_key t) ns ≡ unit_beside unit (get_member t ms)) time_keys t c.units is in
    subst (λ (o : Option Data). fits Text o ≡ true) (sym beside) (text_beside unit (get_member t ms))))
    apart h
