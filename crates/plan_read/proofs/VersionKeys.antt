-- The keys of version 2 are those of version 1, with units beside the times.
use Rattle.std.proofs.Common.{◌≡◌, ℕ, Bool, true, false, not, ◌||◌, List, [], ◌∷◌, Option, None, is_some, bytes_eq, refl, sym, subst, inl, inr}
use Rattle.std.proofs.lemmas.Bool.{and_parts, cases_Bool}
use Rattle.std.proofs.lemmas.Slice.Eq.{bytes_eq-Decides}
use Rattle.std.specs.List.{AllByRecursion, list_all}
use Rattle.toml.specs.Data.{Data, Members, no_members, member, get_member}
use Rattle.plan_read.specs.declared.keys.Shape.{Shape}
use Rattle.plan_read.specs.declared.keys.Shape.TheVariants.{Text, Integer, Truth, Policy, Tables}
use Rattle.plan_read.specs.declared.verbs.Verb.{Verb}
use Rattle.plan_read.specs.declared.verbs.Verb.TheVariants as verbs
use Rattle.plan_read.specs.declared.versions.Version.{Version}
use Rattle.plan_read.specs.declared.versions.Version.TheVariants.{One, Two}
use Rattle.plan_read.specs.Keys.{Key, fits, time_keys, is_time_key, unit_key, with_unit_keys, header_keys, call_keys, is_key, has_only, has_required, are_typed}
use Rattle.plan_read.proofs.KeyCounts.{other_word}

-- ---- without the units

required_once : (keys : List Key) (ms : Members) → has_required (with_unit_keys keys) ms ≡ true → has_required keys ms ≡ true
required_once [] ms h = refl
required_once (k ∷ keys) ms h =
    elim (cases_Bool (is_time_key k.name)) [
      | inl t ↦ (let p = and_parts (not k.required || is_some (get_member k.name ms)) (has_required (with_unit_keys keys) ms) (rw t at h) in rw (p.0, required_once keys ms p.1) refl)
      | inr f ↦ (let p = and_parts (not k.required || is_some (get_member k.name ms)) (has_required (with_unit_keys keys) ms) (rw f at h) in rw (p.0, required_once keys ms p.1) refl)
    ]

typed_once : (keys : List Key) (ms : Members) → are_typed (with_unit_keys keys) ms ≡ true → are_typed keys ms ≡ true
typed_once [] ms h = refl
typed_once (k ∷ keys) ms h =
    elim (cases_Bool (is_time_key k.name)) [
      | inl t ↦ (
          let p = and_parts (fits k.shape (get_member k.name ms)) _ (rw t at h) in
          let q = and_parts (fits Text (get_member (unit_key k.name) ms)) (are_typed (with_unit_keys keys) ms) p.1 in
          rw (p.0, typed_once keys ms q.1) refl)
      | inr f ↦ (let p = and_parts (fits k.shape (get_member k.name ms)) (are_typed (with_unit_keys keys) ms) (rw f at h) in rw (p.0, typed_once keys ms p.1) refl)
    ]

-- what has to be there in a version has to be there in version 1
pub required_in_one : (version : Version) (verb : Verb) (ms : Members) → has_required (call_keys version verb) ms ≡ true → has_required (call_keys One verb) ms ≡ true
required_in_one One verb ms h = h
required_in_one Two verb ms h = required_once (call_keys One verb) ms h

-- and the values at those keys are of the same shapes
pub typed_in_one : (version : Version) (verb : Verb) (ms : Members) → are_typed (call_keys version verb) ms ≡ true → are_typed (call_keys One verb) ms ≡ true
typed_in_one One verb ms h = h
typed_in_one Two verb ms h = typed_once (call_keys One verb) ms h

-- ---- the units

-- a key that is none of those that a table may have is not there
pub absent : (keys : List Key) (name : List ℕ) (ms : Members) → has_only keys ms ≡ true → is_key keys name ≡ false → get_member name ms ≡ None
absent keys name no_members only other = refl
absent keys name (member k d ms) only other =
    let p = and_parts (is_key keys k) (has_only keys ms) only in
    elim (cases_Bool (bytes_eq name k)) [
      | inl t ↦ absurd (let e = subst (λ (w : List ℕ). is_key keys w ≡ true) (sym ((bytes_eq-Decides name k).0 t)) p.0 in cc)
      | inr f ↦ rw (other_word name k d ms f) (absent keys name ms p.1 other)
    ]

abbrev is_text : Shape → Bool
is_text Text = true
is_text _ = false

text_shape : (shape : Shape) (o : Option Data) → is_text shape ≡ true → fits shape o ≡ true → fits Text o ≡ true
text_shape Text o h f = f
text_shape Integer o h f = absurd (cc)
text_shape Truth o h f = absurd (cc)
text_shape Policy o h f = absurd (cc)
text_shape Tables o h f = absurd (cc)

-- each key of this name has a text
abbrev texts_at : List ℕ → List Key → Bool
texts_at name keys = list_all (λ k. not (bytes_eq name k.name) || is_text k.shape) keys

text_there : (keys : List Key) (name : List ℕ) (ms : Members) → texts_at name keys ≡ true → are_typed keys ms ≡ true → is_key keys name ≡ true → fits Text (get_member name ms) ≡ true
text_there [] name ms texts typed some = absurd (cc)
text_there (k ∷ keys) name ms texts typed some =
    let p = and_parts (not (bytes_eq name k.name) || is_text k.shape) (texts_at name keys) texts in
    let q = and_parts (fits k.shape (get_member k.name ms)) (are_typed keys ms) typed in
    elim (cases_Bool (bytes_eq name k.name)) [
      | inl t ↦ (
          let shape : is_text k.shape ≡ true = rw t at p.0 in
          subst (λ (w : List ℕ). fits Text (get_member w ms) ≡ true) (sym ((bytes_eq-Decides name k.name).0 t)) (text_shape k.shape (get_member k.name ms) shape q.0))
      | inr f ↦ text_there keys name ms p.1 q.1 (rw f at some)
    ]

-- what stands at a key that has a text, or that is none of those that a table may have, is a text
text_at : (keys : List Key) (name : List ℕ) (ms : Members) → texts_at name keys ≡ true → has_only keys ms ≡ true → are_typed keys ms ≡ true → fits Text (get_member name ms) ≡ true
text_at keys name ms texts only typed =
    elim (cases_Bool (is_key keys name)) [
      | inl t ↦ text_there keys name ms texts typed t
      | inr f ↦ rw (absent keys name ms only f) refl
    ]

-- the keys of units have texts
abbrev units_are_texts : List (List ℕ) → List Key → Bool
units_are_texts times keys = list_all (λ time. texts_at (unit_key time) keys) times

texts_beside : (times : List (List ℕ)) (keys : List Key) (ms : Members) → units_are_texts times keys ≡ true → has_only keys ms ≡ true → are_typed keys ms ≡ true
    → AllByRecursion (λ time. fits Text (get_member (unit_key time) ms) ≡ true) times
texts_beside [] keys ms texts only typed = tt
texts_beside (time ∷ times) keys ms texts only typed =
    let p = and_parts (texts_at (unit_key time) keys) (units_are_texts times keys) texts in
    (text_at keys (unit_key time) ms p.0 only typed, texts_beside times keys ms p.1 only typed)

call_units : (verb : Verb) → units_are_texts time_keys (call_keys Two verb) ≡ true
call_units verbs.Schedule = refl
call_units verbs.Execute = refl
call_units verbs.Rate = refl
call_units verbs.Fixed = refl
call_units verbs.Cancel = refl
call_units verbs.Policy = refl
call_units verbs.Shutdown = refl
call_units verbs.ShutdownNow = refl
call_units verbs.Ask = refl

-- what stands beside the times of a call is texts
pub call_texts : (verb : Verb) (ms : Members) → has_only (call_keys Two verb) ms ≡ true → are_typed (call_keys Two verb) ms ≡ true
    → AllByRecursion (λ time. fits Text (get_member (unit_key time) ms) ≡ true) time_keys
call_texts verb ms only typed = texts_beside time_keys (call_keys Two verb) ms (call_units verb) only typed

-- and so is what stands beside those of a header
pub header_texts : (ms : Members) → has_only (header_keys Two) ms ≡ true → are_typed (header_keys Two) ms ≡ true
    → AllByRecursion (λ time. fits Text (get_member (unit_key time) ms) ≡ true) time_keys
header_texts ms only typed = texts_beside time_keys (header_keys Two) ms refl only typed
