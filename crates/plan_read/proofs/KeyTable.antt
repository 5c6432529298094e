-- The table of keys is what the definitions say of each table, and what those tests of a table tell.
use Rattle.std.proofs.Common.{◌≡◌, ◌<◌, ℕ, zero, suc, ◌+◌, Bool, true, false, List, [], ◌∷◌, ◌++◌, length, get_or, drop, None, append_assoc, Option, Some, is_some, option_and_then, codes, nat_le, Result, Ok, Err, IfOk, refl, arith}
use Rattle.toml.specs.Data.{Data, Members, get_member, as_integer}
use Rattle.plan_read.specs.declared.keys.Key.{Key as CodeKey}
use Rattle.plan_read.specs.declared.keys.Role.{Role}
use Rattle.plan_read.specs.declared.keys.Role.TheVariants as roles
use Rattle.plan_read.specs.declared.verbs.Verb.{Verb}
use Rattle.plan_read.specs.declared.verbs.Verb.TheVariants as verbs
use Rattle.plan_read.specs.declared.versions.Version.{Version}
use Rattle.plan_read.specs.declared.versions.Version.TheVariants.{One, Two}
use Rattle.plan_read.specs.declared.faults.Place.{Place}
use Rattle.plan_read.specs.declared.faults.PlanFaultKind.TheVariants.{UnknownKey, Missing, WrongType, BadUnit}
use Rattle.plan_read.specs.declared.faults.ReadError.{ReadError}
use Rattle.plan_read.specs.Keys.{Key, top_keys, header_keys, call_keys, has_only, has_required, are_typed}
use Rattle.plan_read.specs.declared.faults.PlanFaultKind.TheVariants as kinds
use Rattle.plan_read.specs.Plans.{most_blocks}
use Rattle.plan_read.specs.own.Reads.{FailsWith}
use Rattle.plan_read.specs.own.Values.{given_integer, tables_at, version_of}
use Rattle.plan_read.specs.own.Rows.{stands_in, standing, keys_in, as_defined, AreAllKeys}
use Rattle.plan_read.specs.own.Walk.{◌barring◌, place_fault, table_tests, top_tests, are_header_units, header_key_tests, are_units, key_tests}
use Rattle.plan_read.proofs.Failing.{all_pass, goes_on, stops_here}

-- ---- the table, for each version and role

-- of some keys those that stand in a table are its keys
abbrev pub AreKeysIn : List CodeKey → Version → Role → Type 0
AreKeysIn keys version role = as_defined (standing version role keys) ≡ keys_in version role

-- so it is for each operation
pub record AreKeysOfCalls (keys : List CodeKey) (version : Version) : Type 0 where
  pub schedule : AreKeysIn keys version (roles.Call verbs.Schedule)
  pub execute : AreKeysIn keys version (roles.Call verbs.Execute)
  pub rate : AreKeysIn keys version (roles.Call verbs.Rate)
  pub fixed : AreKeysIn keys version (roles.Call verbs.Fixed)
  pub cancel : AreKeysIn keys version (roles.Call verbs.Cancel)
  pub policy : AreKeysIn keys version (roles.Call verbs.Policy)
  pub shutdown : AreKeysIn keys version (roles.Call verbs.Shutdown)
  pub shutdown_now : AreKeysIn keys version (roles.Call verbs.ShutdownNow)
  pub ask : AreKeysIn keys version (roles.Call verbs.Ask)

of_call : (keys : List CodeKey) (version : Version) (verb : Verb) → AreKeysOfCalls keys version → AreKeysIn keys version (roles.Call verb)
of_call keys version verbs.Schedule h = h.schedule
of_call keys version verbs.Execute h = h.execute
of_call keys version verbs.Rate h = h.rate
of_call keys version verbs.Fixed h = h.fixed
of_call keys version verbs.Cancel h = h.cancel
of_call keys version verbs.Policy h = h.policy
of_call keys version verbs.Shutdown h = h.shutdown
of_call keys version verbs.ShutdownNow h = h.shutdown_now
of_call keys version verbs.Ask h = h.ask

-- so it is for each role
pub record AreKeysOf (keys : List CodeKey) (version : Version) : Type 0 where
  pub top : AreKeysIn keys version roles.Top
  pub header : AreKeysIn keys version roles.Header
  pub calls : AreKeysOfCalls keys version

of_role : (keys : List CodeKey) (version : Version) (role : Role) → AreKeysOf keys version → AreKeysIn keys version role
of_role keys version roles.Top h = h.top
of_role keys version roles.Header h = h.header
of_role keys version (roles.Call verb) h = of_call keys version verb h.calls

in_version : (keys : List CodeKey) → AreKeysOf keys One → AreKeysOf keys Two → (version : Version) (role : Role) → AreKeysIn keys version role
in_version keys one two One role = of_role keys One role one
in_version keys one two Two role = of_role keys Two role two

pub are_keys : (keys : List CodeKey) → AreKeysOf keys One → AreKeysOf keys Two → AreAllKeys keys
unfolding AreAllKeys
are_keys keys one two = in_version keys one two

pub keys_are : (keys : List CodeKey) → AreAllKeys keys → (version : Version) (role : Role) → AreKeysIn keys version role
unfolding AreAllKeys
keys_are keys h = h

-- ---- the keys of one table, gathered

-- the key at an index is the next one
pub drop_next : (keys : List CodeKey) (i : ℕ) (d : CodeKey) → i < length keys → drop i keys ≡ get_or keys i d ∷ drop (suc i) keys
drop_next [] i d h = absurd (omega (arith, h))
drop_next (k ∷ keys) zero d h = refl
drop_next (k ∷ keys) (suc i) d h = drop_next keys i d (omega (arith, h))

pub after : (i : ℕ) → suc i ≡ i + 1
after i = omega arith

-- a key that stands in the table is taken
pub one_taken : (version : Version) (role : Role) (those next : List CodeKey) (keys : List CodeKey) (i : ℕ) (d : CodeKey) → i < length keys → stands_in version role (get_or keys i d) ≡ true
    → next ≡ those ++ (get_or keys i d ∷ []) → next ++ standing version role (drop (i + 1) keys) ≡ those ++ standing version role (drop i keys)
one_taken version role those next keys i d h stands is =
    let rest : drop i keys ≡ get_or keys i d ∷ drop (i + 1) keys = rw (drop_next keys i d h, after i) refl in
    rw (rest, stands, is) (append_assoc those (get_or keys i d ∷ []) (standing version role (drop (i + 1) keys)))

-- another is left out
pub one_left_out : (version : Version) (role : Role) (those : List CodeKey) (keys : List CodeKey) (i : ℕ) (d : CodeKey) → i < length keys → stands_in version role (get_or keys i d) ≡ false
    → those ++ standing version role (drop (i + 1) keys) ≡ those ++ standing version role (drop i keys)
one_left_out version role those keys i d h stands =
    let rest : drop i keys ≡ get_or keys i d ∷ drop (i + 1) keys = rw (drop_next keys i d h, after i) refl in
    rw (rest, stands) refl

-- the keys that stand in a table are those of its definition, where they were gathered
pub gathered : {A E : Type 0} (r : Result A E) (seen : A → List CodeKey) (keys : List CodeKey) (version : Version) (role : Role) → AreAllKeys keys
    → IfOk r (λ v. seen v ≡ standing version role keys) → IfOk r (λ v. as_defined (seen v) ≡ keys_in version role)
gathered (Ok v) seen keys version role all is = rw is (keys_are keys all version role)
gathered (Err e) seen keys version role all is = tt

-- ---- the tests of each role

-- the tests on the keys of a table pass
pub record KeysHold (keys : List Key) (ms : Members) : Type 0 where
  pub only : has_only keys ms ≡ true
  pub complete : has_required keys ms ≡ true
  pub typed : are_typed keys ms ≡ true

pub keys_hold : (p : Place) (keys : List Key) (ms : Members) → place_fault p (table_tests keys ms) ≡ None → KeysHold keys ms
keys_hold p keys ms none = let a = all_pass p (table_tests keys ms) none in record { only = a.0; complete = a.1.0; typed = a.1.1.0 }

-- no key of a header has to be there
none_wanted : (version : Version) (ms : Members) → has_required (header_keys version) ms ≡ true
none_wanted One ms = refl
none_wanted Two ms = refl

-- two tests, and between them one that passes
between : (e : ReadError) (p : Place) (a c : Bool) (b : Bool) → b ≡ true
    → FailsWith e (place_fault p ((UnknownKey barring a) ∷ (Missing barring b) ∷ (WrongType barring c) ∷ [])) → FailsWith e (place_fault p ((UnknownKey barring a) ∷ (WrongType barring c) ∷ []))
between e p a c b is h = rw is at h

-- where a table has a version, its key is there
an_integer : (o : Option Data) (version : Version) → option_and_then version_of (option_and_then as_integer o) ≡ Some version → is_some o ≡ true
an_integer None version h = absurd (cc)
an_integer (Some d) version h = refl

version_there : (ms : Members) (version : Version) → option_and_then version_of (given_integer (codes "version") ms) ≡ Some version → has_required top_keys ms ≡ true
version_there ms version is = rw (an_integer (get_member (codes "version") ms) version is) refl

-- what stops a function at the keys of the top stops it at the top, where the version is known
pub top_halts : (e : ReadError) (p : Place) (version : Version) (ms : Members) → option_and_then version_of (given_integer (codes "version") ms) ≡ Some version
    → FailsWith e (place_fault p (table_tests top_keys ms)) → FailsWith e (place_fault p (top_tests ms))
unfolding top_tests
top_halts e p version ms is h =
    stops_here e p ((kinds.Version barring is_some (option_and_then version_of (given_integer (codes "version") ms))) ∷ (UnknownKey barring has_only top_keys ms) ∷ (WrongType barring are_typed top_keys ms) ∷ [])
    ((kinds.TooMany barring nat_le (length (tables_at (codes "block") ms)) most_blocks) ∷ []) (
    rw is (between e p (has_only top_keys ms) (are_typed top_keys ms) (has_required top_keys ms) (version_there ms version is) h))

-- what stops a function at the keys of a header stops it at the header
pub header_halts : (e : ReadError) (p : Place) (version : Version) (ms : Members) → FailsWith e (place_fault p (table_tests (header_keys version) ms)) → FailsWith e (place_fault p (header_key_tests version ms))
unfolding header_key_tests
header_halts e p version ms h =
    stops_here e p ((UnknownKey barring has_only (header_keys version) ms) ∷ (WrongType barring are_typed (header_keys version) ms) ∷ []) ((BadUnit barring are_header_units version ms) ∷ []) (
    between e p (has_only (header_keys version) ms) (are_typed (header_keys version) ms) (has_required (header_keys version) ms) (none_wanted version ms) h)

-- where they pass, its units decide
pub header_goes_on : (p : Place) (version : Version) (ms : Members) → place_fault p (table_tests (header_keys version) ms) ≡ None
    → place_fault p (header_key_tests version ms) ≡ place_fault p ((BadUnit barring are_header_units version ms) ∷ [])
unfolding header_key_tests
header_goes_on p version ms none = let h = keys_hold p (header_keys version) ms none in rw (h.only, h.typed) refl

-- what stops a function at the keys of a call stops it there
pub call_halts : (e : ReadError) (p : Place) (version : Version) (verb : Verb) (ms : Members) → FailsWith e (place_fault p (table_tests (call_keys version verb) ms)) → FailsWith e (place_fault p (key_tests version verb ms))
unfolding key_tests
call_halts e p version verb ms h = stops_here e p (table_tests (call_keys version verb) ms) ((BadUnit barring are_units version ms) ∷ []) h

-- where they pass, its units decide
pub call_goes_on : (p : Place) (version : Version) (verb : Verb) (ms : Members) → place_fault p (table_tests (call_keys version verb) ms) ≡ None
    → place_fault p (key_tests version verb ms) ≡ place_fault p ((BadUnit barring are_units version ms) ∷ [])
unfolding key_tests
call_goes_on p version verb ms none = goes_on p (table_tests (call_keys version verb) ms) ((BadUnit barring are_units version ms) ∷ []) none
