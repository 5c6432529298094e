-- What stands at the keys of a call whose keys pass their tests.
use Rattle.std.proofs.Common.{◌≡◌, true, false, Bool, not, ◌||◌, Option, None, Some, is_some, codes, refl}
use Rattle.std.specs.List.{AllByRecursion}
use Rattle.std.specs.List.Sorted.{IsStrictlySortedBy}
use Rattle.std.specs.Map.{keys_of}
use Rattle.std.specs.Prelude.{List, option_and_then}
use Rattle.std.specs.String.{string_cmp}
use Rattle.toml.specs.View.{members_view}
use Rattle.toml.specs.Data.{Data, string, integer, float, boolean, datetime, array, table, Members, get_member, as_integer, as_bool, as_str}
use Rattle.plan_read.specs.declared.faults.Place.{Place}
use Rattle.plan_read.specs.declared.keys.Shape.TheVariants.{Text, Integer, Truth, Policy}
use Rattle.plan_read.specs.declared.verbs.Verb.{Verb}
use Rattle.plan_read.specs.declared.verbs.Verb.TheVariants as verbs
use Rattle.plan_read.specs.Keys.{call_keys, fits, which_of_word}
use Rattle.plan_read.specs.own.Values.{given_integer, given_text, given_truth}
use Rattle.plan_read.specs.declared.versions.Version.{Version}
use Rattle.plan_read.specs.declared.versions.Version.TheVariants.{One}
use Rattle.plan_read.specs.own.Plain.{members_are_plain}
use Rattle.plan_read.specs.own.Subjects.{AreGiven}
use Rattle.plan_read.specs.own.Walk.{place_fault, key_tests}
use Rattle.plan_read.proofs.Accepted.{list_all_true}
use Rattle.plan_read.proofs.Failing.{all_pass}
use Rattle.plan_read.proofs.PlainKeys.{call_plain}
use Rattle.plan_read.proofs.PlainTables.{Entry}
use Rattle.plan_read.proofs.VersionKeys.{required_in_one, typed_in_one}

-- ---- one value

integer_is : (o : Option Data) → is_some o ≡ true → fits Integer o ≡ true → is_some (option_and_then as_integer o) ≡ true
integer_is None some typed = absurd (cc)
integer_is (Some d) some typed = typed

text_is : (o : Option Data) → is_some o ≡ true → fits Text o ≡ true → is_some (option_and_then as_str o) ≡ true
text_is None some typed = absurd (cc)
text_is (Some d) some typed = typed

truth_is : (o : Option Data) → is_some o ≡ true → fits Truth o ≡ true → is_some (option_and_then as_bool o) ≡ true
truth_is None some typed = absurd (cc)
truth_is (Some d) some typed = typed

policy_is : (o : Option Data) → is_some o ≡ true → fits Policy o ≡ true → is_some (option_and_then which_of_word (option_and_then as_str o)) ≡ true
policy_is None some typed = absurd (cc)
policy_is (Some d) some typed = typed

-- a policy is a text
word_is : (o : Option Data) → is_some (option_and_then which_of_word (option_and_then as_str o)) ≡ true → is_some (option_and_then as_str o) ≡ true
word_is None h = absurd (cc)
word_is (Some (string s)) h = refl
word_is (Some (integer n)) h = absurd (cc)
word_is (Some (float x)) h = absurd (cc)
word_is (Some (boolean b)) h = absurd (cc)
word_is (Some (datetime t)) h = absurd (cc)
word_is (Some (array ds)) h = absurd (cc)
word_is (Some (table ms)) h = absurd (cc)

pub policy_text : (ms : Members) → is_some (option_and_then which_of_word (given_text (codes "which") ms)) ≡ true → is_some (given_text (codes "which") ms) ≡ true
policy_text ms h = word_is (get_member (codes "which") ms) h

-- ---- the keys of an operation

-- each key that has to be there is there, and what stands at each is of its shape
record Given (verb : Verb) (ms : Members) : Type 0 where
  there : AllByRecursion (λ k. (not k.required || is_some (get_member k.name ms)) ≡ true) (call_keys One verb)
  typed : AllByRecursion (λ k. fits k.shape (get_member k.name ms) ≡ true) (call_keys One verb)

given : (verb : Verb) (ms : Members) → AreGiven verb ms → Given verb ms
given verb ms h = record {
  there = list_all_true (λ k. not k.required || is_some (get_member k.name ms)) (call_keys One verb) h.0;
  typed = list_all_true (λ k. fits k.shape (get_member k.name ms)) (call_keys One verb) h.1;
}

-- where the tests on the keys pass, what the operation asks for is there
pub keys_give : (p : Place) (version : Version) (verb : Verb) (ms : Members) → place_fault p (key_tests version verb ms) ≡ None → AreGiven verb ms
unfolding key_tests
keys_give p version verb ms none =
    let a = all_pass p (key_tests version verb ms) none in
    (required_in_one version verb ms a.1.0, typed_in_one version verb ms a.1.1.0)

-- and its table is plain
pub keys_plain : (p : Place) (version : Version) (verb : Verb) (es : List Entry) → IsStrictlySortedBy string_cmp (keys_of es) → place_fault p (key_tests version verb (members_view es)) ≡ None
    → members_are_plain 0 (members_view es) ≡ true
unfolding key_tests
keys_plain p version verb es sorted none =
    let a = all_pass p (key_tests version verb (members_view es)) none in
    call_plain version verb es sorted a.0 a.1.1.0

-- an operation has a name
abbrev pub is_named : Verb → Bool
is_named verbs.Schedule = true
is_named verbs.Execute = true
is_named verbs.Rate = true
is_named verbs.Fixed = true
is_named verbs.Cancel = true
is_named _ = false

pub name_given : (verb : Verb) (ms : Members) → is_named verb ≡ true → AreGiven verb ms → is_some (given_text (codes "name") ms) ≡ true
name_given verbs.Schedule ms h none = let g = given verbs.Schedule ms none in text_is _ g.there.1.1.0 g.typed.1.1.0
name_given verbs.Execute ms h none = let g = given verbs.Execute ms none in text_is _ g.there.1.1.0 g.typed.1.1.0
name_given verbs.Rate ms h none = let g = given verbs.Rate ms none in text_is _ g.there.1.1.0 g.typed.1.1.0
name_given verbs.Fixed ms h none = let g = given verbs.Fixed ms none in text_is _ g.there.1.1.0 g.typed.1.1.0
name_given verbs.Cancel ms h none = let g = given verbs.Cancel ms none in text_is _ g.there.1.1.0 g.typed.1.1.0
name_given verb ms h none = absurd (cc)

pub schedule_delay : (ms : Members) → AreGiven verbs.Schedule ms → is_some (given_integer (codes "delay") ms) ≡ true
schedule_delay ms none = let g = given verbs.Schedule ms none in integer_is _ g.there.1.1.1.0 g.typed.1.1.1.0

pub rate_first : (ms : Members) → AreGiven verbs.Rate ms → is_some (given_integer (codes "first") ms) ≡ true
rate_first ms none = let g = given verbs.Rate ms none in integer_is _ g.there.1.1.1.0 g.typed.1.1.1.0

pub rate_period : (ms : Members) → AreGiven verbs.Rate ms → is_some (given_integer (codes "period") ms) ≡ true
rate_period ms none = let g = given verbs.Rate ms none in integer_is _ g.there.1.1.1.1.0 g.typed.1.1.1.1.0

pub fixed_first : (ms : Members) → AreGiven verbs.Fixed ms → is_some (given_integer (codes "first") ms) ≡ true
fixed_first ms none = let g = given verbs.Fixed ms none in integer_is _ g.there.1.1.1.0 g.typed.1.1.1.0

pub fixed_delay : (ms : Members) → AreGiven verbs.Fixed ms → is_some (given_integer (codes "delay") ms) ≡ true
fixed_delay ms none = let g = given verbs.Fixed ms none in integer_is _ g.there.1.1.1.1.0 g.typed.1.1.1.1.0

pub policy_which : (ms : Members) → AreGiven verbs.Policy ms → is_some (option_and_then which_of_word (given_text (codes "which") ms)) ≡ true
policy_which ms none = let g = given verbs.Policy ms none in policy_is _ g.there.1.1.0 g.typed.1.1.0

pub policy_value : (ms : Members) → AreGiven verbs.Policy ms → is_some (given_truth (codes "value") ms) ≡ true
policy_value ms none = let g = given verbs.Policy ms none in truth_is _ g.there.1.1.1.0 g.typed.1.1.1.0
