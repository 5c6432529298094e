-- Which keys belong in a table, which stand there, and by which version a tree's keys are.
use Rattle.std.proofs.Common.{◌≡◌, ◌∙◌, ◌<◌, ℕ, ℤ, pos, zero, suc, ◌||◌, Bool, true, false, List, [], ◌∷◌, length, get_or, Option, None, Some, is_some, arith, rules, ap, sym, refl}
use Rattle.std.proofs.lemmas.Slice.Eq.{bytes_eq-Decides}
use Rattle.std.specs.Borrow.{Bor}
use Rattle.std.specs.List.{list_any}
use Rattle.std.specs.Prelude.{bytes_eq, codes, option_and_then, option_map}
use Rattle.toml.specs.Data.{Data, string, integer, float, boolean, datetime, array, table, Members, as_integer, get_member}
use Rattle.toml.specs.View.{view}
use Rattle.toml.specs.declared.value.Value.{Value}
use Rattle.plan_read.specs.Keys.{is_key}
use Rattle.plan_read.specs.declared.versions.Version.{Version}
use Rattle.plan_read.specs.declared.versions.Version.TheVariants.{One, Two}
use Rattle.plan_reasons.specs.Told.{HasKeysOf}
use Rattle.plan_reasons.specs.declared.keys.Key.{Key}
use Rattle.plan_reasons.specs.own.Keys.{plan_keys}

-- ---- one of some keys

or_true : (b : Bool) → (b || true) ≡ true
or_true true = refl
or_true false = refl

-- the name of each of some keys is that of one of them
pub is_key_within : (keys : List Key) (i : ℕ) (d : Key) → i < length keys → is_key (plan_keys keys) (get_or keys i d).name.now ≡ true
is_key_within [] i d within = absurd (omega (arith, within))
is_key_within (k ∷ keys) zero d within = ap (λ b. b || is_key (plan_keys keys) k.name.now) ((bytes_eq-Decides k.name.now k.name.now).1 refl)
is_key_within (k ∷ keys) (suc i) d within =
    ap (λ b. bytes_eq (get_or keys i d).name.now k.name.now || b) (is_key_within keys i d (omega (arith, within))) ∙ or_true (bytes_eq (get_or keys i d).name.now k.name.now)

-- a search for a name among some keys
pub any_key : (name : List ℕ) (keys : List Key) → list_any (λ k. bytes_eq name k.name.now) keys ≡ is_key (plan_keys keys) name
any_key name [] = refl
any_key name (k ∷ keys) = ap (λ b. bytes_eq name k.name.now || b) (any_key name keys)

-- ---- what stands at a key

pub stands_like : (r : Option (Bor Value)) (o : Option Data) → option_map (λ v. view v.now) r ≡ o → is_some r ≡ is_some o
stands_like None o e = ap is_some e
stands_like (Some v) o e = ap is_some e

-- an integer at a key is what stands there
integer_is : (o : Option Data) (z : ℤ) → option_and_then as_integer o ≡ Some z → o ≡ Some (integer z)
integer_is None z e = grind (rules, e)
integer_is (Some (string s)) z e = grind (rules, e)
integer_is (Some (integer y)) z e = ap (option_map integer) e
integer_is (Some (float x)) z e = grind (rules, e)
integer_is (Some (boolean b)) z e = grind (rules, e)
integer_is (Some (datetime t)) z e = grind (rules, e)
integer_is (Some (array ds)) z e = grind (rules, e)
integer_is (Some (table ms)) z e = grind (rules, e)

-- ---- versions

pub has_keys_of : (tree : Members) (version : Version) (number : Option ℤ) → (version ≡ One → number ≡ Some (pos 1)) → (number ≡ Some (pos 1) → version ≡ One) → number ≡ option_and_then as_integer (get_member (codes "version") tree) → HasKeysOf version tree
has_keys_of tree One number first second e = integer_is (get_member (codes "version") tree) (pos 1) (sym e ∙ first refl)
has_keys_of tree Two number first second e = λ at. absurd (grind (rules, second (e ∙ ap (option_and_then as_integer) at)))
