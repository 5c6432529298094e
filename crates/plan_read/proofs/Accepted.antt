-- What an accepted header keeps, and one block more.
use Rattle.std.proofs.Common.{◌≡◌, ℕ, ◌+◌, ◌*◌, ◌≤◌, Bool, true, ◌&&◌, nat_le, List, [], ◌∷◌, ◌++◌, length, None, codes, refl, arith}
use Rattle.std.proofs.lemmas.Bool.{and_parts}
use Rattle.std.proofs.lemmas.Bool.Decides.{nat_tests}
use Rattle.std.specs.List.{AllByRecursion, list_all}
use Rattle.toml.specs.Data.{Members, get_member}
use Rattle.plan_read.specs.declared.faults.Place.{Place}
use Rattle.plan_read.specs.declared.versions.Version.{Version}
use Rattle.plan_read.specs.declared.versions.Version.TheVariants.{One, Two}
use Rattle.plan_read.specs.own.Walk.{place_fault, header_key_tests, times_tests, header_tests, top_tests}
use Rattle.plan_read.specs.Keys.{fits, header_keys, top_keys, are_typed}
use Rattle.plan_read.specs.declared.keys.Shape.TheVariants.{Integer, Tables}
use Rattle.plan_read.specs.Plans.{BlockTree, PlanTree, end_from, end_of_block, made_from}
use Rattle.plan_read.specs.own.Values.{tables_at, header_of}
use Rattle.plan_read.proofs.Failing.{all_pass}

-- where a test holds of a whole list it holds of each item
pub list_all_true : {A : Type 0} (test : A → Bool) (xs : List A) → list_all test xs ≡ true → AllByRecursion (λ x. test x ≡ true) xs
list_all_true test [] h = tt
list_all_true test (x ∷ xs) h = let p = and_parts (test x) (list_all test xs) h in (p.0, list_all_true test xs p.1)

-- the test of two numbers tells that the first is at most the second
pub le_from_test : (a b : ℕ) → nat_le a b ≡ true → a ≤ b
le_from_test a b h = grind (arith, nat_tests)

-- the value at each key of a header is of its shape, units left out
pub record HeaderTyped (ms : Members) : Type 0 where
  pub at : fits Integer (get_member (codes "at") ms) ≡ true
  pub times : fits Integer (get_member (codes "times") ms) ≡ true
  pub every : fits Integer (get_member (codes "every") ms) ≡ true
  pub tables : fits Tables (get_member (codes "call") ms) ≡ true

pub typed_header : (version : Version) (ms : Members) → are_typed (header_keys version) ms ≡ true → HeaderTyped ms
typed_header One ms t =
    let all = list_all_true (λ k. fits k.shape (get_member k.name ms)) (header_keys One) t in
    record { at = all.0; times = all.1.1.0; every = all.1.1.1.0; tables = all.1.1.1.1.0 }
typed_header Two ms t =
    let all = list_all_true (λ k. fits k.shape (get_member k.name ms)) (header_keys Two) t in
    record { at = all.0; times = all.1.1.0; every = all.1.1.1.0; tables = all.1.1.1.1.1.0 }

-- what an accepted header says: its number of iterations, and its array of calls, which fits the plan
pub record Passed (version : Version) (made : ℕ) (ms : Members) : Type 0 where
  pub times : 1 ≤ (header_of version ms).times
  pub tables : fits Tables (get_member (codes "call") ms) ≡ true
  pub few : length (tables_at (codes "call") ms) ≤ 256
  pub fits_plan : made + (header_of version ms).times * length (tables_at (codes "call") ms) ≤ 65536

-- a header none of whose checks fails says so
pub passed : (p : Place) (version : Version) (end made : ℕ) (ms : Members) → place_fault p (header_tests version end made ms) ≡ None → Passed version made ms
unfolding header_tests header_key_tests times_tests header_of
passed p version end made ms none =
    let a = all_pass p (header_tests version end made ms) none in
    let times : (nat_le 1 (header_of version ms).times && nat_le (header_of version ms).times 65536) ≡ true = a.1.1.1.0 in
    let many : (nat_le (length (tables_at (codes "call") ms)) 256 && nat_le (made + (header_of version ms).times * length (tables_at (codes "call") ms)) 65536) ≡ true = a.1.1.1.1.1.1.1.1.0 in
    record {
      times = le_from_test 1 (header_of version ms).times (and_parts (nat_le 1 (header_of version ms).times) (nat_le (header_of version ms).times 65536) times).0;
      tables = (typed_header version ms a.1.0).tables;
      few = le_from_test (length (tables_at (codes "call") ms)) 256 (and_parts (nat_le (length (tables_at (codes "call") ms)) 256) (nat_le (made + (header_of version ms).times * length (tables_at (codes "call") ms)) 65536) many).0;
      fits_plan = le_from_test (made + (header_of version ms).times * length (tables_at (codes "call") ms)) 65536 (and_parts (nat_le (length (tables_at (codes "call") ms)) 256) (nat_le (made + (header_of version ms).times * length (tables_at (codes "call") ms)) 65536) many).1;
    }

-- the moment of the last call, with one block more
pub end_from_one_more : (m : ℕ) (bs : PlanTree) (b : BlockTree) → end_from m (bs ++ b ∷ []) ≡ end_of_block (end_from m bs) b.header b.calls
end_from_one_more m [] b = refl
end_from_one_more m (d ∷ bs) b = end_from_one_more (end_of_block m d.header d.calls) bs b

-- the number of calls made, with one block more
pub made_from_one_more : (n : ℕ) (bs : PlanTree) (b : BlockTree) → made_from n (bs ++ b ∷ []) ≡ made_from n bs + b.header.times * length b.calls
made_from_one_more n [] b = refl
made_from_one_more n (d ∷ bs) b = made_from_one_more (n + d.header.times * length d.calls) bs b

-- the value at each key of a top is of its shape
pub typed_top : (ms : Members) → are_typed top_keys ms ≡ true → AllByRecursion (λ k. fits k.shape (get_member k.name ms) ≡ true) top_keys
typed_top ms t = list_all_true (λ k. fits k.shape (get_member k.name ms)) top_keys t

-- what an accepted top says: its blocks are an array of tables, at most 256
pub record TopPassed (ms : Members) : Type 0 where
  pub tables : fits Tables (get_member (codes "block") ms) ≡ true
  pub few : length (tables_at (codes "block") ms) ≤ 256

-- a top none of whose checks fails says so
pub top_passed : (p : Place) (ms : Members) → place_fault p (top_tests ms) ≡ None → TopPassed ms
unfolding top_tests
top_passed p ms none =
    let a = all_pass p (top_tests ms) none in
    let typed = list_all_true (λ k. fits k.shape (get_member k.name ms)) top_keys a.1.1.0 in
    record { tables = typed.1.0; few = le_from_test (length (tables_at (codes "block") ms)) 256 a.1.1.1.0 }
