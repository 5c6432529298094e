-- A table has only some keys where it has no more members than there are of these.
use Rattle.std.proofs.Common.{◌≡◌, ℕ, suc, ◌+◌, ◌≤◌, Bool, true, false, cond, ◌==◌, ◌||◌, not, List, [], ◌∷◌, length, String, Global, Option, None, Some, Ordering, Less, Equal, Greater, is_some, is_eq, nat_cmp, string_bytes, bytes_eq, refl, subst, sym, ap, ◌∙◌, inl, inr, arith}
use Rattle.std.proofs.lemmas.Bool.{cases_Bool, and_parts}
use Rattle.std.proofs.lemmas.Bool.Decides.{nat_tests}
use Rattle.std.proofs.lemmas.Cmp.{nat_list_cmp_total}
use Rattle.std.proofs.lemmas.List.Sums.{count_by-le-length, sum_by-cons}
use Rattle.std.proofs.lemmas.Map.Text.{is_eq-slice_cmp}
use Rattle.std.proofs.lemmas.Slice.Eq.{bytes_eq-Decides}
use Rattle.std.specs.Cmp.{tied_itself}
use Rattle.std.specs.Cmp.Lexicographic.{slice_cmp}
use Rattle.std.specs.List.{AllByRecursion, count_by}
use Rattle.std.specs.List.Sorted.{IsStrictlySortedBy}
use Rattle.std.specs.Map.{keys_of}
use Rattle.std.specs.Ordering.{match_ordering}
use Rattle.std.specs.String.{string_cmp}
use Rattle.toml.specs.Data.{Data, Members, member, get_member}
use Rattle.toml.specs.View.{view, members_view}
use Rattle.plan_read.specs.declared.keys.Key.{Key as CodeKey}
use Rattle.plan_read.specs.declared.keys.Role.{Role}
use Rattle.plan_read.specs.declared.keys.Role.TheVariants as roles
use Rattle.plan_read.specs.declared.verbs.Verb.{Verb}
use Rattle.plan_read.specs.declared.verbs.Verb.TheVariants as verbs
use Rattle.plan_read.specs.declared.versions.Version.{Version}
use Rattle.plan_read.specs.declared.versions.Version.TheVariants.{One, Two}
use Rattle.plan_read.specs.Keys.{Key, is_key, has_only, top_keys, header_keys, call_keys}
use Rattle.plan_read.specs.own.Rows.{are_apart, key_as_defined, as_defined, keys_in}
use Rattle.plan_read.proofs.RowLaw.{Entry}

-- ---- what one member more changes

unequal : (o : Ordering) (d : Data) (rest : Option Data) → is_eq o ≡ false → match_ordering o rest (Some d) rest ≡ rest
unequal Less d rest h = refl
unequal Equal d rest h = absurd (cc)
unequal Greater d rest h = refl

-- another word is looked for behind a member
pub other_word : (v w : List ℕ) (d : Data) (ms : Members) → bytes_eq v w ≡ false → get_member v (member w d ms) ≡ get_member v ms
other_word v w d ms apart = unequal (slice_cmp nat_cmp v w) d (get_member v ms) (is_eq-slice_cmp v w ∙ apart)

-- a member is found at its word
pub own_word : (w : List ℕ) (d : Data) (ms : Members) → get_member w (member w d ms) ≡ Some d
own_word w d ms = rw (tied_itself nat_list_cmp_total w) refl

-- how many of these keys are there
abbrev pub there : List Key → Members → ℕ
there keys ms = count_by (λ k. is_some (get_member k.name ms)) keys

bytes_eq-flips : (v w : List ℕ) → bytes_eq v w ≡ true → bytes_eq w v ≡ true
bytes_eq-flips v w h = (bytes_eq-Decides w v).1 (sym ((bytes_eq-Decides v w).0 h))

bytes_eq-apart : (v w : List ℕ) → bytes_eq v w ≡ false → bytes_eq w v ≡ false
bytes_eq-apart v w h = elim (cases_Bool (bytes_eq w v)) [ inl t ↦ absurd (let e = bytes_eq-flips w v t in cc) | inr f ↦ f ]

not_false : (b : Bool) → not b ≡ true → b ≡ false
not_false true h = absurd (cc)
not_false false h = refl

-- 1 where a test holds, and 0 where it does not
abbrev one_if : Bool → ℕ
one_if b = cond b 1 0

joined : (l h t r i u m n : ℕ) → l ≡ h + t → r ≡ i + u → t ≡ m + u → h + m ≡ n + i → l ≡ n + r
joined l h t r i u m n a b c d = omega arith

-- a member of a new word is one key more where its word is some key
there_more : (keys : List Key) (w : List ℕ) (d : Data) (ms : Members) → are_apart keys ≡ true → get_member w ms ≡ None
    → there keys (member w d ms) ≡ one_if (is_key keys w) + there keys ms
there_more [] w d ms apart none = refl
there_more (k ∷ keys) w d ms apart none =
    let both = and_parts (not (is_key keys k.name)) (are_apart keys) apart in
    let heads : one_if (is_some (get_member k.name (member w d ms))) + one_if (is_key keys w) ≡ one_if (is_key (k ∷ keys) w) + one_if (is_some (get_member k.name ms)) =
    elim (cases_Bool (bytes_eq w k.name)) [
      | inl t ↦ (
          let same : w ≡ k.name = (bytes_eq-Decides w k.name).0 t in
          let here : get_member k.name (member w d ms) ≡ Some d = subst (λ (v : List ℕ). get_member v (member w d ms) ≡ Some d) same (own_word w d ms) in
          let gone : get_member k.name ms ≡ None = subst (λ (v : List ℕ). get_member v ms ≡ None) same none in
          let once : is_key keys w ≡ false = subst (λ (v : List ℕ). is_key keys v ≡ false) (sym same) (not_false (is_key keys k.name) both.0) in
          let a : one_if (is_some (get_member k.name (member w d ms))) ≡ 1 = ap (λ (o : Option Data). one_if (is_some o)) here in
          let b : one_if (is_some (get_member k.name ms)) ≡ 0 = ap (λ (o : Option Data). one_if (is_some o)) gone in
          let e : one_if (is_key (k ∷ keys) w) ≡ 1 = ap (λ (b : Bool). one_if (b || is_key keys w)) t in
          let f : one_if (is_key keys w) ≡ 0 = ap (λ (b : Bool). one_if b) once in
          omega arith)
      | inr f ↦ (
          let rest : get_member k.name (member w d ms) ≡ get_member k.name ms = other_word k.name w d ms (bytes_eq-apart w k.name f) in
          let a : one_if (is_some (get_member k.name (member w d ms))) ≡ one_if (is_some (get_member k.name ms)) = ap (λ (o : Option Data). one_if (is_some o)) rest in
          let e : one_if (is_key (k ∷ keys) w) ≡ one_if (is_key keys w) = ap (λ (b : Bool). one_if (b || is_key keys w)) f in
          omega arith)
    ] in
    joined _ _ _ _ _ _ _ _ (sum_by-cons (λ (j : Key). cond (is_some (get_member j.name (member w d ms))) 1 0) k keys) (sum_by-cons (λ (j : Key). cond (is_some (get_member j.name ms)) 1 0) k keys) (there_more keys w d ms both.1 none) heads

-- ---- all members

-- a word below those of all members is no word of theirs
below_all : (k : String Global) (es : List Entry) → AllByRecursion (λ y. string_cmp k y ≡ Less) (keys_of es) → get_member (string_bytes k) (members_view es) ≡ None
below_all k [] h = refl
below_all k (e ∷ es) h = rw h.0 (below_all k es h.1)

none_there : (keys : List Key) → count_by (λ k. false) keys ≡ 0
none_there [] = refl
none_there (k ∷ keys) = none_there keys

-- of these keys as many are there as members have words of theirs
there_all : (keys : List Key) (es : List Entry) → are_apart keys ≡ true → IsStrictlySortedBy string_cmp (keys_of es)
    → there keys (members_view es) ≡ count_by (λ e. is_key keys (string_bytes e.0)) es
unfolding IsStrictlySortedBy
there_all keys [] apart sorted = none_there keys
there_all keys (e ∷ es) apart sorted =
    there_more keys (string_bytes e.0) (view e.1) (members_view es) apart (below_all e.0 es sorted.0)
    ∙ ap (λ n. cond (is_key keys (string_bytes e.0)) 1 0 + n) (there_all keys es apart sorted.1)
    ∙ sym (sum_by-cons (λ (e : Entry). cond (is_key keys (string_bytes e.0)) 1 0) e es)

one_more : (c n : ℕ) → ((1 + c) == suc n) ≡ (c == n)
one_more c n = grind (arith, nat_tests)

too_few : (c n : ℕ) → c ≤ n → ((0 + c) == suc n) ≡ false
too_few c n h = grind (arith, nat_tests)

-- all pass a test where as many as there are pass it
all_counted : (keys : List Key) (es : List Entry) → (count_by (λ e. is_key keys (string_bytes e.0)) es == length es) ≡ has_only keys (members_view es)
all_counted keys [] = refl
all_counted keys (e ∷ es) =
    let passed = count_by (λ (e : Entry). is_key keys (string_bytes e.0)) es in
    ap (λ n. n == suc (length es)) (sum_by-cons (λ (e : Entry). cond (is_key keys (string_bytes e.0)) 1 0) e es)
    ∙ elim (cases_Bool (is_key keys (string_bytes e.0))) [
      | inl t ↦ rw t (one_more passed (length es) ∙ all_counted keys es)
      | inr f ↦ rw f (too_few passed (length es) (count_by-le-length (λ (e : Entry). is_key keys (string_bytes e.0)) es))
    ]

-- a table has only these keys exactly where as many of them are there as it has members
pub only_these : (keys : List Key) (es : List Entry) → are_apart keys ≡ true → IsStrictlySortedBy string_cmp (keys_of es)
    → (there keys (members_view es) == length es) ≡ has_only keys (members_view es)
only_these keys es apart sorted = ap (λ n. n == length es) (there_all keys es apart sorted) ∙ all_counted keys es

-- to count keys one by one is to count them as the definitions have them
pub count_as_defined : (test : Key → Bool) (keys : List CodeKey) → count_by (λ k. test (key_as_defined k)) keys ≡ count_by test (as_defined keys)
count_as_defined test [] = refl
count_as_defined test (k ∷ keys) =
    sum_by-cons (λ (j : CodeKey). cond (test (key_as_defined j)) 1 0) k keys
    ∙ ap (λ n. cond (test (key_as_defined k)) 1 0 + n) (count_as_defined test keys)
    ∙ sym (sum_by-cons (λ (j : Key). cond (test j) 1 0) (key_as_defined k) (as_defined keys))

-- ---- the keys of each table have different names

pub top_apart : are_apart top_keys ≡ true
top_apart = refl

pub header_apart : (version : Version) → are_apart (header_keys version) ≡ true
header_apart One = refl
header_apart Two = refl

call_apart_one : (verb : Verb) → are_apart (call_keys One verb) ≡ true
call_apart_one verbs.Schedule = refl
call_apart_one verbs.Execute = refl
call_apart_one verbs.Rate = refl
call_apart_one verbs.Fixed = refl
call_apart_one verbs.Cancel = refl
call_apart_one verbs.Policy = refl
call_apart_one verbs.Shutdown = refl
call_apart_one verbs.ShutdownNow = refl
call_apart_one verbs.Ask = refl

call_apart_two : (verb : Verb) → are_apart (call_keys Two verb) ≡ true
call_apart_two verbs.Schedule = refl
call_apart_two verbs.Execute = refl
call_apart_two verbs.Rate = refl
call_apart_two verbs.Fixed = refl
call_apart_two verbs.Cancel = refl
call_apart_two verbs.Policy = refl
call_apart_two verbs.Shutdown = refl
call_apart_two verbs.ShutdownNow = refl
call_apart_two verbs.Ask = refl

pub call_apart : (version : Version) (verb : Verb) → are_apart (call_keys version verb) ≡ true
call_apart One verb = call_apart_one verb
call_apart Two verb = call_apart_two verb

-- the keys of a table of any role
pub keys_apart : (version : Version) (role : Role) → are_apart (keys_in version role) ≡ true
keys_apart version roles.Top = top_apart
keys_apart version roles.Header = header_apart version
keys_apart version (roles.Call verb) = call_apart version verb
