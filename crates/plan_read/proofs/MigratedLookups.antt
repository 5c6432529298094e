-- What a look-up finds in a changed table, and that only look-ups tell whether a table has only some keys.
use Rattle.std.proofs.Common.{◌≡◌, ℕ, Bool, true, false, cond, List, Option, None, Some, Ordering, Less, Equal, Greater, is_some, is_eq, nat_cmp, bytes_eq, refl, subst, sym, ap, ◌∙◌, inl, inr}
use Rattle.std.specs.Prelude.{option_map}
use Rattle.std.proofs.lemmas.Bool.{cases_Bool, and_parts, and_from}
use Rattle.std.proofs.lemmas.Cmp.{nat_list_cmp_total}
use Rattle.std.proofs.lemmas.Map.Text.{is_eq-slice_cmp}
use Rattle.std.proofs.lemmas.Slice.Eq.{bytes_eq-Decides}
use Rattle.std.specs.Cmp.{tied_itself}
use Rattle.std.specs.Cmp.Lexicographic.{slice_cmp}
use Rattle.std.specs.Ordering.{match_ordering}
use Rattle.toml.specs.Data.{Data, Members, no_members, member, same_key, get_member}
use Rattle.plan_read.specs.Keys.{Key, is_key, has_only}
use Rattle.plan_read.specs.Migrating.{with_member, without, changed_at}

-- ---- one member

unequal : (o : Ordering) (d : Data) (rest : Option Data) → is_eq o ≡ false → match_ordering o rest (Some d) rest ≡ rest
unequal Less d rest h = refl
unequal Equal d rest h = absurd (cc)
unequal Greater d rest h = refl

-- another word is looked for behind a member
pub behind_other : (v w : List ℕ) (d : Data) (ms : Members) → bytes_eq v w ≡ false → get_member v (member w d ms) ≡ get_member v ms
behind_other v w d ms apart = unequal (slice_cmp nat_cmp v w) d (get_member v ms) (is_eq-slice_cmp v w ∙ apart)

-- a member is found at its word
pub at_own : (w : List ℕ) (d : Data) (ms : Members) → get_member w (member w d ms) ≡ Some d
at_own w d ms = rw (tied_itself nat_list_cmp_total w) refl

-- words with the same bytes are one
pub one_word : (v w : List ℕ) → bytes_eq v w ≡ true → v ≡ w
one_word v w h = (bytes_eq-Decides v w).0 h

-- a word has its own bytes
pub own_bytes : (w : List ℕ) → bytes_eq w w ≡ true
own_bytes w = (bytes_eq-Decides w w).1 refl

tied_words : (v w : List ℕ) → slice_cmp nat_cmp v w ≡ Equal → v ≡ w
tied_words v w h = one_word v w (sym (is_eq-slice_cmp v w) ∙ ap is_eq h)

-- behind members of one word the same is found where it is found in what follows
same_behind : (v w : List ℕ) (d : Data) (ms ns : Members) → get_member v ms ≡ get_member v ns → get_member v (member w d ms) ≡ get_member v (member w d ns)
same_behind v w d ms ns h = ap (λ (o : Option Data). match_ordering (slice_cmp nat_cmp v w) o (Some d) o) h

-- ---- a value at a key

added_own_by : (o : Ordering) (key : List ℕ) (d : Data) (k : List ℕ) (e : Data) (ms : Members) → slice_cmp nat_cmp key k ≡ o → get_member key (with_member key d ms) ≡ Some d
    → get_member key (match_ordering o (member key d (member k e ms)) (member k d ms) (member k e (with_member key d ms))) ≡ Some d
added_own_by Less key d k e ms h rest = at_own key d (member k e ms)
added_own_by Equal key d k e ms h rest = rw h refl
added_own_by Greater key d k e ms h rest = rw h rest

-- what is added is found at its key
pub added_own : (key : List ℕ) (d : Data) (ms : Members) → get_member key (with_member key d ms) ≡ Some d
added_own key d no_members = at_own key d no_members
added_own key d (member k e ms) = added_own_by (slice_cmp nat_cmp key k) key d k e ms refl (added_own key d ms)

added_other_by : (o : Ordering) (n key : List ℕ) (d : Data) (k : List ℕ) (e : Data) (ms : Members) → bytes_eq n key ≡ false → slice_cmp nat_cmp key k ≡ o
    → get_member n (with_member key d ms) ≡ get_member n ms
    → get_member n (match_ordering o (member key d (member k e ms)) (member k d ms) (member k e (with_member key d ms))) ≡ get_member n (member k e ms)
added_other_by Less n key d k e ms apart h rest = behind_other n key d (member k e ms) apart
added_other_by Equal n key d k e ms apart h rest =
    let away : bytes_eq n k ≡ false = subst (λ (w : List ℕ). bytes_eq n w ≡ false) (tied_words key k h) apart in
    behind_other n k d ms away ∙ sym (behind_other n k e ms away)
added_other_by Greater n key d k e ms apart h rest = same_behind n k e (with_member key d ms) ms rest

-- at another key nothing changes
pub added_other : (n key : List ℕ) (d : Data) (ms : Members) → bytes_eq n key ≡ false → get_member n (with_member key d ms) ≡ get_member n ms
added_other n key d no_members apart = behind_other n key d no_members apart
added_other n key d (member k e ms) apart = added_other_by (slice_cmp nat_cmp key k) n key d k e ms apart refl (added_other n key d ms apart)

-- ---- without a key

same_key_apart : (key k : List ℕ) (t : Bool) → same_key key k ≡ t → bytes_eq key k ≡ t
same_key_apart key k t h = sym (is_eq-slice_cmp key k) ∙ h

-- nothing is found at a key that is left out
pub left_own : (key : List ℕ) (ms : Members) → get_member key (without key ms) ≡ None
left_own key no_members = refl
left_own key (member k e ms) = elim (cases_Bool (same_key key k)) [
  | inl t ↦ rw t (left_own key ms)
  | inr f ↦ rw f (behind_other key k e (without key ms) (same_key_apart key k false f) ∙ left_own key ms)
]

-- at another key nothing changes
pub left_other : (n key : List ℕ) (ms : Members) → bytes_eq n key ≡ false → get_member n (without key ms) ≡ get_member n ms
left_other n key no_members apart = refl
left_other n key (member k e ms) apart = elim (cases_Bool (same_key key k)) [
  | inl t ↦ (
      let away : bytes_eq n k ≡ false = subst (λ (w : List ℕ). bytes_eq n w ≡ false) (one_word key k (same_key_apart key k true t)) apart in
      rw t (left_other n key ms apart ∙ sym (behind_other n k e ms away)))
  | inr f ↦ rw f (same_behind n k e (without key ms) ms (left_other n key ms apart))
]

-- ---- another value at a key

changed_own_by : (o : Ordering) (f : Data → Data) (e : Data) (a b : Option Data) → a ≡ option_map f b
    → match_ordering o a (Some (cond (is_eq o) (f e) e)) a ≡ option_map f (match_ordering o b (Some e) b)
changed_own_by Less f e a b h = h
changed_own_by Equal f e a b h = refl
changed_own_by Greater f e a b h = h

-- the changed value is found at its key
pub changed_own : (key : List ℕ) (f : Data → Data) (ms : Members) → get_member key (changed_at key f ms) ≡ option_map f (get_member key ms)
changed_own key f no_members = refl
changed_own key f (member k e ms) = changed_own_by (slice_cmp nat_cmp key k) f e (get_member key (changed_at key f ms)) (get_member key ms) (changed_own key f ms)

-- at another key nothing changes
pub changed_other : (n key : List ℕ) (f : Data → Data) (ms : Members) → bytes_eq n key ≡ false → get_member n (changed_at key f ms) ≡ get_member n ms
changed_other n key f no_members apart = refl
changed_other n key f (member k e ms) apart = elim (cases_Bool (same_key key k)) [
  | inl t ↦ (
      let away : bytes_eq n k ≡ false = subst (λ (w : List ℕ). bytes_eq n w ≡ false) (one_word key k (same_key_apart key k true t)) apart in
      behind_other n k _ (changed_at key f ms) away ∙ changed_other n key f ms apart ∙ sym (behind_other n k e ms away))
  | inr g ↦ rw g (same_behind n k e (changed_at key f ms) ms (changed_other n key f ms apart))
]

-- ---- only some keys

there_by : (o : Ordering) (e : Data) (found : Option Data) → is_some found ≡ true → is_some (match_ordering o found (Some e) found) ≡ true
there_by Less e found h = h
there_by Equal e found h = refl
there_by Greater e found h = h

there_behind : (n k : List ℕ) (e : Data) (ms : Members) → is_some (get_member n ms) ≡ true → is_some (get_member n (member k e ms)) ≡ true
there_behind n k e ms h = there_by (slice_cmp nat_cmp n k) e (get_member n ms) h

-- a table has only some keys where each word at which something is found is one of them
pub only_from : (keys : List Key) (ms : Members) → ((n : List ℕ) → is_some (get_member n ms) ≡ true → is_key keys n ≡ true) → has_only keys ms ≡ true
only_from keys no_members h = refl
only_from keys (member k e ms) h =
    and_from (is_key keys k) (has_only keys ms) (h k (ap (λ (o : Option Data). is_some o) (at_own k e ms))) (only_from keys ms (λ n t. h n (there_behind n k e ms t)))

-- each word at which something is found in a table of only some keys is one of them
pub only_at : (keys : List Key) (ms : Members) (n : List ℕ) → has_only keys ms ≡ true → is_some (get_member n ms) ≡ true → is_key keys n ≡ true
only_at keys no_members n h there = absurd (cc)
only_at keys (member k e ms) n h there =
    let both = and_parts (is_key keys k) (has_only keys ms) h in
    elim (cases_Bool (bytes_eq n k)) [
      | inl t ↦ subst (λ (w : List ℕ). is_key keys w ≡ true) (sym (one_word n k t)) both.0
      | inr f ↦ only_at keys ms n both.1 (rw (behind_other n k e ms f) at there)
    ]

none_by : (o : Option Data) → (is_some o ≡ true → ⊥) → o ≡ None
none_by None h = refl
none_by (Some d) h = absurd (h refl)

-- nothing is found at a word that is none of the keys
pub none_at : (keys : List Key) (ms : Members) (n : List ℕ) → has_only keys ms ≡ true → is_key keys n ≡ false → get_member n ms ≡ None
none_at keys ms n h apart = none_by (get_member n ms) (λ t. let e = only_at keys ms n h t in absurd (cc))
