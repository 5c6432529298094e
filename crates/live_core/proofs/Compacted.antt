-- An index as its stale entries are dropped, entry by entry, from the newest one on.
use Rattle.std.proofs.Common.{◌≡◌, ℕ, ◌+◌, ◌<◌, ◌≤◌, Bool, true, false, cond, List, [], ◌∷◌, ◌++◌, length, get_or, take, drop, set, refl, sym, ap, ◌∙◌, arith}
use Rattle.std.specs.Prelude.{◌-◌}
use Rattle.std.specs.List.{filter}
use Rattle.std.proofs.lemmas.List.{take-take, take-set-le, take-append-drop, drop_more, drop_all, drop-set, get_or-take, length-set, length-take, length-drop, length-append, nil_from_length}
use Rattle.std.proofs.lemmas.List.Elements.{filter-append}
use Rattle.task_table.specs.declared.seat.TaskRef.{TaskRef}

-- of the entries from place i on those that pass stand at the end, from place `from` on, and before place i all are as they were
pub record Compacts (test : TaskRef → Bool) (old now : List TaskRef) (from i : ℕ) : Type 0 where
  pub within : i ≤ from
  pub most : from ≤ length old
  pub long : length now ≡ length old
  pub front : take i now ≡ take i old
  pub back : drop from now ≡ filter test (drop i old)

-- none was looked at
pub compacts_none : (test : TaskRef → Bool) (old : List TaskRef) (n : ℕ) → n ≡ length old → Compacts test old old n n
compacts_none test old n is =
    let none : drop n old ≡ [] = drop_all n old (omega (arith, is)) in
    record {
      within = omega arith;
      most = omega (arith, is);
      long = refl;
      front = refl;
      back = none ∙ sym (ap (filter test) none);
    }

-- those before the one at place k are as they were
front_less : (old now : List TaskRef) (k i : ℕ) → k + 1 ≡ i → take i now ≡ take i old → take k now ≡ take k old
front_less old now k i is front = sym (take-take k i now (omega (arith, is))) ∙ (ap (take k) front ∙ take-take k i old (omega (arith, is)))

-- the entry at place k is the one that was there
read : (old now : List TaskRef) (k i : ℕ) (x : TaskRef) → k + 1 ≡ i → take i now ≡ take i old → x ≡ get_or now k x → get_or old k x ≡ x
read old now k i x is front there =
    let low : k < i = omega (arith, is) in
    sym (get_or-take i old k x low) ∙ (ap (λ (l : List TaskRef). get_or l k x) (sym front) ∙ (get_or-take i now k x low ∙ sym there))

-- the entries from place k on that pass
back_more : (test : TaskRef → Bool) (old : List TaskRef) (k i : ℕ) (x : TaskRef) (b : Bool) → k + 1 ≡ i → k < length old → get_or old k x ≡ x → test x ≡ b → filter test (drop k old) ≡ cond b (x ∷ filter test (drop i old)) (filter test (drop i old))
back_more test old k i x b is low there passes =
    ap (filter test) (drop_more old k x low ∙ (ap (λ (y : TaskRef). y ∷ drop (k + 1) old) there ∙ ap (λ (n : ℕ). x ∷ drop n old) is))
    ∙ ap (λ (c : Bool). cond c (x ∷ filter test (drop i old)) (filter test (drop i old))) passes

-- it passes, and comes to the place before those that were kept
pub compacts_kept : (test : TaskRef → Bool) (old now : List TaskRef) (from i place k : ℕ) (x : TaskRef) → k + 1 ≡ i → place + 1 ≡ from → x ≡ get_or now k x → test x ≡ true → Compacts test old now from i → Compacts test old (set now place x) place k
compacts_kept test old now from i place k x is at there passes c =
    let same : get_or old k x ≡ x = read old now k i x is c.front there in
    let more = back_more test old k i x true is (omega (arith, is, c.within, c.most)) same passes in
    record {
      within = omega (arith, is, at, c.within);
      most = omega (arith, at, c.most);
      long = length-set now place x ∙ c.long;
      front = take-set-le k now place x (omega (arith, is, at, c.within)) ∙ front_less old now k i is c.front;
      back = drop-set now place x (omega (arith, at, c.most, c.long)) ∙ (ap (λ (n : ℕ). x ∷ drop n now) at ∙ (ap (λ (l : List TaskRef). x ∷ l) c.back ∙ sym more));
    }

-- it does not
pub compacts_left : (test : TaskRef → Bool) (old now : List TaskRef) (from i k : ℕ) (x : TaskRef) → k + 1 ≡ i → x ≡ get_or now k x → test x ≡ false → Compacts test old now from i → Compacts test old now from k
compacts_left test old now from i k x is there fails c =
    let same : get_or old k x ≡ x = read old now k i x is c.front there in
    let more = back_more test old k i x false is (omega (arith, is, c.within, c.most)) same fails in
    record {
      within = omega (arith, is, c.within);
      most = c.most;
      long = c.long;
      front = front_less old now k i is c.front;
      back = c.back ∙ sym more;
    }

-- all entries were looked at
pub compacts_all : (test : TaskRef → Bool) (old now : List TaskRef) (from i : ℕ) → i ≡ 0 → Compacts test old now from i → drop from now ≡ filter test old
compacts_all test old now from i is c = c.back ∙ ap (λ (n : ℕ). filter test (drop n old)) is

-- no more pass than there are
filter_few : (test : TaskRef → Bool) (entries : List TaskRef) → length (filter test entries) ≤ length entries
filter_few test [] = omega arith
filter_few test (x ∷ entries) = by (test x) (filter_few test entries)
  where
    by : (b : Bool) → length (filter test entries) ≤ length entries → length (cond b (x ∷ filter test entries) (filter test entries)) ≤ length (x ∷ entries)
    by true rest = omega (arith, rest)
    by false rest = omega (arith, rest)

-- as many pass as can: those before are not looked at
pub compacts_full : (test : TaskRef → Bool) (old now : List TaskRef) (from i most : ℕ) → length (filter test old) ≤ most → from ≡ length old - most → Compacts test old now from i → drop from now ≡ filter test old
compacts_full test old now from i most few full c =
    let split : filter test old ≡ filter test (take i old) ++ filter test (drop i old) =
    ap (filter test) (sym (take-append-drop i old)) ∙ filter-append test (take i old) (drop i old) in
    let kept = ap length c.back in
    let none : length (filter test (take i old)) ≡ 0 =
    omega (arith, few, full, kept, c.long, c.within, c.most, length-drop from now, ap length split, length-append (filter test (take i old)) (filter test (drop i old)), filter_few test (take i old), length-take i old, filter_few test old) in
    c.back ∙ (ap (λ (l : List TaskRef). l ++ filter test (drop i old)) (sym (nil_from_length (filter test (take i old)) none)) ∙ sym split)
