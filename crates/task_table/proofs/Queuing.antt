-- How many tasks stand in the queue: as many as there are entries in the two queues of a table.
use Rattle.std.proofs.Common.{◌≡◌, ℕ, ◌+◌, ◌≤◌, ◌||◌, zero, suc, Bool, true, false, cond, List, [], ◌∷◌, length, Option, Some, None, is_some, count_by, refl, sym, ap, ◌∙◌, arith}
use Rattle.std.specs.Prelude.{slice_index_or}
use Rattle.std.specs.List.{range_with_len}
use Rattle.std.specs.Option.{option_map}
use Rattle.delay_queue.specs.slots.Entries.{Key}
use Rattle.delay_queue.specs.slots.Queues.{key_in, entry_count}
use Rattle.std.proofs.lemmas.Bool.{false≢true, false_from_ne_true}
use Rattle.std.proofs.lemmas.List.Recursion.{is_count_by}
use Rattle.queue_code.specs.Calls.{how_many}
use Rattle.task_table.specs.declared.seat.Seat.{Seat}
use Rattle.task_table.specs.Seats.{task_in, slot_of, waits}
use Rattle.task_table.specs.Tables.{TableView}
use Rattle.task_table.specs.Firsts.{stands_in_queue, queue_in}
use Rattle.task_table.specs.Orders.{pair_of, keys}
use Rattle.task_table.specs.own.Queues.{queued_key, kept_key, key_where, IsTable}
use Rattle.task_table.proofs.Firsts.{kept_waits_not}

-- how many pass a test, counted either way
pub how_counts : {X : Type 0} (p : X → Bool) (xs : List X) → how_many p xs ≡ count_by p xs
how_counts p xs = is_count_by (how_many p) p refl (λ x ys. refl) xs

-- there are no more than elements
how_few : {X : Type 0} (p : X → Bool) (xs : List X) → how_many p xs ≤ length xs
how_few p [] = omega arith
how_few p (x ∷ xs) = by (p x) (how_few p xs)
  where
    by : (b : Bool) → how_many p xs ≤ length xs → cond b (1 + how_many p xs) (how_many p xs) ≤ length (x ∷ xs)
    by true few = omega (arith, few)
    by false few = omega (arith, few)

first_is : (n : ℕ) → n ≡ n + 0
first_is n = omega arith

next_is : (n k : ℕ) → n + 1 + k ≡ n + suc k
next_is n k = omega arith

-- a count by places is one of the list, as far as the list goes
count_to : {X : Type 0} (f : ℕ → Bool) (g : Option X → Bool) (first room : ℕ) (xs : List (Option X)) → length xs ≤ room → g None ≡ false → ((i : ℕ) → f (first + i) ≡ g (slice_index_or xs i None)) →
    how_many f (range_with_len first room) ≡ how_many g xs
count_to f g first zero [] long none same = refl
count_to f g first (suc room) [] long none same =
    let at : f first ≡ false = ap f (first_is first) ∙ (same 0 ∙ none) in
    let rest = count_to f g (first + 1) room [] (omega arith) none (λ i. ap f (next_is first i) ∙ same (suc i)) in
    λ i. cond (at i) (1 + rest i) (rest i)
count_to f g first zero (x ∷ xs) long none same = absurd (omega (arith, long))
count_to f g first (suc room) (x ∷ xs) long none same =
    let at : f first ≡ g x = ap f (first_is first) ∙ same 0 in
    let rest = count_to f g (first + 1) room xs (omega (arith, long)) none (λ i. ap f (next_is first i) ∙ same (suc i)) in
    λ i. cond (at i) (1 + rest i) (rest i)

-- how many entries a queue of slots has, counted by slot
pub keys_counted : (entries : List (Option Key)) → entry_count entries ≡ how_many (λ i. is_some (keys entries i)) (range_with_len 0 (length entries))
keys_counted entries = sym (count_to (λ i. is_some (keys entries i)) is_some 0 (length entries) entries (omega arith) refl (λ i. ap (λ j. is_some (keys entries j)) (none_before i) ∙ stands (key_in entries i)) ∙ how_counts is_some entries)
  where
    none_before : (n : ℕ) → 0 + n ≡ n
    none_before n = omega arith

    stands : (o : Option Key) → is_some (option_map pair_of o) ≡ is_some o
    stands None = refl
    stands (Some key) = refl

-- a slot stands in one queue, or in the other, or in none
one_of : (o : Option Seat) → ((x : Seat) → o ≡ Some x → waits (task_in x) ≡ true → x.kept ≡ false) → cond (is_some (queued_key o)) 1 0 + cond (is_some (kept_key o)) 1 0 ≡ cond (stands_in_queue o) 1 0
one_of None apart = refl
one_of (Some x) apart = by (waits (task_in x)) x.kept (apart x refl)
  where
    by : (w k : Bool) → (w ≡ true → k ≡ false) → cond (is_some (key_where w x)) 1 0 + cond (is_some (key_where k x)) 1 0 ≡ cond (w || k) 1 0
    by true true q = absurd (false≢true (sym (q refl)))
    by true false q = refl
    by false true q = refl
    by false false q = refl

-- one slot more
one_more : (a b s : Bool) (x y q : ℕ) → cond a 1 0 + cond b 1 0 ≡ cond s 1 0 → x + y ≡ q → cond a (1 + x) x + cond b (1 + y) y ≡ cond s (1 + q) q
one_more true true true x y q first rest = absurd (omega (arith, first))
one_more true true false x y q first rest = absurd (omega (arith, first))
one_more true false true x y q first rest = omega (arith, rest)
one_more true false false x y q first rest = absurd (omega (arith, first))
one_more false true true x y q first rest = omega (arith, rest)
one_more false true false x y q first rest = absurd (omega (arith, first))
one_more false false true x y q first rest = absurd (omega (arith, first))
one_more false false false x y q first rest = rest

-- the entries are as many as the slots that stand in a queue
counted : (slots : List (Option Seat)) → ((i : ℕ) (x : Seat) → slot_of slots i ≡ Some x → waits (task_in x) ≡ true → x.kept ≡ false) →
    how_many (λ o. is_some (queued_key o)) slots + how_many (λ o. is_some (kept_key o)) slots ≡ queue_in slots
counted [] apart = refl
counted (o ∷ slots) apart =
    one_more (is_some (queued_key o)) (is_some (kept_key o)) (stands_in_queue o) (how_many (λ o. is_some (queued_key o)) slots) (how_many (λ o. is_some (kept_key o)) slots) (queue_in slots) (one_of o (apart 0)) (counted slots (λ i. apart (suc i)))

-- how many entries a queue has
abbrev pub entries_in : (ℕ → Option (ℕ × ℕ)) → ℕ → ℕ
entries_in entries room = how_many (λ i. is_some (entries i)) (range_with_len 0 room)

-- of a table
pub queue_counted : {a : ℕ → ℕ → Bool} {r : ℕ → Bool} (m : TableView) (entries kept : ℕ → Option (ℕ × ℕ)) (room spare : ℕ) → IsTable a r m entries kept room spare → entries_in entries room + entries_in kept spare ≡ queue_in m.slots
queue_counted m entries kept room spare t =
    let waiting = count_to (λ i. is_some (entries i)) (λ o. is_some (queued_key o)) 0 room m.slots t.room refl (λ i. ap is_some (ap entries (none_first i) ∙ t.queues.waiting i)) in
    let keeping = count_to (λ i. is_some (kept i)) (λ o. is_some (kept_key o)) 0 spare m.slots t.spare refl (λ i. ap is_some (ap kept (none_first i) ∙ t.queues.keeping i)) in
    (λ i. waiting i + keeping i) ∙ counted m.slots (λ i x there waits_so. false_from_ne_true x.kept (λ held. absurd (kept_waits_not m i x t.formed there held waits_so)))
  where
    none_first : (n : ℕ) → 0 + n ≡ n
    none_first n = omega arith

-- they are few
pub queue_few : (m : TableView) → queue_in m.slots ≤ length m.slots
queue_few m = how_few stands_in_queue m.slots
