-- A queue of slots without ranks, and the table of the tasks that it stands for.
use Rattle.std.proofs.Common.{◌≡◌, ◌⊎◌, ⊎_elim, ℕ, zero, suc, Bool, true, cond, min, ◌+◌, ◌*◌, ◌<◌, ◌≤◌, List, [], ◌∷◌, Option, Some, None, is_some, set, replicate, length, refl, sym, ap, subst, ◌∙◌, arith, count_by}
use Rattle.std.specs.Prelude.{map}
use Rattle.std.proofs.lemmas.Bool.{cases_lt}
use Rattle.std.proofs.lemmas.List.{get_or-map, get_or_past, length-map, map-set}
use Rattle.std.proofs.lemmas.List.Sums.{sum_by-cons}
use Rattle.std.proofs.lemmas.Option.{same_Some, none-some}
use Rattle.delay_queue.specs.slots.Entries.{Key, comes_before}
use Rattle.delay_queue.specs.slots.Queues as slots
use Rattle.delay_queue.specs.Queues.{Queue, due_in, entry_count, IsLeast, IsEmpty, NoneIsDue}
use Rattle.delay_queue.specs.Touches.{most_touches, greatest_count, Touches}
use Rattle.delay_queue.specs.own.Unranked.{key_due, key_by, keys_by, IsUnranked}

-- the entries of a queue
abbrev pub entries_of : Queue → List (Option ℕ)
entries_of q = q.entries

-- when the entry with a key is due
pub due_back : (o : Option ℕ) → slots.due_by (key_by o) ≡ o
due_back None = refl
due_back (Some due) = refl

-- when each task is due
pub dues_back : (entries : List (Option ℕ)) → map slots.due_by (keys_by entries) ≡ entries
dues_back [] = refl
dues_back (o ∷ rest) = ap (λ (x : Option ℕ). x ∷ map slots.due_by (keys_by rest)) (due_back o) ∙ ap (λ (l : List (Option ℕ)). o ∷ l) (dues_back rest)

-- a queue's slots have the keys of its table
pub slots_are : (kept : List (Option Key)) (entries : List (Option ℕ)) → IsUnranked kept → map slots.due_by kept ≡ entries → kept ≡ keys_by entries
slots_are kept entries unranked view = unranked ∙ ap keys_by view

-- slots with the keys of a table are a queue's, and it is what they show
pub table_shown : (kept : List (Option Key)) (entries : List (Option ℕ)) → kept ≡ keys_by entries → map slots.due_by kept ≡ entries
table_shown kept entries is = ap (λ (l : List (Option Key)). map slots.due_by l) is ∙ dues_back entries

pub unranked : (kept : List (Option Key)) (entries : List (Option ℕ)) → kept ≡ keys_by entries → IsUnranked kept
unranked kept entries is = is ∙ sym (ap keys_by (table_shown kept entries is))

-- one slot's key is another one
pub keys_set : (kept kept' : List (Option Key)) (entries : List (Option ℕ)) (task : ℕ) (o : Option ℕ) → kept ≡ keys_by entries → kept' ≡ set kept task (key_by o)
    → kept' ≡ keys_by (set entries task o)
keys_set kept kept' entries task o is put = put ∙ ap (λ (l : List (Option Key)). set l task (key_by o)) is ∙ sym (map-set key_by entries task o)

-- slots without an entry
pub keys_none : (n : ℕ) → replicate {A = Option Key} n None ≡ keys_by (replicate n None)
keys_none zero = refl
keys_none (suc n) = ap (λ (l : List (Option Key)). None ∷ l) (keys_none n)

-- the key of a slot
pub key_is : (kept : List (Option Key)) (entries : List (Option ℕ)) (task : ℕ) → kept ≡ keys_by entries → slots.key_in kept task ≡ key_by (due_in entries task)
key_is kept entries task is =
    ap (λ (l : List (Option Key)). slots.key_in l task) is
    ∙ ⊎_elim
    (λ (known : task < length entries). get_or-map key_by entries task None None known)
    (λ (past : length entries ≤ task). get_or_past (keys_by entries) task None (omega (arith, past, length-map entries key_by))
    ∙ sym (ap key_by (get_or_past entries task None past)))
    (cases_lt task (length entries))

-- when its entry is due
pub due_is : (kept : List (Option Key)) (entries : List (Option ℕ)) (task : ℕ) → kept ≡ keys_by entries → slots.due_by (slots.key_in kept task) ≡ due_in entries task
due_is kept entries task is = ap slots.due_by (key_is kept entries task is) ∙ due_back (due_in entries task)

-- whether it has one
some_back : (o : Option ℕ) → is_some (key_by o) ≡ is_some o
some_back None = refl
some_back (Some due) = refl

pub there_is : (kept : List (Option Key)) (entries : List (Option ℕ)) (task : ℕ) → kept ≡ keys_by entries → is_some (slots.key_in kept task) ≡ is_some (due_in entries task)
there_is kept entries task is = ap is_some (key_is kept entries task is) ∙ some_back (due_in entries task)

-- a key that is there has no rank
rank_none : (o : Option ℕ) (key : Key) → key_by o ≡ Some key → (o ≡ Some key.due) × (key ≡ key_due key.due)
rank_none None key there = absurd (none-some key there)
rank_none (Some due) key there =
    let same : key_due due ≡ key = same_Some (key_due due) key there in
    let moment : due ≡ key.due = ap (λ (k : Key). k.due) same in
    (ap Some moment, sym same ∙ ap key_due moment)

pub key_there : (kept : List (Option Key)) (entries : List (Option ℕ)) (task : ℕ) (key : Key) → kept ≡ keys_by entries → slots.key_in kept task ≡ Some key
    → (due_in entries task ≡ Some key.due) × (key ≡ key_due key.due)
key_there kept entries task key is there = rank_none (due_in entries task) key (sym (key_is kept entries task is) ∙ there)

-- how many entries there are
abbrev one : {X : Type 0} → Option X → ℕ
one o = cond (is_some o) 1 0

count_back : (entries : List (Option ℕ)) → count_by is_some (keys_by entries) ≡ count_by is_some entries
count_back [] = refl
count_back (o ∷ rest) =
    sum_by-cons (one {X = Key}) (key_by o) (keys_by rest) ∙ ap (λ (n : ℕ). one (key_by o) + n) (count_back rest)
    ∙ ap (λ (b : Bool). cond b 1 0 + count_by is_some rest) (some_back o) ∙ sym (sum_by-cons (one {X = ℕ}) o rest)

pub count_is : (kept : List (Option Key)) (entries : List (Option ℕ)) → kept ≡ keys_by entries → count_by is_some kept ≡ count_by is_some entries
count_is kept entries is = ap (count_by is_some) is ∙ count_back entries

-- the least entry
pub least_is : (kept : List (Option Key)) (entries : List (Option ℕ)) (due task : ℕ) → kept ≡ keys_by entries → slots.IsLeast kept (key_due due) task → IsLeast entries due task
least_is kept entries due task is h = record {
  there = (key_there kept entries task (key_due due) is h.there).0;
  least = λ j d there. h.least j (key_due d) (key_is kept entries j is ∙ ap key_by there);
}

-- the same the other way round
pub least_slot : (kept : List (Option Key)) (entries : List (Option ℕ)) (due task : ℕ) → kept ≡ keys_by entries → IsLeast entries due task → slots.IsLeast kept (key_due due) task
least_slot kept entries due task is h = record {
  there = key_is kept entries task is ∙ ap key_by h.there;
  least = λ j other there.
      let k = key_there kept entries j other is there in
      subst (λ (key : Key). (j ≡ task) ⊎ (comes_before (key_due due) task key j ≡ true)) (sym k.1) (h.least j other.due k.0);
}

-- no entry
pub empty_is : (kept : List (Option Key)) (entries : List (Option ℕ)) → kept ≡ keys_by entries → slots.IsEmpty kept → IsEmpty entries
empty_is kept entries is none j d there = none j (key_due d) (key_is kept entries j is ∙ ap key_by there)

-- none that is due
pub none_due_is : (kept : List (Option Key)) (entries : List (Option ℕ)) (now : ℕ) → kept ≡ keys_by entries → slots.NoneIsDue kept now → NoneIsDue entries now
none_due_is kept entries now is none j d there = none j (key_due d) (key_is kept entries j is ∙ ap key_by there)

-- the touches of a call
pub touches_are : (kept : List (Option Key)) (entries : List (Option ℕ)) (touched before after : ℕ) (least : ℕ → ℕ) → kept ≡ keys_by entries → touched ≡ before
    → Touches touched after (least (slots.entry_count kept)) (most_touches (slots.entry_count kept))
    → Touches before after (least (entry_count entries)) (most_touches (entry_count entries))
touches_are kept entries touched before after least is same t =
    let count : slots.entry_count kept ≡ entry_count entries = count_is kept entries is in
    record {
      times = t.times;
      many = subst (λ (n : ℕ). least n ≤ t.times) count t.many;
      few = subst (λ (n : ℕ). t.times ≤ most_touches n) count t.few;
      counted = t.counted ∙ ap (λ (n : ℕ). min (n + t.times) greatest_count) same;
    }
