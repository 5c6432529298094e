-- The walk along the calls of a plan.
use Rattle.std.proofs.Common.{◌≡◌, ◌∙◌, ℕ, ◌+◌, ◌<◌, ◌≤◌, Bool, true, false, ◌||◌, List, [], ◌∷◌, ◌++◌, inl, inr, length, get_or, take, drop, map, refl, sym, ap, subst, arith, append_assoc, append-nil}
use Rattle.std.specs.Prelude.{nat_lt, ◌&&◌}
use Rattle.std.proofs.lemmas.List.{drop_more, take_more, map-append, length-take-le}
use Rattle.std.proofs.Math.ListN.{drop_of_length-le}
use Rattle.plan_read.specs.declared.plans.Call.{Call}
use Rattle.plan_read.specs.declared.plans.Op.{Op}
use Rattle.plan_read.specs.Plans.{BlockTree, PlanTree, is_submission, tasks_after, tasks_after_calls}
use Rattle.plan_warnings.specs.declared.places.Place.{Place}
use Rattle.plan_warnings.specs.Places.{PlaceTree, place_of, places_in, places_from, places_of, shuts_down, some_shuts_down, some_block_shuts_down}
use Rattle.plan_warnings.specs.own.Marks.{place_tree}
use Rattle.plan_warnings.proofs.Steps.{any_more, bool_cases}

-- ---- submissions

-- one more call counts as it does behind the others
pub tasks_more : (n : ℕ) (cs : List Call) (c : Call) → tasks_after_calls n (cs ++ c ∷ []) ≡ tasks_after (tasks_after_calls n cs) c.op
tasks_more n [] c = refl
tasks_more n (d ∷ cs) c = tasks_more (tasks_after n d.op) cs c

-- one more at most
pub tasks_after-le : (n : ℕ) (op : Op) → tasks_after n op ≤ n + 1
tasks_after-le n op = elim (bool_cases (is_submission op)) [ inl t ↦ rw t (omega arith) | inr f ↦ rw f (omega arith) ]

-- ---- the calls of a block

-- where the calls from `i` on are still to be put behind `out`
pub record CallsLeft (number : ℕ) (shut : Bool) (b : BlockTree) (old out : List Place) (i sub : ℕ) (now_shut : Bool) : Type 0 where
  pub done : map place_tree out ++ places_in number shut b (take i b.calls) (drop i b.calls) ≡ map place_tree old ++ places_in number shut b [] b.calls
  pub counted : sub ≡ tasks_after_calls 0 (take i b.calls)
  pub few : sub ≤ i
  pub shut_so_far : now_shut ≡ (shut || some_shuts_down (take i b.calls))

or_false : (b : Bool) → b ≡ (b || false)
or_false true = refl
or_false false = refl

or_assoc : (a b c : Bool) → ((a || b) || c) ≡ (a || (b || c))
or_assoc true b c = refl
or_assoc false b c = refl

-- none is put yet
pub none_put : (number : ℕ) (shut : Bool) (b : BlockTree) (old : List Place) → CallsLeft number shut b old old 0 0 shut
none_put number shut b old = record { done = refl; counted = refl; few = omega arith; shut_so_far = or_false shut }

-- what counts of the place of a call of a block, with what is counted as the walk goes on
abbrev pub counted_place : ℕ → BlockTree → Call → ℕ → ℕ → Bool → PlaceTree
counted_place number b c i sub now_shut = record {
  block = number + 1;
  call = i + 1;
  target = record { block = number; sub = sub };
  is_shut = now_shut;
  is_shut_again = nat_lt 1 b.header.times && some_shuts_down b.calls;
  op = c.op;
}

module _ (number : ℕ) (shut : Bool) (b : BlockTree) (old out : List Place) (i sub : ℕ) (now_shut : Bool) (c : Call) (p : Place) (within : i < length b.calls) (is : c ≡ get_or b.calls i c)
    (left : CallsLeft number shut b old out i sub now_shut) (there : place_tree p ≡ counted_place number b c i sub now_shut) where
  -- the calls before the next
  front : take (i + 1) b.calls ≡ take i b.calls ++ c ∷ []
  front = take_more b.calls i c within ∙ ap (λ (d : Call). take i b.calls ++ d ∷ []) (sym is)

  -- the calls that are left
  rest : drop i b.calls ≡ c ∷ drop (i + 1) b.calls
  rest = drop_more b.calls i c within ∙ ap (λ (d : Call). d ∷ drop (i + 1) b.calls) (sym is)

  -- the place is that of the next call
  place_is : place_tree p ≡ place_of number shut b (take i b.calls) c
  place_is =
      let before = take i b.calls in
      let few : i ≤ length b.calls = omega arith in
      there ∙ (ap (λ (n : ℕ). counted_place number b c i n now_shut) left.counted
      ∙ (ap (λ (t : Bool). counted_place number b c i (tasks_after_calls 0 before) t) left.shut_so_far
      ∙ ap (λ (n : ℕ). counted_place number b c n (tasks_after_calls 0 before) (shut || some_shuts_down before)) (sym (length-take-le i b.calls few))))

  -- with the place of the next call behind the others, the rest is left
  goes_on : map place_tree (out ++ p ∷ []) ++ places_in number shut b (take (i + 1) b.calls) (drop (i + 1) b.calls) ≡ map place_tree out ++ places_in number shut b (take i b.calls) (drop i b.calls)
  goes_on =
      let before = take i b.calls in
      let behind = drop (i + 1) b.calls in
      ap (λ (ps : List PlaceTree). ps ++ places_in number shut b (take (i + 1) b.calls) behind) (map-append place_tree out (p ∷ []))
      ∙ (append_assoc (map place_tree out) (place_tree p ∷ []) (places_in number shut b (take (i + 1) b.calls) behind)
      ∙ (ap (λ (cs : List Call). map place_tree out ++ (place_tree p ∷ places_in number shut b cs behind)) front
      ∙ (ap (λ (q : PlaceTree). map place_tree out ++ (q ∷ places_in number shut b (before ++ c ∷ []) behind)) place_is
      ∙ ap (λ (cs : List Call). map place_tree out ++ places_in number shut b before cs) (sym rest))))

  -- one more is put
  pub one_put : CallsLeft number shut b old (out ++ p ∷ []) (i + 1) (tasks_after sub c.op) (now_shut || shuts_down c.op)
  one_put = record {
    done = goes_on ∙ left.done;
    counted = ap (λ (n : ℕ). tasks_after n c.op) left.counted ∙ (sym (tasks_more 0 (take i b.calls) c) ∙ ap (tasks_after_calls 0) (sym front));
    few = omega (arith, tasks_after-le sub c.op, left.few);
    shut_so_far = ap (λ (t : Bool). t || shuts_down c.op) left.shut_so_far
        ∙ (or_assoc shut (some_shuts_down (take i b.calls)) (shuts_down c.op)
        ∙ ap (λ (t : Bool). shut || t) (sym (any_more (λ (d : Call). shuts_down d.op) b.calls i c within is)));
  }

-- all are put
pub all_put : (number : ℕ) (shut : Bool) (b : BlockTree) (old out : List Place) (i sub : ℕ) (now_shut : Bool) → length b.calls ≤ i → CallsLeft number shut b old out i sub now_shut
    → map place_tree out ≡ map place_tree old ++ places_in number shut b [] b.calls
all_put number shut b old out i sub now_shut all left =
    sym (append-nil (map place_tree out)) ∙ (ap (λ (cs : List Call). map place_tree out ++ places_in number shut b (take i b.calls) cs) (sym (drop_of_length-le b.calls all)) ∙ left.done)

-- ---- the blocks of a plan

-- where the blocks from `i` on are still to be put behind `out`
pub record BlocksLeft (plan : PlanTree) (out : List Place) (i : ℕ) (now_shut : Bool) : Type 0 where
  pub done : map place_tree out ++ places_from (take i plan) (drop i plan) ≡ places_of plan
  pub shut_so_far : now_shut ≡ some_block_shuts_down (take i plan)

-- one more is put
pub block_put : (plan : PlanTree) (out more : List Place) (i : ℕ) (now_shut : Bool) (b : BlockTree) → i < length plan → b ≡ get_or plan i b → BlocksLeft plan out i now_shut
    → map place_tree more ≡ map place_tree out ++ places_in i now_shut b [] b.calls → BlocksLeft plan more (i + 1) (now_shut || some_shuts_down b.calls)
block_put plan out more i now_shut b within is left put =
    let before = take i plan in
    let behind = drop (i + 1) plan in
    let few : i ≤ length plan = omega arith in
    let front : take (i + 1) plan ≡ before ++ b ∷ [] = take_more plan i b within ∙ ap (λ (d : BlockTree). before ++ d ∷ []) (sym is) in
    let rest : drop i plan ≡ b ∷ behind = drop_more plan i b within ∙ ap (λ (d : BlockTree). d ∷ behind) (sym is) in
    record {
      done = ap (λ (ps : List PlaceTree). ps ++ places_from (take (i + 1) plan) behind) put
          ∙ (append_assoc (map place_tree out) (places_in i now_shut b [] b.calls) (places_from (take (i + 1) plan) behind)
          ∙ (ap (λ (bs : PlanTree). map place_tree out ++ (places_in i now_shut b [] b.calls ++ places_from bs behind)) front
          ∙ (ap (λ (t : Bool). map place_tree out ++ (places_in i t b [] b.calls ++ places_from (before ++ b ∷ []) behind)) left.shut_so_far
          ∙ (ap (λ (n : ℕ). map place_tree out ++ (places_in n (some_block_shuts_down before) b [] b.calls ++ places_from (before ++ b ∷ []) behind)) (sym (length-take-le i plan few))
          ∙ (ap (λ (bs : PlanTree). map place_tree out ++ places_from before bs) (sym rest) ∙ left.done)))));
      shut_so_far = ap (λ (t : Bool). t || some_shuts_down b.calls) left.shut_so_far ∙ sym (any_more (λ (d : BlockTree). some_shuts_down d.calls) plan i b within is);
    }

-- all are put
pub blocks_put : (plan : PlanTree) (out : List Place) (i : ℕ) (now_shut : Bool) → length plan ≤ i → BlocksLeft plan out i now_shut → map place_tree out ≡ places_of plan
blocks_put plan out i now_shut all left =
    sym (append-nil (map place_tree out)) ∙ (ap (λ (bs : PlanTree). map place_tree out ++ places_from (take i plan) bs) (sym (drop_of_length-le plan all)) ∙ left.done)
