-- The loop around an index of a code.
use Rattle.std.proofs.Common.{◌≡◌, ℕ, zero, suc, ◌+◌, ◌<◌, ◌≤◌, true, false, List, [], ◌∷◌, Option, Some, None, length, drop, refl, sym, ap, subst, ◌∙◌, arith}
use Rattle.std.specs.Prelude.{is_some}
use Rattle.std.specs.List.{slice_get}
use Rattle.std.proofs.lemmas.List.{drop_more}
use Rattle.std.proofs.lemmas.Option.{slice_get_within, get_or_from_slice_get}
use Rattle.queue_code.specs.declared.instr.Instr.{Instr}
use Rattle.queue_code.specs.declared.instr.Instr.TheVariants.{Loop, EndLoop, Halt}
use Rattle.queue_code.specs.Codes.{body_of, calls_from}
use Rattle.queue_code.specs.Cursors.{Enclosing, loop_behind, loop_from, loop_around}
use Rattle.queue_code.specs.own.Cursors.{IsCodeForm}

-- the instructions from an index on begin with the one that stands there
pub drop_at : (code : List Instr) (n : ℕ) (i : Instr) → slice_get code n ≡ Some i → drop n code ≡ i ∷ drop (n + 1) code
drop_at code n i at = drop_more code n i (slice_get_within code n i at) ∙ ap (λ (j : Instr). j ∷ drop (n + 1) code) (get_or_from_slice_get code n i i at)

loop_more : (around : Option Enclosing) (place : ℕ) (is : List Instr) (n : ℕ) (i : Instr) → slice_get is n ≡ Some i
    → loop_from around place is (n + 1) ≡ loop_behind (loop_from around place is n) (place + n) i (drop (n + 1) is)
loop_more around place [] n i at = cc
loop_more around place (x ∷ is) zero i at =
    let same : x ≡ i = cc in
    let here : place ≡ place + 0 = omega arith in
    ap (λ (j : Instr). loop_behind around place j is) same ∙ ap (λ (m : ℕ). loop_behind around m i is) here
loop_more around place (x ∷ is) (suc n) i at =
    let next : suc n + 1 ≡ suc (n + 1) = omega arith in
    let here : place + suc n ≡ place + 1 + n = omega arith in
    rw (next, here) (loop_more (loop_behind around place x is) (place + 1) is n i at)

-- the loop that is open one instruction further on
pub loop_next : (code : List Instr) (n : ℕ) (i : Instr) → slice_get code n ≡ Some i → loop_around code (n + 1) ≡ loop_behind (loop_around code n) n i (drop (n + 1) code)
loop_next code n i at =
    let here : 0 + n ≡ n = omega arith in
    loop_more None 0 code n i at ∙ ap (λ (m : ℕ). loop_behind (loop_around code n) m i (drop (n + 1) code)) here

form_behind : (around : Option Enclosing) (place : ℕ) (i : Instr) (is : List Instr) → IsCodeForm (is_some around) (i ∷ is) → IsCodeForm (is_some (loop_behind around place i is)) is
form_behind None place (Loop times every) is form = form.2
form_behind (Some loop) place (Loop times every) is form = absurd form
form_behind None place EndLoop is form = absurd form
form_behind (Some loop) place EndLoop is form = form
form_behind None place Halt is form = subst (IsCodeForm false) (sym form) tt
form_behind (Some loop) place Halt is form = absurd form
form_behind None place i is form = form
form_behind (Some loop) place i is form = form

form_from : (around : Option Enclosing) (place : ℕ) (is : List Instr) (n : ℕ) → IsCodeForm (is_some around) is → IsCodeForm (is_some (loop_from around place is n)) (drop n is)
form_from around place is zero form = form
form_from around place [] (suc n) form = form
form_from around place (i ∷ is) (suc n) form = form_from (loop_behind around place i is) (place + 1) is n (form_behind around place i is form)

-- the instructions from an index on are well formed
pub form_at : (code : List Instr) (n : ℕ) → IsCodeForm false code → IsCodeForm (is_some (loop_around code n)) (drop n code)
form_at code n form = form_from None 0 code n form

-- what is known of the loop that is open at index n: where it begins, that its instructions are those up to its end,
-- and that what comes behind it is seen from its beginning as from index n
pub record Encloses (code : List Instr) (loop : Enclosing) (n : ℕ) : Type 0 where
  pub begins : slice_get code loop.place ≡ Some (Loop loop.times loop.every)
  pub body : body_of (drop (loop.place + 1) code) ≡ loop.body
  pub again : loop_around code (loop.place + 1) ≡ Some loop
  pub earlier : loop.place < n
  pub behind : (count : ℕ) → calls_from true count (drop (loop.place + 1) code) ≡ calls_from true count (drop n code)

encloses_first : (code : List Instr) (n times every : ℕ) (loop : Enclosing) → slice_get code n ≡ Some (Loop times every) → loop_around code (n + 1) ≡ Some loop
    → record { place = n; times = times; every = every; body = body_of (drop (n + 1) code) } ≡ loop → Encloses code loop (n + 1)
encloses_first code n times every loop at next same =
    subst (λ (l : Enclosing). loop_around code (n + 1) ≡ Some l → Encloses code l (n + 1)) same
    (λ again. record { begins = at; body = refl; again = again; earlier = omega arith; behind = λ count. refl }) next

skipped : (count : ℕ) (code : List Instr) (n : ℕ) (i : Instr) (is : List Instr) → calls_from true count (i ∷ is) ≡ calls_from true count is → drop n code ≡ i ∷ is
    → calls_from true count (drop n code) ≡ calls_from true count is
skipped count code n i is skips left = ap (calls_from true count) left ∙ skips

encloses_more : (code : List Instr) (n : ℕ) (loop : Enclosing) → ((count : ℕ) → calls_from true count (drop n code) ≡ calls_from true count (drop (n + 1) code))
    → Encloses code loop n → Encloses code loop (n + 1)
encloses_more code n loop skip known =
    let low = known.earlier in
    record { begins = known.begins; body = known.body; again = known.again; earlier = omega arith; behind = λ count. known.behind count ∙ skip count }

encloses_next : (code : List Instr) (n : ℕ) (i : Instr) (loop : Enclosing) → slice_get code n ≡ Some i → (loop_around code n ≡ Some loop → Encloses code loop n)
    → loop_behind (loop_around code n) n i (drop (n + 1) code) ≡ Some loop → loop_around code (n + 1) ≡ Some loop → Encloses code loop (n + 1)
encloses_next code n (Loop times every) loop at known is next = encloses_first code n times every loop at next (cc)
encloses_next code n EndLoop loop at known is next = cc
encloses_next code n i loop at known is next = encloses_more code n loop (λ count. skipped count code n i (drop (n + 1) code) refl (drop_at code n i at)) (known is)

stands_at : (code : List Instr) (n : ℕ) → n + 1 ≤ length code → (i : Instr) × (slice_get code n ≡ Some i)
stands_at [] n low = absurd (omega (arith, low))
stands_at (x ∷ code) zero low = (x, refl)
stands_at (x ∷ code) (suc n) low = stands_at code n (omega (arith, low))

-- what is known of a loop wherever it is open
pub encloses : (code : List Instr) (n : ℕ) (loop : Enclosing) → n ≤ length code → loop_around code n ≡ Some loop → Encloses code loop n
encloses code zero loop low is = cc
encloses code (suc n) loop low is =
    let more : suc n ≡ n + 1 = omega arith in
    let i = stands_at code n (omega (arith, low)) in
    let next : loop_around code (n + 1) ≡ Some loop = rw (← more) is in
    rw more (encloses_next code n i.0 loop i.1 (encloses code n loop (omega (arith, low))) (sym (loop_next code n i.0 i.1) ∙ next) next)
