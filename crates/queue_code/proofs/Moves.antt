-- Moves of a cursor at the beginning and the end of a loop: they leave the same calls.
use Rattle.std.proofs.Common.{◌≡◌, ℕ, zero, suc, ◌+◌, ◌*◌, ◌-◌, ◌<◌, ◌≤◌, ◌^◌, Bool, true, false, List, [], ◌∷◌, ◌++◌, Option, Some, None, length, drop, refl, sym, ap, subst, ◌∙◌, arith, append_assoc}
use Rattle.std.specs.Prelude.{is_some}
use Rattle.std.specs.List.{slice_get}
use Rattle.std.proofs.lemmas.Option.{slice_get_within}
use Rattle.queue_code.specs.declared.instr.Instr.{Instr}
use Rattle.queue_code.specs.declared.instr.Instr.TheVariants.{Loop, EndLoop, Halt}
use Rattle.queue_code.specs.declared.cursor.Cursor.{Cursor}
use Rattle.queue_code.specs.Calls.{Planned, IsOrderlyFrom}
use Rattle.queue_code.specs.Codes.{tasks_in, pass, iterations, body_of, calls_from}
use Rattle.queue_code.specs.Cursors.{Enclosing, loop_around, BeginsWithCall, left_within, calls_left, FitsLoop, IsCursorAt}
use Rattle.queue_code.specs.own.Cursors.{IsCodeForm, EndsNoLoop, IsPlain, IsCode}
use Rattle.queue_code.proofs.Enclosing.{drop_at, loop_next, form_at, encloses}

-- a cursor moved, and the same calls are left
pub record Moves (code : List Instr) (c d : Cursor) : Type 0 where
  pub cursor : IsCursorAt code d
  pub left : calls_left code d ≡ calls_left code c

-- the calls that are left are those of the loop and of the instructions that are known to be there
pub left_is : (code : List Instr) (c : Cursor) (around : Option Enclosing) (is : List Instr) → loop_around code c.index ≡ around → drop c.index code ≡ is → calls_left code c ≡ left_within around is c
left_is code c around is o d = ap (λ (a : Option Enclosing). left_within a (drop c.index code) c) o ∙ ap (λ (js : List Instr). left_within around js c) d

-- registers that fit the loop at an index fit the loop that is known to be there
pub fits_is : (code : List Instr) (c : Cursor) (around : Option Enclosing) (is : List Instr) → loop_around code c.index ≡ around → drop c.index code ≡ is → FitsLoop (loop_around code c.index) (drop c.index code) c → FitsLoop around is c
fits_is code c around is o d fits = subst (λ (js : List Instr). FitsLoop around js c) d (subst (λ (a : Option Enclosing). FitsLoop a (drop c.index code) c) o fits)

-- registers that fit the loop that is known to be there fit the loop at the index
pub fits_so : (code : List Instr) (c : Cursor) (around : Option Enclosing) (is : List Instr) → loop_around code c.index ≡ around → drop c.index code ≡ is → FitsLoop around is c → FitsLoop (loop_around code c.index) (drop c.index code) c
fits_so code c around is o d fits = subst (λ (a : Option Enclosing). FitsLoop a (drop c.index code) c) (sym o) (subst (λ (js : List Instr). FitsLoop around js c) (sym d) fits)

-- the instructions from an index on are well formed within the loop that is known to be around it
pub form_is : (code : List Instr) (n : ℕ) (around : Option Enclosing) (is : List Instr) → loop_around code n ≡ around → drop n code ≡ is → IsCodeForm false code → IsCodeForm (is_some around) is
form_is code n around is o d form = subst (IsCodeForm (is_some around)) d (subst (λ (a : Option Enclosing). IsCodeForm (is_some a) (drop n code)) o (form_at code n form))

keeps : (code : List Instr) (c d : Cursor) → IsCursorAt code c → d.index ≤ length code → FitsLoop (loop_around code d.index) (drop d.index code) d → d.tasks ≡ c.tasks → calls_left code d ≡ calls_left code c → Moves code c d
keeps code c d at low fits same left = record {
  cursor = record {
    within = low;
    fits = fits;
    order = (at.order.0, subst (λ (n : ℕ). IsOrderlyFrom n at.order.0 (calls_left code d)) (sym same) (subst (IsOrderlyFrom c.tasks at.order.0) (sym left) at.order.1));
    room = omega (arith, ap length left, at.room);
  };
  left = left;
}

form_of_loop : (inside : Bool) (times every : ℕ) (is : List Instr) → IsCodeForm inside (Loop times every ∷ is) → (1 ≤ times) × BeginsWithCall is × IsCodeForm true is
form_of_loop false times every is form = form
form_of_loop true times every is form = absurd form

-- the first instruction of a loop makes a call
begins_at : (code : List Instr) (n times every : ℕ) → IsCodeForm false code → slice_get code n ≡ Some (Loop times every) → BeginsWithCall (drop (n + 1) code)
begins_at code n times every form at =
    (form_of_loop (is_some (loop_around code n)) times every (drop (n + 1) code) (form_is code n (loop_around code n) _ refl (drop_at code n (Loop times every) at) form)).1

plain_head : (is : List Instr) → BeginsWithCall is → IsPlain (slice_get is 0)
plain_head [] begins = absurd begins
plain_head (Loop times every ∷ is) begins = absurd begins
plain_head (EndLoop ∷ is) begins = absurd begins
plain_head (i ∷ is) begins = tt

-- the first of the instructions from an index on is the one at the index
pub head_at : (code : List Instr) (n : ℕ) → slice_get (drop n code) 0 ≡ slice_get code n
head_at code zero = refl
head_at [] (suc n) = refl
head_at (x ∷ code) (suc n) = head_at code n

plain_at : (code : List Instr) (n : ℕ) → BeginsWithCall (drop n code) → IsPlain (slice_get code n)
plain_at code n begins = subst IsPlain (head_at code n) (plain_head (drop n code) begins)

plain_ends_no_loop : (i : Option Instr) → IsPlain i → EndsNoLoop i
plain_ends_no_loop None plain = tt
plain_ends_no_loop (Some (Loop times every)) plain = absurd plain
plain_ends_no_loop (Some EndLoop) plain = absurd plain
plain_ends_no_loop (Some i) plain = tt

ends_no_loop_head : (is : List Instr) → IsCodeForm false is → EndsNoLoop (slice_get is 0)
ends_no_loop_head [] form = tt
ends_no_loop_head (EndLoop ∷ is) form = absurd form
ends_no_loop_head (i ∷ is) form = tt

ends_no_loop_at : (code : List Instr) (n : ℕ) → IsCodeForm false (drop n code) → EndsNoLoop (slice_get code n)
ends_no_loop_at code n form = subst EndsNoLoop (head_at code n) (ends_no_loop_head (drop n code) form)

-- the next iteration makes the calls that were left after this one
next_iteration : (n k it every base start tasks a b : ℕ) (body is js : List Instr) → k ≡ suc n → base ≡ (it + 1) * every → tasks ≡ start + tasks_in body → a ≡ b
    → ((count : ℕ) → calls_from true count is ≡ calls_from true count js)
    → pass base tasks tasks body ++ (iterations n (it + 1 + 1) every body (tasks + tasks_in body) ++ calls_from true a is)
    ≡ iterations k (it + 1) every body (start + tasks_in body) ++ calls_from true b js
next_iteration n k it every base start tasks a b body is js e f g h behind =
    rw (e, f, ← g, h, behind b) (sym (append_assoc (pass ((it + 1) * every) tasks tasks body) (iterations n (it + 1 + 1) every body (tasks + tasks_in body)) (calls_from true b js)))

back : (code : List Instr) (c : Cursor) (steps : ℕ) (loop : Enclosing) → IsCode code → IsCursorAt code c → loop_around code c.index ≡ Some loop → slice_get code c.index ≡ Some EndLoop → c.iteration + 1 < loop.times
    → Moves code c (record { index = loop.place + 1; base = c.base + loop.every; iteration = c.iteration + 1; tasks = c.tasks; start = c.tasks; steps = steps })
back code c steps loop sound h o at more =
    let known = encloses code c.index loop h.within o in
    let ends = drop_at code c.index EndLoop at in
    let fits = fits_is code c (Some loop) _ o ends h.fits in
    let low = known.earlier in
    let high = h.within in
    let d : Cursor = record { index = loop.place + 1; base = c.base + loop.every; iteration = c.iteration + 1; tasks = c.tasks; start = c.tasks; steps = steps } in
    let k = loop.times - (c.iteration + 1) in
    let n = loop.times - (c.iteration + 1 + 1) in
    let first = drop (loop.place + 1) code in
    let e : loop.times - c.iteration ≡ k + 1 = omega (arith, more) in
    let count : c.tasks + k * tasks_in loop.body ≡ c.start + (loop.times - c.iteration) * tasks_in loop.body = rw e (omega (arith, fits.2)) in
    let base : c.base + loop.every ≡ (c.iteration + 1) * loop.every = omega (arith, fits.0) in
    keeps code c d h (omega (arith, low, high))
    (fits_so code d (Some loop) _ known.again refl (base, more, ap (λ (is : List Instr). c.tasks + tasks_in is) known.body))
    refl
    (left_is code d (Some loop) _ known.again refl
    ∙ ap (λ (is : List Instr). pass (c.base + loop.every) c.tasks c.tasks is ++ (iterations n (c.iteration + 1 + 1) loop.every loop.body (c.tasks + tasks_in loop.body) ++ calls_from true (c.tasks + k * tasks_in loop.body) first)) known.body
    ∙ next_iteration n k c.iteration loop.every (c.base + loop.every) c.start c.tasks _ _ loop.body first (EndLoop ∷ drop (c.index + 1) code) (omega (arith, more)) base (omega (arith, fits.2)) count (λ m. known.behind m ∙ ap (calls_from true m) ends)
    ∙ sym (left_is code c (Some loop) _ o ends))

-- after the last iteration the calls behind the loop are left
last_iteration : (k it every start tasks a : ℕ) (body is : List Instr) → k ≡ 0 → a ≡ tasks
    → calls_from false tasks is ≡ iterations k (it + 1) every body (start + tasks_in body) ++ calls_from true a (EndLoop ∷ is)
last_iteration k it every start tasks a body is e f = rw (e, f) refl

on : (code : List Instr) (c : Cursor) (steps : ℕ) (loop : Enclosing) → IsCode code → IsCursorAt code c → loop_around code c.index ≡ Some loop → slice_get code c.index ≡ Some EndLoop → loop.times ≤ c.iteration + 1
    → Moves code c (record { index = c.index + 1; base = 0; iteration = c.iteration + 1; tasks = c.tasks; start = 0; steps = steps })
on code c steps loop sound h o at last =
    let ends = drop_at code c.index EndLoop at in
    let fits = fits_is code c (Some loop) _ o ends h.fits in
    let high = slice_get_within code c.index EndLoop at in
    let d : Cursor = record { index = c.index + 1; base = 0; iteration = c.iteration + 1; tasks = c.tasks; start = 0; steps = steps } in
    let next : loop_around code (c.index + 1) ≡ None = loop_next code c.index EndLoop at in
    let e : loop.times - c.iteration ≡ 1 = omega (arith, last, fits.1) in
    let count : c.start + (loop.times - c.iteration) * tasks_in loop.body ≡ c.tasks = rw e (omega (arith, fits.2)) in
    keeps code c d h (omega (arith, high)) (fits_so code d None _ next refl (refl, refl)) refl
    (left_is code d None _ next refl
    ∙ last_iteration (loop.times - (c.iteration + 1)) c.iteration loop.every c.start c.tasks _ loop.body (drop (c.index + 1) code) (omega (arith, last)) count
    ∙ sym (left_is code c (Some loop) _ o ends))

-- the first iteration makes the first calls of the loop
first_iteration : (times every tasks : ℕ) (is : List Instr) → 1 ≤ times
    → pass 0 tasks tasks (body_of is) ++ (iterations (times - (0 + 1)) (0 + 1) every (body_of is) (tasks + tasks_in (body_of is)) ++ calls_from true (tasks + (times - 0) * tasks_in (body_of is)) is)
    ≡ iterations times 0 every (body_of is) tasks ++ calls_from true (tasks + times * tasks_in (body_of is)) is
first_iteration zero every tasks is low = absurd (omega (arith, low))
first_iteration (suc n) every tasks is low =
    let e : suc n - (0 + 1) ≡ n = omega arith in
    let f : suc n - 0 ≡ suc n = omega arith in
    let g : 0 * every ≡ 0 = omega arith in
    rw (e, f, g) (sym (append_assoc (pass 0 tasks tasks (body_of is)) (iterations n (0 + 1) every (body_of is) (tasks + tasks_in (body_of is))) (calls_from true (tasks + suc n * tasks_in (body_of is)) is)))

none_around : (around : Option Enclosing) (times every : ℕ) (is : List Instr) → IsCodeForm (is_some around) (Loop times every ∷ is) → around ≡ None
none_around None times every is form = refl
none_around (Some loop) times every is form = absurd form

into : (code : List Instr) (c : Cursor) (steps times every : ℕ) → IsCode code → IsCursorAt code c → slice_get code c.index ≡ Some (Loop times every)
    → Moves code c (record { index = c.index + 1; base = 0; iteration = 0; tasks = c.tasks; start = c.tasks; steps = steps })
into code c steps times every sound h at =
    let d : Cursor = record { index = c.index + 1; base = 0; iteration = 0; tasks = c.tasks; start = c.tasks; steps = steps } in
    let is = drop (c.index + 1) code in
    let begins = drop_at code c.index (Loop times every) at in
    let form = form_is code c.index (loop_around code c.index) _ refl begins sound.form in
    let o = none_around (loop_around code c.index) times every is form in
    let inner = form_of_loop (is_some (loop_around code c.index)) times every is form in
    let high = slice_get_within code c.index (Loop times every) at in
    let loop : Enclosing = record { place = c.index; times = times; every = every; body = body_of is } in
    let next : loop_around code (c.index + 1) ≡ Some loop = loop_next code c.index (Loop times every) at in
    keeps code c d h (omega (arith, high))
    (fits_so code d (Some loop) _ next refl (omega arith, omega (arith, inner.0), refl))
    refl
    (left_is code d (Some loop) _ next refl ∙ first_iteration times every c.tasks is inner.0 ∙ sym (left_is code c None _ o begins))

end_inside : (around : Option Enclosing) (is : List Instr) → IsCodeForm (is_some around) (EndLoop ∷ is) → (loop : Enclosing) × (around ≡ Some loop)
end_inside None is form = absurd form
end_inside (Some loop) is form = (loop, refl)

-- a loop that ends is open
pub inside_at : (code : List Instr) (n : ℕ) → IsCode code → slice_get code n ≡ Some EndLoop → (loop : Enclosing) × (loop_around code n ≡ Some loop)
inside_at code n sound at = end_inside (loop_around code n) (drop (n + 1) code) (form_is code n _ _ refl (drop_at code n EndLoop at) sound.form)

-- the number of the iteration is below the number of iterations
pub in_turn : (code : List Instr) (c : Cursor) (loop : Enclosing) → IsCursorAt code c → loop_around code c.index ≡ Some loop → c.iteration < loop.times
in_turn code c loop h o = (fits_is code c (Some loop) _ o refl h.fits).1

base_below_moment : (base start count moment : ℕ) (is : List Instr) (ys : List Planned) → BeginsWithCall is → IsOrderlyFrom count moment (pass base start count (body_of is) ++ ys) → base ≤ 2 ^ 62
base_below_moment base start count moment [] ys begins order = absurd begins
base_below_moment base start count moment (Loop times every ∷ is) ys begins order = absurd begins
base_below_moment base start count moment (EndLoop ∷ is) ys begins order = absurd begins
base_below_moment base start count moment (Halt ∷ is) ys begins order = absurd begins
base_below_moment base start count moment (i ∷ is) ys begins order = let high = order.1 in omega (arith, high)

-- where a call is next, the base is within the limit
base_low : (code : List Instr) (c : Cursor) (loop : Enclosing) → IsCursorAt code c → loop_around code c.index ≡ Some loop → BeginsWithCall (drop c.index code) → c.base ≤ 2 ^ 62
base_low code c loop h o begins =
    base_below_moment c.base c.start c.tasks h.order.0 (drop c.index code) _ begins (subst (IsOrderlyFrom c.tasks h.order.0) (left_is code c (Some loop) _ o refl) h.order.1)

-- what going back to the first instruction of a loop does
pub record Back (code : List Instr) (c d : Cursor) : Type 0 where
  pub moves : Moves code c d
  pub base : d.base ≤ 2 ^ 62
  pub index : d.index ≤ length code
  pub past : EndsNoLoop (slice_get code d.index)

-- the end of a loop with an iteration more to make goes back to the first instruction of the loop
pub goes_back : (code : List Instr) (c : Cursor) (steps : ℕ) (loop : Enclosing) → IsCode code → IsCursorAt code c → loop_around code c.index ≡ Some loop → slice_get code c.index ≡ Some EndLoop → c.iteration + 1 < loop.times
    → Back code c (record { index = loop.place + 1; base = c.base + loop.every; iteration = c.iteration + 1; tasks = c.tasks; start = c.tasks; steps = steps })
goes_back code c steps loop sound h o at more =
    let known = encloses code c.index loop h.within o in
    let moves = back code c steps loop sound h o at more in
    let begins = begins_at code loop.place loop.times loop.every sound.form known.begins in
    record { moves = moves; base = base_low code _ loop moves.cursor known.again begins; index = moves.cursor.within; past = plain_ends_no_loop _ (plain_at code (loop.place + 1) begins) }

-- what going on behind a loop does
pub goes_on : (code : List Instr) (c : Cursor) (steps : ℕ) (loop : Enclosing) → IsCode code → IsCursorAt code c → loop_around code c.index ≡ Some loop → slice_get code c.index ≡ Some EndLoop → loop.times ≤ c.iteration + 1
    → Moves code c (record { index = c.index + 1; base = 0; iteration = c.iteration + 1; tasks = c.tasks; start = 0; steps = steps }) × EndsNoLoop (slice_get code (c.index + 1))
goes_on code c steps loop sound h o at last =
    (on code c steps loop sound h o at last, ends_no_loop_at code (c.index + 1) (form_is code (c.index + 1) None _ (loop_next code c.index EndLoop at) refl sound.form))

-- what going into a loop does
pub goes_in : (code : List Instr) (c : Cursor) (steps times every : ℕ) → IsCode code → IsCursorAt code c → slice_get code c.index ≡ Some (Loop times every)
    → Moves code c (record { index = c.index + 1; base = 0; iteration = 0; tasks = c.tasks; start = c.tasks; steps = steps }) × IsPlain (slice_get code (c.index + 1))
goes_in code c steps times every sound h at =
    (into code c steps times every sound h at, plain_at code (c.index + 1) (begins_at code c.index times every sound.form at))
