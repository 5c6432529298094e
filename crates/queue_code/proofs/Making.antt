-- A call is made at the cursor, or the halt is met.
use Rattle.std.proofs.Common.{◌≡◌, ℕ, suc, zero, ◌+◌, ◌<◌, ◌≤◌, ◌^◌, false, List, [], ◌∷◌, Option, Some, None, length, drop, refl, sym, ap, subst, ◌∙◌, arith}
use Rattle.std.specs.List.{slice_get}
use Rattle.std.specs.Prelude.{IfSome, is_some}
use Rattle.std.proofs.lemmas.Option.{slice_get_within}
use Rattle.queue_code.specs.declared.instr.Instr.{Instr}
use Rattle.queue_code.specs.declared.instr.Instr.TheVariants.{Submit, Illegal, Loop, EndLoop, Halt}
use Rattle.queue_code.specs.declared.cursor.Cursor.{Cursor}
use Rattle.queue_code.specs.Calls.{Planned, IsOrderlyFrom, IsOrderlyCall, count_after}
use Rattle.queue_code.specs.Codes.{call_by, in_front, tasks_by, calls_from}
use Rattle.queue_code.specs.Cursors.{Enclosing, loop_behind, loop_around, left_within, calls_left, FitsLoop, IsCursorAt}
use Rattle.queue_code.specs.own.Cursors.{IsCodeForm, IsPlain, IsCode}
use Rattle.queue_code.proofs.Enclosing.{drop_at, loop_next}
use Rattle.queue_code.proofs.Moves.{left_is, fits_is, fits_so, form_is, head_at}

-- the cursor behind an instruction that makes `tasks` tasks
abbrev pub behind : Cursor → ℕ → ℕ → Cursor
behind c tasks steps = record { index = c.index + 1; base = c.base; iteration = c.iteration; tasks = c.tasks + tasks; start = c.start; steps = steps }

-- what was left is the call of the instruction, and what is left behind it
passes : (around : Option Enclosing) (i : Instr) (is : List Instr) (place : ℕ) (c : Cursor) (steps : ℕ) → IsPlain (Some i) → FitsLoop around (i ∷ is) c → IsCodeForm (is_some around) (i ∷ is)
    → (left_within around (i ∷ is) c ≡ in_front (call_by c.base c.start c.tasks i) (left_within (loop_behind around place i is) is (behind c (tasks_by i) steps)))
    × FitsLoop (loop_behind around place i is) is (behind c (tasks_by i) steps)
passes around (Loop times every) is place c steps plain fits form = absurd plain
passes around EndLoop is place c steps plain fits form = absurd plain
passes None Halt is place c steps plain fits form = (sym (ap (λ (js : List Instr). calls_from false (c.tasks + 0) js) form), fits)
passes (Some loop) Halt is place c steps plain fits form = absurd form
passes None i is place c steps plain fits form = (
  ap (λ (b : ℕ). in_front (call_by b 0 c.tasks i) (calls_from false (c.tasks + tasks_by i) is)) (sym fits.0)
      ∙ ap (λ (s : ℕ). in_front (call_by c.base s c.tasks i) (calls_from false (c.tasks + tasks_by i) is)) (sym fits.1),
  fits,
)
passes (Some loop) i is place c steps plain fits form = (refl, (fits.0, fits.1, omega (arith, fits.2)))

counted : (count n : ℕ) (q p : Planned) → ◌≡◌ {A = Option Planned} (Some q) (Some p) → count_after count q.1 ≡ n → count_after count p.1 ≡ n
counted count n q p is after = let same : q ≡ p = cc in subst (λ (r : Planned). count_after count r.1 ≡ n) same after

-- a call counts the task that its instruction makes
counts : (base start count : ℕ) (i : Instr) (p : Planned) → call_by base start count i ≡ Some p → count_after count p.1 ≡ count + tasks_by i
counts base start count (Submit offset timing delay) p is = counted count (count + 1) _ p is refl
counts base start count (Illegal offset) p is = counted count (count + 1) _ p is refl
counts base start count (Loop times every) p is = cc
counts base start count EndLoop p is = cc
counts base start count Halt p is = cc
counts base start count i p is = counted count (count + 0) _ p is (omega arith)

-- an instruction makes one task at most
pub one_task : (i : Instr) → tasks_by i ≤ 1
one_task (Submit offset timing delay) = omega arith
one_task (Illegal offset) = omega arith
one_task i = omega arith

no_task : (base start count : ℕ) (i : Instr) → call_by base start count i ≡ None → tasks_by i ≡ 0
no_task base start count (Submit offset timing delay) none = cc
no_task base start count (Illegal offset) none = cc
no_task base start count i none = refl

tail_order : (base start count : ℕ) (i : Instr) (made : Option Planned) (calls rest : List Planned) (moment : ℕ) → call_by base start count i ≡ made → calls ≡ in_front made rest → IsOrderlyFrom count moment calls
    → (m : ℕ) × IsOrderlyFrom (count + tasks_by i) m rest
tail_order base start count i None calls rest moment is left order =
    let e : count ≡ count + tasks_by i = omega (arith, no_task base start count i is) in
    (moment, subst (λ (n : ℕ). IsOrderlyFrom n moment rest) e (subst (IsOrderlyFrom count moment) left order))
tail_order base start count i (Some p) calls rest moment is left order =
    (p.0, subst (λ (n : ℕ). IsOrderlyFrom n p.0 rest) (counts base start count i p is) (subst (IsOrderlyFrom count moment) left order).3)

tail_room : (base start count : ℕ) (i : Instr) (made : Option Planned) (calls rest : List Planned) → call_by base start count i ≡ made → calls ≡ in_front made rest → count + length calls ≤ 65536
    → count + tasks_by i + length rest ≤ 65536
tail_room base start count i None calls rest is left room = omega (arith, no_task base start count i is, ap length left, room)
tail_room base start count i (Some p) calls rest is left room = omega (arith, one_task i, ap length left, room)

-- a cursor executed a call or the halt: what was left is what was made, and what is left now
pub record Makes (code : List Instr) (c d : Cursor) (made : Option Planned) : Type 0 where
  pub cursor : IsCursorAt code d
  pub left : calls_left code c ≡ in_front made (calls_left code d)

-- a cursor at a call or at the halt makes what that instruction makes
pub makes : (code : List Instr) (c : Cursor) (i : Instr) (steps : ℕ) → IsCode code → IsCursorAt code c → slice_get code c.index ≡ Some i → IsPlain (Some i)
    → Makes code c (behind c (tasks_by i) steps) (call_by c.base c.start c.tasks i)
makes code c i steps sound h at plain =
    let begins = drop_at code c.index i at in
    let fits = fits_is code c _ _ refl begins h.fits in
    let d = behind c (tasks_by i) steps in
    let next = loop_next code c.index i at in
    let p = passes (loop_around code c.index) i (drop (c.index + 1) code) c.index c steps plain fits (form_is code c.index _ _ refl begins sound.form) in
    let high = slice_get_within code c.index i at in
    let left : calls_left code c ≡ in_front (call_by c.base c.start c.tasks i) (calls_left code d) =
    left_is code c _ _ refl begins ∙ p.0 ∙ ap (in_front (call_by c.base c.start c.tasks i)) (sym (left_is code d _ _ next refl)) in
    record {
      cursor = record {
        within = omega (arith, high);
        fits = fits_so code d _ _ next refl p.1;
        order = tail_order c.base c.start c.tasks i _ _ _ h.order.0 refl left h.order.1;
        room = tail_room c.base c.start c.tasks i _ _ _ refl left h.room;
      };
      left = left;
    }

none_at_end : (around : Option Enclosing) (c : Cursor) → IsCodeForm (is_some around) [] → left_within around [] c ≡ []
none_at_end None c form = refl
none_at_end (Some loop) c form = absurd form

nothing_past : (code : List Instr) (n : ℕ) → slice_get code n ≡ None → drop n code ≡ []
nothing_past [] zero over = refl
nothing_past [] (suc n) over = refl
nothing_past (x ∷ code) zero over = cc
nothing_past (x ∷ code) (suc n) over = nothing_past code n over

-- past the end no call is left
pub none_left : (code : List Instr) (c : Cursor) → IsCode code → slice_get code c.index ≡ None → calls_left code c ≡ []
none_left code c sound over =
    let e = nothing_past code c.index over in
    left_is code c _ _ refl e ∙ none_at_end (loop_around code c.index) c (form_is code c.index _ _ refl e sound.form)

-- the moment and the numbers of a call that is made are in their ranges
pub in_range : (code : List Instr) (c d : Cursor) (made : Option Planned) → IsCursorAt code c → calls_left code c ≡ in_front made (calls_left code d) → IfSome made (λ p. (p.0 ≤ 2 ^ 62) × IsOrderlyCall c.tasks p.1 × (c.tasks < 65536))
in_range code c d None h left = tt
in_range code c d (Some p) h left =
    let order = subst (IsOrderlyFrom c.tasks h.order.0) left h.order.1 in
    (order.1, order.2, omega (arith, ap length left, h.room))

-- what is made is the first of the calls that were left
pub made_first : (code : List Instr) (c d : Cursor) (made : Option Planned) → Makes code c d made → (made ≡ None → calls_left code c ≡ []) → made ≡ slice_get (calls_left code c) 0
made_first code c d None makes none = ap (λ (ps : List Planned). slice_get ps 0) (sym (none refl))
made_first code c d (Some p) makes none = ap (λ (ps : List Planned). slice_get ps 0) (sym makes.left)

-- the calls that are left are those behind the first
pub others_left : (code : List Instr) (c d : Cursor) (made : Option Planned) → Makes code c d made → (made ≡ None → calls_left code c ≡ []) → calls_left code d ≡ drop 1 (calls_left code c)
others_left code c d None makes none = sym makes.left ∙ none refl ∙ ap (drop 1) (sym (none refl))
others_left code c d (Some p) makes none = ap (drop 1) (sym makes.left)

-- only the halt makes no call, and nothing stands behind it
halt_leaves_none : (around : Option Enclosing) (i : Instr) (is : List Instr) (c : Cursor) → IsPlain (Some i) → IsCodeForm (is_some around) (i ∷ is) → call_by c.base c.start c.tasks i ≡ None → left_within around (i ∷ is) c ≡ []
halt_leaves_none around (Loop times every) is c plain form none = absurd plain
halt_leaves_none around EndLoop is c plain form none = absurd plain
halt_leaves_none None Halt is c plain form none = refl
halt_leaves_none (Some loop) Halt is c plain form none = absurd form
halt_leaves_none around i is c plain form none = cc

halt_is_last : (around : Option Enclosing) (i : Instr) (is : List Instr) (base start count : ℕ) → IsPlain (Some i) → IsCodeForm (is_some around) (i ∷ is) → call_by base start count i ≡ None → is ≡ []
halt_is_last around (Loop times every) is base start count plain form none = absurd plain
halt_is_last around EndLoop is base start count plain form none = absurd plain
halt_is_last None Halt is base start count plain form none = form
halt_is_last (Some loop) Halt is base start count plain form none = absurd form
halt_is_last around i is base start count plain form none = cc

-- where no call is made none was left
pub none_made : (code : List Instr) (c : Cursor) (i : Instr) → IsCode code → slice_get code c.index ≡ Some i → IsPlain (Some i) → call_by c.base c.start c.tasks i ≡ None → calls_left code c ≡ []
none_made code c i sound at plain none =
    let begins = drop_at code c.index i at in
    left_is code c _ _ refl begins ∙ halt_leaves_none (loop_around code c.index) i (drop (c.index + 1) code) c plain (form_is code c.index _ _ refl begins sound.form) none

-- and the cursor is past the end then
pub over_behind : (code : List Instr) (c : Cursor) (i : Instr) → IsCode code → slice_get code c.index ≡ Some i → IsPlain (Some i) → call_by c.base c.start c.tasks i ≡ None → slice_get code (c.index + 1) ≡ None
over_behind code c i sound at plain none =
    sym (head_at code (c.index + 1))
    ∙ ap (λ (is : List Instr). slice_get is 0) (halt_is_last (loop_around code c.index) i (drop (c.index + 1) code) c.base c.start c.tasks plain (form_is code c.index _ _ refl (drop_at code c.index i at) sound.form) none)
