-- Instructions whose loops are closed: what more of them behind changes of their calls, their open loop and their halts.
use Rattle.std.proofs.Common.{◌≡◌, ℕ, ◌+◌, ◌*◌, Bool, true, false, List, [], ◌∷◌, ◌++◌, Some, None, refl, sym, ap, ◌∙◌, arith, append_assoc, append-nil}
use Rattle.queue_code.specs.declared.instr.Instr.{Instr}
use Rattle.queue_code.specs.declared.instr.Instr.TheVariants.{Loop, EndLoop, Halt}
use Rattle.queue_code.specs.Calls.{Planned, task_count}
use Rattle.queue_code.specs.Codes.{call_by, in_front, tasks_by, tasks_in, iterations, body_of, calls_from}
use Rattle.queue_code.specs.Checks.{Begun, has_end, open_loop, makes_call, has_halt}
use Rattle.queue_code.proofs.Passing.{in_front_append}
use Rattle.queue_code.proofs.Totals.{AreCalls, tasks_call, tasks_turns}

-- ---- instructions whose loops are closed, and of which none is a halt

-- where the first of them stands in a loop, and where it does not
abbrev pub IsClosed : Bool → List Instr → Type 0
IsClosed false [] = Unit {0}
IsClosed true [] = ⊥
IsClosed false (Loop times every ∷ is) = IsClosed true is
IsClosed true (Loop times every ∷ is) = ⊥
IsClosed true (EndLoop ∷ is) = IsClosed false is
IsClosed false (EndLoop ∷ is) = ⊥
IsClosed inside (Halt ∷ is) = ⊥
IsClosed inside (i ∷ is) = IsClosed inside is

-- more of them behind
pub closed_append : (inside : Bool) (is ys : List Instr) → IsClosed inside is → IsClosed false ys → IsClosed inside (is ++ ys)
closed_append false [] ys h k = k
closed_append true [] ys h k = absurd h
closed_append false (Loop times every ∷ is) ys h k = closed_append true is ys h k
closed_append true (Loop times every ∷ is) ys h k = absurd h
closed_append true (EndLoop ∷ is) ys h k = closed_append false is ys h k
closed_append false (EndLoop ∷ is) ys h k = absurd h
closed_append inside (Halt ∷ is) ys h k = absurd h
closed_append inside (i ∷ is) ys h k = closed_append inside is ys h k

-- a call alone is so
pub closed_call : (i : Instr) → makes_call i ≡ true → IsClosed false (i ∷ [])
closed_call (Loop times every) call = cc
closed_call EndLoop call = cc
closed_call Halt call = cc
closed_call i call = tt

-- and calls of a loop with its end
pub closed_body : (is : List Instr) → AreCalls is → IsClosed true (is ++ EndLoop ∷ [])
closed_body [] calls = tt
closed_body (Loop times every ∷ is) calls = cc
closed_body (EndLoop ∷ is) calls = cc
closed_body (Halt ∷ is) calls = cc
closed_body (i ∷ is) calls = closed_body is calls.1

body_append : (is ys : List Instr) → IsClosed true is → body_of (is ++ ys) ≡ body_of is
body_append [] ys h = absurd h
body_append (Loop times every ∷ is) ys h = absurd h
body_append (EndLoop ∷ is) ys h = refl
body_append (Halt ∷ is) ys h = absurd h
body_append (i ∷ is) ys h = ap (λ (js : List Instr). i ∷ js) (body_append is ys h)

-- the calls of what is behind them come behind their own
pub calls_append : (inside : Bool) (count : ℕ) (is ys : List Instr) → IsClosed inside is → calls_from inside count (is ++ ys) ≡ calls_from inside count is ++ calls_from false (count + task_count (calls_from inside count is)) ys
calls_append false count [] ys h = let e : count ≡ count + 0 = omega arith in ap (λ (n : ℕ). calls_from false n ys) e
calls_append true count [] ys h = absurd h
calls_append false count (Loop times every ∷ is) ys h =
    let all = iterations times 0 every (body_of is) count in
    let more = count + times * tasks_in (body_of is) in
    let rest = calls_from true more is in
    let e : more + task_count rest ≡ count + task_count (all ++ rest) = omega (arith, tasks_turns times 0 every count (body_of is) rest) in
    ap (λ (body : List Instr). iterations times 0 every body count ++ calls_from true (count + times * tasks_in body) (is ++ ys)) (body_append is ys h)
    ∙ ap (λ (ps : List Planned). all ++ ps) (calls_append true more is ys h)
    ∙ sym (append_assoc all rest (calls_from false (more + task_count rest) ys))
    ∙ ap (λ (n : ℕ). (all ++ rest) ++ calls_from false n ys) e
calls_append true count (Loop times every ∷ is) ys h = absurd h
calls_append true count (EndLoop ∷ is) ys h = calls_append false count is ys h
calls_append false count (EndLoop ∷ is) ys h = absurd h
calls_append inside count (Halt ∷ is) ys h = absurd h
calls_append false count (i ∷ is) ys h =
    let one = call_by 0 0 count i in
    let rest = calls_from false (count + tasks_by i) is in
    let e : count + tasks_by i + task_count rest ≡ count + task_count (in_front one rest) = omega (arith, tasks_call 0 0 count i rest) in
    ap (in_front one) (calls_append false (count + tasks_by i) is ys h)
    ∙ sym (in_front_append one rest (calls_from false (count + tasks_by i + task_count rest) ys))
    ∙ ap (λ (n : ℕ). in_front one rest ++ calls_from false n ys) e
calls_append true count (i ∷ is) ys h = calls_append true count is ys h

-- the calls of one instruction
pub one_call : (count : ℕ) (i : Instr) → makes_call i ≡ true → calls_from false count (i ∷ []) ≡ in_front (call_by 0 0 count i) []
one_call count (Loop times every) call = cc
one_call count EndLoop call = cc
one_call count Halt call = cc
one_call count i call = refl

-- ---- the loop that is open

end_inside : (is ys : List Instr) → IsClosed true is → has_end (is ++ ys) ≡ true
end_inside [] ys h = absurd h
end_inside (Loop times every ∷ is) ys h = absurd h
end_inside (EndLoop ∷ is) ys h = refl
end_inside (Halt ∷ is) ys h = absurd h
end_inside (i ∷ is) ys h = end_inside is ys h

no_end : (is : List Instr) → AreCalls is → has_end is ≡ false
no_end [] calls = refl
no_end (Loop times every ∷ is) calls = cc
no_end (EndLoop ∷ is) calls = cc
no_end (Halt ∷ is) calls = cc
no_end (i ∷ is) calls = no_end is calls.1

-- no loop is open behind them
pub open_none : (inside : Bool) (is : List Instr) → IsClosed inside is → open_loop is ≡ None
open_none false [] h = refl
open_none true [] h = absurd h
open_none false (Loop times every ∷ is) h =
    let e : has_end is ≡ true = ap has_end (sym (append-nil is)) ∙ end_inside is [] h in
    rw (e, open_none true is h) refl
open_none true (Loop times every ∷ is) h = absurd h
open_none true (EndLoop ∷ is) h = rw (open_none false is h) refl
open_none false (EndLoop ∷ is) h = absurd h
open_none inside (Halt ∷ is) h = absurd h
open_none inside (i ∷ is) h = rw (open_none inside is h) refl

-- a loop, where it began behind these
abbrev pub begun : List Instr → ℕ → ℕ → List Instr → Begun
begun before times every body = record { before = before; times = times; every = every; body = body }

-- the one that begins behind them is open as long as only calls follow
pub open_some : (inside : Bool) (before : List Instr) (times every : ℕ) (body : List Instr) → IsClosed inside before → AreCalls body → open_loop (before ++ Loop times every ∷ body) ≡ Some (begun before times every body)
open_some false [] times every body h calls = rw (no_end body calls) refl
open_some true [] times every body h calls = absurd h
open_some false (Loop n step ∷ is) times every body h calls = rw (end_inside is (Loop times every ∷ body) h, open_some true is times every body h calls) refl
open_some true (Loop n step ∷ is) times every body h calls = absurd h
open_some true (EndLoop ∷ is) times every body h calls = rw (open_some false is times every body h calls) refl
open_some false (EndLoop ∷ is) times every body h calls = absurd h
open_some inside (Halt ∷ is) times every body h calls = absurd h
open_some inside (i ∷ is) times every body h calls = rw (open_some inside is times every body h calls) refl

-- ---- halts

-- a halt behind them is the first
pub halt_append : (inside : Bool) (is ys : List Instr) → IsClosed inside is → has_halt (is ++ ys) ≡ has_halt ys
halt_append false [] ys h = refl
halt_append true [] ys h = absurd h
halt_append false (Loop times every ∷ is) ys h = halt_append true is ys h
halt_append true (Loop times every ∷ is) ys h = absurd h
halt_append true (EndLoop ∷ is) ys h = halt_append false is ys h
halt_append false (EndLoop ∷ is) ys h = absurd h
halt_append inside (Halt ∷ is) ys h = absurd h
halt_append inside (i ∷ is) ys h = halt_append inside is ys h

-- calls have none
pub no_halt : (is : List Instr) → AreCalls is → has_halt is ≡ false
no_halt [] calls = refl
no_halt (Loop times every ∷ is) calls = cc
no_halt (EndLoop ∷ is) calls = cc
no_halt (Halt ∷ is) calls = cc
no_halt (i ∷ is) calls = no_halt is calls.1
