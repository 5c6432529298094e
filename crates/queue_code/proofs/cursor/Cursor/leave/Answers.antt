use Rattle.std.proofs.Common.{◌≡◌, ℕ, ◌+◌, ◌<◌, ◌≤◌, ap, Some, arith, inr, refl}
use Rattle.std.specs.List.{slice_get}
use Rattle.std.proofs.lemmas.Option.{slice_get_within}
use Rattle.queue_code.specs.declared.instr.Instr.{Instr}
use Rattle.queue_code.specs.declared.instr.Instr.TheVariants.{EndLoop}
use Rattle.queue_code.proofs.Moves.{goes_back, goes_on, inside_at, in_turn}
use Rattle.queue_code.proofs.cursor.Cursor.leave.Goals as goal

pub loop_around-place-requires-clause-inside : goal.loop_around-place-requires-clause-inside
loop_around-place-requires-clause-inside g c =
    let at : slice_get {X = Instr} c.args.code.now c.args.self.now.index ≡ Some EndLoop = cc in
    inside_at c.args.code.now c.args.self.now.index c.in-Some-EndLoop.ensures.sound at

pub overflow_add-self-2 : goal.overflow_add-self-2
overflow_add-self-2 g c =
    let at : slice_get {X = Instr} c.args.code.now c.args.self.now.index ≡ Some EndLoop = cc in
    let l = inside_at c.args.code.now c.args.self.now.index c.in-Some-EndLoop.ensures.sound at in
    let e = ap (λ (p : ℕ × ℕ × ℕ). p.1) (c.loop_around-place.ensures l.0 l.1) in
    omega (arith, e, in_turn c.args.code.now c.args.self.now l.0 c.requires.cursor l.1, c.loop_around-place.type_inv)

pub overflow_add-self-then-self-times : goal.overflow_add-self-then-self-times
overflow_add-self-then-self-times g c =
    let at : slice_get {X = Instr} c.args.code.now c.args.self.now.index ≡ Some EndLoop = cc in
    let l = inside_at c.args.code.now c.args.self.now.index c.in-Some-EndLoop.ensures.sound at in
    let more : c.args.self.now.iteration + 1 < l.0.times = omega (arith, ap (λ (p : ℕ × ℕ × ℕ). p.1) (c.loop_around-place.ensures l.0 l.1)) in
    rw (c.loop_around-place.ensures l.0 l.1) (omega (arith, (goes_back c.args.code.now c.args.self.now (c.args.self.now.steps + 1) l.0 c.in-Some-EndLoop.ensures.sound c.requires.cursor l.1 at more).base))

pub overflow_add-self-then-self-times-2 : goal.overflow_add-self-then-self-times-2
overflow_add-self-then-self-times-2 g c =
    let at : slice_get {X = Instr} c.args.code.now c.args.self.now.index ≡ Some EndLoop = cc in
    let l = inside_at c.args.code.now c.args.self.now.index c.in-Some-EndLoop.ensures.sound at in
    let more : c.args.self.now.iteration + 1 < l.0.times = omega (arith, ap (λ (p : ℕ × ℕ × ℕ). p.1) (c.loop_around-place.ensures l.0 l.1)) in
    rw (c.loop_around-place.ensures l.0 l.1) (omega (arith, c.in-Some-EndLoop.ensures.size, (goes_back c.args.code.now c.args.self.now (c.args.self.now.steps + 1) l.0 c.in-Some-EndLoop.ensures.sound c.requires.cursor l.1 at more).index))

pub overflow_add-self-else-self-times : goal.overflow_add-self-else-self-times
overflow_add-self-else-self-times g c =
    let at : slice_get {X = Instr} c.args.code.now c.args.self.now.index ≡ Some EndLoop = cc in
    omega (arith, c.in-Some-EndLoop.ensures.size, slice_get_within {A = Instr} c.args.code.now c.args.self.now.index EndLoop at)

pub returns-then-self-times : goal.returns-then-self-times
returns-then-self-times g c =
    let at : slice_get {X = Instr} c.args.code.now c.args.self.now.index ≡ Some EndLoop = cc in
    let l = inside_at c.args.code.now c.args.self.now.index c.in-Some-EndLoop.ensures.sound at in
    let more : c.args.self.now.iteration + 1 < l.0.times = omega (arith, ap (λ (p : ℕ × ℕ × ℕ). p.1) (c.loop_around-place.ensures l.0 l.1)) in
    let b = goes_back c.args.code.now c.args.self.now (c.args.self.now.steps + 1) l.0 c.in-Some-EndLoop.ensures.sound c.requires.cursor l.1 at more in
    rw (c.loop_around-place.ensures l.0 l.1) (record { cursor = b.moves.cursor; left = b.moves.left; past = b.past; steps = inr refl; rests = λ over. cc })

pub returns-else-self-times : goal.returns-else-self-times
returns-else-self-times g c =
    let at : slice_get {X = Instr} c.args.code.now c.args.self.now.index ≡ Some EndLoop = cc in
    let l = inside_at c.args.code.now c.args.self.now.index c.in-Some-EndLoop.ensures.sound at in
    let last : l.0.times ≤ c.args.self.now.iteration + 1 = omega (arith, ap (λ (p : ℕ × ℕ × ℕ). p.1) (c.loop_around-place.ensures l.0 l.1)) in
    let b = goes_on c.args.code.now c.args.self.now (c.args.self.now.steps + 1) l.0 c.in-Some-EndLoop.ensures.sound c.requires.cursor l.1 at last in
    record { cursor = b.0.cursor; left = b.0.left; past = b.1; steps = inr refl; rests = λ over. cc }
