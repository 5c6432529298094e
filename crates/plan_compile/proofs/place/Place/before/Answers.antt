use Rattle.std.proofs.Common.{rules, ◌≡◌, ◌≤◌, ◌+◌, ◌*◌, length, List, [], ◌∷◌, arith, sym, ◌∙◌, Bool, true}
use Rattle.std.specs.Prelude.{◌==◌}
use Rattle.std.proofs.lemmas.Bool.Decides.{nat_tests}
use Rattle.std.proofs.lemmas.List.{nil_from_length}
use Rattle.plan_read.specs.declared.plans.Call.{Call}
use Rattle.sched_time.specs.Times.{longest}
use Rattle.plan_compile.specs.own.Places.{ops_from}
use Rattle.plan_compile.proofs.Ops.{base_in_time, at_iteration, past_iterations, past_no_calls}
use Rattle.plan_compile.proofs.place.Place.before.Goals as goal
use Rattle.plan_compile.proofs.place.Place.before.Goals.{else-iteration-times-via-then-iteration-times+else-not-is_empty, else-iteration-times-via-else-iteration-times, After-every}

some1 : (g : _) (c : After-every g) → c.in-Some.block.now.calls ≡ [] → ⊥
some1 g c = λ e. search rules

-- calls that are told to be none are none
no_calls : (calls given : List Call) (empty : Bool) → given ≡ calls → empty ≡ (length given == 0) → empty ≡ true → calls ≡ []
no_calls calls given empty is tested told = sym is ∙ nil_from_length given (grind (arith, nat_tests, sym tested ∙ told))

is1 : (g : _) (c : After-every g) → c.loop-block.blocks.now ≡ c.in-Some.block.now ∷ c.in-Some.rest.now
is1 g c = c.in-Some.ensures.cases.0

base1 : (g : _) (c : After-every g) → (c.in-Some.block.now.calls ≡ [] → ⊥) → c.in-Some.block.now.header.at + c.loop-block.iteration * c.in-Some.block.now.header.every ≤ longest
base1 g c some =
    base_in_time c.loop-block.iteration c.in-Some.block.now c.in-Some.rest.now (omega arith) some (rw c.in-Some.ensures.cases.0 at c.loop-block.invariant.in_time)

pub overflow_mul-result : goal.overflow_mul-result
overflow_mul-result g c = rw (c.from.ensures, c.every.ensures) (omega (arith, base1 g c (some1 g c)))

pub overflow_add-result : goal.overflow_add-result
overflow_add-result g c = rw (c.at.ensures, c.from.ensures, c.every.ensures) (omega (arith, base1 g c (some1 g c)))

pub invariant_of-result : goal.invariant_of-result
invariant_of-result g c = (
  rw (c.at.ensures, c.from.ensures, c.every.ensures, c.calls-then-not-is_empty.ensures, at_iteration c.loop-block.iteration c.loop-block.blocks.now c.in-Some.block.now c.in-Some.rest.now (is1 g c) (omega arith)) c.loop-block.invariant.in_time,
  rw c.calls-then-not-is_empty.ensures (λ e. absurd (some1 g c e)),
  omega arith,
)

pub returns-then-not-is_empty : goal.returns-then-not-is_empty
returns-then-not-is_empty g c =
    rw (c.at.ensures, c.from.ensures, c.every.ensures, c.calls-then-not-is_empty.ensures, at_iteration c.loop-block.iteration c.loop-block.blocks.now c.in-Some.block.now c.in-Some.rest.now (is1 g c) (omega arith)) c.loop-block.invariant.same

pub loop-block-preserved : goal.loop-block-preserved
loop-block-preserved g c =
    let first = c.in-Some.ensures.cases.0 in
    let next : ops_from 0 c.in-Some.rest.now ≡ ops_from c.loop-block.iteration c.loop-block.blocks.now = rw first (elim c.else-iteration-times.branch [
      | else-iteration-times-via-then-iteration-times+else-not-is_empty w ↦ sym (past_no_calls c.loop-block.iteration c.in-Some.block.now c.in-Some.rest.now (no_calls c.in-Some.block.now.calls w.calls.result.now w.is_empty.result w.calls.ensures w.is_empty.ensures w.if-not-is_empty.false))
      | else-iteration-times-via-else-iteration-times w ↦ sym (past_iterations c.loop-block.iteration c.in-Some.block.now c.in-Some.rest.now (omega arith))
    ]) in
    record {
      same = next ∙ c.loop-block.invariant.same;
      in_time = rw next c.loop-block.invariant.in_time;
    }
