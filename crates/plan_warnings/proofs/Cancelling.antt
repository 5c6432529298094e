-- What is answered to a cancel of which it is told that there is nothing to cancel.
use Rattle.std.proofs.Common.{◌≡◌, ◌∙◌, ◌⊎◌, inl, inr, ℕ, suc, ◌+◌, ◌*◌, ◌<◌, ◌≤◌, ◌==◌, Bool, true, false, ◌||◌, ◌&&◌, List, [], ◌∷◌, ◌++◌, length, Option, None, Some, refl, sym, ap, subst, arith, append_assoc, append-nil}
use Rattle.std.specs.Prelude.{slice_get, unwrap_or}
use Rattle.std.specs.Option.{option_map_or}
use Rattle.std.proofs.lemmas.Bool.{and_parts, eqb-true, false≢true, or_cases}
use Rattle.std.proofs.lemmas.Option.{slice_get_past}
use Rattle.queue_code.specs.Calls.{Planned, IsOrderly}
use Rattle.queue_code.specs.declared.call.CodeCall.TheVariants as c
use Rattle.executor_model.specs.declared.types.Answer.TheVariants as a
use Rattle.executor_model.specs.declared.types.CancelEffect.TheVariants as f
use Rattle.executor_model.specs.Histories.{HistoryEntry}
use Rattle.plan_read.specs.declared.plans.Call.{Call}
use Rattle.plan_read.specs.declared.plans.Header.{Header}
use Rattle.plan_read.specs.declared.plans.Op.{Op}
use Rattle.plan_read.specs.declared.plans.Op.TheVariants as ops
use Rattle.plan_read.specs.declared.plans.Target.{Target}
use Rattle.plan_read.specs.Plans.{BlockTree, PlanTree, is_submission, tasks_after_calls, made_by, AreBlocksAfter, AreCallsAfter, IsAimed, IsCallAfter, IsOrdered}
use Rattle.plan_compile.specs.PlanCalls.{block_tasks, calls_of_plan, code_call, target_number}
use Rattle.plan_compile.proofs.Counting.{tasks_after_calls-from}
use Rattle.plan_compile.proofs.Ordering.{plan_orderly}
use Rattle.plan_warnings.specs.MadePlaces.{IsMadeAt}
use Rattle.plan_warnings.specs.Places.{PlaceTree, is_same, place_of, places_of, some_block_shuts_down, target_of}
use Rattle.plan_warnings.specs.Refusals.{AnswersCall, IsBehindShutdown, IsRefusedCall, IsRefusedTask}
use Rattle.plan_warnings.specs.Warnings.{is_illegal, is_refused, is_refused_at}
use Rattle.plan_warnings.proofs.Found.{FoundPlace, found_from, get_parts, parts_alike}
use Rattle.plan_warnings.proofs.Placing.{block_after, call_at_place, made_once, shut_before}
use Rattle.plan_warnings.proofs.Positions.{after_blocks, firsts_of}
use Rattle.plan_warnings.proofs.Refusing.{cancels_of_refused_tasks_have_no_effect}

-- ---- the target of a cancel

-- a call of a block, behind those before it
calls_after : (earlier : PlanTree) (h : Header) (before cs : List Call) (c : Call) (rest : List Call) → AreCallsAfter earlier h before (cs ++ c ∷ rest) → IsCallAfter earlier h (before ++ cs) c
calls_after earlier h before [] c rest after = subst (λ (ds : List Call). IsCallAfter earlier h ds c) (sym (append-nil before)) after.0
calls_after earlier h before (d ∷ cs) c rest after = subst (λ (ds : List Call). IsCallAfter earlier h ds c) (append_assoc before (d ∷ []) cs) (calls_after earlier h (before ++ d ∷ []) cs c rest after.1)

-- the target of a cancel of a plan stands before it
aimed : (plan : PlanTree) (p : PlaceTree) (iteration position : ℕ) → IsOrdered plan → (at : IsMadeAt plan p iteration position) → IsAimed at.earlier at.before at.call.op
aimed plan p iteration position ordered at =
    let block = block_after [] at.earlier at.block at.later (subst (AreBlocksAfter []) at.in_plan ordered.1) in
    (calls_after at.earlier at.block.header [] at.before at.call at.behind (subst (AreCallsAfter at.earlier at.block.header []) at.in_block block.calls)).aimed

-- an operation is a cancel of a target that passes a test
cancels : (test : Target → Bool) (op : Op) → option_map_or test (target_of op) false ≡ true → (t : Target) × (op ≡ ops.Cancel t) × (test t ≡ true)
cancels test (ops.Cancel target) q = (target, refl, q)
cancels test op q = absurd (false≢true q)

-- ---- a submission that is refused

-- the call of a submission that is refused each time
refused_call : (calls : List Planned) (position start task : ℕ) (firsts : List ℕ) (shut : Bool) (op : Op) → is_submission op ≡ true → (is_illegal op || shut) ≡ true → (shut ≡ true → IsBehindShutdown calls position)
    → IsRefusedCall calls position task (code_call firsts start task op)
refused_call calls position start task firsts shut (ops.Schedule name delay) s q behind = (refl, behind q)
refused_call calls position start task firsts shut (ops.Execute name) s q behind = (refl, behind q)
refused_call calls position start task firsts shut (ops.Rate name first (Some period)) s q behind = (refl, behind q)
refused_call calls position start task firsts shut (ops.Rate name first None) s q behind = refl
refused_call calls position start task firsts shut (ops.Fixed name first (Some delay)) s q behind = (refl, behind q)
refused_call calls position start task firsts shut (ops.Fixed name first None) s q behind = refl
refused_call calls position start task firsts shut op s q behind = absurd (false≢true s)

-- the task that a place submits in an iteration is refused, where the place is one that is refused each time
refused_task : (plan : PlanTree) (q : PlaceTree) (iteration position : ℕ) → IsOrdered plan → (at : IsMadeAt plan q iteration position) → is_refused_at q ≡ true
    → IsRefusedTask (calls_of_plan plan) (tasks_after_calls (after_blocks 0 at.earlier + iteration * block_tasks at.block) at.before)
refused_task plan q iteration position ordered at refused =
    let start = after_blocks 0 at.earlier + iteration * block_tasks at.block in
    let task = tasks_after_calls start at.before in
    let there = call_at_place plan q iteration position at in
    let same : q.op ≡ at.call.op = ap (λ (r : PlaceTree). r.op) at.is in
    let both = and_parts (is_submission q.op) (is_illegal q.op || q.is_shut) refused in
    record {
      place = position;
      moment = there.0;
      call = code_call (firsts_of 0 at.earlier) start task at.call.op;
      there = there.1;
      refused = refused_call (calls_of_plan plan) position start task (firsts_of 0 at.earlier) q.is_shut at.call.op
          (subst (λ (op : Op). is_submission op ≡ true) same both.0) (subst (λ (op : Op). (is_illegal op || q.is_shut) ≡ true) same both.1)
          (λ shut. shut_before plan q iteration position ordered at shut);
    }

-- ---- numbers

-- the first number of a block among those of the blocks
first_of : (first : ℕ) (bs : PlanTree) (b : BlockTree) (rest : PlanTree) → slice_get (firsts_of first (bs ++ b ∷ rest)) (length bs) ≡ Some (after_blocks first bs)
first_of first [] b rest = refl
first_of first (d ∷ bs) b rest = first_of (first + d.header.times * block_tasks d) bs b rest

length_firsts : (first : ℕ) (bs : PlanTree) → length (firsts_of first bs) ≡ length bs
length_firsts first [] = refl
length_firsts first (b ∷ bs) = ap suc (length_firsts (first + b.header.times * block_tasks b) bs)

-- ---- the law

-- the submission that a cancel names, as it was found in the plan
abbrev Named : PlanTree → Target → Type 0
Named plan target = FoundPlace (λ (q : PlaceTree). is_refused_at q && is_same q.target target) [] plan

module _ (plan : PlanTree) (target : Target) (found : Named plan target) where
  abbrev found_place : PlaceTree
  found_place = place_of (length found.front) (some_block_shuts_down found.front) found.block found.before found.call

  -- it is refused each time, and is the target
  found_is : (is_refused_at found_place ≡ true) × (target.block ≡ length found.front) × (target.sub ≡ tasks_after_calls 0 found.before)
  found_is =
      let both = and_parts (is_refused_at found_place) (is_same found_place.target target) found.passes in
      let same = and_parts (found_place.target.block == target.block) (found_place.target.sub == target.sub) both.1 in
      (both.0, sym (eqb-true _ _ same.0), sym (eqb-true _ _ same.1))

  -- it is made in each iteration of its block
  abbrev found_at : (r : ℕ) → r < found.block.header.times → IsMadeAt plan found_place r (made_by found.front + r * length found.block.calls + length found.before)
  found_at r within = record {
    earlier = found.front;
    block = found.block;
    later = found.back;
    before = found.before;
    call = found.call;
    behind = found.behind;
    in_plan = found.in_plan;
    in_block = found.in_block;
    is = refl;
    within = within;
    here = refl;
  }

  -- the task that it submits in an iteration is refused
  found_refused : IsOrdered plan → (r : ℕ) → r < found.block.header.times → IsRefusedTask (calls_of_plan plan) (after_blocks 0 found.front + r * block_tasks found.block + target.sub)
  found_refused ordered r within =
      let start = after_blocks 0 found.front + r * block_tasks found.block in
      subst (IsRefusedTask (calls_of_plan plan)) (tasks_after_calls-from start found.before ∙ ap (λ (n : ℕ). start + n) (sym found_is.2))
      (refused_task plan found_place r (made_by found.front + r * length found.block.calls + length found.before) ordered (found_at r within) found_is.0)

-- the task of a cancel is refused, where its target is refused each time
cancel_refused : (plan : PlanTree) (p : PlaceTree) (iteration position : ℕ) (target : Target) → IsOrdered plan → (at : IsMadeAt plan p iteration position) → at.call.op ≡ ops.Cancel target → Named plan target
    → IsRefusedTask (calls_of_plan plan) (target_number (firsts_of 0 at.earlier) (after_blocks 0 at.earlier + iteration * block_tasks at.block) target)
cancel_refused plan p iteration position target ordered at is found =
    let start = after_blocks 0 at.earlier + iteration * block_tasks at.block in
    let firsts = firsts_of 0 at.earlier in
    let number : Option ℕ → ℕ = λ o. unwrap_or o start + target.sub in
    let f = found_is plan target found in
    let parts : found.front ++ found.block ∷ found.back ≡ at.earlier ++ at.block ∷ at.later = sym found.in_plan ∙ at.in_plan in
    let stands = (subst (IsAimed at.earlier at.before) is (aimed plan p iteration position ordered at)).1 in
    elim stands [
      | inl own ↦
          let same = parts_alike found.front found.block found.back at.earlier at.block at.later parts (sym f.1 ∙ own.0) in
          let within : iteration < found.block.header.times = subst (λ (b : BlockTree). iteration < b.header.times) (sym same.1) at.within in
          let past : slice_get firsts target.block ≡ None = slice_get_past firsts target.block (omega (arith, own.0, length_firsts 0 at.earlier)) in
          let is_number : after_blocks 0 found.front + iteration * block_tasks found.block + target.sub ≡ number (slice_get firsts target.block) =
          ap (λ (bs : PlanTree). after_blocks 0 bs + iteration * block_tasks found.block + target.sub) same.0
          ∙ (ap (λ (b : BlockTree). after_blocks 0 at.earlier + iteration * block_tasks b + target.sub) same.1 ∙ ap number (sym past))
          in
          subst (IsRefusedTask (calls_of_plan plan)) is_number (found_refused plan target found ordered iteration within)
      | inr other ↦
          let b = other.0 in
          let at_block = get_parts at.earlier target.block b other.1 in
          let whole : found.front ++ found.block ∷ found.back ≡ at_block.0 ++ b ∷ (at_block.1 ++ at.block ∷ at.later) =
          parts ∙ (ap (λ (bs : PlanTree). bs ++ at.block ∷ at.later) at_block.2 ∙ append_assoc at_block.0 (b ∷ at_block.1) (at.block ∷ at.later))
          in
          let same = parts_alike found.front found.block found.back at_block.0 b (at_block.1 ++ at.block ∷ at.later) whole (sym f.1 ∙ sym at_block.3) in
          let least = made_once plan found.front found.block found.back ordered found.in_plan in
          let within : 0 < found.block.header.times = omega (arith, least) in
          let there : slice_get firsts target.block ≡ Some (after_blocks 0 at_block.0) =
          ap (λ (bs : PlanTree). slice_get (firsts_of 0 bs) target.block) at_block.2 ∙ (ap (slice_get (firsts_of 0 (at_block.0 ++ b ∷ at_block.1))) (sym at_block.3) ∙ first_of 0 at_block.0 b at_block.1)
          in
          let none : after_blocks 0 found.front + 0 * block_tasks found.block + target.sub ≡ after_blocks 0 found.front + target.sub = omega arith in
          let is_number : after_blocks 0 found.front + 0 * block_tasks found.block + target.sub ≡ number (slice_get firsts target.block) =
          none ∙ (ap (λ (bs : PlanTree). after_blocks 0 bs + target.sub) same.0 ∙ ap number (sym there))
          in
          subst (IsRefusedTask (calls_of_plan plan)) is_number (found_refused plan target found ordered 0 within)
    ]

pub nothing_is_cancelled : (plan : PlanTree) (p : PlaceTree) (iteration position workers : ℕ) (past : List HistoryEntry) (e : HistoryEntry) → IsOrdered plan → IsMadeAt plan p iteration position
    → option_map_or (is_refused (places_of plan)) (target_of p.op) false ≡ true → AnswersCall (calls_of_plan plan) workers position past e → (k : ℕ) × (e.answer ≡ a.Cancel k f.Absent)
nothing_is_cancelled plan p iteration position workers past e ordered at told here =
    let cancel = cancels (is_refused (places_of plan)) p.op told in
    let target = cancel.0 in
    let is : at.call.op ≡ ops.Cancel target = sym (ap (λ (r : PlaceTree). r.op) at.is) ∙ cancel.1 in
    let found : Named plan target = found_from (λ (q : PlaceTree). is_refused_at q && is_same q.target target) [] plan cancel.2 in
    let start = after_blocks 0 at.earlier + iteration * block_tasks at.block in
    let firsts = firsts_of 0 at.earlier in
    let k = target_number firsts start target in
    let there = call_at_place plan p iteration position at in
    let cancels_k : slice_get (calls_of_plan plan) position ≡ Some (there.0, c.Cancel k) = there.1 ∙ ap (λ (op : Op). Some (there.0, code_call firsts start (tasks_after_calls start at.before) op)) is in
    (k, cancels_of_refused_tasks_have_no_effect (calls_of_plan plan) workers position there.0 k past e (plan_orderly plan ordered).1 (cancel_refused plan p iteration position target ordered at is found) here cancels_k)
