-- What is answered to the call of a place.
use Rattle.std.proofs.Common.{◌≡◌, ◌∙◌, ◌⊎◌, inl, inr, ℕ, ◌+◌, ◌*◌, ◌<◌, ◌≤◌, Bool, true, false, ◌||◌, ◌&&◌, not, List, [], ◌∷◌, ◌++◌, length, Option, None, Some, refl, sym, ap, subst, arith, append_assoc, append-nil, length-append}
use Rattle.std.specs.Prelude.{nat_lt, slice_get}
use Rattle.std.proofs.lemmas.Bool.{and_parts, false≢true, or_cases}
use Rattle.std.proofs.lemmas.Nat.{mul-le}
use Rattle.sched_time.specs.declared.timing.Timing.TheVariants as t
use Rattle.queue_code.specs.Calls.{Planned}
use Rattle.executor_model.specs.declared.types.Answer.TheVariants as a
use Rattle.executor_model.specs.declared.types.Refusal.TheVariants as refusal
use Rattle.executor_model.specs.Histories.{HistoryEntry}
use Rattle.executor_laws.specs.Policies as laws
use Rattle.plan_read.specs.declared.plans.Call.{Call}
use Rattle.plan_read.specs.declared.plans.Op.{Op}
use Rattle.plan_read.specs.declared.plans.Op.TheVariants as ops
use Rattle.plan_read.specs.Plans.{BlockTree, PlanTree, tasks_after_calls, made_by, made_from, AreBlocksAfter, IsBlockAfter, IsOrdered}
use Rattle.plan_compile.specs.PlanCalls.{block_tasks, calls_of_plan, code_call}
use Rattle.plan_warnings.specs.MadePlaces.{IsMadeAt, IllegalPlacesAreRefused, PlacesRejectedAgainAreRefused}
use Rattle.plan_warnings.specs.Places.{PlaceTree, place_of, shuts_down, some_shuts_down, some_block_shuts_down}
use Rattle.plan_warnings.specs.Refusals.{AnswersCall, IsBehindShutdown}
use Rattle.plan_warnings.specs.Warnings.{is_illegal, is_legal}
use Rattle.plan_warnings.proofs.Found.{any_passes}
use Rattle.plan_warnings.proofs.Positions.{after_blocks, call_there, firsts_of}
use Rattle.plan_warnings.proofs.Refusing.{calls_behind_shutdowns_are_rejected, illegal_calls_are_refused}

-- ---- orders of a plan

-- a block of a plan, behind those before it
pub block_after : (earlier bs : PlanTree) (b : BlockTree) (rest : PlanTree) → AreBlocksAfter earlier (bs ++ b ∷ rest) → IsBlockAfter (earlier ++ bs) b
block_after earlier [] b rest after = subst (λ (ds : PlanTree). IsBlockAfter ds b) (sym (append-nil earlier)) after.0
block_after earlier (d ∷ bs) b rest after = subst (λ (ds : PlanTree). IsBlockAfter ds b) (append_assoc earlier (d ∷ []) bs) (block_after (earlier ++ d ∷ []) bs b rest after.1)

-- a block of a plan is made at least once
pub made_once : (plan bs : PlanTree) (b : BlockTree) (rest : PlanTree) → IsOrdered plan → plan ≡ bs ++ b ∷ rest → 1 ≤ b.header.times
made_once plan bs b rest ordered parts = (block_after [] bs b rest (subst (AreBlocksAfter []) parts ordered.1)).least

made_from_le : (n : ℕ) (bs : PlanTree) → n ≤ made_from n bs
made_from_le n [] = omega arith
made_from_le n (b ∷ bs) = omega (arith, made_from_le (n + b.header.times * length b.calls) bs)

made_from_parts : (n : ℕ) (bs ds : PlanTree) → made_from n (bs ++ ds) ≡ made_from (made_from n bs) ds
made_from_parts n [] ds = refl
made_from_parts n (b ∷ bs) ds = made_from_parts (n + b.header.times * length b.calls) bs ds

-- the calls of a block are among those that some blocks make
made_within : (bs : PlanTree) (b : BlockTree) (ds : PlanTree) → made_by bs + b.header.times * length b.calls ≤ made_by (bs ++ b ∷ ds)
made_within bs b ds = omega (arith, made_from_parts 0 bs (b ∷ ds), made_from_le (made_by bs + b.header.times * length b.calls) ds)

-- ---- shutdowns

shutdown_call : (firsts : List ℕ) (start task : ℕ) (op : Op) → shuts_down op ≡ true → laws.shuts_down (code_call firsts start task op) ≡ true
shutdown_call firsts start task ops.Shutdown q = refl
shutdown_call firsts start task ops.ShutdownNow q = refl
shutdown_call firsts start task op q = absurd (false≢true q)

-- a shutdown of a plan, made in some iteration, stands before each position behind it
shutdown_made : (plan earlier : PlanTree) (b : BlockTree) (later : PlanTree) (before : List Call) (c : Call) (behind : List Call) (r position : ℕ)
    → plan ≡ earlier ++ b ∷ later → b.calls ≡ before ++ c ∷ behind → shuts_down c.op ≡ true → r < b.header.times → made_by earlier + r * length b.calls + length before < position → IsBehindShutdown (calls_of_plan plan) position
shutdown_made plan earlier b later before c behind r position in_plan in_block shuts within less =
    let there = call_there earlier b later before c behind r in_block within in
    let place = made_by earlier + r * length b.calls + length before in
    let start = after_blocks 0 earlier + r * block_tasks b in
    record {
      place = place;
      moment = there.0;
      call = code_call (firsts_of 0 earlier) start (tasks_after_calls start before) c.op;
      there = ap (λ (p : PlanTree). slice_get (calls_of_plan p) place) in_plan ∙ there.1;
      shuts = shutdown_call (firsts_of 0 earlier) start (tasks_after_calls start before) c.op shuts;
      before = less;
    }

-- the length of parts
length_parts : {X : Type 0} (all front : List X) (x : X) (back : List X) → all ≡ front ++ x ∷ back → length front < length all
length_parts all front x back parts = omega (arith, ap length parts, length-append front (x ∷ back))

-- a place behind a shutdown is made behind one
pub shut_before : (plan : PlanTree) (p : PlaceTree) (iteration position : ℕ) → IsOrdered plan → IsMadeAt plan p iteration position → p.is_shut ≡ true → IsBehindShutdown (calls_of_plan plan) position
shut_before plan p iteration position ordered at q =
    elim (or_cases (some_block_shuts_down at.earlier) (some_shuts_down at.before) (sym (ap (λ (r : PlaceTree). r.is_shut) at.is) ∙ q)) [
      | inl e ↦
          let s = any_passes (λ (b : BlockTree). some_shuts_down b.calls) at.earlier e in
          let d = any_passes (λ (c : Call). shuts_down c.op) s.x.calls s.passes in
          let in_plan : plan ≡ s.front ++ s.x ∷ (s.back ++ at.block ∷ at.later) =
          at.in_plan ∙ (ap (λ (bs : PlanTree). bs ++ at.block ∷ at.later) s.parts ∙ append_assoc s.front (s.x ∷ s.back) (at.block ∷ at.later))
          in
          let least = made_once plan s.front s.x (s.back ++ at.block ∷ at.later) ordered in_plan in
          let whole : made_by s.front + s.x.header.times * length s.x.calls ≤ made_by at.earlier = subst (λ (bs : PlanTree). made_by s.front + s.x.header.times * length s.x.calls ≤ made_by bs) (sym s.parts) (made_within s.front s.x s.back) in
          let one : 1 * length s.x.calls ≤ s.x.header.times * length s.x.calls = mul-le 1 (length s.x.calls) s.x.header.times (length s.x.calls) least (omega arith) in
          shutdown_made plan s.front s.x (s.back ++ at.block ∷ at.later) d.front d.x d.back 0 position in_plan d.parts d.passes (omega (arith, least))
          (omega (arith, at.here, whole, one, length_parts s.x.calls d.front d.x d.back d.parts))
      | inr e ↦
          let d = any_passes (λ (c : Call). shuts_down c.op) at.before e in
          let in_block : at.block.calls ≡ d.front ++ d.x ∷ (d.back ++ at.call ∷ at.behind) =
          at.in_block ∙ (ap (λ (cs : List Call). cs ++ at.call ∷ at.behind) d.parts ∙ append_assoc d.front (d.x ∷ d.back) (at.call ∷ at.behind))
          in
          shutdown_made plan at.earlier at.block at.later d.front d.x (d.back ++ at.call ∷ at.behind) iteration position at.in_plan in_block d.passes at.within
          (omega (arith, at.here, length_parts at.before d.front d.x d.back d.parts))
    ]

-- a place of a block that has a shutdown is made behind one in each iteration but the first
pub shut_since : (plan : PlanTree) (p : PlaceTree) (iteration position : ℕ) → IsMadeAt plan p iteration position → 1 ≤ iteration → p.is_shut_again ≡ true → IsBehindShutdown (calls_of_plan plan) position
shut_since plan p iteration position at again q =
    let both = and_parts (nat_lt 1 at.block.header.times) (some_shuts_down at.block.calls) (sym (ap (λ (r : PlaceTree). r.is_shut_again) at.is) ∙ q) in
    let d = any_passes (λ (c : Call). shuts_down c.op) at.block.calls both.1 in
    let one : 1 * length at.block.calls ≤ iteration * length at.block.calls = mul-le 1 (length at.block.calls) iteration (length at.block.calls) again (omega arith) in
    shutdown_made plan at.earlier at.block at.later d.front d.x d.back 0 position at.in_plan d.parts d.passes (omega (arith, at.within))
    (omega (arith, at.here, one, length_parts at.block.calls d.front d.x d.back d.parts))

-- ---- refusals

-- the call of a place, at its position
pub call_at_place : (plan : PlanTree) (p : PlaceTree) (iteration position : ℕ) (at : IsMadeAt plan p iteration position)
    → (moment : ℕ) × (slice_get (calls_of_plan plan) position
    ≡ Some (moment, code_call (firsts_of 0 at.earlier) (after_blocks 0 at.earlier + iteration * block_tasks at.block) (tasks_after_calls (after_blocks 0 at.earlier + iteration * block_tasks at.block) at.before) at.call.op))
call_at_place plan p iteration position at =
    let there = call_there at.earlier at.block at.later at.before at.call at.behind iteration at.in_block at.within in
    (there.0, ap (slice_get (calls_of_plan plan)) at.here ∙ (ap (λ (bs : PlanTree). slice_get (calls_of_plan bs) (made_by at.earlier + iteration * length at.block.calls + length at.before)) at.in_plan ∙ there.1))

illegal : (calls : List Planned) (workers position moment task start : ℕ) (firsts : List ℕ) (past : List HistoryEntry) (e : HistoryEntry) (op : Op) → AnswersCall calls workers position past e
    → slice_get calls position ≡ Some (moment, code_call firsts start task op) → is_illegal op ≡ true → e.answer ≡ a.Refuse task refusal.Illegal
illegal calls workers position moment task start firsts past e (ops.Rate name first None) here there q = illegal_calls_are_refused calls workers position moment task past e here there
illegal calls workers position moment task start firsts past e (ops.Rate name first (Some period)) here there q = absurd (false≢true q)
illegal calls workers position moment task start firsts past e (ops.Fixed name first None) here there q = illegal_calls_are_refused calls workers position moment task past e here there
illegal calls workers position moment task start firsts past e (ops.Fixed name first (Some delay)) here there q = absurd (false≢true q)
illegal calls workers position moment task start firsts past e op here there q = absurd (false≢true q)

rejected : (calls : List Planned) (workers position moment task start : ℕ) (firsts : List ℕ) (past : List HistoryEntry) (e : HistoryEntry) (op : Op) → AnswersCall calls workers position past e
    → slice_get calls position ≡ Some (moment, code_call firsts start task op) → IsBehindShutdown calls position → is_legal op ≡ true → e.answer ≡ a.Refuse task refusal.Rejected
rejected calls workers position moment task start firsts past e (ops.Schedule name delay) here there behind q = calls_behind_shutdowns_are_rejected calls workers position moment task t.Once delay past e here there behind
rejected calls workers position moment task start firsts past e (ops.Execute name) here there behind q = calls_behind_shutdowns_are_rejected calls workers position moment task t.Once 0 past e here there behind
rejected calls workers position moment task start firsts past e (ops.Rate name first (Some period)) here there behind q =
    calls_behind_shutdowns_are_rejected calls workers position moment task (t.Rate period) first past e here there behind
rejected calls workers position moment task start firsts past e (ops.Rate name first None) here there behind q = absurd (false≢true q)
rejected calls workers position moment task start firsts past e (ops.Fixed name first (Some delay)) here there behind q =
    calls_behind_shutdowns_are_rejected calls workers position moment task (t.Fixed delay) first past e here there behind
rejected calls workers position moment task start firsts past e (ops.Fixed name first None) here there behind q = absurd (false≢true q)
rejected calls workers position moment task start firsts past e op here there behind q = absurd (false≢true q)

-- the number of the task that a place submits in an iteration
abbrev pub number_at : (plan : PlanTree) (p : PlaceTree) (iteration position : ℕ) → IsMadeAt plan p iteration position → ℕ
number_at plan p iteration position at = tasks_after_calls (after_blocks 0 at.earlier + iteration * block_tasks at.block) at.before

pub illegal_places_are_refused : IllegalPlacesAreRefused
illegal_places_are_refused plan p iteration position workers past e at told here =
    let there = call_at_place plan p iteration position at in (
      number_at plan p iteration position at,
      illegal (calls_of_plan plan) workers position there.0 (number_at plan p iteration position at) (after_blocks 0 at.earlier + iteration * block_tasks at.block) (firsts_of 0 at.earlier) past e at.call.op here there.1
          (sym (ap (λ (r : PlaceTree). is_illegal r.op) at.is) ∙ told),
    )

pub rejected_behind : (plan : PlanTree) (p : PlaceTree) (iteration position workers : ℕ) (past : List HistoryEntry) (e : HistoryEntry) → IsMadeAt plan p iteration position → is_legal p.op ≡ true → IsBehindShutdown (calls_of_plan plan) position
    → AnswersCall (calls_of_plan plan) workers position past e → (k : ℕ) × (e.answer ≡ a.Refuse k refusal.Rejected)
rejected_behind plan p iteration position workers past e at legal behind here =
    let there = call_at_place plan p iteration position at in (
      number_at plan p iteration position at,
      rejected (calls_of_plan plan) workers position there.0 (number_at plan p iteration position at) (after_blocks 0 at.earlier + iteration * block_tasks at.block) (firsts_of 0 at.earlier) past e at.call.op here there.1
          behind (sym (ap (λ (r : PlaceTree). is_legal r.op) at.is) ∙ legal),
    )

pub rejected_places_are_refused : (plan : PlanTree) (p : PlaceTree) (iteration position workers : ℕ) (past : List HistoryEntry) (e : HistoryEntry) → IsOrdered plan → IsMadeAt plan p iteration position
    → (is_legal p.op && p.is_shut) ≡ true → AnswersCall (calls_of_plan plan) workers position past e → (k : ℕ) × (e.answer ≡ a.Refuse k refusal.Rejected)
rejected_places_are_refused plan p iteration position workers past e ordered at told here =
    let both = and_parts (is_legal p.op) p.is_shut told in
    rejected_behind plan p iteration position workers past e at both.0 (shut_before plan p iteration position ordered at both.1) here

pub places_rejected_again_are_refused : PlacesRejectedAgainAreRefused
places_rejected_again_are_refused plan p iteration position workers past e at again told here =
    let both = and_parts (is_legal p.op) (not p.is_shut && p.is_shut_again) told in
    let more = and_parts (not p.is_shut) p.is_shut_again both.1 in
    rejected_behind plan p iteration position workers past e at both.0 (shut_since plan p iteration position at again more.1) here
