-- The tree of calls writes a plan, which makes these calls.
use Rattle.std.proofs.Common.{◌≡◌, ◌<◌, ◌≤◌, ◌+◌, ◌-◌, ◌*◌, ◌==◌, ℕ, zero, suc, true, List, [], ◌∷◌, ◌++◌, length, take, drop, codes, length-append, length-drop, refl, sym, subst, ap, ◌∙◌, inl, inr, arith}
use Rattle.std.proofs.lemmas.Bool.Decides.{nat_tests}
use Rattle.std.proofs.lemmas.Grind.{div_ceil_times}
use Rattle.std.proofs.lemmas.List.{append-nil}
use Rattle.toml.specs.Data.{array, Items, Members}
use Rattle.sched_time.specs.Times.{longest}
use Rattle.queue_code.specs.Calls.{Planned, IsOrderlyFrom}
use Rattle.plan_read.specs.declared.plans.Call.{Call}
use Rattle.plan_read.specs.declared.versions.Version.TheVariants.{Two}
use Rattle.plan_read.specs.Keys.{are_tables}
use Rattle.plan_read.specs.Migrating.{with_member}
use Rattle.plan_read.specs.Plans.{BlockTree, PlanTree, most_block_calls, submissions_of, submissions_from, submissions_before, tasks_after_calls, last_offset, end_of_block, end_of, made_by}
use Rattle.plan_read.specs.Writes.{HoldTables, WritesBlock, WritesBlocks, TreeWritesIn, top_checks}
use Rattle.plan_read.proofs.Accepted.{end_from_one_more, made_from_one_more}
use Rattle.plan_read.proofs.Naming.{submissions_from-one_more}
use Rattle.plan_compile.specs.PlanCalls.{calls_at, block_tasks, block_iterations, calls_of_blocks}
use Rattle.call_journal.specs.Plans as p
use Rattle.call_journal.specs.MadeCalls.{numbered_calls, MayBePlanned, MakesCalls}
use Rattle.call_journal.specs.declared.journal.MadeCall.{MadeCall}
use Rattle.call_journal.proofs.BlockCalls.{AllFit, task_after-le, call_tables, hold_calls, calls_are_tables, length-call_tables, call_counts, Stands, WritesMade, last_moment, write_calls, length-numbered}
use Rattle.call_journal.proofs.BlockHeads.{is_block_table, writes_head}
use Rattle.call_journal.proofs.Numbered.{AreNumbered, numbered_block}
use Rattle.call_journal.proofs.WrittenCalls.{head_at}

-- ---- some calls, and those behind them

fit_front : (n : ℕ) (cs : List MadeCall) → AllFit cs → AllFit (take n cs)
fit_front zero cs fit = tt
fit_front (suc n) [] fit = tt
fit_front (suc n) (c ∷ cs) fit = (fit.0, fit_front n cs fit.1)

fit_back : (n : ℕ) (cs : List MadeCall) → AllFit cs → AllFit (drop n cs)
fit_back zero cs fit = fit
fit_back (suc n) [] fit = tt
fit_back (suc n) (c ∷ cs) fit = fit_back n cs fit.1

-- they are numbered one behind the other
numbered_parts : (n task : ℕ) (cs : List MadeCall) → numbered_calls task (take n cs) ++ numbered_calls (p.tasks_after task (take n cs)) (drop n cs) ≡ numbered_calls task cs
numbered_parts zero task cs = refl
numbered_parts (suc n) task [] = refl
numbered_parts (suc n) task (c ∷ cs) = rw (numbered_parts n (p.task_after task c.call) cs) refl

next_orderly : (moment : ℕ) (task : ℕ) (c : MadeCall) (cs : List MadeCall) → IsOrderlyFrom task moment (numbered_calls task (c ∷ cs)) → IsOrderlyFrom (p.task_after task c.call) c.moment (numbered_calls (p.task_after task c.call) cs)
next_orderly moment task c cs h = subst (λ (n : ℕ). IsOrderlyFrom n c.moment (numbered_calls (p.task_after task c.call) cs)) (call_counts task c.call) h.3

orderly_front : (n task moment : ℕ) (cs : List MadeCall) → IsOrderlyFrom task moment (numbered_calls task cs) → IsOrderlyFrom task moment (numbered_calls task (take n cs))
orderly_front zero task moment cs h = tt
orderly_front (suc n) task moment [] h = tt
orderly_front (suc n) task moment (c ∷ cs) h =
    let rest = orderly_front n (p.task_after task c.call) c.moment cs (next_orderly moment task c cs h) in
    (h.0, h.1, h.2, subst (λ (k : ℕ). IsOrderlyFrom k c.moment (numbered_calls (p.task_after task c.call) (take n cs))) (sym (call_counts task c.call)) rest)

orderly_back : (n task moment : ℕ) (cs : List MadeCall) → IsOrderlyFrom task moment (numbered_calls task cs)
    → IsOrderlyFrom (p.tasks_after task (take n cs)) (last_moment moment (take n cs)) (numbered_calls (p.tasks_after task (take n cs)) (drop n cs))
orderly_back zero task moment cs h = h
orderly_back (suc n) task moment [] h = tt
orderly_back (suc n) task moment (c ∷ cs) h = orderly_back n (p.task_after task c.call) c.moment cs (next_orderly moment task c cs h)

-- where a block begins at a moment, the calls are in order from it on
orderly_later : (task moment begin : ℕ) (cs : List MadeCall) → (begin ≤ p.first_moment cs) → IsOrderlyFrom task moment (numbered_calls task cs) → IsOrderlyFrom task begin (numbered_calls task cs)
orderly_later task moment begin [] le h = tt
orderly_later task moment begin (c ∷ cs) le h = (le, h.1, h.2, h.3)

-- a block that has calls begins within the limit
within_limit : (task moment : ℕ) (cs : List MadeCall) → 0 < length cs → IsOrderlyFrom task moment (numbered_calls task cs) → (moment ≤ p.first_moment cs) × (p.first_moment cs ≤ longest)
within_limit task moment [] some h = absurd (omega (arith, some))
within_limit task moment (c ∷ cs) some h = (h.0, h.1)

-- ---- the tables of blocks

abbrev pub block_tables : ℕ → ℕ → ℕ → List MadeCall → List Members
block_tables zero begin task calls = []
block_tables (suc n) begin task calls =
    p.block_members begin task (take most_block_calls calls)
    ∷ block_tables n (p.first_moment (drop most_block_calls calls)) (p.tasks_after task (take most_block_calls calls)) (drop most_block_calls calls)

hold_blocks : (n begin task : ℕ) (cs : List MadeCall) → HoldTables (p.block_items n begin task cs) (block_tables n begin task cs)
hold_blocks zero begin task cs = tt
hold_blocks (suc n) begin task cs = (refl, hold_blocks n (p.first_moment (drop most_block_calls cs)) (p.tasks_after task (take most_block_calls cs)) (drop most_block_calls cs))

blocks_are_tables : (n begin task : ℕ) (cs : List MadeCall) → are_tables (p.block_items n begin task cs) ≡ true
blocks_are_tables zero begin task cs = refl
blocks_are_tables (suc n) begin task cs = blocks_are_tables n (p.first_moment (drop most_block_calls cs)) (p.tasks_after task (take most_block_calls cs)) (drop most_block_calls cs)

length-block_tables : (n begin task : ℕ) (cs : List MadeCall) → length (block_tables n begin task cs) ≡ n
length-block_tables zero begin task cs = refl
length-block_tables (suc n) begin task cs =
    ap suc (length-block_tables n (p.first_moment (drop most_block_calls cs)) (p.tasks_after task (take most_block_calls cs)) (drop most_block_calls cs))

-- ---- one block

-- the block of some calls
abbrev pub block_of : ℕ → List Call → BlockTree
block_of begin calls = record { header = head_at begin; calls = calls }

-- how the blocks stand behind those before them, where `task` tasks were submitted
pub record Behind (earlier : PlanTree) (firsts : List ℕ) (begin task : ℕ) : Type 0 where
  pub known : length firsts ≡ length earlier
  pub numbered : AreNumbered firsts task 0 (submissions_from 0 earlier)
  pub counted : length (submissions_from 0 earlier) ≡ task
  pub order : end_of earlier ≤ begin

zero_moment : (n : ℕ) → (n == 0) ≡ true → n ≡ 0
zero_moment n h = grind (arith, nat_tests)

start_of : (earlier : PlanTree) (firsts : List ℕ) (begin task : ℕ) → Behind earlier firsts begin task → Stands earlier firsts begin task [] task begin
start_of earlier firsts begin task w =
    let same = append-nil (submissions_from 0 earlier) in
    record { known = w.known; numbered = rw same w.numbered; counted = rw same w.counted; tasks = omega arith; order = omega arith }

-- its table writes it
writes_block : (earlier : PlanTree) (firsts : List ℕ) (begin task : ℕ) (cs : List MadeCall) (w : WritesMade earlier firsts begin task [] task begin cs) → end_of earlier ≤ begin → begin ≤ longest
    → length cs ≤ 256 → made_by earlier + length cs ≤ 65536
    → WritesBlock Two earlier (p.block_members begin task cs) (block_of begin w.calls)
writes_block earlier firsts begin task cs w order short few total =
    let tables = call_tables begin task cs in
    let items = p.call_items begin task cs in
    let count : length tables ≡ length cs = length-call_tables begin task cs in
    record {
      tables = tables;
      head = writes_head (end_of earlier) (made_by earlier) (p.block_members begin task cs) (begin == 0) begin items tables (is_block_table (begin == 0) begin items (calls_are_tables begin task cs)) (zero_moment begin) short
          (hold_calls begin task cs) order (omega (arith, count, few)) (omega (arith, count, total));
      calls = w.writes;
    }

-- its one iteration makes them
one_iteration : (firsts : List ℕ) (task begin : ℕ) (calls : List Call) → block_iterations firsts task (block_of begin calls) 1 ≡ calls_at firsts begin task task calls
one_iteration firsts task begin calls =
    let at : begin + 0 * 0 ≡ begin = omega arith in
    let from : task + 0 * block_tasks (block_of begin calls) ≡ task = omega arith in
    rw (at, from) refl

-- the moment of the last call of a block
end_of_calls : (begin end : ℕ) (calls : List Call) → end ≤ begin → end_of_block end (head_at begin) calls ≤ begin + last_offset calls
end_of_calls begin end [] le = omega (arith, le)
end_of_calls begin end (c ∷ cs) le = omega arith

-- how those behind it stand
behind_block : (earlier : PlanTree) (firsts : List ℕ) (begin task next after : ℕ) (calls : List Call) → Behind earlier firsts begin task → Stands earlier firsts begin task calls after next
    → (later : ℕ) → next ≤ later → Behind (earlier ++ block_of begin calls ∷ []) (firsts ++ task ∷ []) later after
behind_block earlier firsts begin task next after calls w s later le =
    let e : 0 + length earlier ≡ length earlier = omega arith in
    let more : submissions_from 0 (earlier ++ block_of begin calls ∷ []) ≡ submissions_before earlier (head_at begin) calls =
    submissions_from-one_more 0 earlier (block_of begin calls) ∙ ap (λ (k : ℕ). submissions_from 0 earlier ++ submissions_of k (head_at begin) 0 calls) e in
    let ends = end_of_calls begin (end_of earlier) calls w.order in
    record {
      known = omega (arith, length-append firsts (task ∷ []), length-append earlier (block_of begin calls ∷ []), w.known);
      numbered = rw more (numbered_block firsts task after 0 (submissions_before earlier (head_at begin) calls) s.numbered);
      counted = rw more s.counted;
      order = rw (end_from_one_more 0 earlier (block_of begin calls)) (omega (arith, ends, s.order, le));
    }

-- ---- all blocks

-- what the tables of blocks write
pub record WritesAll (earlier : PlanTree) (firsts : List ℕ) (n begin task : ℕ) (cs : List MadeCall) : Type 0 where
  pub blocks : PlanTree
  pub writes : WritesBlocks Two earlier (block_tables n begin task cs) blocks
  pub same : calls_of_blocks firsts task blocks ≡ numbered_calls task cs

no_calls : (task : ℕ) (cs : List MadeCall) → length cs ≤ 0 → [] ≡ numbered_calls task cs
no_calls task [] h = refl
no_calls task (c ∷ cs) h = absurd (omega (arith, h))

-- the first block's calls, and those of the blocks behind it
blocks_same : (firsts : List ℕ) (begin task after : ℕ) (calls : List Call) (bs : PlanTree) (front back all : List Planned) → calls_at firsts begin task task calls ≡ front
    → task + tasks_after_calls 0 calls ≡ after → calls_of_blocks (firsts ++ task ∷ []) after bs ≡ back → front ++ back ≡ all
    → calls_of_blocks firsts task (block_of begin calls ∷ bs) ≡ all
blocks_same firsts begin task after calls bs front back all first count rest whole =
    let next : task + 1 * block_tasks (block_of begin calls) ≡ after = omega (arith, count) in
    rw (one_iteration firsts task begin calls, first, next, rest) whole

front_few : (n : ℕ) (cs : List MadeCall) → length (take n cs) ≤ n
front_few zero cs = omega arith
front_few (suc n) [] = omega arith
front_few (suc n) (c ∷ cs) = omega (arith, front_few n cs)

parts_length : (n : ℕ) (cs : List MadeCall) → length (take n cs) + length (drop n cs) ≡ length cs
parts_length zero cs = omega arith
parts_length (suc n) [] = refl
parts_length (suc n) (c ∷ cs) = omega (arith, parts_length n cs)

tasks_after-le : (task : ℕ) (cs : List MadeCall) → p.tasks_after task cs ≤ task + length cs
tasks_after-le task [] = omega arith
tasks_after-le task (c ∷ cs) = omega (arith, task_after-le task c.call, tasks_after-le (p.task_after task c.call) cs)

pub write_blocks : (n : ℕ) (earlier : PlanTree) (firsts : List ℕ) (begin task moment : ℕ) (cs : List MadeCall) → (0 < length cs → Behind earlier firsts begin task × (begin ≤ longest)) → begin ≤ p.first_moment cs
    → IsOrderlyFrom task moment (numbered_calls task cs) → AllFit cs → task + length cs ≤ 65536 → made_by earlier + length cs ≤ 65536
    → length cs ≤ 256 * n → 256 * n < length cs + 256 → WritesAll earlier firsts n begin task cs
write_blocks zero earlier firsts begin task moment cs w le orderly fit few total most least = record { blocks = []; writes = tt; same = no_calls task cs (omega (arith, most)) }
write_blocks (suc n) earlier firsts begin task moment cs w le orderly fit few total most least =
    let front = take most_block_calls cs in
    let back = drop most_block_calls cs in
    let here = w (omega (arith, least)) in
    let few_here : length front ≤ 256 = front_few most_block_calls cs in
    let parts : length front + length back ≡ length cs = parts_length most_block_calls cs in
    let left : length back ≡ length cs - 256 = length-drop most_block_calls cs in
    let run : IsOrderlyFrom task begin (numbered_calls task cs) = orderly_later task moment begin cs le orderly in
    let made = write_calls earlier firsts begin task [] task begin front (start_of earlier firsts begin task here.0) (orderly_front most_block_calls task begin cs run) (fit_front most_block_calls cs fit) (omega (arith, few, parts)) in
    let after = p.tasks_after task front in
    let stands : Stands earlier firsts begin task made.calls after (last_moment begin front) =
    subst (λ (calls : List Call). Stands earlier firsts begin task calls after (last_moment begin front)) (sym made.joined) made.stands in
    let behind : IsOrderlyFrom after (last_moment begin front) (numbered_calls after back) = orderly_back most_block_calls task begin cs run in
    let grown : made_by (earlier ++ block_of begin made.calls ∷ []) ≡ made_by earlier + 1 * length made.calls = made_from_one_more 0 earlier (block_of begin made.calls) in
    let next : 0 < length back → Behind (earlier ++ block_of begin made.calls ∷ []) (firsts ++ task ∷ []) (p.first_moment back) after × (p.first_moment back ≤ longest) =
    λ some. (
    let bounds = within_limit after (last_moment begin front) back some behind in
    (behind_block earlier firsts begin task (last_moment begin front) after made.calls here.0 stands (p.first_moment back) bounds.0, bounds.1)) in
    let rest = write_blocks n (earlier ++ block_of begin made.calls ∷ []) (firsts ++ task ∷ []) (p.first_moment back) after (last_moment begin front) back next (omega arith) behind (fit_back most_block_calls cs fit)
    (omega (arith, few, parts, tasks_after-le task front)) (omega (arith, total, grown, made.count, parts)) (omega (arith, left, most)) (omega (arith, left, least)) in
    record {
      blocks = block_of begin made.calls ∷ rest.blocks;
      writes = (writes_block earlier firsts begin task front made here.0.order here.1 few_here (omega (arith, total, parts)), rest.writes);
      same = blocks_same firsts begin task after made.calls rest.blocks (numbered_calls task front) (numbered_calls after back) (numbered_calls task cs) made.same (sym stands.tasks) rest.same (numbered_parts most_block_calls task cs);
    }

-- ---- the tree

-- the tree of these items
abbrev pub tree_at : Items → Members
tree_at items = with_member (codes "block") (array items) p.no_blocks

-- the tree of some blocks, and their plan
writes_tree : (items : Items) (tables : List Members) (blocks : PlanTree) → are_tables items ≡ true → HoldTables items tables → length tables ≤ 256 → WritesBlocks Two [] tables blocks → TreeWritesIn Two (tree_at items) blocks
unfolding top_checks
writes_tree items tables blocks are hold few writes = record {
  tables = tables;
  top = (
    refl,
    (
      refl,
      (
        (rw are refl, inl (items, refl, hold)),
        (
          few,
          tt,
        ),
      ),
    ),
  );
  blocks = writes;
}

writes_none : TreeWritesIn Two p.no_blocks []
unfolding top_checks
writes_none = record {
  tables = [];
  top = (
    refl,
    (
      refl,
      (
        (refl, inr (refl, refl)),
        (
          omega arith,
          tt,
        ),
      ),
    ),
  );
  blocks = tt;
}

enough : (n : ℕ) → n ≤ 256 * p.block_count n
enough n = let e = (div_ceil_times n 256 (omega arith)).0 in omega (arith, e)

no_more : (n : ℕ) → 256 * p.block_count n < n + 256
no_more n = let e = (div_ceil_times n 256 (omega arith)).1 in omega (arith, e)

few_blocks : (n : ℕ) → n ≤ 65536 → p.block_count n ≤ 256
few_blocks n few = omega (arith, few, no_more n)

-- the law on the tree of calls
pub tree_makes_calls : (calls : List MadeCall) → MayBePlanned calls → (plan : PlanTree) × TreeWritesIn Two (p.tree_of_calls calls) plan × MakesCalls plan calls
tree_makes_calls [] h = ([], writes_none, refl)
tree_makes_calls (c ∷ cs) h =
    let all = c ∷ cs in
    let n = p.block_count (length all) in
    let few : length all ≤ 65536 = rw (length-numbered 0 all) at h.0.0 in
    let start : 0 < length all → Behind [] [] 0 0 × (0 ≤ longest) = λ some. (record { known = refl; numbered = tt; counted = refl; order = omega arith }, omega arith) in
    let w = write_blocks n [] [] 0 0 0 all start (omega arith) h.0.1 h.1 (omega (arith, few)) (omega (arith, few)) (enough (length all)) (no_more (length all)) in
    let count : length (block_tables n 0 0 all) ≤ 256 = rw (length-block_tables n 0 0 all) (few_blocks (length all) few) in
    (w.blocks, writes_tree (p.block_items n 0 0 all) (block_tables n 0 0 all) w.blocks (blocks_are_tables n 0 0 all) (hold_blocks n 0 0 all) count w.writes, w.same)
