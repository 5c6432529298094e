use Rattle.std.proofs.Common.{◌≡◌, ℕ, List, ◌<◌, get_or, ◌+◌, ◌++◌, ◌∷◌, length, take, drop, subst, arith}
use Rattle.queue_code.specs.declared.instr.Instr.{Instr}
use Rattle.plan_read.specs.Plans.{BlockTree, PlanTree}
use Rattle.plan_compile.specs.PlanCode.{block_instrs}
use Rattle.plan_compile.proofs.Emission.{BlocksToEmit, next_block, past_block, block_in_range, numbers_in_range, block_emitted}
use Rattle.plan_compile.proofs.emitting.emit.Goals as goal

-- the blocks that are left begin with the next one
begins : (bs : PlanTree) (i first : ℕ) (firsts : List ℕ) (out : List Instr) (b : BlockTree) → i < length bs → b ≡ get_or bs i b
    → BlocksToEmit bs (take i bs) (drop i bs) firsts first out → BlocksToEmit bs (take i bs) (b ∷ drop (i + 1) bs) firsts first out
begins bs i first firsts out b within is left = subst (λ (rest : PlanTree). BlocksToEmit bs (take i bs) rest firsts first out) (next_block bs i b within is) left

pub emit_block-requires : goal.emit_block-requires
emit_block-requires g c =
    let bs = c.args.blocks.now in
    let l = c.loop-block in
    let left = begins bs l.block-index l.first l.firsts.items l.out.items c.block-item.result c.loop-block-test.true c.block-item.is l.invariant in
    rw c.as_slice.ensures.value (block_in_range bs (take l.block-index bs) (drop (l.block-index + 1) bs) l.firsts.items l.first l.out.items c.block-item.result left)

pub overflow_mul-first : goal.overflow_mul-first
overflow_mul-first g c =
    let bs = c.args.blocks.now in
    let l = c.loop-block in
    let left = begins bs l.block-index l.first l.firsts.items l.out.items c.block-item.result c.loop-block-test.true c.block-item.is l.invariant in
    rw (c.times.ensures, c.tasks_of.ensures, c.calls.ensures) (omega (arith, numbers_in_range bs (take l.block-index bs) (drop (l.block-index + 1) bs) l.firsts.items l.first l.out.items c.block-item.result left))

pub overflow_add-first : goal.overflow_add-first
overflow_add-first g c =
    let bs = c.args.blocks.now in
    let l = c.loop-block in
    let left = begins bs l.block-index l.first l.firsts.items l.out.items c.block-item.result c.loop-block-test.true c.block-item.is l.invariant in
    rw (c.times.ensures, c.tasks_of.ensures, c.calls.ensures) (omega (arith, numbers_in_range bs (take l.block-index bs) (drop (l.block-index + 1) bs) l.firsts.items l.first l.out.items c.block-item.result left))

pub loop-block-preserved : goal.loop-block-preserved
loop-block-preserved g c =
    let bs = c.args.blocks.now in
    let l = c.loop-block in
    let b = c.block-item.result in
    let left = begins bs l.block-index l.first l.firsts.items l.out.items b c.loop-block-test.true c.block-item.is l.invariant in
    let more = block_emitted bs (take l.block-index bs) (drop (l.block-index + 1) bs) l.firsts.items l.first l.out.items b left in
    let instrs : c.emit_block.new.out.items ≡ l.out.items ++ block_instrs l.firsts.items l.first b.header b.calls =
    subst (λ (firsts : List ℕ). c.emit_block.new.out.items ≡ l.out.items ++ block_instrs firsts l.first b.header b.calls) c.as_slice.ensures.value c.in_ok-emit_block.ensures in
    rw (past_block bs l.block-index b c.loop-block-test.true c.block-item.is, c.in_ok-push.ensures.items, c.times.ensures, c.tasks_of.ensures, c.calls.ensures, instrs) more
