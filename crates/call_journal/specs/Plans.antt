-- The plan of calls that were made: the tree of its text, as `toml` prints it.
-- All of it is this project's rule.
use Rattle.std.specs.Prelude.{◌≡◌, ◌⊎◌, ◌<◌, ◌≤◌, ℕ, zero, suc, pos, ◌+◌, ◌-◌, ◌==◌, min, false, if◌then◌else◌, Bool, true, List, [], ◌∷◌, ◌++◌, length, take, drop, codes}
use Rattle.std.specs.Fmt.{decimal}
use Rattle.std.specs.Int.{div_ceil}
use Rattle.toml.specs.Data.{string, integer, boolean, array, table, Items, no_items, item, Members, no_members}
use Rattle.toml.specs.Text.{IsDocumentText}
use Rattle.sched_time.specs.declared.policies.Which.{Which}
use Rattle.sched_time.specs.declared.policies.Which.TheVariants.{Continue, Execute, Remove}
use Rattle.call_text.specs.declared.call.CallLine.{CallLine}
use Rattle.call_text.specs.declared.call.CallLine.TheVariants as call
use Rattle.plan_read.specs.declared.faults.PlanFault.{PlanFault}
use Rattle.plan_read.specs.declared.faults.PlanFaultKind.TheVariants.{TooLong, TooMany}
use Rattle.plan_read.specs.Keys.{unit_key}
use Rattle.plan_read.specs.Migrating.{with_member}
use Rattle.plan_read.specs.Plans.{most_calls, most_block_calls}
use Rattle.plan_read.specs.Reads.{out_of_memory}
use Rattle.plan_read.specs.Texts.{longest_text}
use Rattle.call_journal.specs.declared.journal.MadeCall.{MadeCall}

-- ---- tasks

-- a call submits a task
abbrev pub submits : CallLine → Bool
submits (call.Schedule delay) = true
submits call.Execute = true
submits (call.Rate first period) = true
submits (call.Fixed first delay) = true
submits _ = false

-- how many tasks there are after a call, where there are `task` before it
abbrev pub task_after : ℕ → CallLine → ℕ
task_after task c = if submits c then task + 1 else task

-- and after some calls
abbrev pub tasks_after : ℕ → List MadeCall → ℕ
tasks_after task [] = task
tasks_after task (c ∷ cs) = tasks_after (task_after task c.call) cs

-- ---- words

-- the name of a task, by its number
abbrev pub task_name : ℕ → List ℕ
task_name task = codes "t" ++ decimal task

-- the word of a policy
abbrev pub which_word : Which → List ℕ
which_word Continue = codes "continue"
which_word Execute = codes "execute"
which_word Remove = codes "remove"

-- ---- the table of a call

-- a number as a text of TOML has it: the greatest one, 2^63 - 1, in place of those above it, which no moment and no span is
abbrev pub written : ℕ → ℕ
written n = min n 9223372036854775807

-- a table with a span at a key, and nanoseconds as its unit
abbrev pub with_span : List ℕ → ℕ → Members → Members
with_span key nanos ms = with_member (unit_key key) (string (codes "ns")) (with_member key (integer (pos (written nanos))) ms)

-- a table with a moment or an offset at `at`, where it is not 0
abbrev pub with_offset : ℕ → Members → Members
with_offset nanos ms = if nanos == 0 then ms else with_span (codes "at") nanos ms

-- a table with the word of its operation
abbrev pub of_operation : List ℕ → Members
of_operation word = with_member (codes "op") (string word) no_members

-- and with the name of its task
abbrev pub on_task : List ℕ → ℕ → Members
on_task word task = with_member (codes "name") (string (task_name task)) (of_operation word)

-- what the table of each call has but for its offset, where `task` tasks were submitted before it
abbrev pub own_members : ℕ → CallLine → Members
own_members task (call.Schedule delay) = with_span (codes "delay") delay (on_task (codes "schedule") task)
own_members task call.Execute = on_task (codes "execute") task
own_members task (call.Rate first period) = with_span (codes "period") period (with_span (codes "first") first (on_task (codes "rate") task))
own_members task (call.Fixed first delay) = with_span (codes "delay") delay (with_span (codes "first") first (on_task (codes "fixed") task))
own_members task (call.Cancel other) = on_task (codes "cancel") other
own_members task (call.Policy which value) = with_member (codes "value") (boolean value) (with_member (codes "which") (string (which_word which)) (of_operation (codes "policy")))
own_members task call.Shutdown = of_operation (codes "shutdown")
own_members task call.ShutdownNow = of_operation (codes "shutdown_now")
own_members task call.Ask = of_operation (codes "ask")

-- the table of a call, in a block that begins at the moment `begin`
abbrev pub call_members : ℕ → ℕ → MadeCall → Members
call_members begin task made = with_offset (made.moment - begin) (own_members task made.call)

-- the tables of some calls
abbrev pub call_items : ℕ → ℕ → List MadeCall → Items
call_items begin task [] = no_items
call_items begin task (c ∷ cs) = item (table (call_members begin task c)) (call_items begin (task_after task c.call) cs)

-- ---- blocks

-- the table of a block
abbrev pub block_members : ℕ → ℕ → List MadeCall → Members
block_members begin task calls = with_offset begin (with_member (codes "call") (array (call_items begin task calls)) no_members)

-- the moment of the first of some calls, 0 where there is none
abbrev pub first_moment : List MadeCall → ℕ
first_moment [] = 0
first_moment (c ∷ cs) = c.moment

-- the tables of so many blocks: each has the next 256 calls, or those that are left, and each behind the first begins at the moment
-- of its first call
abbrev pub block_items : ℕ → ℕ → ℕ → List MadeCall → Items
block_items zero begin task calls = no_items
block_items (suc n) begin task calls =
    item (table (block_members begin task (take most_block_calls calls)))
    (block_items n (first_moment (drop most_block_calls calls)) (tasks_after task (take most_block_calls calls)) (drop most_block_calls calls))

-- how many blocks so many calls take
abbrev pub block_count : ℕ → ℕ
block_count n = div_ceil n most_block_calls

-- ---- the tree

-- a plan of version 2 with no block
abbrev pub no_blocks : Members
no_blocks = with_member (codes "version") (integer (pos 2)) no_members

-- The tree of the plan that makes these calls: the first block begins at 0, so that its calls have their own moments, and the tasks
-- are named by their numbers. Without a call there is no block.
abbrev pub tree_of_calls : List MadeCall → Members
tree_of_calls [] = no_blocks
tree_of_calls (c ∷ cs) = with_member (codes "block") (array (block_items (block_count (length (c ∷ cs))) 0 0 (c ∷ cs))) no_blocks

-- ---- faults

-- the text that is printed for the tree is longer than that of a plan
pub record PrintsTooLong (calls : List MadeCall) : Type 0 where
  pub printed : List ℕ
  pub prints : IsDocumentText false (tree_of_calls calls) printed
  pub long : longest_text < length printed

-- The fault of calls that have no text: `TooMany` exactly where there are more than a plan makes, and else `TooLong` or want of
-- memory.
abbrev pub TextFault : List MadeCall → PlanFault → Type 0
TextFault calls fault =
    ((most_calls < length calls) × (fault ≡ record { kind = TooMany; block = 0; call = 0 }))
    ⊎ ((length calls ≤ most_calls) × PrintsTooLong calls × (fault ≡ record { kind = TooLong; block = 0; call = 0 }))
    ⊎ ((length calls ≤ most_calls) × (fault ≡ out_of_memory))
