-- Values pushed one after another, beside the items that a definition has: those so far, and those to come.
use Rattle.std.proofs.Common.{◌≡◌, ◌<◌, ◌≤◌, ℕ, suc, ◌+◌, List, [], ◌∷◌, ◌++◌, length, get_or, take, drop, BTreeMap, String, Global, refl, sym, ap, ◌∙◌, inl, inr, arith}
use Rattle.std.proofs.lemmas.Bool.{cases_Bool}
use Rattle.std.proofs.lemmas.List.{drop_more}
use Rattle.toml.proofs.Views.{view-Table}
use Rattle.toml.specs.Data.{Data, table, Items, no_items, item}
use Rattle.toml.specs.View.{view, items_view, table_view}
use Rattle.toml.specs.declared.value.Value.{Value, Table as TableCase}
use Rattle.plan_read.specs.Plans.{most_block_calls}
use Rattle.plan_read.proofs.MigratingTables.{joined}
use Rattle.call_text.specs.declared.call.CallLine.{CallLine}
use Rattle.call_journal.specs.declared.journal.MadeCall.{MadeCall}
use Rattle.call_journal.specs.Plans.{submits, task_after, tasks_after, call_members, call_items, block_members, first_moment, block_items}

-- a table of toml
abbrev pub Tree : Type 0
Tree = BTreeMap (String Global) Value

-- nothing is to come
pub joined_nothing : (ds : Items) → joined ds no_items ≡ ds
joined_nothing no_items = refl
joined_nothing (item d ds) = ap (item d) (joined_nothing ds)

-- the next item is pushed as a value
pub one_value : (done : List Value) (v : Value) (d : Data) (rest : Items) → view v ≡ d → joined (items_view (done ++ v ∷ [])) rest ≡ joined (items_view done) (item d rest)
one_value [] v d rest h = ap (λ (e : Data). item e rest) h
one_value (x ∷ xs) v d rest h = ap (item (view x)) (one_value xs v d rest h)

-- a call submits one task at most
task_after-le : (task : ℕ) (c : CallLine) → task_after task c ≤ task + 1
task_after-le task c =
    elim (cases_Bool (submits c)) [
      | inl t ↦ rw t (omega arith)
      | inr f ↦ rw f (omega arith)
    ]

-- so there are no more tasks than calls
pub few_after : (task first i after : ℕ) (c : CallLine) → after ≡ task_after task c → task ≤ first + i → after ≤ first + (i + 1)
few_after task first i after c is few = let one = task_after-le task c in omega arith

-- the table of the next call is pushed
pub one_call : (begin task : ℕ) (all : Items) (cs : List MadeCall) (i : ℕ) (c : MadeCall) (done : List Value) (t : Tree) → i < length cs → table_view t ≡ call_members begin task (get_or cs i c)
    → joined (items_view done) (call_items begin task (drop i cs)) ≡ all → joined (items_view (done ++ TableCase t ∷ [])) (call_items begin (task_after task (get_or cs i c).call) (drop (i + 1) cs)) ≡ all
one_call begin task all cs i c done t within made so_far =
    one_value done (TableCase t) (table (call_members begin task (get_or cs i c))) (call_items begin (task_after task (get_or cs i c).call) (drop (i + 1) cs)) (view-Table t ∙ ap table made)
    ∙ sym (ap (λ (rest : List MadeCall). joined (items_view done) (call_items begin task rest)) (drop_more cs i c within))
    ∙ so_far

-- the table of the next block is pushed
pub one_block : (n begin task : ℕ) (all : Items) (rest : List MadeCall) (done : List Value) (t : Tree) → table_view t ≡ block_members begin task (take most_block_calls rest)
    → joined (items_view done) (block_items (suc n) begin task rest) ≡ all
    → joined (items_view (done ++ TableCase t ∷ [])) (block_items n (first_moment (drop most_block_calls rest)) (tasks_after task (take most_block_calls rest)) (drop most_block_calls rest)) ≡ all
one_block n begin task all rest done t made so_far =
    one_value done (TableCase t) (table (block_members begin task (take most_block_calls rest))) _ (view-Table t ∙ ap table made)
    ∙ so_far
