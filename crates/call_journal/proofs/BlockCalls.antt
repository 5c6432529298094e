-- The tables of a block's calls write the calls of a block of a plan, which are those that were made.
use Rattle.std.proofs.Common.{◌≡◌, ◌<◌, ◌≤◌, ◌+◌, ◌-◌, ◌^◌, ℕ, suc, true, List, [], ◌∷◌, ◌++◌, length, Some, None, append_assoc, length-append, refl, sym, subst, ap, ◌∙◌, arith}
use Rattle.std.specs.Prelude.{slice_get}
use Rattle.std.specs.List.{AllByRecursion}
use Rattle.std.proofs.lemmas.List.{append-nil}
use Rattle.std.proofs.lemmas.Option.{slice_get_past}
use Rattle.toml.specs.Data.{Members}
use Rattle.queue_code.specs.Calls.{Planned, count_after, IsOrderlyFrom}
use Rattle.call_text.specs.Spelling.{FitsCall}
use Rattle.call_text.specs.declared.call.CallLine.{CallLine}
use Rattle.call_text.specs.declared.call.CallLine.TheVariants as call
use Rattle.plan_read.specs.declared.plans.Call.{Call}
use Rattle.plan_read.specs.declared.sites.Site.{Site}
use Rattle.plan_read.specs.declared.versions.Version.TheVariants.{Two}
use Rattle.plan_read.specs.Keys.{are_tables}
use Rattle.plan_read.specs.Plans.{PlanTree, name_of, named, site, submissions_before, tasks_after_calls, last_offset}
use Rattle.plan_read.specs.Writes.{HoldTables, WritesCalls}
use Rattle.plan_read.proofs.Naming.{before-one_more}
use Rattle.plan_compile.specs.PlanCalls.{code_call, calls_at}
use Rattle.plan_compile.proofs.Ordering.{last_offset-one_more, count_next}
use Rattle.call_journal.specs.Plans as p
use Rattle.call_journal.specs.MadeCalls.{code_of, numbered_calls}
use Rattle.call_journal.specs.declared.journal.MadeCall.{MadeCall}
use Rattle.call_journal.proofs.Numbered.{IsNumbered, AreNumbered, numbered_more}
use Rattle.call_journal.proofs.WrittenCalls.{op_of_line, aims, same_call, same_count, head_at, plan_call, writes_call}

-- ---- the tables of calls

-- the spans of each call are in range
abbrev pub AllFit : List MadeCall → Type 0
AllFit calls = AllByRecursion (λ (c : MadeCall). FitsCall c.call) calls

-- their tables
abbrev pub call_tables : ℕ → ℕ → List MadeCall → List Members
call_tables begin task [] = []
call_tables begin task (c ∷ cs) = p.call_members begin task c ∷ call_tables begin (p.task_after task c.call) cs

pub hold_calls : (begin task : ℕ) (cs : List MadeCall) → HoldTables (p.call_items begin task cs) (call_tables begin task cs)
hold_calls begin task [] = tt
hold_calls begin task (c ∷ cs) = (refl, hold_calls begin (p.task_after task c.call) cs)

pub calls_are_tables : (begin task : ℕ) (cs : List MadeCall) → are_tables (p.call_items begin task cs) ≡ true
calls_are_tables begin task [] = refl
calls_are_tables begin task (c ∷ cs) = calls_are_tables begin (p.task_after task c.call) cs

pub length-call_tables : (begin task : ℕ) (cs : List MadeCall) → length (call_tables begin task cs) ≡ length cs
length-call_tables begin task [] = refl
length-call_tables begin task (c ∷ cs) = rw (length-call_tables begin (p.task_after task c.call) cs) refl

-- ---- the calls of a block

-- a call counts the task that it submits
pub call_counts : (task : ℕ) (c : CallLine) → count_after task (code_of task c) ≡ p.task_after task c
call_counts task (call.Cancel other) = refl
call_counts task (call.Schedule delay) = refl
call_counts task call.Execute = refl
call_counts task (call.Rate first period) = refl
call_counts task (call.Fixed first delay) = refl
call_counts task (call.Policy which value) = refl
call_counts task call.Shutdown = refl
call_counts task call.ShutdownNow = refl
call_counts task call.Ask = refl

-- they are as many
pub length-numbered : (task : ℕ) (cs : List MadeCall) → length (numbered_calls task cs) ≡ length cs
length-numbered task [] = refl
length-numbered task (c ∷ cs) = ap suc (length-numbered (p.task_after task c.call) cs)

-- how the calls of a block that begins at `begin` stand behind those before them, where `task` tasks were submitted, and the last of
-- the calls was at the moment `moment` at the latest
pub record Stands (earlier : PlanTree) (firsts : List ℕ) (begin start : ℕ) (before : List Call) (task moment : ℕ) : Type 0 where
  pub known : length firsts ≡ length earlier
  pub numbered : AreNumbered firsts start 0 (submissions_before earlier (head_at begin) before)
  pub counted : length (submissions_before earlier (head_at begin) before) ≡ task
  pub tasks : task ≡ start + tasks_after_calls 0 before
  pub order : begin + last_offset before ≤ moment

submits_new : (earlier : PlanTree) (firsts : List ℕ) (begin start : ℕ) (before : List Call) (task moment : ℕ) (w : Stands earlier firsts begin start before task moment)
    → IsNumbered firsts start (0 + length (submissions_before earlier (head_at begin) before)) (p.task_name task, site (length earlier) (head_at begin) (tasks_after_calls 0 before))
submits_new earlier firsts begin start before task moment w =
    let past : slice_get firsts (length earlier) ≡ None = slice_get_past firsts (length earlier) (omega (arith, w.known)) in
    let e : 0 + length (submissions_before earlier (head_at begin) before) ≡ task = omega (arith, w.counted) in
    record {
      named = rw e refl;
      once = refl;
      number = rw (past, e) (sym w.tasks);
      near = omega (arith, w.known);
    }

-- the submissions with one call more
record Grows (firsts : List ℕ) (start : ℕ) (subs : List (List ℕ × Site)) (task : ℕ) : Type 0 where
  numbered : AreNumbered firsts start 0 subs
  counted : length subs ≡ task

grows_named : (firsts : List ℕ) (start : ℕ) (subs : List (List ℕ × Site)) (task : ℕ) (s : Site) → AreNumbered firsts start 0 subs → length subs ≡ task → IsNumbered firsts start (0 + length subs) (p.task_name task, s)
    → Grows firsts start (subs ++ named s (Some (p.task_name task))) (task + 1)
grows_named firsts start subs task s are count is = record {
  numbered = numbered_more firsts start 0 subs (p.task_name task, s) are is;
  counted = omega (arith, length-append subs ((p.task_name task, s) ∷ []), count);
}

grows_unnamed : (firsts : List ℕ) (start : ℕ) (subs : List (List ℕ × Site)) (task : ℕ) (s : Site) → AreNumbered firsts start 0 subs → length subs ≡ task → Grows firsts start (subs ++ named s None) task
grows_unnamed firsts start subs task s are count = rw (append-nil subs) (record { numbered = are; counted = count })

grows : (firsts : List ℕ) (start : ℕ) (subs : List (List ℕ × Site)) (task : ℕ) (s aim : Site) (c : CallLine) → AreNumbered firsts start 0 subs → length subs ≡ task → IsNumbered firsts start (0 + length subs) (p.task_name task, s)
    → Grows firsts start (subs ++ named s (name_of (op_of_line aim.target task c))) (p.task_after task c)
grows firsts start subs task s aim (call.Schedule delay) are count is = grows_named firsts start subs task s are count is
grows firsts start subs task s aim call.Execute are count is = grows_named firsts start subs task s are count is
grows firsts start subs task s aim (call.Rate first period) are count is = grows_named firsts start subs task s are count is
grows firsts start subs task s aim (call.Fixed first delay) are count is = grows_named firsts start subs task s are count is
grows firsts start subs task s aim (call.Cancel other) are count is = grows_unnamed firsts start subs task s are count
grows firsts start subs task s aim (call.Policy which value) are count is = grows_unnamed firsts start subs task s are count
grows firsts start subs task s aim call.Shutdown are count is = grows_unnamed firsts start subs task s are count
grows firsts start subs task s aim call.ShutdownNow are count is = grows_unnamed firsts start subs task s are count
grows firsts start subs task s aim call.Ask are count is = grows_unnamed firsts start subs task s are count

-- one call more
stands_more : (earlier : PlanTree) (firsts : List ℕ) (begin start : ℕ) (before : List Call) (task moment : ℕ) (aim : Site) (c : MadeCall) → Stands earlier firsts begin start before task moment
    → begin ≤ c.moment → Stands earlier firsts begin start (before ++ plan_call begin aim task c ∷ []) (p.task_after task c.call) c.moment
stands_more earlier firsts begin start before task moment aim c w begun =
    let new = plan_call begin aim task c in
    let g = grows firsts start (submissions_before earlier (head_at begin) before) task (site (length earlier) (head_at begin) (tasks_after_calls 0 before)) aim c.call w.numbered w.counted (submits_new earlier firsts begin start before task moment w) in
    let more = before-one_more earlier (head_at begin) before new in
    record {
      known = w.known;
      numbered = rw more g.numbered;
      counted = rw more g.counted;
      tasks = sym (same_count aim.target task task c.call) ∙ count_next start task before new w.tasks;
      order = omega (arith, last_offset-one_more 0 before new, begun);
    }

-- the last moment of some calls, and one that is given where there is none
abbrev pub last_moment : ℕ → List MadeCall → ℕ
last_moment moment [] = moment
last_moment moment (c ∷ cs) = last_moment c.moment cs

-- what the tables of a block's calls write
pub record WritesMade (earlier : PlanTree) (firsts : List ℕ) (begin start : ℕ) (before : List Call) (task moment : ℕ) (cs : List MadeCall) : Type 0 where
  pub calls : List Call
  pub all : List Call
  pub joined : before ++ calls ≡ all
  pub writes : WritesCalls Two earlier (head_at begin) before (call_tables begin task cs) calls
  pub same : calls_at firsts begin start task calls ≡ numbered_calls task cs
  pub count : length calls ≡ length cs
  pub stands : Stands earlier firsts begin start all (p.tasks_after task cs) (last_moment moment cs)

-- a call submits one task at most
pub task_after-le : (task : ℕ) (c : CallLine) → p.task_after task c ≤ task + 1
task_after-le task (call.Cancel other) = omega arith
task_after-le task (call.Schedule delay) = omega arith
task_after-le task call.Execute = omega arith
task_after-le task (call.Rate first period) = omega arith
task_after-le task (call.Fixed first delay) = omega arith
task_after-le task (call.Policy which value) = omega arith
task_after-le task call.Shutdown = omega arith
task_after-le task call.ShutdownNow = omega arith
task_after-le task call.Ask = omega arith

-- the call that is written is the one that was made, and those behind it are
made_same : (firsts : List ℕ) (begin start task : ℕ) (s : Site) (c : MadeCall) (calls : List Call) (rest : List Planned) → begin ≤ c.moment
    → code_call firsts start task (op_of_line s.target task c.call) ≡ code_of task c.call → calls_at firsts begin start (p.task_after task c.call) calls ≡ rest
    → calls_at firsts begin start task (plan_call begin s task c ∷ calls) ≡ (c.moment, code_of task c.call) ∷ rest
made_same firsts begin start task s c calls rest begun one behind =
    let moment : begin + (c.moment - begin) ≡ c.moment = omega (arith, begun) in
    rw (moment, one, same_count s.target task task c.call, behind) refl

pub write_calls : (earlier : PlanTree) (firsts : List ℕ) (begin start : ℕ) (before : List Call) (task moment : ℕ) (cs : List MadeCall) → Stands earlier firsts begin start before task moment
    → IsOrderlyFrom task moment (numbered_calls task cs) → AllFit cs → task + length cs ≤ 65536 → WritesMade earlier firsts begin start before task moment cs
write_calls earlier firsts begin start before task moment [] w orderly fit few =
    record { calls = []; all = before; joined = append-nil before; writes = tt; same = refl; count = refl; stands = w }
write_calls earlier firsts begin start before task moment (c ∷ cs) w orderly fit few =
    let begun : begin ≤ c.moment = omega (arith, w.order, orderly.0) in
    let order : begin + last_offset before ≤ c.moment = omega (arith, w.order, orderly.0) in
    let small : task < 2 ^ 32 = omega (arith, few) in
    let aim = aims firsts start task (submissions_before earlier (head_at begin) before) c.call w.numbered w.counted small orderly.2 in
    let new = plan_call begin aim.0 task c in
    let one = writes_call earlier firsts begin start task before aim.0 c w.numbered w.counted small fit.0 aim.1 begun orderly.1 order in
    let behind : IsOrderlyFrom (p.task_after task c.call) c.moment (numbered_calls (p.task_after task c.call) cs) =
    subst (λ (n : ℕ). IsOrderlyFrom n c.moment (numbered_calls (p.task_after task c.call) cs)) (call_counts task c.call) orderly.3 in
    let rest = write_calls earlier firsts begin start (before ++ new ∷ []) (p.task_after task c.call) c.moment cs (stands_more earlier firsts begin start before task moment aim.0 c w begun)
    behind fit.1 (omega (arith, few, task_after-le task c.call)) in
    record {
      calls = new ∷ rest.calls;
      all = rest.all;
      joined = sym (append_assoc before (new ∷ []) rest.calls) ∙ rest.joined;
      writes = (one, rest.writes);
      same = made_same firsts begin start task aim.0 c rest.calls (numbered_calls (p.task_after task c.call) cs) begun (same_call firsts start task (submissions_before earlier (head_at begin) before) aim.0 c.call aim.1) rest.same;
      count = rw rest.count refl;
      stands = rest.stands;
    }
