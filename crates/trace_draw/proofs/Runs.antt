-- The runs of a task are numbered by its lines.
use Rattle.std.proofs.Common.{◌≡◌, ℕ, ◌+◌, ◌<◌, ◌≤◌, ◌==◌, Bool, true, false, cond, inl, inr, List, [], ◌∷◌, ◌++◌, map, Some, refl, sym, ap, ◌∙◌, subst, arith}
use Rattle.std.specs.Prelude.{slice_get}
use Rattle.std.proofs.lemmas.Bool.{eqb-true, eq-eqb}
use Rattle.std.proofs.lemmas.Option.{none-some}
use Rattle.executor_model.specs.declared.types.Answer.{Answer}
use Rattle.executor_model.specs.declared.types.Answer.TheVariants as a
use Rattle.executor_model.specs.declared.types.Line.{Line}
use Rattle.executor_model.specs.declared.types.Message.{Message}
use Rattle.executor_model.specs.declared.types.Message.TheVariants as m
use Rattle.queue_code.specs.Calls.{Planned}
use Rattle.executor_model.specs.Histories.{HistoryEntry, IsHistoryOf, now_of, happenings, starts, is_start}
use Rattle.executor_model.specs.Flows.{end_line, lines_at, lines_of, reply_in}
use Rattle.executor_laws.proofs.Repeats.{started_so}
use Rattle.trace_draw.specs.declared.bars.Bar.{Bar}
use Rattle.trace_draw.specs.Bars.{bar_in, bars_of}
use Rattle.trace_draw.specs.Laws.{NoRunHasTwoBars}
use Rattle.trace_draw.proofs.Lanes.{bar_at, two_at, start_said}

-- ---- lines whose runs are numbered

-- a start of the task is of the run of this number
abbrev IsRunOf : ℕ → ℕ → Answer → Type 0
IsRunOf k n (a.Start worker task run due) = (task == k) ≡ true → run ≡ n
IsRunOf k n _ = Unit {0}

abbrev SaysRunOf : ℕ → ℕ → Message → Type 0
SaysRunOf k n (m.Answer answer) = IsRunOf k n answer
SaysRunOf k n (m.End task) = Unit {0}

-- the number of the next run, after what a line says
abbrev next_run : ℕ → ℕ → Message → ℕ
next_run k n (m.Answer answer) = cond (is_start k answer) (1 + n) n
next_run k n (m.End task) = n

-- the runs of the task are numbered from this number on
abbrev AreNumbered : ℕ → ℕ → List Line → Type 0
AreNumbered k n [] = Unit {0}
AreNumbered k n (line ∷ later) = SaysRunOf k n line.message × AreNumbered k (next_run k n line.message) later

-- the number of the next run behind lines
abbrev run_behind : ℕ → ℕ → List Line → ℕ
run_behind k n [] = n
run_behind k n (line ∷ later) = run_behind k (next_run k n line.message) later

numbered_append : (k n : ℕ) (xs ys : List Line) → AreNumbered k n xs → AreNumbered k (run_behind k n xs) ys → AreNumbered k n (xs ++ ys)
numbered_append k n [] ys front rest = rest
numbered_append k n (line ∷ xs) ys front rest = (front.0, numbered_append k (next_run k n line.message) xs ys front.1 rest)

run_append : (k n : ℕ) (xs ys : List Line) → run_behind k n (xs ++ ys) ≡ run_behind k (run_behind k n xs) ys
run_append k n [] ys = refl
run_append k n (line ∷ xs) ys = run_append k (next_run k n line.message) xs ys

-- the ends of tasks start nothing
ends_numbered : (k n moment : ℕ) (ends : List ℕ) → AreNumbered k n (map (end_line moment) ends)
ends_numbered k n moment [] = tt
ends_numbered k n moment (task ∷ ends) = (tt, ends_numbered k n moment ends)

ends_run : (k n moment : ℕ) (ends : List ℕ) → run_behind k n (map (end_line moment) ends) ≡ n
ends_run k n moment [] = refl
ends_run k n moment (task ∷ ends) = ends_run k n moment ends

-- ---- the lines of a history

run_is_next : (calls : List Planned) (workers : ℕ) (past : List HistoryEntry) (e : HistoryEntry) (k : ℕ) → IsHistoryOf calls workers (e ∷ past) → IsRunOf k (starts k past) e.answer
run_is_next calls workers past e k means = by e.answer refl
  where
    by : (r : Answer) → e.answer ≡ r → IsRunOf k (starts k past) r
    by (a.Start u j run due) is = λ same. (started_so calls workers past e u j run due (record { later = []; means = means; start = is })).run ∙ ap (λ i. starts i past) (eqb-true j k same)
    by r is = tt

-- they number the runs of a task by its starts
record NumberRuns (k started : ℕ) (lines : List Line) : Type 0 where
  pub numbered : AreNumbered k 0 lines
  pub next : run_behind k 0 lines ≡ started

number_runs : (calls : List Planned) (workers : ℕ) (past : List HistoryEntry) (k : ℕ) → IsHistoryOf calls workers past → NumberRuns k (starts k past) (lines_of calls past)
number_runs calls workers [] k means = record { numbered = tt; next = refl }
number_runs calls workers (e ∷ past) k means =
    let before = number_runs calls workers past k means.0 in
    let lines = lines_of calls past in
    let now = now_of calls (happenings (e ∷ past)) in
    let here = lines_at now (reply_in e) in
    let after = next_run k (run_behind k 0 lines) (m.Answer e.answer) in
    record {
      numbered = numbered_append k 0 lines here before.numbered (subst (λ n. IsRunOf k n e.answer) (sym before.next) (run_is_next calls workers past e k means), ends_numbered k after now e.ends);
      next = run_append k 0 lines here ∙ (ends_run k after now e.ends ∙ ap (λ n. cond (is_start k e.answer) (1 + n) n) before.next);
    }

-- ---- bars

-- a line that starts a bar of the task: its run has the number, and the next run the one after
started : (k n : ℕ) (line : Line) (later : List Line) (bar : Bar) → SaysRunOf k n line.message → bar_in line.moment line.message later ≡ Some bar → bar.task ≡ k → (bar.run ≡ n) × (next_run k n line.message ≡ 1 + n)
started k n line later bar says is of =
    let said = start_said line later bar is in
    let same = eq-eqb bar.task k of in
    let run : IsRunOf k n (a.Start bar.worker bar.task bar.run bar.due) = subst (SaysRunOf k n) said says in
    (run same, ap (next_run k n) said ∙ ap (λ b. cond b (1 + n) n) same)

no_lower : (k n : ℕ) (message : Message) → n ≤ next_run k n message
no_lower k n (m.Answer answer) =
    let pick : (b : Bool) → n ≤ cond b (1 + n) n = elim [ true ↦ omega arith | false ↦ omega arith ] in
    pick (is_start k answer)
no_lower k n (m.End task) = omega arith

-- no bar of the task is of a run below the number
later_run : (k n : ℕ) (lines : List Line) (i : ℕ) (bar : Bar) → AreNumbered k n lines → slice_get (bars_of lines) i ≡ Some bar → bar.task ≡ k → n ≤ bar.run
later_run k n [] i bar numbered is of = absurd (none-some bar is)
later_run k n (line ∷ later) i bar numbered is of =
    elim (bar_at (bar_in line.moment line.message later) (bars_of later) i bar is) [
      | inl here ↦ omega (arith, (started k n line later bar numbered.0 here of).0)
      | inr there ↦ omega (arith, no_lower k n line.message, later_run k (next_run k n line.message) later there.0 bar numbered.1 there.1 of)
    ]

-- of two bars of the task the one that stands first is of a lower run
runs_rise : (k n : ℕ) (lines : List Line) (i j : ℕ) (one other : Bar) → AreNumbered k n lines → i < j → slice_get (bars_of lines) i ≡ Some one → slice_get (bars_of lines) j ≡ Some other →
    one.task ≡ k → other.task ≡ k → one.run < other.run
runs_rise k n [] i j one other numbered low is at of too = absurd (none-some one is)
runs_rise k n (line ∷ later) i j one other numbered low is at of too =
    elim (two_at (bar_in line.moment line.message later) (bars_of later) i j one other low is at) [
      | inl here ↦
          let first = started k n line later one numbered.0 here.0 of in
          omega (arith, first.0, first.1, later_run k (next_run k n line.message) later here.1.0 other numbered.1 here.1.1 too)
      | inr there ↦ runs_rise k (next_run k n line.message) later there.0 there.1.0 one other numbered.1 there.1.1 there.1.2 there.1.3 of too
    ]

pub no_run_has_two_bars : NoRunHasTwoBars
no_run_has_two_bars calls workers lines i j one other trace low is at task run =
    let numbered = subst (AreNumbered one.task 0) (sym trace.are) (number_runs calls workers trace.past one.task trace.means).numbered in
    absurd (omega (arith, run, runs_rise one.task 0 lines i j one other numbered low is at refl (sym task)))
