-- The run that each worker has under way, told by a history and by its lines.
use Rattle.std.proofs.Common.{◌≡◌, ℕ, ◌+◌, ◌-◌, ◌≤◌, ◌==◌, nat_lt, Bool, true, false, cond, List, [], ◌∷◌, ◌++◌, map, Option, Some, None, refl, sym, ap, ◌∙◌, subst, arith}
use Rattle.std.specs.Prelude.{slice_get, max, if◌then◌else◌}
use Rattle.std.specs.Option.{option_map_or}
use Rattle.std.proofs.lemmas.Bool.{false≢true, eqb-true, eq-eqb}
use Rattle.std.proofs.lemmas.Bool.Decides.{nat_tests}
use Rattle.std.proofs.lemmas.Option.{none-some, same_Some}
use Rattle.executor_model.specs.declared.types.EventError.TheVariants as x
use Rattle.executor_model.specs.declared.types.Happening.{Happening}
use Rattle.executor_model.specs.declared.types.Happening.TheVariants as h
use Rattle.executor_model.specs.declared.types.Answer.{Answer}
use Rattle.executor_model.specs.declared.types.Answer.TheVariants as a
use Rattle.executor_model.specs.declared.types.Line.{Line}
use Rattle.executor_model.specs.declared.types.Message.{Message}
use Rattle.executor_model.specs.declared.types.Message.TheVariants as m
use Rattle.queue_code.specs.Calls.{Planned, numbers}
use Rattle.executor_model.specs.View.{View, first_enabled}
use Rattle.executor_model.specs.Answers.{bare, reply, called, start_answer, finish_answer, moment_after, is_accepted, effect_on}
use Rattle.executor_model.specs.Histories.{HistoryEntry, IsHistoryOf, view_of_history, now_of, happenings, made, work_of, work_after, starts, finishes, is_start, is_finish}
use Rattle.executor_model.specs.Flows.{end_line, lines_at, lines_of, reply_in}
use Rattle.executor_laws.proofs.Replies.{IsOfCall, call_answer}
use Rattle.executor_laws.proofs.Places.{work_is_told}
use Rattle.executor_laws.proofs.Repeats.{started_so, waits_even}

-- ---- the run under way, by a history

-- the run of a worker after an answer: its task and its number
abbrev pub run_after : ℕ → Answer → Option (ℕ × ℕ) → Option (ℕ × ℕ)
run_after w (a.Start worker task run due) before = if worker == w then Some (task, run) else before
run_after w (a.Finish worker task run outcome) before = if worker == w then None else before
run_after w _ before = before

-- the run of a worker
abbrev pub run_of : ℕ → List HistoryEntry → Option (ℕ × ℕ)
run_of w [] = None
run_of w (e ∷ past) = run_after w e.answer (run_of w past)

-- its task is the work of the worker
abbrev task_of : Option (ℕ × ℕ) → Option ℕ
task_of None = None
task_of (Some run) = Some run.0

work_moves : (w : ℕ) (r : Answer) (q : Option (ℕ × ℕ)) → work_after w r (task_of q) ≡ task_of (run_after w r q)
work_moves w (a.Start u k n d) q =
    let by : (b : Bool) → cond b (Some k) (task_of q) ≡ task_of (cond b (Some (k, n)) q) = elim [ true ↦ refl | false ↦ refl ] in
    by (u == w)
work_moves w (a.Finish u k n o) q =
    let by : (b : Bool) → cond b None (task_of q) ≡ task_of (cond b None q) = elim [ true ↦ refl | false ↦ refl ] in
    by (u == w)
work_moves w r q = refl

work_of_run : (w : ℕ) (past : List HistoryEntry) → work_of w past ≡ task_of (run_of w past)
work_of_run w [] = refl
work_of_run w (e ∷ past) = ap (work_after w e.answer) (work_of_run w past) ∙ work_moves w e.answer (run_of w past)

no_task : (q : Option (ℕ × ℕ)) → task_of q ≡ None → q ≡ None
no_task None is = refl
no_task (Some run) is = absurd (none-some run.0 (sym is))

some_task : (q : Option (ℕ × ℕ)) (k : ℕ) → task_of q ≡ Some k → (n : ℕ) × (q ≡ Some (k, n))
some_task None k is = absurd (none-some k is)
some_task (Some run) k is = (run.1, ap (λ j. Some (j, run.1)) (same_Some run.0 k is))

-- ---- what an answer says of the worker's work before it

-- a start finds the worker free, and a finish finds its task
abbrev pub Told : ℕ → Option ℕ → Answer → Type 0
Told w work (a.Start worker task run due) = (worker == w) ≡ true → work ≡ None
Told w work (a.Finish worker task run outcome) = (worker == w) ≡ true → work ≡ Some task
Told w work _ = Unit {0}

entry_tells : (calls : List Planned) (workers : ℕ) (past : List HistoryEntry) (e : HistoryEntry) (w : ℕ) → IsHistoryOf calls workers (e ∷ past) → Told w (work_of w past) e.answer
entry_tells calls workers past e w m = subst (Told w (work_of w past)) (sym m.2) (work_is_told calls workers (view_of_history calls past) e.happening w)

-- ---- what a finish says of the number of its run

-- it is the last one that the task started
abbrev SaysRun : View → Answer → Type 0
SaysRun v (a.Finish worker task run outcome) = run ≡ (v.fate task).starts - 1
SaysRun v _ = Unit {0}

call_says : (v : View) (answer : Answer) → IsOfCall answer → SaysRun v answer
call_says v (a.Finish worker task run outcome) of = absurd of
call_says v _ of = tt

run_is_said : (calls : List Planned) (workers : ℕ) (v : View) (y : Happening) → SaysRun v (reply calls workers v y).answer
run_is_said calls workers v h.Call =
    let pick : (q : Option Planned) → SaysRun v (option_map_or (λ p. called calls (record v { moment = max v.moment p.0 }) p.1) q (bare a.Clock)).answer =
    elim [ None ↦ tt | Some p ↦ call_says v (called calls (record v { moment = max v.moment p.0 }) p.1).answer (call_answer calls (record v { moment = max v.moment p.0 }) p.1) ]
    in
    pick (slice_get calls v.made)
run_is_said calls workers v (h.Clock t) =
    let pick : (b c : Bool) → SaysRun v (cond b (a.Error x.Backward) (cond c (a.Error x.TooFar) a.Clock)) = elim [ true ↦ λ c. tt | false ↦ elim [ true ↦ tt | false ↦ tt ] ] in
    pick _ _
run_is_said calls workers v (h.Start u) =
    let first : (q : Option ℕ) → SaysRun v (start_answer v u q) = elim [ None ↦ tt | Some k ↦ tt ] in
    let pick : (b : Bool) (q : Option ℕ) → SaysRun v (cond b (option_map_or (λ _. a.Error x.Busy) q (start_answer v u (first_enabled v (numbers calls)))) (a.Error x.NoWorker)) =
    elim [ true ↦ elim [ None ↦ first (first_enabled v (numbers calls)) | Some k ↦ tt ] | false ↦ λ q. tt ]
    in
    pick (nat_lt u workers) (v.work u)
run_is_said calls workers v (h.Finish u ending) =
    let pick : (b : Bool) (q : Option ℕ) → SaysRun v (cond b (finish_answer calls v u ending q) (a.Error x.NoWorker)) =
    elim [ true ↦ elim [ None ↦ tt | Some k ↦ refl ] | false ↦ λ q. tt ]
    in
    pick (nat_lt u workers) (v.work u)
run_is_said calls workers v (h.Cancel k) =
    let pick : (b : Bool) → SaysRun v (cond b (a.Outside k (effect_on (v.fate k))) (a.Error x.NoTask)) = elim [ true ↦ tt | false ↦ tt ] in
    pick _
run_is_said calls workers v h.Purge = tt

finish_says : (calls : List Planned) (workers : ℕ) (past : List HistoryEntry) (e : HistoryEntry) (w k n : ℕ) → IsHistoryOf calls workers (e ∷ past) → SaysRun (view_of_history calls past) e.answer
finish_says calls workers past e w k n m = subst (SaysRun (view_of_history calls past)) (sym m.2) (run_is_said calls workers (view_of_history calls past) e.happening)

-- ---- the counts of a task whose run is under way

-- a run under way is the last one that its task started, and it is not finished; and it is of one worker alone
pub record AreUnderWay (past : List HistoryEntry) : Type 0 where
  pub started : (w k n : ℕ) → run_of w past ≡ Some (k, n) → starts k past ≡ n + 1
  pub unfinished : (w k n : ℕ) → run_of w past ≡ Some (k, n) → finishes k past ≡ n
  pub alone : (v w k n i : ℕ) → run_of v past ≡ Some (k, n) → run_of w past ≡ Some (k, i) → v ≡ w

-- an answer that starts no run, and finishes none
abbrev IsOther : Answer → Type 0
IsOther (a.Start worker task run due) = ⊥
IsOther (a.Finish worker task run outcome) = ⊥
IsOther _ = Unit {0}

other_starts : (k : ℕ) (r : Answer) → IsOther r → is_start k r ≡ false
other_starts k (a.Start u j n d) other = absurd other
other_starts k r other = refl

other_finishes : (k : ℕ) (r : Answer) → IsOther r → is_finish k r ≡ false
other_finishes k (a.Finish u j n o) other = absurd other
other_finishes k r other = refl

other_runs : (w : ℕ) (r : Answer) (q : Option (ℕ × ℕ)) → IsOther r → run_after w r q ≡ q
other_runs w (a.Start u j n d) q other = absurd other
other_runs w (a.Finish u j n o) q other = absurd other
other_runs w r q other = refl

counted : (b c : Bool) (n : ℕ) → b ≡ c → cond b (1 + n) n ≡ cond c (1 + n) n
counted b c n is = ap (λ t. cond t (1 + n) n) is

-- after another answer
under_other : (past : List HistoryEntry) (e : HistoryEntry) (r : Answer) → e.answer ≡ r → IsOther r → AreUnderWay past → AreUnderWay (e ∷ past)
under_other past e r is other before = record {
  started = λ w k n has. counted (is_start k e.answer) false (starts k past) (ap (is_start k) is ∙ other_starts k r other) ∙ before.started w k n (sym (same w) ∙ has);
  unfinished = λ w k n has. counted (is_finish k e.answer) false (finishes k past) (ap (is_finish k) is ∙ other_finishes k r other) ∙ before.unfinished w k n (sym (same w) ∙ has);
  alone = λ v w k n i one two. before.alone v w k n i (sym (same v) ∙ one) (sym (same w) ∙ two);
}
  where
    same : (w : ℕ) → run_of w (e ∷ past) ≡ run_of w past
    same w = ap (λ t. run_after w t (run_of w past)) is ∙ other_runs w r (run_of w past) other

-- the parts of a run that is one
parts_of : (one other : ℕ × ℕ) → Some one ≡ Some other → (one.0 ≡ other.0) × (one.1 ≡ other.1)
parts_of one other is = let both = same_Some one other is in (ap (λ r. r.0) both, ap (λ r. r.1) both)

-- after a start of a task that started as often as it finished
under_start : (past : List HistoryEntry) (e : HistoryEntry) (u j run due : ℕ) → e.answer ≡ a.Start u j run due → starts j past ≡ finishes j past → run ≡ starts j past → AreUnderWay past → AreUnderWay (e ∷ past)
under_start past e u j run due is even first before = record {
  started = λ w k n has. counted (is_start k e.answer) (j == k) (starts k past) (ap (is_start k) is) ∙ start_by w k n (u == w) (j == k) refl refl (sym (now w) ∙ has);
  unfinished = λ w k n has. counted (is_finish k e.answer) false (finishes k past) (ap (is_finish k) is) ∙ unfinished_by w k n (u == w) refl (sym (now w) ∙ has);
  alone = λ v w k n i one two. alone_by v w k n i (u == v) (u == w) refl refl (sym (now v) ∙ one) (sym (now w) ∙ two);
}
  where
    now : (w : ℕ) → run_of w (e ∷ past) ≡ cond (u == w) (Some (j, run)) (run_of w past)
    now w = ap (λ t. run_after w t (run_of w past)) is

    apart : (w k n : ℕ) → run_of w past ≡ Some (k, n) → j ≡ k → ⊥
    apart w k n has same = absurd (omega (arith, before.started w k n has, before.unfinished w k n has, even, ap (λ i. starts i past) same, ap (λ i. finishes i past) same))

    start_by : (w k n : ℕ) (b c : Bool) → (u == w) ≡ b → (j == k) ≡ c → cond b (Some (j, run)) (run_of w past) ≡ Some (k, n) → cond c (1 + starts k past) (starts k past) ≡ n + 1
    start_by w k n true true p q has = let both = parts_of (j, run) (k, n) has in omega (arith, both.1, first, ap (λ i. starts i past) both.0)
    start_by w k n true false p q has = let both = parts_of (j, run) (k, n) has in absurd (false≢true (sym q ∙ eq-eqb j k both.0))
    start_by w k n false true p q has = absurd (apart w k n has (eqb-true j k q))
    start_by w k n false false p q has = before.started w k n has

    unfinished_by : (w k n : ℕ) (b : Bool) → (u == w) ≡ b → cond b (Some (j, run)) (run_of w past) ≡ Some (k, n) → finishes k past ≡ n
    unfinished_by w k n true p has = let both = parts_of (j, run) (k, n) has in omega (arith, both.1, first, even, ap (λ i. finishes i past) both.0)
    unfinished_by w k n false p has = before.unfinished w k n has

    alone_by : (v w k n i : ℕ) (b c : Bool) → (u == v) ≡ b → (u == w) ≡ c → cond b (Some (j, run)) (run_of v past) ≡ Some (k, n) → cond c (Some (j, run)) (run_of w past) ≡ Some (k, i) → v ≡ w
    alone_by v w k n i true true p q one two = sym (eqb-true u v p) ∙ eqb-true u w q
    alone_by v w k n i true false p q one two = absurd (apart w k i two (parts_of (j, run) (k, n) one).0)
    alone_by v w k n i false true p q one two = absurd (apart v k n one (parts_of (j, run) (k, i) two).0)
    alone_by v w k n i false false p q one two = before.alone v w k n i one two

-- after a finish of a run under way
under_finish : (past : List HistoryEntry) (e : HistoryEntry) (u j run n : ℕ) (o : _) → e.answer ≡ a.Finish u j run o → run_of u past ≡ Some (j, n) → AreUnderWay past → AreUnderWay (e ∷ past)
under_finish past e u j run m o is ran before = record {
  started = λ w k n has. counted (is_start k e.answer) false (starts k past) (ap (is_start k) is) ∙ before.started w k n (other w k n (u == w) refl (sym (now w) ∙ has)).1;
  unfinished = λ w k n has.
      let old = other w k n (u == w) refl (sym (now w) ∙ has) in
      counted (is_finish k e.answer) false (finishes k past) (ap (is_finish k) is ∙ apart w k n old.0 old.1 (j == k) refl) ∙ before.unfinished w k n old.1;
  alone = λ v w k n i one two. before.alone v w k n i (other v k n (u == v) refl (sym (now v) ∙ one)).1 (other w k i (u == w) refl (sym (now w) ∙ two)).1;
}
  where
    now : (w : ℕ) → run_of w (e ∷ past) ≡ cond (u == w) None (run_of w past)
    now w = ap (λ t. run_after w t (run_of w past)) is

    other : (w k n : ℕ) (b : Bool) → (u == w) ≡ b → cond b None (run_of w past) ≡ Some (k, n) → ((u == w) ≡ false) × (run_of w past ≡ Some (k, n))
    other w k n true p has = absurd (none-some (k, n) has)
    other w k n false p has = (p, has)

    apart : (w k n : ℕ) → (u == w) ≡ false → run_of w past ≡ Some (k, n) → (b : Bool) → (j == k) ≡ b → b ≡ false
    apart w k n differ has true q = absurd (false≢true (sym differ ∙ eq-eqb u w (before.alone u w k m n (ran ∙ ap (λ i. Some (i, m)) (eqb-true j k q)) has)))
    apart w k n differ has false q = refl

pub under_way : (calls : List Planned) (workers : ℕ) (past : List HistoryEntry) → IsHistoryOf calls workers past → AreUnderWay past
under_way calls workers [] m = record { started = λ w k n has. absurd (none-some (k, n) has); unfinished = λ w k n has. absurd (none-some (k, n) has); alone = λ v w k n i one two. absurd (none-some (k, n) one) }
under_way calls workers (e ∷ past) m = by e.answer refl (under_way calls workers past m.0)
  where
    by : (r : Answer) → e.answer ≡ r → AreUnderWay past → AreUnderWay (e ∷ past)
    by (a.Start u j run due) is before =
        let said = started_so calls workers past e u j run due (record { later = []; means = m; start = is }) in
        under_start past e u j run due is (waits_even calls past j said.waiting) said.run before
    by (a.Finish u j run o) is before =
        let work : Told u (work_of u past) (a.Finish u j run o) = subst (Told u (work_of u past)) is (entry_tells calls workers past e u m) in
        let ran = some_task (run_of u past) j (sym (work_of_run u past) ∙ work (eq-eqb u u refl)) in
        under_finish past e u j run ran.0 o is ran.1 before
    by r is before = under_other past e r is tt before

-- ---- what an answer says of the worker's run before it

-- a start finds the worker with no run, and a finish is of its run
abbrev pub ToldRun : ℕ → Option (ℕ × ℕ) → Answer → Type 0
ToldRun w q (a.Start worker task run due) = (worker == w) ≡ true → q ≡ None
ToldRun w q (a.Finish worker task run outcome) = (worker == w) ≡ true → q ≡ Some (task, run)
ToldRun w q _ = Unit {0}

pub run_is_told : (calls : List Planned) (workers : ℕ) (past : List HistoryEntry) (e : HistoryEntry) (w : ℕ) → IsHistoryOf calls workers (e ∷ past) → ToldRun w (run_of w past) e.answer
run_is_told calls workers past e w m = subst (ToldRun w (run_of w past)) refl (by e.answer refl)
  where
    by : (r : Answer) → e.answer ≡ r → ToldRun w (run_of w past) r
    by (a.Start u j run due) is = λ same.
        let work : Told w (work_of w past) (a.Start u j run due) = subst (Told w (work_of w past)) is (entry_tells calls workers past e w m) in
        no_task (run_of w past) (sym (work_of_run w past) ∙ work same)
    by (a.Finish u j run o) is = λ same.
        let work : Told w (work_of w past) (a.Finish u j run o) = subst (Told w (work_of w past)) is (entry_tells calls workers past e w m) in
        let ran = some_task (run_of w past) j (sym (work_of_run w past) ∙ work same) in
        let says : SaysRun (view_of_history calls past) (a.Finish u j run o) = subst (SaysRun (view_of_history calls past)) is (finish_says calls workers past e w j run m) in
        let number : ran.0 ≡ run = omega (arith, says, (under_way calls workers past m.0).started w j ran.0 ran.1) in
        ran.1 ∙ ap (λ i. Some (j, i)) number
    by r is = tt

-- ---- the moment

-- now does not fall
rises : (now : ℕ) (call : Option Planned) (y : Happening) → now ≤ moment_after now call y
rises now None h.Call = omega arith
rises now (Some p) h.Call = omega arith
rises now call (h.Clock t) =
    let pick : (b : Bool) → is_accepted now t ≡ b → now ≤ cond b t now = elim [ true ↦ λ q. grind (arith, nat_tests) | false ↦ λ q. omega arith ] in
    pick (is_accepted now t) refl
rises now call (h.Start w) = omega arith
rises now call (h.Finish w ending) = omega arith
rises now call (h.Cancel k) = omega arith
rises now call h.Purge = omega arith

-- ---- lines that are in turn

-- the run of a worker after what a line says
abbrev pub run_said : ℕ → Message → Option (ℕ × ℕ) → Option (ℕ × ℕ)
run_said w (m.Answer r) before = run_after w r before
run_said w (m.End task) before = before

abbrev pub ToldBy : ℕ → Option (ℕ × ℕ) → Message → Type 0
ToldBy w q (m.Answer r) = ToldRun w q r
ToldBy w q (m.End task) = Unit {0}

-- the moments do not fall, and each start or finish by a worker is in turn, where this run of it is under way before
abbrev pub AreInTurn : ℕ → Option (ℕ × ℕ) → ℕ → List Line → Type 0
AreInTurn w q now [] = Unit {0}
AreInTurn w q now (line ∷ later) = (now ≤ line.moment) × ToldBy w q line.message × AreInTurn w (run_said w line.message q) line.moment later

-- the run, and the moment, behind lines
abbrev run_behind : ℕ → Option (ℕ × ℕ) → List Line → Option (ℕ × ℕ)
run_behind w q [] = q
run_behind w q (line ∷ later) = run_behind w (run_said w line.message q) later

abbrev moment_behind : ℕ → List Line → ℕ
moment_behind now [] = now
moment_behind now (line ∷ later) = moment_behind line.moment later

turn_append : (w : ℕ) (q : Option (ℕ × ℕ)) (now : ℕ) (xs ys : List Line) → AreInTurn w q now xs → AreInTurn w (run_behind w q xs) (moment_behind now xs) ys → AreInTurn w q now (xs ++ ys)
turn_append w q now [] ys p r = r
turn_append w q now (line ∷ xs) ys p r = (p.0, p.1, turn_append w (run_said w line.message q) line.moment xs ys p.2 r)

run_append : (w : ℕ) (q : Option (ℕ × ℕ)) (xs ys : List Line) → run_behind w q (xs ++ ys) ≡ run_behind w (run_behind w q xs) ys
run_append w q [] ys = refl
run_append w q (line ∷ xs) ys = run_append w (run_said w line.message q) xs ys

moment_append : (now : ℕ) (xs ys : List Line) → moment_behind now (xs ++ ys) ≡ moment_behind (moment_behind now xs) ys
moment_append now [] ys = refl
moment_append now (line ∷ xs) ys = moment_append line.moment xs ys

-- the ends of tasks, at one moment
ends_turn : (w : ℕ) (q : Option (ℕ × ℕ)) (moment : ℕ) (ends : List ℕ) → AreInTurn w q moment (map (end_line moment) ends)
ends_turn w q moment [] = tt
ends_turn w q moment (k ∷ ends) = (omega arith, tt, ends_turn w q moment ends)

ends_run : (w : ℕ) (q : Option (ℕ × ℕ)) (moment : ℕ) (ends : List ℕ) → run_behind w q (map (end_line moment) ends) ≡ q
ends_run w q moment [] = refl
ends_run w q moment (k ∷ ends) = ends_run w q moment ends

ends_moment : (moment : ℕ) (ends : List ℕ) → moment_behind moment (map (end_line moment) ends) ≡ moment
ends_moment moment [] = refl
ends_moment moment (k ∷ ends) = ends_moment moment ends

-- the lines of a history are in turn, and tell its runs and its moment
record AreHistoryLines (w now : ℕ) (ran : Option (ℕ × ℕ)) (lines : List Line) : Type 0 where
  pub turn : AreInTurn w None 0 lines
  pub run : run_behind w None lines ≡ ran
  pub moment : moment_behind 0 lines ≡ now

history_lines : (calls : List Planned) (workers : ℕ) (past : List HistoryEntry) (w : ℕ) → IsHistoryOf calls workers past → AreHistoryLines w (now_of calls (happenings past)) (run_of w past) (lines_of calls past)
history_lines calls workers [] w m = record { turn = tt; run = refl; moment = refl }
history_lines calls workers (e ∷ past) w m =
    let before = history_lines calls workers past w m.0 in
    let lines = lines_of calls past in
    let now = now_of calls (happenings past) in
    let new = now_of calls (happenings (e ∷ past)) in
    let here = lines_at new (reply_in e) in
    let up : now ≤ new = rises now (slice_get calls (made (happenings past))) e.happening in
    record {
      turn = turn_append w None 0 lines here before.turn
          (omega (arith, up, before.moment), subst (λ q. ToldRun w q e.answer) (sym before.run) (run_is_told calls workers past e w m), ends_turn w (run_after w e.answer (run_behind w None lines)) new e.ends);
      run = run_append w None lines here ∙ (ends_run w (run_after w e.answer (run_behind w None lines)) new e.ends ∙ ap (run_after w e.answer) before.run);
      moment = moment_append 0 lines here ∙ ends_moment new e.ends;
    }

pub in_turn : (calls : List Planned) (workers : ℕ) (past : List HistoryEntry) (w : ℕ) → IsHistoryOf calls workers past → AreInTurn w None 0 (lines_of calls past)
in_turn calls workers past w m = (history_lines calls workers past w m).turn
