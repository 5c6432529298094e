-- Each line is shown once, but a purge.
use Rattle.std.proofs.Common.{◌≡◌, ℕ, ◌+◌, ◌==◌, Bool, true, false, cond, inl, inr, List, [], ◌∷◌, ◌++◌, length, Option, Some, None, refl, sym, ap, ◌∙◌, arith}
use Rattle.std.specs.Prelude.{slice_get, is_some, ◌&&◌, if◌then◌else◌}
use Rattle.std.specs.Option.{option_or}
use Rattle.std.specs.List.{cons_option}
use Rattle.std.proofs.lemmas.Bool.{eq-eqb}
use Rattle.executor_model.specs.declared.types.Answer.{Answer}
use Rattle.executor_model.specs.declared.types.Answer.TheVariants as a
use Rattle.executor_model.specs.declared.types.Line.{Line}
use Rattle.executor_model.specs.declared.types.Message.{Message}
use Rattle.executor_model.specs.declared.types.Message.TheVariants as m
use Rattle.queue_code.specs.Calls.{how_many}
use Rattle.executor_model.specs.Flows.{lines_of}
use Rattle.executor_laws.proofs.Lines.{lines_are_in_range}
use Rattle.trace_draw.specs.declared.bars.Bar.{Bar}
use Rattle.trace_draw.specs.declared.bars.Finish.{Finish}
use Rattle.trace_draw.specs.Bars.{finish_in, finish_of, bar_by, bar_in, bars_of}
use Rattle.trace_draw.specs.Marks.{is_mark, is_mark_by, marks_of}
use Rattle.trace_draw.specs.Laws.{BarsAreInLanes, start_line, tells_finish_by, finishes_some, tells_finish, tells_purge, LinesAreCounted, is_finished_of, FinishesAreCounted}
use Rattle.trace_draw.proofs.Turns.{run_said, AreInTurn}
use Rattle.trace_draw.proofs.Lanes.{FinishesHere, GoesOn, StartsHere, step, free_step, turn_of, bars_start}

-- ---- lines

counts_one_by : (moment : ℕ) (r : Answer) (line : Line) (later : List Line) (bars : List Bar) (f p : ℕ) (marks : List Line) →
    1 + (length bars + (f + (p + length marks)))
    ≡ length (cons_option (bar_by moment r later) bars) + (cond (finishes_some r) (1 + f) f + (cond (tells_purge (m.Answer r)) (1 + p) p + length (cond (is_mark_by r) (line ∷ marks) marks)))
counts_one_by moment (a.Start w k n d) line later bars f p marks = omega arith
counts_one_by moment (a.Finish w k n o) line later bars f p marks = omega arith
counts_one_by moment a.Purge line later bars f p marks = omega arith
counts_one_by moment r line later bars f p marks = omega arith

counts_one : (moment : ℕ) (message : Message) (line : Line) (later : List Line) (bars : List Bar) (f p : ℕ) (marks : List Line) →
    1 + (length bars + (f + (p + length marks)))
    ≡ length (cons_option (bar_in moment message later) bars) + (cond (tells_finish message) (1 + f) f + (cond (tells_purge message) (1 + p) p + length (cond (is_mark message) (line ∷ marks) marks)))
counts_one moment (m.Answer r) line later bars f p marks = counts_one_by moment r line later bars f p marks
counts_one moment (m.End task) line later bars f p marks = omega arith

pub lines_are_counted : LinesAreCounted
lines_are_counted [] = refl
lines_are_counted (line ∷ later) =
    omega (
      arith,
      lines_are_counted later,
      counts_one line.moment line.message line later (bars_of later) (how_many (λ l. tells_finish l.message) later) (how_many (λ l. tells_purge l.message) later) (marks_of later),
    )

-- ---- finishes

-- a finish is still to come of a run under way
abbrev open_count : Option (ℕ × ℕ) → Option Finish → ℕ
open_count None finish = 0
open_count (Some run) finish = if is_some finish then 1 else 0

-- a bar of another worker is not counted
not_counted : (w : ℕ) (b : Option Bar) (bars : List Bar) → ((bar : Bar) → b ≡ Some bar → (bar.worker == w) ≡ false) → how_many (is_finished_of w) (cons_option b bars) ≡ how_many (is_finished_of w) bars
not_counted w None bars apart = refl
not_counted w (Some bar) bars apart = ap (λ t. cond (t && is_some bar.finish) (1 + how_many (is_finished_of w) bars) (how_many (is_finished_of w) bars)) (apart bar refl)

counted_by : (b c : Bool) (n : ℕ) → b ≡ c → cond b (1 + n) n ≡ cond c (1 + n) n
counted_by b c n is = ap (λ t. cond t (1 + n) n) is

-- the run goes on
count_on : (w moment : ℕ) (q : Option (ℕ × ℕ)) (message : Message) (later : List Line) (f : ℕ) → GoesOn w moment q message →
    f ≡ how_many (is_finished_of w) (bars_of later) + open_count q (finish_of w later) →
    cond (tells_finish_by w message) (1 + f) f ≡ how_many (is_finished_of w) (cons_option (bar_in moment message later) (bars_of later)) + open_count q (option_or (finish_in w moment message) (finish_of w later))
count_on w moment q message later f on rest =
    omega (
      arith,
      counted_by (tells_finish_by w message) false f on.unfinished,
      rest,
      not_counted w (bar_in moment message later) (bars_of later) (on.apart later),
      ap (λ g. open_count q (option_or g (finish_of w later))) on.none,
    )

-- it finishes
count_finish : (w k n moment : ℕ) (message : Message) (later : List Line) (f : ℕ) → FinishesHere w k n moment message →
    f ≡ how_many (is_finished_of w) (bars_of later) + 0 →
    cond (tells_finish_by w message) (1 + f) f ≡ how_many (is_finished_of w) (cons_option (bar_in moment message later) (bars_of later)) + open_count (Some (k, n)) (option_or (finish_in w moment message) (finish_of w later))
count_finish w k n moment message later f here rest =
    omega (
      arith,
      counted_by (tells_finish_by w message) true f (ap (tells_finish_by w) here.said ∙ eq-eqb w w refl),
      rest,
      ap (λ s. how_many (is_finished_of w) (cons_option (bar_in moment s later) (bars_of later))) here.said,
      ap (λ g. open_count (Some (k, n)) (option_or g (finish_of w later))) here.found,
    )

-- a run of the worker starts
started_count : (b : Bool) (finish : Option Finish) (n : ℕ) → b ≡ true → cond (b && is_some finish) (1 + n) n ≡ n + (if is_some finish then 1 else 0)
started_count b finish n is = ap (λ t. cond (t && is_some finish) (1 + n) n) is ∙ by finish
  where
    by : (finish : Option Finish) → cond (is_some finish) (1 + n) n ≡ n + (if is_some finish then 1 else 0)
    by None = omega arith
    by (Some f) = omega arith

count_start : (w moment : ℕ) (message : Message) (later : List Line) (f : ℕ) → (here : StartsHere w message) →
    f ≡ how_many (is_finished_of w) (bars_of later) + open_count (Some (here.task, here.run)) (finish_of w later) →
    cond (tells_finish_by w message) (1 + f) f ≡ how_many (is_finished_of w) (cons_option (bar_in moment message later) (bars_of later)) + 0
count_start w moment message later f here rest =
    omega (
      arith,
      counted_by (tells_finish_by w message) false f (ap (tells_finish_by w) here.said),
      rest,
      ap (λ s. how_many (is_finished_of w) (cons_option (bar_in moment s later) (bars_of later))) here.said,
      started_count (w == w) (finish_of w later) (how_many (is_finished_of w) (bars_of later)) (eq-eqb w w refl),
    )

count_turn : (w : ℕ) (q : Option (ℕ × ℕ)) (now : ℕ) (lines : List Line) → AreInTurn w q now lines →
    how_many (λ line. tells_finish_by w line.message) lines ≡ how_many (is_finished_of w) (bars_of lines) + open_count q (finish_of w lines)
count_turn w None now [] turn = refl
count_turn w (Some run) now [] turn = refl
count_turn w None now (line ∷ later) turn =
    elim (free_step w line.moment line.message turn.1) [
      | inl here ↦
          let run : run_said w line.message None ≡ Some (here.task, here.run) = ap (λ s. run_said w s None) here.said ∙ ap (λ b. cond b (Some (here.task, here.run)) None) (eq-eqb w w refl) in
          count_start w line.moment line.message later (how_many (λ l. tells_finish_by w l.message) later) here (count_turn w (run_said w line.message None) line.moment later turn.2 ∙ ap (λ r. how_many (is_finished_of w) (bars_of later) + open_count r (finish_of w later)) run)
      | inr on ↦ count_on w line.moment None line.message later (how_many (λ l. tells_finish_by w l.message) later) on
          (count_turn w (run_said w line.message None) line.moment later turn.2 ∙ ap (λ r. how_many (is_finished_of w) (bars_of later) + open_count r (finish_of w later)) on.same)
    ]
count_turn w (Some run) now (line ∷ later) turn =
    elim (step w run.0 run.1 line.moment line.message turn.1) [
      | inl here ↦ count_finish w run.0 run.1 line.moment line.message later (how_many (λ l. tells_finish_by w l.message) later) here
          (count_turn w (run_said w line.message (Some run)) line.moment later turn.2 ∙ ap (λ r. how_many (is_finished_of w) (bars_of later) + open_count r (finish_of w later)) here.none)
      | inr on ↦ count_on w line.moment (Some run) line.message later (how_many (λ l. tells_finish_by w l.message) later) on
          (count_turn w (run_said w line.message (Some run)) line.moment later turn.2 ∙ ap (λ r. how_many (is_finished_of w) (bars_of later) + open_count r (finish_of w later)) on.same)
    ]

pub finishes_are_counted : FinishesAreCounted
finishes_are_counted calls workers lines w trace = omega (arith, count_turn w None 0 lines (turn_of calls workers lines w trace))

-- ---- lanes

pub got_behind : (before later : List Line) (line : Line) → slice_get (before ++ line ∷ later) (length before) ≡ Some line
got_behind [] later line = refl
got_behind (x ∷ before) later line = got_behind before later line

pub bars_are_in_lanes : BarsAreInLanes
bars_are_in_lanes calls workers lines i bar orderly trace is =
    let start = bars_start lines i bar is in
    let there : slice_get (lines_of calls trace.past) (length start.before) ≡ Some (start_line bar) =
    ap (λ ls. slice_get ls (length start.before)) (sym trace.are ∙ start.parts) ∙ got_behind start.before start.later (start_line bar) in
    (lines_are_in_range calls workers trace.past (length start.before) (start_line bar) orderly trace.means there).1.0
