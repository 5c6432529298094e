-- The bars of lines that are in turn.
use Rattle.std.proofs.Common.{zero, suc, ◌≡◌, ℕ, ◌<◌, ◌≤◌, ◌==◌, Bool, true, false, cond, ◌⊎◌, inl, inr, List, [], ◌∷◌, ◌++◌, Option, Some, None, refl, sym, ap, ◌∙◌, subst, arith}
use Rattle.std.specs.Prelude.{slice_get}
use Rattle.std.specs.Option.{option_or}
use Rattle.std.specs.List.{cons_option}
use Rattle.std.proofs.lemmas.Bool.{false≢true, eqb-true, eq-eqb}
use Rattle.std.proofs.lemmas.Option.{none-some, same_Some}
use Rattle.executor_model.specs.declared.types.Answer.{Answer}
use Rattle.executor_model.specs.declared.types.Answer.TheVariants as a
use Rattle.executor_model.specs.declared.types.Line.{Line}
use Rattle.executor_model.specs.declared.types.Message.{Message}
use Rattle.executor_model.specs.declared.types.Message.TheVariants as m
use Rattle.executor_model.specs.declared.types.Outcome.{Outcome}
use Rattle.queue_code.specs.Calls.{Planned}
use Rattle.executor_model.specs.Flows.{answer_line}
use Rattle.trace_draw.specs.declared.bars.Bar.{Bar}
use Rattle.trace_draw.specs.declared.bars.Finish.{Finish}
use Rattle.trace_draw.specs.Bars.{finish_in, finish_of, bar_by, bar_in, bars_of}
use Rattle.trace_draw.specs.Laws.{IsTraceOf, MomentsDoNotFall, start_line, BarsStart, FinishesIn, FinishesAreTheirOwn, IsOverBefore, BarsDoNotOverlap, tells_finish_by}
use Rattle.trace_draw.proofs.Turns.{run_said, ToldRun, ToldBy, AreInTurn, in_turn}

-- ---- which line a bar is of

-- what starts a bar, given at a moment in front of these lines
abbrev Starting : ℕ → Message → List Line → Bar → Type 0
Starting moment message later bar = (record { moment = moment; message = message } ≡ start_line bar) × (bar.finish ≡ finish_of bar.worker later)

starts_by : (moment : ℕ) (r : Answer) (later : List Line) (bar : Bar) → bar_by moment r later ≡ Some bar → Starting moment (m.Answer r) later bar
starts_by moment (a.Start w k n d) later bar is =
    let same = same_Some _ bar is in
    (ap (λ (b : Bar). start_line b) same, subst (λ (b : Bar). b.finish ≡ finish_of b.worker later) same refl)
starts_by moment r later bar is = absurd (none-some bar is)

starts : (moment : ℕ) (message : Message) (later : List Line) (bar : Bar) → bar_in moment message later ≡ Some bar → Starting moment message later bar
starts moment (m.Answer r) later bar is = starts_by moment r later bar is
starts moment (m.End task) later bar is = absurd (none-some bar is)

pub bar_at : (b : Option Bar) (bars : List Bar) (i : ℕ) (bar : Bar) → slice_get (cons_option b bars) i ≡ Some bar → (b ≡ Some bar) ⊎ ((j : ℕ) × (slice_get bars j ≡ Some bar))
bar_at None bars i bar is = inr (i, is)
bar_at (Some first) bars zero bar is = inl is
bar_at (Some first) bars (suc i) bar is = inr (i, is)

pub bars_start : BarsStart
bars_start [] i bar is = absurd (none-some bar is)
bars_start (line ∷ later) i bar is =
    elim (bar_at (bar_in line.moment line.message later) (bars_of later) i bar is) [
      | inl here ↦
          let start = starts line.moment line.message later bar here in
          record { before = []; later = later; parts = ap (λ l. l ∷ later) start.0; finish = start.1 }
      | inr there ↦
          let s = bars_start later there.0 bar there.1 in
          record { before = line ∷ s.before; later = s.later; parts = ap (λ ls. line ∷ ls) s.parts; finish = s.finish }
    ]

-- ---- a line in turn, by the run that is under way before it

-- it finishes that run
pub record FinishesHere (w k n moment : ℕ) (message : Message) : Type 0 where
  pub outcome : Outcome
  pub said : message ≡ m.Answer (a.Finish w k n outcome)
  pub found : finish_in w moment message ≡ Some (record { moment = moment; outcome = outcome })
  pub none : run_said w message (Some (k, n)) ≡ None

-- it leaves the worker's run as it is, which is none or this one
pub record GoesOn (w moment : ℕ) (q : Option (ℕ × ℕ)) (message : Message) : Type 0 where
  pub none : finish_in w moment message ≡ None
  pub same : run_said w message q ≡ q
  pub apart : (later : List Line) (bar : Bar) → bar_in moment message later ≡ Some bar → (bar.worker == w) ≡ false
  pub unfinished : tells_finish_by w message ≡ false

-- it starts a run
pub record StartsHere (w : ℕ) (message : Message) : Type 0 where
  pub task : ℕ
  pub run : ℕ
  pub due : ℕ
  pub said : message ≡ m.Answer (a.Start w task run due)

other_worker : (u w : ℕ) (bar first : Bar) → (u == w) ≡ false → first.worker ≡ u → Some first ≡ Some bar → (bar.worker == w) ≡ false
other_worker u w bar first differ of is = ap (λ i. i == w) (sym (ap (λ (b : Bar). b.worker) (same_Some first bar is)) ∙ of) ∙ differ

no_bar_of : (w : ℕ) (bar : Bar) → None ≡ Some bar → (bar.worker == w) ≡ false
no_bar_of w bar is = absurd (none-some bar is)

another_start : (w moment u k n d : ℕ) (q : Option (ℕ × ℕ)) → (u == w) ≡ false → GoesOn w moment q (m.Answer (a.Start u k n d))
another_start w moment u k n d q differ = record {
  none = refl;
  same = ap (λ b. cond b (Some (k, n)) q) differ;
  apart = λ later bar is. other_worker u w bar _ differ refl is;
  unfinished = refl;
}

another_finish : (w moment u k n : ℕ) (o : Outcome) (q : Option (ℕ × ℕ)) → (u == w) ≡ false → GoesOn w moment q (m.Answer (a.Finish u k n o))
another_finish w moment u k n o q differ = record {
  none = ap (λ b. cond b (Some (record { moment = moment; outcome = o })) None) differ;
  same = ap (λ b. cond b None q) differ;
  apart = λ later bar is. no_bar_of w bar is;
  unfinished = differ;
}

step_by : (w k n moment : ℕ) (r : Answer) → ToldRun w (Some (k, n)) r → FinishesHere w k n moment (m.Answer r) ⊎ GoesOn w moment (Some (k, n)) (m.Answer r)
step_by w k n moment (a.Start u j run d) told =
    let by : (b : Bool) → (u == w) ≡ b → FinishesHere w k n moment (m.Answer (a.Start u j run d)) ⊎ GoesOn w moment (Some (k, n)) (m.Answer (a.Start u j run d)) =
    elim [ true ↦ λ same. absurd (none-some (k, n) (sym (told same))) | false ↦ λ differ. inr (another_start w moment u j run d (Some (k, n)) differ) ]
    in
    by (u == w) refl
step_by w k n moment (a.Finish u j run o) told =
    let here : (u == w) ≡ true → FinishesHere w k n moment (m.Answer (a.Finish u j run o)) = λ same.
    let own : (k ≡ j) × (n ≡ run) = let both = same_Some {A = ℕ × ℕ} (k, n) (j, run) (told same) in (ap (λ r. r.0) both, ap (λ r. r.1) both) in
    record {
      outcome = o;
      said = λ i. m.Answer (a.Finish (eqb-true u w same i) (sym own.0 i) (sym own.1 i) o);
      found = ap (λ b. cond b (Some (record { moment = moment; outcome = o })) None) same;
      none = ap (λ b. cond b None (Some (k, n))) same;
    }
    in
    let by : (b : Bool) → (u == w) ≡ b → FinishesHere w k n moment (m.Answer (a.Finish u j run o)) ⊎ GoesOn w moment (Some (k, n)) (m.Answer (a.Finish u j run o)) =
    elim [ true ↦ λ same. inl (here same) | false ↦ λ differ. inr (another_finish w moment u j run o (Some (k, n)) differ) ]
    in
    by (u == w) refl
step_by w k n moment r told = inr (record { none = refl; same = refl; apart = λ later bar is. no_bar_of w bar is; unfinished = refl })

-- where a run is under way
pub step : (w k n moment : ℕ) (message : Message) → ToldBy w (Some (k, n)) message → FinishesHere w k n moment message ⊎ GoesOn w moment (Some (k, n)) message
step w k n moment (m.Answer r) told = step_by w k n moment r told
step w k n moment (m.End task) told = inr (record { none = refl; same = refl; apart = λ later bar is. no_bar_of w bar is; unfinished = refl })

free_step_by : (w moment : ℕ) (r : Answer) → ToldRun w None r → StartsHere w (m.Answer r) ⊎ GoesOn w moment None (m.Answer r)
free_step_by w moment (a.Start u j run d) told =
    let by : (b : Bool) → (u == w) ≡ b → StartsHere w (m.Answer (a.Start u j run d)) ⊎ GoesOn w moment None (m.Answer (a.Start u j run d)) =
    elim [
      | true ↦ λ same. inl (record { task = j; run = run; due = d; said = λ i. m.Answer (a.Start (eqb-true u w same i) j run d) })
      | false ↦ λ differ. inr (another_start w moment u j run d None differ)
    ]
    in
    by (u == w) refl
free_step_by w moment (a.Finish u j run o) told =
    let by : (b : Bool) → (u == w) ≡ b → StartsHere w (m.Answer (a.Finish u j run o)) ⊎ GoesOn w moment None (m.Answer (a.Finish u j run o)) =
    elim [ true ↦ λ same. absurd (none-some {A = ℕ × ℕ} (j, run) (told same)) | false ↦ λ differ. inr (another_finish w moment u j run o None differ) ]
    in
    by (u == w) refl
free_step_by w moment r told = inr (record { none = refl; same = refl; apart = λ later bar is. no_bar_of w bar is; unfinished = refl })

-- where none is
pub free_step : (w moment : ℕ) (message : Message) → ToldBy w None message → StartsHere w message ⊎ GoesOn w moment None message
free_step w moment (m.Answer r) told = free_step_by w moment r told
free_step w moment (m.End task) told = inr (record { none = refl; same = refl; apart = λ later bar is. no_bar_of w bar is; unfinished = refl })

-- ---- moments

later_line : (w : ℕ) (q : Option (ℕ × ℕ)) (now : ℕ) (lines : List Line) (j : ℕ) (line : Line) → AreInTurn w q now lines → slice_get lines j ≡ Some line → now ≤ line.moment
later_line w q now [] j line turn is = absurd (none-some line is)
later_line w q now (first ∷ later) zero line turn is = omega (arith, turn.0, ap (λ (l : Line). l.moment) (same_Some first line is))
later_line w q now (first ∷ later) (suc j) line turn is = omega (arith, turn.0, later_line w (run_said w first.message q) first.moment later j line turn.2 is)

in_order : (w : ℕ) (q : Option (ℕ × ℕ)) (now : ℕ) (lines : List Line) (i j : ℕ) (one other : Line) → AreInTurn w q now lines → i ≤ j → slice_get lines i ≡ Some one → slice_get lines j ≡ Some other → one.moment ≤ other.moment
in_order w q now [] i j one other turn low is at = absurd (none-some one is)
in_order w q now (first ∷ later) zero zero one other turn low is at = omega (arith, ap (λ (l : Line). l.moment) (same_Some one other (sym is ∙ at)))
in_order w q now (first ∷ later) zero (suc j) one other turn low is at =
    omega (arith, ap (λ (l : Line). l.moment) (same_Some first one is), later_line w (run_said w first.message q) first.moment later j other turn.2 at)
in_order w q now (first ∷ later) (suc i) zero one other turn low is at = absurd (omega (arith, low))
in_order w q now (first ∷ later) (suc i) (suc j) one other turn low is at = in_order w (run_said w first.message q) first.moment later i j one other turn.2 (omega (arith, low)) is at

pub moments_do_not_fall : MomentsDoNotFall
moments_do_not_fall calls workers lines i j one other trace low is at =
    in_order 0 None 0 lines i j one other (subst (AreInTurn 0 None 0) (sym trace.are) (in_turn calls workers trace.past 0 trace.means)) low is at

-- no bar starts before a moment that is no later than any line's
later_bar : (w : ℕ) (q : Option (ℕ × ℕ)) (now : ℕ) (lines : List Line) (j : ℕ) (bar : Bar) → AreInTurn w q now lines → slice_get (bars_of lines) j ≡ Some bar → now ≤ bar.first
later_bar w q now [] j bar turn is = absurd (none-some bar is)
later_bar w q now (line ∷ later) j bar turn is =
    elim (bar_at (bar_in line.moment line.message later) (bars_of later) j bar is) [
      | inl here ↦ omega (arith, turn.0, ap (λ (l : Line). l.moment) (starts line.moment line.message later bar here).0)
      | inr there ↦ omega (arith, turn.0, later_bar w (run_said w line.message q) line.moment later there.0 bar turn.2 there.1)
    ]

-- ---- where a run is under way

-- behind lines that are in turn, the first finish by the worker is of its run
record OwnFinish (w k n now : ℕ) (lines : List Line) (finish : Finish) : Type 0 where
  pub between : List Line
  pub behind : List Line
  pub parts : lines ≡ between ++ answer_line finish.moment (a.Finish w k n finish.outcome) ∷ behind
  pub later : now ≤ finish.moment

own_finish : (w k n now : ℕ) (lines : List Line) (finish : Finish) → AreInTurn w (Some (k, n)) now lines → finish_of w lines ≡ Some finish → OwnFinish w k n now lines finish
own_finish w k n now [] finish turn is = absurd (none-some finish is)
own_finish w k n now (line ∷ later) finish turn is =
    elim (step w k n line.moment line.message turn.1) [
      | inl here ↦
          let same = same_Some _ finish (sym (ap (λ f. option_or f (finish_of w later)) here.found) ∙ is) in
          record {
            between = [];
            behind = later;
            parts = λ i. record { moment = (ap (λ (f : Finish). f.moment) same) i; message = (here.said ∙ ap (λ (f : Finish). m.Answer (a.Finish w k n f.outcome)) same) i } ∷ later;
            later = omega (arith, turn.0, ap (λ (f : Finish). f.moment) same);
          }
      | inr on ↦
          let rest = own_finish w k n line.moment later finish (subst (λ q. AreInTurn w q line.moment later) on.same turn.2) (sym (ap (λ f. option_or f (finish_of w later)) on.none) ∙ is) in
          record { between = line ∷ rest.between; behind = rest.behind; parts = ap (λ ls. line ∷ ls) rest.parts; later = omega (arith, turn.0, rest.later) }
    ]

-- a bar of the worker behind them begins once the run is finished
record FinishedFirst (w : ℕ) (lines : List Line) (bar : Bar) : Type 0 where
  pub finish : Finish
  pub found : finish_of w lines ≡ Some finish
  pub over : finish.moment ≤ bar.first

finished_first : (w k n now : ℕ) (lines : List Line) (j : ℕ) (bar : Bar) → AreInTurn w (Some (k, n)) now lines → slice_get (bars_of lines) j ≡ Some bar → bar.worker ≡ w → FinishedFirst w lines bar
finished_first w k n now [] j bar turn is of = absurd (none-some bar is)
finished_first w k n now (line ∷ later) j bar turn is of =
    elim (step w k n line.moment line.message turn.1) [
      | inl ends ↦
          elim (bar_at (bar_in line.moment line.message later) (bars_of later) j bar is) [
            | inl here ↦ absurd (none-some bar (ap (λ said. bar_in line.moment said later) (sym ends.said) ∙ here))
            | inr there ↦ record {
              finish = record { moment = line.moment; outcome = ends.outcome };
              found = ap (λ f. option_or f (finish_of w later)) ends.found;
              over = later_bar w (run_said w line.message (Some (k, n))) line.moment later there.0 bar turn.2 there.1;
            }
          ]
      | inr on ↦
          elim (bar_at (bar_in line.moment line.message later) (bars_of later) j bar is) [
            | inl here ↦ absurd (false≢true (sym (on.apart later bar here) ∙ eq-eqb bar.worker w of))
            | inr there ↦
                let rest = finished_first w k n line.moment later there.0 bar (subst (λ q. AreInTurn w q line.moment later) on.same turn.2) there.1 of in
                record { finish = rest.finish; found = ap (λ f. option_or f (finish_of w later)) on.none ∙ rest.found; over = rest.over }
          ]
    ]

-- a line that starts a bar of the worker leaves its run under way
run_started : (w : ℕ) (q : Option (ℕ × ℕ)) (line : Line) (bar : Bar) → line.message ≡ m.Answer (a.Start bar.worker bar.task bar.run bar.due) → bar.worker ≡ w → run_said w line.message q ≡ Some (bar.task, bar.run)
run_started w q line bar said of = ap (λ s. run_said w s q) said ∙ ap (λ b. cond b (Some (bar.task, bar.run)) q) (eq-eqb bar.worker w of)

pub start_said : (line : Line) (later : List Line) (bar : Bar) → bar_in line.moment line.message later ≡ Some bar → line.message ≡ m.Answer (a.Start bar.worker bar.task bar.run bar.due)
start_said line later bar is = ap (λ (l : Line). l.message) (starts line.moment line.message later bar is).0

-- ---- the laws

finishes_in : (w : ℕ) (q : Option (ℕ × ℕ)) (now : ℕ) (lines : List Line) (i : ℕ) (bar : Bar) (finish : Finish) → AreInTurn w q now lines → slice_get (bars_of lines) i ≡ Some bar → bar.worker ≡ w → bar.finish ≡ Some finish →
    FinishesIn lines bar finish
finishes_in w q now [] i bar finish turn is of has = absurd (none-some bar is)
finishes_in w q now (line ∷ later) i bar finish turn is of has =
    elim (bar_at (bar_in line.moment line.message later) (bars_of later) i bar is) [
      | inl here ↦
          let start = starts line.moment line.message later bar here in
          let run = run_started w q line bar (start_said line later bar here) of in
          let found : finish_of w later ≡ Some finish = ap (λ v. finish_of v later) (sym of) ∙ (sym start.1 ∙ has) in
          let own = own_finish w bar.task bar.run line.moment later finish (subst (λ r. AreInTurn w r line.moment later) run turn.2) found in
          record {
            before = [];
            between = own.between;
            behind = own.behind;
            parts = λ i. start.0 i ∷ (own.parts ∙ ap (λ v. own.between ++ answer_line finish.moment (a.Finish v bar.task bar.run finish.outcome) ∷ own.behind) (sym of)) i;
            later = omega (arith, own.later, ap (λ (l : Line). l.moment) start.0);
          }
      | inr there ↦
          let rest = finishes_in w (run_said w line.message q) line.moment later there.0 bar finish turn.2 there.1 of has in
          record { before = line ∷ rest.before; between = rest.between; behind = rest.behind; parts = ap (λ ls. line ∷ ls) rest.parts; later = rest.later }
    ]

pub turn_of : (calls : List Planned) (workers : ℕ) (lines : List Line) (w : ℕ) → IsTraceOf calls workers lines → AreInTurn w None 0 lines
turn_of calls workers lines w trace = subst (AreInTurn w None 0) (sym trace.are) (in_turn calls workers trace.past w trace.means)

pub finishes_are_their_own : FinishesAreTheirOwn
finishes_are_their_own calls workers lines i bar finish trace is has = finishes_in bar.worker None 0 lines i bar finish (turn_of calls workers lines bar.worker trace) is refl has

-- of two places in a list, both are behind its first element, or the first of them is the first
pub two_at : (b : Option Bar) (bars : List Bar) (i j : ℕ) (one other : Bar) → i < j → slice_get (cons_option b bars) i ≡ Some one → slice_get (cons_option b bars) j ≡ Some other →
    ((b ≡ Some one) × ((l : ℕ) × (slice_get bars l ≡ Some other))) ⊎ ((k : ℕ) × ((l : ℕ) × (k < l) × (slice_get bars k ≡ Some one) × (slice_get bars l ≡ Some other)))
two_at None bars i j one other low is at = inr (i, (j, low, is, at))
two_at (Some first) bars zero zero one other low is at = absurd (omega (arith, low))
two_at (Some first) bars zero (suc j) one other low is at = inl (is, (j, at))
two_at (Some first) bars (suc i) zero one other low is at = absurd (omega (arith, low))
two_at (Some first) bars (suc i) (suc j) one other low is at = inr (i, (j, omega (arith, low), is, at))

over_before : (w : ℕ) (q : Option (ℕ × ℕ)) (now : ℕ) (lines : List Line) (i j : ℕ) (one other : Bar) → AreInTurn w q now lines → i < j → slice_get (bars_of lines) i ≡ Some one → slice_get (bars_of lines) j ≡ Some other →
    one.worker ≡ w → other.worker ≡ w → IsOverBefore one other
over_before w q now [] i j one other turn low is at of too = absurd (none-some one is)
over_before w q now (line ∷ later) i j one other turn low is at of too =
    elim (two_at (bar_in line.moment line.message later) (bars_of later) i j one other low is at) [
      | inl here ↦
          let start = starts line.moment line.message later one here.0 in
          let run = run_started w q line one (start_said line later one here.0) of in
          let first = finished_first w one.task one.run line.moment later here.1.0 other (subst (λ r. AreInTurn w r line.moment later) run turn.2) here.1.1 too in
          record { finish = first.finish; has = start.1 ∙ (ap (λ v. finish_of v later) of ∙ first.found); over = first.over }
      | inr there ↦ over_before w (run_said w line.message q) line.moment later there.0 there.1.0 one other turn.2 there.1.1 there.1.2 there.1.3 of too
    ]

pub bars_do_not_overlap : BarsDoNotOverlap
bars_do_not_overlap calls workers lines i j one other trace low is at same = over_before one.worker None 0 lines i j one other (turn_of calls workers lines one.worker trace) low is at refl (sym same)
