-- Runs: what an ended book tells of the run of its pool.
use Rattle.std.proofs.Common.{◌≡◌, ℕ, ◌^◌, ◌≤◌, List, Option, Ok, Err, length, take, inl, inr, ap, ◌∙◌, sym, subst, arith}
use Rattle.std.specs.Prelude.{All}
use Rattle.std.specs.Io.KnownBytes.{Appends}
use Rattle.executor_model.specs.declared.Happening.{Happening}
use Rattle.trace_check.specs.Laws.{FitsHappening}
use Rattle.executor_model.specs.declared.Line.{Line}
use Rattle.executor_core.specs.CoreView.{state_of, workers_of}
use Rattle.executor_model.specs.Needs.{IsRipe}
use Rattle.executor_model.specs.State.{State, view_of_state}
use Rattle.queue_code.specs.Calls.{Planned}
use Rattle.trace_text.specs.Spelling.{lines_text}
use Rattle.worker_pool.specs.Books.{BookView, IsBook, IsIdle, past_of}
use Rattle.sched_engine.specs.declared.report.Report.{Report}
use Rattle.pool_engine.specs.declared.stops.PoolStop.TheVariants as p
use Rattle.sched_engine.specs.Running.{text_of}
use Rattle.pool_engine.specs.PoolRuns.{AreFirstOf, IsByPool, PoolWrote, RunsToLimit, RunsToRest, clocks_of, event_count}
use Rattle.pool_engine.specs.own.Ended.{IsFilled, IsRested}
use Rattle.pool_engine.proofs.Courses.{course_is}
use Rattle.pool_engine.proofs.Fits.{history_all, history_short}

-- what holds of the calls and the workers of a book, holds of those that have their names
named : (P : List Planned → ℕ → Type 0) (b : BookView) (calls : List Planned) (workers : ℕ) → (b.core.calls ≡ calls) × (workers_of b.core ≡ workers) → P b.core.calls (workers_of b.core) → P calls workers
named P b calls workers is p = subst (P calls) is.1 (subst (λ (cs : List Planned). P cs (workers_of b.core)) is.0 p)

-- the text of a book's lines is that of its history
text_is : (cells : List ℕ) (b : BookView) (lines : List Line) → IsBook cells b → lines ≡ b.lines → lines_text lines ≡ text_of b.core.calls (past_of b)
text_is cells b lines book same = ap lines_text (same ∙ book.written)

-- what happened in a book fits, and is not too much
pub record FitsBook (b : BookView) : Type 0 where
  pub fit : All FitsHappening b.happened
  pub short : length b.happened ≤ 2 ^ 64

-- what a list shows that is a book's
pub book_fits : (b : BookView) (happened : List Happening) → happened ≡ b.happened → All FitsHappening happened → length happened ≤ 2 ^ 64 → FitsBook b
book_fits b happened same fit short = record { fit = subst (All FitsHappening) same fit; short = subst (λ (l : List Happening). length l ≤ 2 ^ 64) same short }

-- a list shows these moments that is a book's, and nothing is due in the book, or under way
pub at_rest_by : (b : BookView) (happened : List Happening) (moments : List ℕ) → happened ≡ b.happened → clocks_of happened ≡ moments → All (IsByPool (workers_of b.core)) happened → (IsRipe b.core.calls (view_of_state b.core.calls (state_of b.core)) → ⊥) → IsIdle b → IsRested b moments
at_rest_by b happened moments same shown by rests idle = record { clocks = ap clocks_of (sym same) ∙ shown; by = subst (All (IsByPool (workers_of b.core))) same by; rests = rests; idle = idle }

-- a list shows the first of these moments that is a book's, which has so many events
pub filled_by : (b : BookView) (happened : List Happening) (limit : ℕ) (moments : List ℕ) → happened ≡ b.happened → AreFirstOf (clocks_of happened) moments → All (IsByPool (workers_of b.core)) happened → event_count happened ≡ limit → IsFilled b limit moments
filled_by b happened limit moments same shown by full = record { clocks = subst (λ (l : List Happening). AreFirstOf (clocks_of l) moments) same shown; by = subst (All (IsByPool (workers_of b.core))) same by; full = ap event_count (sym same) ∙ full }

-- a book is at rest, and has no more events than the limit allows
rested : (cells : List ℕ) (b : BookView) (limit events : ℕ) (moments : List ℕ) → IsBook cells b → FitsBook b → IsRested b moments → events ≡ event_count b.happened → events ≤ limit
    → RunsToRest b.core.calls (workers_of b.core) limit moments (past_of b)
rested cells b limit events moments book fits at_rest count few =
    let course = course_is b.core.calls (workers_of b.core) b.happened in
    record {
      means = book.means;
      fit = history_all FitsHappening b.core.calls (workers_of b.core) b.happened fits.fit;
      short = history_short b.core.calls (workers_of b.core) b.happened fits.short;
      clocks = ap clocks_of course ∙ at_rest.clocks;
      by = history_all (IsByPool (workers_of b.core)) b.core.calls (workers_of b.core) b.happened at_rest.by;
      rests = λ due. at_rest.rests (subst (λ s. IsRipe b.core.calls (view_of_state b.core.calls s)) (sym book.stands) due);
      idle = λ worker. ap (λ (s : State). s.workers worker) (sym book.stands) ∙ at_rest.idle worker;
      within = omega (arith, few, count, ap event_count course);
    }

-- a book has as many events as the limit allows
at_limit : (cells : List ℕ) (b : BookView) (limit : ℕ) (moments : List ℕ) → IsBook cells b → FitsBook b → IsFilled b limit moments → RunsToLimit b.core.calls (workers_of b.core) limit moments (past_of b)
at_limit cells b limit moments book fits filled = record {
  means = book.means;
  fit = history_all FitsHappening b.core.calls (workers_of b.core) b.happened fits.fit;
  short = history_short b.core.calls (workers_of b.core) b.happened fits.short;
  clocks = subst (λ (l : List Happening). AreFirstOf (clocks_of l) moments) (sym (course_is b.core.calls (workers_of b.core) b.happened)) filled.clocks;
  by = history_all (IsByPool (workers_of b.core)) b.core.calls (workers_of b.core) b.happened filled.by;
  full = ap event_count (course_is b.core.calls (workers_of b.core) b.happened) ∙ filled.full;
}

-- ---- what was written

-- the whole text of a book at rest
pub wrote_rested : (cells : List ℕ) (b : BookView) (calls : List Planned) (workers limit : ℕ) (moments : List ℕ) (lines : List Line) (report : Report) (old new : Option (List ℕ))
    → IsBook cells b → FitsBook b → (b.core.calls ≡ calls) × (workers_of b.core ≡ workers) → IsRested b moments → report.events ≡ event_count b.happened → report.events ≤ limit → lines ≡ b.lines → report.lines ≡ length lines
    → Appends old new (lines_text lines) → PoolWrote (Ok report) calls workers limit moments old new
wrote_rested cells b calls workers limit moments lines report old new book fits is at_rest count few said long wrote =
    named (λ cs k. PoolWrote (Ok report) cs k limit moments old new) b calls workers is (
      past_of b,
      rested cells b limit report.events moments book fits at_rest count few,
      count ∙ ap event_count (sym (course_is b.core.calls (workers_of b.core) b.happened)),
      long ∙ ap length (said ∙ book.written),
      subst (Appends old new) (text_is cells b lines book said) wrote,
    )

-- a front of it
pub cut_rested : (cells : List ℕ) (b : BookView) (calls : List Planned) (workers limit events : ℕ) (moments : List ℕ) (lines : List Line) (old new : Option (List ℕ))
    → IsBook cells b → FitsBook b → (b.core.calls ≡ calls) × (workers_of b.core ≡ workers) → IsRested b moments → events ≡ event_count b.happened → events ≤ limit → lines ≡ b.lines
    → (n : ℕ) × Appends old new (take n (lines_text lines)) → PoolWrote (Err p.Write) calls workers limit moments old new
cut_rested cells b calls workers limit events moments lines old new book fits is at_rest count few said wrote =
    named (λ cs k. PoolWrote (Err p.Write) cs k limit moments old new) b calls workers is (
      past_of b,
      inl (rested cells b limit events moments book fits at_rest count few),
      wrote.0,
      subst (λ (l : List ℕ). Appends old new (take wrote.0 l)) (text_is cells b lines book said) wrote.1,
    )

-- the whole text of a book at its limit
pub wrote_full : (cells : List ℕ) (b : BookView) (calls : List Planned) (workers limit : ℕ) (moments : List ℕ) (lines : List Line) (old new : Option (List ℕ))
    → IsBook cells b → FitsBook b → (b.core.calls ≡ calls) × (workers_of b.core ≡ workers) → IsFilled b limit moments → lines ≡ b.lines
    → Appends old new (lines_text lines) → PoolWrote (Err p.Full) calls workers limit moments old new
wrote_full cells b calls workers limit moments lines old new book fits is filled said wrote =
    named (λ cs k. PoolWrote (Err p.Full) cs k limit moments old new) b calls workers is (
      past_of b,
      at_limit cells b limit moments book fits filled,
      subst (Appends old new) (text_is cells b lines book said) wrote,
    )

-- a front of it
pub cut_full : (cells : List ℕ) (b : BookView) (calls : List Planned) (workers limit : ℕ) (moments : List ℕ) (lines : List Line) (old new : Option (List ℕ))
    → IsBook cells b → FitsBook b → (b.core.calls ≡ calls) × (workers_of b.core ≡ workers) → IsFilled b limit moments → lines ≡ b.lines
    → (n : ℕ) × Appends old new (take n (lines_text lines)) → PoolWrote (Err p.Write) calls workers limit moments old new
cut_full cells b calls workers limit moments lines old new book fits is filled said wrote =
    named (λ cs k. PoolWrote (Err p.Write) cs k limit moments old new) b calls workers is (
      past_of b,
      inr (at_limit cells b limit moments book fits filled),
      wrote.0,
      subst (λ (l : List ℕ). Appends old new (take wrote.0 l)) (text_is cells b lines book said) wrote.1,
    )
