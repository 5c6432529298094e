-- Beside `specs/PoolRuns`: what an ended book tells, and its text.
-- All of it is this project's rule.
use Rattle.std.specs.Prelude.{◌≡◌, ◌≢◌, ℕ, All, List, ◌++◌, Option, Result, Err, Bool, true, false, take}
use Rattle.std.specs.Io.KnownBytes.{Appends}
use Rattle.executor_core.specs.CoreView.{state_of, workers_of}
use Rattle.executor_model.specs.Needs.{IsRipe}
use Rattle.executor_model.specs.State.{view_of_state}
use Rattle.worker_pool.specs.Books.{BookView, IsIdle}
use Rattle.byte_ends.specs.Ends.{AllGood, LastBad}
use Rattle.pool_engine.specs.declared.stops.LastError.{LastError}
use Rattle.pool_engine.specs.declared.stops.LastError.TheVariants as l
use Rattle.pool_engine.specs.declared.stops.PoolStop.{PoolStop}
use Rattle.pool_engine.specs.declared.stops.PoolStop.TheVariants as p
use Rattle.sched_engine.specs.declared.report.Report.{Report}
use Rattle.pool_engine.specs.PoolRuns.{AreFirstOf, IsByPool, clocks_of, event_count}

-- the clocks of a book show these moments, all that happened is by a pool of its workers, no task that waits or is kept is due in it,
-- and no run is under way
pub record IsRested (b : BookView) (moments : List ℕ) : Type 0 where
  pub clocks : clocks_of b.happened ≡ moments
  pub by : All (IsByPool (workers_of b.core)) b.happened
  pub rests : IsRipe b.core.calls (view_of_state b.core.calls (state_of b.core)) → ⊥
  pub idle : IsIdle b

-- the clocks of a book show the first of these moments, all that happened is by a pool of its workers, and its events are so many
pub record IsFilled (b : BookView) (limit : ℕ) (moments : List ℕ) : Type 0 where
  pub clocks : AreFirstOf (clocks_of b.happened) moments
  pub by : All (IsByPool (workers_of b.core)) b.happened
  pub full : event_count b.happened ≡ limit

-- `true`: the clocks so far show the first of these moments, and the others are left; `false`: they do not show the first of them,
-- whatever follows
abbrev pub ShowsSoFar : Bool → List ℕ → List ℕ → List ℕ → Type 0
ShowsSoFar true so_far left moments = so_far ++ left ≡ moments
ShowsSoFar false so_far left moments = (later : List ℕ) → so_far ++ later ≢ moments

-- `true`: all of some list so far are so; `false`: not all of the whole list are
abbrev pub AllSoFar : {X : Type 0} → (X → Type 0) → Bool → List X → List X → Type 0
AllSoFar P true so_far whole = All P so_far
AllSoFar P false so_far whole = All P whole → ⊥

-- `true`: the whole text was appended; `false`: a front of it
abbrev pub TextWritten : Bool → Option (List ℕ) → Option (List ℕ) → List ℕ → Type 0
TextWritten true old new text = Appends old new text
TextWritten false old new text = (n : ℕ) × Appends old new (take n text)

-- a pool whose text was not written whole
abbrev pub stop_of_last : LastError → PoolStop
stop_of_last l.Lost = p.Lost
stop_of_last l.Write = p.Write

-- what the tries of the writer count: the last was bad at `Write`, and all others were good
abbrev pub CountsLast : {T : Type 0} → Result T LastError → ℕ → ℕ → ℕ → ℕ → Type 0
CountsLast (Err l.Write) failed fruitless failed' fruitless' = LastBad failed fruitless failed' fruitless'
CountsLast _ failed fruitless failed' fruitless' = AllGood failed fruitless failed' fruitless'

abbrev pub CountsStop : Result Report PoolStop → ℕ → ℕ → ℕ → ℕ → Type 0
CountsStop (Err p.Write) failed fruitless failed' fruitless' = LastBad failed fruitless failed' fruitless'
CountsStop _ failed fruitless failed' fruitless' = AllGood failed fruitless failed' fruitless'

-- where nothing is written, the counts of the writer stay, as it was not called
abbrev pub StopLeaves : Result Report PoolStop → ℕ → ℕ → ℕ → ℕ → Type 0
StopLeaves (Err p.Lost) failed fruitless failed' fruitless' = (failed' ≡ failed) × (fruitless' ≡ fruitless)
StopLeaves (Err p.Memory) failed fruitless failed' fruitless' = (failed' ≡ failed) × (fruitless' ≡ fruitless)
StopLeaves _ failed fruitless failed' fruitless' = Unit {0}
