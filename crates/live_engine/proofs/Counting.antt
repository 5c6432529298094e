-- Counting: what a live run says of the tries of its ends, and how it is refused.
use Rattle.std.proofs.Common.{◌≡◌, ℕ, ◌+◌, ◌<◌, List, [], length, Option, Some, None, Result, Ok, Err, MatchResult, inl, refl, sym, subst}
use Rattle.std.specs.Io.KnownBytes.{Keeps}
use Rattle.sched_engine.specs.declared.report.StopError.{StopError}
use Rattle.sched_engine.specs.declared.report.StopError.TheVariants as s
use Rattle.byte_ends.specs.Ends.{AllGood}
use Rattle.sched_engine.specs.Running.{CountsReader, CountsReads, CountsWriter, CountsWrites}
use Rattle.byte_ends.proofs.Tries.{no_call, no_try}
use Rattle.live_engine.specs.declared.engine.Turn.{Turn}
use Rattle.live_engine.specs.declared.engine.Turn.TheVariants as t
use Rattle.live_engine.specs.declared.opening.OpenError.{OpenError}
use Rattle.live_engine.specs.declared.opening.OpenError.TheVariants as o
use Rattle.live_engine.specs.declared.report.LiveReport.{LiveReport}
use Rattle.live_engine.specs.LiveRuns.{ChangesNothing, LiveEnds, Ran, RefusesToRun, told_of_opening}

-- nothing was read or written
kept : (o : Option (List ℕ)) → Keeps o o
kept None = tt
kept (Some xs) = refl

pub idle : (ends : LiveEnds) → ChangesNothing ends ends
idle ends = ((kept ends.left, kept ends.contents), refl)

-- a run that did not begin
pub refused_to_run : (e : OpenError) (workers : ℕ) (ends : LiveEnds) → RefusesToRun e workers → Ran (Err (told_of_opening e)) workers ends ends
refused_to_run o.Workers workers ends refuses = (refuses, idle ends)
refused_to_run o.Memory workers ends refuses = inl (refuses, idle ends)

pub reads_refused : (e : OpenError) (f r : ℕ) → CountsReader {T = LiveReport} (Err (told_of_opening e)) f r f r
reads_refused o.Workers f r = no_call f r
reads_refused o.Memory f r = no_try f r

pub writes_refused : (e : OpenError) (f r : ℕ) → CountsWriter {T = LiveReport} (Err (told_of_opening e)) f r f r
writes_refused o.Workers f r = no_call f r
writes_refused o.Memory f r = no_try f r

-- at the end of the input
pub reads_ended : (result : Result Turn StopError) (read written : ℕ) (held : List ℕ) (f r f' r' : ℕ) →
    MatchResult result (λ turn. (turn ≡ t.Ended (record { lines_read = read; lines_written = written })) × (held ≡ [])) (λ e. (e ≡ s.EventLine (read + 1)) × (0 < length held)) → AllGood f r f' r' → CountsReads result f r f' r'
reads_ended (Ok turn) read written held f r f' r' is good = good
reads_ended (Err e) read written held f r f' r' is good = subst (λ e. CountsReads {T = Turn} (Err e) f r f' r') (sym is.0) good

pub writes_ended : (result : Result Turn StopError) (read written : ℕ) (held : List ℕ) (f r f' r' : ℕ) →
    MatchResult result (λ turn. (turn ≡ t.Ended (record { lines_read = read; lines_written = written })) × (held ≡ [])) (λ e. (e ≡ s.EventLine (read + 1)) × (0 < length held)) → AllGood f r f' r' → CountsWrites result f r f' r'
writes_ended (Ok turn) read written held f r f' r' is good = good
writes_ended (Err e) read written held f r f' r' is good = subst (λ e. CountsWrites {T = Turn} (Err e) f r f' r') (sym is.0) good
