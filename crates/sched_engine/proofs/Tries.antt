-- Tries: what a run says of the tries of its ends.
use Rattle.std.proofs.Common.{◌≡◌, ℕ, ◌<◌, List, [], length, Result, Ok, Err, MatchResult, sym, subst}
use Rattle.byte_ends.specs.Ends.{AllGood}
use Rattle.byte_ends.proofs.Tries.{good_then_bad, good_then_good, no_call, no_try}
use Rattle.sched_engine.specs.declared.engine.Turn.{Turn}
use Rattle.sched_engine.specs.declared.engine.Turn.TheVariants as t
use Rattle.sched_engine.specs.declared.report.Report.{Report}
use Rattle.sched_engine.specs.declared.report.OpenError.{OpenError}
use Rattle.sched_engine.specs.declared.report.OpenError.TheVariants as o
use Rattle.sched_engine.specs.declared.report.StopError.{StopError}
use Rattle.sched_engine.specs.declared.report.StopError.TheVariants as s
use Rattle.sched_engine.specs.Running.{CountsReader, CountsReads, CountsWriter, CountsWrites}
use Rattle.sched_engine.specs.Stages.{told_of_opening, told_of_stop}

-- at the end of the input
pub reads_ended : (result : Result Turn StopError) (report : Report) (held : List ℕ) (n f r f' r' : ℕ) →
    MatchResult result (λ turn. (turn ≡ t.Ended report) × (held ≡ [])) (λ e. (e ≡ s.EventLine n) × (0 < length held)) → AllGood f r f' r' → CountsReads result f r f' r'
reads_ended (Ok turn) report held n f r f' r' is good = good
reads_ended (Err e) report held n f r f' r' is good = subst (λ e. CountsReads {T = Turn} (Err e) f r f' r') (sym is.0) good

pub writes_ended : (result : Result Turn StopError) (report : Report) (held : List ℕ) (n f r f' r' : ℕ) →
    MatchResult result (λ turn. (turn ≡ t.Ended report) × (held ≡ [])) (λ e. (e ≡ s.EventLine n) × (0 < length held)) → AllGood f r f' r' → CountsWrites result f r f' r'
writes_ended (Ok turn) report held n f r f' r' is good = good
writes_ended (Err e) report held n f r f' r' is good = subst (λ e. CountsWrites {T = Turn} (Err e) f r f' r') (sym is.0) good

-- turns, and then one that stopped the run
pub reads_then : (T U : Type 0) (e : StopError) (f r f' r' f'' r'' : ℕ) → AllGood f r f' r' → CountsReads {T = T} (Err e) f' r' f'' r'' → CountsReader {T = U} (Err (told_of_stop e)) f r f'' r''
reads_then T U (s.EventLine n) f r f' r' f'' r'' p q = good_then_good f r f' r' f'' r'' p q
reads_then T U s.Full f r f' r' f'' r'' p q = good_then_good f r f' r' f'' r'' p q
reads_then T U s.Read f r f' r' f'' r'' p q = good_then_bad f r f' r' f'' r'' p q
reads_then T U s.Write f r f' r' f'' r'' p q = good_then_good f r f' r' f'' r'' p q
reads_then T U s.Memory f r f' r' f'' r'' p q = good_then_good f r f' r' f'' r'' p q

pub writes_then : (T U : Type 0) (e : StopError) (f r f' r' f'' r'' : ℕ) → AllGood f r f' r' → CountsWrites {T = T} (Err e) f' r' f'' r'' → CountsWriter {T = U} (Err (told_of_stop e)) f r f'' r''
writes_then T U (s.EventLine n) f r f' r' f'' r'' p q = good_then_good f r f' r' f'' r'' p q
writes_then T U s.Full f r f' r' f'' r'' p q = good_then_good f r f' r' f'' r'' p q
writes_then T U s.Read f r f' r' f'' r'' p q = good_then_good f r f' r' f'' r'' p q
writes_then T U s.Write f r f' r' f'' r'' p q = good_then_bad f r f' r' f'' r'' p q
writes_then T U s.Memory f r f' r' f'' r'' p q = good_then_good f r f' r' f'' r'' p q

-- a run that was not opened
pub reads_refused : (e : OpenError) (f r : ℕ) → CountsReader {T = Report} (Err (told_of_opening e)) f r f r
reads_refused (o.Plan fault) f r = no_call f r
reads_refused o.Workers f r = no_call f r
reads_refused o.Limit f r = no_call f r
reads_refused o.Memory f r = no_try f r

pub writes_refused : (e : OpenError) (f r : ℕ) → CountsWriter {T = Report} (Err (told_of_opening e)) f r f r
writes_refused (o.Plan fault) f r = no_call f r
writes_refused o.Workers f r = no_call f r
writes_refused o.Limit f r = no_call f r
writes_refused o.Memory f r = no_try f r
