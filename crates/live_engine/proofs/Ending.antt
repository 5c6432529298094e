-- Ending: how a live run begins and ends, and that it does.
use Rattle.std.proofs.Common.{◌≡◌, ℕ, zero, suc, ◌+◌, ◌-◌, ◌*◌, ◌<◌, ◌≤◌, List, [], ◌++◌, take, length, Option, Result, Ok, Err, MatchResult, inl, inr, refl, ap, ◌∙◌, sym, subst, arith, append_assoc, append-nil, length-append}
use Rattle.std.specs.Io.KnownBytes.{Consumes, Appends, Keeps, IsAtEnd}
use Rattle.executor_model.specs.Counts.{IsWorkerCount}
use Rattle.trace_text.specs.Spelling.{IsLine, event_line, FitsEvent}
use Rattle.trace_text.specs.Reading.{IsPart, IsUnread, most_event_bytes}
use Rattle.trace_text.proofs.Fronts.{some_bytes, unread_part, unread_whatever_follows}
use Rattle.call_text.specs.declared.live.LiveFront.TheVariants as front
use Rattle.call_text.specs.Spelling.{call_line, FitsCall}
use Rattle.call_text.specs.Reading.{IsLiveFront}
use Rattle.call_text.proofs.LiveFronts.{no_call_follows, no_call_in_part}
use Rattle.call_journal.specs.Journals.{JournalView}
use Rattle.live_core.specs.Lives.{LiveView}
use Rattle.sched_engine.specs.declared.report.StopError.{StopError}
use Rattle.sched_engine.specs.declared.report.StopError.TheVariants as s
use Rattle.sched_engine.specs.Stages.{told_of_stop}
use Rattle.byte_ends.specs.Refills.{piece}
use Rattle.sched_engine.proofs.Runs.{at_end, gave_front, so_far, read_so_far}
use Rattle.sched_engine.proofs.Giving.{wrote_none}
use Rattle.sched_engine.proofs.Turns.{kept_none, nothing_read}
use Rattle.live_engine.specs.declared.live_line.LiveLine.{LiveLine}
use Rattle.live_engine.specs.declared.live_line.LiveLine.TheVariants as l
use Rattle.live_engine.specs.declared.counts.Counts.{Counts}
use Rattle.live_engine.specs.declared.engine.Turn.{Turn}
use Rattle.live_engine.specs.declared.engine.Turn.TheVariants as t
use Rattle.live_engine.specs.declared.report.LiveReport.{LiveReport}
use Rattle.live_engine.specs.LiveLines.{LiveHistory, FitsLive, input_of, live_history, live_line, trace_length, trace_of}
use Rattle.live_engine.specs.LiveRuns.{BeginsBeyond, BeginsWanting, BeginsWith, IsNoLine, LiveEnds, Ran, Runs, Taken, Writes}
use Rattle.live_engine.specs.own.LiveTurns.{Done, IsBetweenTurns, IsCut, Opens, Progress, Setting, Turns}
use Rattle.live_engine.proofs.Steps.{allowed}
use Rattle.live_engine.proofs.Notings.{notes_none}
use Rattle.live_engine.proofs.Going.{filled}

-- ---- lines

-- bytes that begin with no line of an event and none of a call
unread : (bytes : List ℕ) → IsUnread event_line FitsEvent bytes → IsUnread call_line FitsCall bytes → IsUnread live_line FitsLive bytes
unread bytes no_event no_call (l.Event event) rest fits = no_event event rest fits
unread bytes no_event no_call (l.Call call) rest fits = no_call call rest fits

-- what begins with a line does so whatever follows
begins_on : (IsSo : LiveLine → Type 0) (held more : List ℕ) → BeginsWith held IsSo → BeginsWith (held ++ more) IsSo
begins_on IsSo held more begins = record {
  line = begins.line;
  rest = begins.rest ++ more;
  read = (begins.read.0, ap (λ l. l ++ more) begins.read.1 ∙ append_assoc (live_line begins.line) begins.rest more);
  so = begins.so;
}

-- ---- what was taken

-- some lines were taken, and more of the input may follow what is held
pub taken_so_far : (run : Setting) (at : Progress) (lines : List LiveLine) (IsAhead IsRest : LiveHistory → List ℕ → Type 0) (Gives : List LiveLine → LiveHistory → Type 0) → Done run at lines → length at.held ≤ piece →
    IsAhead (live_history run.workers lines) at.held → ((more : List ℕ) → IsRest (live_history run.workers lines) (at.held ++ more)) → Gives lines (live_history run.workers lines) →
    Taken run.workers run.first.left at.ends.left run.first.journal at.ends.journal IsAhead IsRest Gives
taken_so_far run at lines IsAhead IsRest Gives done near stops rest gives = record {
  lines = lines;
  come = done.come;
  allowed = done.allowed;
  ahead = at.held;
  read = read_so_far run.first.left at.ends.left at.held (input_of lines) done.read;
  near = near;
  stops = stops;
  splits = so_far run.first.left at.ends.left at.held (input_of lines) (IsRest (live_history run.workers lines)) done.read rest;
  journal = done.journal;
  gives = gives;
}

-- the same where the input has ended
taken_at_end : (run : Setting) (at : Progress) (lines : List LiveLine) (IsAhead IsRest : LiveHistory → List ℕ → Type 0) (Gives : List LiveLine → LiveHistory → Type 0) → Done run at lines → IsAtEnd at.ends.left → length at.held ≤ piece →
    IsAhead (live_history run.workers lines) at.held → IsRest (live_history run.workers lines) at.held → Gives lines (live_history run.workers lines) →
    Taken run.workers run.first.left at.ends.left run.first.journal at.ends.journal IsAhead IsRest Gives
taken_at_end run at lines IsAhead IsRest Gives done end near stops rest gives = record {
  lines = lines;
  come = done.come;
  allowed = done.allowed;
  ahead = at.held;
  read = read_so_far run.first.left at.ends.left at.held (input_of lines) done.read;
  near = near;
  stops = stops;
  splits = at_end run.first.left at.ends.left at.held (input_of lines) (IsRest (live_history run.workers lines)) done.read end rest;
  journal = done.journal;
  gives = gives;
}

-- what was written is the trace, where no text is at hand
all_written : (run : Setting) (at : Progress) (lines : List LiveLine) (IsSo : List LiveLine → LiveHistory → Type 0) → (done : Done run at lines) → at.text ≡ [] → IsSo lines (live_history run.workers lines) →
    Writes run.first at.ends IsSo lines (live_history run.workers lines)
all_written run at lines IsSo done none so =
    (subst (Appends run.first.contents at.ends.contents) (sym (done.says ∙ (ap (λ l. done.before ++ l) none ∙ append-nil done.before))) done.written, so)

-- ---- ends

-- before anything was read
pub first : (workers : ℕ) (at : Progress) (m : LiveView) → Opens m workers → at.held ≡ [] → at.text ≡ [] → at.counts ≡ record { read = 0; written = 0 } → IsBetweenTurns (record { workers = workers; first = at.ends }) at m
first workers at m opens none blank nought = record {
  lines = [];
  done = record {
    done = record {
      come = tt;
      allowed = allowed workers m _ opens.stands;
      read = nothing_read at.ends.left at.held none;
      before = [];
      written = wrote_none at.ends.contents;
      says = sym blank;
      journal = notes_none at.ends.journal;
      taken = ap (λ (c : Counts). c.read) nought;
      counted = ap (λ (c : Counts). c.written) nought;
    };
    stands = opens.stands;
  };
  none = blank;
  part = (subst IsLine (sym none) (λ k d low. absurd (omega (arith, low))), omega (arith, ap length none));
  range = opens.counted;
}

-- want of memory for a further line
pub out_of_memory : (run : Setting) (at : Progress) (lines : List LiveLine) → Done run at lines → at.text ≡ [] → length at.held ≤ piece → BeginsWanting run.workers (live_history run.workers lines) at.held → Runs (Err s.Memory) run.workers run.first at.ends
out_of_memory run at lines done none near begins =
    taken_so_far run at lines (BeginsWanting run.workers) (BeginsWanting run.workers) (Writes run.first at.ends (λ _ _. Unit {0})) done near begins
    (λ more. begins_on _ at.held more begins) (all_written run at lines (λ _ _. Unit {0}) done none tt)

-- a further line for which there is no room
pub full : (run : Setting) (at : Progress) (lines : List LiveLine) → Done run at lines → at.text ≡ [] → length at.held ≤ piece → BeginsBeyond run.workers (live_history run.workers lines) at.held → Runs (Err s.Full) run.workers run.first at.ends
full run at lines done none near begins =
    taken_so_far run at lines (BeginsBeyond run.workers) (BeginsBeyond run.workers) (Writes run.first at.ends (λ _ _. Unit {0})) done near begins
    (λ more. begins_on _ at.held more begins) (all_written run at lines (λ _ _. Unit {0}) done none tt)

-- what follows is no line
none_follows : (held more : List ℕ) → IsLiveFront front.Refused held → IsUnread live_line FitsLive (held ++ more) × (0 < length (held ++ more))
none_follows held more stop = (
  unread (held ++ more) (unread_whatever_follows held stop.0 stop.2 more) (no_call_follows held stop.1 stop.2 more),
  omega (arith, some_bytes held stop.2, length-append held more),
)

pub refused : (run : Setting) (at : Progress) (lines : List LiveLine) (n : ℕ) → Done run at lines → at.text ≡ [] → length at.held ≤ piece → IsLiveFront front.Refused at.held → n ≡ at.counts.read + 1 →
    Runs (Err (s.EventLine n)) run.workers run.first at.ends
refused run at lines n done none near stop is =
    taken_so_far run at lines (λ _. IsNoLine at.ends.left) (λ _ rest. IsUnread live_line FitsLive rest × (0 < length rest)) (Writes run.first at.ends (λ lines _. n ≡ length lines + 1)) done near
    (inl stop) (λ more. none_follows at.held more stop)
    (all_written run at lines (λ lines _. n ≡ length lines + 1) done none (omega (arith, is, done.taken)))

-- the end of the input, with nothing held
pub ended : (run : Setting) (at : Progress) (lines : List LiveLine) (report : LiveReport) → Done run at lines → at.text ≡ [] → IsAtEnd at.ends.left → at.held ≡ [] → report ≡ record { lines_read = at.counts.read; lines_written = at.counts.written } →
    Runs (Ok report) run.workers run.first at.ends
ended run at lines report done blank end none is =
    taken_at_end run at lines (λ _ ahead. ahead ≡ []) (λ _ rest. rest ≡ []) (Writes run.first at.ends (λ lines so_far. (report.lines_read ≡ length lines) × (report.lines_written ≡ trace_length so_far))) done end
    (omega (arith, ap length none)) none none
    (all_written run at lines (λ lines so_far. (report.lines_read ≡ length lines) × (report.lines_written ≡ trace_length so_far)) done blank
    (ap (λ (r : LiveReport). r.lines_read) is ∙ done.taken, ap (λ (r : LiveReport). r.lines_written) is ∙ done.counted))

-- the end of the input, with a part of a line held
pub cut_off : (run : Setting) (at : Progress) (lines : List LiveLine) (n : ℕ) → Done run at lines → at.text ≡ [] → IsAtEnd at.ends.left → IsPart at.held → 0 < length at.held → n ≡ at.counts.read + 1 →
    Runs (Err (s.EventLine n)) run.workers run.first at.ends
cut_off run at lines n done none end part some is =
    taken_at_end run at lines (λ _. IsNoLine at.ends.left) (λ _ rest. IsUnread live_line FitsLive rest × (0 < length rest)) (Writes run.first at.ends (λ lines _. n ≡ length lines + 1)) done end
    (omega (arith, part.1)) (inr (part, some, end)) (unread at.held (unread_part at.held part.0) (no_call_in_part at.held part.0), some)
    (all_written run at lines (λ lines _. n ≡ length lines + 1) done none (omega (arith, is, done.taken)))

-- a fault of the reader
pub faulted : (run : Setting) (at : Progress) (m : LiveView) (left : Option (List ℕ)) → IsBetweenTurns run at m → Keeps at.ends.left left →
    Runs (Err s.Read) run.workers run.first (record { left = left; contents = at.ends.contents; journal = at.ends.journal })
faulted run at m left between keeps =
    let here : Progress = record { ends = record { left = left; contents = at.ends.contents; journal = at.ends.journal }; held = at.held; text = at.text; counts = at.counts } in
    let lines = between.lines in
    let done = filled run at lines left at.held [] between.done.done (kept_none at.ends.left left keeps) (sym (append-nil at.held)) in
    taken_so_far run here lines (λ _ ahead. IsPart ahead) (λ _ _. Unit {0}) (Writes run.first here.ends (λ _ _. Unit {0})) done (omega (arith, between.part.1)) between.part (λ more. tt)
    (all_written run here lines (λ _ _. Unit {0}) done between.none tt)

-- a fault of the writer, after a front of the text at hand
pub unwritten : (run : Setting) (at : Progress) (lines : List LiveLine) (contents : Option (List ℕ)) (n : ℕ) → Done run at lines → length at.held ≤ piece → Appends at.ends.contents contents (take n at.text) →
    Runs (Err s.Write) run.workers run.first (record { left = at.ends.left; contents = contents; journal = at.ends.journal })
unwritten run at lines contents n done near appends =
    let whole : Progress = record { ends = record { left = at.ends.left; contents = contents; journal = at.ends.journal }; held = at.held; text = at.text; counts = at.counts } in
    let front : (k : ℕ) × Appends run.first.contents contents (take k (trace_of (live_history run.workers lines))) = (
      length done.before + n,
      subst (λ (l : List ℕ). Appends run.first.contents contents (take (length done.before + n) l)) (sym done.says) (gave_front run.first.contents at.ends.contents contents done.before at.text n done.written appends),
    ) in
    record {
      lines = lines;
      come = done.come;
      allowed = done.allowed;
      ahead = at.held;
      read = read_so_far run.first.left at.ends.left at.held (input_of lines) done.read;
      near = near;
      stops = tt;
      splits = so_far run.first.left at.ends.left at.held (input_of lines) (λ _. Unit {0}) done.read (λ more. tt);
      journal = done.journal;
      gives = front;
    }

-- a fault of the writer, after a front of the text at hand and of that of more lines
pub cut_short : (run : Setting) (left contents : Option (List ℕ)) (held : List ℕ) (journal : JournalView) → length held ≤ piece → IsCut run left held contents journal →
    Runs (Err s.Write) run.workers run.first (record { left = left; contents = contents; journal = journal })
cut_short run left contents held journal near cut = record {
  lines = cut.lines;
  come = cut.come;
  allowed = cut.allowed;
  ahead = cut.rest;
  read = read_so_far run.first.left left cut.rest (input_of cut.lines) cut.read;
  near = omega (arith, near, cut.short);
  stops = tt;
  splits = so_far run.first.left left cut.rest (input_of cut.lines) (λ _. Unit {0}) cut.read (λ more. tt);
  journal = cut.notes;
  gives = cut.front;
}

-- ---- turns end

-- each turn brings a line or a byte
pub smaller : (limit old new : ℕ) (held bytes whole rest : List ℕ) → whole ≡ held ++ bytes → 0 < length bytes → old ≤ new → new ≤ limit → (new ≡ old → rest ≡ whole) → length rest < most_event_bytes → length held < most_event_bytes →
    (limit - new) * (most_event_bytes + 1) + (most_event_bytes - length rest) < (limit - old) * (most_event_bytes + 1) + (most_event_bytes - length held)
smaller limit old new held bytes whole rest all some rises within same short part = by (new - old) (omega (arith, rises))
  where
    by : (n : ℕ) → new ≡ old + n → (limit - new) * (most_event_bytes + 1) + (most_event_bytes - length rest) < (limit - old) * (most_event_bytes + 1) + (most_event_bytes - length held)
    by zero is = let whole_on : rest ≡ whole = same (omega (arith, is)) in omega (arith, is, ap length whole_on, ap length all, length-append held bytes, some, short, part)
    by (suc n) is = omega (arith, is, within, short, part)

-- the end of the input
pub at_the_end : (run : Setting) (at : Progress) (m n : LiveView) (left : Option (List ℕ)) (held : List ℕ) (result : Result Turn StopError) → IsBetweenTurns run at m → Consumes at.ends.left left [] → IsAtEnd left → held ≡ at.held →
    MatchResult result
    (λ turn. (turn ≡ t.Ended (record { lines_read = at.counts.read; lines_written = at.counts.written })) × (held ≡ []))
    (λ e. (e ≡ s.EventLine (at.counts.read + 1)) × (0 < length held))
    → Turns result run at (record { ends = record { left = left; contents = at.ends.contents; journal = at.ends.journal }; held = held; text = at.text; counts = at.counts }) n
at_the_end run at m n left held (Ok turn) between none end same is =
    let next : Progress = record { ends = record { left = left; contents = at.ends.contents; journal = at.ends.journal }; held = held; text = at.text; counts = at.counts } in
    let done = filled run at between.lines left held [] between.done.done none (same ∙ sym (append-nil at.held)) in
    subst (λ (turn : Turn). Turns (Ok turn) run at next n) (sym is.0) (ended run next between.lines (record { lines_read = at.counts.read; lines_written = at.counts.written }) done between.none end is.1 refl)
at_the_end run at m n left held (Err e) between none end same is =
    let next : Progress = record { ends = record { left = left; contents = at.ends.contents; journal = at.ends.journal }; held = held; text = at.text; counts = at.counts } in
    let done = filled run at between.lines left held [] between.done.done none (same ∙ sym (append-nil at.held)) in
    subst (λ (e : StopError). Turns (Err e) run at next n) (sym is.0) (cut_off run next between.lines (at.counts.read + 1) done between.none end (subst IsPart (sym same) between.part) is.1 refl)

-- a run that stopped, once it had begun
pub ran_to_a_stop : (workers : ℕ) (e : StopError) (old new : LiveEnds) → IsWorkerCount workers → Runs (Err e) workers old new → Ran (Err (told_of_stop e)) workers old new
ran_to_a_stop workers (s.EventLine n) old new counted runs = (counted, runs)
ran_to_a_stop workers s.Full old new counted runs = (counted, runs)
ran_to_a_stop workers s.Read old new counted runs = (counted, runs)
ran_to_a_stop workers s.Write old new counted runs = (counted, runs)
ran_to_a_stop workers s.Memory old new counted runs = inr (counted, runs)
