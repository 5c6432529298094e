-- Going: what a read, a line that is taken, and a write make of a live run.
use Rattle.std.proofs.Common.{◌≡◌, ℕ, ◌+◌, ◌-◌, ◌≤◌, List, [], ◌∷◌, ◌++◌, take, drop, length, Option, Some, None, ap, ◌∙◌, sym, subst, arith, append_assoc, append-nil, length-append}
use Rattle.std.specs.Io.KnownBytes.{Consumes, Appends, prepend_known}
use Rattle.executor_model.specs.declared.Line.{Line}
use Rattle.executor_model.specs.Flows.{lines_of}
use Rattle.trace_text.specs.Spelling.{lines_text}
use Rattle.call_journal.specs.Journals.{JournalView}
use Rattle.live_core.specs.Lives.{LiveView}
use Rattle.sched_engine.specs.Pieces.{Gives, Output}
use Rattle.sched_engine.proofs.Giving.{lines_text-append}
use Rattle.sched_engine.proofs.Runs.{came, gave, gave_front}
use Rattle.live_engine.specs.declared.live_line.LiveLine.{LiveLine}
use Rattle.live_engine.specs.declared.counts.Counts.{Counts}
use Rattle.live_engine.specs.declared.stops.PieceEnd.{PieceEnd}
use Rattle.live_engine.specs.declared.stops.PieceEnd.TheVariants as e
use Rattle.trace_text.specs.Reading.{IsRead}
use Rattle.std.proofs.Math.Seq.{drop-append_seam}
use Rattle.std.proofs.lemmas.List.{drop-drop}
use Rattle.live_engine.specs.LiveLines.{FitsLive, MayCome, live_history, live_line, input_of, meant_in, trace_of}
use Rattle.live_engine.specs.LiveRuns.{made_calls}
use Rattle.live_engine.specs.own.LiveSteps.{Answers, IsAt, IsNotTaken}
use Rattle.live_engine.specs.own.LiveTurns.{Done, DoneAt, IsCut, IsFrontEnd, IsPieceEnd, Progress, Setting}
use Rattle.live_engine.proofs.Steps.{allowed, has_room_meant, takes_meant}
use Rattle.live_engine.proofs.Notings.{notes_line, notes_room}

-- a text at the front of the bytes that are held was done
took_front : (a b : Option (List ℕ)) (held rest done fresh : List ℕ) → Consumes a (prepend_known held b) done → held ≡ fresh ++ rest → Consumes a (prepend_known rest b) (done ++ fresh)
took_front None b held rest done fresh p front = tt
took_front (Some xs) None held rest done fresh p front = absurd p
took_front (Some xs) (Some ys) held rest done fresh p front =
    p ∙ ap (λ l. done ++ (l ++ ys)) front ∙ ap (λ l. done ++ l) (append_assoc fresh rest ys) ∙ sym (append_assoc done fresh (rest ++ ys))

-- bytes came in behind those held
pub filled : (run : Setting) (at : Progress) (lines : List LiveLine) (left : Option (List ℕ)) (held bytes : List ℕ) → Done run at lines → Consumes at.ends.left left bytes → held ≡ at.held ++ bytes →
    Done run (record { ends = record { left = left; contents = at.ends.contents; journal = at.ends.journal }; held = held; text = at.text; counts = at.counts }) lines
filled run at lines left held bytes done new all = record {
  come = done.come;
  allowed = done.allowed;
  read = came run.first.left at.ends.left left at.held bytes held (input_of lines) done.read new all;
  before = done.before;
  written = done.written;
  says = done.says;
  journal = done.journal;
  taken = done.taken;
  counted = done.counted;
}

-- what is known of a run once a line was taken whose answer was given out, but for what was written
pub record Longer (run : Setting) (at : Progress) (new : LiveView) (line : LiveLine) (lines : List LiveLine) (answer : List Line) (rest : List ℕ) : Type 0 where
  pub come : MayCome run.workers (line ∷ lines)
  pub stands : IsAt run.workers new (live_history run.workers (line ∷ lines))
  pub read : Consumes run.first.left (prepend_known rest at.ends.left) (input_of (line ∷ lines))
  pub says : trace_of (live_history run.workers (line ∷ lines)) ≡ trace_of (live_history run.workers lines) ++ lines_text answer
  pub counted : length (lines_of (live_history run.workers (line ∷ lines)).calls (live_history run.workers (line ∷ lines)).past)
      ≡ length (lines_of (live_history run.workers lines).calls (live_history run.workers lines).past) + length answer

longer : (run : Setting) (at : Progress) (old new : LiveView) (line : LiveLine) (lines : List LiveLine) (answer : List Line) (rest : List ℕ) (counts : Counts) (journal : JournalView) → DoneAt run at old lines →
    Answers old new line answer at.counts counts at.ends.journal journal → at.held ≡ live_line line ++ rest → Longer run at new line lines answer rest
longer run at old new line lines answer rest counts journal d a front =
    let so_far = live_history run.workers lines in
    let after = takes_meant old new line a.reply a.takes run.workers so_far d.stands in
    let all = after.longer.lines ∙ ap (λ l. lines_of so_far.calls so_far.past ++ l) (sym a.given) in
    record {
      come = (d.done.come, a.fits, has_room_meant run.workers old so_far line d.stands (a.room run.workers so_far d.stands d.done.counted));
      stands = after.longer.at;
      read = took_front run.first.left at.ends.left at.held rest (input_of lines) (live_line line) d.done.read front;
      says = ap lines_text all ∙ lines_text-append (lines_of so_far.calls so_far.past) answer;
      counted = ap length all ∙ length-append (lines_of so_far.calls so_far.past) answer;
    }

-- a line was taken, and the text of its answer was given out
pub taken : (run : Setting) (at : Progress) (old new : LiveView) (line : LiveLine) (lines : List LiveLine) (answer : List Line) (rest : List ℕ) (counts : Counts) (journal : JournalView) (out : Output) → DoneAt run at old lines →
    Answers old new line answer at.counts counts at.ends.journal journal → at.held ≡ live_line line ++ rest → Gives (record { contents = at.ends.contents; text = at.text }) out (lines_text answer) →
    DoneAt run (record { ends = record { left = at.ends.left; contents = out.contents; journal = journal }; held = rest; text = out.text; counts = counts }) new (line ∷ lines)
taken run at old new line lines answer rest counts journal out d a front gives =
    let done = d.done in
    let more = longer run at old new line lines answer rest counts journal d a front in
    record {
      done = record {
        come = more.come;
        allowed = allowed run.workers new (live_history run.workers (line ∷ lines)) more.stands;
        read = more.read;
        before = done.before ++ gives.0;
        written = gave run.first.contents at.ends.contents out.contents done.before gives.0 done.written gives.1;
        says = more.says ∙ (ap (λ l. l ++ lines_text answer) done.says ∙ (append_assoc done.before at.text (lines_text answer) ∙ (ap (λ l. done.before ++ l) gives.2 ∙ sym (append_assoc done.before gives.0 out.text))));
        journal = notes_line run.first.journal at.ends.journal journal old new line a.reply run.workers lines done.journal a.takes d.stands a.notes;
        taken = ap (λ (n : Counts). n.read) a.counts ∙ omega (arith, done.taken);
        counted = ap (λ (n : Counts). n.written) a.counts ∙ omega (arith, done.counted, more.counted);
      };
      stands = more.stands;
    }

-- a line was taken, and of the text at hand and of that of its answer a front was written
pub cut : (run : Setting) (at : Progress) (old new : LiveView) (line : LiveLine) (lines : List LiveLine) (answer : List Line) (rest : List ℕ) (counts : Counts) (journal : JournalView) (contents : Option (List ℕ)) (n : ℕ) → DoneAt run at old lines →
    Answers old new line answer at.counts counts at.ends.journal journal → at.held ≡ live_line line ++ rest → Appends at.ends.contents contents (take n (at.text ++ lines_text answer)) → IsCut run at.ends.left at.held contents journal
cut run at old new line lines answer rest counts journal contents n d a front appends =
    let done = d.done in
    let more = longer run at old new line lines answer rest counts journal d a front in
    let says : trace_of (live_history run.workers (line ∷ lines)) ≡ done.before ++ (at.text ++ lines_text answer) = more.says ∙ (ap (λ l. l ++ lines_text answer) done.says ∙ append_assoc done.before at.text (lines_text answer)) in
    record {
      lines = line ∷ lines;
      come = more.come;
      allowed = allowed run.workers new (live_history run.workers (line ∷ lines)) more.stands;
      rest = rest;
      short = omega (arith, ap length front, length-append (live_line line) rest);
      read = more.read;
      notes = notes_line run.first.journal at.ends.journal journal old new line a.reply run.workers lines done.journal a.takes d.stands a.notes;
      front = (
        length done.before + n,
        subst (λ (l : List ℕ). Appends run.first.contents contents (take (length done.before + n) l)) (sym says) (gave_front run.first.contents at.ends.contents contents done.before (at.text ++ lines_text answer) n done.written appends),
      );
    }

-- it stands as well among more bytes
pub cut_within : (run : Setting) (left contents : Option (List ℕ)) (held whole : List ℕ) (journal : JournalView) → IsCut run left held contents journal → length held ≤ length whole → IsCut run left whole contents journal
cut_within run left contents held whole journal cut bound = record {
  lines = cut.lines;
  come = cut.come;
  allowed = cut.allowed;
  rest = cut.rest;
  short = omega (arith, cut.short, bound);
  read = cut.read;
  notes = cut.notes;
  front = cut.front;
}

-- the text at hand was written
pub wrote : (run : Setting) (at : Progress) (lines : List LiveLine) (contents : Option (List ℕ)) (text : List ℕ) → Done run at lines → Appends at.ends.contents contents at.text → text ≡ [] →
    Done run (record { ends = record { left = at.ends.left; contents = contents; journal = at.ends.journal }; held = at.held; text = text; counts = at.counts }) lines
wrote run at lines contents text done appends none = record {
  come = done.come;
  allowed = done.allowed;
  read = done.read;
  before = done.before ++ at.text;
  written = gave run.first.contents at.ends.contents contents done.before at.text done.written appends;
  says = done.says ∙ (sym (append-nil (done.before ++ at.text)) ∙ ap (λ l. (done.before ++ at.text) ++ l) (sym none));
  journal = done.journal;
  taken = done.taken;
  counted = done.counted;
}

-- room was made in the journal, and no line was taken
pub unnoted : (run : Setting) (at : Progress) (lines : List LiveLine) (counts : Counts) (journal : JournalView) → Done run at lines → counts ≡ at.counts → journal ≡ record at.ends.journal { room = journal.room } →
    Done run (record { ends = record { left = at.ends.left; contents = at.ends.contents; journal = journal }; held = at.held; text = at.text; counts = counts }) lines
unnoted run at lines counts journal done same room = record {
  come = done.come;
  allowed = done.allowed;
  read = done.read;
  before = done.before;
  written = done.written;
  says = done.says;
  journal = notes_room run.first.journal at.ends.journal journal (made_calls run.workers lines) done.journal room;
  taken = ap (λ (n : Counts). n.read) same ∙ done.taken;
  counted = ap (λ (n : Counts). n.written) same ∙ done.counted;
}

-- ---- where a further line is not taken

-- no line stands in front
pub front_end : (end : PieceEnd) (workers : ℕ) (m : LiveView) (lines : List LiveLine) (rest : List ℕ) → IsFrontEnd end rest → IsAt workers m (live_history workers lines) → IsPieceEnd end workers m lines rest
front_end e.Part workers m lines rest stop at = (stop, at)
front_end e.Refused workers m lines rest stop at = stop
front_end e.Full workers m lines rest stop at = absurd stop
front_end e.Memory workers m lines rest stop at = absurd stop

-- one does, and is not taken
pub line_end : (end : PieceEnd) (workers : ℕ) (m : LiveView) (lines : List LiveLine) (rest behind : List ℕ) (line : LiveLine) → IsRead live_line FitsLive rest line behind →
    IsNotTaken end workers (live_history workers lines) (meant_in (live_history workers lines) line) → IsPieceEnd end workers m lines rest
line_end e.Part workers m lines rest behind line read stop = absurd stop
line_end e.Refused workers m lines rest behind line read stop = absurd stop
line_end e.Full workers m lines rest behind line read stop = record { line = line; rest = behind; read = read; so = stop }
line_end e.Memory workers m lines rest behind line read stop = record { line = line; rest = behind; read = read; so = stop }

-- once a text was taken
pub left_more : (text held rest next : List ℕ) → rest ≡ drop (length held - length rest) held → length rest ≤ length held → rest ≡ text ++ next → next ≡ drop (length held - length next) held
left_more text held rest next behind bound front =
    let size = length text in
    let there : length held - length next ≡ size + (length held - length rest) = omega (arith, bound, ap length front, length-append text next) in
    sym (ap (drop size) front ∙ drop-append_seam text next) ∙ (ap (drop size) behind ∙ (drop-drop size (length held - length rest) held ∙ ap (λ k. drop k held) (turned size (length held - length rest) ∙ sym there)))
  where
    turned : (a b : ℕ) → b + a ≡ a + b
    turned a b = omega arith
