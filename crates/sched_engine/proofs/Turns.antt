-- Turns: what a read, the answers to what it brought, and a write make of a run, and how a run ends.
use Rattle.std.proofs.Common.{◌≡◌, ℕ, zero, suc, ◌+◌, ◌-◌, ◌*◌, ◌^◌, ◌<◌, ◌≤◌, List, [], ◌∷◌, ◌++◌, take, drop, length, Option, Some, None, Result, Ok, Err, MatchResult, inl, inr, refl, ap, ◌∙◌, sym, subst, arith, append_assoc, append-nil, length-append, length-drop, take-append-drop}
use Rattle.std.proofs.lemmas.List.Elements.{All-append, All-cons, All-nil}
use Rattle.std.specs.Io.KnownBytes.{Consumes, Appends, Keeps, IsAtEnd, prepend_known}
use Rattle.executor_model.specs.declared.Event.{Event}
use Rattle.queue_code.specs.Calls.{Planned, IsOrderly, IsPlanned}
use Rattle.executor_model.specs.Flows.{history_of, lines_of, part_of}
use Rattle.executor_core.specs.CoreView.{CoreView, workers_of, Stands}
use Rattle.executor_model.proofs.Flowing.{flow_means}
use Rattle.trace_text.specs.Spelling.{IsLine, event_line, lines_text, FitsEvent}
use Rattle.sched_engine.specs.declared.report.Report.{Report}
use Rattle.sched_engine.specs.declared.engine.Turn.{Turn}
use Rattle.sched_engine.specs.declared.engine.Turn.TheVariants as t
use Rattle.sched_engine.specs.declared.report.StopError.{StopError}
use Rattle.sched_engine.specs.declared.report.StopError.TheVariants as s
use Rattle.sched_engine.specs.Stages.{told_of_stop}
use Rattle.sched_engine.specs.Inputs.{AreEvents, input_of, IsRefused, BeginsWithEvent}
use Rattle.byte_ends.specs.Refills.{piece}
use Rattle.sched_engine.specs.Running.{IsAccepted, IsNoEventLine, IsTrace, Ran, Runs, Taken, text_of}
use Rattle.sched_engine.specs.Pieces.{Output}
use Rattle.sched_engine.specs.Cores.{Opens}
use Rattle.sched_engine.specs.own.Turns.{CutsSteps, Done, Extends, IsAnswered, IsBetweenTurns, IsCut, StandsAfterEvents, Progress, Setting, Turns, answers_to}
use Rattle.trace_text.specs.declared.front.Front.TheVariants as front
use Rattle.trace_text.specs.Reading.{IsFront, most_event_bytes}
use Rattle.trace_text.proofs.Fronts.{some_bytes, unread_part, unread_whatever_follows}
use Rattle.sched_engine.proofs.Runs.{at_end, so_far, read_so_far, came, took, gave, gave_front}
use Rattle.sched_engine.proofs.Giving.{wrote_none}
use Rattle.sched_engine.proofs.Inputs.{event_says, input_of-append, line_is, lines_few, next_is, flow_happens}

-- the history of some events is their trace
pub trace_of : (calls : List Planned) (workers : ℕ) (events : List Event) → IsOrderly calls → IsTrace calls workers events (history_of calls workers events)
trace_of calls workers events o = record { means = flow_means calls workers events o; flows = flow_happens calls workers events }

-- ---- one turn

-- the core of a run stands where its events led it
pub standing : (run : Setting) (at : Progress) → Done run at → StandsAfterEvents at.core
standing run at done =
    let P : List Planned → ℕ → Type 0 = λ calls workers. Stands at.core (history_of calls workers done.events) in
    record {
      events = done.events;
      orderly = subst IsPlanned (sym done.calls) done.orderly;
      stands = subst (P at.core.calls) (sym done.workers) (subst (λ calls. P calls run.workers) (sym done.calls) done.stands);
      taken = done.taken;
      within = omega (arith, done.within, done.limit);
      small = omega (arith, done.small, done.limit);
    }

-- the lines of a run are few enough to be counted
pub few_lines : (run : Setting) (at : Progress) → Done run at → at.count < 2 ^ 34
few_lines run at done = omega (arith, done.counted, lines_few run.calls run.workers done.events done.orderly, done.taken, done.within, done.small)

-- bytes came in behind those held
pub filled : (run : Setting) (at : Progress) (left : Option (List ℕ)) (held bytes : List ℕ) → Done run at → Consumes at.left left bytes → held ≡ at.held ++ bytes → Done run (record at { left = left; held = held })
filled run at left held bytes done new all = record {
  events = done.events;
  fit = done.fit;
  read = came run.input at.left left at.held bytes held (input_of done.events) done.read new all;
  before = done.before;
  written = done.written;
  says = done.says;
  counted = done.counted;
  taken = done.taken;
  within = done.within;
  stands = done.stands;
  calls = done.calls;
  workers = done.workers;
  limit = done.limit;
  orderly = done.orderly;
  small = done.small;
}

-- the events at the front of the bytes that are held were answered
pub answered : (run : Setting) (at : Progress) (core : CoreView) (taken count : ℕ) (out : Output) → Done run at → IsAnswered at.core core at.held taken (record { contents = at.contents; text = at.text }) out count → core.taken ≤ core.limit →
    Done run (record { left = at.left; held = drop taken at.held; text = out.text; contents = out.contents; core = core; count = at.count + count })
answered run at core taken count out done a within =
    let P : List Planned → ℕ → Type 0 = λ calls workers. Stands at.core (history_of calls workers done.events) → Extends calls workers core a.more done.events a.text count in
    let goes : P run.calls run.workers = subst (P run.calls) done.workers (subst (λ calls. P calls (workers_of at.core)) done.calls (a.extends (subst IsOrderly (sym done.calls) done.orderly.1) done.events)) in
    let more = goes done.stands in
    let written = a.written.0 in
    record {
      events = a.more ++ done.events;
      fit = All-append FitsEvent a.more done.events a.fit done.fit;
      read = subst (Consumes run.input (prepend_known (drop taken at.held) at.left)) (sym (input_of-append a.more done.events)) (took run.input at.left at.held (input_of done.events) (input_of a.more) taken done.read a.front);
      before = done.before ++ written;
      written = gave run.contents at.contents out.contents done.before written done.written a.written.1;
      says = more.says ∙ (ap (λ l. l ++ a.text) done.says ∙ (append_assoc done.before at.text a.text ∙ (ap (λ l. done.before ++ l) a.written.2 ∙ sym (append_assoc done.before written out.text))));
      counted = omega (arith, more.counted, done.counted);
      taken = omega (arith, a.events, done.taken, length-append a.more done.events);
      within = omega (arith, within, a.limit, done.limit);
      stands = more.stands;
      calls = a.calls ∙ done.calls;
      workers = a.workers ∙ done.workers;
      limit = a.limit ∙ done.limit;
      orderly = done.orderly;
      small = done.small;
    }

-- the text at hand was written
pub wrote : (run : Setting) (at : Progress) (contents : Option (List ℕ)) (text : List ℕ) → Done run at → Appends at.contents contents at.text → text ≡ [] → Done run (record at { contents = contents; text = text })
wrote run at contents text done appends none = record {
  events = done.events;
  fit = done.fit;
  read = done.read;
  before = done.before ++ at.text;
  written = gave run.contents at.contents contents done.before at.text done.written appends;
  says = done.says ∙ (sym (append-nil (done.before ++ at.text)) ∙ ap (λ l. (done.before ++ at.text) ++ l) (sym none));
  counted = done.counted;
  taken = done.taken;
  within = done.within;
  stands = done.stands;
  calls = done.calls;
  workers = done.workers;
  limit = done.limit;
  orderly = done.orderly;
  small = done.small;
}

-- ---- the ends of a run

-- before anything was read
pub nothing_read : (a : Option (List ℕ)) (held : List ℕ) → held ≡ [] → Consumes a (prepend_known held a) []
nothing_read None held none = tt
nothing_read (Some xs) held none = ap (λ l. l ++ xs) (sym none)

-- what is left as it was gave no byte
pub kept_none : (a b : Option (List ℕ)) → Keeps a b → Consumes a b []
kept_none None b p = tt
kept_none (Some xs) None p = absurd p
kept_none (Some xs) (Some ys) p = sym p

-- before anything was read
pub first : (at : Progress) (text : List ℕ) (workers limit : ℕ) → Opens at.core text workers limit → at.held ≡ [] → at.text ≡ [] → at.count ≡ 0 →
    IsBetweenTurns (record { calls = at.core.calls; workers = workers; limit = limit; input = at.left; contents = at.contents }) at
first at text workers limit opens none blank nought = record {
  done = record {
    events = [];
    fit = All-nil FitsEvent;
    read = nothing_read at.left at.held none;
    before = [];
    written = wrote_none at.contents;
    says = sym blank;
    counted = sym nought;
    taken = opens.taken;
    within = omega (arith, opens.taken);
    stands = opens.stands;
    calls = refl;
    workers = opens.count;
    limit = opens.most;
    orderly = opens.orderly;
    small = opens.small;
  };
  none = blank;
  part = subst IsLine (sym none) (λ k d low. absurd (omega (arith, low)));
  short = omega (arith, ap length none);
}

-- what was written is the trace, where no text is at hand
all_written : (run : Setting) (at : Progress) → (done : Done run at) → at.text ≡ [] → Appends run.contents at.contents (text_of run.calls (history_of run.calls run.workers done.events))
all_written run at done none = subst (Appends run.contents at.contents) (sym (done.says ∙ (ap (λ l. done.before ++ l) none ∙ append-nil done.before))) done.written

-- some events were taken, and more of the input may follow what is held
taken_of : (run : Setting) (left : Option (List ℕ)) (held : List ℕ) (events : List Event) (IsAhead IsRest : List ℕ → Type 0) (Gives : ℕ → ℕ → List ℕ → Type 0) → AreEvents events → Consumes run.input (prepend_known held left) (input_of events) →
    length events ≤ run.limit → IsOrderly run.calls → length held ≤ piece → IsAhead held → ((more : List ℕ) → IsRest (held ++ more)) →
    Gives (length events) (length (lines_of run.calls (history_of run.calls run.workers events))) (text_of run.calls (history_of run.calls run.workers events)) →
    Taken run.calls run.workers run.limit run.input left IsAhead IsRest Gives
taken_of run left held events IsAhead IsRest Gives fit read within orderly near stops rest gives = record {
  events = events;
  fit = fit;
  past = history_of run.calls run.workers events;
  trace = trace_of run.calls run.workers events orderly;
  ahead = held;
  read = read_so_far run.input left held (input_of events) read;
  near = near;
  stops = stops;
  splits = so_far run.input left held (input_of events) IsRest read rest;
  within = within;
  gives = gives;
}

-- what was taken so far, where more of the input may follow
taken_so_far : (run : Setting) (at : Progress) (IsAhead IsRest : List ℕ → Type 0) (Gives : ℕ → ℕ → List ℕ → Type 0) → (done : Done run at) → length at.held ≤ piece → IsAhead at.held → ((more : List ℕ) → IsRest (at.held ++ more)) →
    Gives (length done.events) (length (lines_of run.calls (history_of run.calls run.workers done.events))) (text_of run.calls (history_of run.calls run.workers done.events)) →
    Taken run.calls run.workers run.limit run.input at.left IsAhead IsRest Gives
taken_so_far run at IsAhead IsRest Gives done near stops rest gives =
    taken_of run at.left at.held done.events IsAhead IsRest Gives done.fit done.read (omega (arith, done.taken, done.within)) done.orderly.1 near stops rest gives

-- the same where the input has ended
taken_at_end : (run : Setting) (at : Progress) (IsAhead IsRest : List ℕ → Type 0) (Gives : ℕ → ℕ → List ℕ → Type 0) → (done : Done run at) → IsAtEnd at.left → length at.held ≤ piece → IsAhead at.held → IsRest at.held →
    Gives (length done.events) (length (lines_of run.calls (history_of run.calls run.workers done.events))) (text_of run.calls (history_of run.calls run.workers done.events)) →
    Taken run.calls run.workers run.limit run.input at.left IsAhead IsRest Gives
taken_at_end run at IsAhead IsRest Gives done end near stops rest gives = record {
  events = done.events;
  fit = done.fit;
  past = history_of run.calls run.workers done.events;
  trace = trace_of run.calls run.workers done.events done.orderly.1;
  ahead = at.held;
  read = read_so_far run.input at.left at.held (input_of done.events) done.read;
  near = near;
  stops = stops;
  splits = at_end run.input at.left at.held (input_of done.events) IsRest done.read end rest;
  within = omega (arith, done.taken, done.within);
  gives = gives;
}

-- what begins with an event's line does so whatever follows
begins_whatever_follows : (held more : List ℕ) → BeginsWithEvent held → BeginsWithEvent (held ++ more)
begins_whatever_follows held more begins = (begins.0, begins.1 ++ more, begins.2, ap (λ l. l ++ more) begins.3 ∙ append_assoc (event_line begins.0) begins.1 more)

-- want of memory for the answer to a further event, below the limit
pub out_of_memory : (run : Setting) (at : Progress) → Done run at → at.text ≡ [] → length at.held ≤ piece → at.core.taken < at.core.limit → BeginsWithEvent at.held →
    Runs (Err s.Memory) run.calls run.workers run.limit run.input at.left run.contents at.contents
out_of_memory run at done none near below begins =
    taken_so_far run at BeginsWithEvent BeginsWithEvent (λ events lines trace. (events < run.limit) × Appends run.contents at.contents trace) done near begins
    (λ more. begins_whatever_follows at.held more begins) (omega (arith, below, done.limit, done.taken), all_written run at done none)

-- a rest that is refused
pub refused : (run : Setting) (at : Progress) (n : ℕ) → Done run at → at.text ≡ [] → length at.held ≤ piece → IsFront front.Refused at.held → n ≡ at.core.taken + 1 →
    Runs (Err (s.EventLine n)) run.calls run.workers run.limit run.input at.left run.contents at.contents
refused run at n done none near stop is =
    taken_so_far run at (IsNoEventLine at.left) (λ rest. IsRefused rest × (0 < length rest)) (λ events lines trace. (n ≡ events + 1) × Appends run.contents at.contents trace) done near (inl stop)
    (λ more. (unread_whatever_follows at.held stop.0 stop.1 more, omega (arith, some_bytes at.held stop.1, length-append at.held more))) (omega (arith, is, done.taken), all_written run at done none)

-- a further event at the limit
pub full : (run : Setting) (at : Progress) → Done run at → at.text ≡ [] → length at.held ≤ piece → at.core.taken ≡ at.core.limit → BeginsWithEvent at.held →
    Runs (Err s.Full) run.calls run.workers run.limit run.input at.left run.contents at.contents
full run at done none near reached begins =
    taken_so_far run at BeginsWithEvent BeginsWithEvent (λ events lines trace. (events ≡ run.limit) × Appends run.contents at.contents trace) done near begins
    (λ more. begins_whatever_follows at.held more begins) (omega (arith, reached, done.limit, done.taken), all_written run at done none)

-- the end of the input, with nothing held
pub ended : (run : Setting) (at : Progress) (report : Report) → Done run at → at.text ≡ [] → IsAtEnd at.left → at.held ≡ [] → report ≡ record { events = at.core.taken; lines = at.count } →
    Runs (Ok report) run.calls run.workers run.limit run.input at.left run.contents at.contents
ended run at report done blank end none is =
    taken_at_end run at (λ ahead. ahead ≡ []) (λ rest. rest ≡ []) (λ events lines trace. (events ≡ report.events) × (lines ≡ report.lines) × Appends run.contents at.contents trace) done end
    (omega (arith, ap length none)) none none
    (sym done.taken ∙ sym (ap (λ r. r.events) is), done.counted ∙ sym (ap (λ r. r.lines) is), all_written run at done blank)

-- the end of the input, with a part of a line held
pub cut_off : (run : Setting) (at : Progress) (n : ℕ) → Done run at → at.text ≡ [] → IsAtEnd at.left → IsLine at.held → length at.held < most_event_bytes → 0 < length at.held → n ≡ at.core.taken + 1 →
    Runs (Err (s.EventLine n)) run.calls run.workers run.limit run.input at.left run.contents at.contents
cut_off run at n done none end part short some is =
    taken_at_end run at (IsNoEventLine at.left) (λ rest. IsRefused rest × (0 < length rest)) (λ events lines trace. (n ≡ events + 1) × Appends run.contents at.contents trace) done end
    (omega (arith, short)) (inr ((part, short), some, end)) (unread_part at.held part, some) (omega (arith, is, done.taken), all_written run at done none)

-- a fault of the reader
pub faulted : (run : Setting) (at : Progress) (left : Option (List ℕ)) → IsBetweenTurns run at → Keeps at.left left → Runs (Err s.Read) run.calls run.workers run.limit run.input left run.contents at.contents
faulted run at left between keeps =
    let here : Progress = record at { left = left } in
    let done = filled run at left at.held [] between.done (kept_none at.left left keeps) (sym (append-nil at.held)) in
    taken_so_far run here (λ ahead. IsLine ahead × (length ahead < most_event_bytes)) (λ rest. Unit {0}) (λ events lines trace. Appends run.contents at.contents trace) done (omega (arith, between.short)) (between.part, between.short) (λ more. tt)
    (all_written run here done between.none)

-- a fault of the writer, after a front of the text at hand
pub unwritten : (run : Setting) (at : Progress) (contents : Option (List ℕ)) (n : ℕ) → Done run at → length at.held ≤ piece → Appends at.contents contents (take n at.text) →
    Runs (Err s.Write) run.calls run.workers run.limit run.input at.left run.contents contents
unwritten run at contents n done near appends =
    taken_so_far run at (λ ahead. Unit {0}) (λ rest. Unit {0}) (λ events lines trace. (k : ℕ) × Appends run.contents contents (take k trace)) done near tt (λ more. tt)
    (length done.before + n, subst (λ (l : List ℕ). Appends run.contents contents (take (length done.before + n) l)) (sym done.says) (gave_front run.contents at.contents contents done.before at.text n done.written appends))

-- a fault of the writer, after a front of the text at hand and of the text of one event more
cut_in : (run : Setting) (at : Progress) (contents : Option (List ℕ)) (event : Event) (rest : List ℕ) → Done run at → length at.held ≤ piece → at.core.taken < at.core.limit → FitsEvent event → at.held ≡ event_line event ++ rest →
    CutsSteps at.core (part_of at.core.calls at.core.made at.core.moment event) (record { contents = at.contents; text = at.text }) contents → Runs (Err s.Write) run.calls run.workers run.limit run.input at.left run.contents contents
cut_in run at contents event rest done near below fits further cut =
    let events = event ∷ done.events in
    let text = lines_text (answers_to at.core (part_of at.core.calls at.core.made at.core.moment event)) in
    let P : List Planned → ℕ → Type 0 = λ calls workers. Stands at.core (history_of calls workers done.events)
    → text_of calls (history_of calls workers events) ≡ text_of calls (history_of calls workers done.events) ++ text in
    let more : P run.calls run.workers =
    subst (P run.calls) done.workers (subst (λ calls. P calls (workers_of at.core)) done.calls (event_says at.core event done.events (subst IsOrderly (sym done.calls) done.orderly.1))) in
    let says : text_of run.calls (history_of run.calls run.workers events) ≡ done.before ++ (at.text ++ text) = more done.stands ∙ (ap (λ l. l ++ text) done.says ∙ append_assoc done.before at.text text) in
    let read : Consumes run.input (prepend_known rest at.left) (input_of events) =
    subst (λ (l : List ℕ). Consumes run.input (prepend_known l at.left) (input_of events)) (next_is event at.held rest further)
    (took run.input at.left at.held (input_of done.events) (event_line event) (length (event_line event)) done.read (line_is event at.held rest further)) in
    taken_of run at.left rest events (λ ahead. Unit {0}) (λ rest. Unit {0}) (λ events lines trace. (k : ℕ) × Appends run.contents contents (take k trace)) (All-cons FitsEvent event done.events fits done.fit) read
    (omega (arith, below, done.limit, done.taken)) done.orderly.1 (omega (arith, near, ap length further, length-append (event_line event) rest)) tt (λ more. tt)
    (length done.before + cut.0, subst (λ (l : List ℕ). Appends run.contents contents (take (length done.before + cut.0) l)) (sym says) (gave_front run.contents at.contents contents done.before (at.text ++ text) cut.0 done.written cut.1))

-- a fault of the writer, after a front of the text at hand and of the text of more events
pub cut_short : (run : Setting) (at : Progress) (contents : Option (List ℕ)) → Done run at → length at.held ≤ piece → IsCut at.core at.held (record { contents = at.contents; text = at.text }) contents →
    Runs (Err s.Write) run.calls run.workers run.limit run.input at.left run.contents contents
cut_short run at contents done near cut =
    let whole : Progress = record { left = at.left; held = drop cut.taken at.held; text = cut.after.text; contents = cut.after.contents; core = cut.core; count = at.count + cut.count } in
    cut_in run whole contents cut.event cut.rest (answered run at cut.core cut.taken cut.count cut.after done cut.answered (omega (arith, cut.below))) (omega (arith, near, length-drop cut.taken at.held)) cut.below cut.fits cut.further cut.front

-- ---- turns end

-- each turn brings an event or a byte
pub smaller : (limit old new : ℕ) (held bytes whole rest : List ℕ) → whole ≡ held ++ bytes → 0 < length bytes → old ≤ new → new ≤ limit → (new ≡ old → rest ≡ whole) → length rest < most_event_bytes → length held < most_event_bytes →
    (limit - new) * (most_event_bytes + 1) + (most_event_bytes - length rest) < (limit - old) * (most_event_bytes + 1) + (most_event_bytes - length held)
smaller limit old new held bytes whole rest all some rises within same short part = by (new - old) (omega (arith, rises))
  where
    by : (n : ℕ) → new ≡ old + n → (limit - new) * (most_event_bytes + 1) + (most_event_bytes - length rest) < (limit - old) * (most_event_bytes + 1) + (most_event_bytes - length held)
    by zero is = let whole_on : rest ≡ whole = same (omega (arith, is)) in omega (arith, is, ap length whole_on, ap length all, length-append held bytes, some, short, part)
    by (suc n) is = omega (arith, is, within, short, part)

-- where no event was taken, no byte was
pub nothing_taken : (old new : CoreView) (held : List ℕ) (taken : ℕ) (before after : Output) (count : ℕ) → IsAnswered old new held taken before after count → new.taken ≡ old.taken → drop taken held ≡ held
nothing_taken old new held taken before after count a same = by a.more a.front a.events
  where
    by : (more : List Event) → take taken held ≡ input_of more → new.taken ≡ old.taken + length more → drop taken held ≡ held
    by [] front is = ap (λ l. l ++ drop taken held) (sym front) ∙ take-append-drop taken held
    by (e ∷ more) front is = absurd (omega (arith, is, same))

-- the end of the input
pub at_the_end : (run : Setting) (at : Progress) (left : Option (List ℕ)) (held : List ℕ) (result : Result Turn StopError) → IsBetweenTurns run at → Consumes at.left left [] → IsAtEnd left → held ≡ at.held →
    MatchResult result
    (λ turn. (turn ≡ t.Ended (record { events = at.core.taken; lines = at.count })) × (held ≡ []))
    (λ e. (e ≡ s.EventLine (at.core.taken + 1)) × (0 < length held))
    → Turns result run at (record at { left = left; held = held })
at_the_end run at left held (Ok turn) between none end same is =
    let next : Progress = record at { left = left; held = held } in
    let done = filled run at left held [] between.done none (same ∙ sym (append-nil at.held)) in
    subst (λ (turn : Turn). Turns (Ok turn) run at next) (sym is.0) (ended run next (record { events = at.core.taken; lines = at.count }) done between.none end is.1 refl)
at_the_end run at left held (Err e) between none end same is =
    let next : Progress = record at { left = left; held = held } in
    let done = filled run at left held [] between.done none (same ∙ sym (append-nil at.held)) in
    subst (λ (e : StopError). Turns (Err e) run at next) (sym is.0) (cut_off run next (at.core.taken + 1) done between.none end (subst IsLine (sym same) between.part) (omega (arith, ap length same, between.short)) is.1 refl)

-- a run that stopped, once its plan was accepted
pub ran_to_a_stop : (run : Setting) (e : StopError) (text : List ℕ) (left contents : Option (List ℕ)) → IsAccepted text run.calls run.workers run.limit → Runs (Err e) run.calls run.workers run.limit run.input left run.contents contents →
    Ran (Err (told_of_stop e)) text run.workers run.limit run.input left run.contents contents
ran_to_a_stop run (s.EventLine n) text left contents accepted runs = (run.calls, accepted, runs)
ran_to_a_stop run s.Full text left contents accepted runs = (run.calls, accepted, runs)
ran_to_a_stop run s.Read text left contents accepted runs = (run.calls, accepted, runs)
ran_to_a_stop run s.Write text left contents accepted runs = (run.calls, accepted, runs)
ran_to_a_stop run s.Memory text left contents accepted runs = inr (run.calls, accepted, runs)
