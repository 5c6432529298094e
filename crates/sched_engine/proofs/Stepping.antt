-- Stepping: happenings one behind the other, each with its lines given out before the next.
use Rattle.std.proofs.Common.{◌≡◌, ℕ, ◌+◌, ◌<◌, ◌≤◌, List, [], ◌++◌, ◌⊎◌, inl, inr, take, length, Option, refl, ap, ◌∙◌, sym, subst, arith, append-nil, length-append, take_all}
use Rattle.std.specs.Io.KnownBytes.{Appends}
use Rattle.std.proofs.lemmas.Bool.{cases_lt}
use Rattle.executor_model.specs.declared.Event.{Event}
use Rattle.executor_model.specs.declared.Happening.{Happening}
use Rattle.executor_model.specs.declared.Line.{Line}
use Rattle.queue_code.specs.Calls.{IsOrderly}
use Rattle.executor_model.specs.Flows.{part_of, lines_from}
use Rattle.executor_model.specs.State.{after_from}
use Rattle.executor_core.specs.CoreView.{CoreView, Counts, Steps, state_of, workers_of}
use Rattle.executor_core.proofs.Events.{counted_once, uncounted}
use Rattle.executor_core.proofs.Continuing.{core_continues, no_steps, steps_then}
use Rattle.executor_model.proofs.Flowing.{lines_from-append}
use Rattle.trace_text.specs.Spelling.{lines_text}
use Rattle.sched_engine.specs.Pieces.{Gives, Output}
use Rattle.sched_engine.specs.own.Turns.{CutsSteps, GivesSteps, TakesEvent, answers_to}
use Rattle.sched_engine.proofs.Giving.{gives_both, gives_front, gives_none, gives_put, lines_text-append}

-- ---- steps

-- the same steps, whatever lines stand before theirs
behind : (old new : CoreView) (before lines : List Line) (hs : List Happening) → Steps old new [] lines hs → Steps old new before (before ++ lines) hs
behind old new before lines hs steps = record {
  calls = steps.calls;
  limit = steps.limit;
  workers = steps.workers;
  state = steps.state;
  lines = ap (λ l. before ++ l) steps.lines;
}

-- the lines of happenings behind others
then_lines : (old mid new : CoreView) (hs gs : List Happening) (lines : List Line) → Steps old mid [] (answers_to old hs) hs → Steps mid new [] lines gs
    → Steps old new [] (answers_to old (gs ++ hs)) (gs ++ hs) × (answers_to old (gs ++ hs) ≡ answers_to old hs ++ lines)
then_lines old mid new hs gs lines first second =
    let both = steps_then old mid new [] (answers_to old hs) (answers_to old hs ++ lines) hs gs first (behind mid new (answers_to old hs) lines gs second) in (
      record { calls = both.calls; limit = both.limit; workers = both.workers; state = both.state; lines = refl },
      sym both.lines,
    )

-- some happenings more, whose lines were given out too
pub gives_then : (old mid new : CoreView) (hs gs : List Happening) (a b c : Output) (lines : List Line) (n k : ℕ) → GivesSteps old mid hs a b n → Steps mid new [] lines gs → Gives b c (lines_text lines) → k ≡ length lines
    → GivesSteps old new (gs ++ hs) a c (n + k)
gives_then old mid new hs gs a b c lines n k so_far steps given many =
    let both = then_lines old mid new hs gs lines so_far.steps steps in
    let text : lines_text (answers_to old (gs ++ hs)) ≡ lines_text (answers_to old hs) ++ lines_text lines = ap lines_text both.1 ∙ lines_text-append (answers_to old hs) lines in
    record {
      steps = both.0;
      written = subst (Gives a c) (sym text) (gives_both a b c (lines_text (answers_to old hs)) (lines_text lines) so_far.written given);
      counted = omega (arith, so_far.counted, many, ap length both.1, length-append (answers_to old hs) lines);
    }

-- ---- a fault of the writer on the way

-- a front of a text is no longer than the text
capped : (n : ℕ) (xs : List ℕ) → (k : ℕ) × (k ≤ length xs) × (take k xs ≡ take n xs)
capped n xs = by (cases_lt (length xs) n)
  where
    by : (length xs < n) ⊎ (n ≤ length xs) → (k : ℕ) × (k ≤ length xs) × (take k xs ≡ take n xs)
    by (inl less) = (length xs, omega arith, take_all (length xs) xs (omega arith) ∙ sym (take_all n xs (omega (arith, less))))
    by (inr within) = (n, within, refl)

-- a front of the text at hand and of a text behind it, where more stands before and behind
cut_on : (a b : Output) (contents : Option (List ℕ)) (more next rest all : List ℕ) → Gives a b more → all ≡ (more ++ next) ++ rest → (n : ℕ) × Appends b.contents contents (take n (b.text ++ next))
    → (k : ℕ) × Appends a.contents contents (take k (a.text ++ all))
cut_on a b contents more next rest all given is cut =
    let whole : Output = record { contents = b.contents; text = b.text ++ next } in
    let low = capped cut.0 whole.text in
    gives_front a whole contents (more ++ next) rest all low.0 (gives_put a b more next whole.text given refl) low.1 (subst (Appends b.contents contents) (sym low.2) cut.1) is

-- a front of the text of some happenings is one of the text of these and more
pub cuts_within : (old : CoreView) (hs gs : List Happening) (a : Output) (contents : Option (List ℕ)) → CutsSteps old hs a contents → CutsSteps old (gs ++ hs) a contents
cuts_within old hs gs a contents cut =
    let more = lines_from old.calls (workers_of old) (after_from old.calls (workers_of old) (state_of old) hs) gs in
    let all : lines_text (answers_to old (gs ++ hs)) ≡ lines_text (answers_to old hs) ++ lines_text more =
    ap lines_text (lines_from-append old.calls (workers_of old) (state_of old) gs hs) ∙ lines_text-append (answers_to old hs) more in
    cut_on a a contents [] (lines_text (answers_to old hs)) (lines_text more) (lines_text (answers_to old (gs ++ hs))) (gives_none a) all cut

-- the lines of some happenings were given out, and then a front of those of some more
pub cuts_then : (old mid new : CoreView) (hs gs : List Happening) (a b : Output) (contents : Option (List ℕ)) (lines : List Line) (n : ℕ) → GivesSteps old mid hs a b n → Steps mid new [] lines gs →
    (k : ℕ) × Appends b.contents contents (take k (b.text ++ lines_text lines)) → CutsSteps old (gs ++ hs) a contents
cuts_then old mid new hs gs a b contents lines n so_far steps cut =
    let both = then_lines old mid new hs gs lines so_far.steps steps in
    let first = lines_text (answers_to old hs) in
    let all : lines_text (answers_to old (gs ++ hs)) ≡ (first ++ lines_text lines) ++ [] =
    ap lines_text both.1 ∙ (lines_text-append (answers_to old hs) lines ∙ sym (append-nil (first ++ lines_text lines))) in
    cut_on a b contents first (lines_text lines) [] (lines_text (answers_to old (gs ++ hs))) so_far.written all cut

-- ---- an event

-- nothing was given out yet
pub gives_nothing : (old counted : CoreView) (a : Output) → Counts old counted → GivesSteps old counted [] a a 0
gives_nothing old counted a one = record { steps = uncounted old counted counted [] [] [] one (no_steps counted []); written = gives_none a; counted = refl }

-- the happenings of its part are what an event takes
pub takes : (old counted new : CoreView) (event : Event) (a b : Output) (n : ℕ) → IsOrderly old.calls → Counts old counted → new.taken ≡ counted.taken →
    GivesSteps old new (part_of old.calls old.made old.moment event) a b n → TakesEvent old new event a b n
takes old counted new event a b n orderly one taken gives = record {
  calls = gives.steps.calls;
  limit = gives.steps.limit;
  workers = gives.steps.workers;
  taken = counted_once old counted new one taken;
  lines = answers_to old (part_of old.calls old.made old.moment event);
  history = core_continues old new [] (answers_to old (part_of old.calls old.made old.moment event)) event orderly gives.steps;
  written = gives.written;
  counted = gives.counted;
}
