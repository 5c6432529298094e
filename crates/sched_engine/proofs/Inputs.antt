-- Inputs: the lines of events, and one event more.
use Rattle.std.proofs.Common.{◌≡◌, ℕ, ◌+◌, ◌-◌, ◌*◌, ◌^◌, ◌<◌, ◌≤◌, List, [], ◌∷◌, ◌++◌, take, drop, length, refl, ap, ◌∙◌, sym, subst, arith, append_assoc, append-nil, length-append, length-drop, take_all}
use Rattle.std.specs.Prelude.{replicate}
use Rattle.std.proofs.Math.Seq.{drop-append_seam}
use Rattle.std.proofs.lemmas.List.{drop-drop, length-replicate, take-append-le}
use Rattle.std.proofs.lemmas.List.Elements.{All-nil, All-cons}
use Rattle.executor_model.specs.declared.Event.{Event}
use Rattle.executor_model.specs.declared.Event.TheVariants as v
use Rattle.executor_model.specs.declared.Happening.{Happening}
use Rattle.executor_model.specs.declared.Happening.TheVariants as h
use Rattle.executor_model.specs.declared.Line.{Line}
use Rattle.queue_code.specs.Calls.{Planned, IsOrderly, IsPlanned}
use Rattle.executor_model.specs.Histories.{HistoryEntry, happenings, made, now_of, IsHistoryOf}
use Rattle.executor_model.specs.Flows.{flow, part_of, calls_before, history_from, history_of, lines_from, lines_of}
use Rattle.executor_core.specs.CoreView.{CoreView, state_of, workers_of, Stands, Continues}
use Rattle.trace_text.proofs.Texts.{take_add}
use Rattle.executor_model.proofs.Flowing.{flow_means, history_more, lines_follow, made_past, made-calls, happenings_from}
use Rattle.executor_core.proofs.Continuing.{stands_agrees}
use Rattle.trace_text.specs.Spelling.{event_line, FitsEvent, lines_text}
use Rattle.sched_engine.specs.Inputs.{input_of}
use Rattle.sched_engine.specs.Pieces.{Output}
use Rattle.sched_engine.specs.Running.{text_of}
use Rattle.sched_engine.specs.own.Turns.{TakesEvent, Extends, IsAnswered, StandsAfterEvents, answers_to}
use Rattle.sched_engine.proofs.Giving.{gives_both, gives_none, lines_text-append}
use Rattle.sched_engine.proofs.LineCounts.{lines_by_calls}

-- the lines of some events and of more after them
pub input_of-append : (more before : List Event) → input_of (more ++ before) ≡ input_of before ++ input_of more
input_of-append [] before = sym (append-nil (input_of before))
input_of-append (e ∷ more) before = ap (λ l. l ++ event_line e) (input_of-append more before) ∙ append_assoc (input_of before) (input_of more) (event_line e)

-- ---- lines are counted

-- a history has as many happenings as entries
pub length-happenings : (past : List HistoryEntry) → length (happenings past) ≡ length past
length-happenings [] = refl
length-happenings (e ∷ past) = omega (arith, length-happenings past)

part_are : (calls : List Planned) (n now : ℕ) (event : Event) (hs : List Happening) → length (part_of calls n now event ++ hs) + made hs ≡ 1 + length hs + made (part_of calls n now event ++ hs)
part_are calls n now event hs =
    let k = calls_before calls n now event in
    let others = replicate k h.Call in
    let call : made (part_of calls n now event ++ hs) ≡ made (others ++ hs) = by event in
    omega (arith, call, made-calls k hs, length-append others hs, length-replicate k h.Call)
  where
    by : (e : Event) → made (part_of calls n now e ++ hs) ≡ made (replicate (calls_before calls n now e) h.Call ++ hs)
    by (v.Clock t) = refl
    by (v.Start w) = refl
    by (v.Finish w ending) = refl
    by (v.Cancel k) = refl

-- the flow of some events has one happening for each event and for each call made
pub flow_are : (calls : List Planned) (events : List Event) → length (flow calls events) ≡ length events + made (flow calls events)
flow_are calls [] = refl
flow_are calls (e ∷ events) = omega (arith, part_are calls (made (flow calls events)) (now_of calls (flow calls events)) e (flow calls events), flow_are calls events)

-- the happenings of the history of some events are their flow
pub flow_happens : (calls : List Planned) (workers : ℕ) (events : List Event) → happenings (history_of calls workers events) ≡ flow calls events
flow_happens calls workers events = happenings_from calls workers [] (flow calls events) ∙ append-nil (flow calls events)

-- a trace has a line for each event and for each call made, and for each such call at most one for each task
pub lines_few : (calls : List Planned) (workers : ℕ) (events : List Event) → IsPlanned calls → length (lines_of calls (history_of calls workers events)) ≤ length events + 65536 * 65537
lines_few calls workers events o =
    let past = history_of calls workers events in
    let means = flow_means calls workers events o.1 in
    let same = flow_happens calls workers events in
    omega (
      arith,
      lines_by_calls calls workers past o.0 means,
      length-happenings past,
      ap length same,
      ap made same,
      flow_are calls events,
      made_past calls workers past means,
      o.0,
    )

-- ---- one event more

-- the history of one event more is that of the events before, and of the event's part of the flow from where the core is
event_joins : (m : CoreView) (event : Event) (events : List Event) → IsOrderly m.calls → Stands m (history_of m.calls (workers_of m) events) →
    history_from m.calls (workers_of m) (history_of m.calls (workers_of m) events) (part_of m.calls m.made m.moment event) ≡ history_of m.calls (workers_of m) (event ∷ events)
event_joins m event events o stands =
    let calls = m.calls in
    let workers = workers_of m in
    let past = history_of calls workers events in
    let part : part_of calls m.made m.moment event ≡ part_of calls (made (happenings past)) (now_of calls (happenings past)) event =
    ap (λ w. part_of calls w.made w.moment event) (stands_agrees m past (flow_means calls workers events o) stands).view in
    ap (history_from calls workers past) part ∙ sym (history_more calls workers events event)

-- the history of one event more, and its lines
pub continue_history : (m new : CoreView) (lines : List Line) (event : Event) (events : List Event) → IsOrderly m.calls → Stands m (history_of m.calls (workers_of m) events) →
    ((past : List HistoryEntry) → IsHistoryOf m.calls (workers_of m) past → Stands m past → Continues m new [] lines event past) →
    Stands new (history_of m.calls (workers_of m) (event ∷ events))
    × (lines_of m.calls (history_of m.calls (workers_of m) (event ∷ events)) ≡ lines_of m.calls (history_of m.calls (workers_of m) events) ++ lines)
continue_history m new lines event events o stands goes =
    let calls = m.calls in
    let past = history_of calls (workers_of m) events in
    let step = goes past (flow_means calls (workers_of m) events o) stands in
    let longer = event_joins m event events o stands in (
      subst (Stands new) longer step.stands,
      ap (lines_of calls) (sym longer) ∙ (step.spoken ∙ ap (λ l. lines_of calls past ++ l) (sym step.given)),
    )

-- the text of one event more
pub event_says : (m : CoreView) (event : Event) (events : List Event) → IsOrderly m.calls → Stands m (history_of m.calls (workers_of m) events) →
    text_of m.calls (history_of m.calls (workers_of m) (event ∷ events)) ≡ text_of m.calls (history_of m.calls (workers_of m) events) ++ lines_text (answers_to m (part_of m.calls m.made m.moment event))
event_says m event events o stands =
    let calls = m.calls in
    let workers = workers_of m in
    let past = history_of calls workers events in
    let part = part_of calls m.made m.moment event in
    ap lines_text (ap (lines_of calls) (sym (event_joins m event events o stands)) ∙ lines_follow calls workers (state_of m) past part (stands_agrees m past (flow_means calls workers events o) stands))
    ∙ lines_text-append (lines_of calls past) (lines_from calls workers (state_of m) part)

-- the history before, and the answers to one event more
extends_more : (old mid new : CoreView) (more events : List Event) (event : Event) (before after : Output) (text : List ℕ) (count n : ℕ) → mid.calls ≡ old.calls → workers_of mid ≡ workers_of old → IsOrderly old.calls →
    Extends old.calls (workers_of old) mid more events text count → (t : TakesEvent mid new event before after n) → Extends old.calls (workers_of old) new (event ∷ more) events (text ++ lines_text t.lines) (count + n)
extends_more old mid new more events event before after text count n calls workers o so_far t =
    let all = more ++ events in
    let P : List Planned → ℕ → Type 0 = λ cs k. Stands new (history_of cs k (event ∷ all)) × (lines_of cs (history_of cs k (event ∷ all)) ≡ lines_of cs (history_of cs k all) ++ t.lines) in
    let there : Stands mid (history_of mid.calls (workers_of mid) all) =
    subst (λ cs. Stands mid (history_of cs (workers_of mid) all)) (sym calls) (subst (λ k. Stands mid (history_of old.calls k all)) (sym workers) so_far.stands) in
    let step = continue_history mid new t.lines event all (subst IsOrderly (sym calls) o) there t.history in
    let here : P old.calls (workers_of old) = subst (λ k. P old.calls k) workers (subst (λ cs. P cs (workers_of mid)) calls step) in
    let first = text_of old.calls (history_of old.calls (workers_of old) events) in
    record {
      stands = here.0;
      says = ap lines_text here.1 ∙ (lines_text-append (lines_of old.calls (history_of old.calls (workers_of old) all)) t.lines ∙ (ap (λ l. l ++ lines_text t.lines) so_far.says ∙ append_assoc first text (lines_text t.lines)));
      counted = omega (arith, ap length here.1, length-append (lines_of old.calls (history_of old.calls (workers_of old) all)) t.lines, so_far.counted, t.counted);
    }

-- a front of this size, where the rest is known
front_is : (xs front : List ℕ) (size : ℕ) → xs ≡ front ++ drop size xs → size ≤ length xs → take size xs ≡ front
front_is xs front size is inside =
    let long : length front ≡ size = omega (arith, ap length is, length-append front (drop size xs), length-drop size xs, inside) in
    ap (take size) is ∙ (take-append-le size front (drop size xs) (omega (arith, long)) ∙ take_all size front (omega (arith, long)))

-- what one event more makes of the answers so far
pub answered_more : (old mid new : CoreView) (held : List ℕ) (before put after : Output) (taken size count n : ℕ) (event : Event) → IsAnswered old mid held taken before put count → FitsEvent event →
    drop taken held ≡ event_line event ++ drop size (drop taken held) → size ≤ length (drop taken held) → TakesEvent mid new event put after n → IsAnswered old new held (taken + size) before after (count + n)
answered_more old mid new held before put after taken size count n event a fits front inside t = record {
  more = event ∷ a.more;
  fit = All-cons FitsEvent event a.more fits a.fit;
  front = sym (take_add taken size held) ∙ (ap (λ l. l ++ take size (drop taken held)) a.front ∙ ap (λ l. input_of a.more ++ l) (front_is (drop taken held) (event_line event) size front inside));
  within = omega (arith, inside, length-drop taken held, a.within);
  events = omega (arith, t.taken, a.events);
  calls = t.calls ∙ a.calls;
  limit = t.limit ∙ a.limit;
  workers = t.workers ∙ a.workers;
  text = a.text ++ lines_text t.lines;
  written = gives_both before put after a.text (lines_text t.lines) a.written t.written;
  extends = λ o events stands. extends_more old mid new a.more events event put after a.text count n a.calls a.workers o (a.extends o events stands) t;
}

-- the rest behind the line of an event, which stood at the front of `rest`
pub next_is : (event : Event) (rest next : List ℕ) → rest ≡ event_line event ++ next → drop (length (event_line event)) rest ≡ next
next_is event rest next front = ap (drop (length (event_line event))) front ∙ drop-append_seam (event_line event) next

-- the line of an event, which stood at the front of `rest`
pub line_is : (event : Event) (rest next : List ℕ) → rest ≡ event_line event ++ next → take (length (event_line event)) rest ≡ event_line event
line_is event rest next front =
    let size = length (event_line event) in
    ap (take size) front ∙ (take-append-le size (event_line event) next (omega arith) ∙ take_all size (event_line event) (omega arith))

-- how many bytes were taken
taken_more : (event : Event) (held rest next : List ℕ) → length rest ≤ length held → rest ≡ event_line event ++ next → length held - length next ≡ length held - length rest + length (event_line event)
taken_more event held rest next bound front = omega (arith, bound, ap length front, length-append (event_line event) next)

-- what is left is no more than there was
pub fewer_left : (event : Event) (rest next : List ℕ) → rest ≡ event_line event ++ next → length rest ≡ length (event_line event) + length next
fewer_left event rest next front = omega (arith, ap length front, length-append (event_line event) next)

-- what is left once the line of an event was taken
pub left_more : (event : Event) (held rest next : List ℕ) → rest ≡ drop (length held - length rest) held → length rest ≤ length held → rest ≡ event_line event ++ next → next ≡ drop (length held - length next) held
left_more event held rest next behind bound front =
    let size = length (event_line event) in
    sym (next_is event rest next front) ∙ (ap (drop size) behind ∙ (drop-drop size (length held - length rest) held ∙ ap (λ k. drop k held) (sym (taken_more event held rest next bound front))))

-- the same as `answered_more`, told by the bytes that are left
pub answered_on : (old mid new : CoreView) (held rest next : List ℕ) (before put after : Output) (count n : ℕ) (event : Event) → IsAnswered old mid held (length held - length rest) before put count → rest ≡ drop (length held - length rest) held →
    length rest ≤ length held → FitsEvent event → rest ≡ event_line event ++ next → TakesEvent mid new event put after n → IsAnswered old new held (length held - length next) before after (count + n)
answered_on old mid new held rest next before put after count n event a behind bound fits front t =
    let taken = length held - length rest in
    let size = length (event_line event) in
    let P : List ℕ → Type 0 = λ l. (l ≡ event_line event ++ drop size l) × (size ≤ length l) in
    let here : P rest = (front ∙ ap (λ l. event_line event ++ l) (sym (next_is event rest next front)), omega (arith, fewer_left event rest next front)) in
    let there : P (drop taken held) = subst P behind here in
    subst (λ k. IsAnswered old new held k before after (count + n)) (sym (taken_more event held rest next bound front)) (answered_more old mid new held before put after taken size count n event a fits there.0 there.1 t)

-- nothing was answered yet
pub answered_none : (m : CoreView) (held : List ℕ) (before : Output) → IsAnswered m m held 0 before before 0
answered_none m held before = record {
  more = [];
  fit = All-nil FitsEvent;
  front = refl;
  within = omega arith;
  events = omega arith;
  calls = refl;
  limit = refl;
  workers = refl;
  text = [];
  written = gives_none before;
  extends = λ o events stands. record { stands = stands; says = sym (append-nil (text_of m.calls (history_of m.calls (workers_of m) events))); counted = omega arith };
}

-- the count of lines fits, where the answers to the events so far stand
pub count_fits : (old mid : CoreView) (held : List ℕ) (before put : Output) (taken count : ℕ) → StandsAfterEvents old → IsAnswered old mid held taken before put count → mid.taken ≤ mid.limit → count < 2 ^ 34
count_fits old mid held before put taken count s a within =
    let all = a.extends s.orderly.1 s.events s.stands in
    omega (arith, all.counted, lines_few old.calls (workers_of old) (a.more ++ s.events) s.orderly, length-append a.more s.events, a.events, s.taken, s.small, within, a.limit)
