-- What a script shows after one line more, and that its lines are those of the history that it shows.
use Rattle.std.proofs.Common.{◌≡◌, ℕ, ◌+◌, ◌<◌, ◌≤◌, Bool, true, false, cond, inl, inr, List, [], ◌∷◌, ◌++◌, length, Some, refl, sym, ap, ◌∙◌, arith, subst}
use Rattle.std.specs.Prelude.{slice_get, min, max, nat_lt, map, reverse}
use Rattle.std.proofs.lemmas.Bool.Decides.{nat_tests}
use Rattle.std.proofs.lemmas.List.{reverse-append}
use Rattle.std.proofs.lemmas.List.Elements.{All-head, All-tail, All-nil, All-cons}
use Rattle.std.proofs.lemmas.Option.{slice_get_within}
use Rattle.sched_time.specs.Times.{longest}
use Rattle.queue_code.specs.declared.call.CodeCall.{CodeCall}
use Rattle.queue_code.specs.declared.call.CodeCall.TheVariants as c
use Rattle.queue_code.specs.Calls.{Planned, IsOrderly, IsOrderlyFrom, IsOrderlyCall, count_after, submits_task, task_count, most_calls_of_code}
use Rattle.executor_model.specs.declared.types.Event.{Event}
use Rattle.executor_model.specs.declared.types.Event.TheVariants as v
use Rattle.executor_model.specs.declared.types.Happening.{Happening}
use Rattle.executor_model.specs.declared.types.Happening.TheVariants as h
use Rattle.executor_model.specs.declared.types.EventError.TheVariants as x
use Rattle.executor_model.specs.declared.types.Answer.{Answer}
use Rattle.executor_model.specs.declared.types.Answer.TheVariants as a
use Rattle.executor_model.specs.Answers.{Reply, bare, effect_on, moment_after, is_accepted}
use Rattle.executor_model.specs.Histories.{HistoryEntry, entry_of, happenings, made, now_of, answer, is_call, IsHistoryOf, MayFrom}
use Rattle.executor_model.specs.State.{State, next, reply_of, state_after, view_of_state, after_from, opening}
use Rattle.executor_model.specs.Flows.{history_from, lines_at, lines_from, lines_of}
use Rattle.executor_model.proofs.Agree.{opening_sound}
use Rattle.executor_model.proofs.Flowing.{how_many-le, lines_follow}
use Rattle.executor_laws.specs.Additions.{LooksBelow, AllLookBelow, StandsFor}
use Rattle.executor_laws.proofs.AddedCalls.{counted, task_one}
use Rattle.executor_laws.proofs.Adding.{calls_may_be_added}
use Rattle.live_engine.specs.declared.live_line.LiveLine.TheVariants as l
use Rattle.live_core.specs.Lives.{after_clock, passed}
use Rattle.live_engine.specs.LiveLines.{LiveHistory, after_call, after_happening, after_line, not_given}
use Rattle.live_plain.specs.PlainLines.{lines_in}
use Rattle.live_plain.specs.own.Scripts.{ScriptView, Shows, last_moment, moment_in, plainly, unnamed, with_call, with_event}

-- ---- what looks below a moment and a number looks below later ones

look_higher : (moment later count more never : ℕ) (happening : Happening) (said : Answer) → moment ≤ later → count ≤ more → LooksBelow moment count never happening said → LooksBelow later more never happening said
look_higher moment later count more never h.Call said l n below = tt
look_higher moment later count more never (h.Clock t) said l n below = λ q. let before = below q in omega (arith, before, l)
look_higher moment later count more never (h.Start w) said l n below = tt
look_higher moment later count more never (h.Finish w ending) said l n below = tt
look_higher moment later count more never (h.Cancel k) said l n (inl there) = inl (omega (arith, there, n))
look_higher moment later count more never (h.Cancel k) said l n (inr far) = inr far
look_higher moment later count more never h.Purge said l n below = tt

all_look_higher : (moment later count more never : ℕ) (past : List HistoryEntry) → moment ≤ later → count ≤ more → AllLookBelow moment count never past → AllLookBelow later more never past
all_look_higher moment later count more never [] l n below = All-nil (λ (e : HistoryEntry). LooksBelow later more never e.happening e.answer)
all_look_higher moment later count more never (e ∷ past) l n below =
    let here = All-head (λ (e : HistoryEntry). LooksBelow moment count never e.happening e.answer) e past below in
    let rest = All-tail (λ (e : HistoryEntry). LooksBelow moment count never e.happening e.answer) e past below in
    All-cons (λ (e : HistoryEntry). LooksBelow later more never e.happening e.answer) e past (look_higher moment later count more never e.happening e.answer l n here) (all_look_higher moment later count more never past l n rest)

-- ---- the longer calls

-- a call behind others is in order where it is after the last of them
join_orderly : (count moment : ℕ) (calls : List Planned) (p : Planned) → IsOrderlyFrom count moment calls → last_moment moment calls ≤ p.0 → p.0 ≤ longest → IsOrderlyCall (count + task_count calls) p.1 → IsOrderlyFrom count moment (calls ++ p ∷ [])
join_orderly count moment [] p o l near last = let same : count + 0 ≡ count = omega arith in (l, near, subst (λ n. IsOrderlyCall n p.1) same last, tt)
join_orderly count moment (q ∷ calls) p o l near last = (o.0, o.1, o.2, join_orderly (count_after count q.1) q.0 calls p o.3 l near (subst (λ n. IsOrderlyCall n p.1) (sym (counted count q.0 q.1 calls)) last))

last_call : (calls : List Planned) (p : Planned) → slice_get (calls ++ p ∷ []) (length calls) ≡ Some p
last_call [] p = refl
last_call (y ∷ calls) p = last_call calls p

last_is : (moment : ℕ) (calls : List Planned) (p : Planned) → last_moment moment (calls ++ p ∷ []) ≡ p.0
last_is moment [] p = refl
last_is moment (y ∷ calls) p = last_is y.0 calls p

one_more : (calls : List Planned) (p : Planned) → 1 + length calls ≡ length (calls ++ p ∷ [])
one_more [] p = refl
one_more (y ∷ calls) p = let rest = one_more calls p in omega (arith, rest)

count_more : (count : ℕ) (call : CodeCall) → count_after count call ≡ cond (submits_task call) (1 + count) count
count_more count (c.Submit task timing delay) = omega arith
count_more count (c.Illegal task) = omega arith
count_more count (c.Cancel task) = refl
count_more count (c.SetPolicy which value) = refl
count_more count c.Shutdown = refl
count_more count c.ShutdownNow = refl
count_more count c.Ask = refl

grows_by : (count : ℕ) (call : CodeCall) → count ≤ count_after count call
grows_by count (c.Submit task timing delay) = omega arith
grows_by count (c.Illegal task) = omega arith
grows_by count (c.Cancel task) = omega arith
grows_by count (c.SetPolicy which value) = omega arith
grows_by count c.Shutdown = omega arith
grows_by count c.ShutdownNow = omega arith
grows_by count c.Ask = omega arith

counts_more : (calls : List Planned) (p : Planned) → task_count (calls ++ p ∷ []) ≡ count_after (task_count calls) p.1
counts_more calls p = task_one calls p ∙ sym (count_more (task_count calls) p.1)

-- no more tasks are submitted than there are calls
pub tasks_le : (calls : List Planned) → task_count calls ≤ length calls
tasks_le calls = how_many-le (λ (p : Planned). submits_task p.1) calls

-- one happening more
more_happened : (happened : List Happening) (y z : Happening) (past : List Happening) → reverse happened ≡ map plainly past → z ≡ plainly y → reverse (happened ++ z ∷ []) ≡ map plainly (y ∷ past)
more_happened happened y z past before is = reverse-append happened (z ∷ []) ∙ λ i. is i ∷ before i

-- ---- a call is made

longer_orderly : (workers : ℕ) (so_far : LiveHistory) (s : ScriptView) (p : Planned) → Shows workers so_far s → p.0 ≡ moment_in s → p.0 ≤ longest → IsOrderlyCall s.numbers p.1 → IsOrderly (so_far.calls ++ p ∷ [])
longer_orderly workers so_far s p shows is near orderly =
    let same : s.numbers ≡ 0 + task_count so_far.calls = omega (arith, shows.numbers) in
    join_orderly 0 0 so_far.calls p shows.orderly (grind (arith, is, shows.reached)) near (subst (λ n. IsOrderlyCall n p.1) same orderly)

longer_stands : (workers : ℕ) (so_far : LiveHistory) (s : ScriptView) (p : Planned) → Shows workers so_far s → p.0 ≡ moment_in s → p.0 ≤ longest → IsOrderlyCall s.numbers p.1 → length so_far.calls < most_calls_of_code →
    StandsFor so_far.calls (so_far.calls ++ p ∷ []) workers so_far.past
longer_stands workers so_far s p shows is near orderly few =
    let more = so_far.calls ++ p ∷ [] in
    let tasks = tasks_le more in
    let long = one_more so_far.calls p in
    calls_may_be_added so_far.calls workers so_far.past unnamed p shows.means (record {
      orderly = longer_orderly workers so_far s p shows is near orderly;
      numbers = omega (arith, tasks, long, few);
      below = all_look_higher s.earliest p.0 s.numbers (task_count so_far.calls) unnamed so_far.past (grind (arith, is)) (omega (arith, shows.numbers)) shows.below;
    })

pub makes_shows : (workers : ℕ) (so_far : LiveHistory) (s : ScriptView) (p : Planned) → Shows workers so_far s → p.0 ≡ moment_in s → p.0 ≤ longest → IsOrderlyCall s.numbers p.1 → length so_far.calls < most_calls_of_code →
    Shows workers (after_call workers so_far p) (with_call s p)
makes_shows workers so_far s p shows is near orderly few =
    let calls = so_far.calls in
    let past = so_far.past in
    let more = calls ++ p ∷ [] in
    let longer = longer_stands workers so_far s p shows is near orderly few in
    let long = one_more calls p in
    let there : slice_get more (made (happenings past)) ≡ Some p = ap (slice_get more) shows.made ∙ last_call calls p in
    let before : now_of more (happenings past) ≡ s.moment = longer.now ∙ sym shows.moment in
    let here : max s.moment p.0 ≡ p.0 = grind (arith, is) in
    let now : now_of more (h.Call ∷ happenings past) ≡ p.0 = (λ i. moment_after (before i) (there i) h.Call) ∙ here in
    record {
      calls = ap (λ l. l ++ p ∷ []) shows.calls;
      happened = more_happened s.happened h.Call h.Call (happenings past) shows.happened refl;
      numbers = ap (λ n. count_after n p.1) shows.numbers ∙ sym (counts_more calls p);
      moment = sym now;
      earliest = shows.earliest;
      orderly = longer_orderly workers so_far s p shows is near orderly;
      few = omega (arith, long, few);
      means = (longer.means, omega (arith, shows.made, long), refl, refl);
      made = ap (λ n. 1 + n) shows.made ∙ long;
      below = All-cons (λ (e : HistoryEntry). LooksBelow s.earliest (count_after s.numbers p.1) unnamed e.happening e.answer) (entry_of h.Call (answer more workers past h.Call)) past tt
          (all_look_higher s.earliest s.earliest s.numbers (count_after s.numbers p.1) unnamed past (omega arith) (grows_by s.numbers p.1) shows.below);
      behind = grind (arith, is, shows.behind);
      reached = let last = last_is 0 calls p in omega (arith, last);
    }

-- ---- an event comes

-- the next entry
abbrev answered : ℕ → LiveHistory → Happening → Reply
answered workers so_far y = answer so_far.calls workers so_far.past y

-- what a happening that is no call leaves of a script
record Goes (workers : ℕ) (so_far : LiveHistory) (s : ScriptView) (y z : Happening) (moment earliest : ℕ) : Type 0 where
  no_call : is_call y ≡ false
  plain : z ≡ plainly y
  may : MayFrom so_far.calls (made (happenings so_far.past)) (now_of so_far.calls (happenings so_far.past)) y
  moment_is : moment ≡ now_of so_far.calls (y ∷ happenings so_far.past)
  earliest_is : earliest ≡ passed (after_clock so_far.past) y (answered workers so_far y).answer
  rises : s.moment ≤ moment
  later : s.earliest ≤ earliest
  behind : earliest ≤ moment + 1
  below : LooksBelow earliest s.numbers unnamed y (answered workers so_far y).answer

goes_shows : (workers : ℕ) (so_far : LiveHistory) (s : ScriptView) (y z : Happening) (moment earliest : ℕ) → Shows workers so_far s → Goes workers so_far s y z moment earliest →
    Shows workers (after_happening workers so_far y) (record s { happened = s.happened ++ z ∷ []; moment = moment; earliest = earliest })
goes_shows workers so_far s y z moment earliest shows goes = record {
  calls = shows.calls;
  happened = more_happened s.happened y z (happenings so_far.past) shows.happened goes.plain;
  numbers = shows.numbers;
  moment = goes.moment_is;
  earliest = goes.earliest_is;
  orderly = shows.orderly;
  few = shows.few;
  means = (shows.means, goes.may, refl, refl);
  made = ap (λ b. cond b (1 + made (happenings so_far.past)) (made (happenings so_far.past))) goes.no_call ∙ shows.made;
  below = All-cons (λ (e : HistoryEntry). LooksBelow earliest s.numbers unnamed e.happening e.answer) (entry_of y (answered workers so_far y)) so_far.past goes.below
      (all_look_higher s.earliest earliest s.numbers s.numbers unnamed so_far.past goes.later (omega arith) shows.below);
  behind = goes.behind;
  reached = omega (arith, shows.reached, goes.rises);
}

-- what the answer to a clock leaves of the moment after the last accepted clock
clock_passed : (now t before : ℕ) → passed before (h.Clock t) (cond (nat_lt t now) (a.Error x.Backward) (cond (nat_lt longest t) (a.Error x.TooFar) a.Clock)) ≡ cond (is_accepted now t) (t + 1) before
clock_passed now t before = by (nat_lt t now) refl (nat_lt longest t) refl (is_accepted now t) refl
  where
    by : (b : Bool) → nat_lt t now ≡ b → (far : Bool) → nat_lt longest t ≡ far → (d : Bool) → is_accepted now t ≡ d →
        passed before (h.Clock t) (cond b (a.Error x.Backward) (cond far (a.Error x.TooFar) a.Clock)) ≡ cond d (t + 1) before
    by true p far q false r = refl
    by true p far q true r = absurd (grind (arith, nat_tests, p, r))
    by false p true q false r = refl
    by false p true q true r = absurd (grind (arith, nat_tests, q, r))
    by false p false q true r = refl
    by false p false q false r = absurd (grind (arith, nat_tests, p, q, r))

all_made : (workers : ℕ) (so_far : LiveHistory) (s : ScriptView) (t : ℕ) → Shows workers so_far s → MayFrom so_far.calls (made (happenings so_far.past)) (now_of so_far.calls (happenings so_far.past)) (h.Clock t)
all_made workers so_far s t shows accepted n p there early = omega (arith, slice_get_within so_far.calls n p there, shows.made)

-- the clock shows a moment
clock_goes : (workers : ℕ) (so_far : LiveHistory) (s : ScriptView) (t : ℕ) → Shows workers so_far s →
    Goes workers so_far s (h.Clock t) (h.Clock t) (cond (is_accepted s.moment t) t s.moment) (cond (is_accepted s.moment t) (t + 1) s.earliest)
clock_goes workers so_far s t shows = record {
  no_call = refl;
  plain = refl;
  may = all_made workers so_far s t shows;
  moment_is = ap (λ n. cond (is_accepted n t) t n) shows.moment;
  earliest_is = left;
  rises = rises (is_accepted s.moment t) refl;
  later = later (is_accepted s.moment t) refl;
  behind = behind (is_accepted s.moment t) refl;
  below = λ q. let one : t + 1 ≡ cond (is_accepted s.moment t) (t + 1) s.earliest = sym (left ∙ ap (passed (after_clock so_far.past) (h.Clock t)) q) in omega (arith, one);
}
  where
    now_there : ℕ
    now_there = now_of so_far.calls (happenings so_far.past)

    left : cond (is_accepted s.moment t) (t + 1) s.earliest ≡ passed (after_clock so_far.past) (h.Clock t) (answered workers so_far (h.Clock t)).answer
    left = (λ i. cond (is_accepted (shows.moment i) t) (t + 1) (shows.earliest i)) ∙ sym (clock_passed now_there t (after_clock so_far.past))

    rises : (b : Bool) → is_accepted s.moment t ≡ b → s.moment ≤ cond b t s.moment
    rises true q = grind (arith, nat_tests, q)
    rises false q = omega arith

    later : (b : Bool) → is_accepted s.moment t ≡ b → s.earliest ≤ cond b (t + 1) s.earliest
    later true q = grind (arith, nat_tests, q, shows.behind)
    later false q = omega arith

    behind : (b : Bool) → is_accepted s.moment t ≡ b → cond b (t + 1) s.earliest ≤ cond b t s.moment + 1
    behind true q = omega arith
    behind false q = shows.behind

-- what asks for work, and what ends a run, leave the moments
still_goes : (workers : ℕ) (so_far : LiveHistory) (s : ScriptView) (y z : Happening) → Shows workers so_far s → is_call y ≡ false → z ≡ plainly y →
    MayFrom so_far.calls (made (happenings so_far.past)) (now_of so_far.calls (happenings so_far.past)) y → now_of so_far.calls (y ∷ happenings so_far.past) ≡ now_of so_far.calls (happenings so_far.past) →
    passed (after_clock so_far.past) y (answered workers so_far y).answer ≡ after_clock so_far.past → LooksBelow s.earliest s.numbers unnamed y (answered workers so_far y).answer →
    Goes workers so_far s y z s.moment s.earliest
still_goes workers so_far s y z shows no_call plain may now clock below = record {
  no_call = no_call;
  plain = plain;
  may = may;
  moment_is = shows.moment ∙ sym now;
  earliest_is = shows.earliest ∙ sym clock;
  rises = omega arith;
  later = omega arith;
  behind = shows.behind;
  below = below;
}

-- a cancel of a number that was given out, or of one that was not
abbrev cancel_in : Bool → ℕ → Happening
cancel_in given task = h.Cancel (cond given task (not_given task))

cancel_plain : (workers : ℕ) (so_far : LiveHistory) (s : ScriptView) (task : ℕ) → Shows workers so_far s → (b : Bool) → nat_lt task s.numbers ≡ b → h.Cancel (cond b task unnamed) ≡ plainly (cancel_in b task)
cancel_plain workers so_far s task shows true q =
    let tasks = tasks_le so_far.calls in
    let given : task < s.numbers = grind (arith, nat_tests, q) in
    let same : task ≡ min task unnamed = grind (arith, given, shows.numbers, tasks, shows.few) in
    ap h.Cancel same
cancel_plain workers so_far s task shows false q = let same : unnamed ≡ min (not_given task) unnamed = grind arith in ap h.Cancel same

cancel_below : (s : ScriptView) (task : ℕ) (said : Answer) (b : Bool) → nat_lt task s.numbers ≡ b → LooksBelow s.earliest s.numbers unnamed (cancel_in b task) said
cancel_below s task said true q = inl (grind (arith, nat_tests, q))
cancel_below s task said false q = inr (omega arith)

cancel_goes : (workers : ℕ) (so_far : LiveHistory) (s : ScriptView) (task : ℕ) (b : Bool) → Shows workers so_far s → nat_lt task s.numbers ≡ b → Goes workers so_far s (cancel_in b task) (h.Cancel (cond b task unnamed)) s.moment s.earliest
cancel_goes workers so_far s task b shows q =
    still_goes workers so_far s (cancel_in b task) (h.Cancel (cond b task unnamed)) shows refl (cancel_plain workers so_far s task shows b q) tt refl refl
    (cancel_below s task (answered workers so_far (cancel_in b task)).answer b q)

-- one event more
pub event_shows : (workers : ℕ) (so_far : LiveHistory) (s : ScriptView) (event : Event) → Shows workers so_far s → Shows workers (after_line workers so_far (l.Event event)) (with_event s event)
event_shows workers so_far s (v.Clock t) shows = goes_shows workers so_far s (h.Clock t) (h.Clock t) (cond (is_accepted s.moment t) t s.moment) (cond (is_accepted s.moment t) (t + 1) s.earliest) shows (clock_goes workers so_far s t shows)
event_shows workers so_far s (v.Start w) shows =
    goes_shows workers so_far s (h.Start w) (h.Start w) s.moment s.earliest shows (still_goes workers so_far s (h.Start w) (h.Start w) shows refl refl tt refl refl tt)
event_shows workers so_far s (v.Finish w ending) shows =
    goes_shows workers so_far s (h.Finish w ending) (h.Finish w ending) s.moment s.earliest shows (still_goes workers so_far s (h.Finish w ending) (h.Finish w ending) shows refl refl tt refl refl tt)
event_shows workers so_far s (v.Cancel task) shows =
    subst (λ n. Shows workers (after_happening workers so_far (cancel_in (nat_lt task n) task)) (with_event s (v.Cancel task))) shows.numbers
    (goes_shows workers so_far s (cancel_in (nat_lt task s.numbers) task) (h.Cancel (cond (nat_lt task s.numbers) task unnamed)) s.moment s.earliest shows (cancel_goes workers so_far s task (nat_lt task s.numbers) shows refl))

-- ---- the lines

-- a history is that of its happenings
history_is : (calls : List Planned) (workers : ℕ) (past : List HistoryEntry) → IsHistoryOf calls workers past → history_from calls workers [] (happenings past) ≡ past
history_is calls workers [] means = refl
history_is calls workers (e ∷ past) means =
    ap (λ q. entry_of e.happening (answer calls workers q e.happening) ∷ q) (history_is calls workers past means.0)
    ∙ λ i. record { happening = e.happening; answer = sym means.2 i; ends = sym means.3 i } ∷ past

-- the reply to a cancel of a number that is never given out is that to one of another
cancel_alike : (calls : List Planned) (workers : ℕ) (s : State) (task : ℕ) → task_count calls ≤ unnamed → reply_of calls workers s (h.Cancel (min task unnamed)) ≡ reply_of calls workers s (h.Cancel task)
cancel_alike calls workers s task few = by (nat_lt task (task_count calls)) refl
  where
    by : (b : Bool) → nat_lt task (task_count calls) ≡ b → reply_of calls workers s (h.Cancel (min task unnamed)) ≡ reply_of calls workers s (h.Cancel task)
    by true q =
        let given : task < task_count calls = grind (arith, nat_tests, q) in
        let same : min task unnamed ≡ task = grind (arith, given, few) in
        ap (λ k. reply_of calls workers s (h.Cancel k)) same
    by false q =
        let fate = λ (k : ℕ). (view_of_state calls s).fate k in
        let far : nat_lt (min task unnamed) (task_count calls) ≡ false = grind (arith, nat_tests, q, few) in
        ap (λ b. bare (cond b (a.Outside (min task unnamed) (effect_on (fate (min task unnamed)))) (a.Error x.NoTask))) far
        ∙ sym (ap (λ b. bare (cond b (a.Outside task (effect_on (fate task))) (a.Error x.NoTask))) q)

-- a happening as the plain program has it has the same reply, and makes the same step
replies_alike : (calls : List Planned) (workers : ℕ) (s : State) (y : Happening) → task_count calls ≤ unnamed → reply_of calls workers s (plainly y) ≡ reply_of calls workers s y
replies_alike calls workers s h.Call few = refl
replies_alike calls workers s (h.Clock t) few = refl
replies_alike calls workers s (h.Start w) few = refl
replies_alike calls workers s (h.Finish w ending) few = refl
replies_alike calls workers s (h.Cancel task) few = cancel_alike calls workers s task few
replies_alike calls workers s h.Purge few = refl

step_alike : (calls : List Planned) (s : State) (y : Happening) (r : Reply) → state_after calls s (plainly y) r ≡ state_after calls s y r
step_alike calls s h.Call r = refl
step_alike calls s (h.Clock t) r = refl
step_alike calls s (h.Start w) r = refl
step_alike calls s (h.Finish w ending) r = refl
step_alike calls s (h.Cancel task) r = refl
step_alike calls s h.Purge r = refl

steps_alike : (calls : List Planned) (workers : ℕ) (s : State) (y : Happening) → task_count calls ≤ unnamed → next calls workers s (plainly y) ≡ next calls workers s y
steps_alike calls workers s y few = step_alike calls s y (reply_of calls workers s (plainly y)) ∙ ap (state_after calls s y) (replies_alike calls workers s y few)

states_alike : (calls : List Planned) (workers : ℕ) (s : State) (past : List Happening) → task_count calls ≤ unnamed → after_from calls workers s (map plainly past) ≡ after_from calls workers s past
states_alike calls workers s [] few = refl
states_alike calls workers s (y ∷ past) few = ap (λ z. next calls workers z (plainly y)) (states_alike calls workers s past few) ∙ steps_alike calls workers (after_from calls workers s past) y few

lines_alike : (calls : List Planned) (workers : ℕ) (s : State) (past : List Happening) → task_count calls ≤ unnamed → lines_from calls workers s (map plainly past) ≡ lines_from calls workers s past
lines_alike calls workers s [] few = refl
lines_alike calls workers s (y ∷ past) few =
    let there = after_from calls workers s past in
    (λ i. lines_alike calls workers s past few i ++ lines_at (next calls workers (states_alike calls workers s past few i) (plainly y)).moment (reply_of calls workers (states_alike calls workers s past few i) (plainly y)))
    ∙ λ i. lines_from calls workers s past ++ lines_at (steps_alike calls workers there y few i).moment (replies_alike calls workers there y few i)

-- the lines of the history of some happenings are those of steps
lines_step : (calls : List Planned) (workers : ℕ) (past : List Happening) → lines_of calls (history_from calls workers [] past) ≡ lines_from calls workers opening past
lines_step calls workers past = lines_follow calls workers opening [] past (record { view = refl; sound = opening_sound })

-- the lines of a script are those of the history that it shows
pub shown_lines : (workers : ℕ) (so_far : LiveHistory) (s : ScriptView) → Shows workers so_far s → lines_of s.calls (history_from s.calls workers [] (reverse s.happened)) ≡ lines_in so_far
shown_lines workers so_far s shows =
    let calls = so_far.calls in
    let tasks = tasks_le calls in
    (λ i. lines_of (shows.calls i) (history_from (shows.calls i) workers [] (shows.happened i)))
    ∙ (lines_step calls workers (map plainly (happenings so_far.past))
    ∙ (lines_alike calls workers opening (happenings so_far.past) (omega (arith, tasks, shows.few))
    ∙ (sym (lines_step calls workers (happenings so_far.past)) ∙ ap (lines_of calls) (history_is calls workers so_far.past shows.means))))
