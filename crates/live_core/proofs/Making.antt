-- Where an executor stands after one call more, by the step of its table.
use Rattle.std.proofs.Common.{◌≡◌, ℕ, ◌+◌, ◌<◌, ◌≤◌, ◌||◌, suc, Bool, true, false, cond, inl, inr, ◌⊎◌, List, [], ◌∷◌, ◌++◌, length, Option, Some, None, refl, sym, ap, ◌∙◌, arith, subst}
use Rattle.std.specs.Prelude.{slice_get, max, nat_lt}
use Rattle.std.proofs.lemmas.Bool.Decides.{nat_tests}
use Rattle.std.proofs.lemmas.List.Elements.{All-head, All-tail, All-nil, All-cons}
use Rattle.std.proofs.lemmas.Option.{slice_get_within}
use Rattle.sched_time.specs.Times.{longest}
use Rattle.queue_code.specs.declared.call.CodeCall.{CodeCall}
use Rattle.queue_code.specs.declared.call.CodeCall.TheVariants as c
use Rattle.queue_code.specs.Calls.{Planned, IsOrderlyFrom, IsOrderlyCall, count_after, submits_task, task_count}
use Rattle.executor_model.specs.declared.types.Happening.{Happening}
use Rattle.executor_model.specs.declared.types.Happening.TheVariants as h
use Rattle.executor_model.specs.declared.types.Answer.{Answer}
use Rattle.executor_model.specs.Answers.{Reply, moment_after, is_accepted}
use Rattle.executor_model.specs.Histories.{HistoryEntry, entry_of, happenings, made, now_of, answer, is_submit, IsHistoryOf}
use Rattle.executor_model.specs.State.{after}
use Rattle.executor_model.specs.Flows.{lines_at}
use Rattle.executor_model.proofs.Agree.{after_agrees}
use Rattle.executor_laws.specs.Additions.{LooksBelow, AllLookBelow, StandsFor}
use Rattle.executor_laws.proofs.AddedCalls.{counted, task_one}
use Rattle.executor_laws.proofs.Adding.{calls_may_be_added}
use Rattle.task_table.specs.Tables as tables
use Rattle.task_table.specs.Tables.{TableView, workers_of, Shows, IsNextCall, Takes, CallSteps}
use Rattle.live_core.specs.Lives.{LiveView, Stands, Makes, Calls, never}

-- ---- what looks below a moment and a number looks below later ones

look_higher : (moment later count more never : ℕ) (happening : Happening) (said : Answer) → moment ≤ later → count ≤ more → LooksBelow moment count never happening said → LooksBelow later more never happening said
look_higher moment later count more never h.Call said l n below = tt
look_higher moment later count more never (h.Clock t) said l n below = λ q. let before = below q in omega (arith, before, l)
look_higher moment later count more never (h.Start w) said l n below = tt
look_higher moment later count more never (h.Finish w ending) said l n below = tt
look_higher moment later count more never (h.Cancel k) said l n (inl there) = inl (omega (arith, there, n))
look_higher moment later count more never (h.Cancel k) said l n (inr far) = inr far
look_higher moment later count more never h.Purge said l n below = tt

pub all_look_higher : (moment later count more never : ℕ) (past : List HistoryEntry) → moment ≤ later → count ≤ more → AllLookBelow moment count never past → AllLookBelow later more never past
all_look_higher moment later count more never [] l n below = All-nil (λ (e : HistoryEntry). LooksBelow later more never e.happening e.answer)
all_look_higher moment later count more never (e ∷ past) l n below =
    let here = All-head (λ (e : HistoryEntry). LooksBelow moment count never e.happening e.answer) e past below in
    let rest = All-tail (λ (e : HistoryEntry). LooksBelow moment count never e.happening e.answer) e past below in
    All-cons (λ (e : HistoryEntry). LooksBelow later more never e.happening e.answer) e past (look_higher moment later count more never e.happening e.answer l n here) (all_look_higher moment later count more never past l n rest)

-- ---- the order of the longer calls

-- a call behind others is in order where it is after each of them
join_orderly : (count moment : ℕ) (calls : List Planned) (p : Planned) → IsOrderlyFrom count moment calls → ((n : ℕ) (q : Planned) → slice_get calls n ≡ Some q → q.0 ≤ p.0) → moment ≤ p.0 → p.0 ≤ longest →
    IsOrderlyCall (count + task_count calls) p.1 → IsOrderlyFrom count moment (calls ++ p ∷ [])
join_orderly count moment [] p o before l near last = let same : count + 0 ≡ count = omega arith in (l, near, subst (λ n. IsOrderlyCall n p.1) same last, tt)
join_orderly count moment (q ∷ calls) p o before l near last = (
  o.0,
  o.1,
  o.2,
  join_orderly (count_after count q.1) q.0 calls p o.3 (λ n r is. before (suc n) r is) (before 0 q refl) near (subst (λ n. IsOrderlyCall n p.1) (sym (counted count q.0 q.1 calls)) last),
)

last_call : (calls : List Planned) (p : Planned) → slice_get (calls ++ p ∷ []) (length calls) ≡ Some p
last_call [] p = refl
last_call (x ∷ calls) p = last_call calls p

one_more : (calls : List Planned) (p : Planned) → 1 + length calls ≡ length (calls ++ p ∷ [])
one_more [] p = refl
one_more (x ∷ calls) p = let rest = one_more calls p in omega (arith, rest)

one_longer : (calls : List Planned) (p : Planned) → length calls < length (calls ++ p ∷ [])
one_longer calls p = let more = one_more calls p in omega (arith, more)

-- ---- the moments of the calls that were made

pub now_later : (now : ℕ) (call : Option Planned) (y : Happening) → now ≤ moment_after now call y
now_later now None h.Call = omega arith
now_later now (Some p) h.Call = grind arith
now_later now call (h.Clock t) = by (is_accepted now t) refl
  where
    by : (b : Bool) → is_accepted now t ≡ b → now ≤ cond b t now
    by true q = grind (arith, nat_tests, q)
    by false q = omega arith
now_later now call (h.Start w) = omega arith
now_later now call (h.Finish w ending) = omega arith
now_later now call (h.Cancel k) = omega arith
now_later now call h.Purge = omega arith

call_by : (now : ℕ) (p : Planned) (call : Option Planned) → call ≡ Some p → p.0 ≤ moment_after now call h.Call
call_by now p call is = subst (λ o. p.0 ≤ moment_after now o h.Call) (sym is) by
  where
    by : p.0 ≤ max now p.0
    by = grind arith

-- of one more happening
made_more : (calls : List Planned) (past : List Happening) (y : Happening) (n : ℕ) (q : Planned) → slice_get calls n ≡ Some q → n < made (y ∷ past) → (n < made past → q.0 ≤ now_of calls past) → q.0 ≤ now_of calls (y ∷ past)
made_more calls past y n q is l before = by y l
  where
    later : (y : Happening) → n < made past → q.0 ≤ now_of calls (y ∷ past)
    later y l = let there = before l in let more = now_later (now_of calls past) (slice_get calls (made past)) y in omega (arith, there, more)

    which : n < 1 + made past → (n < made past) ⊎ (n ≡ made past)
    which l = grind (arith, l)

    by : (y : Happening) → n < made (y ∷ past) → q.0 ≤ now_of calls (y ∷ past)
    by h.Call l = elim (which l) [ inl earlier ↦ later h.Call earlier | inr here ↦ call_by (now_of calls past) q (slice_get calls (made past)) (sym (ap (slice_get calls) here) ∙ is) ]
    by (h.Clock t) l = later (h.Clock t) l
    by (h.Start w) l = later (h.Start w) l
    by (h.Finish w ending) l = later (h.Finish w ending) l
    by (h.Cancel k) l = later (h.Cancel k) l
    by h.Purge l = later h.Purge l

-- a call that was made has a moment of at most now
made_by : (calls : List Planned) (past : List Happening) (n : ℕ) (q : Planned) → slice_get calls n ≡ Some q → n < made past → q.0 ≤ now_of calls past
made_by calls [] n q is l = absurd (omega (arith, l))
made_by calls (y ∷ past) n q is l = made_more calls past y n q is l (λ before. made_by calls past n q is before)

-- ---- the numbers

count_more : (count : ℕ) (call : CodeCall) → count_after count call ≡ cond (submits_task call) (1 + count) count
count_more count (c.Submit task timing delay) = omega arith
count_more count (c.Illegal task) = omega arith
count_more count (c.Cancel task) = refl
count_more count (c.SetPolicy which value) = refl
count_more count c.Shutdown = refl
count_more count c.ShutdownNow = refl
count_more count c.Ask = refl

counts_more : (calls : List Planned) (p : Planned) → task_count (calls ++ p ∷ []) ≡ count_after (task_count calls) p.1
counts_more calls p = task_one calls p ∙ sym (count_more (task_count calls) p.1)

-- ---- one call more

-- now is the moment of the table
pub now_there : (m : TableView) (calls : List Planned) (past : List HistoryEntry) → IsHistoryOf calls (workers_of m) past → Shows m (after calls (workers_of m) (happenings past)) → now_of calls (happenings past) ≡ m.moment
now_there m calls past means shows = sym (ap (λ v. v.moment) (after_agrees calls (workers_of m) past means).view) ∙ shows.moment

-- where a call may be added: the moment and the number that come next
pub record MayAdd (m : LiveView) (p : Planned) : Type 0 where
  pub early : m.earliest ≤ p.0
  pub ahead : m.table.moment ≤ p.0
  pub near : p.0 ≤ longest
  pub orderly : IsOrderlyCall m.count p.1
  pub few : count_after m.count p.1 ≤ never

-- the longer calls are in order
longer_orderly : (m : LiveView) (calls : List Planned) (past : List HistoryEntry) (p : Planned) → Stands m calls past → MayAdd m p → IsOrderlyFrom 0 0 (calls ++ p ∷ [])
longer_orderly m calls past p st may =
    let now = now_there m.table calls past st.table.means st.table.shows in
    let same : m.count ≡ 0 + task_count calls = omega (arith, st.count) in
    join_orderly 0 0 calls p st.table.orderly
    (λ n q there. let before = made_by calls (happenings past) n q there (omega (arith, st.made, slice_get_within calls n q there)) in omega (arith, before, now, may.ahead))
    (omega arith) may.near (subst (λ n. IsOrderlyCall n p.1) same may.orderly)

-- the history is one of the longer calls too
pub longer_stands : (m : LiveView) (calls : List Planned) (past : List HistoryEntry) (p : Planned) → Stands m calls past → MayAdd m p → StandsFor calls (calls ++ p ∷ []) (workers_of m.table) past
longer_stands m calls past p st may = calls_may_be_added calls (workers_of m.table) past never p st.table.means (record {
  orderly = longer_orderly m calls past p st may;
  numbers = subst (λ n. n ≤ never) (sym (counts_more calls p ∙ ap (λ (n : ℕ). count_after n p.1) st.count)) may.few;
  below = all_look_higher m.earliest p.0 m.count (task_count calls) never past may.early (omega (arith, st.count)) st.below;
})

-- the step that the table takes of it
abbrev pub StepsThere : LiveView → TableView → List Planned → List HistoryEntry → Planned → Reply → Type 0
StepsThere m new calls past p r = tables.Stands m.table (calls ++ p ∷ []) past → IsNextCall (calls ++ p ∷ []) past p → Takes new (calls ++ p ∷ []) past h.Call r

longer_takes : (m : LiveView) (new : TableView) (calls : List Planned) (past : List HistoryEntry) (p : Planned) (r : Reply) → Stands m calls past → MayAdd m p → StepsThere m new calls past p r → Takes new (calls ++ p ∷ []) past h.Call r
longer_takes m new calls past p r st may steps =
    let longer = longer_stands m calls past p st may in
    steps
    (record {
      orderly = longer_orderly m calls past p st may;
      means = longer.means;
      shows = subst (Shows m.table) (sym longer.state) st.table.shows;
    })
    (ap (slice_get (calls ++ p ∷ [])) st.made ∙ last_call calls p)

-- what becomes of the tasks that were accepted
abbrev pub Accounts : LiveView → LiveView → Answer → Type 0
Accounts old new answer = (k : ℕ) → (is_submit k answer || nat_lt k old.accepted) ≡ nat_lt k new.accepted

-- what a call leaves behind, once its table has taken the step: its workers stay, and it counts what was submitted
pub record Leaves (old new : LiveView) (p : Planned) (r : Reply) : Type 0 where
  pub workers : workers_of new.table ≡ workers_of old.table
  pub count : new.count ≡ count_after old.count p.1
  pub earliest : new.earliest ≡ old.earliest
  pub accepted : Accounts old new r.answer

-- the history is one call longer
longer_means : (old new : LiveView) (calls : List Planned) (past : List HistoryEntry) (p : Planned) (r : Reply) → Stands old calls past → MayAdd old p → workers_of new.table ≡ workers_of old.table →
    Takes new.table (calls ++ p ∷ []) past h.Call r → IsHistoryOf (calls ++ p ∷ []) (workers_of new.table) (entry_of h.Call r ∷ past)
longer_means old new calls past p r st may width takes =
    let more = calls ++ p ∷ [] in (
      subst (λ n. IsHistoryOf more n past) (sym width) (longer_stands old calls past p st may).means,
      subst (λ n. n < length more) (sym st.made) (one_longer calls p),
      sym (ap (λ (q : Reply). q.answer) takes.said),
      sym (ap (λ (q : Reply). q.ends) takes.said),
    )

-- the moment after it
longer_now : (old new : LiveView) (calls : List Planned) (past : List HistoryEntry) (p : Planned) (r : Reply) → Stands old calls past → MayAdd old p → workers_of new.table ≡ workers_of old.table →
    Takes new.table (calls ++ p ∷ []) past h.Call r → now_of (calls ++ p ∷ []) (h.Call ∷ happenings past) ≡ new.table.moment
longer_now old new calls past p r st may width takes =
    now_there new.table (calls ++ p ∷ []) (entry_of h.Call r ∷ past) (longer_means old new calls past p r st may width takes) takes.shows

-- the call that comes next is at most 1 ns after now still, as now does not go back
longer_behind : (old new : LiveView) (calls : List Planned) (past : List HistoryEntry) (p : Planned) (r : Reply) → Stands old calls past → MayAdd old p → Leaves old new p r →
    Takes new.table (calls ++ p ∷ []) past h.Call r → new.earliest ≤ new.table.moment + 1
longer_behind old new calls past p r st may leaves takes =
    let more = calls ++ p ∷ [] in
    let before : now_of more (happenings past) ≡ old.table.moment = (longer_stands old calls past p st may).now ∙ now_there old.table calls past st.table.means st.table.shows in
    let after : now_of more (h.Call ∷ happenings past) ≡ new.table.moment = longer_now old new calls past p r st may leaves.workers takes in
    let grows : now_of more (happenings past) ≤ now_of more (h.Call ∷ happenings past) = now_later (now_of more (happenings past)) (slice_get more (made (happenings past))) h.Call in
    omega (arith, before, after, grows, leaves.earliest, st.behind)

-- what happened looks below what comes next
longer_below : (old new : LiveView) (past : List HistoryEntry) (p : Planned) (r : Reply) → Leaves old new p r → AllLookBelow old.earliest old.count never past → AllLookBelow new.earliest new.count never (entry_of h.Call r ∷ past)
longer_below old new past p r leaves below =
    let grows : old.count ≤ count_after old.count p.1 = grows_by p.1 in
    All-cons (λ (e : HistoryEntry). LooksBelow new.earliest new.count never e.happening e.answer) (entry_of h.Call r) past tt
    (all_look_higher old.earliest new.earliest old.count new.count never past (omega (arith, leaves.earliest)) (omega (arith, leaves.count, grows)) below)
  where
    grows_by : (call : CodeCall) → old.count ≤ count_after old.count call
    grows_by (c.Submit task timing delay) = omega arith
    grows_by (c.Illegal task) = omega arith
    grows_by (c.Cancel task) = omega arith
    grows_by (c.SetPolicy which value) = omega arith
    grows_by c.Shutdown = omega arith
    grows_by c.ShutdownNow = omega arith
    grows_by c.Ask = omega arith

-- a call is made: where its table takes the step after this history, the executor stands where the longer history of the longer
-- calls leads
pub makes_there : (old new : LiveView) (calls : List Planned) (past : List HistoryEntry) (p : Planned) (r : Reply) → MayAdd old p → Leaves old new p r → Stands old calls past → StepsThere old new.table calls past p r → Makes new calls past p r
makes_there old new calls past p r may leaves st steps =
    let more = calls ++ p ∷ [] in
    let takes = longer_takes old new.table calls past p r st may steps in
    let longer = longer_stands old calls past p st may in
    record {
      stands = record {
        table = record {
          orderly = longer_orderly old calls past p st may;
          means = longer_means old new calls past p r st may leaves.workers takes;
          shows = takes.shows;
        };
        made = ap (λ (n : ℕ). 1 + n) st.made ∙ one_more calls p;
        count = counts_more calls p ∙ (ap (λ (n : ℕ). count_after n p.1) st.count ∙ sym leaves.count);
        few = subst (λ n. n ≤ never) (sym leaves.count) may.few;
        clock = leaves.earliest ∙ st.clock;
        below = longer_below old new past p r leaves st.below;
        behind = longer_behind old new calls past p r st may leaves takes;
        accepted = λ k. ap (λ b. is_submit k r.answer || b) (st.accepted k) ∙ leaves.accepted k;
      };
      lines = λ i. longer.lines i ++ lines_at (longer_now old new calls past p r st may leaves.workers takes i) r;
    }

-- the same, whatever calls and history led there
pub makes : (old new : LiveView) (p : Planned) (r : Reply) → MayAdd old p → Leaves old new p r → CallSteps old.table new.table p r → Calls old new p r
makes old new p r may leaves steps calls past st = makes_there old new calls past p r may leaves st (steps (calls ++ p ∷ []) past)
