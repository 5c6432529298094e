-- Where an executor stands after one event more, by the step of its table, and where it stands before any.
use Rattle.std.proofs.Common.{◌≡◌, ℕ, ◌+◌, ◌≤◌, ◌||◌, Bool, true, false, cond, List, [], ◌∷◌, ◌++◌, length, Option, Some, None, refl, sym, ap, ◌∙◌, arith, subst}
use Rattle.std.specs.Prelude.{slice_get, nat_lt}
use Rattle.std.specs.Option.{option_map_or}
use Rattle.std.proofs.lemmas.Bool.{false≢true}
use Rattle.std.proofs.lemmas.List.Elements.{All-cons}
use Rattle.std.proofs.lemmas.Option.{slice_get_within}
use Rattle.queue_code.specs.Calls.{Planned}
use Rattle.executor_model.specs.declared.types.Happening.{Happening}
use Rattle.executor_model.specs.declared.types.Happening.TheVariants as h
use Rattle.executor_model.specs.declared.types.EventError.TheVariants as x
use Rattle.executor_model.specs.declared.types.Answer.TheVariants as a
use Rattle.executor_model.specs.View.{View}
use Rattle.executor_model.specs.Answers.{Reply, reply, effect_on, start_answer, finish_answer}
use Rattle.executor_model.specs.Histories.{HistoryEntry, entry_of, happenings, made, now_of, is_call, is_submit, was_accepted, view_of_history, MayFrom, IsHistoryOf}
use Rattle.executor_model.specs.Flows.{lines_of, lines_at}
use Rattle.executor_laws.specs.Additions.{LooksBelow}
use Rattle.task_table.specs.Tables as tables
use Rattle.task_table.specs.Tables.{TableView, workers_of, Takes, EventSteps}
use Rattle.live_core.specs.Lives.{LiveView, Stands, Makes, Meets, Happens, never, passed}
use Rattle.live_core.proofs.Making.{all_look_higher, now_later, now_there}

-- ---- an event submits no task

unsubmitted : (calls : List Planned) (workers : ℕ) (v : View) (y : Happening) (k : ℕ) → is_call y ≡ false → is_submit k (reply calls workers v y).answer ≡ false
unsubmitted calls workers v h.Call k event = absurd (false≢true (sym event))
unsubmitted calls workers v (h.Clock t) k event = pick _ _
  where
    pick : (b d : Bool) → is_submit k (cond b (a.Error x.Backward) (cond d (a.Error x.TooFar) a.Clock)) ≡ false
    pick true d = refl
    pick false true = refl
    pick false false = refl
unsubmitted calls workers v (h.Start w) k event = pick _ _ _
  where
    pick : (b : Bool) (work first : Option ℕ) → is_submit k (cond b (option_map_or (λ _. a.Error x.Busy) work (start_answer v w first)) (a.Error x.NoWorker)) ≡ false
    pick true None None = refl
    pick true None (Some j) = refl
    pick true (Some j) first = refl
    pick false work first = refl
unsubmitted calls workers v (h.Finish w ending) k event = pick _ _
  where
    pick : (b : Bool) (work : Option ℕ) → is_submit k (cond b (finish_answer calls v w ending work) (a.Error x.NoWorker)) ≡ false
    pick true None = refl
    pick true (Some j) = refl
    pick false work = refl
unsubmitted calls workers v (h.Cancel j) k event = pick _
  where
    pick : (b : Bool) → is_submit k (cond b (a.Outside j (effect_on (v.fate j))) (a.Error x.NoTask)) ≡ false
    pick true = refl
    pick false = refl
unsubmitted calls workers v h.Purge k event = refl

-- ---- it may come, as all calls are made

may_come : (calls : List Planned) (made now : ℕ) (y : Happening) → made ≡ length calls → is_call y ≡ false → MayFrom calls made now y
may_come calls made now h.Call all event = absurd (false≢true (sym event))
may_come calls made now (h.Clock t) all event = λ accepted n p there at. omega (arith, all, slice_get_within calls n p there)
may_come calls made now (h.Start w) all event = tt
may_come calls made now (h.Finish w ending) all event = tt
may_come calls made now (h.Cancel k) all event = tt
may_come calls made now h.Purge all event = tt

-- ---- one event more

-- what an event leaves behind, once its table has taken the step: the numbers stay, and the call that comes next is behind it, by
-- at most 1 ns, where it was
pub record Passes (old new : LiveView) (y : Happening) (r : Reply) : Type 0 where
  pub workers : workers_of new.table ≡ workers_of old.table
  pub count : new.count ≡ old.count
  pub accepted : new.accepted ≡ old.accepted
  pub earliest : old.earliest ≤ new.earliest
  pub behind : old.earliest ≤ new.table.moment + 1 → new.earliest ≤ new.table.moment + 1
  pub looks : LooksBelow new.earliest old.count never y r.answer
  pub clock : new.earliest ≡ passed old.earliest y r.answer

-- the history is one event longer
event_means : (old new : LiveView) (calls : List Planned) (past : List HistoryEntry) (y : Happening) (r : Reply) → is_call y ≡ false → workers_of new.table ≡ workers_of old.table → Takes new.table calls past y r → Stands old calls past →
    IsHistoryOf calls (workers_of new.table) (entry_of y r ∷ past)
event_means old new calls past y r event width takes st = (
  subst (λ n. IsHistoryOf calls n past) (sym width) st.table.means,
  may_come calls (made (happenings past)) (now_of calls (happenings past)) y st.made event,
  sym (ap (λ (q : Reply). q.answer) takes.said),
  sym (ap (λ (q : Reply). q.ends) takes.said),
)

-- it submits no task
event_submits : (new : TableView) (calls : List Planned) (past : List HistoryEntry) (y : Happening) (r : Reply) (k : ℕ) → is_call y ≡ false → Takes new calls past y r → is_submit k r.answer ≡ false
event_submits new calls past y r k event takes = sym (ap (λ (q : Reply). is_submit k q.answer) takes.said) ∙ unsubmitted calls (workers_of new) (view_of_history calls past) y k event

-- the call that comes next is at most 1 ns after now still, as now does not go back
event_behind : (old new : LiveView) (calls : List Planned) (past : List HistoryEntry) (y : Happening) (r : Reply) → Passes old new y r → Stands old calls past → IsHistoryOf calls (workers_of new.table) (entry_of y r ∷ past) →
    Takes new.table calls past y r → new.earliest ≤ new.table.moment + 1
event_behind old new calls past y r passes st means takes =
    let before : now_of calls (happenings past) ≡ old.table.moment = now_there old.table calls past st.table.means st.table.shows in
    let after : now_of calls (y ∷ happenings past) ≡ new.table.moment = now_there new.table calls (entry_of y r ∷ past) means takes.shows in
    let grows : now_of calls (happenings past) ≤ now_of calls (y ∷ happenings past) = now_later (now_of calls (happenings past)) (slice_get calls (made (happenings past))) y in
    passes.behind (omega (arith, before, after, grows, st.behind))

-- an event comes: where its table takes the step after this history, the executor stands where the longer history leads
pub meets_there : (old new : LiveView) (calls : List Planned) (past : List HistoryEntry) (y : Happening) (r : Reply) → is_call y ≡ false → Passes old new y r → Stands old calls past → Takes new.table calls past y r → Meets new calls past y r
meets_there old new calls past y r event passes st takes =
    let means = event_means old new calls past y r event passes.workers takes st in
    record {
      stands = record {
        table = record { orderly = st.table.orderly; means = means; shows = takes.shows };
        made = ap (λ b. cond b (1 + made (happenings past)) (made (happenings past))) event ∙ st.made;
        count = st.count ∙ sym passes.count;
        few = subst (λ n. n ≤ never) (sym passes.count) st.few;
        clock = passes.clock ∙ ap (λ (n : ℕ). passed n y r.answer) st.clock;
        below = All-cons (λ (e : HistoryEntry). LooksBelow new.earliest new.count never e.happening e.answer) (entry_of y r) past
            (subst (λ n. LooksBelow new.earliest n never y r.answer) (sym passes.count) passes.looks)
            (all_look_higher old.earliest new.earliest old.count new.count never past passes.earliest (omega (arith, passes.count)) st.below);
        behind = event_behind old new calls past y r passes st means takes;
        accepted = λ k. ap (λ b. b || was_accepted k past) (event_submits new.table calls past y r k event takes)
            ∙ (st.accepted k ∙ ap (nat_lt k) (sym passes.accepted));
      };
      lines = λ i. lines_of calls past ++ lines_at (now_there new.table calls (entry_of y r ∷ past) means takes.shows i) r;
    }

-- the same, whatever calls and history led there
pub meets : (old new : LiveView) (y : Happening) (r : Reply) → is_call y ≡ false → Passes old new y r → EventSteps old.table new.table y r → Happens old new y r
meets old new y r event passes steps calls past st = meets_there old new calls past y r event passes st (steps calls past st.table)

-- ---- nothing happens

-- the table changes, and stands where it stood: a slot is emptied, or there are more of them
pub record Carries (old new : LiveView) : Type 0 where
  pub table : (calls : List Planned) (past : List HistoryEntry) → tables.Stands old.table calls past → tables.Stands new.table calls past
  pub moment : new.table.moment ≡ old.table.moment
  pub count : new.count ≡ old.count
  pub accepted : new.accepted ≡ old.accepted
  pub earliest : new.earliest ≡ old.earliest

-- then the executor does too
pub stays : (old new : LiveView) (calls : List Planned) (past : List HistoryEntry) → Carries old new → Stands old calls past → Stands new calls past
stays old new calls past carries st = record {
  table = carries.table calls past st.table;
  made = st.made;
  count = st.count ∙ sym carries.count;
  few = subst (λ n. n ≤ never) (sym carries.count) st.few;
  clock = carries.earliest ∙ st.clock;
  below = all_look_higher old.earliest new.earliest old.count new.count never past (omega (arith, carries.earliest)) (omega (arith, carries.count)) st.below;
  behind = omega (arith, carries.earliest, carries.moment, st.behind);
  accepted = λ k. st.accepted k ∙ ap (nat_lt k) (sym carries.accepted);
}

-- also after a call, or an event
pub makes_still : (mid new : LiveView) (calls : List Planned) (past : List HistoryEntry) (p : Planned) (r : Reply) → Carries mid new → Makes mid calls past p r → Makes new calls past p r
makes_still mid new calls past p r carries m = record {
  stands = stays mid new (calls ++ p ∷ []) (entry_of h.Call r ∷ past) carries m.stands;
  lines = m.lines ∙ ap (λ (now : ℕ). lines_of calls past ++ lines_at now r) (sym carries.moment);
}

pub meets_still : (mid new : LiveView) (calls : List Planned) (past : List HistoryEntry) (y : Happening) (r : Reply) → Carries mid new → Meets mid calls past y r → Meets new calls past y r
meets_still mid new calls past y r carries m = record {
  stands = stays mid new calls (entry_of y r ∷ past) carries m.stands;
  lines = m.lines ∙ ap (λ (now : ℕ). lines_of calls past ++ lines_at now r) (sym carries.moment);
}
