-- What a book keeps, as one happening more comes.
use Rattle.std.proofs.Common.{◌≡◌, ◌≢◌, ℕ, ◌+◌, ◌<◌, ◌^◌, ◌==◌, ◌&&◌, ◌||◌, Bool, true, false, not, List, [], ◌∷◌, ◌++◌, length, reverse, refl, sym, ap, ◌∙◌, subst, arith}
use Rattle.std.specs.Prelude.{slice_index_or}
use Rattle.std.specs.List.{list_any}
use Rattle.std.proofs.lemmas.Bool.{false≢true}
use Rattle.std.proofs.lemmas.List.{reverse-append}
use Rattle.std.proofs.lemmas.List.Elements.{All-nil, All-cons}
use Rattle.task_word.specs.declared.views.CoreSeatView.{CoreSeatView}
use Rattle.queue_code.specs.Calls.{Planned, task_count}
use Rattle.executor_model.specs.declared.types.CancelEffect.TheVariants as f
use Rattle.executor_model.specs.declared.types.Answer.TheVariants as a
use Rattle.executor_model.specs.declared.types.Happening.{Happening}
use Rattle.executor_model.specs.declared.types.Happening.TheVariants as h
use Rattle.executor_model.specs.declared.types.Need.{Need}
use Rattle.executor_model.specs.declared.types.Need.TheVariants as n
use Rattle.executor_model.specs.declared.types.Line.{Line}
use Rattle.executor_model.specs.View.{View}
use Rattle.executor_model.specs.Answers.{Reply, bare}
use Rattle.executor_model.specs.Histories.{HistoryEntry, IsHistoryOf, happenings, is_call, is_end, MayFrom, MayCome}
use Rattle.executor_model.specs.Flows.{history_from, lines_of}
use Rattle.executor_model.specs.State.{State, vacant, after, next, reply_of, view_of_state}
use Rattle.executor_core.specs.CoreView.{CoreView, workers_of, state_of, Steps, IsCounted, ContinuesWith, GivesRoom, comes_before_event}
use Rattle.executor_model.specs.Needs.{need_of}
use Rattle.executor_model.proofs.Agree.{after_agrees}
use Rattle.executor_core.proofs.Continuing.{step_continues}
use Rattle.executor_laws.specs.NeedWrites.{writes_of}
use Rattle.executor_laws.specs.Cancels.{is_needed}
use Rattle.executor_laws.specs.TaskWords.{word_after}
use Rattle.executor_laws.proofs.CancelSteps.{cancels_touch_one_task}
use Rattle.executor_laws.proofs.CancelNeeds.{only_calls_sweep}
use Rattle.worker_pool.specs.Books.{history_for, is_purge}
use Rattle.worker_pool.specs.Applies.{SaysYes, is_in_way}
use Rattle.worker_pool.specs.own.Moves.{moves_made, CanMove, WasMet}
use Rattle.worker_pool.specs.own.Steps.{Agrees, Keeps, IsKept, past_in, Comes, need_in, OnlyOwnGrows, Notes, MovesOn, ends_of}
use Rattle.worker_pool.proofs.Bools.{or_true, any_append}
use Rattle.worker_pool.proofs.Steps.{longer, state_at, needs, stepped, can_move, noted}

-- what is so of some calls and workers is so of the same ones
same_for : (P : List Planned → ℕ → Type 0) (calls new_calls : List Planned) (workers new_workers : ℕ) → new_calls ≡ calls → new_workers ≡ workers → P calls workers → P new_calls new_workers
same_for P calls new_calls workers new_workers c w p = subst (λ x. P x new_workers) (sym c) (subst (P calls) (sym w) p)

-- the history of one happening more
pub past_more : (m next_m : CoreView) (happened items : List Happening) (y : Happening) → next_m.calls ≡ m.calls → workers_of next_m ≡ workers_of m → items ≡ happened ++ y ∷ [] →
    past_in next_m items ≡ longer m.calls (workers_of m) (past_in m happened) y
past_more m next_m happened items y calls workers more =
    (λ i. history_for (calls i) (workers i) items)
    ∙ ap (history_from m.calls (workers_of m) []) (ap reverse more ∙ reverse-append happened (y ∷ []))

may_from : (calls : List Planned) (past : List Happening) (y : Happening) (made now : ℕ) → MayFrom calls made now y → made ≡ Rattle.executor_model.specs.Histories.made past → now ≡ Rattle.executor_model.specs.Histories.now_of calls past → MayCome calls past y
may_from calls past y made now may q r = subst (λ k. MayFrom calls k (Rattle.executor_model.specs.Histories.now_of calls past) y) q (subst (λ t. MayFrom calls made t y) r may)

-- one happening more, once the seat agrees with it
pub keeps_more : (m next_m : CoreView) (v next_v : CoreSeatView) (happened items : List Happening) (lines next_lines : List Line) (y : Happening) → IsKept m v happened lines → Comes m y → Steps m next_m lines next_lines (y ∷ []) → items ≡ happened ++ y ∷ [] →
    Agrees m.calls (workers_of m) (longer m.calls (workers_of m) (past_in m happened) y) next_v → IsKept next_m next_v items next_lines
keeps_more m next_m v next_v happened items lines next_lines y kept may steps more agrees =
    let calls = m.calls in
    let workers = workers_of m in
    let past = history_for calls workers happened in
    let all = after_agrees calls workers past kept.means in
    let view : view_of_state calls (state_of m) ≡ Rattle.executor_model.specs.Histories.view_of_history calls past = ap (view_of_state calls) kept.stands ∙ all.view in
    let may_now = may_from calls (happenings past) y m.made m.moment may.0 (ap (λ (x : View). x.made) view) (ap (λ (x : View). x.moment) view) in
    let con : ContinuesWith m next_m lines next_lines (y ∷ []) past = step_continues m next_m lines next_lines y steps past kept.means kept.stands may_now in
    let turned : reverse items ≡ y ∷ reverse happened = ap reverse more ∙ reverse-append happened (y ∷ []) in
    let same : history_for calls workers items ≡ longer calls workers past y = ap (history_from calls workers []) turned in
    same_for (λ c w. Keeps c w (state_of next_m) next_v items next_lines) calls next_m.calls workers (workers_of next_m) steps.calls steps.workers
    (record {
      orderly = kept.orderly;
      means = subst (IsHistoryOf calls workers) (sym same) con.means;
      unpurged = ap (list_any is_purge) more ∙ (any_append is_purge happened (y ∷ []) ∙ (λ i. kept.unpurged i || (may.1 i || false)));
      stands = stood (longer calls workers past y) (history_for calls workers items) con.stands (sym same);
      written = con.given ∙ (ap (λ xs. xs ++ con.added) kept.written ∙ (sym con.spoken ∙ ap (lines_of calls) (sym same)));
      agrees = subst (λ p. Agrees calls workers p next_v) (sym same) agrees;
    })
  where
    stood : (p q : List HistoryEntry) → state_of next_m ≡ after next_m.calls (workers_of next_m) (happenings p) → p ≡ q → state_of next_m ≡ after m.calls (workers_of m) (happenings q)
    stood p q s is = s ∙ (λ i. after (steps.calls i) (steps.workers i) (happenings (is i)))

-- what is needed in the core is needed after the history
pub need_after : (m : CoreView) (v : CoreSeatView) (happened : List Happening) (lines : List Line) (y : Happening) → IsKept m v happened lines → need_in m y ≡ needs m.calls (workers_of m) (past_in m happened) y
need_after m v happened lines y kept = ap (λ s. need_of m.calls (workers_of m) s y) kept.stands

-- the words that a need names were moved, and then its step was taken
pub keeps_step : (m next_m : CoreView) (v next_v : CoreSeatView) (happened items : List Happening) (lines next_lines : List Line) (y : Happening) → IsKept m v happened lines → Comes m y → need_in m y ≢ n.Sweep → Steps m next_m lines next_lines (y ∷ []) →
    items ≡ happened ++ y ∷ [] → next_v ≡ moves_made v (need_in m y) → IsKept next_m next_v items next_lines
keeps_step m next_m v next_v happened items lines next_lines y kept may plain steps more is =
    let calls = m.calls in
    let workers = workers_of m in
    let past = past_in m happened in
    let same = need_after m v happened lines y kept in
    let agrees = stepped calls workers past y v kept.orderly.1 kept.means kept.agrees (λ q. plain (same ∙ q)) in
    keeps_more m next_m v next_v happened items lines next_lines y kept may steps more
    (subst (Agrees calls workers (longer calls workers past y)) (sym (is ∙ ap (moves_made v) same)) agrees)

-- the seat can make the moves
pub kept_can_move : (m : CoreView) (v : CoreSeatView) (happened : List Happening) (lines : List Line) (y : Happening) → IsKept m v happened lines → IsCounted m → m.taken < 4294967296 → CanMove (task_count m.calls) v (need_in m y)
kept_can_move m v happened lines y kept counted small =
    let calls = m.calls in
    let workers = workers_of m in
    let past = past_in m happened in
    let same = need_after m v happened lines y kept in
    let runs : (k : ℕ) → (word_after calls workers past k).run + 1 < 2 ^ 32 = λ k.
    let is : (slice_index_or m.tasks k vacant).run ≡ (word_after calls workers past k).run = ap (λ (s : State). (s.tasks k).run) kept.stands in
    let low = counted k in
    omega (arith, is, low, small)
    in
    subst (CanMove (task_count calls) v) (sym same) (can_move calls workers past y v kept.orderly.1 kept.means kept.agrees (λ k q. runs k))

-- ---- who stands in the way

-- the task that a need names does
pub needed_in_way : (m : CoreView) (v : CoreSeatView) (happened : List Happening) (lines : List Line) (y : Happening) (k : ℕ) → IsKept m v happened lines → is_needed k (need_in m y) ≡ true → is_in_way m.calls (workers_of m) (past_in m happened) y k ≡ true
needed_in_way m v happened lines y k kept named =
    let s = state_at m.calls (workers_of m) (past_in m happened) in
    ap (λ b. b || is_end k (reply_of m.calls (workers_of m) s y).ends) (ap (is_needed k) (sym (need_after m v happened lines y kept)) ∙ named)

-- a task that the next call ends does
pub ended_in_way : (m : CoreView) (v : CoreSeatView) (happened : List Happening) (lines : List Line) (k : ℕ) → IsKept m v happened lines → is_end k (ends_of m) ≡ true → is_in_way m.calls (workers_of m) (past_in m happened) h.Call k ≡ true
ended_in_way m v happened lines k kept ends =
    or_true (is_needed k (needs m.calls (workers_of m) (past_in m happened) h.Call)) _ (ap (λ s. is_end k (reply_of m.calls (workers_of m) s h.Call).ends) (sym kept.stands) ∙ ends)

-- cancels that are the same are of the same task
same_cancel : (k j : ℕ) → h.Cancel k ≡ h.Cancel j → k ≡ j
same_cancel k j is = ap task_of is
  where
    task_of : Happening → ℕ
    task_of (h.Cancel i) = i
    task_of _ = k

-- a cancel that the seat met is noted
pub notes_one : (m next_m : CoreView) (v next_v : CoreSeatView) (happened items : List Happening) (lines next_lines : List Line) (k : ℕ) → IsKept m v happened lines → WasMet (task_count m.calls) v next_v k → Steps m next_m lines next_lines (h.Cancel k ∷ []) →
    items ≡ happened ++ h.Cancel k ∷ [] → next_m.taken ≡ m.taken → (IsCounted m → IsCounted next_m) →
    ((reply_of m.calls (workers_of m) (state_of m) (h.Cancel k)).answer ≡ a.Outside k f.Yes → GivesRoom m next_m (length lines) (length next_lines)) →
    IsKept next_m next_v items next_lines × Notes m next_m happened items k × GivesRoom m next_m (length lines) (length next_lines)
notes_one m next_m v next_v happened items lines next_lines k kept was steps more taken counted effective =
    let calls = m.calls in
    let workers = workers_of m in
    let s = state_of m in
    let past = past_in m happened in
    let note = noted calls workers past v next_v k kept.orderly.1 kept.means kept.agrees was in
    let reply : reply_of calls workers s (h.Cancel k) ≡ bare (a.Outside k f.Yes) = ap (λ x. reply_of calls workers x (h.Cancel k)) kept.stands ∙ note.reply in
    let gives = effective (ap (λ (r : Reply). r.answer) reply) in
    let touches = cancels_touch_one_task calls workers past k kept.orderly.1 kept.means (ap (λ (r : Reply). r.answer) note.reply) in
    let stepped_to : state_of next_m ≡ next calls workers (state_at calls workers past) (h.Cancel k) = steps.state ∙ ap (λ x. next calls workers x (h.Cancel k)) kept.stands in
    let at : (y : Happening) (P : Reply → Bool) → P (reply_of next_m.calls (workers_of next_m) (state_of next_m) y) ≡ P (reply_of calls workers (next calls workers (state_at calls workers past) (h.Cancel k)) y) =
    λ y P. (λ i. P (reply_of (steps.calls i) (steps.workers i) (stepped_to i) y))
    in
    let stays : need_in m h.Call ≡ n.Sweep → need_in next_m h.Call ≡ n.Sweep = λ sweep.
    let was_sweep : needs calls workers past h.Call ≡ n.Sweep = sym (need_after m v happened lines h.Call kept) ∙ sweep in
    (λ i. need_of (steps.calls i) (steps.workers i) (stepped_to i) h.Call)
    ∙ (touches.needs h.Call (ap (λ (d : Need). list_any (λ x. x.0 == k) (writes_of d [])) was_sweep) ∙ was_sweep)
    in
    let ends : (j : ℕ) → is_end j (ends_of next_m) ≡ (is_end j (ends_of m) && not (k == j)) = λ j.
    at h.Call (λ r. is_end j r.ends) ∙ (touches.ends h.Call j ∙ ap (λ x. is_end j (reply_of calls workers x h.Call).ends && not (k == j)) (sym kept.stands))
    in (
      keeps_more m next_m v next_v happened items lines next_lines (h.Cancel k) kept (tt, refl) steps more note.agrees,
      record {
        only = record {
          same = record { calls = steps.calls; workers = steps.workers; taken = taken; limit = steps.limit };
          made = ap (λ (x : State). x.made) steps.state;
          moment = ap (λ (x : State). x.moment) steps.state;
          counted = counted;
          sweeps = stays;
          noting = record {
            noted = Rattle.executor_model.specs.Histories.entry_of (h.Cancel k) (Rattle.executor_model.specs.Histories.answer calls workers past (h.Cancel k)) ∷ [];
            past = past_more m next_m happened items (h.Cancel k) steps.calls steps.workers more;
            each = All-cons (λ e. (k : ℕ) × SaysYes e k) _ [] (k, record { happening = refl; answer = ap (λ (r : Reply). r.answer) note.said }) (All-nil (λ e. (k : ℕ) × SaysYes e k));
          };
          room = omega (arith, gives.less);
        };
        less = gives.less;
        ends = ends;
        way = λ y stood. (λ j is. subst (λ i. is_in_way calls workers past y i ≡ true) (same_cancel k j is) stood, tt);
      },
      gives,
    )

-- an event sweeps nothing
pub events_sweep_nothing : (m : CoreView) (y : Happening) → Rattle.executor_model.specs.Histories.is_call y ≡ false → need_in m y ≢ n.Sweep
events_sweep_nothing m y event is = only_calls_sweep m.calls (workers_of m) (state_of m) y event is

-- what may come may come after cancels were noted
pub still_comes : (m next_m : CoreView) (y : Happening) → next_m.calls ≡ m.calls → next_m.made ≡ m.made → next_m.moment ≡ m.moment → Comes m y → Comes next_m y
still_comes m next_m y calls made moment may =
    (subst (λ c. MayFrom c next_m.made next_m.moment y) (sym calls) (subst (λ k. MayFrom m.calls k next_m.moment y) (sym made) (subst (λ t. MayFrom m.calls m.made t y) (sym moment) may.0)), may.1)

-- where the calls and the moment are once a happening came
pub moves_on : (m next_m : CoreView) (lines next_lines : List Line) (y : Happening) → Steps m next_m lines next_lines (y ∷ []) → MovesOn m next_m y
moves_on m next_m lines next_lines y steps = record { made = ap (λ (x : State). x.made) steps.state; moment = ap (λ (x : State). x.moment) steps.state }

-- only the next call sweeps
pub sweeps_are_calls : (m : CoreView) (y : Happening) → need_in m y ≡ n.Sweep → y ≡ h.Call
sweeps_are_calls m h.Call q = refl
sweeps_are_calls m (h.Clock t) q = absurd (events_sweep_nothing m (h.Clock t) refl q)
sweeps_are_calls m (h.Start w) q = absurd (events_sweep_nothing m (h.Start w) refl q)
sweeps_are_calls m (h.Finish w ending) q = absurd (events_sweep_nothing m (h.Finish w ending) refl q)
sweeps_are_calls m (h.Cancel k) q = absurd (events_sweep_nothing m (h.Cancel k) refl q)
sweeps_are_calls m h.Purge q = absurd (events_sweep_nothing m h.Purge refl q)

-- the moves of a need leave the handles as they are
pub moved_handles : (v : CoreSeatView) (need : Need) → OnlyOwnGrows v (moves_made v need)
moved_handles v n.Nothing = record { joined = refl; ranks = refl; out = refl; these = []; grows = refl }
moved_handles v (n.Submit k) = record { joined = refl; ranks = refl; out = refl; these = []; grows = refl }
moved_handles v (n.Start k) = record { joined = refl; ranks = refl; out = refl; these = []; grows = refl }
moved_handles v (n.Done k) = record { joined = refl; ranks = refl; out = refl; these = []; grows = refl }
moved_handles v (n.Fail k) = record { joined = refl; ranks = refl; out = refl; these = []; grows = refl }
moved_handles v (n.Rearm k) = record { joined = refl; ranks = refl; out = refl; these = []; grows = refl }
moved_handles v (n.Cancel k) = record { joined = refl; ranks = refl; out = refl; these = k ∷ []; grows = refl }
moved_handles v n.Sweep = record { joined = refl; ranks = refl; out = refl; these = []; grows = refl }

-- a call comes before an event
pub call_comes_before : (y : Happening) → is_call y ≡ true → comes_before_event y ≡ true
call_comes_before h.Call q = refl
call_comes_before (h.Clock t) q = absurd (false≢true q)
call_comes_before (h.Start w) q = absurd (false≢true q)
call_comes_before (h.Finish w ending) q = absurd (false≢true q)
call_comes_before (h.Cancel k) q = refl
call_comes_before h.Purge q = refl
