-- A sweep: the seat cancels whom the next call ends, one by one, before the call is made.
use Rattle.std.proofs.Common.{◌≡◌, ◌≢◌, ◌⊎◌, ℕ, zero, suc, ◌+◌, ◌<◌, ◌≤◌, ◌==◌, ◌&&◌, ◌||◌, Bool, true, false, not, cond, inl, inr, List, [], ◌∷◌, ◌++◌, length, map, refl, sym, ap, ◌∙◌, subst, arith}
use Rattle.std.specs.List.{All, list_any}
use Rattle.std.proofs.lemmas.Bool.{false≢true, eq-eqb, eqb-true}
use Rattle.std.proofs.lemmas.List.Elements.{All-head, All-tail}
use Rattle.task_word.specs.Words.{Parts, is_live, is_cancelled, marked}
use Rattle.task_word.specs.Writes.{Kind, core_cancel}
use Rattle.task_word.specs.Views.{entry}
use Rattle.task_word.specs.declared.views.CoreSeatView.{CoreSeatView}
use Rattle.task_word.specs.declared.answers.CoreCancel.{CoreCancel}
use Rattle.task_word.specs.declared.answers.CoreCancel.TheVariants as core
use Rattle.task_word.specs.Answers.{after_cancel}
use Rattle.task_word.proofs.Uses.{entry_here, entry_other, entry_count}
use Rattle.queue_code.specs.Calls.{Planned, IsOrderly, task_count}
use Rattle.executor_model.specs.declared.types.Happening.{Happening}
use Rattle.executor_model.specs.declared.types.Happening.TheVariants as h
use Rattle.executor_model.specs.declared.types.Line.{Line}
use Rattle.executor_model.specs.declared.types.Need.TheVariants as n
use Rattle.executor_model.specs.Histories.{HistoryEntry, IsHistoryOf, answer, cancels, is_end, is_end as stands_in}
use Rattle.executor_model.specs.State.{view_of_state, reply_of}
use Rattle.executor_model.specs.Tasks.{word_phase}
use Rattle.executor_model.specs.Needs.{need_of}
use Rattle.executor_core.specs.CoreView.{CoreView, workers_of, Steps}
use Rattle.executor_model.proofs.Agree.{after_agrees}
use Rattle.executor_model.proofs.Sound.{waits_in}
use Rattle.executor_laws.specs.TaskWords.{word_after}
use Rattle.executor_laws.specs.NeedWrites.{writes_of, IsWritten, MakesWrites}
use Rattle.executor_laws.proofs.Replies.{ends_say}
use Rattle.worker_pool.specs.Books.{FitsWord}
use Rattle.worker_pool.specs.own.Moves.{with_mark, IsFresh, WasMet}
use Rattle.worker_pool.specs.own.Steps.{Agrees, IsKept, past_in, Comes, need_in, Notes, IsAheadBy, ends_of, SweepsUpTo}
use Rattle.worker_pool.proofs.Bools.{or_assoc, and_none, and_true, false_unless}
use Rattle.worker_pool.proofs.Steps.{longer, state_at, needs, sets, sets_named, Written, writes_at, cancelled_then, cancelled_more}
use Rattle.worker_pool.proofs.Late.{late_met, won}
use Rattle.worker_pool.proofs.Keepings.{keeps_more}

-- ---- all that a sweep writes

named_by : (ends : List ℕ) (k : ℕ) → list_any (λ (x : ℕ × Kind). x.0 == k) (map (λ j. (j, core_cancel)) ends) ≡ is_end k ends
named_by [] k = refl
named_by (j ∷ ends) k = ap (λ b. (j == k) || b) (named_by ends k)

written_in : (P : ℕ × Kind → Type 0) (ends : List ℕ) (k : ℕ) → All P (map (λ j. (j, core_cancel)) ends) → is_end k ends ≡ true → P (k, core_cancel)
written_in P [] k all q = absurd (false≢true q)
written_in P (j ∷ ends) k all q =
    let rest : is_end k ends ≡ true → P (k, core_cancel) = written_in P ends k (All-tail P (j, core_cancel) (map (λ i. (i, core_cancel)) ends) all) in
    let pick : (b : Bool) → (j == k) ≡ b → P (k, core_cancel) =
    elim [
      | true ↦ λ same. subst (λ i. P (i, core_cancel)) (eqb-true j k same) (All-head P (j, core_cancel) (map (λ i. (i, core_cancel)) ends) all)
      | false ↦ λ apart. rest (ap (λ b. b || is_end k ends) (sym apart) ∙ q)
    ]
    in
    pick (j == k) refl

pub low_or : (k t : ℕ) → (k < t) ⊎ (t ≤ k)
low_or k zero = inr (omega arith)
low_or zero (suc t) = inl (omega arith)
low_or (suc k) (suc t) = elim (low_or k t) [ inl l ↦ inl (omega (arith, l)) | inr l ↦ inr (omega (arith, l)) ]

-- a call that sweeps cancels exactly those that it ends
pub sweep_cancels : (calls : List Planned) (workers : ℕ) (past : List HistoryEntry) (k : ℕ) → IsHistoryOf calls workers past → needs calls workers past h.Call ≡ n.Sweep →
    cancels k (answer calls workers past h.Call).answer (answer calls workers past h.Call).ends ≡ is_end k (reply_of calls workers (state_at calls workers past) h.Call).ends
sweep_cancels calls workers past k means sweeps =
    let ends = (reply_of calls workers (state_at calls workers past) h.Call).ends in
    cancelled_then calls workers past h.Call k means ∙ (ap (λ d. sets k (writes_of d ends)) sweeps ∙ sets_named ends k)

stepped_sweep : (calls : List Planned) (workers : ℕ) (past : List HistoryEntry) (base v : CoreSeatView) (ahead : List ℕ) → IsOrderly calls → IsHistoryOf calls workers past → Agrees calls workers past base → IsAheadBy base v ahead →
    needs calls workers past h.Call ≡ n.Sweep → ((k : ℕ) → stands_in k ahead ≡ is_end k (reply_of calls workers (state_at calls workers past) h.Call).ends) → Agrees calls workers (longer calls workers past h.Call) v
stepped_sweep calls workers past base v ahead orderly means agrees far sweeps whole = record {
  count = far.count ∙ agrees.count;
  each = λ k. by k (stands_in k ahead) refl;
  cancelled = λ k. cancelled_more calls workers past h.Call base.own v.own k (agrees.cancelled k) (far.own k ∙ ap (λ b. b || stands_in k base.own) (whole k ∙ sym (sweep_cancels calls workers past k means sweeps)));
}
  where
    ends : List ℕ
    ends = (reply_of calls workers (state_at calls workers past) h.Call).ends

    writes : MakesWrites calls workers (state_at calls workers past) h.Call (map (λ k. (k, core_cancel)) ends)
    writes = writes_at calls workers past h.Call n.Sweep orderly means sweeps

    word' : ℕ → Parts
    word' k = word_after calls workers (longer calls workers past h.Call) k

    by : (k : ℕ) (b : Bool) → stands_in k ahead ≡ b → FitsWord (entry v k) (word' k)
    by k true hit =
        let one : IsWritten calls k core_cancel (word_after calls workers past k) (word' k) = written_in (Written calls workers past h.Call) ends k writes.made (sym (whole k) ∙ hit) in
        let e : entry v k ≡ marked (entry base k) = far.entries k ∙ ap (λ b. cond b (marked (entry base k)) (entry base k)) hit in
        let fit = agrees.each k in
        record {
          phase = ap (λ (p : Parts). p.phase) e ∙ (fit.phase ∙ sym (ap (λ (p : Parts). p.phase) one.1));
          run = ap (λ (p : Parts). p.run) e ∙ (fit.run ∙ sym (ap (λ (p : Parts). p.run) one.1));
          cancelled = ap is_cancelled e ∙ (ap (λ p. is_live p && true) fit.phase ∙ sym (ap is_cancelled one.1));
        }
    by k false miss =
        let stays = writes.rest k (named_by ends k ∙ (sym (whole k) ∙ miss)) in
        let e : entry v k ≡ entry base k = far.entries k ∙ ap (λ b. cond b (marked (entry base k)) (entry base k)) miss in
        subst (λ x. FitsWord x (word' k)) (sym e) (subst (FitsWord (entry base k)) (sym stays) (agrees.each k))

-- ---- one task of a sweep

-- before the first task the view is its own base
pub starts_at_none : (m : CoreView) (v : CoreSeatView) (happened : List Happening) (lines : List Line) → IsKept m v happened lines → SweepsUpTo v.own m v happened lines 0
starts_at_none m v happened lines kept = record {
  base = v;
  ahead = [];
  own = refl;
  kept = kept;
  far = record { count = refl; entries = λ k. refl; own = λ k. refl; same = record { joined = refl; ranks = refl; out = refl } };
  swept = λ k l. absurd (omega (arith, l));
  rest = λ k l. refl;
}

-- the entry of a task that is not ahead
here_base : (own : List ℕ) (m : CoreView) (v : CoreSeatView) (happened : List Happening) (lines : List Line) (k : ℕ) → (up : SweepsUpTo own m v happened lines k) → entry v k ≡ entry up.base k
here_base own m v happened lines k up = up.far.entries k ∙ ap (λ b. cond b (marked (entry up.base k)) (entry up.base k)) (up.rest k (omega arith))

-- what is ended waits, and is not cancelled, in the seat's view too
pub ended_waits : (own : List ℕ) (m : CoreView) (v : CoreSeatView) (happened : List Happening) (lines : List Line) (k : ℕ) → k < task_count m.calls → SweepsUpTo own m v happened lines k → is_end k (ends_of m) ≡ true →
    IsFresh (task_count m.calls) v k (λ e. is_live e.phase ≡ true)
ended_waits own m v happened lines k low up q =
    let calls = m.calls in
    let workers = workers_of m in
    let past = past_in m happened in
    let sound = (after_agrees calls workers past up.kept.means).sound in
    let s = state_at calls workers past in
    let q' : is_end k (reply_of calls workers s h.Call).ends ≡ true = ap (λ x. is_end k (reply_of calls workers x h.Call).ends) (sym up.kept.stands) ∙ q in
    let waits = waits_in calls s k sound (ends_say calls workers (view_of_state calls s) h.Call k q').waited in
    let fit = up.kept.agrees.each k in
    let e = here_base own m v happened lines k up in (
      low,
      ap (λ (x : Parts). is_live x.phase) e ∙ (ap is_live fit.phase ∙ ap (λ p. is_live (word_phase p)) waits.0),
      ap is_cancelled e ∙ (fit.cancelled ∙ (ap (λ b. is_live (word_phase (s.tasks k).phase) && b) waits.1 ∙ and_none (is_live (word_phase (s.tasks k).phase)))),
    )

-- one that is not ended is passed over
pub passes_over : (own : List ℕ) (m : CoreView) (v : CoreSeatView) (happened : List Happening) (lines : List Line) (k : ℕ) → SweepsUpTo own m v happened lines k → is_end k (ends_of m) ≡ false → SweepsUpTo own m v happened lines (k + 1)
passes_over own m v happened lines k up q = record {
  base = up.base;
  ahead = up.ahead;
  own = up.own;
  kept = up.kept;
  far = up.far;
  swept = λ j l. by j l (j == k) refl;
  rest = λ j l. up.rest j (omega (arith, l));
}
  where
    by : (j : ℕ) → j < k + 1 → (b : Bool) → (j == k) ≡ b → stands_in j up.ahead ≡ is_end j (ends_of m)
    by j l true same = subst (λ i. stands_in i up.ahead ≡ is_end i (ends_of m)) (sym (eqb-true j k same)) (up.rest k (omega arith) ∙ sym q)
    by j l false apart = up.swept j (let other : j ≢ k = λ e. false≢true (sym apart ∙ eq-eqb j k e) in omega (arith, l, other))

-- one that the seat cancels is ahead
pub wins_one : (own : List ℕ) (m : CoreView) (v : CoreSeatView) (happened : List Happening) (lines : List Line) (k : ℕ) → k < task_count m.calls → SweepsUpTo own m v happened lines k → is_end k (ends_of m) ≡ true → SweepsUpTo own m (after_cancel v k core.Won) happened lines (k + 1)
wins_one own m v happened lines k low up q = record {
  base = up.base;
  ahead = k ∷ up.ahead;
  own = up.own;
  kept = up.kept;
  far = record {
    count = entry_count v k (marked (entry v k)) ∙ up.far.count;
    entries = λ j. at j (k == j) refl;
    own = λ j. ap (λ b. (k == j) || b) (up.far.own j) ∙ or_assoc (k == j) (stands_in j up.ahead) (stands_in j up.base.own);
    same = record { joined = up.far.same.joined; ranks = up.far.same.ranks; out = up.far.same.out };
  };
  swept = λ j l. by j l (k == j) refl;
  rest = λ j l. (λ i. off j l i || stands_in j up.ahead) ∙ up.rest j (omega (arith, l));
}
  where
    inside : k < length v.entries
    inside = subst (λ x. k < x) (sym (up.far.count ∙ up.kept.agrees.count)) low

    off : (j : ℕ) → k + 1 ≤ j → (k == j) ≡ false
    off j l = false_unless (k == j) (λ e. let same = eqb-true k j e in omega (arith, l, same))

    here : entry v k ≡ entry up.base k
    here = here_base own m v happened lines k up

    at : (j : ℕ) (b : Bool) → (k == j) ≡ b → entry (with_mark v k) j ≡ cond ((k == j) || stands_in j up.ahead) (marked (entry up.base j)) (entry up.base j)
    at j true same =
        subst (λ i. entry (with_mark v k) i ≡ marked (entry up.base i)) (eqb-true k j same) (entry_here v k (marked (entry v k)) inside ∙ ap marked here)
        ∙ (λ i. cond (sym same i || stands_in j up.ahead) (marked (entry up.base j)) (entry up.base j))
    at j false apart =
        entry_other v k j (marked (entry v k)) (λ e. false≢true (sym apart ∙ eq-eqb k j (sym e)))
        ∙ (up.far.entries j ∙ (λ i. cond (sym apart i || stands_in j up.ahead) (marked (entry up.base j)) (entry up.base j)))

    by : (j : ℕ) → j < k + 1 → (b : Bool) → (k == j) ≡ b → ((k == j) || stands_in j up.ahead) ≡ is_end j (ends_of m)
    by j l true same = (λ i. same i || stands_in j up.ahead) ∙ (sym q ∙ ap (λ i. is_end i (ends_of m)) (eqb-true k j same))
    by j l false apart = (λ i. apart i || stands_in j up.ahead) ∙ up.swept j (let other : k ≢ j = λ e. false≢true (sym apart ∙ eq-eqb k j e) in omega (arith, l, other))

-- the base of a view that met task k, where it is not ahead of it there
pub base_met : (own : List ℕ) (m : CoreView) (v next_v : CoreSeatView) (happened : List Happening) (lines : List Line) (k : ℕ) → (up : SweepsUpTo own m v happened lines k) → WasMet (task_count m.calls) v next_v k → WasMet (task_count m.calls) up.base (with_mark up.base k) k
base_met own m v next_v happened lines k up was =
    let here = here_base own m v happened lines k up in
    record { task = was.task; live = ap (λ (x : Parts). is_live x.phase) (sym here) ∙ was.live; fresh = ap is_cancelled (sym here) ∙ was.fresh; now = refl }

-- one that is met cancelled is noted, and is no longer one of those that the call ends
pub notes_in : (own : List ℕ) (m next_m : CoreView) (v next_v : CoreSeatView) (happened items : List Happening) (lines next_lines : List Line) (k : ℕ) → (up : SweepsUpTo own m v happened lines k) → WasMet (task_count m.calls) v next_v k →
    IsKept next_m (with_mark up.base k) items next_lines → Notes m next_m happened items k → SweepsUpTo own next_m next_v items next_lines (k + 1)
notes_in own m next_m v next_v happened items lines next_lines k up was kept note = record {
  base = with_mark up.base k;
  ahead = up.ahead;
  own = up.own;
  kept = kept;
  far = subst (λ x. IsAheadBy (with_mark up.base k) x up.ahead) (sym was.now) (record {
    count = entry_count v k (marked (entry v k)) ∙ (up.far.count ∙ sym (entry_count up.base k (marked (entry up.base k))));
    entries = λ j. at j (k == j) refl;
    own = up.far.own;
    same = record { joined = up.far.same.joined; ranks = up.far.same.ranks; out = up.far.same.out };
  });
  swept = λ j l. by j l (k == j) refl ∙ sym (note.ends j);
  rest = λ j l. up.rest j (omega (arith, l));
}
  where
    low : k < length v.entries
    low = subst (λ x. k < x) (sym (up.far.count ∙ up.kept.agrees.count)) was.task

    low_base : k < length up.base.entries
    low_base = subst (λ x. k < x) (sym up.kept.agrees.count) was.task

    here : entry v k ≡ entry up.base k
    here = here_base own m v happened lines k up

    at : (j : ℕ) (b : Bool) → (k == j) ≡ b → entry (with_mark v k) j ≡ cond (stands_in j up.ahead) (marked (entry (with_mark up.base k) j)) (entry (with_mark up.base k) j)
    at j true same = subst (λ i. entry (with_mark v k) i ≡ cond (stands_in i up.ahead) (marked (entry (with_mark up.base k) i)) (entry (with_mark up.base k) i)) (eqb-true k j same)
        (entry_here v k (marked (entry v k)) low ∙ (ap marked here ∙ (sym (entry_here up.base k (marked (entry up.base k)) low_base)
        ∙ ap (λ b. cond b (marked (entry (with_mark up.base k) k)) (entry (with_mark up.base k) k)) (sym (up.rest k (omega arith))))))
    at j false apart =
        let other : j ≢ k = λ e. false≢true (sym apart ∙ eq-eqb k j (sym e)) in
        entry_other v k j (marked (entry v k)) other ∙ (up.far.entries j ∙ ap (λ x. cond (stands_in j up.ahead) (marked x) x) (sym (entry_other up.base k j (marked (entry up.base k)) other)))

    by : (j : ℕ) → j < k + 1 → (b : Bool) → (k == j) ≡ b → stands_in j up.ahead ≡ (is_end j (ends_of m) && not (k == j))
    by j l true same = subst (λ i. stands_in i up.ahead ≡ false) (eqb-true k j same) (up.rest k (omega arith)) ∙ (sym (and_none (is_end j (ends_of m))) ∙ ap (λ b. is_end j (ends_of m) && not b) (sym same))
    by j l false apart = up.swept j (let other : k ≢ j = λ e. false≢true (sym apart ∙ eq-eqb k j e) in omega (arith, l, other)) ∙ (sym (and_true (is_end j (ends_of m))) ∙ ap (λ b. is_end j (ends_of m) && not b) (sym apart))

-- the same, by what the seat's cancel answered
pub ended_late : (own : List ℕ) (m : CoreView) (v next_v : CoreSeatView) (happened : List Happening) (lines : List Line) (k : ℕ) (said : CoreCancel) → k < task_count m.calls → SweepsUpTo own m v happened lines k → is_end k (ends_of m) ≡ true →
    said ≡ core.Late → next_v ≡ after_cancel v k said → WasMet (task_count m.calls) v next_v k
ended_late own m v next_v happened lines k said low up q late is = late_met (task_count m.calls) v next_v k said (ended_waits own m v happened lines k low up q) late is

pub ended_won : (own : List ℕ) (m : CoreView) (v next_v : CoreSeatView) (happened : List Happening) (lines : List Line) (k : ℕ) (said : CoreCancel) → k < task_count m.calls → SweepsUpTo own m v happened lines k → is_end k (ends_of m) ≡ true →
    (said ≡ core.Won) ⊎ ((said ≡ core.Over) ⊎ (said ≡ core.Vacant)) → (is_live (entry v k).phase ≡ true → (said ≡ core.Won) ⊎ (said ≡ core.Late)) → next_v ≡ after_cancel v k said → SweepsUpTo own m next_v happened lines (k + 1)
ended_won own m v next_v happened lines k said low up q not_late live is =
    let waits = ended_waits own m v happened lines k low up q in
    subst (λ x. SweepsUpTo own m x happened lines (k + 1)) (sym (is ∙ ap (after_cancel v k) (won said not_late (live waits.1)))) (wins_one own m v happened lines k low up q)

-- ---- the call, once all that it ends were cancelled

-- who is ahead, of all tasks
all_ahead : (own : List ℕ) (m : CoreView) (v : CoreSeatView) (happened : List Happening) (lines : List Line) (tasks : ℕ) → tasks ≡ task_count m.calls → (up : SweepsUpTo own m v happened lines tasks) → needs m.calls (workers_of m) (past_in m happened) h.Call ≡ n.Sweep →
    (k : ℕ) → stands_in k up.ahead ≡ is_end k (reply_of m.calls (workers_of m) (state_at m.calls (workers_of m) (past_in m happened)) h.Call).ends
all_ahead own m v happened lines tasks same up sweeps k =
    let calls = m.calls in
    let workers = workers_of m in
    let past = past_in m happened in
    let ends = (reply_of calls workers (state_at calls workers past) h.Call).ends in
    let writes : MakesWrites calls workers (state_at calls workers past) h.Call (map (λ k. (k, core_cancel)) ends) = writes_at calls workers past h.Call n.Sweep up.kept.orderly.1 up.kept.means sweeps in
    let ends_same : is_end k (ends_of m) ≡ is_end k ends = ap (λ x. is_end k (reply_of calls workers x h.Call).ends) up.kept.stands in
    let within : is_end k ends ≡ true → k < task_count calls = λ q. (written_in (Written calls workers past h.Call) ends k writes.made q).0 in
    elim (low_or k tasks) [
      | inl low ↦ up.swept k low ∙ ends_same
      | inr high ↦ up.rest k high ∙ sym (false_unless (is_end k ends) (λ q. let small = within q in omega (arith, small, same, high)))
    ]

-- the call is made: the view agrees, and the seat's own tasks are more by those that it ends
pub sweeps_all : (own : List ℕ) (m next_m : CoreView) (v : CoreSeatView) (happened items : List Happening) (lines next_lines : List Line) (tasks : ℕ) → tasks ≡ task_count m.calls → (up : SweepsUpTo own m v happened lines tasks) → need_in m h.Call ≡ n.Sweep → Comes m h.Call →
    Steps m next_m lines next_lines (h.Call ∷ []) → items ≡ happened ++ h.Call ∷ [] →
    IsKept next_m v items next_lines × ((k : ℕ) → stands_in k v.own ≡ (cancels k (answer m.calls (workers_of m) (past_in m happened) h.Call).answer (answer m.calls (workers_of m) (past_in m happened) h.Call).ends || stands_in k own))
sweeps_all own m next_m v happened items lines next_lines tasks same up need may steps more =
    let calls = m.calls in
    let workers = workers_of m in
    let past = past_in m happened in
    let sweeps : needs calls workers past h.Call ≡ n.Sweep = ap (λ x. need_of calls workers x h.Call) (sym up.kept.stands) ∙ need in
    let whole = all_ahead own m v happened lines tasks same up sweeps in (
      keeps_more m next_m up.base v happened items lines next_lines h.Call up.kept may steps more
          (stepped_sweep calls workers past up.base v up.ahead up.kept.orderly.1 up.kept.means up.kept.agrees up.far sweeps whole),
      λ k. up.far.own k ∙ ((λ i. (whole k ∙ sym (sweep_cancels calls workers past k up.kept.means sweeps)) i || stands_in k (up.own i))),
    )
