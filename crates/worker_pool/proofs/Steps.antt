-- What a step does to the seat's view: its entries go on fitting the words, and the seat cancels whom the step cancels.
use Rattle.std.proofs.Common.{◌≡◌, ◌≢◌, ℕ, ◌+◌, ◌<◌, ◌==◌, ◌&&◌, ◌||◌, ◌^◌, nat_lt, Bool, true, false, cond, List, [], ◌∷◌, length, map, Option, Some, None, refl, sym, ap, ◌∙◌, subst, arith}
use Rattle.std.specs.Prelude.{slice_get, max}
use Rattle.std.specs.Option.{option_map_or}
use Rattle.std.specs.List.{All, list_any}
use Rattle.std.proofs.lemmas.Bool.{false≢true, eq-eqb, eqb-true, or_left, and_parts}
use Rattle.std.proofs.lemmas.Bool.Decides.{nat_tests}
use Rattle.std.proofs.lemmas.List.Elements.{All-head}
use Rattle.task_word.specs.Words.{Parts, is_live, is_cancelled, marked, new_in, started, rearmed, ended_well, ended_badly}
use Rattle.task_word.specs.Writes.{Kind, ChangesWord, sets_bit, submit, start, done, fail, rearm, core_cancel, handle_cancel}
use Rattle.task_word.specs.declared.phases.Phase.{Phase as WordPhase}
use Rattle.task_word.specs.declared.phases.Phase.TheVariants as wp
use Rattle.task_word.specs.Views.{entry, with_entry}
use Rattle.task_word.specs.declared.views.CoreSeatView.{CoreSeatView}
use Rattle.task_word.proofs.Uses.{entry_here, entry_other, entry_count}
use Rattle.queue_code.specs.declared.call.CodeCall.{CodeCall}
use Rattle.queue_code.specs.declared.call.CodeCall.TheVariants as c
use Rattle.queue_code.specs.Calls.{Planned, IsOrderly, task_count}
use Rattle.executor_model.specs.declared.types.CancelEffect.TheVariants as f
use Rattle.executor_model.specs.declared.types.EventError.TheVariants as x
use Rattle.executor_model.specs.declared.types.Outcome.TheVariants as o
use Rattle.executor_model.specs.declared.types.Answer.{Answer}
use Rattle.executor_model.specs.declared.types.Answer.TheVariants as a
use Rattle.executor_model.specs.declared.types.Happening.{Happening}
use Rattle.executor_model.specs.declared.types.Happening.TheVariants as h
use Rattle.executor_model.specs.declared.types.Need.{Need}
use Rattle.executor_model.specs.declared.types.Need.TheVariants as n
use Rattle.executor_model.specs.View.{View}
use Rattle.executor_model.specs.Answers.{Reply, bare, called, swept, setting_sweeps}
use Rattle.sched_time.specs.Policies.{set_policy}
use Rattle.executor_model.specs.Histories.{HistoryEntry, IsHistoryOf, happenings, answer, entry_of, had_effect, is_end, cancels, was_cancelled, is_end as stands_in}
use Rattle.executor_model.specs.State.{State, view_of_state, after, reply_of}
use Rattle.executor_model.specs.Needs.{need_of, need_of_answer}
use Rattle.executor_model.proofs.Agree.{after_agrees, answers_alike}
use Rattle.executor_laws.specs.TaskWords.{word_after}
use Rattle.executor_laws.specs.NeedWrites.{writes_of, IsWritten, MakesWrites}
use Rattle.executor_laws.specs.Cancels.{effect_on_word, outside_answer}
use Rattle.executor_laws.proofs.WordMoves.{needs_move_words}
use Rattle.executor_laws.proofs.CancelWords.{cancels_go_by_words}
use Rattle.worker_pool.specs.Books.{is_outside, was_outside, FitsWord}
use Rattle.worker_pool.specs.own.Moves.{moves_made, IsFresh, CanMove, WasMet}
use Rattle.worker_pool.specs.own.Steps.{Agrees}
use Rattle.worker_pool.proofs.Bools.{or_none, and_none, and_true, or_swap, or_joins}

-- the history with a happening more, which is answered as it has to be
abbrev pub longer : List Planned → ℕ → List HistoryEntry → Happening → List HistoryEntry
longer calls workers past happening = entry_of happening (answer calls workers past happening) ∷ past

-- the state that a history leads to
abbrev pub state_at : List Planned → ℕ → List HistoryEntry → State
state_at calls workers past = after calls workers (happenings past)

-- what is needed by a step after a history
abbrev pub needs : List Planned → ℕ → List HistoryEntry → Happening → Need
needs calls workers past happening = need_of calls workers (state_at calls workers past) happening

-- ---- a step cancels the tasks whose words get the bit

-- some writes set the bit of task k
abbrev pub sets : ℕ → List (ℕ × Kind) → Bool
sets k writes = list_any (λ (y : ℕ × Kind). (y.0 == k) && sets_bit y.1) writes

pub sets_named : (ends : List ℕ) (k : ℕ) → sets k (map (λ j. (j, core_cancel)) ends) ≡ is_end k ends
sets_named [] k = refl
sets_named (j ∷ ends) k = (λ i. and_true (j == k) i || sets_named ends k i)

-- an answer that ends nobody
alone : (k : ℕ) (answer : Answer) (ends : List ℕ) (b : Bool) → ends ≡ [] → cancels k answer [] ≡ b → cancels k answer ends ≡ b
alone k answer ends b none is = ap (cancels k answer) none ∙ is

nothing_set : (j k : ℕ) → (((j == k) && false) || false) ≡ false
nothing_set j k = or_none ((j == k) && false) ∙ and_none (j == k)

-- a need is that of a sweep
abbrev sweeps : Need → Bool
sweeps n.Sweep = true
sweeps _ = false

-- an answer that by itself cancels nobody, and sweeps or ends nobody
swept_or_none : (b : Bool) (ends : List ℕ) (k : ℕ) → (cond b n.Sweep n.Nothing ≢ n.Sweep → ends ≡ []) → (is_end k ends || false) ≡ sets k (writes_of (cond b n.Sweep n.Nothing) ends)
swept_or_none true ends k only = or_none (is_end k ends) ∙ sym (sets_named ends k)
swept_or_none false ends k only = ap (λ xs. is_end k xs || false) (only (λ q. cc))

pub cancels_are_sets : (shut : Bool) (answer : Answer) (ends : List ℕ) (k : ℕ) → (need_of_answer shut answer ≢ n.Sweep → ends ≡ []) → cancels k answer ends ≡ sets k (writes_of (need_of_answer shut answer) ends)
cancels_are_sets shut (a.Submit j kind due) ends k only = alone k (a.Submit j kind due) ends _ (only (λ q. cc)) (sym (nothing_set j k))
cancels_are_sets shut (a.Cancel j f.Yes) ends k only = alone k (a.Cancel j f.Yes) ends _ (only (λ q. cc)) refl
cancels_are_sets shut (a.Cancel j f.No) ends k only = alone k (a.Cancel j f.No) ends false (only (λ q. cc)) (nothing_set j k)
cancels_are_sets shut (a.Cancel j f.Absent) ends k only = alone k (a.Cancel j f.Absent) ends false (only (λ q. cc)) (nothing_set j k)
cancels_are_sets shut (a.Outside j f.Yes) ends k only = alone k (a.Outside j f.Yes) ends _ (only (λ q. cc)) refl
cancels_are_sets shut (a.Outside j f.No) ends k only = alone k (a.Outside j f.No) ends false (only (λ q. cc)) (nothing_set j k)
cancels_are_sets shut (a.Outside j f.Absent) ends k only = alone k (a.Outside j f.Absent) ends false (only (λ q. cc)) (nothing_set j k)
cancels_are_sets shut (a.Policy which value) ends k only = swept_or_none (setting_sweeps shut which value) ends k only
cancels_are_sets shut (a.Start w j run due) ends k only = alone k (a.Start w j run due) ends _ (only (λ q. cc)) (sym (nothing_set j k))
cancels_are_sets shut (a.Finish w j run (o.Done value)) ends k only = alone k (a.Finish w j run (o.Done value)) ends _ (only (λ q. cc)) (sym (or_none ((j == k) && false)))
cancels_are_sets shut (a.Finish w j run (o.Failed code)) ends k only = alone k (a.Finish w j run (o.Failed code)) ends _ (only (λ q. cc)) (sym (or_none ((j == k) && false)))
cancels_are_sets shut (a.Finish w j run (o.Again due)) ends k only = alone k (a.Finish w j run (o.Again due)) ends _ (only (λ q. cc)) (sym (or_none ((j == k) && false)))
cancels_are_sets shut (a.Finish w j run o.Dropped) ends k only = alone k (a.Finish w j run o.Dropped) ends false (only (λ q. cc)) (and_none (j == k))
cancels_are_sets shut (a.Finish w j run o.Ended) ends k only = alone k (a.Finish w j run o.Ended) ends _ (only (λ q. cc)) (sym (or_none ((j == k) && true)))
cancels_are_sets shut answer ends k only = swept_or_none (sweeps (need_of_answer shut answer)) ends k only

-- only a sweep ends tasks
call_ends_none : (calls : List Planned) (v : View) (call : CodeCall) → need_of_answer v.shut (called calls v call).answer ≢ n.Sweep → (called calls v call).ends ≡ []
call_ends_none calls v (c.SetPolicy which value) plain =
    let ends = swept calls v (set_policy which value v.policies) in
    let pick : (b : Bool) → cond b n.Sweep n.Nothing ≢ n.Sweep → cond b ends [] ≡ [] = elim [ true ↦ λ never. absurd (never refl) | false ↦ λ never. refl ] in
    pick (setting_sweeps v.shut which value) plain
call_ends_none calls v call plain =
    let said : Bool → Reply = λ b. called calls (record v { shut = b }) call in
    let pick : (b : Bool) → need_of_answer b (said b).answer ≢ n.Sweep → (said b).ends ≡ [] = elim [ true ↦ λ never. grind arith | false ↦ λ never. grind arith ] in
    pick v.shut plain

pub ends_none : (calls : List Planned) (workers : ℕ) (s : State) (y : Happening) → need_of calls workers s y ≢ n.Sweep → (reply_of calls workers s y).ends ≡ []
ends_none calls workers s h.Call plain =
    let v = view_of_state calls s in
    let made : Option Planned → Reply = λ p. option_map_or (λ p. called calls (record v { moment = max v.moment p.0 }) p.1) p (bare a.Clock) in
    let pick : (p : Option Planned) → need_of_answer s.shut (made p).answer ≢ n.Sweep → (made p).ends ≡ [] = elim [ None ↦ λ never. refl | Some p ↦ call_ends_none calls (record v { moment = max v.moment p.0 }) p.1 ] in
    pick (slice_get calls v.made) plain
ends_none calls workers s (h.Clock t) plain = refl
ends_none calls workers s (h.Start w) plain = refl
ends_none calls workers s (h.Finish w ending) plain = refl
ends_none calls workers s (h.Cancel k) plain = refl
ends_none calls workers s h.Purge plain = refl

-- the tasks that a happening cancels after a history are those whose words its need sets
pub cancelled_then : (calls : List Planned) (workers : ℕ) (past : List HistoryEntry) (y : Happening) (k : ℕ) → IsHistoryOf calls workers past →
    cancels k (answer calls workers past y).answer (answer calls workers past y).ends ≡ sets k (writes_of (needs calls workers past y) (reply_of calls workers (state_at calls workers past) y).ends)
cancelled_then calls workers past y k means =
    let s = state_at calls workers past in
    let same : reply_of calls workers s y ≡ answer calls workers past y = answers_alike calls workers s past y (after_agrees calls workers past means) in
    ap (λ (r : Reply). cancels k r.answer r.ends) (sym same)
    ∙ cancels_are_sets s.shut (reply_of calls workers s y).answer (reply_of calls workers s y).ends k (ends_none calls workers s y)

-- the seat's own tasks after the moves of a need
moved_own : (v : CoreSeatView) (need : Need) (ends : List ℕ) (k : ℕ) → need ≢ n.Sweep → stands_in k (moves_made v need).own ≡ (sets k (writes_of need ends) || stands_in k v.own)
moved_own v n.Nothing ends k plain = refl
moved_own v (n.Submit j) ends k plain = ap (λ b. b || stands_in k v.own) (sym (nothing_set j k))
moved_own v (n.Start j) ends k plain = ap (λ b. b || stands_in k v.own) (sym (nothing_set j k))
moved_own v (n.Done j) ends k plain = ap (λ b. b || stands_in k v.own) (sym (nothing_set j k))
moved_own v (n.Fail j) ends k plain = ap (λ b. b || stands_in k v.own) (sym (nothing_set j k))
moved_own v (n.Rearm j) ends k plain = ap (λ b. b || stands_in k v.own) (sym (nothing_set j k))
moved_own v (n.Cancel j) ends k plain = ap (λ b. b || stands_in k v.own) (sym (or_none ((j == k) && true) ∙ and_true (j == k)))
moved_own v n.Sweep ends k plain = absurd (plain refl)

pub own_then : (calls : List Planned) (workers : ℕ) (past : List HistoryEntry) (y : Happening) (v : CoreSeatView) (k : ℕ) → IsHistoryOf calls workers past → needs calls workers past y ≢ n.Sweep →
    stands_in k (moves_made v (needs calls workers past y)).own ≡ (cancels k (answer calls workers past y).answer (answer calls workers past y).ends || stands_in k v.own)
own_then calls workers past y v k means plain =
    let ends = (reply_of calls workers (state_at calls workers past) y).ends in
    moved_own v (needs calls workers past y) ends k plain ∙ ap (λ b. b || stands_in k v.own) (sym (cancelled_then calls workers past y k means))

-- a cancel from outside with an effect cancels
pub outside_cancels : (k : ℕ) (answer : Answer) (ends : List ℕ) → is_outside k answer ≡ true → cancels k answer ends ≡ true
outside_cancels k (a.Outside j effect) ends q = or_left ((j == k) && had_effect effect) _ q
outside_cancels k _ ends q = absurd (false≢true q)

-- who is cancelled in a history that is longer, where the seat's own tasks are those before and those that the happening cancels
pub cancelled_more : (calls : List Planned) (workers : ℕ) (past : List HistoryEntry) (y : Happening) (own new_own : List ℕ) (k : ℕ) →
    was_cancelled k past ≡ (stands_in k own || was_outside k past) → stands_in k new_own ≡ (cancels k (answer calls workers past y).answer (answer calls workers past y).ends || stands_in k own) →
    was_cancelled k (longer calls workers past y) ≡ (stands_in k new_own || was_outside k (longer calls workers past y))
cancelled_more calls workers past y own new_own k before more =
    let r = answer calls workers past y in
    let c' = cancels k r.answer r.ends in
    ap (λ b. c' || b) before ∙ (or_joins c' (stands_in k own) (is_outside k r.answer) (was_outside k past) (outside_cancels k r.answer r.ends)
    ∙ ap (λ b. b || (is_outside k r.answer || was_outside k past)) (sym more))

-- ---- one word

-- a live word that is not cancelled has no bit
pub unmarked : (e : Parts) → is_live e.phase ≡ true → is_cancelled e ≡ false → e.marked ≡ false
unmarked e live fresh = ap (λ b. b && e.marked) (sym live) ∙ fresh

fits_exchange : (e w u x : Parts) → FitsWord e w → is_live e.phase ≡ true → is_cancelled e ≡ false → is_cancelled u ≡ false → x.marked ≡ e.marked → x.phase ≡ u.phase → x.run ≡ u.run → FitsWord x u
fits_exchange e w u x fits live fresh after_fresh same phase run = record {
  phase = phase;
  run = run;
  cancelled = ap (λ b. is_live x.phase && b) (same ∙ unmarked e live fresh) ∙ (and_none (is_live x.phase) ∙ sym after_fresh);
}

-- the word that a move of this kind takes an entry to
abbrev made_of : Kind → Parts → Parts → Type 0
made_of submit e x = x ≡ new_in 0
made_of start e x = x ≡ started e
made_of done e x = x ≡ ended_well e
made_of fail e x = x ≡ ended_badly e
made_of rearm e x = x ≡ rearmed e
made_of _ e x = x ≡ marked e

live_at : (e : Parts) (p : WordPhase) → e.phase ≡ p → is_live p ≡ true → is_live e.phase ≡ true
live_at e p q l = ap is_live q ∙ l

fits_written : (kind : Kind) (e w u x : Parts) → FitsWord e w → is_cancelled w ≡ false → ChangesWord kind w u → is_cancelled u ≡ sets_bit kind → made_of kind e x → FitsWord x u
fits_written submit e w u x fits fresh writes now is = record {
  phase = ap (λ (p : Parts). p.phase) (is ∙ sym writes.1);
  run = ap (λ (p : Parts). p.run) (is ∙ sym writes.1);
  cancelled = ap is_cancelled (is ∙ sym writes.1);
}
fits_written start e w u x fits fresh writes now is =
    fits_exchange e w u x fits (live_at e wp.New (fits.phase ∙ ap (λ (p : Parts). p.phase) writes.1) refl) (fits.cancelled ∙ fresh) now (ap (λ (p : Parts). p.marked) is)
    (ap (λ (p : Parts). p.phase) is ∙ sym (ap (λ (p : Parts). p.phase) writes.2))
    (ap (λ (p : Parts). p.run) is ∙ (fits.run ∙ (ap (λ (p : Parts). p.run) writes.1 ∙ sym (ap (λ (p : Parts). p.run) writes.2))))
fits_written done e w u x fits fresh writes now is =
    fits_exchange e w u x fits (live_at e wp.Running (fits.phase ∙ ap (λ (p : Parts). p.phase) writes.1) refl) (fits.cancelled ∙ fresh) now (ap (λ (p : Parts). p.marked) is)
    (ap (λ (p : Parts). p.phase) is ∙ sym (ap (λ (p : Parts). p.phase) writes.2))
    (ap (λ (p : Parts). p.run) is ∙ (fits.run ∙ (ap (λ (p : Parts). p.run) writes.1 ∙ sym (ap (λ (p : Parts). p.run) writes.2))))
fits_written fail e w u x fits fresh writes now is =
    fits_exchange e w u x fits (live_at e wp.Running (fits.phase ∙ ap (λ (p : Parts). p.phase) writes.1) refl) (fits.cancelled ∙ fresh) now (ap (λ (p : Parts). p.marked) is)
    (ap (λ (p : Parts). p.phase) is ∙ sym (ap (λ (p : Parts). p.phase) writes.2))
    (ap (λ (p : Parts). p.run) is ∙ (fits.run ∙ (ap (λ (p : Parts). p.run) writes.1 ∙ sym (ap (λ (p : Parts). p.run) writes.2))))
fits_written rearm e w u x fits fresh writes now is =
    fits_exchange e w u x fits (live_at e wp.Running (fits.phase ∙ ap (λ (p : Parts). p.phase) writes.1) refl) (fits.cancelled ∙ fresh) now (ap (λ (p : Parts). p.marked) is)
    (ap (λ (p : Parts). p.phase) is ∙ sym (ap (λ (p : Parts). p.phase) writes.2))
    (ap (λ (p : Parts). p.run) is ∙ (ap (λ m. m + 1) (fits.run ∙ ap (λ (p : Parts). p.run) writes.1) ∙ sym (ap (λ (p : Parts). p.run) writes.2)))
fits_written core_cancel e w u x fits fresh writes now is = record {
  phase = ap (λ (p : Parts). p.phase) is ∙ (fits.phase ∙ sym (ap (λ (p : Parts). p.phase) writes));
  run = ap (λ (p : Parts). p.run) is ∙ (fits.run ∙ sym (ap (λ (p : Parts). p.run) writes));
  cancelled = ap is_cancelled is ∙ (ap (λ p. is_live p && true) fits.phase ∙ sym (ap is_cancelled writes));
}
fits_written handle_cancel e w u x fits fresh writes now is = record {
  phase = ap (λ (p : Parts). p.phase) is ∙ (fits.phase ∙ sym (ap (λ (p : Parts). p.phase) writes));
  run = ap (λ (p : Parts). p.run) is ∙ (fits.run ∙ sym (ap (λ (p : Parts). p.run) writes));
  cancelled = ap is_cancelled is ∙ (ap (λ p. is_live p && true) fits.phase ∙ sym (ap is_cancelled writes));
}

-- ---- all words

abbrev pub Written : List Planned → ℕ → List HistoryEntry → Happening → ℕ × Kind → Type 0
Written calls workers past happening y = IsWritten calls y.0 y.1 (word_after calls workers past y.0) (word_after calls workers (longer calls workers past happening) y.0)

-- one word was written, and the seat's entry with it
abbrev OneWritten : List Planned → ℕ → List HistoryEntry → Happening → ℕ → Kind → Type 0
OneWritten calls workers past happening k kind = MakesWrites calls workers (state_at calls workers past) happening ((k, kind) ∷ [])

one_fits : (calls : List Planned) (workers : ℕ) (past : List HistoryEntry) (happening : Happening) (k : ℕ) (kind : Kind) (v : CoreSeatView) (x : Parts) → Agrees calls workers past v →
    OneWritten calls workers past happening k kind → made_of kind (entry v k) x → (j : ℕ) → FitsWord (entry (with_entry v k x) j) (word_after calls workers (longer calls workers past happening) j)
one_fits calls workers past happening k kind v x agrees writes is j = by (k == j) refl
  where
    one : IsWritten calls k kind (word_after calls workers past k) (word_after calls workers (longer calls workers past happening) k)
    one = All-head (Written calls workers past happening) (k, kind) [] writes.made

    by : (b : Bool) → (k == j) ≡ b → FitsWord (entry (with_entry v k x) j) (word_after calls workers (longer calls workers past happening) j)
    by true same =
        let here : FitsWord x (word_after calls workers (longer calls workers past happening) k) =
        fits_written kind (entry v k) (word_after calls workers past k) _ x (agrees.each k) one.2 one.1 one.3 is
        in
        subst (λ i. FitsWord (entry (with_entry v k x) i) (word_after calls workers (longer calls workers past happening) i)) (eqb-true k j same)
        (subst (λ e. FitsWord e (word_after calls workers (longer calls workers past happening) k)) (sym (entry_here v k x (subst (λ m. k < m) (sym agrees.count) one.0))) here)
    by false apart =
        let other : j ≢ k = λ q. false≢true (sym apart ∙ eq-eqb k j (sym q)) in
        let stays = writes.rest j (ap (λ b. b || false) apart) in
        subst (λ e. FitsWord e (word_after calls workers (longer calls workers past happening) j)) (sym (entry_other v k j x other))
        (subst (FitsWord (entry v j)) (sym stays) (agrees.each j))

-- ---- a step whose words were moved first

pub writes_at : (calls : List Planned) (workers : ℕ) (past : List HistoryEntry) (y : Happening) (need : Need) → IsOrderly calls → IsHistoryOf calls workers past → needs calls workers past y ≡ need →
    MakesWrites calls workers (state_at calls workers past) y (writes_of need (reply_of calls workers (state_at calls workers past) y).ends)
writes_at calls workers past y need orderly means is =
    subst (λ m. MakesWrites calls workers (state_at calls workers past) y (writes_of m (reply_of calls workers (state_at calls workers past) y).ends)) is (needs_move_words calls workers past y orderly means)

-- the seat's entries fit the words of a longer history, where the words that the step needs were moved
pub moved_fits : (calls : List Planned) (workers : ℕ) (past : List HistoryEntry) (y : Happening) (v : CoreSeatView) → IsOrderly calls → IsHistoryOf calls workers past → Agrees calls workers past v → needs calls workers past y ≢ n.Sweep →
    (length (moves_made v (needs calls workers past y)).entries ≡ length v.entries) × ((j : ℕ) → FitsWord (entry (moves_made v (needs calls workers past y)) j) (word_after calls workers (longer calls workers past y) j))
moved_fits calls workers past y v orderly means agrees plain = by (needs calls workers past y) refl
  where
    writes : (need : Need) → needs calls workers past y ≡ need → MakesWrites calls workers (state_at calls workers past) y (writes_of need (reply_of calls workers (state_at calls workers past) y).ends)
    writes need is = writes_at calls workers past y need orderly means is

    by : (need : Need) → needs calls workers past y ≡ need → (length (moves_made v need).entries ≡ length v.entries) × ((j : ℕ) → FitsWord (entry (moves_made v need) j) (word_after calls workers (longer calls workers past y) j))
    by n.Nothing is = (refl, λ j. subst (FitsWord (entry v j)) (sym ((writes n.Nothing is).rest j refl)) (agrees.each j))
    by n.Sweep is = absurd (plain is)
    by (n.Submit k) is = (entry_count v k (new_in 0), one_fits calls workers past y k submit v (new_in 0) agrees (writes (n.Submit k) is) refl)
    by (n.Start k) is = (entry_count v k (started (entry v k)), one_fits calls workers past y k start v (started (entry v k)) agrees (writes (n.Start k) is) refl)
    by (n.Done k) is = (entry_count v k (ended_well (entry v k)), one_fits calls workers past y k done v (ended_well (entry v k)) agrees (writes (n.Done k) is) refl)
    by (n.Fail k) is = (entry_count v k (ended_badly (entry v k)), one_fits calls workers past y k fail v (ended_badly (entry v k)) agrees (writes (n.Fail k) is) refl)
    by (n.Rearm k) is = (entry_count v k (rearmed (entry v k)), one_fits calls workers past y k rearm v (rearmed (entry v k)) agrees (writes (n.Rearm k) is) refl)
    by (n.Cancel k) is = (entry_count v k (marked (entry v k)), λ j. one_fits calls workers past y k core_cancel v (marked (entry v k)) agrees (writes (n.Cancel k) is) refl j)

pub stepped : (calls : List Planned) (workers : ℕ) (past : List HistoryEntry) (y : Happening) (v : CoreSeatView) → IsOrderly calls → IsHistoryOf calls workers past → Agrees calls workers past v → needs calls workers past y ≢ n.Sweep →
    Agrees calls workers (longer calls workers past y) (moves_made v (needs calls workers past y))
stepped calls workers past y v orderly means agrees plain =
    let fits = moved_fits calls workers past y v orderly means agrees plain in
    record {
      count = fits.0 ∙ agrees.count;
      each = fits.1;
      cancelled = λ k. cancelled_more calls workers past y v.own (moves_made v (needs calls workers past y)).own k (agrees.cancelled k) (own_then calls workers past y v k means plain);
    }

-- the seat can make the moves that a step needs
pub can_move : (calls : List Planned) (workers : ℕ) (past : List HistoryEntry) (y : Happening) (v : CoreSeatView) → IsOrderly calls → IsHistoryOf calls workers past → Agrees calls workers past v →
    ((k : ℕ) → needs calls workers past y ≡ n.Rearm k → (word_after calls workers past k).run + 1 < 2 ^ 32) → CanMove (task_count calls) v (needs calls workers past y)
can_move calls workers past y v orderly means agrees runs = by (needs calls workers past y) refl
  where
    written : (need : Need) (k : ℕ) (kind : Kind) → needs calls workers past y ≡ need → writes_of need (reply_of calls workers (state_at calls workers past) y).ends ≡ (k, kind) ∷ [] → Written calls workers past y (k, kind)
    written need k kind is one =
        let all = writes_at calls workers past y need orderly means is in
        All-head (Written calls workers past y) (k, kind) [] (subst (All (Written calls workers past y)) one all.made)

    fresh_in : (k : ℕ) (test : Parts → Type 0) → k < task_count calls → test (entry v k) → is_cancelled (word_after calls workers past k) ≡ false → IsFresh (task_count calls) v k test
    fresh_in k test low has fresh = (low, has, (agrees.each k).cancelled ∙ fresh)

    phase_is : (k : ℕ) (p : WordPhase) → (word_after calls workers past k).phase ≡ p → (entry v k).phase ≡ p
    phase_is k p q = (agrees.each k).phase ∙ q

    by : (need : Need) → needs calls workers past y ≡ need → CanMove (task_count calls) v need
    by n.Nothing is = tt
    by n.Sweep is = tt
    by (n.Submit k) is = let one = written (n.Submit k) k submit is refl in fresh_in k (λ e. e.phase ≡ wp.Vacant) one.0 (phase_is k wp.Vacant one.1.0) one.2
    by (n.Start k) is = let one = written (n.Start k) k start is refl in fresh_in k (λ e. e.phase ≡ wp.New) one.0 (phase_is k wp.New (ap (λ (p : Parts). p.phase) one.1.1)) one.2
    by (n.Done k) is = let one = written (n.Done k) k done is refl in fresh_in k (λ e. e.phase ≡ wp.Running) one.0 (phase_is k wp.Running (ap (λ (p : Parts). p.phase) one.1.1)) one.2
    by (n.Fail k) is = let one = written (n.Fail k) k fail is refl in fresh_in k (λ e. e.phase ≡ wp.Running) one.0 (phase_is k wp.Running (ap (λ (p : Parts). p.phase) one.1.1)) one.2
    by (n.Rearm k) is = let one = written (n.Rearm k) k rearm is refl in
        fresh_in k (λ e. (e.phase ≡ wp.Running) × (e.run + 1 < 2 ^ 32)) one.0 (phase_is k wp.Running (ap (λ (p : Parts). p.phase) one.1.1), subst (λ m. m + 1 < 2 ^ 32) (sym (agrees.each k).run) (runs k is)) one.2
    by (n.Cancel k) is = let one = written (n.Cancel k) k core_cancel is refl in
        fresh_in k (λ e. is_live e.phase ≡ true) one.0 (ap is_live (agrees.each k).phase ∙ lives (word_after calls workers past k) _ one.1 one.3) one.2
      where
        lives : (w u : Parts) → u ≡ marked w → is_cancelled u ≡ true → is_live w.phase ≡ true
        lives w u q c = (and_parts (is_live w.phase) true (sym (ap is_cancelled q) ∙ c)).0

-- ---- a cancel that is noted

-- a cancel of a live word without the bit has an effect
live_is_yes : (p : WordPhase) (bit : Bool) → is_live p ≡ true → bit ≡ false → effect_on_word p bit ≡ f.Yes
live_is_yes wp.New bit live off = ap (λ b. cond b f.No f.Yes) off
live_is_yes wp.Running bit live off = ap (λ b. cond b f.No f.Yes) off
live_is_yes wp.Vacant bit live off = absurd (false≢true live)
live_is_yes wp.Done bit live off = absurd (false≢true live)
live_is_yes wp.Failed bit live off = absurd (false≢true live)

-- a cancel that is noted is answered yes, and the seat and the history agree after it
pub record IsAnsweredYes (calls : List Planned) (workers : ℕ) (past : List HistoryEntry) (next_v : CoreSeatView) (k : ℕ) : Type 0 where
  pub reply : reply_of calls workers (state_at calls workers past) (h.Cancel k) ≡ bare (a.Outside k f.Yes)
  pub said : answer calls workers past (h.Cancel k) ≡ bare (a.Outside k f.Yes)
  pub agrees : Agrees calls workers (longer calls workers past (h.Cancel k)) next_v

pub noted : (calls : List Planned) (workers : ℕ) (past : List HistoryEntry) (v next_v : CoreSeatView) (k : ℕ) → IsOrderly calls → IsHistoryOf calls workers past → Agrees calls workers past v → WasMet (task_count calls) v next_v k →
    IsAnsweredYes calls workers past next_v k
noted calls workers past v next_v k orderly means agrees was =
    let s = state_at calls workers past in
    let w = word_after calls workers past k in
    let fit = agrees.each k in
    let live : is_live w.phase ≡ true = ap is_live (sym fit.phase) ∙ was.live in
    let fresh : is_cancelled w ≡ false = sym fit.cancelled ∙ was.fresh in
    let known : nat_lt k (task_count calls) ≡ true = let low = was.task in grind (arith, nat_tests) in
    let yes : outside_answer calls k w ≡ a.Outside k f.Yes = λ i. cond (known i) (a.Outside k (live_is_yes w.phase w.marked live (unmarked w live fresh) i)) (a.Error x.NoTask) in
    let reply : reply_of calls workers s (h.Cancel k) ≡ bare (a.Outside k f.Yes) = (cancels_go_by_words calls workers past k orderly means).outside ∙ ap bare yes in
    let said : answer calls workers past (h.Cancel k) ≡ bare (a.Outside k f.Yes) = sym (answers_alike calls workers s past (h.Cancel k) (after_agrees calls workers past means)) ∙ reply in
    let need : needs calls workers past (h.Cancel k) ≡ n.Cancel k = ap (λ (r : Reply). need_of_answer s.shut r.answer) reply in
    let writes = writes_at calls workers past (h.Cancel k) (n.Cancel k) orderly means need in
    let cancelled : (j : ℕ) → was_cancelled j (longer calls workers past (h.Cancel k)) ≡ (stands_in j v.own || was_outside j (longer calls workers past (h.Cancel k))) = λ j.
    let c' : Reply → Bool = λ r. cancels j r.answer r.ends in
    let o' : Reply → Bool = λ r. is_outside j r.answer in
    let alike : c' (answer calls workers past (h.Cancel k)) ≡ o' (answer calls workers past (h.Cancel k)) = ap c' said ∙ (or_none ((k == j) && true) ∙ sym (ap o' said)) in
    (λ i. alike i || agrees.cancelled j i) ∙ or_swap (o' (answer calls workers past (h.Cancel k))) (stands_in j v.own) (was_outside j past)
    in
    record {
      reply = reply;
      said = said;
      agrees = subst (Agrees calls workers (longer calls workers past (h.Cancel k))) (sym was.now) (record {
        count = entry_count v k (marked (entry v k)) ∙ agrees.count;
        each = λ j. one_fits calls workers past (h.Cancel k) k core_cancel v (marked (entry v k)) agrees writes refl j;
        cancelled = cancelled;
      });
    }
