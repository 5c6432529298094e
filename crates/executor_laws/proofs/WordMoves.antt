-- Each step makes the writes of words that its need names, and no other.
use Rattle.std.proofs.Common.{◌≡◌, ℕ, ◌<◌, ◌==◌, ◌&&◌, ◌||◌, Bool, true, false, cond, List, [], ◌∷◌, map, refl, sym, ap, ◌∙◌, arith}
use Rattle.std.specs.List.{list_any}
use Rattle.std.proofs.lemmas.Bool.{false≢true, false_from_ne_true, or_parts, or_from}
use Rattle.task_word.specs.Writes.{Kind, submit, start, done, fail, rearm, core_cancel}
use Rattle.queue_code.specs.Calls.{Planned, IsOrderly, task_count, terms_of}
use Rattle.executor_model.specs.declared.task.Stage.{Stage}
use Rattle.executor_model.specs.declared.task.Stage.TheVariants as ph
use Rattle.executor_model.specs.declared.task.Task.{Task}
use Rattle.executor_model.specs.declared.types.CancelEffect.{CancelEffect}
use Rattle.executor_model.specs.declared.types.CancelEffect.TheVariants as f
use Rattle.executor_model.specs.declared.types.Outcome.{Outcome}
use Rattle.executor_model.specs.declared.types.Outcome.TheVariants as o
use Rattle.executor_model.specs.declared.types.Answer.{Answer}
use Rattle.executor_model.specs.declared.types.Answer.TheVariants as a
use Rattle.executor_model.specs.declared.types.Happening.{Happening}
use Rattle.executor_model.specs.declared.types.Need.{Need}
use Rattle.executor_model.specs.declared.types.Need.TheVariants as n
use Rattle.executor_model.specs.View.{View}
use Rattle.executor_model.specs.Histories.{HistoryEntry, IsHistoryOf, happenings, made, is_submit, had_effect, is_end, is_ended, is_sweep, was_accepted}
use Rattle.executor_model.specs.State.{State, view_of_state, was_submitted, reply_of, after, submit_phase, finish_task}
use Rattle.executor_model.specs.Tasks.{word_of_task, word_phase}
use Rattle.executor_model.specs.Needs.{need_of, need_of_answer, need_of_cancel, need_of_finish}
use Rattle.executor_model.proofs.Agree.{after_agrees}
use Rattle.executor_model.proofs.Sound.{waits_in}
use Rattle.executor_laws.specs.NeedWrites.{writes_of, NeedsMoveWords}
use Rattle.executor_laws.proofs.Replies.{ends_say}
use Rattle.executor_laws.proofs.Reading.{tasks_are_submitted}
use Rattle.executor_laws.proofs.Waiting.{submit_says, was_submitted as call_was_made}
use Rattle.executor_laws.proofs.Termination.{submitted_is_a_task}
use Rattle.executor_laws.proofs.WordAnswers.{Meets, meets, says}
use Rattle.executor_laws.proofs.TaskWords.{words_tell_the_history}
use Rattle.executor_laws.proofs.WordWrites.{word_with, and_none, word_next, Knows, all_written}

-- ---- the words of which no write is named

-- none of the writes is of task k
abbrev Unnamed : ℕ → List (ℕ × Kind) → Type 0
Unnamed k writes = list_any (λ (x : ℕ × Kind). x.0 == k) writes ≡ false

-- the one write that there is names another task
named : (j k : ℕ) (kind : Kind) → Unnamed k ((j, kind) ∷ []) → (j == k) ≡ false
named j k kind none = (or_parts (j == k) false none).0

not_ended : (k : ℕ) (ends : List ℕ) → Unnamed k (map (λ j. (j, core_cancel)) ends) → is_end k ends ≡ false
not_ended k [] none = refl
not_ended k (j ∷ ends) none = let parts = or_parts (j == k) (list_any (λ (x : ℕ × Kind). x.0 == k) (map (λ j. (j, core_cancel)) ends)) none in or_from (j == k) (is_end k ends) parts.0 (not_ended k ends parts.1)

-- nor is it ended
unended : (k : ℕ) (need : Need) (ends : List ℕ) → Unnamed k (writes_of need ends) → (is_end k ends ≡ true → need ≡ n.Sweep) → is_end k ends ≡ false
unended k n.Sweep ends none sweeps = not_ended k ends none
unended k n.Nothing ends none sweeps = false_from_ne_true (is_end k ends) (λ q. let clash = sweeps q in cc)
unended k (n.Submit j) ends none sweeps = false_from_ne_true (is_end k ends) (λ q. let clash = sweeps q in cc)
unended k (n.Start j) ends none sweeps = false_from_ne_true (is_end k ends) (λ q. let clash = sweeps q in cc)
unended k (n.Done j) ends none sweeps = false_from_ne_true (is_end k ends) (λ q. let clash = sweeps q in cc)
unended k (n.Fail j) ends none sweeps = false_from_ne_true (is_end k ends) (λ q. let clash = sweeps q in cc)
unended k (n.Rearm j) ends none sweeps = false_from_ne_true (is_end k ends) (λ q. let clash = sweeps q in cc)
unended k (n.Cancel j) ends none sweeps = false_from_ne_true (is_end k ends) (λ q. let clash = sweeps q in cc)

-- the word of a task that an answer neither moves nor cancels
abbrev Stays : List Planned → State → Answer → List ℕ → ℕ → Type 0
Stays calls s answer ends k = word_next calls s answer ends k ≡ word_of_task (s.tasks k)

-- after a cancel of task j
cancel_stays : (ends : List ℕ) (j k : ℕ) (effect : CancelEffect) (t : Task) → is_end k ends ≡ false → Unnamed k (writes_of (need_of_cancel j effect) ends) →
    word_with ((((j == k) && had_effect effect) || (is_end k ends || false)) || t.cancelled) t ≡ word_of_task t
cancel_stays ends j k f.Yes t none unnamed = let apart = named j k core_cancel unnamed in λ i. word_with (((apart i && true) || (none i || false)) || t.cancelled) t
cancel_stays ends j k f.No t none unnamed = let off = and_none (j == k) in λ i. word_with ((off i || (none i || false)) || t.cancelled) t
cancel_stays ends j k f.Absent t none unnamed = let off = and_none (j == k) in λ i. word_with ((off i || (none i || false)) || t.cancelled) t

-- after the end of a run of another task
other_stays : (calls : List Planned) (s : State) (ends : List ℕ) (v j run k : ℕ) (outcome : Outcome) → is_end k ends ≡ false → (j == k) ≡ false → Stays calls s (a.Finish v j run outcome) ends k
other_stays calls s ends v j run k outcome none apart =
    let t = s.tasks k in
    λ i. word_with ((false || (none i || (apart i && is_ended outcome))) || t.cancelled) (cond (apart i) (finish_task (terms_of calls k).timing s.moment outcome t) t)

-- after the end of a run of task j
finish_stays : (calls : List Planned) (s : State) (ends : List ℕ) (v j run k : ℕ) (outcome : Outcome) → is_end k ends ≡ false → Meets k (s.tasks k) (a.Finish v j run outcome) → Unnamed k (writes_of (need_of_finish j outcome) ends) →
    Stays calls s (a.Finish v j run outcome) ends k
finish_stays calls s ends v j run k (o.Done value) none met unnamed = other_stays calls s ends v j run k (o.Done value) none (named j k done unnamed)
finish_stays calls s ends v j run k (o.Failed code) none met unnamed = other_stays calls s ends v j run k (o.Failed code) none (named j k fail unnamed)
finish_stays calls s ends v j run k (o.Again due) none met unnamed = other_stays calls s ends v j run k (o.Again due) none (named j k rearm unnamed)
finish_stays calls s ends v j run k o.Ended none met unnamed = other_stays calls s ends v j run k o.Ended none (named j k core_cancel unnamed)
finish_stays calls s ends v j run k o.Dropped none met unnamed = pick (j == k) refl
  where
    pick : (b : Bool) → (j == k) ≡ b → Stays calls s (a.Finish v j run o.Dropped) ends k
    pick false apart = other_stays calls s ends v j run k o.Dropped none apart
    pick true same =
        let t = s.tasks k in
        (λ i. word_with ((false || (none i || (same i && false))) || t.cancelled) (cond (same i) (finish_task (terms_of calls k).timing s.moment o.Dropped t) t)) ∙ ap (λ p. record { phase = word_phase p; run = t.run; marked = t.cancelled }) (sym (met same).0)

-- the word of each task stays of which the need of an answer names no write
others_stay : (calls : List Planned) (s : State) (answer : Answer) (ends : List ℕ) (k : ℕ) → is_end k ends ≡ false → Meets k (s.tasks k) answer → Unnamed k (writes_of (need_of_answer s.shut answer) ends) → Stays calls s answer ends k
others_stay calls s (a.Submit j kind due) ends k none met unnamed =
    let t = s.tasks k in
    let apart = named j k submit unnamed in λ i. word_with ((false || (none i || false)) || t.cancelled) (cond (apart i) (submit_phase (terms_of calls k).timing due t.phase t) t)
others_stay calls s (a.Cancel j effect) ends k none met unnamed = cancel_stays ends j k effect (s.tasks k) none unnamed
others_stay calls s (a.Outside j effect) ends k none met unnamed = cancel_stays ends j k effect (s.tasks k) none unnamed
others_stay calls s (a.Start v j run due) ends k none met unnamed =
    let t = s.tasks k in
    let apart = named j k start unnamed in λ i. word_with ((false || (none i || false)) || t.cancelled) (cond (apart i) (record t { phase = ph.Running }) t)
others_stay calls s (a.Finish v j run outcome) ends k none met unnamed = finish_stays calls s ends v j run k outcome none met unnamed
others_stay calls s _ ends k none met unnamed = λ i. word_with ((false || (none i || false)) || (s.tasks k).cancelled) (s.tasks k)

-- ---- what is known after a history

-- the need of a sweep
sweep_needed : (shut : Bool) (answer : Answer) → is_sweep shut answer ≡ true → need_of_answer shut answer ≡ n.Sweep
sweep_needed shut (a.Policy which value) q = ap (λ b. cond b n.Sweep n.Nothing) q
sweep_needed shut answer q = cc

-- where the step of a happening ends a task, its need is a sweep
end_sweeps : (calls : List Planned) (workers : ℕ) (s : State) (happening : Happening) (k : ℕ) → is_end k (reply_of calls workers s happening).ends ≡ true → need_of calls workers s happening ≡ n.Sweep
end_sweeps calls workers s happening k q = sweep_needed s.shut (reply_of calls workers s happening).answer (ends_say calls workers (view_of_state calls s) happening k q).sweeps

is_vacant : (p : Stage) → was_submitted p ≡ false → p ≡ ph.Vacant
is_vacant ph.Vacant q = refl
is_vacant ph.Waiting q = absurd (false≢true (sym q))
is_vacant ph.Running q = absurd (false≢true (sym q))
is_vacant ph.Done q = absurd (false≢true (sym q))
is_vacant ph.Failed q = absurd (false≢true (sym q))
is_vacant ph.Dropped q = absurd (false≢true (sym q))

-- a task that is submitted is one of the calls, and was not submitted before: just one call is its submission
pub submits_once : (calls : List Planned) (workers : ℕ) (past : List HistoryEntry) (happening : Happening) (k : ℕ) → IsOrderly calls → IsHistoryOf calls workers past →
    is_submit k (reply_of calls workers (after calls workers (happenings past)) happening).answer ≡ true → (((after calls workers (happenings past)).tasks k).phase ≡ ph.Vacant) × (k < task_count calls)
submits_once calls workers past happening k orderly means q =
    let s = after calls workers (happenings past) in
    let t = s.tasks k in
    let view = (after_agrees calls workers past means).view in
    let now = submit_says calls workers (view_of_state calls s) happening k q in
    let tasks = tasks_are_submitted calls k orderly in
    let low = tasks.1 s.made now.call now.there now.submits in
    let submission = tasks.0 low in
    let made_so : s.made ≡ made (happenings past) = ap (λ (v : View). v.made) view in
    let first : was_submitted t.phase ≡ true → ⊥ = λ used.
    let accepted : was_accepted k past ≡ true = ap (λ (v : View). (v.fate k).accepted) (sym view) ∙ used in
    let before = call_was_made calls workers past k means accepted in
    let here = submission.only s.made now.call now.there now.submits in
    let there = submission.only before.place before.call before.there before.submits in
    omega (arith, made_so, here, there, before.before)
    in
    (is_vacant t.phase (false_from_ne_true (was_submitted t.phase) first), low)

knows_all : (calls : List Planned) (workers : ℕ) (past : List HistoryEntry) (happening : Happening) → IsOrderly calls → IsHistoryOf calls workers past →
    Knows calls (after calls workers (happenings past)) (reply_of calls workers (after calls workers (happenings past)) happening).answer (reply_of calls workers (after calls workers (happenings past)) happening).ends
knows_all calls workers past happening orderly means =
    let s = after calls workers (happenings past) in
    let sound = (after_agrees calls workers past means).sound in
    record {
      says = says calls workers s happening;
      meets = meets calls workers s happening sound;
      submits = λ k. submits_once calls workers past happening k orderly means;
      ended = λ k q. let waits = waits_in calls s k sound (ends_say calls workers (view_of_state calls s) happening k q).waited in (waits.0, waits.1, end_sweeps calls workers s happening k q);
      fresh = λ k q. ((words_tell_the_history calls workers past k means).fresh (ap word_phase q)).1;
      tasks = λ k. submitted_is_a_task calls workers past k orderly means;
    }

-- the law that a step makes the writes that its need names
pub needs_move_words : NeedsMoveWords
needs_move_words calls workers past happening orderly means =
    let s = after calls workers (happenings past) in
    let r = reply_of calls workers s happening in
    let knows = knows_all calls workers past happening orderly means in
    record {
      made = all_written calls s r.answer r.ends knows;
      rest = λ k unnamed. others_stay calls s r.answer r.ends k (unended k (need_of calls workers s happening) r.ends unnamed (end_sweeps calls workers s happening k)) (knows.meets k) unnamed;
    }
