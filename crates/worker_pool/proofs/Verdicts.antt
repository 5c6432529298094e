-- Finishes alone tell a verdict.
use Rattle.std.proofs.Common.{◌≡◌, ℕ, nat_lt, Bool, true, false, cond, List, ◌∷◌, ◌++◌, Option, Some, None, refl, sym, ap, ◌∙◌, subst}
use Rattle.std.specs.Prelude.{IsSome, slice_index_or}
use Rattle.std.specs.Option.{option_map_or}
use Rattle.std.proofs.lemmas.Bool.{false≢true}
use Rattle.sched_time.specs.Times.{longest}
use Rattle.sched_time.specs.declared.timing.Ending.{Ending}
use Rattle.task_word.specs.declared.views.CoreSeatView.{CoreSeatView}
use Rattle.queue_code.specs.Calls.{Planned, numbers, task_count}
use Rattle.executor_model.specs.declared.types.CancelEffect.{CancelEffect}
use Rattle.executor_model.specs.declared.types.CancelEffect.TheVariants as f
use Rattle.executor_model.specs.declared.types.EventError.TheVariants as x
use Rattle.executor_model.specs.declared.types.Event.{Event}
use Rattle.executor_model.specs.declared.types.Event.TheVariants as v
use Rattle.executor_model.specs.declared.types.Outcome.TheVariants as o
use Rattle.executor_model.specs.declared.types.Answer.{Answer}
use Rattle.executor_model.specs.declared.types.Answer.TheVariants as a
use Rattle.executor_model.specs.declared.types.Happening.{Happening}
use Rattle.executor_model.specs.declared.types.Happening.TheVariants as h
use Rattle.executor_model.specs.declared.types.Line.{Line}
use Rattle.executor_model.specs.View.{View, first_enabled}
use Rattle.executor_model.specs.Answers.{Reply, start_answer, effect_on}
use Rattle.executor_model.specs.Histories.{HistoryEntry, IsHistoryOf}
use Rattle.executor_model.specs.Flows.{happening_of}
use Rattle.executor_model.specs.State.{State, view_of_state, reply_of}
use Rattle.executor_model.specs.Needs.{need_of, need_of_answer}
use Rattle.executor_core.specs.CoreView.{CoreView, workers_of}
use Rattle.executor_model.proofs.Agree.{after_agrees, answers_alike}
use Rattle.worker_pool.specs.Books.{BookView, IsBook, past_of}
use Rattle.worker_pool.specs.own.Results.{puts_verdict, verdict_in}
use Rattle.worker_pool.proofs.Steps.{state_at}
use Rattle.worker_pool.proofs.Applying.{Took, history_same}

-- an answer that tells a verdict is one of a finish that puts it
pub tells_puts : (shut : Bool) (answer : Answer) → IsSome (verdict_in answer) → puts_verdict (need_of_answer shut answer) ≡ true
tells_puts shut (a.Finish w j run (o.Done value)) q = refl
tells_puts shut (a.Finish w j run (o.Failed code)) q = refl
tells_puts shut (a.Finish w j run (o.Again due)) q = absurd cc
tells_puts shut (a.Finish w j run o.Dropped) q = absurd cc
tells_puts shut (a.Finish w j run o.Ended) q = absurd cc
tells_puts shut _ q = absurd cc

-- ---- of the events finishes alone put one

-- one of two answers puts none, where neither does
neither_puts : (shut b : Bool) (y n : Answer) → puts_verdict (need_of_answer shut y) ≡ false → puts_verdict (need_of_answer shut n) ≡ false → puts_verdict (need_of_answer shut (cond b y n)) ≡ false
neither_puts shut true y n none other = none
neither_puts shut false y n none other = other

outside_puts : (shut : Bool) (k : ℕ) (effect : CancelEffect) → puts_verdict (need_of_answer shut (a.Outside k effect)) ≡ false
outside_puts shut k f.Yes = refl
outside_puts shut k f.No = refl
outside_puts shut k f.Absent = refl

start_puts : (shut : Bool) (u : View) (w : ℕ) (first : Option ℕ) → puts_verdict (need_of_answer shut (start_answer u w first)) ≡ false
start_puts shut u w None = refl
start_puts shut u w (Some k) = refl

busy_puts : (shut : Bool) (u : View) (w : ℕ) (first work : Option ℕ) → puts_verdict (need_of_answer shut (option_map_or (λ _. a.Error x.Busy) work (start_answer u w first))) ≡ false
busy_puts shut u w first None = start_puts shut u w first
busy_puts shut u w first (Some k) = refl

clock_puts : (calls : List Planned) (workers : ℕ) (s : State) (moment : ℕ) → puts_verdict (need_of calls workers s (h.Clock moment)) ≡ false
clock_puts calls workers s moment =
    neither_puts s.shut (nat_lt moment s.moment) (a.Error x.Backward) (cond (nat_lt longest moment) (a.Error x.TooFar) a.Clock) refl (neither_puts s.shut (nat_lt longest moment) (a.Error x.TooFar) a.Clock refl refl)

starts_put : (calls : List Planned) (workers : ℕ) (s : State) (w : ℕ) → puts_verdict (need_of calls workers s (h.Start w)) ≡ false
starts_put calls workers s w =
    let u = view_of_state calls s in
    let first = first_enabled u (numbers calls) in
    neither_puts s.shut (nat_lt w workers) (option_map_or (λ _. a.Error x.Busy) (s.workers w) (start_answer u w first)) (a.Error x.NoWorker) (busy_puts s.shut u w first (s.workers w)) refl

cancels_put : (calls : List Planned) (workers : ℕ) (s : State) (k : ℕ) → puts_verdict (need_of calls workers s (h.Cancel k)) ≡ false
cancels_put calls workers s k =
    let effect = effect_on ((view_of_state calls s).fate k) in
    neither_puts s.shut (nat_lt k (task_count calls)) (a.Outside k effect) (a.Error x.NoTask) (outside_puts s.shut k effect) refl

-- ---- a verdict is told of a finish alone

pub puts_alone : {R : Type 0} (cells : List ℕ) (old : BookView) (core : CoreView) (seat : CoreSeatView) (happened : List Happening) (lines : List Line) (event : Event) → IsBook cells old → (t : Took old core seat happened lines event) →
    IsSome (verdict_in t.took.last.answer) → ((w : ℕ) (ending : Ending) → event ≡ v.Finish w ending → R) → R
puts_alone {R} cells old core seat happened lines event book t tells finish = by event refl
  where
    calls : List Planned
    calls = old.core.calls

    workers : ℕ
    workers = workers_of old.core

    rest : List HistoryEntry
    rest = t.took.between ++ past_of old

    s : State
    s = state_at calls workers rest

    means : IsHistoryOf calls workers (t.took.last ∷ rest)
    means = subst (IsHistoryOf calls workers) t.took.past (history_same old core seat happened lines event t)

    said : t.took.last.answer ≡ (reply_of calls workers s t.took.last.happening).answer
    said = means.2 ∙ ap (λ (r : Reply). r.answer) (sym (answers_alike calls workers s rest t.took.last.happening (after_agrees calls workers rest means.0)))

    is_event : t.took.last.happening ≡ happening_of event
    is_event = ap (λ hs. slice_index_or hs 0 (happening_of event)) t.took.part

    puts : (one : Event) → event ≡ one → puts_verdict (need_of calls workers s (happening_of one)) ≡ true
    puts one is = subst (λ y. puts_verdict (need_of calls workers s (happening_of y)) ≡ true) is
        (subst (λ y. puts_verdict (need_of calls workers s y) ≡ true) is_event (tells_puts s.shut (reply_of calls workers s t.took.last.happening).answer (subst (λ answer. IsSome (verdict_in answer)) said tells)))

    by : (one : Event) → event ≡ one → R
    by (v.Clock moment) is = absurd (false≢true (sym (clock_puts calls workers s moment) ∙ puts (v.Clock moment) is))
    by (v.Start w) is = absurd (false≢true (sym (starts_put calls workers s w) ∙ puts (v.Start w) is))
    by (v.Cancel k) is = absurd (false≢true (sym (cancels_put calls workers s k) ∙ puts (v.Cancel k) is))
    by (v.Finish w ending) is = finish w ending is
