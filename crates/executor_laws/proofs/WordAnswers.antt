-- What an answer finds of each task, and what a reply says of a cancel and of the end of a run.
use Rattle.std.proofs.Common.{◌≡◌, ℕ, ◌==◌, nat_lt, Bool, true, false, cond, List, Option, Some, None, refl, sym, ◌∙◌, subst}
use Rattle.std.specs.Prelude.{slice_get, max}
use Rattle.std.specs.Option.{option_map_or}
use Rattle.std.proofs.lemmas.Bool.{false≢true, eqb-true}
use Rattle.queue_code.specs.declared.call.CodeCall.{CodeCall}
use Rattle.task_word.specs.Words.{is_live}
use Rattle.executor_model.specs.declared.types.EventError.TheVariants as x
use Rattle.executor_model.specs.declared.types.CancelEffect.TheVariants as f
use Rattle.executor_model.specs.declared.types.Happening.{Happening}
use Rattle.executor_model.specs.declared.types.Happening.TheVariants as h
use Rattle.executor_model.specs.declared.types.Outcome.TheVariants as o
use Rattle.executor_model.specs.declared.types.Answer.{Answer}
use Rattle.executor_model.specs.declared.types.Answer.TheVariants as a
use Rattle.executor_model.specs.declared.task.Stage.{Stage}
use Rattle.executor_model.specs.declared.task.Stage.TheVariants as ph
use Rattle.executor_model.specs.declared.task.Task.{Task}
use Rattle.queue_code.specs.Calls.{Planned, Terms, numbers, task_count, terms_of}
use Rattle.executor_model.specs.View.{first_enabled}
use Rattle.executor_model.specs.Answers.{bare, called, start_answer, finish_answer, outcome_in, stops_periodic, due_next, effect_on}
use Rattle.executor_model.specs.State.{State, view_of_state, seen_task, reply_of}
use Rattle.executor_model.specs.Tasks.{word_phase}
use Rattle.executor_model.specs.own.Soundness.{IsSound}
use Rattle.executor_model.proofs.Replies.{IsAnswerTo, answers_call}
use Rattle.executor_model.proofs.Sound.{Finds, reply_finds}
use Rattle.executor_model.proofs.Effects.{of_vacant, of_done, of_failed}
use Rattle.executor_laws.proofs.Replies.{SaysEffect, call_effect}

-- what an answer finds of task k
abbrev pub Meets : ℕ → Task → Answer → Type 0
Meets k task (a.Cancel j effect) = (j == k) ≡ true → effect ≡ f.Yes → is_live (word_phase task.phase) ≡ true
Meets k task (a.Outside j effect) = (j == k) ≡ true → effect ≡ f.Yes → is_live (word_phase task.phase) ≡ true
Meets k task (a.Start worker j run due) = (j == k) ≡ true → (task.phase ≡ ph.Waiting) × (task.cancelled ≡ false)
Meets k task (a.Finish worker j run outcome) = (j == k) ≡ true → (task.phase ≡ ph.Running) × (task.cancelled ≡ true → outcome ≡ o.Dropped)
Meets k task _ = Unit {0}

-- a cancel with an effect finds a word that is live
live_of : (terms : Terms) (t : Task) → effect_on (seen_task terms t) ≡ f.Yes → is_live (word_phase t.phase) ≡ true
live_of terms t q = by t.phase refl
  where
    by : (p : Stage) → t.phase ≡ p → is_live (word_phase p) ≡ true
    by ph.Vacant e = let clash : f.Absent ≡ f.Yes = of_vacant terms t e ∙ q in absurd cc
    by ph.Waiting e = refl
    by ph.Running e = refl
    by ph.Done e = let clash : f.No ≡ f.Yes = of_done terms t e ∙ q in absurd cc
    by ph.Failed e = let clash : f.No ≡ f.Yes = of_failed terms t e ∙ q in absurd cc
    by ph.Dropped e = refl

-- what a reply says of a cancel and of the end of a run
abbrev pub Says : List Planned → State → Answer → Type 0
Says calls s (a.Cancel j effect) = effect ≡ effect_on (seen_task (terms_of calls j) (s.tasks j))
Says calls s (a.Outside j effect) = effect ≡ effect_on (seen_task (terms_of calls j) (s.tasks j))
Says calls s (a.Finish worker j run outcome) = (s.tasks j).cancelled ≡ true → outcome ≡ o.Dropped
Says calls s _ = Unit {0}

call_says : (calls : List Planned) (s : State) (moment : ℕ) (call : CodeCall) → Says calls s (called calls (record (view_of_state calls s) { moment = moment }) call).answer
call_says calls s moment call =
    let v = record (view_of_state calls s) { moment = moment } in
    by (called calls v call).answer (answers_call calls v call) (call_effect calls v call)
  where
    by : (x : Answer) → IsAnswerTo x call → SaysEffect (record (view_of_state calls s) { moment = moment }) x → Says calls s x
    by (a.Cancel j effect) is says = says
    by (a.Outside j effect) is says = absurd is
    by (a.Finish worker j run outcome) is says = absurd is
    by x is says = tt

-- what each reply says of a cancel and of the end of a run
pub says : (calls : List Planned) (workers : ℕ) (s : State) (happening : Happening) → Says calls s (reply_of calls workers s happening).answer
says calls workers s h.Call =
    let pick : (q : Option Planned) → Says calls s (option_map_or (λ p. called calls (record (view_of_state calls s) { moment = max s.moment p.0 }) p.1) q (bare a.Clock)).answer =
    elim [ None ↦ tt | Some p ↦ call_says calls s (max s.moment p.0) p.1 ]
    in
    pick (slice_get calls s.made)
says calls workers s (h.Clock t) =
    let pick : (b c : Bool) → Says calls s (cond b (a.Error x.Backward) (cond c (a.Error x.TooFar) a.Clock)) = elim [ true ↦ λ c. tt | false ↦ elim [ true ↦ tt | false ↦ tt ] ] in
    pick _ _
says calls workers s (h.Start u) =
    let v = view_of_state calls s in
    let first : (q : Option ℕ) → Says calls s (start_answer v u q) = elim [ None ↦ tt | Some k ↦ tt ] in
    let pick : (b : Bool) (work : Option ℕ) → Says calls s (cond b (option_map_or (λ _. a.Error x.Busy) work (start_answer v u (first_enabled v (numbers calls)))) (a.Error x.NoWorker)) =
    elim [ true ↦ elim [ None ↦ first (first_enabled v (numbers calls)) | Some k ↦ tt ] | false ↦ λ work. tt ]
    in
    pick (nat_lt u workers) (s.workers u)
says calls workers s (h.Finish u ending) =
    let v = view_of_state calls s in
    let stops = stops_periodic s.shut s.stopped s.policies in
    let dropped : (k : ℕ) (b : Bool) → b ≡ true → outcome_in b stops (terms_of calls k).timing (due_next calls v k) ending ≡ o.Dropped = λ k. elim [ true ↦ λ q. refl | false ↦ λ q. absurd (false≢true q) ] in
    let pick : (b : Bool) (work : Option ℕ) → Says calls s (cond b (finish_answer calls v u ending work) (a.Error x.NoWorker)) =
    elim [ true ↦ elim [ None ↦ tt | Some k ↦ dropped k (s.tasks k).cancelled ] | false ↦ λ work. tt ]
    in
    pick (nat_lt u workers) (s.workers u)
says calls workers s (h.Cancel k) =
    let pick : (b : Bool) → Says calls s (cond b (a.Outside k (effect_on ((view_of_state calls s).fate k))) (a.Error x.NoTask)) = elim [ true ↦ refl | false ↦ tt ] in
    pick (nat_lt k (task_count calls))
says calls workers s h.Purge = tt

meets_all : (calls : List Planned) (s : State) (answer : Answer) → IsSound s → Finds calls s answer → Says calls s answer → (k : ℕ) → Meets k (s.tasks k) answer
meets_all calls s (a.Cancel j effect) sound found says k = λ q yes. subst (λ i. is_live (word_phase (s.tasks i).phase) ≡ true) (eqb-true j k q) (live_of (terms_of calls j) (s.tasks j) (sym says ∙ yes))
meets_all calls s (a.Outside j effect) sound found says k = λ q yes. subst (λ i. is_live (word_phase (s.tasks i).phase) ≡ true) (eqb-true j k q) (live_of (terms_of calls j) (s.tasks j) (sym says ∙ yes))
meets_all calls s (a.Start u j run due) sound found says k = λ q. subst (λ i. ((s.tasks i).phase ≡ ph.Waiting) × ((s.tasks i).cancelled ≡ false)) (eqb-true j k q) (found.1, found.2)
meets_all calls s (a.Finish u j run outcome) sound found says k =
    λ q. subst (λ i. ((s.tasks i).phase ≡ ph.Running) × ((s.tasks i).cancelled ≡ true → outcome ≡ o.Dropped)) (eqb-true j k q) (sound.at_work u j found.0, says)
meets_all calls s _ sound found says k = tt

-- each answer in a sound state finds each task as the table of words says
pub meets : (calls : List Planned) (workers : ℕ) (s : State) (happening : Happening) → IsSound s → (k : ℕ) → Meets k (s.tasks k) (reply_of calls workers s happening).answer
meets calls workers s happening sound k = meets_all calls s (reply_of calls workers s happening).answer sound (reply_finds calls workers s happening sound) (says calls workers s happening) k
