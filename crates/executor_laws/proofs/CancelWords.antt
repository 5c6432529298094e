-- What a cancel is answered, by the word of its task.
use Rattle.std.proofs.Common.{◌≡◌, ◌≢◌, nat_lt, Bool, true, false, cond, refl, sym, ap, ◌∙◌, subst}
use Rattle.std.proofs.lemmas.Bool.{false≢true}
use Rattle.task_word.specs.declared.phases.Phase.TheVariants as w
use Rattle.queue_code.specs.Calls.{Terms, task_count, terms_of}
use Rattle.executor_model.specs.declared.task.Stage.{Stage}
use Rattle.executor_model.specs.declared.task.Stage.TheVariants as ph
use Rattle.executor_model.specs.declared.task.Task.{Task}
use Rattle.executor_model.specs.declared.types.EventError.TheVariants as x
use Rattle.executor_model.specs.declared.types.CancelEffect.TheVariants as f
use Rattle.executor_model.specs.declared.types.Answer.TheVariants as a
use Rattle.executor_model.specs.Answers.{bare, effect_on}
use Rattle.executor_model.specs.Histories.{happenings}
use Rattle.executor_model.specs.State.{seen_task, was_submitted, after}
use Rattle.executor_model.specs.Tasks.{word_phase}
use Rattle.executor_model.proofs.Agree.{after_agrees}
use Rattle.executor_model.proofs.Effects.{of_vacant, of_waiting, of_running, of_cancelled, of_done, of_failed}
use Rattle.executor_laws.specs.Cancels.{effect_on_word, CancelsGoByWords}
use Rattle.executor_laws.proofs.Termination.{submitted_is_a_task}
use Rattle.executor_laws.proofs.WordAnswers.{Says, says}

-- a task in a phase that is not the vacant one
abbrev IsUsed : Stage → Type 0
IsUsed p = word_phase p ≢ w.Vacant

used_is_submitted : (p : Stage) → IsUsed p → was_submitted p ≡ true
used_is_submitted ph.Vacant used = absurd (used refl)
used_is_submitted ph.Waiting used = refl
used_is_submitted ph.Running used = refl
used_is_submitted ph.Done used = refl
used_is_submitted ph.Failed used = refl
used_is_submitted ph.Dropped used = refl

-- what a cancel does is what the word says
goes_by_word : (terms : Terms) (t : Task) → (t.phase ≡ ph.Dropped → t.cancelled ≡ true) → effect_on (seen_task terms t) ≡ effect_on_word (word_phase t.phase) t.cancelled
goes_by_word terms t over = by t.phase t.cancelled refl refl
  where
    used : (p : Stage) → t.phase ≡ p → (p ≡ ph.Vacant → ⊥) → t.cancelled ≡ true → effect_on (seen_task terms t) ≡ f.No
    used p is apart bit = sym (of_cancelled terms t (λ q. apart (sym is ∙ q)) bit)

    by : (p : Stage) (b : Bool) → t.phase ≡ p → t.cancelled ≡ b → effect_on (seen_task terms t) ≡ effect_on_word (word_phase p) b
    by ph.Vacant b is bit = sym (of_vacant terms t is)
    by ph.Waiting false is bit = sym (of_waiting terms t is bit)
    by ph.Waiting true is bit = used ph.Waiting is (λ q. cc) bit
    by ph.Running false is bit = sym (of_running terms t is bit)
    by ph.Running true is bit = used ph.Running is (λ q. cc) bit
    by ph.Done b is bit = sym (of_done terms t is)
    by ph.Failed b is bit = sym (of_failed terms t is)
    by ph.Dropped false is bit = absurd (false≢true (sym bit ∙ over is))
    by ph.Dropped true is bit = used ph.Dropped is (λ q. cc) bit

-- the law that cancels go by the words
pub cancels_go_by_words : CancelsGoByWords
cancels_go_by_words calls workers past k orderly means =
    let s = after calls workers (happenings past) in
    let effect = goes_by_word (terms_of calls k) (s.tasks k) ((after_agrees calls workers past means).sound.over k) in
    record {
      outside = ap (λ e. bare (cond (nat_lt k (task_count calls)) (a.Outside k e) (a.Error x.NoTask))) effect;
      planned = λ happening e is. subst (Says calls s) is (says calls workers s happening) ∙ effect;
      task = λ used. submitted_is_a_task calls workers past k orderly means (used_is_submitted (s.tasks k).phase used);
    }
