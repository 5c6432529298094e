-- What the words of a core say of a history.
use Rattle.std.proofs.Common.{◌≡◌, ℕ, ◌+◌, ◌↔◌, ◌&&◌, ◌==◌, Bool, true, false, List, refl, sym, ap, ◌∙◌, arith}
use Rattle.std.specs.Prelude.{not}
use Rattle.std.proofs.lemmas.Bool.{false≢true, false_from_ne_true}
use Rattle.std.proofs.lemmas.Bool.Decides.{nat_tests}
use Rattle.task_word.specs.Words.{is_live}
use Rattle.task_word.specs.declared.phases.Phase.TheVariants as w
use Rattle.executor_model.specs.declared.task.Stage.{Stage}
use Rattle.executor_model.specs.declared.task.Stage.TheVariants as ph
use Rattle.queue_code.specs.Calls.{Planned, Terms, terms_of}
use Rattle.executor_model.specs.View.{Fate, View, is_waiting, is_running}
use Rattle.executor_model.specs.Histories.{view_of_history, happenings, was_accepted, was_done, was_failed}
use Rattle.executor_model.specs.State.{State, view_of_state, seen_phase, seen_task, was_submitted, is_done_phase, is_failed_phase, starts_of, after}
use Rattle.executor_model.specs.Tasks.{word_phase}
use Rattle.executor_model.specs.own.Soundness.{IsSound}
use Rattle.executor_model.proofs.Sound.{is_seen_waiting, waits_in}
use Rattle.executor_model.proofs.Agree.{after_agrees}
use Rattle.executor_laws.specs.TaskWords.{starts_of_word, WordsTellTheHistory}
use Rattle.executor_laws.proofs.LiveWords.{lived_after}

vacant_told : (p : Stage) → (word_phase p ≡ w.Vacant) ↔ (was_submitted p ≡ false)
vacant_told ph.Vacant = (λ q. refl, λ q. refl)
vacant_told ph.Waiting = (λ q. absurd cc, λ q. absurd (false≢true (sym q)))
vacant_told ph.Running = (λ q. absurd cc, λ q. absurd (false≢true (sym q)))
vacant_told ph.Done = (λ q. absurd cc, λ q. absurd (false≢true (sym q)))
vacant_told ph.Failed = (λ q. absurd cc, λ q. absurd (false≢true (sym q)))
vacant_told ph.Dropped = (λ q. absurd cc, λ q. absurd (false≢true (sym q)))

done_told : (p : Stage) → (word_phase p ≡ w.Done) ↔ (is_done_phase p ≡ true)
done_told ph.Vacant = (λ q. absurd cc, λ q. absurd (false≢true q))
done_told ph.Waiting = (λ q. absurd cc, λ q. absurd (false≢true q))
done_told ph.Running = (λ q. absurd cc, λ q. absurd (false≢true q))
done_told ph.Done = (λ q. refl, λ q. refl)
done_told ph.Failed = (λ q. absurd cc, λ q. absurd (false≢true q))
done_told ph.Dropped = (λ q. absurd cc, λ q. absurd (false≢true q))

failed_told : (p : Stage) → (word_phase p ≡ w.Failed) ↔ (is_failed_phase p ≡ true)
failed_told ph.Vacant = (λ q. absurd cc, λ q. absurd (false≢true q))
failed_told ph.Waiting = (λ q. absurd cc, λ q. absurd (false≢true q))
failed_told ph.Running = (λ q. absurd cc, λ q. absurd (false≢true q))
failed_told ph.Done = (λ q. absurd cc, λ q. absurd (false≢true q))
failed_told ph.Failed = (λ q. refl, λ q. refl)
failed_told ph.Dropped = (λ q. absurd cc, λ q. absurd (false≢true q))

started_told : (p : Stage) (run : ℕ) → starts_of_word (word_phase p) run ≡ starts_of p run
started_told ph.Vacant run = refl
started_told ph.Waiting run = refl
started_told ph.Running run = refl
started_told ph.Done run = refl
started_told ph.Failed run = refl
started_told ph.Dropped run = refl

-- a task in this phase is seen to be run, or to wait

-- a task in the phase of a run is seen to run
pub runs_seen : (terms : Terms) (p : Stage) (run due : ℕ) (cancelled kept : Bool) → p ≡ ph.Running → is_running (seen_phase terms p run due cancelled kept) ≡ true
runs_seen terms p run due cancelled kept is = ap (λ p. is_running (seen_phase terms p run due cancelled kept)) is ∙ ap not apart
  where
    apart : (1 + run == run) ≡ false
    apart = grind (arith, nat_tests)

-- a task in the phase of waiting that is not cancelled is seen to wait
pub waits_seen : (terms : Terms) (p : Stage) (run due : ℕ) (cancelled kept : Bool) → p ≡ ph.Waiting → cancelled ≡ false → is_waiting (seen_phase terms p run due cancelled kept) ≡ true
waits_seen terms p run due cancelled kept is live = (λ i. is_waiting (seen_phase terms (is i) run due (live i) kept)) ∙ is_seen_waiting terms run due kept

-- only a task whose run is under way is seen to be run
pub runs_in : (terms : Terms) (p : Stage) (run due : ℕ) (cancelled kept : Bool) → is_running (seen_phase terms p run due cancelled kept) ≡ true → p ≡ ph.Running
runs_in terms p run due cancelled kept = by p
  where
    still : (n : ℕ) → not (n == n) ≡ true → ⊥
    still n q = let same : (n == n) ≡ true = grind (arith, nat_tests) in false≢true (sym (ap not same) ∙ q)

    by : (p : Stage) → is_running (seen_phase terms p run due cancelled kept) ≡ true → p ≡ ph.Running
    by ph.Vacant q = absurd (false≢true q)
    by ph.Waiting q = absurd (still run q)
    by ph.Running q = refl
    by ph.Done q = absurd (still (1 + run) q)
    by ph.Failed q = absurd (still (1 + run) q)
    by ph.Dropped q = absurd (still (1 + run) q)

-- only a task that waits has a new word
new_waits : (p : Stage) → word_phase p ≡ w.New → p ≡ ph.Waiting
new_waits ph.Waiting q = refl
new_waits ph.Vacant q = absurd cc
new_waits ph.Running q = absurd cc
new_waits ph.Done q = absurd cc
new_waits ph.Failed q = absurd cc
new_waits ph.Dropped q = absurd cc

-- and only one whose run is under way, or was dropped, has a running one
running_runs : (p : Stage) → (p ≡ ph.Dropped → ⊥) → word_phase p ≡ w.Running → p ≡ ph.Running
running_runs ph.Running kept q = refl
running_runs ph.Dropped kept q = absurd (kept refl)
running_runs ph.Vacant kept q = absurd cc
running_runs ph.Waiting kept q = absurd cc
running_runs ph.Done kept q = absurd cc
running_runs ph.Failed kept q = absurd cc

-- the word of a task that is not cancelled says whether it waits, and whether it is run
waiting_told : (calls : List Planned) (s : State) (k : ℕ) → IsSound s → (s.tasks k).cancelled ≡ false → (word_phase (s.tasks k).phase ≡ w.New) ↔ (is_waiting ((view_of_state calls s).fate k) ≡ true)
waiting_told calls s k sound live =
    let task = s.tasks k in
    (λ q. waits_seen (terms_of calls k) task.phase task.run task.due task.cancelled task.kept (new_waits task.phase q) live, λ q. ap word_phase (waits_in calls s k sound q).0)

running_told : (calls : List Planned) (s : State) (k : ℕ) → IsSound s → (s.tasks k).cancelled ≡ false → (word_phase (s.tasks k).phase ≡ w.Running) ↔ (is_running ((view_of_state calls s).fate k) ≡ true)
running_told calls s k sound live =
    let task = s.tasks k in (
      λ q. runs_seen (terms_of calls k) task.phase task.run task.due task.cancelled task.kept (running_runs task.phase (λ is. false≢true (sym live ∙ sound.over k is)) q),
      λ q. ap word_phase (runs_in (terms_of calls k) task.phase task.run task.due task.cancelled task.kept q),
    )

unsubmitted : (p : Stage) → word_phase p ≡ w.Vacant → p ≡ ph.Vacant
unsubmitted ph.Vacant q = refl
unsubmitted ph.Waiting q = absurd cc
unsubmitted ph.Running q = absurd cc
unsubmitted ph.Done q = absurd cc
unsubmitted ph.Failed q = absurd cc
unsubmitted ph.Dropped q = absurd cc

-- the bit means a cancel on each word of a core
bit_means : (b c : Bool) → (c ≡ true → b ≡ true) → (b && c) ≡ c
bit_means true c live = refl
bit_means false true live = live refl
bit_means false false live = refl

-- the same, of a test that has another name
of_test : {P : Type 0} (b d c : Bool) → b ≡ d → P ↔ (b ≡ c) → P ↔ (d ≡ c)
of_test b d c same told = (λ p. sym same ∙ told.0 p, λ q. told.1 (same ∙ q))

-- the law that the words say what the history shows
pub words_tell_the_history : WordsTellTheHistory
words_tell_the_history calls workers past k m =
    let s = after calls workers (happenings past) in
    let task = s.tasks k in
    let lived = lived_after calls workers past k m in
    let agrees = after_agrees calls workers past m in
    let fate = ap (λ (v : View). v.fate k) agrees.view in
    let bit = bit_means (is_live (word_phase task.phase)) task.cancelled lived.live in
    record {
      vacant = of_test (was_submitted task.phase) (was_accepted k past) false (ap (λ (x : Fate). x.accepted) fate) (vacant_told task.phase);
      waiting = λ q. of_test (is_waiting (seen_task (terms_of calls k) task)) (is_waiting ((view_of_history calls past).fate k)) true (ap is_waiting fate) (waiting_told calls s k agrees.sound (sym bit ∙ q));
      running = λ q. of_test (is_running (seen_task (terms_of calls k) task)) (is_running ((view_of_history calls past).fate k)) true (ap is_running fate) (running_told calls s k agrees.sound (sym bit ∙ q));
      done = of_test (is_done_phase task.phase) (was_done k past) true (ap (λ (x : Fate). x.done) fate) (done_told task.phase);
      failed = of_test (is_failed_phase task.phase) (was_failed k past) true (ap (λ (x : Fate). x.failed) fate) (failed_told task.phase);
      cancelled = bit ∙ ap (λ (x : Fate). x.cancelled) fate;
      started = started_told task.phase task.run ∙ ap (λ (x : Fate). x.starts) fate;
      fresh = λ q. (lived.fresh (unsubmitted task.phase q), false_from_ne_true task.cancelled (λ c. false≢true (sym (ap is_live q) ∙ lived.live c)));
    }
