-- How a task comes to wait, and what stands in line.
use Rattle.std.proofs.Common.{◌≡◌, ℕ, ◌==◌, Bool, true, false, cond, inl, inr, ◌⊎◌, List, [], ◌∷◌, ◌++◌, refl, sym, ap, ◌∙◌}
use Rattle.std.specs.Prelude.{◌||◌}
use Rattle.std.specs.List.{list_any}
use Rattle.std.proofs.lemmas.Bool.{eqb-true, eq-eqb}
use Rattle.sched_time.specs.declared.timing.Timing.{Timing}
use Rattle.executor_model.specs.declared.types.Kind.{Kind}
use Rattle.executor_model.specs.declared.types.Outcome.{Outcome}
use Rattle.executor_model.specs.declared.types.Outcome.TheVariants as o
use Rattle.executor_model.specs.declared.types.Answer.{Answer}
use Rattle.executor_model.specs.declared.types.Answer.TheVariants as a
use Rattle.executor_model.specs.declared.task.Stage.{Stage}
use Rattle.executor_model.specs.declared.task.Stage.TheVariants as ph
use Rattle.executor_model.specs.declared.task.Task.{Task}
use Rattle.queue_code.specs.Calls.{Planned, terms_of}
use Rattle.executor_model.specs.Answers.{Reply}
use Rattle.executor_model.specs.Histories.{HistoryEntry, IsHistoryOf, happenings, is_start}
use Rattle.executor_model.specs.State.{after, reply_of, move_task, submit_phase, end_task, due_past}
use Rattle.executor_model.proofs.Agree.{after_agrees, answers_alike}
use Rattle.executor_laws.specs.Turns.{arms}

-- ---- one answer

-- a task stays as it is, and is not started
pub record Stays (k : ℕ) (answer : Answer) (before after : Task) : Type 0 where
  pub same : after ≡ before
  pub unstarted : is_start k answer ≡ false

-- a vacant task is accepted, and due when the answer says
pub record IsAccepted (k : ℕ) (answer : Answer) (before after : Task) : Type 0 where
  pub kind : Kind
  pub at : ℕ
  pub is : answer ≡ a.Submit k kind at
  pub vacant : before.phase ≡ ph.Vacant
  pub due : after.due ≡ at

-- a run of a task is finished after which it runs again
pub record RunsAgain (k : ℕ) (answer : Answer) : Type 0 where
  pub worker : ℕ
  pub run : ℕ
  pub next : ℕ
  pub is : answer ≡ a.Finish worker k run (o.Again next)

-- how a task comes to wait
abbrev pub Waits : ℕ → Answer → Task → Task → Type 0
Waits k answer before after = Stays k answer before after ⊎ (IsAccepted k answer before after ⊎ RunsAgain k answer)

submitted : (timing : Timing) (j k due : ℕ) (kind : Kind) (before : Task) (b : Bool) → (j == k) ≡ b → (cond b (submit_phase timing due before.phase before) before).phase ≡ ph.Waiting →
    Waits k (a.Submit j kind due) before (cond b (submit_phase timing due before.phase before) before)
submitted timing j k due kind before false is q = inl (record { same = refl; unstarted = refl })
submitted timing j k due kind before true is q = by before.phase refl
  where
    by : (p : Stage) → before.phase ≡ p → Waits k (a.Submit j kind due) before (submit_phase timing due p before)
    by ph.Vacant at = inr (inl (record { kind = kind; at = due; is = ap (λ n. a.Submit n kind due) (eqb-true j k is); vacant = at; due = refl }))
    by ph.Waiting at = inl (record { same = refl; unstarted = refl })
    by ph.Running at = inl (record { same = refl; unstarted = refl })
    by ph.Done at = inl (record { same = refl; unstarted = refl })
    by ph.Failed at = inl (record { same = refl; unstarted = refl })
    by ph.Dropped at = inl (record { same = refl; unstarted = refl })

finished : (w j k run due : ℕ) (outcome : Outcome) (before : Task) → (j == k) ≡ true → (end_task outcome due before).phase ≡ ph.Waiting → RunsAgain k (a.Finish w j run outcome)
finished w j k run due (o.Done value) before is q = absurd cc
finished w j k run due (o.Failed code) before is q = absurd cc
finished w j k run due o.Dropped before is q = absurd cc
finished w j k run due o.Ended before is q = absurd cc
finished w j k run due (o.Again next) before is q = record { worker = w; run = run; next = next; is = ap (λ n. a.Finish w n run (o.Again next)) (eqb-true j k is) }

-- a task that waits after an answer waited before, or was accepted by it, or runs again by it
pub comes_to_wait : (timing : Timing) (now k : ℕ) (answer : Answer) (before : Task) → (move_task timing now k answer before).phase ≡ ph.Waiting → Waits k answer before (move_task timing now k answer before)
comes_to_wait timing now k (a.Submit j kind due) before q = submitted timing j k due kind before (j == k) refl q
comes_to_wait timing now k (a.Start w j run due) before q = by (j == k) refl q
  where
    by : (b : Bool) → (j == k) ≡ b → (cond b (record before { phase = ph.Running }) before).phase ≡ ph.Waiting → Waits k (a.Start w j run due) before (cond b (record before { phase = ph.Running }) before)
    by true is q = absurd cc
    by false is q = inl (record { same = refl; unstarted = is })
comes_to_wait timing now k (a.Finish w j run outcome) before q = by (j == k) refl q
  where
    ended : Task
    ended = end_task outcome (due_past timing before.due now) before

    by : (b : Bool) → (j == k) ≡ b → (cond b ended before).phase ≡ ph.Waiting → Waits k (a.Finish w j run outcome) before (cond b ended before)
    by true is q = inr (inr (finished w j k run (due_past timing before.due now) outcome before is q))
    by false is q = inl (record { same = refl; unstarted = refl })
comes_to_wait timing now k answer before q = inl (record { same = refl; unstarted = refl })

-- ---- a history

-- task k was armed at a position, and not started since
pub record ArmedLast (past : List HistoryEntry) (k : ℕ) : Type 0 where
  pub later : List HistoryEntry
  pub e : HistoryEntry
  pub before : List HistoryEntry
  pub parts : past ≡ later ++ e ∷ before
  pub arms : arms k e.answer ≡ true
  pub unstarted : list_any (λ f. is_start k f.answer) later ≡ false

armed_here : (e : HistoryEntry) (past : List HistoryEntry) (k : ℕ) → arms k e.answer ≡ true → ArmedLast (e ∷ past) k
armed_here e past k q = record { later = []; e = e; before = past; parts = refl; arms = q; unstarted = refl }

armed_behind : (e : HistoryEntry) (past : List HistoryEntry) (k : ℕ) → is_start k e.answer ≡ false → ArmedLast past k → ArmedLast (e ∷ past) k
armed_behind e past k q armed = record {
  later = e ∷ armed.later;
  e = armed.e;
  before = armed.before;
  parts = ap (λ l. e ∷ l) armed.parts;
  arms = armed.arms;
  unstarted = (λ i. q i || list_any (λ f. is_start k f.answer) armed.later) ∙ armed.unstarted;
}

-- the answer of an entry is that of the state before it
pub said : (calls : List Planned) (workers : ℕ) (past : List HistoryEntry) (e : HistoryEntry) → IsHistoryOf calls workers (e ∷ past) → (reply_of calls workers (after calls workers (happenings past)) e.happening).answer ≡ e.answer
said calls workers past e m = ap (λ (r : Reply). r.answer) (answers_alike calls workers (after calls workers (happenings past)) past e.happening (after_agrees calls workers past m.0)) ∙ sym m.2

pub said_ends : (calls : List Planned) (workers : ℕ) (past : List HistoryEntry) (e : HistoryEntry) → IsHistoryOf calls workers (e ∷ past) → (reply_of calls workers (after calls workers (happenings past)) e.happening).ends ≡ e.ends
said_ends calls workers past e m = ap (λ (r : Reply). r.ends) (answers_alike calls workers (after calls workers (happenings past)) past e.happening (after_agrees calls workers past m.0)) ∙ sym m.3

-- a task that waits was armed, and not started since
pub waits_armed : (calls : List Planned) (workers : ℕ) (past : List HistoryEntry) (k : ℕ) → IsHistoryOf calls workers past → ((after calls workers (happenings past)).tasks k).phase ≡ ph.Waiting → ArmedLast past k
waits_armed calls workers [] k m q = absurd cc
waits_armed calls workers (e ∷ past) k m q =
    let s = after calls workers (happenings past) in
    let r = reply_of calls workers s e.happening in
    let same = said calls workers past e m in
    elim (comes_to_wait (terms_of calls k).timing s.moment k r.answer (s.tasks k) q) [
      | inl stays ↦ armed_behind e past k (ap (is_start k) (sym same) ∙ stays.unstarted) (waits_armed calls workers past k m.0 (ap (λ (t : Task). t.phase) (sym stays.same) ∙ q))
      | inr (inl accepted) ↦ armed_here e past k (ap (arms k) (sym same ∙ accepted.is) ∙ eq-eqb k k refl)
      | inr (inr again) ↦ armed_here e past k (ap (arms k) (sym same ∙ again.is) ∙ eq-eqb k k refl)
    ]
