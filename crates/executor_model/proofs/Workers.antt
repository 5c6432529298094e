-- What a start without work, and a finish, are answered.
use Rattle.std.proofs.Common.{◌≡◌, ℕ, ◌+◌, ◌-◌, ◌<◌, cond, List, Option, Some, refl, sym, ap, ◌∙◌, arith}
use Rattle.std.proofs.lemmas.Bool.{lt-ltb}
use Rattle.sched_time.specs.declared.timing.Timing.{Timing}
use Rattle.sched_time.specs.declared.timing.Timing.TheVariants as t
use Rattle.executor_model.specs.declared.types.EventError.TheVariants as x
use Rattle.executor_model.specs.declared.types.Happening.TheVariants as h
use Rattle.executor_model.specs.declared.types.Outcome.{Outcome}
use Rattle.executor_model.specs.declared.types.Answer.TheVariants as a
use Rattle.executor_model.specs.declared.task.Stage.TheVariants as ph
use Rattle.sched_time.specs.declared.timing.Ending.{Ending}
use Rattle.queue_code.specs.Calls.{Planned, terms_of, due_at}
use Rattle.executor_model.specs.Answers.{bare, finish_answer, outcome_in, due_next, stops_periodic}
use Rattle.executor_model.specs.State.{State, view_of_state, seen_phase, due_seen, due_ahead, due_past, reply_of}
use Rattle.executor_model.specs.own.Soundness.{IsDue}
use Rattle.executor_model.proofs.Moves.{due_landed, past_is_landed}

finish_reply : (calls : List Planned) (workers w : ℕ) (ending : Ending) (s : State) (work : Option ℕ) → w < workers → s.workers w ≡ work →
    reply_of calls workers s (h.Finish w ending) ≡ bare (finish_answer calls (view_of_state calls s) w ending work)
finish_reply calls workers w ending s work l e =
    ap (λ b. bare (cond b (finish_answer calls (view_of_state calls s) w ending (s.workers w)) (a.Error x.NoWorker))) (lt-ltb w workers l)
    ∙ ap (λ x. bare (finish_answer calls (view_of_state calls s) w ending x)) e

-- the due moment of the run that would come after a finish is the one that the finish leaves
landing : (timing : Timing) (first n now : ℕ) (last : Option ℕ) →
    due_at (record { timing = timing; first = first }) n (Some now) ≡ due_landed timing (due_at (record { timing = timing; first = first }) n last) now
landing t.Once first n now last = refl
landing (t.Rate period) first n now last = refl
landing (t.Fixed delay) first n now last = refl

next_is_past : (calls : List Planned) (s : State) (k : ℕ) → (s.tasks k).phase ≡ ph.Running → IsDue calls (view_of_state calls s) →
    due_next calls (view_of_state calls s) k ≡ due_past (terms_of calls k).timing (s.tasks k).due s.moment
next_is_past calls s k busy due =
    let terms = terms_of calls k in
    let t = s.tasks k in
    let v = view_of_state calls s in
    let ahead : (v.fate k).due ≡ due_ahead terms.timing t.due = ap (λ p. due_seen terms p t.due) busy in
    landing terms.timing terms.first (v.fate k).starts s.moment (due k).0
    ∙ (ap (λ d. due_landed terms.timing d s.moment) (sym (due k).1 ∙ ahead) ∙ sym (past_is_landed terms.timing t.due s.moment))

-- the reply to a finish of a worker that works
pub task_finishes : (calls : List Planned) (workers w k : ℕ) (ending : Ending) (outcome : Outcome) (s : State) → w < workers → s.workers w ≡ Some k → (s.tasks k).phase ≡ ph.Running →
    IsDue calls (view_of_state calls s) → outcome ≡ outcome_in (s.tasks k).cancelled (stops_periodic s.shut s.stopped s.policies) (terms_of calls k).timing (due_past (terms_of calls k).timing (s.tasks k).due s.moment) ending →
    reply_of calls workers s (h.Finish w ending) ≡ bare (a.Finish w k (s.tasks k).run outcome)
task_finishes calls workers w k ending outcome s l e busy due is =
    let t = s.tasks k in
    let terms = terms_of calls k in
    let next = ap (λ d. outcome_in t.cancelled (stops_periodic s.shut s.stopped s.policies) terms.timing d ending) (next_is_past calls s k busy due) in
    finish_reply calls workers w ending s (Some k) l e
    ∙ (ap (λ x. bare (a.Finish w k (((view_of_state calls s).fate k).starts - 1) x)) (next ∙ sym is)
    ∙ (ap (λ p. bare (a.Finish w k ((seen_phase terms p t.run t.due t.cancelled t.kept).starts - 1) outcome)) busy
    ∙ ap (λ n. bare (a.Finish w k n outcome)) (less t.run)))
  where
    less : (n : ℕ) → 1 + n - 1 ≡ n
    less n = omega arith
