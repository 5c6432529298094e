-- The steps of a submission: of one that is accepted, and of one that is refused.
use Rattle.std.proofs.Common.{◌≡◌, ℕ, ◌+◌, ◌<◌, ◌≤◌, ◌==◌, true, false, cond, List, length, None, refl, ap, ◌∙◌, arith}
use Rattle.std.proofs.lemmas.Bool.{eq-eqb}
use Rattle.sched_time.specs.declared.timing.Timing.{Timing}
use Rattle.sched_time.specs.declared.timing.Timing.TheVariants as t
use Rattle.queue_code.specs.declared.call.CodeCall.TheVariants as c
use Rattle.executor_model.specs.declared.types.Refusal.TheVariants as refusal
use Rattle.executor_model.specs.declared.types.Kind.{Kind}
use Rattle.executor_model.specs.declared.types.Answer.TheVariants as a
use Rattle.executor_model.specs.declared.types.Happening.TheVariants as h
use Rattle.executor_model.specs.declared.task.Task.{Task}
use Rattle.queue_code.specs.Calls.{Planned, Terms, terms_of, due_at}
use Rattle.executor_model.specs.Answers.{bare, called, kind_of}
use Rattle.executor_model.specs.Histories.{HistoryEntry, happenings}
use Rattle.executor_model.specs.State.{State, vacant, after, view_of_state, task_after, submit_phase}
use Rattle.executor_model.proofs.Called.{view_at}
use Rattle.executor_model.proofs.Keeping.{kept_stays}
use Rattle.executor_model.proofs.Tables.{submission}
use Rattle.task_table.specs.Seats.{task_in, slot_of, IsNew}
use Rattle.task_table.specs.Tables.{TableView, workers_of, Stands, Takes, IsNextCall, CallSteps}
use Rattle.task_table.specs.Changes.{put, submitted, at_moment, admitted}
use Rattle.task_table.specs.Formed.{IsFormed}
use Rattle.task_table.proofs.Written.{ChangesOne}
use Rattle.task_table.proofs.Standing.{Known}
use Rattle.task_table.proofs.Knowing.{known}
use Rattle.task_table.proofs.Shown.{next_there, takes_call, same_shown, later_shown, new_shown}

-- the due moment of a first run
due_first : (terms : Terms) (timing : Timing) (first : ℕ) → terms ≡ record { timing = timing; first = first } → due_at terms 0 None ≡ first
due_first terms timing first e = ap (λ x. due_at x 0 None) e ∙ by timing
  where
    by : (timing : Timing) → due_at (record { timing = timing; first = first }) 0 None ≡ first
    by timing = elim timing as (λ timing. due_at (record { timing = timing; first = first }) 0 None ≡ first) [ t.Once ↦ refl | t.Rate period ↦ omega arith | t.Fixed delay ↦ refl ]

-- the reply to a submission where the executor is not shut
open_said : (calls : List Planned) (s : State) (at number delay : ℕ) (timing : Timing) → s.shut ≡ false → terms_of calls number ≡ record { timing = timing; first = at + delay } →
    called calls (view_at calls s at) (c.Submit number timing delay) ≡ bare (a.Submit number (kind_of timing) (at + delay))
open_said calls s at number delay timing opened terms = λ i.
    bare (cond (opened i) (a.Refuse number refusal.Rejected) (a.Submit number (kind_of timing) (due_first (terms_of calls number) timing (at + delay) terms i)))

-- a task that a submission does not name
stays_submit : (calls : List Planned) (s : State) (number due k : ℕ) (kind : Kind) → (number == k) ≡ false → task_after calls s (bare (a.Submit number kind due)) k ≡ s.tasks k
stays_submit calls s number due k kind apart = λ i. record (cond (apart i) (submit_phase (terms_of calls k).timing due (s.tasks k).phase (s.tasks k)) (s.tasks k)) {
  cancelled = (s.tasks k).cancelled;
  kept = kept_stays (view_of_state calls s) k (a.Submit number kind due) refl refl refl i;
}

-- the task that it names
submit_here : (calls : List Planned) (s : State) (number due : ℕ) (timing : Timing) (kind : Kind) → (terms_of calls number).timing ≡ timing → s.tasks number ≡ vacant →
    task_after calls s (bare (a.Submit number kind due)) number ≡ task_in (submitted number timing due)
submit_here calls s number due timing kind timed fresh =
    let kept = kept_stays (view_of_state calls s) number (a.Submit number kind due) refl refl refl ∙ ap (λ (x : Task). x.kept) fresh in
    λ i. record (cond (eq-eqb number number refl i) (submit_phase (timed i) due (fresh i).phase (fresh i)) (fresh i)) { cancelled = (fresh i).cancelled; kept = kept i }

-- a submission that is accepted, where what is known of the state is given
admit_known : (m : TableView) (slot number at delay : ℕ) (timing : Timing) → m.shut ≡ false → slot < length m.slots → slot_of m.slots slot ≡ None → IsNew m.slots number → m.moment ≤ at →
    (calls : List Planned) (past : List HistoryEntry) → Stands m calls past → Known calls (after calls (workers_of m) (happenings past)) → IsNextCall calls past (at, c.Submit number timing delay) →
    Takes (admitted m slot number at timing delay) calls past h.Call (bare (a.Submit number (kind_of timing) (at + delay)))
admit_known m slot number at delay timing opened low empty new ahead calls past stands knows is =
    let s = after calls (workers_of m) (happenings past) in
    let there = next_there calls (workers_of m) past (at, c.Submit number timing delay) stands.means is in
    let sub = submission calls 0 0 s.made at number timing delay stands.orderly there in
    let kind = kind_of timing in
    let due = at + delay in
    let fresh : s.tasks number ≡ vacant = knows.fresh number (omega (arith, sub.number)) in
    let tasks = λ (k : ℕ). task_after calls s (bare (a.Submit number kind due)) k in
    let one : ChangesOne number s.tasks tasks = λ k apart. stays_submit calls s number due k kind apart in
    let here : tasks number ≡ task_in (submitted number timing due) = submit_here calls s number due timing kind (ap (λ (x : Terms). x.timing) sub.terms) fresh in
    let after_it = new_shown m slot (submitted number timing due) s tasks low empty new stands.shows one here in
    takes_call m (admitted m slot number at timing delay) calls past at (c.Submit number timing delay) (a.Submit number kind due) stands is refl
    (open_said calls s at number delay timing (stands.shows.shut ∙ opened) sub.terms) (later_shown (put m slot (submitted number timing due)) (record s { tasks = tasks }) (1 + s.made) at ahead after_it)

-- a submission that is refused, where the executor is shut
pub refuse_steps : (m : TableView) (number at delay : ℕ) (timing : Timing) → m.shut ≡ true → m.moment ≤ at →
    CallSteps m (at_moment m at) (at, c.Submit number timing delay) (bare (a.Refuse number refusal.Rejected))
refuse_steps m number at delay timing shut ahead calls past stands is =
    let s = after calls (workers_of m) (happenings past) in
    let answer = a.Refuse number refusal.Rejected in
    let tasks = λ (k : ℕ). task_after calls s (bare answer) k in
    let same : (k : ℕ) → tasks k ≡ s.tasks k = λ k. λ i. record (s.tasks k) { kept = kept_stays (view_of_state calls s) k answer refl refl refl i } in
    let said : called calls (view_at calls s at) (c.Submit number timing delay) ≡ bare answer =
    ap (λ b. bare (cond b (a.Refuse number refusal.Rejected) (a.Submit number (kind_of timing) (due_at (terms_of calls number) 0 None)))) (stands.shows.shut ∙ shut)
    in
    takes_call m (at_moment m at) calls past at (c.Submit number timing delay) answer stands is refl said
    (later_shown m (record s { tasks = tasks }) (1 + s.made) at ahead (same_shown m s tasks stands.shows same))

-- a submission that is accepted
pub admit_steps : (m : TableView) (slot number at delay : ℕ) (timing : Timing) → IsFormed m → m.shut ≡ false → slot < length m.slots → slot_of m.slots slot ≡ None → IsNew m.slots number → m.moment ≤ at →
    CallSteps m (admitted m slot number at timing delay) (at, c.Submit number timing delay) (bare (a.Submit number (kind_of timing) (at + delay)))
admit_steps m slot number at delay timing formed opened low empty new ahead calls past stands is =
    admit_known m slot number at delay timing opened low empty new ahead calls past stands (known calls (workers_of m) past stands.orderly stands.means) is

-- a submission whose period or fixed delay is none is refused
pub illegal_steps : (m : TableView) (number at : ℕ) → m.moment ≤ at → CallSteps m (at_moment m at) (at, c.Illegal number) (bare (a.Refuse number refusal.Illegal))
illegal_steps m number at ahead calls past stands is =
    let s = after calls (workers_of m) (happenings past) in
    let answer = a.Refuse number refusal.Illegal in
    let tasks = λ (k : ℕ). task_after calls s (bare answer) k in
    let same : (k : ℕ) → tasks k ≡ s.tasks k = λ k. λ i. record (s.tasks k) { kept = kept_stays (view_of_state calls s) k answer refl refl refl i } in
    takes_call m (at_moment m at) calls past at (c.Illegal number) answer stands is refl refl (later_shown m (record s { tasks = tasks }) (1 + s.made) at ahead (same_shown m s tasks stands.shows same))
