-- What one entry of a history does to an enabled task that it neither starts nor cancels, and to the tasks before it.
use Rattle.std.proofs.Common.{◌≡◌, ℕ, ◌<◌, ◌≤◌, ◌==◌, Bool, true, false, cond, inl, inr, ◌⊎◌, List, ◌∷◌, None, refl, sym, ap, ◌∙◌, arith, subst}
use Rattle.std.specs.Prelude.{◌&&◌, ◌||◌, nat_lt, nat_le, slice_get}
use Rattle.std.proofs.lemmas.Bool.{false≢true, and_parts, or_parts, eqb-true, eq-eqb, leb-true, le-leb, false_from_ne_true}
use Rattle.std.proofs.lemmas.Bool.Decides.{nat_tests}
use Rattle.sched_time.specs.declared.timing.Timing.{Timing}
use Rattle.executor_model.specs.declared.types.Kind.{Kind}
use Rattle.executor_model.specs.declared.types.Outcome.TheVariants as o
use Rattle.executor_model.specs.declared.types.Answer.{Answer}
use Rattle.executor_model.specs.declared.types.Answer.TheVariants as a
use Rattle.executor_model.specs.declared.task.Stage.TheVariants as ph
use Rattle.executor_model.specs.declared.task.Task.{Task}
use Rattle.executor_model.specs.Queues.{comes_before}
use Rattle.queue_code.specs.Calls.{Planned, IsOrderly, terms_of, due_at}
use Rattle.executor_model.specs.View.{View, is_waiting, is_enabled}
use Rattle.executor_model.specs.Answers.{Reply}
use Rattle.executor_model.specs.Histories.{HistoryEntry, IsHistoryOf, happenings, made, now_of, view_of_history, due_of, is_start, is_finish, cancels}
use Rattle.executor_model.specs.State.{State, after, view_of_state, seen_phase, due_seen, reply_of, move_task, submit_phase, end_task, due_past}
use Rattle.executor_model.specs.own.Soundness.{IsSound}
use Rattle.executor_model.proofs.Agree.{Agrees, after_agrees}
use Rattle.executor_model.proofs.Sound.{Finds, reply_finds, waits_in, enabled_in, is_seen_waiting}
use Rattle.executor_model.proofs.SoundSteps.{later}
use Rattle.executor_laws.proofs.Repeats.{again_is_due}
use Rattle.executor_laws.proofs.Armed.{comes_to_wait, said, said_ends}
use Rattle.executor_laws.proofs.NextCalls.{accepted_behind}

-- ---- the task itself

-- a task that waits stays as it is, where an answer neither starts nor finishes a run of it
unmoved : (timing : Timing) (now k : ℕ) (answer : Answer) (task : Task) → task.phase ≡ ph.Waiting → is_start k answer ≡ false → is_finish k answer ≡ false → move_task timing now k answer task ≡ task
unmoved timing now k (a.Submit j kind due) task at start finish = (λ i. cond (j == k) (submit_phase timing due (at i) task) task) ∙ by (j == k)
  where
    by : (b : Bool) → cond b task task ≡ task
    by true = refl
    by false = refl
unmoved timing now k (a.Start w j run due) task at start finish = ap (λ b. cond b (record task { phase = ph.Running }) task) start
unmoved timing now k (a.Finish w j run outcome) task at start finish = ap (λ b. cond b (end_task outcome (due_past timing task.due now) task) task) finish
unmoved timing now k answer task at start finish = refl

-- a task that waits has no run to finish
unfinished : (calls : List Planned) (s : State) (k : ℕ) (answer : Answer) → IsSound s → Finds calls s answer → (s.tasks k).phase ≡ ph.Waiting → is_finish k answer ≡ false
unfinished calls s k (a.Finish w j run outcome) sound f at =
    false_from_ne_true (j == k) (λ e. let run : ph.Running ≡ ph.Waiting = sym (sound.at_work w j f.0) ∙ (ap (λ n. (s.tasks n).phase) (eqb-true j k e) ∙ at) in absurd cc)
unfinished calls s k answer sound f at = refl

-- the due moment that is seen of a task that waits is its own
seen_due : (calls : List Planned) (s : State) (k : ℕ) → (s.tasks k).phase ≡ ph.Waiting → ((view_of_state calls s).fate k).due ≡ (s.tasks k).due
seen_due calls s k at = ap (λ p. due_seen (terms_of calls k) p (s.tasks k).due) at

seen_waiting : (calls : List Planned) (s : State) (k : ℕ) → (s.tasks k).phase ≡ ph.Waiting → (s.tasks k).cancelled ≡ false → is_waiting ((view_of_state calls s).fate k) ≡ true
seen_waiting calls s k at spared =
    let t = s.tasks k in
    (λ i. is_waiting (seen_phase (terms_of calls k) (at i) t.run t.due (spared i) t.kept)) ∙ is_seen_waiting (terms_of calls k) t.run t.due t.kept

-- it stays enabled, with its due moment
pub record StillEnabled (calls : List Planned) (past : List HistoryEntry) (e : HistoryEntry) (k : ℕ) : Type 0 where
  pub enabled : is_enabled (view_of_history calls (e ∷ past)) k ≡ true
  pub due : due_of calls (e ∷ past) k ≡ due_of calls past k

pub stays_enabled : (calls : List Planned) (workers : ℕ) (past : List HistoryEntry) (e : HistoryEntry) (k : ℕ) → IsHistoryOf calls workers (e ∷ past) →
    is_enabled (view_of_history calls past) k ≡ true → is_start k e.answer ≡ false → cancels k e.answer e.ends ≡ false → StillEnabled calls past e k
stays_enabled calls workers past e k m enabled unstarted uncancelled =
    let s = after calls workers (happenings past) in
    let s_next = after calls workers (happenings (e ∷ past)) in
    let r = reply_of calls workers s e.happening in
    let agrees = after_agrees calls workers past m.0 in
    let agrees_next = after_agrees calls workers (e ∷ past) m in
    let at = enabled_in calls s k agrees.sound (ap (λ v. is_enabled v k) agrees.view ∙ enabled) in
    let same : move_task (terms_of calls k).timing s.moment k r.answer (s.tasks k) ≡ s.tasks k =
    unmoved (terms_of calls k).timing s.moment k r.answer (s.tasks k) at.0 (ap (is_start k) (said calls workers past e m) ∙ unstarted)
    (unfinished calls s k r.answer agrees.sound (reply_finds calls workers s e.happening agrees.sound) at.0)
    in
    let waits : (s_next.tasks k).phase ≡ ph.Waiting = ap (λ (t : Task). t.phase) same ∙ at.0 in
    let spared : (s_next.tasks k).cancelled ≡ false = (λ i. cancels k (said calls workers past e m i) (said_ends calls workers past e m i) || at.1 i) ∙ (λ i. uncancelled i || false) in
    let own : ((view_of_history calls (e ∷ past)).fate k).due ≡ (s.tasks k).due = sym (ap (λ (v : View). (v.fate k).due) agrees_next.view) ∙ (seen_due calls s_next k waits ∙ ap (λ (t : Task). t.due) same) in
    let before : ((view_of_history calls past).fate k).due ≡ (s.tasks k).due = sym (ap (λ (v : View). (v.fate k).due) agrees.view) ∙ seen_due calls s k at.0 in
    let now : s.moment ≡ now_of calls (happenings past) = ap (λ (v : View). v.moment) agrees.view in
    let rises : now_of calls (happenings past) ≤ now_of calls (happenings (e ∷ past)) = later (now_of calls (happenings past)) (slice_get calls (made (happenings past))) e.happening in
    let reached : nat_le ((view_of_history calls (e ∷ past)).fate k).due (now_of calls (happenings (e ∷ past))) ≡ true = reaches ((view_of_history calls (e ∷ past)).fate k).due (s.tasks k).due s.moment (now_of calls (happenings past)) (now_of calls (happenings (e ∷ past))) own at.2 now rises in
    record {
      enabled = (λ i. (ap (λ (v : View). is_waiting (v.fate k)) (sym agrees_next.view) ∙ seen_waiting calls s_next k waits spared) i && nat_le ((view_of_history calls (e ∷ past)).fate k).due (now_of calls (happenings (e ∷ past)))) ∙ reached;
      due = own ∙ sym before;
    }
  where
    reaches : (d due moment now after : ℕ) → d ≡ due → due ≤ moment → moment ≡ now → now ≤ after → nat_le d after ≡ true
    reaches d due moment now after own le same rises = le-leb d after (omega (arith, own, le, same, rises))

-- ---- the tasks before it

-- task j waits, and comes before task k, which is due at `due`
abbrev pub in_front : View → ℕ → ℕ → ℕ → Bool
in_front v due k j = is_waiting (v.fate j) && comes_before (v.fate j).due j due k

-- an answer puts task j before it
abbrev pub brings : ℕ → ℕ → Answer → ℕ → Bool
brings due k (a.Finish worker task run (o.Again next)) j = (task == j) && comes_before next task due k
brings due k _ j = false

not_behind : (due at j k : ℕ) → due ≤ at → k < j → comes_before at j due k ≡ true → ⊥
not_behind due at j k le l q = false≢true (sym behind ∙ q)
  where
    behind : comes_before at j due k ≡ false
    behind = (λ i. first i || ((at == due) && second i)) ∙ no_and (at == due)
      where
        first : nat_lt at due ≡ false
        first = grind (arith, nat_tests, le)

        second : nat_lt j k ≡ false
        second = grind (arith, nat_tests, l)

        no_and : (b : Bool) → (b && false) ≡ false
        no_and true = refl
        no_and false = refl

-- what stands before it after an entry stood there before it and was not started, or was put there by it
pub front_before : (calls : List Planned) (workers : ℕ) (past : List HistoryEntry) (e : HistoryEntry) (k due j : ℕ) → IsOrderly calls → IsHistoryOf calls workers (e ∷ past) →
    is_enabled (view_of_history calls past) k ≡ true → due_of calls past k ≡ due → in_front (view_of_history calls (e ∷ past)) due k j ≡ true →
    ((in_front (view_of_history calls past) due k j ≡ true) × (is_start j e.answer ≡ false)) ⊎ (brings due k e.answer j ≡ true)
front_before calls workers past e k due j orderly m enabled is_due ahead_next =
    elim (comes_to_wait (terms_of calls j).timing s.moment j r.answer (s.tasks j) waits.0) [
      | inl stays ↦ inl (stood stays.same, sym (ap (is_start j) same) ∙ stays.unstarted)
      | inr (inl accepted) ↦ absurd (came accepted.kind accepted.at accepted.is accepted.due)
      | inr (inr again) ↦ inr (put again.worker again.run again.next (sym same ∙ again.is))
    ]
  where
    v : View
    v = view_of_history calls past

    v_next : View
    v_next = view_of_history calls (e ∷ past)

    s : State
    s = after calls workers (happenings past)

    s_next : State
    s_next = after calls workers (happenings (e ∷ past))

    r : Reply
    r = reply_of calls workers s e.happening

    agrees : Agrees calls s past
    agrees = after_agrees calls workers past m.0

    agrees_next : Agrees calls s_next (e ∷ past)
    agrees_next = after_agrees calls workers (e ∷ past) m

    same : r.answer ≡ e.answer
    same = said calls workers past e m

    moved : Task
    moved = move_task (terms_of calls j).timing s.moment j r.answer (s.tasks j)

    parts : (is_waiting (v_next.fate j) ≡ true) × (comes_before (v_next.fate j).due j due k ≡ true)
    parts = and_parts (is_waiting (v_next.fate j)) (comes_before (v_next.fate j).due j due k) ahead_next

    waits : ((s_next.tasks j).phase ≡ ph.Waiting) × ((s_next.tasks j).cancelled ≡ false)
    waits = waits_in calls s_next j agrees_next.sound (ap (λ (v : View). is_waiting (v.fate j)) agrees_next.view ∙ parts.0)

    own : (v_next.fate j).due ≡ moved.due
    own = sym (ap (λ (v : View). (v.fate j).due) agrees_next.view) ∙ seen_due calls s_next j waits.0

    stood : moved ≡ s.tasks j → in_front v due k j ≡ true
    stood is =
        let phase : (s.tasks j).phase ≡ ph.Waiting = ap (λ (t : Task). t.phase) (sym is) ∙ waits.0 in
        let spared : (s.tasks j).cancelled ≡ false = (or_parts (cancels j r.answer r.ends) (s.tasks j).cancelled waits.1).1 in
        let waiting : is_waiting (v.fate j) ≡ true = ap (λ (v : View). is_waiting (v.fate j)) (sym agrees.view) ∙ seen_waiting calls s j phase spared in
        let due_is : (v.fate j).due ≡ (v_next.fate j).due =
        sym (ap (λ (v : View). (v.fate j).due) agrees.view) ∙ (seen_due calls s j phase ∙ (ap (λ (t : Task). t.due) (sym is) ∙ sym own))
        in
        (λ i. waiting i && comes_before (due_is i) j due k) ∙ parts.1

    found : Finds calls s r.answer
    found = reply_finds calls workers s e.happening agrees.sound

    open_parts : (is_waiting (v.fate k) ≡ true) × (nat_le (v.fate k).due v.moment ≡ true)
    open_parts = and_parts (is_waiting (v.fate k)) (nat_le (v.fate k).due v.moment) enabled

    came : (kind : Kind) (at : ℕ) → r.answer ≡ a.Submit j kind at → moved.due ≡ at → ⊥
    came kind at is at_is =
        let first : at ≡ due_at (terms_of calls j) 0 None = subst (Finds calls s) is found in
        let behind = accepted_behind calls workers past e.happening j k at kind orderly m.0 (sym m.2 ∙ (sym same ∙ is)) first open_parts.0 in
        let reached = leb-true (v.fate k).due v.moment open_parts.1 in
        not_behind due at j k (omega (arith, behind.0, reached, is_due)) behind.1 (ap (λ d. comes_before d j due k) (sym (own ∙ at_is)) ∙ parts.1)

    put : (w run next : ℕ) → e.answer ≡ a.Finish w j run (o.Again next) → brings due k e.answer j ≡ true
    put w run next is =
        let next_is : next ≡ due_of calls (e ∷ past) j = again_is_due calls workers past e w j run next m is in
        ap (λ y. brings due k y j) is ∙ ((λ i. eq-eqb j j refl i && comes_before (next_is i) j due k) ∙ parts.1)
