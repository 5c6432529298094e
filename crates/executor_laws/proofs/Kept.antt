-- Which tasks are kept, by positions.
use Rattle.std.proofs.Common.{◌≡◌, ℕ, ◌+◌, ◌==◌, ◌&&◌, ◌||◌, ◌⊎◌, Bool, true, false, cond, inl, inr, List, [], ◌∷◌, ◌++◌, Some, refl, sym, ap, ◌∙◌, subst}
use Rattle.std.specs.Prelude.{not}
use Rattle.std.proofs.lemmas.Bool.{false≢true, not-true, and_from, and_parts, or_cases, or_left, or_right, not_from_false}
use Rattle.executor_model.specs.declared.types.Answer.{Answer}
use Rattle.executor_model.specs.declared.types.Answer.TheVariants as a
use Rattle.executor_model.specs.declared.types.Outcome.TheVariants as o
use Rattle.executor_model.specs.declared.task.Stage.TheVariants as ph
use Rattle.executor_model.specs.declared.task.Task.{Task}
use Rattle.queue_code.specs.Calls.{Planned, due_at, terms_of}
use Rattle.executor_model.specs.View.{View, is_waiting}
use Rattle.executor_model.specs.Histories.{HistoryEntry, IsHistoryOf, view_of_history, happenings, now_of, starts, last_finish, due_of, is_start, is_finish, is_cancel, is_sweep, meets, kept_after, is_kept, was_shut, policies_of}
use Rattle.executor_model.specs.State.{after}
use Rattle.executor_laws.specs.Policies.{KeptSince, KeptByPositions}
use Rattle.executor_model.proofs.Agree.{after_agrees, answers_alike}
use Rattle.executor_laws.proofs.WordAnswers.{Meets as MeetsTask, meets as meets_task}

-- what is so where a task is kept after an answer
record StaysKept (v : View) (k : ℕ) (answer : Answer) : Type 0 where
  unswept : is_sweep v.shut answer ≡ false
  by : (((v.fate k).kept ≡ true) × (meets v (v.fate k).due k answer ≡ false)) ⊎ ((is_cancel k answer ≡ true) × (is_waiting (v.fate k) ≡ true) × (v.policies.removes ≡ false))

stays_kept : (v : View) (k : ℕ) (answer : Answer) → kept_after v k answer ≡ true → StaysKept v k answer
stays_kept v k answer q =
    let met = meets v (v.fate k).due k answer in
    let rest = is_waiting (v.fate k) && not v.policies.removes in
    let parts = and_parts (not (is_sweep v.shut answer)) (((v.fate k).kept && not met) || (is_cancel k answer && rest)) q in
    record {
      unswept = not-true (is_sweep v.shut answer) parts.0;
      by = elim (or_cases ((v.fate k).kept && not met) (is_cancel k answer && rest) parts.1) [
        | inl was ↦ let both = and_parts (v.fate k).kept (not met) was in inl (both.0, not-true met both.1)
        | inr now ↦
            let both = and_parts (is_cancel k answer) rest now in
            let waits = and_parts (is_waiting (v.fate k)) (not v.policies.removes) both.1 in
            inr (both.0, waits.0, not-true v.policies.removes waits.1)
      ];
    }

-- ---- the due moment of a kept task

-- an answer does not start or finish a task that waits and is cancelled
untouched : (k : ℕ) (task : Task) (answer : Answer) → MeetsTask k task answer → task.phase ≡ ph.Waiting → task.cancelled ≡ true → (is_start k answer ≡ false) × (is_finish k answer ≡ false)
untouched k task (a.Start w j n due) met waits cancelled =
    let pick : (b : Bool) → (b ≡ true → (task.phase ≡ ph.Waiting) × (task.cancelled ≡ false)) → b ≡ false = elim [ true ↦ λ met. absurd (false≢true (sym (met refl).1 ∙ cancelled)) | false ↦ λ met. refl ] in
    (pick (j == k) met, refl)
untouched k task (a.Finish w j n outcome) met waits cancelled =
    let pick : (b : Bool) → (b ≡ true → (task.phase ≡ ph.Running) × (task.cancelled ≡ true → outcome ≡ o.Dropped)) → b ≡ false =
    elim [ true ↦ λ met. let clash : ph.Running ≡ ph.Waiting = sym (met refl).0 ∙ waits in absurd cc | false ↦ λ met. refl ]
    in
    (refl, pick (j == k) met)
untouched k task _ met waits cancelled = (refl, refl)

due_steps : (calls : List Planned) (e : HistoryEntry) (past : List HistoryEntry) (k : ℕ) → is_start k e.answer ≡ false → is_finish k e.answer ≡ false → due_of calls (e ∷ past) k ≡ due_of calls past k
due_steps calls e past k no_start no_finish =
    λ i. due_at (terms_of calls k) (cond (no_start i) (1 + starts k past) (starts k past)) (cond (no_finish i) (Some (now_of calls (happenings past))) (last_finish calls k past))

-- an answer leaves the due moment of a kept task
due_rests : (calls : List Planned) (workers : ℕ) (e : HistoryEntry) (past : List HistoryEntry) (k : ℕ) → IsHistoryOf calls workers (e ∷ past) → is_kept calls past k ≡ true → due_of calls (e ∷ past) k ≡ due_of calls past k
due_rests calls workers e past k m kept =
    let s = after calls workers (happenings past) in
    let agrees = after_agrees calls workers past m.0 in
    let held = agrees.sound.kept k (ap (λ (v : View). (v.fate k).kept) agrees.view ∙ kept) in
    let met = subst (MeetsTask k (s.tasks k)) (ap (λ r. r.answer) (answers_alike calls workers s past e.happening agrees) ∙ sym m.2) (meets_task calls workers s e.happening agrees.sound k) in
    let no = untouched k (s.tasks k) e.answer met held.0 held.1 in
    due_steps calls e past k no.0 no.1

-- a cancel starts, finishes and sweeps nothing
cancel_alone : (k : ℕ) (shut : Bool) (answer : Answer) → is_cancel k answer ≡ true → (is_start k answer ≡ false) × (is_finish k answer ≡ false) × (is_sweep shut answer ≡ false)
cancel_alone k shut (a.Cancel j effect) q = (refl, refl, refl)
cancel_alone k shut (a.Outside j effect) q = (refl, refl, refl)
cancel_alone k shut _ q = absurd (false≢true q)

-- ---- positions

-- where a task is kept, with the due moment that it has since
record Since (calls : List Planned) (past : List HistoryEntry) (k : ℕ) : Type 0 where
  since : KeptSince calls past k
  due : due_of calls past k ≡ due_of calls since.before k

abbrev Rests : List Planned → HistoryEntry → List HistoryEntry → ℕ → HistoryEntry → List HistoryEntry → Type 0
Rests calls cancel before k e between =
    (is_sweep (was_shut (between ++ cancel ∷ before)) e.answer ≡ false) × (meets (view_of_history calls (between ++ cancel ∷ before)) (due_of calls before k) k e.answer ≡ false)

longer : (calls : List Planned) (cancel e : HistoryEntry) (later before : List HistoryEntry) (k : ℕ) → Rests calls cancel before k e later →
    ((after : List HistoryEntry) (x : HistoryEntry) (between : List HistoryEntry) → later ≡ after ++ x ∷ between → Rests calls cancel before k x between) →
    (after : List HistoryEntry) (x : HistoryEntry) (between : List HistoryEntry) → e ∷ later ≡ after ++ x ∷ between → Rests calls cancel before k x between
longer calls cancel e later before k first rest [] x between q =
    let head : e ≡ x = cc in
    let tail : later ≡ between = cc in
    subst (λ x. Rests calls cancel before k x between) head (subst (λ between. Rests calls cancel before k e between) tail first)
longer calls cancel e later before k first rest (y ∷ after) x between q =
    let tail : later ≡ after ++ x ∷ between = cc in
    rest after x between tail

none_in_nil : (after between : List HistoryEntry) (e : HistoryEntry) → [] ≡ after ++ e ∷ between → ⊥
none_in_nil [] between e q = cc
none_in_nil (x ∷ after) between e q = cc

-- a task that is kept was cancelled so, and nothing met it since
kept_since : (calls : List Planned) (workers : ℕ) (past : List HistoryEntry) (k : ℕ) → IsHistoryOf calls workers past → is_kept calls past k ≡ true → Since calls past k
kept_since calls workers [] k m q = absurd (false≢true q)
kept_since calls workers (e ∷ past) k m q =
    let stays = stays_kept (view_of_history calls past) k e.answer q in
    let again = kept_since calls workers past k m.0 in
    elim stays.by [
      | inl was ↦
          let i = again was.0 in
          let s = i.since in
          record {
            since = record {
              later = e ∷ s.later;
              cancel = s.cancel;
              before = s.before;
              parts = ap (λ l. e ∷ l) s.parts;
              effective = s.effective;
              waited = s.waited;
              stays = s.stays;
              rests = longer calls s.cancel e s.later s.before k (
                subst (λ l. is_sweep (was_shut l) e.answer ≡ false) s.parts stays.unswept,
                subst (λ l. meets (view_of_history calls l) (due_of calls s.before k) k e.answer ≡ false) s.parts (sym (ap (λ d. meets (view_of_history calls past) d k e.answer) i.due) ∙ was.1),
              )
                  s.rests;
            };
            due = due_rests calls workers e past k m was.0 ∙ i.due;
          }
      | inr now ↦
          let no = cancel_alone k true e.answer now.0 in
          record {
            since = record { later = []; cancel = e; before = past; parts = refl; effective = now.0; waited = now.1; stays = now.2; rests = λ after x between q. absurd (none_in_nil after between x q) };
            due = due_steps calls e past k no.0 no.1;
          }
    ]

-- a task that was cancelled so, and was not met since, is kept
kept_from : (calls : List Planned) (workers : ℕ) (cancel : HistoryEntry) (before later : List HistoryEntry) (k : ℕ) → IsHistoryOf calls workers (later ++ cancel ∷ before) →
    is_cancel k cancel.answer ≡ true → is_waiting ((view_of_history calls before).fate k) ≡ true → (policies_of before).removes ≡ false →
    ((after : List HistoryEntry) (x : HistoryEntry) (between : List HistoryEntry) → later ≡ after ++ x ∷ between → Rests calls cancel before k x between) →
    (is_kept calls (later ++ cancel ∷ before) k ≡ true) × (due_of calls (later ++ cancel ∷ before) k ≡ due_of calls before k)
kept_from calls workers cancel before [] k m effective waited stays rests =
    let no = cancel_alone k (was_shut before) cancel.answer effective in
    let v = view_of_history calls before in (
      and_from (not (is_sweep v.shut cancel.answer)) _ (not_from_false _ no.2)
          (or_right ((v.fate k).kept && not (meets v (v.fate k).due k cancel.answer)) _ (and_from (is_cancel k cancel.answer) _ effective (and_from (is_waiting (v.fate k)) _ waited (not_from_false v.policies.removes stays)))),
      due_steps calls cancel before k no.0 no.1,
    )
kept_from calls workers cancel before (e ∷ later) k m effective waited stays rests =
    let past = later ++ cancel ∷ before in
    let i = kept_from calls workers cancel before later k m.0 effective waited stays (λ after x between q. rests (e ∷ after) x between (ap (λ l. e ∷ l) q)) in
    let r = rests [] e later refl in
    let v = view_of_history calls past in (
      and_from (not (is_sweep v.shut e.answer)) _ (not_from_false _ r.0)
          (or_left _ (is_cancel k e.answer && (is_waiting (v.fate k) && not v.policies.removes)) (and_from (v.fate k).kept _ i.0 (not_from_false (meets v (v.fate k).due k e.answer) (ap (λ d. meets v d k e.answer) i.1 ∙ r.1)))),
      due_rests calls workers e past k m i.0 ∙ i.1,
    )

-- the law on the tasks that are kept
pub kept_by_positions : KeptByPositions
kept_by_positions calls workers past k m = (
  λ q. (kept_since calls workers past k m q).since,
  λ s. subst (λ l. is_kept calls l k ≡ true) (sym s.parts) (kept_from calls workers s.cancel s.before s.later k (subst (λ l. IsHistoryOf calls workers l) s.parts m) s.effective s.waited s.stays s.rests).0,
)
