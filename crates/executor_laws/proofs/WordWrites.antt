-- What is known of the tasks before a step, and that its need names writes that the step makes.
use Rattle.std.proofs.Common.{◌≡◌, ℕ, ◌+◌, ◌<◌, ◌==◌, ◌&&◌, ◌||◌, Bool, true, false, cond, List, [], ◌∷◌, map, refl, sym, ap, ◌∙◌, arith}
use Rattle.std.specs.List.{All}
use Rattle.std.proofs.lemmas.Bool.{false_from_ne_true, eq-eqb, or_left, or_right}
use Rattle.std.proofs.lemmas.List.Elements.{All-nil, All-cons, All-map}
use Rattle.task_word.specs.Words.{Parts, marked, is_live, is_cancelled}
use Rattle.task_word.specs.Writes.{Kind, submit, start, done, fail, rearm, core_cancel, unmarked as plain_word, ChangesWord, sets_bit}
use Rattle.task_word.specs.declared.phases.Phase.{Phase as WordPhase}
use Rattle.task_word.specs.declared.phases.Phase.TheVariants as w
use Rattle.queue_code.specs.Calls.{Planned, task_count, terms_of}
use Rattle.executor_model.specs.declared.task.Stage.{Stage}
use Rattle.executor_model.specs.declared.task.Stage.TheVariants as ph
use Rattle.executor_model.specs.declared.task.Task.{Task}
use Rattle.executor_model.specs.declared.types.CancelEffect.{CancelEffect}
use Rattle.executor_model.specs.declared.types.CancelEffect.TheVariants as f
use Rattle.executor_model.specs.declared.types.Outcome.{Outcome}
use Rattle.executor_model.specs.declared.types.Outcome.TheVariants as o
use Rattle.executor_model.specs.declared.types.Kind.{Kind as TaskKind}
use Rattle.executor_model.specs.declared.types.Answer.{Answer}
use Rattle.executor_model.specs.declared.types.Answer.TheVariants as a
use Rattle.executor_model.specs.declared.types.Need.TheVariants as n
use Rattle.executor_model.specs.Answers.{setting_sweeps, effect_on}
use Rattle.executor_model.specs.Histories.{is_submit, had_effect, is_end}
use Rattle.executor_model.specs.State.{State, seen_task, was_submitted, task_after, submit_phase, finish_task}
use Rattle.executor_model.specs.Tasks.{word_of_task, word_phase}
use Rattle.executor_model.specs.Needs.{need_of_answer, need_of_cancel, need_of_finish}
use Rattle.executor_model.proofs.Effects.{live_is_uncancelled}
use Rattle.executor_laws.specs.NeedWrites.{writes_of, IsWritten}
use Rattle.executor_laws.proofs.WordAnswers.{Meets, Says, says}

-- ---- words

-- the word of a task with this mark
abbrev pub word_with : Bool → Task → Parts
word_with b t = record { phase = word_phase t.phase; run = t.run; marked = b }

-- that of a task in this phase which is not cancelled
plain_in : (t : Task) (p : Stage) → t.phase ≡ p → t.cancelled ≡ false → word_of_task t ≡ plain_word (word_phase p) t.run
plain_in t p is live = λ i. record { phase = word_phase (is i); run = t.run; marked = live i }

same_eqb : (k : ℕ) → (k == k) ≡ true
same_eqb k = eq-eqb k k refl

-- false behind an `and` is false
pub and_none : (b : Bool) → (b && false) ≡ false
and_none true = refl
and_none false = refl

-- a word without the bit is not cancelled
plain_lives : (w : Parts) (p : WordPhase) (m : ℕ) → w ≡ plain_word p m → is_cancelled w ≡ false
plain_lives w p m e = ap is_cancelled e ∙ and_none (is_live p)

-- ---- what is known of the tasks before a step with this answer, which ends these

-- the word of task k after it
abbrev pub word_next : List Planned → State → Answer → List ℕ → ℕ → Parts
word_next calls s answer ends k = word_of_task (task_after calls s (record { answer = answer; ends = ends }) k)

-- what is known
pub record Knows (calls : List Planned) (s : State) (answer : Answer) (ends : List ℕ) : Type 0 where
  pub says : Says calls s answer
  pub meets : (k : ℕ) → Meets k (s.tasks k) answer
  pub submits : (k : ℕ) → is_submit k answer ≡ true → ((s.tasks k).phase ≡ ph.Vacant) × (k < task_count calls)
  pub ended : (k : ℕ) → is_end k ends ≡ true → ((s.tasks k).phase ≡ ph.Waiting) × ((s.tasks k).cancelled ≡ false) × (need_of_answer s.shut answer ≡ n.Sweep)
  pub fresh : (k : ℕ) → (s.tasks k).phase ≡ ph.Vacant → (s.tasks k).cancelled ≡ false
  pub tasks : (k : ℕ) → was_submitted (s.tasks k).phase ≡ true → k < task_count calls

-- a task is ended by a sweep alone
unswept : (calls : List Planned) (s : State) (answer : Answer) (ends : List ℕ) (k : ℕ) → Knows calls s answer ends → (need_of_answer s.shut answer ≡ n.Sweep → ⊥) → is_end k ends ≡ false
unswept calls s answer ends k knows apart = false_from_ne_true (is_end k ends) (λ q. apart (knows.ended k q).2)

-- ---- the writes that are named

abbrev Written : List Planned → State → Answer → List ℕ → ℕ × Kind → Type 0
Written calls s answer ends x = IsWritten calls x.0 x.1 (word_of_task (s.tasks x.0)) (word_next calls s answer ends x.0)

-- one write alone
one : (P : ℕ × Kind → Type 0) (x : ℕ × Kind) → P x → All P (x ∷ [])
one P x p = All-cons P x [] p (All-nil P)

-- one of each task that is ended
of_ends : (P : ℕ → Type 0) (ends : List ℕ) → ((k : ℕ) → is_end k ends ≡ true → P k) → All P ends
of_ends P [] each = All-nil P
of_ends P (k ∷ ends) each = All-cons P k ends (each k (or_left (k == k) (is_end k ends) (same_eqb k))) (of_ends P ends (λ j q. each j (or_right (k == j) (is_end j ends) q)))

-- a write that is no cancel, of a task that is not cancelled
exchange : (calls : List Planned) (s : State) (answer : Answer) (ends : List ℕ) (j : ℕ) (kind : Kind) (p : Stage) (r : WordPhase) (m : ℕ) → sets_bit kind ≡ false → j < task_count calls → (s.tasks j).phase ≡ p →
    (s.tasks j).cancelled ≡ false → word_next calls s answer ends j ≡ plain_word r m → ChangesWord kind (word_of_task (s.tasks j)) (word_next calls s answer ends j) → All (Written calls s answer ends) ((j, kind) ∷ [])
exchange calls s answer ends j kind p r m other low is live goes writes =
    let t = s.tasks j in
    one (Written calls s answer ends) (j, kind) (low, writes, plain_lives (word_of_task t) (word_phase p) t.run (plain_in t p is live), plain_lives (word_next calls s answer ends j) r m goes ∙ sym other)

-- a cancel of a task that waits or is run, and is not cancelled
cancel : (calls : List Planned) (s : State) (answer : Answer) (ends : List ℕ) (j : ℕ) → j < task_count calls → is_live (word_phase (s.tasks j).phase) ≡ true → (s.tasks j).cancelled ≡ false →
    word_next calls s answer ends j ≡ marked (word_of_task (s.tasks j)) → Written calls s answer ends (j, core_cancel)
cancel calls s answer ends j low alive live is =
    let alive_phase = is_live (word_phase (s.tasks j).phase) in
    (low, is, ap (λ b. alive_phase && b) live ∙ and_none alive_phase, ap is_cancelled is ∙ ap (λ b. b && true) alive)

-- a submission
submit_written : (calls : List Planned) (s : State) (ends : List ℕ) (j due : ℕ) (kind : TaskKind) → Knows calls s (a.Submit j kind due) ends → All (Written calls s (a.Submit j kind due) ends) ((j, submit) ∷ [])
submit_written calls s ends j due kind knows =
    let t = s.tasks j in
    let same = same_eqb j in
    let found = knows.submits j same in
    let live = knows.fresh j found.0 in
    let none = unswept calls s (a.Submit j kind due) ends j knows (λ q. cc) in
    let timing = (terms_of calls j).timing in
    let goes : word_next calls s (a.Submit j kind due) ends j ≡ plain_word w.New 0 =
    λ i. word_with ((false || (none i || false)) || live i) (cond (same i) (submit_phase timing due (found.0 i) t) t)
    in
    exchange calls s (a.Submit j kind due) ends j submit ph.Vacant w.New 0 refl found.1 found.0 live goes (ap word_phase found.0, goes)

-- a start
start_written : (calls : List Planned) (s : State) (ends : List ℕ) (v j run due : ℕ) → Knows calls s (a.Start v j run due) ends → All (Written calls s (a.Start v j run due) ends) ((j, start) ∷ [])
start_written calls s ends v j run due knows =
    let t = s.tasks j in
    let same = same_eqb j in
    let found = knows.meets j same in
    let none = unswept calls s (a.Start v j run due) ends j knows (λ q. cc) in
    let goes : word_next calls s (a.Start v j run due) ends j ≡ plain_word w.Running t.run =
    λ i. word_with ((false || (none i || false)) || found.1 i) (cond (same i) (record t { phase = ph.Running }) t)
    in
    exchange calls s (a.Start v j run due) ends j start ph.Waiting w.Running t.run refl (knows.tasks j (ap was_submitted found.0)) found.0 found.1 goes (t.run, plain_in t ph.Waiting found.0 found.1, goes)

-- the word of task j after a cancel of it that has an effect
cancelled_word : (ends : List ℕ) (j : ℕ) (effect : CancelEffect) (t : Task) → effect ≡ f.Yes → word_with ((((j == j) && had_effect effect) || (is_end j ends || false)) || t.cancelled) t ≡ marked (word_of_task t)
cancelled_word ends j effect t has =
    let same = same_eqb j in
    λ i. word_with (((same i && had_effect (has i)) || (is_end j ends || false)) || t.cancelled) t

-- a cancel, from the plan or from outside, with this effect
cancel_written : (calls : List Planned) (s : State) (answer : Answer) (ends : List ℕ) (j : ℕ) (effect : CancelEffect) → Knows calls s answer ends → effect ≡ effect_on (seen_task (terms_of calls j) (s.tasks j)) →
    (effect ≡ f.Yes → is_live (word_phase (s.tasks j).phase) ≡ true) → (effect ≡ f.Yes → word_next calls s answer ends j ≡ marked (word_of_task (s.tasks j))) → All (Written calls s answer ends) (writes_of (need_of_cancel j effect) ends)
cancel_written calls s answer ends j f.Yes knows says alive goes =
    let t = s.tasks j in
    let accepted : (b : Bool) (rest : CancelEffect) → f.Yes ≡ cond b rest f.Absent → b ≡ true = elim [ true ↦ λ rest q. refl | false ↦ λ rest q. absurd cc ] in
    one (Written calls s answer ends) (j, core_cancel)
    (cancel calls s answer ends j (knows.tasks j (accepted (was_submitted t.phase) _ says)) (alive refl) (live_is_uncancelled (terms_of calls j) t says) (goes refl))
cancel_written calls s answer ends j f.No knows says alive goes = All-nil (Written calls s answer ends)
cancel_written calls s answer ends j f.Absent knows says alive goes = All-nil (Written calls s answer ends)

-- what the end of a run finds
record Ends (calls : List Planned) (s : State) (ends : List ℕ) (j : ℕ) (outcome : Outcome) : Type 0 where
  low : j < task_count calls
  runs : (s.tasks j).phase ≡ ph.Running
  live : (outcome ≡ o.Dropped → ⊥) → (s.tasks j).cancelled ≡ false
  none : is_end j ends ≡ false

finish_finds : (calls : List Planned) (s : State) (ends : List ℕ) (v j run : ℕ) (outcome : Outcome) → Knows calls s (a.Finish v j run outcome) ends → Ends calls s ends j outcome
finish_finds calls s ends v j run outcome knows =
    let met = knows.meets j (same_eqb j) in
    record {
      low = knows.tasks j (ap was_submitted met.0);
      runs = met.0;
      live = λ apart. false_from_ne_true (s.tasks j).cancelled (λ q. apart (met.1 q));
      none = unswept calls s (a.Finish v j run outcome) ends j knows (no_sweep outcome);
    }
  where
    no_sweep : (x : Outcome) → need_of_finish j x ≡ n.Sweep → ⊥
    no_sweep (o.Done value) q = cc
    no_sweep (o.Failed code) q = cc
    no_sweep o.Dropped q = cc
    no_sweep o.Ended q = cc
    no_sweep (o.Again due) q = cc

-- the end of a run
finish_written : (calls : List Planned) (s : State) (ends : List ℕ) (v j run : ℕ) (outcome : Outcome) → Ends calls s ends j outcome →
    All (Written calls s (a.Finish v j run outcome) ends) (writes_of (need_of_finish j outcome) ends)
finish_written calls s ends v j run (o.Done value) found =
    let t = s.tasks j in
    let same = same_eqb j in
    let live = found.live (λ q. cc) in
    let goes : word_next calls s (a.Finish v j run (o.Done value)) ends j ≡ plain_word w.Done t.run =
    λ i. word_with ((false || (found.none i || (same i && false))) || live i) (cond (same i) (finish_task (terms_of calls j).timing s.moment (o.Done value) t) t)
    in
    exchange calls s (a.Finish v j run (o.Done value)) ends j done ph.Running w.Done t.run refl found.low found.runs live goes (t.run, plain_in t ph.Running found.runs live, goes)
finish_written calls s ends v j run (o.Failed code) found =
    let t = s.tasks j in
    let same = same_eqb j in
    let live = found.live (λ q. cc) in
    let goes : word_next calls s (a.Finish v j run (o.Failed code)) ends j ≡ plain_word w.Failed t.run =
    λ i. word_with ((false || (found.none i || (same i && false))) || live i) (cond (same i) (finish_task (terms_of calls j).timing s.moment (o.Failed code) t) t)
    in
    exchange calls s (a.Finish v j run (o.Failed code)) ends j fail ph.Running w.Failed t.run refl found.low found.runs live goes (t.run, plain_in t ph.Running found.runs live, goes)
finish_written calls s ends v j run (o.Again due) found =
    let t = s.tasks j in
    let same = same_eqb j in
    let live = found.live (λ q. cc) in
    let more : 1 + t.run ≡ t.run + 1 = omega arith in
    let goes : word_next calls s (a.Finish v j run (o.Again due)) ends j ≡ plain_word w.New (t.run + 1) =
    (λ i. word_with ((false || (found.none i || (same i && false))) || live i) (cond (same i) (finish_task (terms_of calls j).timing s.moment (o.Again due) t) t)) ∙ ap (plain_word w.New) more
    in
    exchange calls s (a.Finish v j run (o.Again due)) ends j rearm ph.Running w.New (t.run + 1) refl found.low found.runs live goes (t.run, plain_in t ph.Running found.runs live, goes)
finish_written calls s ends v j run o.Dropped found = All-nil (Written calls s (a.Finish v j run o.Dropped) ends)
finish_written calls s ends v j run o.Ended found =
    let t = s.tasks j in
    let same = same_eqb j in
    let goes : word_next calls s (a.Finish v j run o.Ended) ends j ≡ marked (word_of_task t) =
    (λ i. word_with ((false || (found.none i || (same i && true))) || t.cancelled) (cond (same i) (finish_task (terms_of calls j).timing s.moment o.Ended t) t))
    ∙ ap (λ p. record { phase = word_phase p; run = t.run; marked = true }) (sym found.runs)
    in
    one (Written calls s (a.Finish v j run o.Ended) ends) (j, core_cancel) (cancel calls s (a.Finish v j run o.Ended) ends j found.low (ap (λ p. is_live (word_phase p)) found.runs) (found.live (λ q. cc)) goes)

-- a sweep, whose answer moves no task
sweep_written : (calls : List Planned) (s : State) (answer : Answer) (ends : List ℕ) → Knows calls s answer ends →
    ((k : ℕ) → is_end k ends ≡ true → word_next calls s answer ends k ≡ marked (word_of_task (s.tasks k))) → All (Written calls s answer ends) (map (λ k. (k, core_cancel)) ends)
sweep_written calls s answer ends knows goes = All-map (Written calls s answer ends) (λ k. (k, core_cancel)) ends (of_ends (λ k. Written calls s answer ends (k, core_cancel)) ends (λ k q.
    let found = knows.ended k q in cancel calls s answer ends k (knows.tasks k (ap was_submitted found.0)) (ap (λ p. is_live (word_phase p)) found.0) found.1 (goes k q)))

-- each write that the need of an answer names is made
pub all_written : (calls : List Planned) (s : State) (answer : Answer) (ends : List ℕ) → Knows calls s answer ends → All (Written calls s answer ends) (writes_of (need_of_answer s.shut answer) ends)
all_written calls s (a.Submit j kind due) ends knows = submit_written calls s ends j due kind knows
all_written calls s (a.Cancel j effect) ends knows = cancel_written calls s (a.Cancel j effect) ends j effect knows knows.says (knows.meets j (same_eqb j)) (cancelled_word ends j effect (s.tasks j))
all_written calls s (a.Outside j effect) ends knows = cancel_written calls s (a.Outside j effect) ends j effect knows knows.says (knows.meets j (same_eqb j)) (cancelled_word ends j effect (s.tasks j))
all_written calls s (a.Policy which value) ends knows =
    let all = sweep_written calls s (a.Policy which value) ends knows (λ k e i. word_with ((false || (e i || false)) || (s.tasks k).cancelled) (s.tasks k)) in
    let pick : (b : Bool) → All (Written calls s (a.Policy which value) ends) (writes_of (cond b n.Sweep n.Nothing) ends) = elim [ true ↦ all | false ↦ All-nil (Written calls s (a.Policy which value) ends) ] in
    pick (setting_sweeps s.shut which value)
all_written calls s (a.Start v j run due) ends knows = start_written calls s ends v j run due knows
all_written calls s (a.Finish v j run outcome) ends knows = finish_written calls s ends v j run outcome (finish_finds calls s ends v j run outcome knows)
all_written calls s answer ends knows = assumption (All-nil (Written calls s answer ends), sweep_written calls s answer ends knows (λ k e i. word_with ((false || (e i || false)) || (s.tasks k).cancelled) (s.tasks k)))
