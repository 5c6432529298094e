-- Pairs: the tasks of two tables, item by item.
use Rattle.std.proofs.Common.{◌≡◌, ℕ, ◌+◌, ◌<◌, zero, suc, Bool, true, false, List, [], ◌∷◌, length, map, get_or, replicate, ◌&&◌, ap, refl, sym, ◌∙◌, ◌⊎◌, inl, inr, arith}
use Rattle.std.specs.Prelude.{slice_index_or}
use Rattle.std.proofs.Math.ListN.{set}
use Rattle.sched_time.specs.declared.timing.Timing.{Timing}
use Rattle.sched_time.specs.declared.timing.Timing.TheVariants as t
use Rattle.task_word.specs.Words.{Parts}
use Rattle.task_word.specs.Words as words
use Rattle.task_word.specs.declared.phases.Phase.{Phase as WordPhase}
use Rattle.task_word.specs.declared.phases.Phase.TheVariants as w
use Rattle.executor_model.specs.declared.task.Stage.TheVariants as ph
use Rattle.executor_model.specs.declared.task.Task.{Task}
use Rattle.executor_core.specs.declared.plan_table.tasks.Detail.{Detail}
use Rattle.executor_model.specs.declared.types.Outcome.{Outcome}
use Rattle.executor_model.specs.declared.types.Outcome.TheVariants as o
use Rattle.executor_model.specs.State.{vacant, submit_task, end_task}
use Rattle.executor_model.specs.Tasks.{word_phase, word_of_task}
use Rattle.executor_core.specs.plan_table.Tasks.{is_periodic}
use Rattle.executor_core.specs.plan_table.own.Tables.{phase_in, task_of, tasks_in_tables, is_over}

-- the tables have one length, and so have the tasks
pub length_of : (ws : List Parts) (ds : List Detail) → length ws ≡ length ds → length (tasks_in_tables ws ds) ≡ length ws
length_of [] ds e = refl
length_of (x ∷ ws) [] e = absurd (omega (arith, e))
length_of (x ∷ ws) (d ∷ ds) e = ap suc (length_of ws ds (omega (arith, e)))

-- the task at a place
pub at_place : (ws : List Parts) (ds : List Detail) (k : ℕ) (x : Parts) (d : Detail) → length ws ≡ length ds → k < length ws → slice_index_or (tasks_in_tables ws ds) k vacant ≡ task_of (get_or ws k x) (get_or ds k d)
at_place [] ds k x d e l = absurd (omega (arith, l))
at_place (y ∷ ws) [] k x d e l = absurd (omega (arith, e))
at_place (y ∷ ws) (c ∷ ds) zero x d e l = refl
at_place (y ∷ ws) (c ∷ ds) (suc k) x d e l = at_place ws ds k x d (omega (arith, e)) (omega (arith, l))

-- both tables are written
pub both_set : (ws : List Parts) (ds : List Detail) (k : ℕ) (x : Parts) (d : Detail) → length ws ≡ length ds → tasks_in_tables (set ws k x) (set ds k d) ≡ set (tasks_in_tables ws ds) k (task_of x d)
both_set [] [] k x d e = refl
both_set [] (c ∷ ds) k x d e = absurd (omega (arith, e))
both_set (y ∷ ws) [] k x d e = absurd (omega (arith, e))
both_set (y ∷ ws) (c ∷ ds) zero x d e = refl
both_set (y ∷ ws) (c ∷ ds) (suc k) x d e = ap (λ l. task_of y c ∷ l) (both_set ws ds k x d (omega (arith, e)))

-- both tables of some tasks are written, by a task
pub both_sets : (ws : List Parts) (ds : List Detail) (tasks : List Task) (k : ℕ) (x : Parts) (d : Detail) (t : Task) → length ws ≡ length ds → tasks_in_tables ws ds ≡ tasks → task_of x d ≡ t → tasks_in_tables (set ws k x) (set ds k d) ≡ set tasks k t
both_sets ws ds tasks k x d t e view is = both_set ws ds k x d e ∙ (λ i. set (view i) k (is i))

-- the table of words is written
pub word_set : (ws : List Parts) (ds : List Detail) (k : ℕ) (x : Parts) (d : Detail) → length ws ≡ length ds → tasks_in_tables (set ws k x) ds ≡ set (tasks_in_tables ws ds) k (task_of x (get_or ds k d))
word_set [] [] k x d e = refl
word_set [] (c ∷ ds) k x d e = absurd (omega (arith, e))
word_set (y ∷ ws) [] k x d e = absurd (omega (arith, e))
word_set (y ∷ ws) (c ∷ ds) zero x d e = refl
word_set (y ∷ ws) (c ∷ ds) (suc k) x d e = ap (λ l. task_of y c ∷ l) (word_set ws ds k x d (omega (arith, e)))

-- the table of details is written
pub detail_set : (ws : List Parts) (ds : List Detail) (k : ℕ) (x : Parts) (d : Detail) → length ws ≡ length ds → tasks_in_tables ws (set ds k d) ≡ set (tasks_in_tables ws ds) k (task_of (get_or ws k x) d)
detail_set [] [] k x d e = refl
detail_set [] (c ∷ ds) k x d e = absurd (omega (arith, e))
detail_set (y ∷ ws) [] k x d e = absurd (omega (arith, e))
detail_set (y ∷ ws) (c ∷ ds) zero x d e = refl
detail_set (y ∷ ws) (c ∷ ds) (suc k) x d e = ap (λ l. task_of y c ∷ l) (detail_set ws ds k x d (omega (arith, e)))

-- the word of a task is the one that it was made of
of_phase : (p : Parts) (over : Bool) → word_phase (phase_in p.phase over) ≡ p.phase
of_phase p over = elim (p.phase) as (λ q. word_phase (phase_in q over) ≡ q) [ w.Vacant ↦ refl | w.New ↦ refl | w.Running ↦ running over | w.Done ↦ refl | w.Failed ↦ refl ]
  where
    running : (b : Bool) → word_phase (phase_in w.Running b) ≡ w.Running
    running true = refl
    running false = refl

-- the words of the tasks are the table of words
pub words_of : (ws : List Parts) (ds : List Detail) → length ws ≡ length ds → map word_of_task (tasks_in_tables ws ds) ≡ ws
words_of [] ds e = refl
words_of (x ∷ ws) [] e = absurd (omega (arith, e))
words_of (x ∷ ws) (d ∷ ds) e = λ i. record { phase = of_phase x d.over i; run = x.run; marked = x.marked } ∷ words_of ws ds (omega (arith, e)) i

-- a task of the list has its places in the tables
pub is_in : (ws : List Parts) (ds : List Detail) (tasks : List Task) (k : ℕ) → length ws ≡ length ds → tasks_in_tables ws ds ≡ tasks → k < length tasks → k < length ws
is_in ws ds tasks k e view low = omega (arith, low, ap length view, length_of ws ds e)

-- the task that is made of the word and the detail at its place
pub task_read : (ws : List Parts) (ds : List Detail) (tasks : List Task) (k : ℕ) (x : Parts) (d : Detail) → length ws ≡ length ds → tasks_in_tables ws ds ≡ tasks → k < length tasks → x ≡ get_or ws k x → slice_index_or tasks k vacant ≡ task_of x (get_or ds k d)
task_read ws ds tasks k x d e view low at =
    sym (ap (λ l. slice_index_or l k vacant) view) ∙ (at_place ws ds k x d e (is_in ws ds tasks k e view low) ∙ ap (λ y. task_of y (get_or ds k d)) (sym at))

-- what is kept beside the word of a vacant task
abbrev pub blank : Detail
blank = record { due = 0; timing = t.Once; over = false; kept = false }

-- a task is cancelled
pub cancel_sets : (ws : List Parts) (ds : List Detail) (tasks : List Task) (k : ℕ) (x y : Parts) → length ws ≡ length ds → tasks_in_tables ws ds ≡ tasks → k < length tasks → x ≡ get_or ws k x → y ≡ words.marked x →
    tasks_in_tables (set ws k y) ds ≡ set tasks k (record (slice_index_or tasks k vacant) { cancelled = true })
cancel_sets ws ds tasks k x y e view low at is =
    let task = task_read ws ds tasks k x blank e view low at in
    word_set ws ds k y blank e ∙ (λ i. set (view i) k (task_of (is i) (get_or ds k blank))) ∙ ap (λ (t : Task). set tasks k (record t { cancelled = true })) (sym task)

-- ---- the phase of the word, by that of the task

is_vacant : (p : WordPhase) (over : Bool) → phase_in p over ≡ ph.Vacant → p ≡ w.Vacant
is_vacant w.Vacant over q = refl
is_vacant w.New over q = absurd cc
is_vacant w.Running true q = absurd cc
is_vacant w.Running false q = absurd cc
is_vacant w.Done over q = absurd cc
is_vacant w.Failed over q = absurd cc

is_waiting : (p : WordPhase) (over : Bool) → phase_in p over ≡ ph.Waiting → p ≡ w.New
is_waiting w.Vacant over q = absurd cc
is_waiting w.New over q = refl
is_waiting w.Running true q = absurd cc
is_waiting w.Running false q = absurd cc
is_waiting w.Done over q = absurd cc
is_waiting w.Failed over q = absurd cc

is_running : (p : WordPhase) (over : Bool) → phase_in p over ≡ ph.Running → p ≡ w.Running
is_running w.Vacant over q = absurd cc
is_running w.New over q = absurd cc
is_running w.Running over q = refl
is_running w.Done over q = absurd cc
is_running w.Failed over q = absurd cc

-- ---- what the word says of the task at its place

-- the word of a vacant task is vacant
pub word_vacant : (ws : List Parts) (ds : List Detail) (tasks : List Task) (k : ℕ) (x : Parts) → length ws ≡ length ds → tasks_in_tables ws ds ≡ tasks → k < length tasks → x ≡ get_or ws k x → (slice_index_or tasks k vacant).phase ≡ ph.Vacant → x.phase ≡ w.Vacant
word_vacant ws ds tasks k x e view low at q = is_vacant x.phase (get_or ds k blank).over (sym (ap (λ (t : Task). t.phase) (task_read ws ds tasks k x blank e view low at)) ∙ q)

-- the word of a task that waits is new
pub word_waits : (ws : List Parts) (ds : List Detail) (tasks : List Task) (k : ℕ) (x : Parts) → length ws ≡ length ds → tasks_in_tables ws ds ≡ tasks → k < length tasks → x ≡ get_or ws k x → (slice_index_or tasks k vacant).phase ≡ ph.Waiting → x.phase ≡ w.New
word_waits ws ds tasks k x e view low at q = is_waiting x.phase (get_or ds k blank).over (sym (ap (λ (t : Task). t.phase) (task_read ws ds tasks k x blank e view low at)) ∙ q)

-- the word of a task whose run is under way is running
pub word_runs : (ws : List Parts) (ds : List Detail) (tasks : List Task) (k : ℕ) (x : Parts) → length ws ≡ length ds → tasks_in_tables ws ds ≡ tasks → k < length tasks → x ≡ get_or ws k x → (slice_index_or tasks k vacant).phase ≡ ph.Running → x.phase ≡ w.Running
word_runs ws ds tasks k x e view low at q = is_running x.phase (get_or ds k blank).over (sym (ap (λ (t : Task). t.phase) (task_read ws ds tasks k x blank e view low at)) ∙ q)

-- a word has the bit of a cancel exactly when its task is cancelled
pub word_marked : (ws : List Parts) (ds : List Detail) (tasks : List Task) (k : ℕ) (x : Parts) → length ws ≡ length ds → tasks_in_tables ws ds ≡ tasks → k < length tasks → x ≡ get_or ws k x → x.marked ≡ (slice_index_or tasks k vacant).cancelled
word_marked ws ds tasks k x e view low at = sym (ap (λ (t : Task). t.cancelled) (task_read ws ds tasks k x blank e view low at))

-- a word has the run of its task
pub word_run : (ws : List Parts) (ds : List Detail) (tasks : List Task) (k : ℕ) (x : Parts) → length ws ≡ length ds → tasks_in_tables ws ds ≡ tasks → k < length tasks → x ≡ get_or ws k x → x.run ≡ (slice_index_or tasks k vacant).run
word_run ws ds tasks k x e view low at = sym (ap (λ (t : Task). t.run) (task_read ws ds tasks k x blank e view low at))

-- a word that has the run of a task, and its bit
pub record IsWordOf (x : Parts) (t : Task) : Type 0 where
  pub run : x.run ≡ t.run
  pub marked : x.marked ≡ t.cancelled

-- the word at a place is that of its task
pub word_there : (ws : List Parts) (ds : List Detail) (tasks : List Task) (k : ℕ) (x : Parts) (t : Task) → length ws ≡ length ds → tasks_in_tables ws ds ≡ tasks → k < length tasks → x ≡ get_or ws k x → t ≡ slice_index_or tasks k vacant → IsWordOf x t
word_there ws ds tasks k x t e view low at is = record {
  run = word_run ws ds tasks k x e view low at ∙ ap (λ (q : Task). q.run) (sym is);
  marked = word_marked ws ds tasks k x e view low at ∙ ap (λ (q : Task). q.cancelled) (sym is);
}

-- a word without the bit is not cancelled
pub unmarked : (x : Parts) → x.marked ≡ false → words.is_cancelled x ≡ false
unmarked x q = elim (x.phase) as (λ p. (words.is_live p && x.marked) ≡ false) [ w.Vacant ↦ refl | w.New ↦ q | w.Running ↦ q | w.Done ↦ refl | w.Failed ↦ refl ]

-- a task is submitted
pub submit_sets : (ws : List Parts) (ds : List Detail) (tasks : List Task) (k : ℕ) (timing : Timing) (due : ℕ) (x y : Parts) → length ws ≡ length ds → tasks_in_tables ws ds ≡ tasks → y ≡ words.submitted x →
    tasks_in_tables (set ws k y) (set ds k (record { due = due; timing = timing; over = false; kept = false })) ≡ set tasks k (submit_task timing due vacant)
submit_sets ws ds tasks k timing due x y e view is =
    let d : Detail = record { due = due; timing = timing; over = false; kept = false } in
    both_sets ws ds tasks k y d _ e view (ap (λ z. task_of z d) is)

-- a run of a task begins
pub start_sets : (ws : List Parts) (ds : List Detail) (tasks : List Task) (k : ℕ) (x y : Parts) (d : Detail) → length ws ≡ length ds → tasks_in_tables ws ds ≡ tasks → k < length tasks → x ≡ get_or ws k x → d ≡ get_or ds k d → y ≡ words.started x →
    tasks_in_tables (set ws k y) (set ds k (record d { over = false })) ≡ set tasks k (record (slice_index_or tasks k vacant) { phase = ph.Running })
start_sets ws ds tasks k x y d e view low at with_it is =
    let c : Detail = record d { over = false } in
    let task = task_read ws ds tasks k x d e view low at ∙ ap (task_of x) (sym with_it) in
    both_set ws ds k y c e ∙ (λ i. set (view i) k (task_of (is i) c)) ∙ ap (λ (t : Task). set tasks k (record t { phase = ph.Running })) (sym task)

-- whether a task is periodic, as what is kept beside its word says
pub periodic_so : (ws : List Parts) (ds : List Detail) (tasks : List Task) (k : ℕ) (x : Parts) (d : Detail) → length ws ≡ length ds → tasks_in_tables ws ds ≡ tasks → k < length tasks → x ≡ get_or ws k x → d ≡ get_or ds k d
    → is_periodic d.timing ≡ is_periodic (slice_index_or tasks k vacant).timing
periodic_so ws ds tasks k x d e view low at with_it = ap (λ (q : Task). is_periodic q.timing) (sym (task_read ws ds tasks k x d e view low at ∙ ap (task_of x) (sym with_it)))

-- a run that is dropped, or ends as its task is cancelled, is the last one
pub over_of : (q : Outcome) → (q ≡ o.Dropped) ⊎ (q ≡ o.Ended) → is_over q ≡ true
over_of q (inl is) = ap is_over is
over_of q (inr is) = ap is_over is

-- a task is kept, or is kept no more
pub keep_sets : (ws : List Parts) (ds : List Detail) (tasks : List Task) (k : ℕ) (d : Detail) (kept : Bool) → length ws ≡ length ds → tasks_in_tables ws ds ≡ tasks → k < length tasks → d ≡ get_or ds k d →
    tasks_in_tables ws (set ds k (record d { kept = kept })) ≡ set tasks k (record (slice_index_or tasks k vacant) { kept = kept })
keep_sets ws ds tasks k d kept e view low with_it =
    let task = sym (ap (λ l. slice_index_or l k vacant) view) ∙ (at_place ws ds k words.vacant_word d e (is_in ws ds tasks k e view low) ∙ ap (task_of (get_or ws k words.vacant_word)) (sym with_it)) in
    detail_set ws ds k words.vacant_word (record d { kept = kept }) e ∙ (λ i. set (view i) k (task_of (get_or ws k words.vacant_word) (record d { kept = kept }))) ∙ ap (λ (t : Task). set tasks k (record t { kept = kept })) (sym task)

-- n vacant words, with nothing kept beside them, are n vacant tasks
vacant_tasks : (n : ℕ) (x : Parts) → x ≡ words.vacant_word → tasks_in_tables (replicate n x) (replicate n blank) ≡ replicate n vacant
vacant_tasks zero x is = refl
vacant_tasks (suc n) x is = λ i. task_of (is i) blank ∷ vacant_tasks n x is i

-- the tables of tasks of which none was submitted
pub vacant_tables : (n : ℕ) (x : Parts) (ws : List Parts) (ds : List Detail) → x ≡ words.vacant_word → ws ≡ replicate n x → ds ≡ replicate n blank → tasks_in_tables ws ds ≡ replicate n vacant
vacant_tables n x ws ds is all none = (λ i. tasks_in_tables (all i) (none i)) ∙ vacant_tasks n x is

-- ---- the task once its run has ended, by the outcome

-- what is held beside the word of a task once its run has ended
abbrev pub detail_past : Task → ℕ → Bool → Detail
detail_past t due over = record { due = due; timing = t.timing; over = over; kept = t.kept }

-- and it is what was held, with another due moment
pub detail_kept : (ws : List Parts) (ds : List Detail) (tasks : List Task) (k : ℕ) (x : Parts) (d : Detail) (t : Task) (due : ℕ) (over : Bool) → length ws ≡ length ds → tasks_in_tables ws ds ≡ tasks → k < length tasks
    → x ≡ get_or ws k x → d ≡ get_or ds k d → t ≡ slice_index_or tasks k vacant → record d { due = due; over = over } ≡ detail_past t due over
detail_kept ws ds tasks k x d t due over e view low at with_it is =
    let task : t ≡ task_of x d = is ∙ (task_read ws ds tasks k x d e view low at ∙ ap (task_of x) (sym with_it)) in
    ap (λ (q : Task). detail_past q due over) (sym task)

-- a task whose word and detail were written since it is done
pub ended_done : (due : ℕ) (x y : Parts) (over : Bool) (outcome : Outcome) {value : ℕ} (t : Task) → IsWordOf x t → outcome ≡ o.Done value → y ≡ words.ended_well x → task_of y (detail_past t due over) ≡ end_task outcome due t
ended_done due x y over outcome t word of is =
    ap (λ z. task_of z (detail_past t due over)) is ∙ (λ i. record { phase = ph.Done; run = word.run i; due = due; timing = t.timing; cancelled = word.marked i; kept = t.kept }) ∙ ap (λ q. end_task q due t) (sym of)

-- a task whose word and detail were written since its run failed
pub ended_failed : (due : ℕ) (x y : Parts) (over : Bool) (outcome : Outcome) {code : ℕ} (t : Task) → IsWordOf x t → outcome ≡ o.Failed code → y ≡ words.ended_badly x → task_of y (detail_past t due over) ≡ end_task outcome due t
ended_failed due x y over outcome t word of is =
    ap (λ z. task_of z (detail_past t due over)) is ∙ (λ i. record { phase = ph.Failed; run = word.run i; due = due; timing = t.timing; cancelled = word.marked i; kept = t.kept }) ∙ ap (λ q. end_task q due t) (sym of)

-- a task whose word and detail were written since it runs again
pub ended_again : (due : ℕ) (x y : Parts) (over : Bool) (outcome : Outcome) {next : ℕ} (t : Task) → IsWordOf x t → outcome ≡ o.Again next → y ≡ words.rearmed x → task_of y (detail_past t due over) ≡ end_task outcome due t
ended_again due x y over outcome t word of is =
    let run : x.run + 1 ≡ 1 + t.run = omega (arith, word.run) in
    ap (λ z. task_of z (detail_past t due over)) is ∙ (λ i. record { phase = ph.Waiting; run = run i; due = due; timing = t.timing; cancelled = word.marked i; kept = t.kept }) ∙ ap (λ q. end_task q due t) (sym of)

-- a run that is dropped, or ends as its task is cancelled, leaves the task dropped
pub end_over : (outcome : Outcome) (due : ℕ) (t : Task) → (outcome ≡ o.Dropped) ⊎ (outcome ≡ o.Ended) → end_task outcome due t ≡ record t { phase = ph.Dropped; due = due }
end_over outcome due t (inl is) = ap (λ q. end_task q due t) is
end_over outcome due t (inr is) = ap (λ q. end_task q due t) is

-- a task whose detail was written since its run was dropped, or since it was cancelled as its run ended
pub ended_over : (due : ℕ) (x y : Parts) (over : Bool) (outcome : Outcome) (t : Task) → IsWordOf x t → end_task outcome due t ≡ record t { phase = ph.Dropped; due = due } → over ≡ true → x.phase ≡ w.Running → y ≡ x →
    task_of y (detail_past t due over) ≡ end_task outcome due t
ended_over due x y over outcome t word of is_over runs is =
    ap (λ z. task_of z (detail_past t due over)) is ∙ (λ i. record { phase = phase_in (runs i) (is_over i); run = word.run i; due = due; timing = t.timing; cancelled = word.marked i; kept = t.kept }) ∙ sym of
