-- How many tasks are of some sorts, as the tables are written.
use Rattle.std.proofs.Common.{◌≡◌, ◌≢◌, ℕ, ◌+◌, ◌-◌, ◌&&◌, ◌==◌, ◌^◌, ◌<◌, ◌≤◌, zero, suc, Bool, true, false, cond, List, [], ◌∷◌, length, replicate, ap, subst, refl, sym, ◌∙◌, arith}
use Rattle.std.proofs.lemmas.List.{length-replicate}
use Rattle.std.specs.Prelude.{slice_index_or, not}
use Rattle.std.proofs.Math.ListN.{set}
use Rattle.task_word.specs.Words.{Parts}
use Rattle.queue_code.specs.Calls.{how_many}
use Rattle.executor_model.specs.declared.task.Task.{Task}
use Rattle.executor_core.specs.declared.plan_table.tallies.Tallies.{Tallies}
use Rattle.executor_core.specs.declared.plan_table.tasks.Detail.{Detail}
use Rattle.executor_model.specs.declared.types.Outcome.{Outcome}
use Rattle.executor_model.specs.declared.types.Outcome.TheVariants as o
use Rattle.executor_model.specs.State.{vacant, end_task}
use Rattle.executor_model.specs.Tasks.{uncancelled_in}
use Rattle.executor_model.specs.declared.task.Stage.TheVariants as ph
use Rattle.executor_model.proofs.Tables.{at_set, at_replicate}
use Rattle.executor_core.specs.plan_table.Tasks.{periodic_in, is_periodic, waits_again}
use Rattle.executor_core.specs.plan_table.own.Tables.{tasks_in_tables, is_again, one, Count, IsRecount, AreTallies, TablesAgree}
use Rattle.task_table.specs.Seats.{is_waiting_in}
use Rattle.executor_core.proofs.plan_table.Pairs.{length_of}

-- the first task counts for itself
counted_first : (test : Task → Bool) (t : Task) (tasks : List Task) → how_many test (t ∷ tasks) ≡ one (test t) + how_many test tasks
counted_first test t tasks = elim (test t) as (λ b. cond b (1 + how_many test tasks) (how_many test tasks) ≡ one b + how_many test tasks) [ true ↦ omega arith | false ↦ omega arith ]

-- a task is not cancelled
abbrev alive : Task → Bool
alive t = not t.cancelled

-- of a table in which one task is written, by the task that stood there
counted_set : (test : Task → Bool) (tasks : List Task) (k : ℕ) (t : Task) → k < length tasks →
    how_many test (set tasks k t) + one (test (slice_index_or tasks k vacant)) ≡ how_many test tasks + one (test t)
counted_set test [] k t low = absurd (omega (arith, low))
counted_set test (x ∷ tasks) zero t low = omega (arith, counted_first test x tasks, counted_first test t tasks)
counted_set test (x ∷ tasks) (suc k) t low =
    omega (arith, counted_first test x (set tasks k t), counted_first test x tasks, counted_set test tasks k t (omega (arith, low)))

-- a task of the table is counted
counted_in : (test : Task → Bool) (tasks : List Task) (k : ℕ) → k < length tasks → one (test (slice_index_or tasks k vacant)) ≤ how_many test tasks
counted_in test [] k low = absurd (omega (arith, low))
counted_in test (x ∷ tasks) zero low = omega (arith, counted_first test x tasks)
counted_in test (x ∷ tasks) (suc k) low = omega (arith, counted_first test x tasks, counted_in test tasks k (omega (arith, low)))

one_le : (b : Bool) → one b ≤ 1
one_le true = omega arith
one_le false = omega arith

-- no more tasks are counted than there are
counted_le : (test : Task → Bool) (tasks : List Task) → how_many test tasks ≤ length tasks
counted_le test [] = omega arith
counted_le test (x ∷ tasks) = omega (arith, counted_first test x tasks, one_le (test x), counted_le test tasks)

-- vacant tasks are not cancelled, and do not wait
vacant_tallies : (n : ℕ) → AreTallies (record { uncancelled = n; periodic = 0 }) (replicate n vacant)
vacant_tallies zero = (refl, refl)
vacant_tallies (suc n) =
    let (uncancelled, periodic) = vacant_tallies n in
    (omega (arith, uncancelled), periodic)

-- the tables of vacant tasks are as they have to be
pub vacant_counted : (n : ℕ) (ws : List Parts) (ds : List Detail) (tallies : Tallies) → length ws ≡ length ds → n ≤ 2 ^ 32 → tasks_in_tables ws ds ≡ replicate n vacant → tallies ≡ record { uncancelled = n; periodic = 0 } → TablesAgree ws ds tallies
vacant_counted n ws ds tallies paired few is are = record {
  paired = paired;
  few = omega (arith, few, length_of ws ds paired, ap length is, length-replicate n vacant);
  counted = subst (λ (q : Tallies). AreTallies q (tasks_in_tables ws ds)) (sym are) (subst (AreTallies (record { uncancelled = n; periodic = 0 })) (sym is) (vacant_tallies n));
  blank = λ k q. ap (λ l. slice_index_or l k vacant) is ∙ at_replicate n k vacant;
}

-- the numbers of some tables count the task at a place
pub tables_count : (ws : List Parts) (ds : List Detail) (tasks : List Task) (tallies : Tallies) (k : ℕ) (t : Task) → TablesAgree ws ds tallies → tasks_in_tables ws ds ≡ tasks → k < length tasks → t ≡ slice_index_or tasks k vacant → Count tallies t
tables_count ws ds tasks tallies k t are view low is =
    let (uncancelled, periodic) = are.counted in
    let room : length tasks < 2 ^ 63 = omega (arith, are.few, length_of ws ds are.paired, ap length view) in
    subst (Count tallies) (sym is) (
      omega (arith, uncancelled, ap uncancelled_in view, counted_in alive tasks k low),
      omega (arith, periodic, ap periodic_in view, counted_in waits_again tasks k low),
      omega (arith, uncancelled, ap uncancelled_in view, counted_le alive tasks, room),
      omega (arith, periodic, ap periodic_in view, counted_le waits_again tasks, room),
    )

-- of one of two tasks that was not submitted nothing is kept, where that is so of the second, and the first was submitted
blank_of : (b : Bool) (t other : Task) → t.phase ≢ ph.Vacant → (other.phase ≡ ph.Vacant → other ≡ vacant) → (cond b t other).phase ≡ ph.Vacant → cond b t other ≡ vacant
blank_of true t other accepted blank q = absurd (accepted q)
blank_of false t other accepted blank q = blank q

-- of the tasks that were not submitted nothing is kept
abbrev IsBlank : List Task → Type 0
IsBlank tasks = (k : ℕ) → (slice_index_or tasks k vacant).phase ≡ ph.Vacant → slice_index_or tasks k vacant ≡ vacant

-- that stays so where a task is written that was submitted
blank_set : (tasks : List Task) (k : ℕ) (t : Task) → k < length tasks → t.phase ≢ ph.Vacant → IsBlank tasks → IsBlank (set tasks k t)
blank_set tasks k t low accepted blank j =
    subst (λ (q : Task). q.phase ≡ ph.Vacant → q ≡ vacant) (sym (at_set tasks k j t vacant low)) (blank_of (k == j) t (slice_index_or tasks j vacant) accepted (blank j))

-- the tables stay as they have to be where one task stands for another, and the numbers are recounted
pub tables_recounted : (ws vs : List Parts) (ds es : List Detail) (tasks : List Task) (old new : Tallies) (k : ℕ) (before after : Task) → TablesAgree ws ds old → tasks_in_tables ws ds ≡ tasks → length vs ≡ length ws → length es ≡ length ds →
    tasks_in_tables vs es ≡ set tasks k after → k < length tasks → before ≡ slice_index_or tasks k vacant → IsRecount old new before after → after.phase ≢ ph.Vacant → TablesAgree vs es new
tables_recounted ws vs ds es tasks old new k before after are view long wide is low at recount accepted =
    let (uncancelled, periodic) = are.counted in
    let (uncancelled_more, periodic_more) = subst (λ b. IsRecount old new b after) at recount in
    record {
      paired = long ∙ (are.paired ∙ sym wide);
      few = omega (arith, are.few, long);
      counted = (
        omega (arith, uncancelled, uncancelled_more, ap uncancelled_in view, ap uncancelled_in is, counted_set alive tasks k after low),
        omega (arith, periodic, periodic_more, ap periodic_in view, ap periodic_in is, counted_set waits_again tasks k after low),
      );
      blank = subst IsBlank (sym is) (blank_set tasks k after low accepted (subst IsBlank view are.blank));
    }

-- the end of a run leaves a task accepted
pub end_accepted : (outcome : Outcome) (due : ℕ) (t : Task) → (end_task outcome due t).phase ≢ ph.Vacant
end_accepted (o.Done value) due t q = absurd cc
end_accepted (o.Failed code) due t q = absurd cc
end_accepted o.Dropped due t q = absurd cc
end_accepted o.Ended due t q = absurd cc
end_accepted (o.Again next) due t q = absurd cc

-- the numbers where a run of a task begins, which waits and is not cancelled
pub started_recount : (old : Tallies) (t : Task) → t.phase ≡ ph.Waiting → t.cancelled ≡ false → Count old t
    → IsRecount old (record old { periodic = old.periodic - one (is_periodic t.timing) }) t (record t { phase = ph.Running }) × (one (is_periodic t.timing) ≤ old.periodic)
started_recount old t waits live count =
    let (some, again, room_some, room_again) = count in
    let same : one (waits_again t) ≡ one (is_periodic t.timing) = λ i. one (is_waiting_in (waits i) && (not (live i) && is_periodic t.timing)) in
    ((refl, omega (arith, same, again)), omega (arith, same, again))

-- the numbers where the run of a task ends
pub ended_recount : (old : Tallies) (outcome : Outcome) (due : ℕ) (t : Task) → t.phase ≡ ph.Running → (outcome ≢ o.Dropped → t.cancelled ≡ false) → (is_again outcome ≡ true → is_periodic t.timing ≡ true)
    → IsRecount old (record old { periodic = old.periodic + one (is_again outcome) }) t (end_task outcome due t)
ended_recount old outcome due t runs live again = by outcome live again
  where
    none : one (waits_again t) ≡ 0
    none = ap (λ p. one (is_waiting_in p && (not t.cancelled && is_periodic t.timing))) runs

    by : (q : Outcome) → (q ≢ o.Dropped → t.cancelled ≡ false) → (is_again q ≡ true → is_periodic t.timing ≡ true) → IsRecount old (record old { periodic = old.periodic + one (is_again q) }) t (end_task q due t)
    by (o.Done value) l a = (refl, omega (arith, none))
    by (o.Failed code) l a = (refl, omega (arith, none))
    by o.Dropped l a = (refl, omega (arith, none))
    by o.Ended l a = (refl, omega (arith, none))
    by (o.Again next) l a =
        let free : t.cancelled ≡ false = l (λ q. absurd cc) in
        let more : one (not t.cancelled && is_periodic t.timing) ≡ 1 = λ i. one (not (free i) && a refl i) in
        (refl, omega (arith, none, more))

-- of a task that was not submitted nothing is kept
pub blank_there : (ws : List Parts) (ds : List Detail) (tasks : List Task) (tallies : Tallies) (k : ℕ) → TablesAgree ws ds tallies → tasks_in_tables ws ds ≡ tasks → (slice_index_or tasks k vacant).phase ≡ ph.Vacant → slice_index_or tasks k vacant ≡ vacant
blank_there ws ds tasks tallies k are view = subst IsBlank view are.blank k
