-- What the executor answers to the calls of which a plan's warnings tell.
-- Where a definition names a class, its source is the Java SE 17 documentation of that class.
-- Where it names no source, it is this project's rule.
use Rattle.std.specs.Prelude.{◌≡◌, ℕ, ◌<◌, true, List, ◌∷◌, ◌++◌, Some, slice_get}
use Rattle.queue_code.specs.declared.call.CodeCall.{CodeCall}
use Rattle.queue_code.specs.declared.call.CodeCall.TheVariants as c
use Rattle.sched_time.specs.declared.timing.Timing.{Timing}
use Rattle.executor_model.specs.declared.types.Answer.TheVariants as a
use Rattle.executor_model.specs.declared.types.CancelEffect.TheVariants as f
use Rattle.executor_model.specs.declared.types.Happening.TheVariants as h
use Rattle.executor_model.specs.declared.types.Refusal.TheVariants as refusal
use Rattle.queue_code.specs.Calls.{Planned, IsOrderly}
use Rattle.executor_model.specs.Histories.{HistoryEntry, IsHistoryOf, happenings, made}
use Rattle.executor_laws.specs.Policies.{shuts_down}

-- in a history of these calls, behind the entries `past`, this entry is that of the call at this position
pub record AnswersCall (calls : List Planned) (workers position : ℕ) (past : List HistoryEntry) (e : HistoryEntry) : Type 0 where
  pub later : List HistoryEntry
  pub means : IsHistoryOf calls workers (later ++ e ∷ past)
  pub is_call : e.happening ≡ h.Call
  pub here : made (happenings past) ≡ position

-- a shutdown, orderly or at once, stands before this position
pub record IsBehindShutdown (calls : List Planned) (position : ℕ) : Type 0 where
  pub place : ℕ
  pub moment : ℕ
  pub call : CodeCall
  pub there : slice_get calls place ≡ Some (moment, call)
  pub shuts : shuts_down call ≡ true
  pub before : place < position

-- an illegal submission is refused as such
-- (ScheduledExecutorService.scheduleAtFixedRate and scheduleWithFixedDelay: "IllegalArgumentException - if period less than or
-- equal to zero")
abbrev pub IllegalCallsAreRefused : Type 0
IllegalCallsAreRefused = (calls : List Planned) (workers position moment k : ℕ) (past : List HistoryEntry) (e : HistoryEntry)
    → AnswersCall calls workers position past e → slice_get calls position ≡ Some (moment, c.Illegal k) → e.answer ≡ a.Refuse k refusal.Illegal

-- a submission behind a shutdown is refused as rejected
-- (ExecutorService: "An ExecutorService can be shut down, which will cause it to reject new tasks.")
abbrev pub CallsBehindShutdownsAreRejected : Type 0
CallsBehindShutdownsAreRejected = (calls : List Planned) (workers position moment k : ℕ) (timing : Timing) (delay : ℕ) (past : List HistoryEntry) (e : HistoryEntry)
    → AnswersCall calls workers position past e → slice_get calls position ≡ Some (moment, c.Submit k timing delay) → IsBehindShutdown calls position → e.answer ≡ a.Refuse k refusal.Rejected

-- the call at this position submits task k, and is refused: it is illegal, or stands behind a shutdown
abbrev pub IsRefusedCall : List Planned → ℕ → ℕ → CodeCall → Type 0
IsRefusedCall calls position k (c.Illegal task) = task ≡ k
IsRefusedCall calls position k (c.Submit task timing delay) = (task ≡ k) × IsBehindShutdown calls position
IsRefusedCall calls position k _ = ⊥

-- some call submits task k, and is refused
pub record IsRefusedTask (calls : List Planned) (k : ℕ) : Type 0 where
  pub place : ℕ
  pub moment : ℕ
  pub call : CodeCall
  pub there : slice_get calls place ≡ Some (moment, call)
  pub refused : IsRefusedCall calls place k call

-- a cancel of a task whose submission is refused has no effect
abbrev pub CancelsOfRefusedTasksHaveNoEffect : Type 0
CancelsOfRefusedTasksHaveNoEffect = (calls : List Planned) (workers position moment k : ℕ) (past : List HistoryEntry) (e : HistoryEntry) → IsOrderly calls → IsRefusedTask calls k
    → AnswersCall calls workers position past e → slice_get calls position ≡ Some (moment, c.Cancel k) → e.answer ≡ a.Cancel k f.Absent
