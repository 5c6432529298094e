-- What lies under the lock of a pool, and what one hold of it does there. All of it is this project's rule.
use Rattle.std.specs.Prelude.{◌≡◌, ℕ, ◌+◌, ◌-◌, ◌^◌, ◌<◌, min, zero, suc, is_some, if◌then◌else◌, ◌↔◌, ◌⊎◌, Bool, true, false, IsTrue, IsSome, Option, Some, None, unwrap_or}
use Rattle.sched_time.specs.declared.timing.Ending.{Ending}
use Rattle.executor_core.specs.CoreView.{state_of}
use Rattle.executor_model.specs.State.{view_of_state}
use Rattle.executor_model.specs.Needs.{IsRipe}
use Rattle.executor_model.specs.declared.types.Event.{Event}
use Rattle.executor_model.specs.declared.types.Event.TheVariants as v
use Rattle.worker_pool.specs.declared.applied.Work.{Work}
use Rattle.worker_pool.specs.declared.error.PoolError.{PoolError}
use Rattle.worker_pool.specs.declared.error.PoolError.TheVariants as p
use Rattle.worker_pool.specs.declared.pool.sleepers.Sleepers.{Sleepers}
use Rattle.worker_pool.specs.declared.pool.stage.Came.{Came}
use Rattle.worker_pool.specs.declared.pool.stage.Came.TheVariants as c
use Rattle.worker_pool.specs.declared.pool.stage.Stage.{Stage}
use Rattle.worker_pool.specs.declared.pool.stage.Stage.TheVariants as s
use Rattle.worker_pool.specs.declared.pool.stage.Next.{Next}
use Rattle.worker_pool.specs.declared.pool.stage.Next.TheVariants as n
use Rattle.worker_pool.specs.declared.pool.stage.Lead.{Lead}
use Rattle.worker_pool.specs.declared.pool.stage.Lead.TheVariants as l
use Rattle.worker_pool.specs.Books.{BookView}
use Rattle.worker_pool.specs.Applies.{Applies, work_started}

-- no start may be taken any more: no run is under way, or it is to end
abbrev pub is_stopped : Stage → Bool
is_stopped s.Closed = true
is_stopped s.Opening = false
is_stopped s.Open = false
is_stopped s.Leaving = true

-- a call that is refused so ends the run
abbrev pub ends_runs : PoolError → Bool
ends_runs p.Full = true
ends_runs p.Memory = true
ends_runs _ = false

-- a worker is told to leave
abbrev pub is_leave : Next → Bool
is_leave (n.Leave call) = true
is_leave _ = false

-- what lies under the lock: the book, how far the run over it is, how many workers are in a job, what a call of a run was refused
-- with first, and the workers that sleep
pub record Under : Type 0 where
  pub book : BookView
  pub stage : Stage
  pub running : ℕ
  pub fault : Option PoolError
  pub sleepers : Sleepers

-- some task is ripe in a book
abbrev pub HasRipe : BookView → Type 0
HasRipe b = IsRipe b.core.calls (view_of_state b.core.calls (state_of b.core))

-- there is work: the run is open, and some task is ripe
abbrev pub HasWork : Under → Type 0
HasWork u = (u.stage ≡ s.Open) × HasRipe u.book

-- all is quiet: no run is open, or no worker is in a job and nothing is ripe
abbrev pub IsQuiet : Under → Type 0
IsQuiet u = u.stage ≡ s.Open → (u.running ≡ 0) × (HasRipe u.book → ⊥)

-- the limit of the book stays
abbrev pub KeepsLimit : Under → Under → Type 0
KeepsLimit old new = new.book.core.limit ≡ old.book.core.limit

-- what a call was refused with first is kept: a fault once there stays
abbrev pub KeepsFault : Under → Under → Type 0
KeepsFault old new = (new.fault ≡ old.fault) ⊎ (old.fault ≡ None)

-- an event was taken, and this is the work that its answer starts
pub record TookEvent (old new : BookView) (event : Event) (started : Option Work) : Type 0 where
  pub did : Applies old new event
  pub work : started ≡ work_started did.last.answer

-- a call of the run was refused: it is full exactly where the limit is reached. Nothing happened in the book, the workers are to
-- leave, and what was refused first is kept
pub record Refuses (fault : PoolError) (old new : Under) : Type 0 where
  pub kind : ends_runs fault ≡ true
  pub full : (fault ≡ p.Full) ↔ (old.book.core.taken ≡ old.book.core.limit)
  pub book : new.book ≡ old.book
  pub stage : new.stage ≡ s.Leaving
  pub running : new.running ≡ old.running
  pub first : new.fault ≡ Some (unwrap_or old.fault fault)
  pub sleepers : new.sleepers ≡ old.sleepers

-- ---- who sleeps

-- one worker more; a count of 64 bits goes no further than its end
abbrev pub one_more : ℕ → ℕ
one_more count = min (count + 1) (2 ^ 64 - 1)

-- no worker sleeps
abbrev pub no_sleepers : Sleepers
no_sleepers = record { asleep = 0; coming = 0 }

-- one more goes to sleep
abbrev pub rested : Sleepers → Sleepers
rested s = record { asleep = one_more s.asleep; coming = s.coming }

-- one that slept is back, woken or not
abbrev pub risen : Sleepers → Sleepers
risen s = record { asleep = s.asleep - 1; coming = s.coming - 1 }

-- one more is woken, and counted as coming
abbrev pub called : Sleepers → Sleepers
called s = record { asleep = s.asleep; coming = one_more s.coming }

-- some sleep, and none is counted as coming
abbrev pub IsCallable : Sleepers → Type 0
IsCallable s = (0 < s.asleep) × (s.coming ≡ 0)

-- a worker is woken exactly where there is work, some sleep and none is counted as coming; then it is counted so, and nothing
-- else changes
pub record Wakes (woken : Bool) (old new : Under) : Type 0 where
  pub wanted : IsTrue woken ↔ (HasWork old × IsCallable old.sleepers)
  pub counted : new ≡ record old { sleepers = if woken then called old.sleepers else old.sleepers }

-- ---- a hold of the lock by a worker

-- there was work, and a start of the worker was taken, which got it, or gives nothing: every task that it met is cancelled, or the
-- answer is an error, as of a worker that is busy. The run goes on
pub record Starts (worker : ℕ) (got : Option Work) (old new : Under) : Type 0 where
  pub work : HasWork old
  pub took : TookEvent old.book new.book (v.Start worker) got
  pub stage : new.stage ≡ old.stage
  pub running : new.running ≡ (if is_some got then one_more old.running else old.running)
  pub fault : new.fault ≡ old.fault
  pub sleepers : new.sleepers ≡ old.sleepers

-- so many starts one after the other got nothing
abbrev pub GetNothing : ℕ → ℕ → Under → Under → Type 0
GetNothing worker zero old new = new ≡ old
GetNothing worker (suc k) old new = (mid : Under) × GetNothing worker k old mid × Starts worker None mid new

-- a start was refused where there was work
pub record IsRefusedWork (old new : Under) : Type 0 where
  pub work : HasWork old
  pub fault : PoolError
  pub refuses : Refuses fault old new

-- what a worker is told it does next, by what lies under the lock. It gets work, and wakes one more worker where it leaves work
-- behind and one is to be woken for it. It leaves where the workers are to leave, or where its start is refused. Else it sleeps,
-- where there is no work, is counted as asleep, and wakes who leads exactly where all is quiet
abbrev pub Decides : ℕ → Next → Under → Under → Type 0
Decides worker (n.Job work call) old new = (left : Under) × Starts worker (Some work) old left × Wakes call.wanted left new
Decides worker (n.Leave call) old new = ((new ≡ old) × (old.stage ≡ s.Leaving)) ⊎ IsRefusedWork old new
Decides worker (n.Sleep rest) old new =
    (new ≡ record old { sleepers = rested old.sleepers }) × (HasWork old → ⊥) × (old.stage ≡ s.Leaving → ⊥)
    × (IsTrue rest.wakes_leader ↔ IsQuiet old)

-- the finish of a worker's job was taken, or refused; one worker less is in a job either way
pub record Finishes (worker : ℕ) (ending : Ending) (old new : Under) : Type 0 where
  pub running : new.running ≡ old.running - 1
  pub sleepers : new.sleepers ≡ old.sleepers
  pub done : (Applies old.book new.book (v.Finish worker ending) × (new.stage ≡ old.stage) × (new.fault ≡ old.fault))
      ⊎ ((fault : PoolError) × Refuses fault (record old { running = old.running - 1 }) new)

-- what a worker brings: the finish of its job if it comes from one; and where it comes from its sleep, it sleeps no more
abbrev pub Brings : ℕ → Came → Under → Under → Type 0
Brings worker c.Made old new = new ≡ old
Brings worker (c.Done ending) old new = Finishes worker ending old new
Brings worker c.Woken old new = new ≡ record old { sleepers = risen old.sleepers }

-- a hold of the lock by a worker: it brings what it comes with, takes starts until one gets something or there is no more work,
-- and is told what it does next
pub record Holds (worker : ℕ) (came : Came) (next : Next) (old new : Under) : Type 0 where
  pub brought : Under
  pub brings : Brings worker came old brought
  pub count : ℕ
  pub last : Under
  pub nothing : GetNothing worker count brought last
  pub decides : Decides worker next last new

-- ---- a hold of the lock by who leads

-- who leads is told that the run is to end
abbrev pub ends_run : Lead → Bool
ends_run (l.Moves call) = false
ends_run (l.Ends call) = true

-- the clock of who leads is taken, and opens the run
pub record Opens (moment : ℕ) (old new : Under) : Type 0 where
  pub unrefused : old.fault ≡ None
  pub did : Applies old.book new.book (v.Clock moment)
  pub stage : new.stage ≡ s.Open
  pub running : new.running ≡ old.running
  pub fault : new.fault ≡ None
  pub sleepers : new.sleepers ≡ old.sleepers

-- who leads shows the next moment of its run. Where a call of the run was refused before, nothing changes, and the run ends. Else
-- the clock is taken, and a worker is woken where there is work and one is to be woken for it; or it is refused, and the run ends
abbrev pub Leads : ℕ → Lead → Under → Under → Type 0
Leads moment (l.Moves call) old new = (opened : Under) × Opens moment old opened × Wakes call.wanted opened new
Leads moment (l.Ends call) old new = ((new ≡ old) × IsSome old.fault) ⊎ ((old.fault ≡ None) × (fault : PoolError) × Refuses fault old new)
