-- What a purge does in each state, and what it leaves as it was, whatever happens after it.
-- (ThreadPoolExecutor.purge, Java SE 17 documentation: "Tries to remove from the work queue all Future tasks that have been cancelled.
-- This method can be useful as a storage reclamation operation, that has no other impact on functionality.")
use Rattle.std.specs.Prelude.{◌≡◌, ℕ, false, List}
use Rattle.queue_code.specs.Calls.{Planned}
use Rattle.executor_model.specs.declared.types.Happening.{Happening}
use Rattle.executor_model.specs.declared.types.Happening.TheVariants as h
use Rattle.executor_model.specs.declared.types.Answer.{Answer}
use Rattle.executor_model.specs.declared.types.Answer.TheVariants as a
use Rattle.executor_model.specs.State.{State, next, after_from, reply_of}

-- a purge takes each kept task out of the queue, and does nothing else
abbrev pub PurgesTakeTheKept : Type 0
PurgesTakeTheKept = (calls : List Planned) (workers : ℕ) (s : State) → next calls workers s h.Purge ≡ record s { tasks = λ k. record (s.tasks k) { kept = false } }

-- an answer but for what an ask says of the queue: how many tasks stand in it, and so whether the executor is terminated
abbrev pub but_queue : Answer → Answer
but_queue (a.Ask queue running shut terminated) = a.Ask 0 running shut false
but_queue answer = answer

-- whatever happens after a purge has the answer, and ends the tasks, that it would without the purge, but for what an ask says of
-- the queue, and whether the executor is terminated
abbrev pub PurgesChangeAsksAlone : Type 0
PurgesChangeAsksAlone = (calls : List Planned) (workers : ℕ) (s : State) (later : List Happening) (happening : Happening)
    → let with_it = reply_of calls workers (after_from calls workers (next calls workers s h.Purge) later) happening in
    let without = reply_of calls workers (after_from calls workers s later) happening in
    (but_queue with_it.answer ≡ but_queue without.answer) × (with_it.ends ≡ without.ends)
