-- What the happenings of a history are answered, by counting in what stands before each of them.
-- A history is a list of entries, the newest first: what stands before an entry is the rest of the list
-- behind it. Counting in a history is this project's rule, and so is all that is said here.
use Rattle.std.specs.Prelude.{◌≡◌, ℕ, ◌+◌, ◌<◌, ◌≤◌, ◌==◌, ◌&&◌, ◌||◌, not, nat_le, Bool, true, false, if◌then◌else◌, List, [], ◌∷◌, length, map, Option, Some, None, slice_get}
use Rattle.std.specs.List.{list_any}
use Rattle.sched_time.specs.declared.policies.Policies.{Policies}
use Rattle.executor_model.specs.declared.types.Happening.{Happening}
use Rattle.executor_model.specs.declared.types.Happening.TheVariants as h
use Rattle.executor_model.specs.declared.types.CancelEffect.{CancelEffect}
use Rattle.executor_model.specs.declared.types.CancelEffect.TheVariants as f
use Rattle.executor_model.specs.declared.types.Outcome.{Outcome}
use Rattle.executor_model.specs.declared.types.Outcome.TheVariants as o
use Rattle.executor_model.specs.declared.types.Answer.{Answer}
use Rattle.executor_model.specs.declared.types.Answer.TheVariants as a
use Rattle.delay_queue.specs.Queues.{comes_before}
use Rattle.queue_code.specs.Calls.{Planned, how_many, terms_of, due_at}
use Rattle.executor_model.specs.View.{Fate, View, is_waiting}
use Rattle.executor_model.specs.Answers.{Reply, reply, moment_after, is_accepted, setting_sweeps}
use Rattle.sched_time.specs.Policies.{default_policies, set_policy}

-- a happening with its answer, and the tasks that the answer ends
pub record HistoryEntry : Type 0 where
  pub happening : Happening
  pub answer : Answer
  pub ends : List ℕ

-- the entry of a happening that has such a reply
abbrev pub entry_of : Happening → Reply → HistoryEntry
entry_of happening r = record { happening = happening; answer = r.answer; ends = r.ends }

-- the happenings of a history, the newest first
abbrev pub happenings : List HistoryEntry → List Happening
happenings past = map (λ e. e.happening) past

-- ---- what is told by the happenings alone

-- a happening is a call of the plan, and no event
abbrev pub is_call : Happening → Bool
is_call h.Call = true
is_call _ = false

-- how many calls were made after a happening, by how many were made before it
abbrev pub made_after : ℕ → Happening → ℕ
made_after made happening = if is_call happening then 1 + made else made

-- how many calls were made
abbrev pub made : List Happening → ℕ
made past = how_many is_call past

-- now: the greatest moment of the calls made and the accepted clocks, 0 before any
abbrev pub now_of : List Planned → List Happening → ℕ
now_of calls [] = 0
now_of calls (happening ∷ past) = moment_after (now_of calls past) (slice_get calls (made past)) happening

-- ---- what is told by an answer

-- an answer says that task k was submitted
abbrev pub is_submit : ℕ → Answer → Bool
is_submit k (a.Submit task kind due) = task == k
is_submit k _ = false

-- an answer says that a run of task k was started
abbrev pub is_start : ℕ → Answer → Bool
is_start k (a.Start worker task run due) = task == k
is_start k _ = false

-- an answer says that a run of task k was finished
abbrev pub is_finish : ℕ → Answer → Bool
is_finish k (a.Finish worker task run outcome) = task == k
is_finish k _ = false

-- an answer says that a run of task k was finished, with an outcome that passes a test
abbrev pub is_finish_with : (Outcome → Bool) → ℕ → Answer → Bool
is_finish_with test k (a.Finish worker task run outcome) = (task == k) && test outcome
is_finish_with test k _ = false

-- an outcome says that the task's one run gave a value
abbrev pub is_done : Outcome → Bool
is_done (o.Done value) = true
is_done _ = false

-- an outcome says that the run failed
abbrev pub is_failed : Outcome → Bool
is_failed (o.Failed code) = true
is_failed _ = false

-- a cancel had an effect
abbrev pub had_effect : CancelEffect → Bool
had_effect f.Yes = true
had_effect _ = false

-- an answer says that task k was cancelled, by the plan or from outside
abbrev pub is_cancel : ℕ → Answer → Bool
is_cancel k (a.Cancel task effect) = (task == k) && had_effect effect
is_cancel k (a.Outside task effect) = (task == k) && had_effect effect
is_cancel k _ = false

-- an outcome says that the run was the last one of a periodic task that does not go on
abbrev pub is_ended : Outcome → Bool
is_ended o.Ended = true
is_ended _ = false

-- task k is one of those that an answer ends
abbrev pub is_end : ℕ → List ℕ → Bool
is_end k ends = list_any (λ j. j == k) ends

-- an answer, with the tasks that it ends, says that task k is cancelled from then on: a cancel of it had an effect,
-- it is ended, or its last run ended it
abbrev pub cancels : ℕ → Answer → List ℕ → Bool
cancels k answer ends = is_cancel k answer || (is_end k ends || is_finish_with is_ended k answer)

-- the policies after an answer
abbrev pub policies_after : Answer → Policies → Policies
policies_after (a.Policy which value) before = set_policy which value before
policies_after _ before = before

-- an answer says that a call to shut down was made, orderly or at once
abbrev pub is_shutdown : Answer → Bool
is_shutdown a.Shutdown = true
is_shutdown a.ShutdownAgain = true
is_shutdown a.ShutdownNow = true
is_shutdown _ = false

-- an answer says that a call to shut down at once was made
abbrev pub is_stop : Answer → Bool
is_stop a.ShutdownNow = true
is_stop _ = false

-- an answer says that there was a sweep, where the executor was shut before it or not: it is the first shutdown, or one at once, or
-- sets the continue or the execute policy to false while the executor is shut
abbrev pub is_sweep : Bool → Answer → Bool
is_sweep shut a.Shutdown = not shut
is_sweep shut a.ShutdownNow = true
is_sweep shut (a.Policy which value) = setting_sweeps shut which value
is_sweep shut _ = false

-- an answer meets task k, which is kept and due at `due`: each purge does, and a start that is not refused does where its due
-- moment is reached, and the start gets no task, or one after it in the order
-- (of a purge ThreadPoolExecutor.purge: "Tries to remove from the work queue all Future tasks that have been cancelled.")
abbrev pub meets : View → ℕ → ℕ → Answer → Bool
meets v due k (a.Idle worker) = nat_le due v.moment
meets v due k (a.Start worker task run at) = nat_le due v.moment && comes_before due k (v.fate task).due task
meets v due k a.Purge = true
meets v due k _ = false

-- task k is kept after an answer, in the view before it: there was no sweep, and it was kept and is not met, or is
-- cancelled while it waits and the remove policy does not say that it leaves
abbrev pub kept_after : View → ℕ → Answer → Bool
kept_after v k answer = not (is_sweep v.shut answer)
    && (((v.fate k).kept && not (meets v (v.fate k).due k answer)) || (is_cancel k answer && (is_waiting (v.fate k) && not v.policies.removes)))

-- the task of a worker after an answer
abbrev pub work_after : ℕ → Answer → Option ℕ → Option ℕ
work_after w (a.Start worker task run due) before = if worker == w then Some task else before
work_after w (a.Finish worker task run outcome) before = if worker == w then None else before
work_after w _ before = before

-- ---- what is told by counting in a history

-- how often task k was started
abbrev pub starts : ℕ → List HistoryEntry → ℕ
starts k past = how_many (λ e. is_start k e.answer) past

-- how often task k was finished
abbrev pub finishes : ℕ → List HistoryEntry → ℕ
finishes k past = how_many (λ e. is_finish k e.answer) past

-- the moment of the last finish of task k, and none before any
abbrev pub last_finish : List Planned → ℕ → List HistoryEntry → Option ℕ
last_finish calls k [] = None
last_finish calls k (e ∷ past) = if is_finish k e.answer then Some (now_of calls (happenings past)) else last_finish calls k past

-- the submission of task k was accepted
abbrev pub was_accepted : ℕ → List HistoryEntry → Bool
was_accepted k past = list_any (λ e. is_submit k e.answer) past

-- task k was cancelled, or ended
abbrev pub was_cancelled : ℕ → List HistoryEntry → Bool
was_cancelled k past = list_any (λ e. cancels k e.answer e.ends) past

-- the one run of task k was finished with a value
abbrev pub was_done : ℕ → List HistoryEntry → Bool
was_done k past = list_any (λ e. is_finish_with is_done k e.answer) past

-- a run of task k failed
abbrev pub was_failed : ℕ → List HistoryEntry → Bool
was_failed k past = list_any (λ e. is_finish_with is_failed k e.answer) past

-- the task that a worker started and has not finished
-- (the law `work_is_the_last_start` says it as a sentence: the task of the worker's last start, where no finish by it came
-- after; and `starts_exceed_finishes`, that a worker works exactly where it started once more than it finished)
abbrev pub work_of : ℕ → List HistoryEntry → Option ℕ
work_of w [] = None
work_of w (e ∷ past) = work_after w e.answer (work_of w past)

-- the due moment of the next run of task k
abbrev pub due_of : List Planned → List HistoryEntry → ℕ → ℕ
due_of calls past k = due_at (terms_of calls k) (starts k past) (last_finish calls k past)

-- the policies that are set last, and the defaults where none was set
abbrev pub policies_of : List HistoryEntry → Policies
policies_of [] = default_policies
policies_of (e ∷ past) = policies_after e.answer (policies_of past)

-- a call to shut down was made, orderly or at once
abbrev pub was_shut : List HistoryEntry → Bool
was_shut past = list_any (λ e. is_shutdown e.answer) past

-- a call to shut down at once was made
abbrev pub was_stopped : List HistoryEntry → Bool
was_stopped past = list_any (λ e. is_stop e.answer) past

-- what a history tells of task k, which is kept or not
abbrev pub fate_with : List Planned → List HistoryEntry → ℕ → Bool → Fate
fate_with calls past k kept = record {
  accepted = was_accepted k past;
  cancelled = was_cancelled k past;
  done = was_done k past;
  failed = was_failed k past;
  starts = starts k past;
  finishes = finishes k past;
  due = due_of calls past k;
  kept = kept;
}

-- what the answer after a history looks at, with the tasks that are kept
abbrev pub view_with : List Planned → List HistoryEntry → (ℕ → Bool) → View
view_with calls past kept = record {
  made = made (happenings past);
  moment = now_of calls (happenings past);
  fate = λ k. fate_with calls past k (kept k);
  work = λ w. work_of w past;
  policies = policies_of past;
  shut = was_shut past;
  stopped = was_stopped past;
}

-- task k was cancelled while it waited, and still stands in the queue
-- (the law `kept_by_positions` says it as a sentence: at some position it was cancelled while it waited and the remove policy
-- was false, and at no position since was there a sweep, a purge, or a start that was not refused, at or after the due moment
-- that it had, that was idle or got a task after it in the order)
abbrev pub is_kept : List Planned → List HistoryEntry → ℕ → Bool
is_kept calls [] k = false
is_kept calls (e ∷ past) k = kept_after (view_with calls past (λ j. is_kept calls past j)) k e.answer

-- what the answer after a history looks at
abbrev pub view_of_history : List Planned → List HistoryEntry → View
view_of_history calls past = view_with calls past (λ k. is_kept calls past k)

-- the answer to what happens after a history
abbrev pub answer : List Planned → ℕ → List HistoryEntry → Happening → Reply
answer calls workers past happening = reply calls workers (view_of_history calls past) happening

-- each call with a moment of at most this one was made
abbrev pub AreMade : List Planned → ℕ → ℕ → Type 0
AreMade calls made moment = (n : ℕ) (p : Planned) → slice_get calls n ≡ Some p → p.0 ≤ moment → n < made

-- what may come where so many calls were made and this is the moment: an accepted clock finds each call made whose
-- moment it has reached, a call needs one that is not made yet, and all else may come
-- (which numbers a happening names, as that of a worker, is not looked at here: the table answers each)
abbrev pub MayFrom : List Planned → ℕ → ℕ → Happening → Type 0
MayFrom calls made now h.Call = made < length calls
MayFrom calls made now (h.Clock moment) = is_accepted now moment ≡ true → AreMade calls made moment
MayFrom calls made now _ = Unit {0}

-- what may come after some happenings
abbrev pub MayCome : List Planned → List Happening → Happening → Type 0
MayCome calls past happening = MayFrom calls (made past) (now_of calls past) happening

-- the happenings are a flow of the calls, and each answer is the one that it has to be
-- (the law `lines_are_in_range` gives the ranges of what its lines show)
abbrev pub IsHistoryOf : List Planned → ℕ → List HistoryEntry → Type 0
IsHistoryOf calls workers [] = Unit {0}
IsHistoryOf calls workers (e ∷ past) = IsHistoryOf calls workers past × MayCome calls (happenings past) e.happening
    × (e.answer ≡ (answer calls workers past e.happening).answer) × (e.ends ≡ (answer calls workers past e.happening).ends)
