-- The calls of a plan, what they say of each task, and when its runs are due.
-- Where a definition names a class, its source is the Java SE 17 documentation of that class.
-- Where it names no source, it is this project's rule.
use Rattle.std.specs.Prelude.{◌≡◌, ℕ, ◌+◌, ◌<◌, ◌≤◌, ◌==◌, Bool, true, false, if◌then◌else◌, List, [], ◌∷◌, length, Option}
use Rattle.std.specs.List.{range_with_len}
use Rattle.sched_time.specs.Times.{longest}
use Rattle.sched_time.specs.Dues.{due_of_run}
use Rattle.sched_time.specs.declared.timing.Timing.{Timing}
use Rattle.sched_time.specs.declared.timing.Timing.TheVariants as t
use Rattle.queue_code.specs.declared.call.CodeCall.{CodeCall}
use Rattle.queue_code.specs.declared.call.CodeCall.TheVariants as c

-- a call with the moment at which it is made
-- (this project's rule: a plan call is made at its own moment, even where the clock jumps past it)
abbrev pub Planned : Type 0
Planned = ℕ × CodeCall

-- the greatest number of calls, and so of tasks and of the iterations of a loop (this project's limit)
abbrev pub most_calls_of_code : ℕ
most_calls_of_code = 65536

-- how many items of a list pass a test
abbrev pub how_many : {X : Type 0} → (X → Bool) → List X → ℕ
how_many test [] = 0
how_many test (x ∷ xs) = if test x then 1 + how_many test xs else how_many test xs

-- a call submits a task
abbrev pub submits_task : CodeCall → Bool
submits_task (c.Submit task timing delay) = true
submits_task (c.Illegal task) = true
submits_task _ = false

-- how many tasks some calls submit: submissions are numbered 0, 1, .. in the order of their
-- calls, and each is a task, also one that is not accepted
-- (this project's rule)
abbrev pub task_count : List Planned → ℕ
task_count calls = how_many (λ p. submits_task p.1) calls

-- the numbers of the tasks, ascending
abbrev pub numbers : List Planned → List ℕ
numbers calls = range_with_len 0 (task_count calls)

-- how many submissions there are after a call
abbrev pub count_after : ℕ → CodeCall → ℕ
count_after count (c.Submit task timing delay) = count + 1
count_after count (c.Illegal task) = count + 1
count_after count _ = count

-- a period, or a fixed delay, is within the limit, as each span is
abbrev pub IsTimed : Timing → Type 0
IsTimed t.Once = Unit {0}
IsTimed (t.Rate period) = period ≤ longest
IsTimed (t.Fixed delay) = delay ≤ longest

-- a submission has the next number, and its delay and its timing are within the limit; a cancel names an
-- earlier submission; every other call may stand anywhere
abbrev pub IsOrderlyCall : ℕ → CodeCall → Type 0
IsOrderlyCall count (c.Submit task timing delay) = (task ≡ count) × (delay ≤ longest) × IsTimed timing
IsOrderlyCall count (c.Illegal task) = task ≡ count
IsOrderlyCall count (c.Cancel task) = task < count
IsOrderlyCall count _ = Unit {0}

-- after `count` submissions and this moment: moments do not fall and are within the limit,
-- and each call is in order
abbrev pub IsOrderlyFrom : ℕ → ℕ → List Planned → Type 0
IsOrderlyFrom count moment [] = Unit {0}
IsOrderlyFrom count moment (p ∷ calls) =
    (moment ≤ p.0) × (p.0 ≤ longest) × IsOrderlyCall count p.1 × IsOrderlyFrom (count_after count p.1) p.0 calls

-- the calls are in the order in which they are made
abbrev pub IsOrderly : List Planned → Type 0
IsOrderly calls = IsOrderlyFrom 0 0 calls

-- the calls are few enough for a plan (this project's limit)
abbrev pub AreFew : List Planned → Type 0
AreFew calls = length calls ≤ most_calls_of_code

-- the calls are those that a plan may have: few enough, and in order
abbrev pub IsPlanned : List Planned → Type 0
IsPlanned calls = AreFew calls × IsOrderly calls

-- how a task is timed, and when its first run is due
pub record Terms : Type 0 where
  pub timing : Timing
  pub first : ℕ

-- the terms of task k where this call, made at this moment, comes before calls that give it the terms
-- `rest`: the call's own where it submits task k, and then it is first due its delay after the call
abbrev pub terms_in : ℕ → ℕ → CodeCall → Terms → Terms
terms_in k moment (c.Submit task timing delay) rest =
    if task == k then record { timing = timing; first = moment + delay } else rest
terms_in k moment _ rest = rest

-- the terms of task k, by its submission
abbrev pub terms_of : List Planned → ℕ → Terms
terms_of [] k = record { timing = t.Once; first = 0 }
terms_of (p ∷ calls) k = terms_in k p.0 p.1 (terms_of calls k)

-- the due moment of the run after n starts, where the last finish was at some moment
abbrev pub due_at : Terms → ℕ → Option ℕ → ℕ
due_at terms n last = due_of_run terms.timing terms.first n last
