-- The numbers that stand for statuses, kinds of faults and phases at C. (This project's rule.)
use Rattle.std.specs.Prelude.{ℕ, Bool, true, false}
use Rattle.plan_read.specs.declared.faults.PlanFaultKind.{PlanFaultKind}
use Rattle.plan_read.specs.declared.faults.PlanFaultKind.TheVariants as k
use Rattle.task_word.specs.declared.phases.Phase.{Phase}
use Rattle.task_word.specs.declared.phases.Phase.TheVariants as p
use Rattle.sched_c.specs.declared.status.Status.{Status}
use Rattle.sched_c.specs.declared.status.Status.TheVariants as s

-- how a call ended; 9 is the header's own, for a pointer that is NULL
abbrev pub number_of_status : Status → ℕ
number_of_status s.Done = 0
number_of_status s.NoMemory = 1
number_of_status s.NoExecutor = 2
number_of_status s.HasExecutor = 3
number_of_status s.NoPlan = 4
number_of_status s.Workers = 5
number_of_status s.Limit = 6
number_of_status s.Full = 7
number_of_status s.UnknownTask = 8
number_of_status s.NoWorker = 10
number_of_status s.NotStarted = 11

-- what is wrong with a plan's text; want of memory says nothing of it
abbrev pub number_of_kind : PlanFaultKind → ℕ
number_of_kind k.Memory = 0
number_of_kind k.TooLong = 1
number_of_kind k.Toml = 2
number_of_kind k.Version = 3
number_of_kind k.UnknownKey = 4
number_of_kind k.Missing = 5
number_of_kind k.WrongType = 6
number_of_kind k.BadUnit = 7
number_of_kind k.BadTimes = 8
number_of_kind k.Negative = 9
number_of_kind k.BadName = 10
number_of_kind k.DuplicateName = 11
number_of_kind k.UnknownName = 12
number_of_kind k.Ambiguous = 13
number_of_kind k.OutOfOrder = 14
number_of_kind k.TooLarge = 15
number_of_kind k.TooMany = 16

-- how far a task has come
abbrev pub number_of_phase : Phase → ℕ
number_of_phase p.Vacant = 0
number_of_phase p.New = 1
number_of_phase p.Running = 2
number_of_phase p.Done = 3
number_of_phase p.Failed = 4

-- a yes or a no
abbrev pub number_of_bool : Bool → ℕ
number_of_bool false = 0
number_of_bool true = 1
