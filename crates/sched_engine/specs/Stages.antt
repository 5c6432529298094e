-- Stages: what a caller is told of an error of the compiling, of the opening of a run, and of its way.
-- All of it is this project's rule.
use Rattle.sched_engine.specs.declared.report.CodeError.{CodeError}
use Rattle.sched_engine.specs.declared.report.CodeError.TheVariants as c
use Rattle.sched_engine.specs.declared.report.OpenError.{OpenError}
use Rattle.sched_engine.specs.declared.report.OpenError.TheVariants as o
use Rattle.sched_engine.specs.declared.report.StopError.{StopError}
use Rattle.sched_engine.specs.declared.report.StopError.TheVariants as s
use Rattle.sched_engine.specs.declared.report.RunError.{RunError}
use Rattle.sched_engine.specs.declared.report.RunError.TheVariants as x

-- no code, so no run
abbrev pub opening_of : CodeError → OpenError
opening_of (c.Plan fault) = o.Plan fault
opening_of c.Memory = o.Memory

abbrev pub told_of_code : CodeError → RunError
told_of_code (c.Plan fault) = x.Plan fault
told_of_code c.Memory = x.Memory

abbrev pub told_of_opening : OpenError → RunError
told_of_opening (o.Plan fault) = x.Plan fault
told_of_opening o.Workers = x.Workers
told_of_opening o.Limit = x.Limit
told_of_opening o.Memory = x.Memory

abbrev pub told_of_stop : StopError → RunError
told_of_stop (s.EventLine n) = x.EventLine n
told_of_stop s.Full = x.Full
told_of_stop s.Read = x.Read
told_of_stop s.Write = x.Write
told_of_stop s.Memory = x.Memory
