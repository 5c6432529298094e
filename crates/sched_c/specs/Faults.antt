-- The faults of plans' texts, as numbers. (This project's rule.)
use Rattle.plan_read.specs.declared.faults.PlanFault.{PlanFault}
use Rattle.sched_c.specs.Numbers.{number_of_kind}
use Rattle.sched_c.specs.declared.fault.Fault.{Fault}

-- the numbers of a fault
abbrev pub fault_of : PlanFault → Fault
fault_of f = record { kind = number_of_kind f.kind; block = f.block; call = f.call }

-- nothing is wrong
abbrev pub no_fault : Fault
no_fault = record { kind = 0; block = 0; call = 0 }
