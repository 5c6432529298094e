-- What `read_plan` answers where memory ran out.
use Rattle.plan_read.specs.declared.faults.PlanFault.{PlanFault}
use Rattle.plan_read.specs.declared.faults.PlanFaultKind.TheVariants.{Memory}

-- the answer where memory ran out, which says nothing of the text
abbrev pub out_of_memory : PlanFault
out_of_memory = record { kind = Memory; block = 0; call = 0 }
