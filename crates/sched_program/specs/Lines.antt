-- Lines: the line on standard error that tells why the program gives up.
-- All of it is this project's rule. Numbers are decimals with no leading zero.
use Rattle.std.specs.Prelude.{List, ℕ, ◌++◌, codes}
use Rattle.std.specs.Fmt.{decimal}
use Rattle.plan_read.specs.declared.faults.PlanFault.{PlanFault}
use Rattle.plan_read.specs.declared.faults.PlanFaultKind.{PlanFaultKind}
use Rattle.plan_read.specs.declared.faults.PlanFaultKind.TheVariants as kinds
use Rattle.sched_engine.specs.declared.report.RunError.{RunError}
use Rattle.sched_engine.specs.declared.report.RunError.TheVariants as x
use Rattle.command_work.specs.declared.error.ProgramError.{ProgramError}
use Rattle.command_work.specs.declared.error.ProgramError.TheVariants as f

-- the name of a kind of plan fault
abbrev pub kind_name : PlanFaultKind → List ℕ
kind_name kinds.TooLong = codes "TooLong"
kind_name kinds.Toml = codes "Toml"
kind_name kinds.Version = codes "Version"
kind_name kinds.UnknownKey = codes "UnknownKey"
kind_name kinds.Missing = codes "Missing"
kind_name kinds.WrongType = codes "WrongType"
kind_name kinds.BadUnit = codes "BadUnit"
kind_name kinds.BadTimes = codes "BadTimes"
kind_name kinds.Negative = codes "Negative"
kind_name kinds.BadName = codes "BadName"
kind_name kinds.DuplicateName = codes "DuplicateName"
kind_name kinds.UnknownName = codes "UnknownName"
kind_name kinds.Ambiguous = codes "Ambiguous"
kind_name kinds.OutOfOrder = codes "OutOfOrder"
kind_name kinds.TooLarge = codes "TooLarge"
kind_name kinds.TooMany = codes "TooMany"
kind_name kinds.Memory = codes "Memory"

-- why a plan is none
abbrev pub plan_fault_text : PlanFault → List ℕ
plan_fault_text fault = codes "plan: " ++ kind_name fault.kind ++ codes " block " ++ decimal fault.block ++ codes " call " ++ decimal fault.call

-- why a run, a listing or a check ended
abbrev pub run_error_text : RunError → List ℕ
run_error_text (x.Plan fault) = plan_fault_text fault
run_error_text x.Workers = codes "the number of workers is not 1 to 64"
run_error_text x.Limit = codes "the limit on events is 0"
run_error_text (x.EventLine line) = codes "event line " ++ decimal line
run_error_text x.Full = codes "full"
run_error_text x.Read = codes "read fault"
run_error_text x.Write = codes "write fault"
run_error_text x.Lost = codes "lost"
run_error_text x.Memory = codes "out of memory"

-- why the program gives up
abbrev pub reason_text : ProgramError → List ℕ
reason_text f.Arguments = codes "command line not UTF-8"
reason_text f.LintOptions = codes "lint takes PLAN, or it and --events, or it, --trace and --workers, or --calls alone"
reason_text f.PlanFile = codes "plan file not read"
reason_text f.PlanUnwritten = codes "plan file not written"
reason_text f.TraceFile = codes "trace file not read"
reason_text f.TraceTooLong = codes "trace file too long"
reason_text f.EndsFirst = codes "the picture ends before it begins"
reason_text (f.Crowded marks) = decimal marks ++ codes " marks or bars are too many: --from and --to narrow the picture"
reason_text (f.Run error) = run_error_text error

-- the line that tells it, with its newline
abbrev pub error_line : ProgramError → List ℕ
error_line error = codes "sched: " ++ reason_text error ++ codes "\n"
