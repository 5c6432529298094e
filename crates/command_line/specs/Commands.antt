-- Commands: the command lines that the program takes: `sched run PLAN --workers N [--limit N]`, `sched pool` with the same
-- arguments, `sched code PLAN`, `sched tasks PLAN`, `sched check PLAN TRACE --workers N`, `sched migrate PLAN`,
-- `sched draw PLAN TRACE --workers N [--from T] [--to T] [--marks M]`, `sched live --workers N [--plan FILE]` and
-- `sched lint [PLAN] [--events FILE | --trace FILE --workers N | --calls FILE] [--strict]`.
-- All of it is this project's rule, in the words that clap has for arguments and commands. The texts of help are no part of it.
use Rattle.std.specs.Prelude.{List, [], ◌∷◌, Some, true, false, pos, codes}
use Rattle.clap.specs.Words.{App, Rule, Text, new_rule}
use Rattle.clap.specs.Simple.{new_shape}
use Rattle.clap.specs.declared.builder.action.ArgAction.TheVariants.{Set, SetTrue}
use Rattle.clap.specs.declared.builder.value_parser.ValueParser.TheVariants.{Signed, Unsigned}
use Rattle.executor_model.specs.Counts.{most_workers}

-- PLAN: a text, which has to be there
abbrev pub plan_rule : Rule
plan_rule = record (new_rule (codes "plan")) { value_names = 1; required = true; action = Some Set }

-- PLAN of a lint: a text, which may be left out
abbrev pub plan_of_lint_rule : Rule
plan_of_lint_rule = record plan_rule { required = false }

-- TRACE: a text, which has to be there
abbrev pub trace_rule : Rule
trace_rule = record (new_rule (codes "trace")) { value_names = 1; required = true; action = Some Set }

-- --workers N: 1 to 64, which has to be there
abbrev pub workers_rule : Rule
workers_rule = record (new_rule (codes "workers")) {
  long = Some (codes "workers");
  value_names = 1;
  required = true;
  action = Some Set;
  parser = Some (Signed (pos 1) (pos most_workers));
}

-- --limit N: 1 to 4294967295, and 1000000 where it is left out
abbrev pub limit_rule : Rule
limit_rule = record (new_rule (codes "limit")) {
  long = Some (codes "limit");
  value_names = 1;
  action = Some Set;
  defaults = codes "1000000" ∷ [];
  parser = Some (Signed (pos 1) (pos 4294967295));
}

-- --plan FILE: a text, which may be left out
abbrev pub plan_file_rule : Rule
plan_file_rule = record (new_rule (codes "plan")) {
  long = Some (codes "plan");
  value_names = 1;
  action = Some Set;
}

-- --events FILE: a text, which may be left out
abbrev pub events_file_rule : Rule
events_file_rule = record (new_rule (codes "events")) { long = Some (codes "events"); value_names = 1; action = Some Set }

-- --trace FILE: a text, which may be left out
abbrev pub trace_file_rule : Rule
trace_file_rule = record (new_rule (codes "trace")) { long = Some (codes "trace"); value_names = 1; action = Some Set }

-- --workers N of a trace: 1 to 64, which may be left out
abbrev pub workers_of_trace_rule : Rule
workers_of_trace_rule = record workers_rule { required = false }

-- --calls FILE: a text, which may be left out
abbrev pub calls_file_rule : Rule
calls_file_rule = record (new_rule (codes "calls")) { long = Some (codes "calls"); value_names = 1; action = Some Set }

-- --strict: a flag
abbrev pub strict_rule : Rule
strict_rule = record (new_rule (codes "strict")) { long = Some (codes "strict"); action = Some SetTrue }

-- a moment: a text of a number of 64 bits, which may be left out
abbrev pub moment_rule : Text → Rule
moment_rule name = record (new_rule name) {
  long = Some name;
  value_names = 1;
  action = Some Set;
  parser = Some (Unsigned 0 18446744073709551615);
}

-- --from T
abbrev pub from_rule : Rule
from_rule = moment_rule (codes "from")

-- --to T
abbrev pub to_rule : Rule
to_rule = moment_rule (codes "to")

-- --marks M: a number of 64 bits, and 2000 where it is left out
abbrev pub marks_rule : Rule
marks_rule = record (new_rule (codes "marks")) {
  long = Some (codes "marks");
  value_names = 1;
  action = Some Set;
  defaults = codes "2000" ∷ [];
  parser = Some (Unsigned 0 18446744073709551615);
}

-- the arguments and options of a lint
abbrev pub lint_rules : List Rule
lint_rules = plan_of_lint_rule ∷ events_file_rule ∷ trace_file_rule ∷ workers_of_trace_rule ∷ calls_file_rule ∷ strict_rule ∷ []

-- a command of this name, with these arguments and options
abbrev pub command_of : Text → List Rule → App
command_of name rules = record { top = record (new_shape name) { rules = rules }; subs = [] }

-- the program, which has a version, and of which a command has to be named, beside clap's own `help`
abbrev pub sched_app : App
sched_app = record {
  top = record (new_shape (codes "sched")) { has_version = true; is_leaf = false; subcommand_required = true };
  subs = (command_of (codes "run") (plan_rule ∷ workers_rule ∷ limit_rule ∷ [])).top
      ∷ (command_of (codes "pool") (plan_rule ∷ workers_rule ∷ limit_rule ∷ [])).top
      ∷ (command_of (codes "code") (plan_rule ∷ [])).top
      ∷ (command_of (codes "tasks") (plan_rule ∷ [])).top
      ∷ (command_of (codes "check") (plan_rule ∷ trace_rule ∷ workers_rule ∷ [])).top
      ∷ (command_of (codes "migrate") (plan_rule ∷ [])).top
      ∷ (command_of (codes "draw") (plan_rule ∷ trace_rule ∷ workers_rule ∷ from_rule ∷ to_rule ∷ marks_rule ∷ [])).top
      ∷ (command_of (codes "live") (workers_rule ∷ plan_file_rule ∷ [])).top
      ∷ (command_of (codes "lint") lint_rules).top
      ∷ [];
}
