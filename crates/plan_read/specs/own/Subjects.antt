-- What a call is about, as `subjects` reads it: its operation with the name or the target that it gives, what has to be there for
-- that, and what such a subject stands for.
-- All of it is this project's rule.
use Rattle.std.specs.Prelude.{◌≡◌, true, Option, codes}
use Rattle.toml.specs.Data.{Members}
use Rattle.plan_read.specs.declared.plans.Call.{Call}
use Rattle.plan_read.specs.declared.plans.Op.{Op}
use Rattle.plan_read.specs.declared.plans.Op.TheVariants as ops
use Rattle.plan_read.specs.declared.sites.Site.{Site}
use Rattle.plan_read.specs.declared.subjects.Subject.{Subject}
use Rattle.plan_read.specs.declared.subjects.Subject.TheVariants as subjects
use Rattle.plan_read.specs.declared.units.Units.{Units}
use Rattle.plan_read.specs.declared.verbs.Verb.{Verb}
use Rattle.plan_read.specs.declared.verbs.Verb.TheVariants as verbs
use Rattle.plan_read.specs.declared.versions.Version.TheVariants.{One}
use Rattle.plan_read.specs.Keys.{call_keys, has_required, are_typed}
use Rattle.plan_read.specs.own.Values.{name_at, target_of, span_at, period_at, which_at, truth_at}

-- what an operation asks for is there, and of its type
abbrev pub AreGiven : Verb → Members → Type 0
AreGiven verb ms = (has_required (call_keys One verb) ms ≡ true) × (are_typed (call_keys One verb) ms ≡ true)

-- that of a table with this operation, where `found` is the submission of its name that stands before it
abbrev pub subject_of : Verb → Option Site → Members → Subject
subject_of verbs.Schedule found ms = subjects.Schedule (name_at ms)
subject_of verbs.Execute found ms = subjects.Execute (name_at ms)
subject_of verbs.Rate found ms = subjects.Rate (name_at ms)
subject_of verbs.Fixed found ms = subjects.Fixed (name_at ms)
subject_of verbs.Cancel found ms = subjects.Cancel (target_of found)
subject_of verbs.Policy found ms = subjects.Policy
subject_of verbs.Shutdown found ms = subjects.Shutdown
subject_of verbs.ShutdownNow found ms = subjects.ShutdownNow
subject_of verbs.Ask found ms = subjects.Ask

-- the operation of a subject
abbrev pub verb_with : Subject → Verb
verb_with (subjects.Schedule name) = verbs.Schedule
verb_with (subjects.Execute name) = verbs.Execute
verb_with (subjects.Rate name) = verbs.Rate
verb_with (subjects.Fixed name) = verbs.Fixed
verb_with (subjects.Cancel target) = verbs.Cancel
verb_with subjects.Policy = verbs.Policy
verb_with subjects.Shutdown = verbs.Shutdown
verb_with subjects.ShutdownNow = verbs.ShutdownNow
verb_with subjects.Ask = verbs.Ask

-- what a call on a subject asks for, with its times in these units
abbrev pub op_with : Subject → Units → Members → Op
op_with (subjects.Schedule name) units ms = ops.Schedule name (span_at units.delay (codes "delay") ms)
op_with (subjects.Execute name) units ms = ops.Execute name
op_with (subjects.Rate name) units ms = ops.Rate name (span_at units.first (codes "first") ms) (period_at units.period (codes "period") ms)
op_with (subjects.Fixed name) units ms = ops.Fixed name (span_at units.first (codes "first") ms) (period_at units.delay (codes "delay") ms)
op_with (subjects.Cancel target) units ms = ops.Cancel target
op_with subjects.Policy units ms = ops.Policy (which_at ms) (truth_at (codes "value") ms)
op_with subjects.Shutdown units ms = ops.Shutdown
op_with subjects.ShutdownNow units ms = ops.ShutdownNow
op_with subjects.Ask units ms = ops.Ask

-- the call on a subject
abbrev pub call_with : Subject → Units → Members → Call
call_with subject units ms = record { at = span_at units.at (codes "at") ms; op = op_with subject units ms }
