-- What the table of a call has at each key, with its offset and without.
use Rattle.std.proofs.Common.{◌≡◌, ℕ, pos, Bool, true, false, if◌then◌else◌, List, Some, None, codes, refl}
use Rattle.toml.specs.Data.{string, integer, boolean, Members, get_member}
use Rattle.sched_time.specs.declared.policies.Which.TheVariants.{Continue, Execute, Remove}
use Rattle.plan_read.specs.declared.verbs.Verb.{Verb}
use Rattle.plan_read.specs.declared.verbs.Verb.TheVariants as verbs
use Rattle.plan_read.specs.declared.versions.Version.TheVariants.{Two}
use Rattle.plan_read.specs.Keys.{call_keys}
use Rattle.plan_read.specs.Writes.{Has, HasOnly, HasRequired, AreTyped, NamesVerb}
use Rattle.call_text.specs.declared.call.CallLine.{CallLine}
use Rattle.call_text.specs.declared.call.CallLine.TheVariants as call
use Rattle.call_journal.specs.Plans.{task_name, which_word, written, with_span, own_members}
use Rattle.call_journal.proofs.Nanos.{AreInNanos}

-- the operation of a call
abbrev pub verb_of_line : CallLine → Verb
verb_of_line (call.Schedule delay) = verbs.Schedule
verb_of_line call.Execute = verbs.Execute
verb_of_line (call.Rate first period) = verbs.Rate
verb_of_line (call.Fixed first delay) = verbs.Fixed
verb_of_line (call.Cancel other) = verbs.Cancel
verb_of_line (call.Policy which value) = verbs.Policy
verb_of_line call.Shutdown = verbs.Shutdown
verb_of_line call.ShutdownNow = verbs.ShutdownNow
verb_of_line call.Ask = verbs.Ask

-- the table of a call, where `zero` says that its offset is 0
abbrev pub table_at : Bool → ℕ → ℕ → CallLine → Members
table_at zero nanos task c = if zero then own_members task c else with_span (codes "at") nanos (own_members task c)

-- the name of a task stands at `name`
abbrev pub NameIs : Members → ℕ → Type 0
NameIs ms task = Has ms (codes "name") (string (task_name task))

-- a span stands at a key
abbrev pub SpanIs : Members → List ℕ → ℕ → Type 0
SpanIs ms key nanos = Has ms key (integer (pos (written nanos)))

-- what else the table of a call has
abbrev pub HasOwn : Members → ℕ → CallLine → Type 0
HasOwn ms task (call.Schedule delay) = NameIs ms task × SpanIs ms (codes "delay") delay
HasOwn ms task call.Execute = NameIs ms task
HasOwn ms task (call.Rate first period) = NameIs ms task × SpanIs ms (codes "first") first × SpanIs ms (codes "period") period
HasOwn ms task (call.Fixed first delay) = NameIs ms task × SpanIs ms (codes "first") first × SpanIs ms (codes "delay") delay
HasOwn ms task (call.Cancel other) = NameIs ms other
HasOwn ms task (call.Policy which value) = Has ms (codes "which") (string (which_word which)) × Has ms (codes "value") (boolean value)
HasOwn ms task _ = Unit {0}

-- the table is that of a call
pub record IsTableOf (ms : Members) (zero : Bool) (nanos task : ℕ) (c : CallLine) : Type 0 where
  pub verb : NamesVerb ms (verb_of_line c)
  pub only : HasOnly (call_keys Two (verb_of_line c)) ms
  pub required : HasRequired (call_keys Two (verb_of_line c)) ms
  pub typed : AreTyped (call_keys Two (verb_of_line c)) ms
  pub units : AreInNanos ms
  pub own : HasOwn ms task c
  pub offset : get_member (codes "at") ms ≡ (if zero then None else Some (integer (pos (written nanos))))

-- so it is of each call
pub is_table : (zero : Bool) (nanos task : ℕ) (c : CallLine) → IsTableOf (table_at zero nanos task c) zero nanos task c
is_table true nanos task (call.Schedule delay) =
    record { verb = (codes "schedule", refl, refl); only = refl; required = refl; typed = refl; units = (refl, refl, refl, refl, refl); own = (refl, refl); offset = refl }
is_table true nanos task call.Execute =
    record { verb = (codes "execute", refl, refl); only = refl; required = refl; typed = refl; units = (refl, refl, refl, refl, refl); own = refl; offset = refl }
is_table true nanos task (call.Rate first period) =
    record { verb = (codes "rate", refl, refl); only = refl; required = refl; typed = refl; units = (refl, refl, refl, refl, refl); own = (refl, refl, refl); offset = refl }
is_table true nanos task (call.Fixed first delay) =
    record { verb = (codes "fixed", refl, refl); only = refl; required = refl; typed = refl; units = (refl, refl, refl, refl, refl); own = (refl, refl, refl); offset = refl }
is_table true nanos task (call.Cancel other) =
    record { verb = (codes "cancel", refl, refl); only = refl; required = refl; typed = refl; units = (refl, refl, refl, refl, refl); own = refl; offset = refl }
is_table true nanos task (call.Policy Continue value) =
    record { verb = (codes "policy", refl, refl); only = refl; required = refl; typed = refl; units = (refl, refl, refl, refl, refl); own = (refl, refl); offset = refl }
is_table true nanos task (call.Policy Execute value) =
    record { verb = (codes "policy", refl, refl); only = refl; required = refl; typed = refl; units = (refl, refl, refl, refl, refl); own = (refl, refl); offset = refl }
is_table true nanos task (call.Policy Remove value) =
    record { verb = (codes "policy", refl, refl); only = refl; required = refl; typed = refl; units = (refl, refl, refl, refl, refl); own = (refl, refl); offset = refl }
is_table true nanos task call.Shutdown =
    record { verb = (codes "shutdown", refl, refl); only = refl; required = refl; typed = refl; units = (refl, refl, refl, refl, refl); own = tt; offset = refl }
is_table true nanos task call.ShutdownNow =
    record { verb = (codes "shutdown_now", refl, refl); only = refl; required = refl; typed = refl; units = (refl, refl, refl, refl, refl); own = tt; offset = refl }
is_table true nanos task call.Ask =
    record { verb = (codes "ask", refl, refl); only = refl; required = refl; typed = refl; units = (refl, refl, refl, refl, refl); own = tt; offset = refl }
is_table false nanos task (call.Schedule delay) =
    record { verb = (codes "schedule", refl, refl); only = refl; required = refl; typed = refl; units = (refl, refl, refl, refl, refl); own = (refl, refl); offset = refl }
is_table false nanos task call.Execute =
    record { verb = (codes "execute", refl, refl); only = refl; required = refl; typed = refl; units = (refl, refl, refl, refl, refl); own = refl; offset = refl }
is_table false nanos task (call.Rate first period) =
    record { verb = (codes "rate", refl, refl); only = refl; required = refl; typed = refl; units = (refl, refl, refl, refl, refl); own = (refl, refl, refl); offset = refl }
is_table false nanos task (call.Fixed first delay) =
    record { verb = (codes "fixed", refl, refl); only = refl; required = refl; typed = refl; units = (refl, refl, refl, refl, refl); own = (refl, refl, refl); offset = refl }
is_table false nanos task (call.Cancel other) =
    record { verb = (codes "cancel", refl, refl); only = refl; required = refl; typed = refl; units = (refl, refl, refl, refl, refl); own = refl; offset = refl }
is_table false nanos task (call.Policy Continue value) =
    record { verb = (codes "policy", refl, refl); only = refl; required = refl; typed = refl; units = (refl, refl, refl, refl, refl); own = (refl, refl); offset = refl }
is_table false nanos task (call.Policy Execute value) =
    record { verb = (codes "policy", refl, refl); only = refl; required = refl; typed = refl; units = (refl, refl, refl, refl, refl); own = (refl, refl); offset = refl }
is_table false nanos task (call.Policy Remove value) =
    record { verb = (codes "policy", refl, refl); only = refl; required = refl; typed = refl; units = (refl, refl, refl, refl, refl); own = (refl, refl); offset = refl }
is_table false nanos task call.Shutdown =
    record { verb = (codes "shutdown", refl, refl); only = refl; required = refl; typed = refl; units = (refl, refl, refl, refl, refl); own = tt; offset = refl }
is_table false nanos task call.ShutdownNow =
    record { verb = (codes "shutdown_now", refl, refl); only = refl; required = refl; typed = refl; units = (refl, refl, refl, refl, refl); own = tt; offset = refl }
is_table false nanos task call.Ask =
    record { verb = (codes "ask", refl, refl); only = refl; required = refl; typed = refl; units = (refl, refl, refl, refl, refl); own = tt; offset = refl }
