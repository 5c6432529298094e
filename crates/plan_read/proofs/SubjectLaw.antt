-- The subject that a call's table writes, and its times.
use Rattle.std.proofs.Common.{◌≡◌, ℕ, pos, true, false, nat_le, Option, None, Some, if◌then◌else◌, codes, refl, inl, inr}
use Rattle.std.proofs.lemmas.Bool.{cases_Bool}
use Rattle.std.specs.Prelude.{int_lt}
use Rattle.toml.specs.Data.{Members}
use Rattle.sched_time.specs.Times.{longest}
use Rattle.plan_read.specs.declared.faults.Place.{Place}
use Rattle.plan_read.specs.declared.faults.PlanFaultKind.TheVariants.{TooLarge}
use Rattle.plan_read.specs.declared.faults.ReadError.{ReadError}
use Rattle.plan_read.specs.declared.faults.ReadError.TheVariants as errors
use Rattle.plan_read.specs.declared.plans.Header.{Header}
use Rattle.plan_read.specs.declared.sites.Site.{Site}
use Rattle.plan_read.specs.declared.units.Units.{Units}
use Rattle.plan_read.specs.declared.verbs.Verb.{Verb}
use Rattle.plan_read.specs.declared.verbs.Verb.TheVariants as verbs
use Rattle.plan_read.specs.own.Reads.{FailsWith}
use Rattle.plan_read.specs.own.Subjects.{subject_of, verb_with, call_with}
use Rattle.plan_read.specs.own.Values.{integer_or, span_at, op_of, timed_call}
use Rattle.plan_read.specs.own.Walk.{place_fault, time_tests, are_spans_short}

-- the operation of a table's subject is the table's
pub subject_verb : (verb : Verb) (found : Option Site) (ms : Members) → verb_with (subject_of verb found ms) ≡ verb
subject_verb verbs.Schedule found ms = refl
subject_verb verbs.Execute found ms = refl
subject_verb verbs.Rate found ms = refl
subject_verb verbs.Fixed found ms = refl
subject_verb verbs.Cancel found ms = refl
subject_verb verbs.Policy found ms = refl
subject_verb verbs.Shutdown found ms = refl
subject_verb verbs.ShutdownNow found ms = refl
subject_verb verbs.Ask found ms = refl

-- the call on a table's subject is the one that the table writes
pub subject_call : (verb : Verb) (found : Option Site) (units : Units) (ms : Members) → call_with (subject_of verb found ms) units ms ≡ timed_call verb found units ms
unfolding op_of
subject_call verbs.Schedule found units ms = refl
subject_call verbs.Execute found units ms = refl
subject_call verbs.Rate found units ms = refl
subject_call verbs.Fixed found units ms = refl
subject_call verbs.Cancel found units ms = refl
subject_call verbs.Policy found units ms = refl
subject_call verbs.Shutdown found units ms = refl
subject_call verbs.ShutdownNow found units ms = refl
subject_call verbs.Ask found units ms = refl

-- where the offset is not negative and short, the spans of the operation decide
pub spans_halt : (e : ReadError) (p : Place) (verb : Verb) (units : Units) (h : Header) (last : ℕ) (ms : Members)
    → int_lt (integer_or (pos 0) (codes "at") ms) (pos 0) ≡ false → nat_le (span_at units.at (codes "at") ms) longest ≡ true
    → FailsWith e (if are_spans_short verb units ms then None else Some (record { kind = TooLarge; block = p.block; call = p.call }))
    → FailsWith e (place_fault p (time_tests verb units h last ms))
unfolding time_tests
spans_halt errors.Memory p verb units h last ms forward short halts = tt
spans_halt (errors.Fault e) p verb units h last ms forward short halts =
    elim (cases_Bool (are_spans_short verb units ms)) [
      | inl t ↦ absurd (let e = rw t at halts in cc)
      | inr f ↦ rw (forward, short, f) (rw f at halts)
    ]
