use Rattle.std.proofs.Common.{◌≡◌, subst}
use Rattle.std.proofs.lemmas.Result.{err_from_is_err_and}
use Rattle.toml.specs.View.{table_view}
use Rattle.plan_read.specs.declared.plans.Call.{Call}
use Rattle.plan_read.specs.declared.subjects.Subject.{Subject}
use Rattle.plan_read.specs.declared.units.Units.{Units}
use Rattle.plan_read.specs.own.Reads.{Reads, found_in}
use Rattle.plan_read.specs.own.Subjects.{subject_of, verb_with, call_with}
use Rattle.plan_read.specs.own.Values.{verb_at, name_at, units_in}
use Rattle.plan_read.specs.own.Walk.{place_fault, verb_tests, key_tests, name_tests, time_tests}
use Rattle.plan_read.proofs.Failing.{first, second, third, last}
use Rattle.plan_read.proofs.GivenKeys.{keys_give, keys_plain}
use Rattle.plan_read.proofs.PlainReads.{if_ok}
use Rattle.plan_read.proofs.SubjectLaw.{subject_verb, subject_call}
use Rattle.plan_read.proofs.calls.read_call.Goals as goal

pub returns-in_err-verb-clause-call : goal.returns-in_err-verb-clause-call
returns-in_err-verb-clause-call g c =
    let q = err_from_is_err_and c.from_residual.result c.from_residual.ensures.1 in
    let ms = table_view c.args.table.now in
    rw (q.1, q.2) (first c.in_err-verb.field-0.0 c.args.place (verb_tests ms) _ _ _ (rw c.new-row.ensures.table at c.in_err-verb.ensures))

pub returns-in_err-units-clause-call : goal.returns-in_err-units-clause-call
returns-in_err-units-clause-call g c =
    let q = err_from_is_err_and c.from_residual-in_err-units.result c.from_residual-in_err-units.ensures.1 in
    let ms = table_view c.args.table.now in
    let verb : c.in_ok-verb.verb ≡ verb_at ms = rw c.new-row.ensures.table at c.in_ok-verb.ensures.1 in
    rw (q.1, q.2) (second c.in_err-units.field-0.0 c.args.place (verb_tests ms) (key_tests c.args.lists.now.version (verb_at ms) ms) _ _ (rw c.new-row.ensures.table at c.in_ok-verb.ensures.0) (rw (c.new-row.ensures.table, verb) at c.in_err-units.ensures))

pub returns-in_err-subject-clause-call : goal.returns-in_err-subject-clause-call
returns-in_err-subject-clause-call g c =
    let q = err_from_is_err_and c.from_residual-in_err-subject.result c.from_residual-in_err-subject.ensures.1 in
    let ms = table_view c.args.table.now in
    let found = found_in c.args.names.now (name_at ms) in
    let verb : c.in_ok-verb.verb ≡ verb_at ms = rw c.new-row.ensures.table at c.in_ok-verb.ensures.1 in
    rw (q.1, q.2) (third c.in_err-subject.field-0.0 c.args.place (verb_tests ms) (key_tests c.args.lists.now.version (verb_at ms) ms) (name_tests (verb_at ms) found c.args.site.target.block ms) _ (rw c.new-row.ensures.table at c.in_ok-verb.ensures.0) (rw (c.new-row.ensures.table, verb) at c.in_ok-units.ensures.0) (rw (c.new-row.ensures.table, verb) at c.in_err-subject.ensures.subject))

pub read_subject-requires : goal.read_subject-requires
read_subject-requires g c = keys_give c.args.place c.args.lists.now.version c.in_ok-verb.verb (table_view c.new-row.result.table.now) c.in_ok-units.ensures.0

pub read_timed-requires-clause-keys : goal.read_timed-requires-clause-keys
read_timed-requires-clause-keys g c =
    let ms = table_view c.args.table.now in
    let found = found_in c.args.names.now (name_at ms) in
    let verb : c.in_ok-verb.verb ≡ verb_at ms = rw c.new-row.ensures.table at c.in_ok-verb.ensures.1 in
    let subject : c.in_ok-subject.subject ≡ subject_of (verb_at ms) found ms = rw (c.new-row.ensures.table, verb) at c.in_ok-subject.ensures.subject.1 in
    rw (subject, subject_verb (verb_at ms) found ms, ← verb) (keys_give c.args.place c.args.lists.now.version c.in_ok-verb.verb (table_view c.new-row.result.table.now) c.in_ok-units.ensures.0)

pub returns-clause-plain : goal.returns-clause-plain
returns-clause-plain g c =
    if_ok c.read_timed.result (keys_plain c.args.place c.args.lists.now.version c.in_ok-verb.verb c.args.table.now.entries c.new-row.ensures.ordered (rw c.new-row.ensures.table at c.in_ok-units.ensures.0))

pub returns-clause-call : goal.returns-clause-call
returns-clause-call g c =
    let p = c.args.place in
    let h = c.args.header in
    let ms = table_view c.args.table.now in
    let found = found_in c.args.names.now (name_at ms) in
    let verb : c.in_ok-verb.verb ≡ verb_at ms = rw c.new-row.ensures.table at c.in_ok-verb.ensures.1 in
    let units : c.in_ok-units.units ≡ units_in c.args.lists.now.version h.unit ms = rw c.new-row.ensures.table at c.in_ok-units.ensures.1 in
    let subject : c.in_ok-subject.subject ≡ subject_of (verb_at ms) found ms = rw (c.new-row.ensures.table, verb) at c.in_ok-subject.ensures.subject.1 in
    let scaled = subst (λ (u : Units). Reads (λ (k : Call). k) c.read_timed.result (place_fault p (time_tests (verb_with c.in_ok-subject.subject) u h c.args.last ms)) (call_with c.in_ok-subject.subject u ms)) units (rw c.new-row.ensures.table at c.read_timed.ensures) in
    let read = subst (λ (s : Subject). Reads (λ (k : Call). k) c.read_timed.result (place_fault p (time_tests (verb_with s) (units_in c.args.lists.now.version h.unit ms) h c.args.last ms)) (call_with s (units_in c.args.lists.now.version h.unit ms) ms)) subject scaled in
    rw (last p (verb_tests ms) (key_tests c.args.lists.now.version (verb_at ms) ms) (name_tests (verb_at ms) found c.args.site.target.block ms) (time_tests (verb_at ms) (units_in c.args.lists.now.version h.unit ms) h c.args.last ms) (rw c.new-row.ensures.table at c.in_ok-verb.ensures.0) (rw (c.new-row.ensures.table, verb) at c.in_ok-units.ensures.0) (rw (c.new-row.ensures.table, verb) at c.in_ok-subject.ensures.subject.0))
    (rw (subject_verb (verb_at ms) found ms, subject_call (verb_at ms) found (units_in c.args.lists.now.version h.unit ms) ms) at read)
