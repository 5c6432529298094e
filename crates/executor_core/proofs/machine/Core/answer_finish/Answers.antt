-- A worker's run ends as it was told.
use Rattle.std.proofs.Common.{◌≡◌, ℕ, length, Some, ap, sym, ◌∙◌, subst}
use Rattle.executor_model.specs.declared.types.Happening.TheVariants as h
use Rattle.executor_model.specs.declared.types.Answer.TheVariants as a
use Rattle.task_table.specs.declared.answers.RunEnd.{RunEnd as TableEnd}
use Rattle.task_table.specs.Runs.{IsEndOf, Ends}
use Rattle.executor_core.specs.Foresight.{end_in}
use Rattle.executor_core.specs.CoreView.{CoreView}
use Rattle.executor_core.specs.own.Ends.{table_end}
use Rattle.executor_core.specs.own.Invariants.{core_of}
use Rattle.executor_core.specs.own.OwnSteps.{Takes}
use Rattle.executor_core.proofs.Ending.{told_is_end, ends}
use Rattle.executor_core.proofs.machine.Core.answer_finish.Goals as goal

pub end_as-requires : goal.end_as-requires
end_as-requires g c =
    let m = c.self.inside in
    let f = c.self.invariant in
    let w = c.args.worker in
    let ending = c.args.ending in
    let end = c.in-Some.end in
    let told : Some end ≡ end_in (core_of m.calls.items m.limit m.taken m.calls.made m.table) (h.Finish w ending) = sym c.in-Some.is ∙ (c.requires ∙ ap (λ (x : CoreView). end_in x (h.Finish w ending)) (sym c.self.view_is)) in
    let is : IsEndOf m.table w ending (table_end end) = told_is_end m.calls.items m.limit m.taken m.calls.made m.table m.sought w ending end f told in
    (ending, subst (λ (e : TableEnd). IsEndOf m.table w ending e) (sym c.table_end.ensures) is)

pub invariant_of-self : goal.invariant_of-self
invariant_of-self g c =
    let m = c.self.inside in
    let f = c.self.invariant in
    let w = c.args.worker in
    let ending = c.args.ending in
    let end = c.in-Some.end in
    let told : Some end ≡ end_in (core_of m.calls.items m.limit m.taken m.calls.made m.table) (h.Finish w ending) = sym c.in-Some.is ∙ (c.requires ∙ ap (λ (x : CoreView). end_in x (h.Finish w ending)) (sym c.self.view_is)) in
    let is : IsEndOf m.table w ending (table_end end) = told_is_end m.calls.items m.limit m.taken m.calls.made m.table m.sought w ending end f told in
    let u = c.end_as.new.self in
    let did : Ends m.table u w ending (record { task = (table_end end).task; run = end.run; outcome = end.outcome }) =
    subst (λ (e : TableEnd). IsEndOf m.table w ending e → Ends m.table u w ending (record { task = e.task; run = e.run; outcome = e.outcome })) c.table_end.ensures (c.end_as.ensures ending) is
    in
    let done = ends m.calls.items m.limit m.taken m.calls.made m.table u m.sought w ending (record { task = (table_end end).task; run = end.run; outcome = end.outcome }) f did in
    done.1

pub returns-clause-step : goal.returns-clause-step
returns-clause-step g c =
    let m = c.self.inside in
    let f = c.self.invariant in
    let w = c.args.worker in
    let ending = c.args.ending in
    let end = c.in-Some.end in
    let told : Some end ≡ end_in (core_of m.calls.items m.limit m.taken m.calls.made m.table) (h.Finish w ending) = sym c.in-Some.is ∙ (c.requires ∙ ap (λ (x : CoreView). end_in x (h.Finish w ending)) (sym c.self.view_is)) in
    let is : IsEndOf m.table w ending (table_end end) = told_is_end m.calls.items m.limit m.taken m.calls.made m.table m.sought w ending end f told in
    let u = c.end_as.new.self in
    let did : Ends m.table u w ending (record { task = (table_end end).task; run = end.run; outcome = end.outcome }) =
    subst (λ (e : TableEnd). IsEndOf m.table w ending e → Ends m.table u w ending (record { task = e.task; run = e.run; outcome = e.outcome })) c.table_end.ensures (c.end_as.ensures ending) is
    in
    let done = ends m.calls.items m.limit m.taken m.calls.made m.table u m.sought w ending (record { task = (table_end end).task; run = end.run; outcome = end.outcome }) f did in
    subst (λ (x : CoreView). Takes x (core_of m.calls.items m.limit m.taken m.calls.made u) (h.Finish w ending) (a.Finish w end.task c.from.result end.outcome)) c.self.view_is
    (subst (λ (run : ℕ). Takes (core_of m.calls.items m.limit m.taken m.calls.made m.table) (core_of m.calls.items m.limit m.taken m.calls.made u) (h.Finish w ending) (a.Finish w end.task run end.outcome)) (sym c.from.ensures) done.0)

pub returns-clause-size : goal.returns-clause-size
returns-clause-size g c =
    let m = c.self.inside in
    let f = c.self.invariant in
    let w = c.args.worker in
    let ending = c.args.ending in
    let end = c.in-Some.end in
    let told : Some end ≡ end_in (core_of m.calls.items m.limit m.taken m.calls.made m.table) (h.Finish w ending) = sym c.in-Some.is ∙ (c.requires ∙ ap (λ (x : CoreView). end_in x (h.Finish w ending)) (sym c.self.view_is)) in
    let is : IsEndOf m.table w ending (table_end end) = told_is_end m.calls.items m.limit m.taken m.calls.made m.table m.sought w ending end f told in
    let u = c.end_as.new.self in
    let did : Ends m.table u w ending (record { task = (table_end end).task; run = end.run; outcome = end.outcome }) =
    subst (λ (e : TableEnd). IsEndOf m.table w ending e → Ends m.table u w ending (record { task = e.task; run = e.run; outcome = e.outcome })) c.table_end.ensures (c.end_as.ensures ending) is
    in
    let done = ends m.calls.items m.limit m.taken m.calls.made m.table u m.sought w ending (record { task = (table_end end).task; run = end.run; outcome = end.outcome }) f did in
    done.1.count ∙ (sym f.count ∙ ap (λ (x : CoreView). length x.tasks) c.self.view_is)
