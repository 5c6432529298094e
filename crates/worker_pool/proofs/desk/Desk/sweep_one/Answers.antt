use Rattle.std.proofs.Common.{◌<◌, ◌+◌, ◌∙◌, [], sym, ap, subst}
use Rattle.task_word.specs.Views.{and_if}
use Rattle.task_word.specs.Answers.{is_won}
use Rattle.executor_model.specs.declared.types.Happening.TheVariants as h
use Rattle.worker_pool.specs.own.Moves.{with_mark}
use Rattle.worker_pool.specs.own.Steps.{SweepsUpTo}
use Rattle.worker_pool.proofs.Growing.{none_for, same_handles, in_front}
use Rattle.worker_pool.proofs.Keepings.{ended_in_way}
use Rattle.worker_pool.proofs.Sweeps.{ended_late, ended_won, passes_over, base_met, notes_in}
use Rattle.worker_pool.proofs.desk.Desk.sweep_one.Goals as goal

pub returns-then-not-sweeps-clause-upto : goal.returns-then-not-sweeps-clause-upto
returns-then-not-sweeps-clause-upto g c = λ own up.
    let old = c.args.self.now in
    passes_over own old.core old.seat.view old.happenings.items old.lines.items c.args.task up (sym c.sweeps.ensures ∙ c.if-not-sweeps.true)

pub returns-then-not-sweeps-clause-handles : goal.returns-then-not-sweeps-clause-handles
returns-then-not-sweeps-clause-handles g c = same_handles c.args.self.now.seat.view

pub returns-then-not-sweeps-clause-noted : goal.returns-then-not-sweeps-clause-noted
returns-then-not-sweeps-clause-noted g c = none_for c.args.self.now.core c.args.self.now.happenings.items h.Call

pub returns-in-Late-clause-upto : goal.returns-in-Late-clause-upto
returns-in-Late-clause-upto g c = λ own up.
    let old = c.args.self.now in
    let new = c.note.new.self in
    let k = c.args.task in
    let low = subst (λ n. k < n) c.requires.tasks c.requires.task in
    let q = sym c.sweeps.ensures ∙ c.if-not-sweeps.false in
    let was = ended_late own old.core old.seat.view c.cancel.new.self.view old.happenings.items old.lines.items k c.cancel.result low up q c.in-Late.is c.cancel.ensures.view in
    let did = c.note.ensures.notes up.base (with_mark up.base k) up.kept (base_met own old.core old.seat.view c.cancel.new.self.view old.happenings.items old.lines.items k up was) in
    subst (λ s. SweepsUpTo own new.core s new.happenings.items new.lines.items (k + 1)) (sym (ap (λ x. x.view) c.note.ensures.seat))
    (notes_in own old.core new.core old.seat.view c.cancel.new.self.view old.happenings.items new.happenings.items old.lines.items new.lines.items k up was did.0 did.1)

pub returns-in-Late-clause-noted : goal.returns-in-Late-clause-noted
returns-in-Late-clause-noted g c =
    let old = c.args.self.now in
    let k = c.args.task in
    let own = c.requires.upto.0 in
    let up = c.requires.upto.1 in
    let low = subst (λ n. k < n) c.requires.tasks c.requires.task in
    let q = sym c.sweeps.ensures ∙ c.if-not-sweeps.false in
    let was = ended_late own old.core old.seat.view c.cancel.new.self.view old.happenings.items old.lines.items k c.cancel.result low up q c.in-Late.is c.cancel.ensures.view in
    let did = (c.note.ensures.notes up.base (with_mark up.base k) up.kept (base_met own old.core old.seat.view c.cancel.new.self.view old.happenings.items old.lines.items k up was)).1 in
    record { only = did.only; way = did.way h.Call (ended_in_way old.core up.base old.happenings.items old.lines.items k up.kept q) }

pub returns-in-Late-clause-room : goal.returns-in-Late-clause-room
returns-in-Late-clause-room g c =
    let old = c.args.self.now in
    let k = c.args.task in
    let own = c.requires.upto.0 in
    let up = c.requires.upto.1 in
    let low = subst (λ n. k < n) c.requires.tasks c.requires.task in
    let q = sym c.sweeps.ensures ∙ c.if-not-sweeps.false in
    let was = ended_late own old.core old.seat.view c.cancel.new.self.view old.happenings.items old.lines.items k c.cancel.result low up q c.in-Late.is c.cancel.ensures.view in
    (c.note.ensures.notes up.base (with_mark up.base k) up.kept (base_met own old.core old.seat.view c.cancel.new.self.view old.happenings.items old.lines.items k up was)).2

pub returns-in-Late-clause-handles : goal.returns-in-Late-clause-handles
returns-in-Late-clause-handles g c =
    let old = c.args.self.now in
    let to = ap (λ x. x.view) c.note.ensures.seat ∙ c.cancel.ensures.view in
    record { joined = ap (λ v. v.joined) to; ranks = ap (λ v. v.ranks) to; out = ap (λ v. v.out) to; these = and_if (is_won c.cancel.result) c.args.task []; grows = ap (λ v. v.own) to ∙ in_front (is_won c.cancel.result) c.args.task c.args.self.now.seat.view.own }

pub returns-in-Won-clause-upto : goal.returns-in-Won-clause-upto
returns-in-Won-clause-upto g c = λ own up.
    let old = c.args.self.now in
    let low = subst (λ n. c.args.task < n) c.requires.tasks c.requires.task in
    let q = sym c.sweeps.ensures ∙ c.if-not-sweeps.false in
    ended_won own old.core old.seat.view c.cancel.new.self.view old.happenings.items old.lines.items c.args.task c.cancel.result low up q c.in-Won.is c.cancel.ensures.live c.cancel.ensures.view

pub returns-in-Won-clause-handles : goal.returns-in-Won-clause-handles
returns-in-Won-clause-handles g c =
    let to = c.cancel.ensures.view in
    record { joined = ap (λ v. v.joined) to; ranks = ap (λ v. v.ranks) to; out = ap (λ v. v.out) to; these = and_if (is_won c.cancel.result) c.args.task []; grows = ap (λ v. v.own) to ∙ in_front (is_won c.cancel.result) c.args.task c.args.self.now.seat.view.own }

pub returns-in-Won-clause-noted : goal.returns-in-Won-clause-noted
returns-in-Won-clause-noted g c = none_for c.args.self.now.core c.args.self.now.happenings.items h.Call
