use Rattle.std.proofs.Common.{◌≡◌, ℕ, IsTrue, List, sym, subst}
use Rattle.line_journal.specs.Fronts.{IsShut}
use Rattle.line_journal.specs.Openings.{IsLastOf, IsOpenedAs}
use Rattle.line_journal.specs.Parts.{Part, StandFor, empty_part}
use Rattle.line_journal.proofs.Choosing.{chosen_last, none_chosen, none_stand, only_read}
use Rattle.line_journal.proofs.Staying.{if_ok_all}
use Rattle.line_journal.proofs.opening.resumed.Goals as goal

pub returns-in-None-clause-opened : goal.returns-in-None-clause-opened
returns-in-None-clause-opened g c = if_ok_all c.created.result _ _ c.created.ensures.opened (λ parts opened clean_first clean_second only_first only_second part stand.
    let d = g.D.Disk in
    let a = d.seen c.args.first.now in
    let b = d.seen c.args.second.now in
    let same_a = c.read_half.ensures.seen in
    let same_b = c.read_half-2.ensures.seen in
    let only_a = only_read d.seen d.may_leave c.args.first.now c.read_half.new.disk same_a c.read_half.ensures.leaves only_first in
    let only_b = only_read d.seen d.may_leave c.args.second.now c.read_half-2.new.disk same_b c.read_half-2.ensures.leaves only_second in
    let read_a = c.in_ok-one.ensures.found (c.created.ensures.clean_first clean_first) in
    let read_b = c.in_ok-two.ensures.found (c.created.ensures.clean_second clean_second) in
    let chosen = rw c.in-None.is at c.in_ok-chosen.ensures.chosen in
    let shut = none_chosen a b c.in_ok-one.one c.in_ok-two.two read_a read_b chosen in
    let shut_a : IsShut (d.seen c.read_half.new.disk) = subst IsShut (sym same_a) shut.0 in
    let shut_b : IsShut (d.seen c.read_half-2.new.disk) = subst IsShut (sym same_b) shut.1 in
    let new : part ≡ empty_part c.args.workers = none_stand c.args.workers a b part shut stand in
    subst (λ (p : Part). IsOpenedAs d.seen d.may_leave c.created.new.first c.created.new.second parts p) (sym new) (opened only_a only_b shut_a shut_b))

pub returns-in-None-clause-crash : goal.returns-in-None-clause-crash
returns-in-None-clause-crash g c mixes clean_first clean_second only_first only_second part stand e f left right =
    let d = g.D.Disk in
    let a = d.seen c.args.first.now in
    let b = d.seen c.args.second.now in
    let same_a = c.read_half.ensures.seen in
    let same_b = c.read_half-2.ensures.seen in
    let only_a = only_read d.seen d.may_leave c.args.first.now c.read_half.new.disk same_a c.read_half.ensures.leaves only_first in
    let only_b = only_read d.seen d.may_leave c.args.second.now c.read_half-2.new.disk same_b c.read_half-2.ensures.leaves only_second in
    let read_a = c.in_ok-one.ensures.found (c.created.ensures.clean_first clean_first) in
    let read_b = c.in_ok-two.ensures.found (c.created.ensures.clean_second clean_second) in
    let chosen = rw c.in-None.is at c.in_ok-chosen.ensures.chosen in
    let shut = none_chosen a b c.in_ok-one.one c.in_ok-two.two read_a read_b chosen in
    let shut_a : IsShut (d.seen c.read_half.new.disk) = subst IsShut (sym same_a) shut.0 in
    let shut_b : IsShut (d.seen c.read_half-2.new.disk) = subst IsShut (sym same_b) shut.1 in
    let new : part ≡ empty_part c.args.workers = none_stand c.args.workers a b part shut stand in
    subst (λ (p : Part). StandFor c.args.workers e f p) (sym new) (c.created.ensures.crash mixes only_a only_b shut_a shut_b e f left right)

pub returns-in_err-repair-in-Some-clause-crash : goal.returns-in_err-repair-in-Some-clause-crash
returns-in_err-repair-in-Some-clause-crash g c mixes clean_first clean_second only_first only_second part stand e f left right =
    let d = g.D.Disk in
    let a = d.seen c.args.first.now in
    let b = d.seen c.args.second.now in
    let same_a = c.read_half.ensures.seen in
    let same_b = c.read_half-2.ensures.seen in
    let only_a = only_read d.seen d.may_leave c.args.first.now c.read_half.new.disk same_a c.read_half.ensures.leaves only_first in
    let only_b = only_read d.seen d.may_leave c.args.second.now c.read_half-2.new.disk same_b c.read_half-2.ensures.leaves only_second in
    let read_a = c.in_ok-one.ensures.found (subst IsTrue c.repair.ensures.clean_first clean_first) in
    let read_b = c.in_ok-two.ensures.found (subst IsTrue c.repair.ensures.clean_second clean_second) in
    let chosen = rw c.in-Some.is at c.in_ok-chosen.ensures.chosen in
    let parts = c.in-Some.parts in
    let is : IsLastOf a b parts part = chosen_last c.args.workers a b c.in_ok-one.one c.in_ok-two.two parts part read_a read_b chosen stand in
    let last : IsLastOf (d.seen c.read_half.new.disk) (d.seen c.read_half-2.new.disk) parts part = subst (λ (f : List ℕ). IsLastOf f (d.seen c.read_half-2.new.disk) parts part) (sym same_a) (subst (λ (f : List ℕ). IsLastOf a f parts part) (sym same_b) is) in
    c.repair.ensures.crash mixes only_a only_b part last e f left right

pub returns-in_ok-repair-in-Some-clause-crash : goal.returns-in_ok-repair-in-Some-clause-crash
returns-in_ok-repair-in-Some-clause-crash g c mixes clean_first clean_second only_first only_second part stand e f left right =
    let d = g.D.Disk in
    let a = d.seen c.args.first.now in
    let b = d.seen c.args.second.now in
    let same_a = c.read_half.ensures.seen in
    let same_b = c.read_half-2.ensures.seen in
    let only_a = only_read d.seen d.may_leave c.args.first.now c.read_half.new.disk same_a c.read_half.ensures.leaves only_first in
    let only_b = only_read d.seen d.may_leave c.args.second.now c.read_half-2.new.disk same_b c.read_half-2.ensures.leaves only_second in
    let read_a = c.in_ok-one.ensures.found (subst IsTrue c.repair.ensures.clean_first clean_first) in
    let read_b = c.in_ok-two.ensures.found (subst IsTrue c.repair.ensures.clean_second clean_second) in
    let chosen = rw c.in-Some.is at c.in_ok-chosen.ensures.chosen in
    let parts = c.in-Some.parts in
    let is : IsLastOf a b parts part = chosen_last c.args.workers a b c.in_ok-one.one c.in_ok-two.two parts part read_a read_b chosen stand in
    let last : IsLastOf (d.seen c.read_half.new.disk) (d.seen c.read_half-2.new.disk) parts part = subst (λ (f : List ℕ). IsLastOf f (d.seen c.read_half-2.new.disk) parts part) (sym same_a) (subst (λ (f : List ℕ). IsLastOf a f parts part) (sym same_b) is) in
    c.repair.ensures.crash mixes only_a only_b part last e f left right

pub returns-in_ok-repair-in-Some-clause-opened : goal.returns-in_ok-repair-in-Some-clause-opened
returns-in_ok-repair-in-Some-clause-opened g c clean_first clean_second only_first only_second part stand =
    let d = g.D.Disk in
    let a = d.seen c.args.first.now in
    let b = d.seen c.args.second.now in
    let same_a = c.read_half.ensures.seen in
    let same_b = c.read_half-2.ensures.seen in
    let only_a = only_read d.seen d.may_leave c.args.first.now c.read_half.new.disk same_a c.read_half.ensures.leaves only_first in
    let only_b = only_read d.seen d.may_leave c.args.second.now c.read_half-2.new.disk same_b c.read_half-2.ensures.leaves only_second in
    let read_a = c.in_ok-one.ensures.found (subst IsTrue c.repair.ensures.clean_first clean_first) in
    let read_b = c.in_ok-two.ensures.found (subst IsTrue c.repair.ensures.clean_second clean_second) in
    let chosen = rw c.in-Some.is at c.in_ok-chosen.ensures.chosen in
    let parts = c.in-Some.parts in
    let is : IsLastOf a b parts part = chosen_last c.args.workers a b c.in_ok-one.one c.in_ok-two.two parts part read_a read_b chosen stand in
    let last : IsLastOf (d.seen c.read_half.new.disk) (d.seen c.read_half-2.new.disk) parts part = subst (λ (f : List ℕ). IsLastOf f (d.seen c.read_half-2.new.disk) parts part) (sym same_a) (subst (λ (f : List ℕ). IsLastOf a f parts part) (sym same_b) is) in
    c.in_ok-repair-in-Some.ensures.opened only_a only_b part last
