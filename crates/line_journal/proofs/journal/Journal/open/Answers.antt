use Rattle.std.proofs.Common.{IsTrue, subst}
use Rattle.line_journal.proofs.Staying.{of_stands, at_true, at_false}
use Rattle.line_journal.proofs.Unique.{stand_turned}
use Rattle.line_journal.proofs.journal.Journal.open.Goals as goal

pub returns-then-parts-clause-opened : goal.returns-then-parts-clause-opened
returns-then-parts-clause-opened g c clean_current clean_other only_first only_second part stand =
    let d = g.D.Disk in
    let clean_second = subst (λ f. IsTrue (d.is_clean f)) c.of.ensures.current clean_current in
    let clean_first = subst (λ f. IsTrue (d.is_clean f)) c.of.ensures.other clean_other in
    let is = at_true _ _ _ c.if-parts.true (c.in-Ok.ensures.opened clean_first clean_second only_first only_second part stand) in
    of_stands d.seen d.may_leave _ _ _ _ _ _ _ _ part c.of.ensures.current c.of.ensures.other c.of.ensures.last c.of.ensures.limit is

pub returns-then-parts-clause-crash : goal.returns-then-parts-clause-crash
returns-then-parts-clause-crash g c mixes clean_current clean_other only_first only_second part stand e f left right =
    let d = g.D.Disk in
    let clean_second = subst (λ f. IsTrue (d.is_clean f)) c.of.ensures.current clean_current in
    let clean_first = subst (λ f. IsTrue (d.is_clean f)) c.of.ensures.other clean_other in
    let may_second = subst (λ h. d.may_leave h e) c.of.ensures.current left in
    let may_first = subst (λ h. d.may_leave h f) c.of.ensures.other right in
    stand_turned c.args.workers f e part (c.opened.ensures.crash mixes clean_first clean_second only_first only_second part stand f e may_first may_second)

pub returns-else-parts-clause-opened : goal.returns-else-parts-clause-opened
returns-else-parts-clause-opened g c clean_current clean_other only_first only_second part stand =
    let d = g.D.Disk in
    let clean_first = subst (λ f. IsTrue (d.is_clean f)) c.of-else-parts.ensures.current clean_current in
    let clean_second = subst (λ f. IsTrue (d.is_clean f)) c.of-else-parts.ensures.other clean_other in
    let is = at_false _ _ _ c.if-parts.false (c.in-Ok.ensures.opened clean_first clean_second only_first only_second part stand) in
    of_stands d.seen d.may_leave _ _ _ _ _ _ _ _ part c.of-else-parts.ensures.current c.of-else-parts.ensures.other c.of-else-parts.ensures.last c.of-else-parts.ensures.limit is

pub returns-else-parts-clause-crash : goal.returns-else-parts-clause-crash
returns-else-parts-clause-crash g c mixes clean_current clean_other only_first only_second part stand e f left right =
    let d = g.D.Disk in
    let clean_first = subst (λ f. IsTrue (d.is_clean f)) c.of-else-parts.ensures.current clean_current in
    let clean_second = subst (λ f. IsTrue (d.is_clean f)) c.of-else-parts.ensures.other clean_other in
    let may_first = subst (λ h. d.may_leave h e) c.of-else-parts.ensures.current left in
    let may_second = subst (λ h. d.may_leave h f) c.of-else-parts.ensures.other right in
    c.opened.ensures.crash mixes clean_first clean_second only_first only_second part stand e f may_first may_second
