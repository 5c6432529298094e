use Rattle.std.proofs.Common.{ℕ, ◌+◌, List, sym, subst, ◌∙◌}
use Rattle.line_journal.specs.Groups.{Keeps, HasZeros}
use Rattle.line_journal.specs.Parts.{Has}
use Rattle.line_journal.proofs.Gates.{on_ok_map}
use Rattle.line_journal.proofs.Keeping.{has_blank, has_cut, has_cleared}
use Rattle.line_journal.proofs.tail.clear_behind.Goals as goal

pub returns-in_err-put_zeros-clause-crash : goal.returns-in_err-put_zeros-clause-crash
returns-in_err-put_zeros-clause-crash g c mixes only part has ends e left =
    let was = c.put_zeros.ensures.blanks mixes e left in
    has_blank was.0 e part c.args.end (subst (λ (f : List ℕ). Has f part) (sym (only was.0 was.1)) has) ends was.2

pub returns-in_err-cut-clause-crash : goal.returns-in_err-cut-clause-crash
returns-in_err-cut-clause-crash g c mixes only part has ends e left =
    let next = c.cut.ensures.crash e left in
    let was = c.put_zeros.ensures.blanks mixes next.0 next.1 in
    has_cut next.0 e part c.args.end (has_blank was.0 next.0 part c.args.end (subst (λ (f : List ℕ). Has f part) (sym (only was.0 was.1)) has) ends was.2) ends next.2

pub returns-clause-crash : goal.returns-clause-crash
returns-clause-crash g c mixes only part has ends e left =
    let next = c.cut.ensures.crash e (c.sync.ensures.leaves e left) in
    let was = c.put_zeros.ensures.blanks mixes next.0 next.1 in
    has_cut next.0 e part c.args.end (has_blank was.0 next.0 part c.args.end (subst (λ (f : List ℕ). Has f part) (sym (only was.0 was.1)) has) ends was.2) ends next.2

pub returns-clause-rests : goal.returns-clause-rests
returns-clause-rests g c = on_ok_map c.sync.result _ _ c.sync.ensures.durable (λ only part has ends.
    let d = g.D.Disk in
    let end = c.args.end in
    let kept = has_cleared (d.seen c.args.disk.now) (d.seen c.put_zeros.new.disk) (d.seen c.cut.new.disk) part end has ends c.put_zeros.ensures.below c.in_ok-put_zeros.ensures.blank c.cut.ensures.others c.in_ok-cut.ensures.len in (
      subst (λ (f : List ℕ). Has f part) (sym c.sync.ensures.seen) kept.0,
      record {
        durable = λ e left. only e left ∙ sym c.sync.ensures.seen;
        keeps = subst (λ (f : List ℕ). Keeps f (64 + part.head.text) part.groups) (sym c.sync.ensures.seen) kept.0.keeps;
        ends = ends;
        zeros = subst (λ (f : List ℕ). HasZeros f end (end + 131072)) (sym c.sync.ensures.seen) kept.1;
      },
    ))
