use Rattle.std.proofs.Common.{ℕ, ◌+◌, List, length, min, refl, ap, ◌∙◌, subst, inl, arith}
use Rattle.line_journal.specs.Resting.{KeepsBelow}
use Rattle.line_journal.specs.declared.half.Half.{Half}
use Rattle.line_journal.proofs.Staying.{stands_left, append_left, half_more}
use Rattle.line_journal.proofs.Keeping.{has_more}
use Rattle.line_journal.proofs.journal.Journal.append.Goals as goal

pub returns-in_err-may_append-clause-crash : goal.returns-in_err-may_append-clause-crash
returns-in_err-may_append-clause-crash g c mixes part stands e h left right =
    let self = c.args.self.now in
    inl (stands_left g.D.Disk.seen g.D.Disk.may_leave part.head.workers self.current self.other self.last self.limit part stands e h left right)

pub returns-in_err-self-clause-crash : goal.returns-in_err-self-clause-crash
returns-in_err-self-clause-crash g c mixes part stands e h left right =
    let self = c.args.self.now in
    let was = c.append_group.ensures.fronts e left in
    append_left part.head.workers (g.D.Disk.seen self.current) e h part self.last.groups.end c.args.lines.now stands.has stands.half.ends (subst (λ (f : List ℕ). KeepsBelow self.last.groups.end f e) (stands.rest.durable was.0 was.1) was.2)
    c.in_ok-may_append.ensures.group (stands.older h right) (c.append_group.ensures.crash (mixes self.current) (64 + part.head.text) part.groups stands.rest e left)

pub returns-clause-crash : goal.returns-clause-crash
returns-clause-crash g c mixes part stands e h left right =
    let self = c.args.self.now in
    let was = c.append_group.ensures.fronts e left in
    append_left part.head.workers (g.D.Disk.seen self.current) e h part self.last.groups.end c.args.lines.now stands.has stands.half.ends (subst (λ (f : List ℕ). KeepsBelow self.last.groups.end f e) (stands.rest.durable was.0 was.1) was.2)
    c.in_ok-may_append.ensures.group (stands.older h right) (c.append_group.ensures.crash (mixes self.current) (64 + part.head.text) part.groups stands.rest e left)

pub returns-clause-kept : goal.returns-clause-kept
returns-clause-kept g c part stands =
    let self = c.args.self.now in
    let rest = c.in_ok-self.ensures.kept (64 + part.head.text) part.groups stands.rest in
    let room = c.in_ok-self.ensures.room in
    let end = self.last.groups.end + (13 + length c.args.lines.now) in
    let next : Half = record { head = self.last.head; groups = record { end = end; lines = c.saturating_add-self.result } } in
    let counted = c.saturating_add-self.ensures ∙ ap (λ (k : ℕ). min (self.last.groups.lines + k) 18446744073709551615) c.lines_in.ensures in
    record {
      has = has_more (g.D.Disk.seen self.current) (g.D.Disk.seen c.append_group.new.disk) part self.last.groups.end c.args.lines.now stands.has stands.half.ends c.append_group.ensures.front c.in_ok-may_append.ensures.group rest.keeps;
      half = half_more self.last next part c.args.lines.now 18446744073709551615 stands.half refl refl counted (omega (arith, room.0, room.1));
      rest = rest;
      older = stands.older;
    }
