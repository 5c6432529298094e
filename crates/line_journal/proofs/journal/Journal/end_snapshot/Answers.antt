use Rattle.std.proofs.Common.{◌≡◌, ◌+◌, length, refl, ap, sym, subst, inl}
use Rattle.line_journal.specs.declared.head.Head.{Head}
use Rattle.line_journal.specs.Parts.{next_head, snapshot_of}
use Rattle.line_journal.proofs.Staying.{stands_left, of_stands, ended_stands, ended_left, either_turned}
use Rattle.line_journal.proofs.journal.Journal.end_snapshot.Goals as goal

pub returns-in_err-head-clause-crash : goal.returns-in_err-head-clause-crash
returns-in_err-head-clause-crash g c mixes part text stands drafting e h left right =
    let self = c.args.self.now in
    inl (stands_left g.D.Disk.seen g.D.Disk.may_leave part.head.workers self.current self.other self.last self.limit part stands e h left right)

pub returns-in_err-half-clause-crash : goal.returns-in_err-half-clause-crash
returns-in_err-half-clause-crash g c mixes part text stands drafting e h left right =
    let self = c.args.self.now in
    let head = c.in_ok-head.head in
    let is = c.in_ok-head.ensures.head part text stands drafting in
    let long : length text ≡ head.text = sym (ap (λ (k : Head). k.text) is) in
    ended_left g.D.Disk.seen g.D.Disk.may_leave part.head.workers self.current self.other self.last self.limit head part text stands is e h left
    (c.unshut.ensures.crash mixes drafting.closed text long drafting.there h right)

pub returns-clause-crash : goal.returns-clause-crash
returns-clause-crash g c mixes part text stands drafting e h left right =
    let self = c.args.self.now in
    let head = c.in_ok-head.head in
    let is = c.in_ok-head.ensures.head part text stands drafting in
    let long : length text ≡ head.text = sym (ap (λ (k : Head). k.text) is) in
    either_turned part.head.workers h e part (snapshot_of (next_head part text) text)
    (ended_left g.D.Disk.seen g.D.Disk.may_leave part.head.workers self.current self.other self.last self.limit head part text stands is h e (subst (λ x. g.D.Disk.may_leave x h) c.swap.ensures.y_after right)
    (c.unshut.ensures.crash mixes drafting.closed text long drafting.there e (subst (λ x. g.D.Disk.may_leave x e) c.swap.ensures.x_after left)))

pub returns-clause-kept : goal.returns-clause-kept
returns-clause-kept g c part text stands drafting =
    let self = c.args.self.now in
    let head = c.in_ok-head.head in
    let is = c.in_ok-head.ensures.head part text stands drafting in
    let long : length text ≡ head.text = sym (ap (λ (k : Head). k.text) is) in
    of_stands g.D.Disk.seen g.D.Disk.may_leave c.unshut.new.disk self.current c.swap.new.x c.swap.new.y c.in_ok-half.half c.in_ok-half.half (c.in_ok-half.half.groups.end + 131072) (c.in_ok-half.half.groups.end + 131072) (snapshot_of (next_head part text) text) c.swap.ensures.x_after c.swap.ensures.y_after refl refl
    (ended_stands g.D.Disk.seen g.D.Disk.may_leave self.current self.other c.unshut.new.disk self.last c.in_ok-half.half self.limit head part text stands is c.in_ok-half.ensures.half
    (c.in_ok-half.ensures.has drafting.closed text long drafting.there))
