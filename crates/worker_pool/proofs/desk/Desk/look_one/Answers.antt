use Rattle.std.proofs.Common.{◌≡◌, ◌<◌, ◌∙◌, [], sym, ap, subst}
use Rattle.std.proofs.lemmas.Bool.{false≢true}
use Rattle.std.specs.Prelude.{false}
use Rattle.task_word.specs.Words.{is_cancelled}
use Rattle.task_word.specs.declared.views.CoreSeatView.{CoreSeatView}
use Rattle.queue_code.specs.Calls.{task_count}
use Rattle.worker_pool.specs.Applies.{OnlyMarks}
use Rattle.worker_pool.specs.own.Moves.{WasMet}
use Rattle.worker_pool.specs.own.Steps.{IsKept}
use Rattle.worker_pool.proofs.Growing.{nothing_noted}
use Rattle.worker_pool.proofs.Looking.{looked, looked_marks, looked_met, tells_more}
use Rattle.worker_pool.proofs.desk.Desk.look_one.Goals as goal

pub returns-then-not-found-clause-kept : goal.returns-then-not-found-clause-kept
returns-then-not-found-clause-kept g c =
    let old = c.args.self.now in
    let off : is_cancelled c.look.result ≡ false = sym c.is_cancelled-found.ensures ∙ c.if-not-found.true in
    subst (λ v. IsKept old.core v old.happenings.items old.lines.items) (sym c.look.ensures.view)
    (looked old.core old.seat.view old.happenings.items old.lines.items c.args.task c.look.result c.requires.kept (subst (λ n. c.args.task < n) c.requires.tasks c.requires.task) c.look.ensures.met (λ q. absurd (false≢true (sym off ∙ q))))

pub returns-then-not-found-clause-noted : goal.returns-then-not-found-clause-noted
returns-then-not-found-clause-noted g c = nothing_noted c.args.self.now.core c.args.self.now.happenings.items

pub returns-then-not-found-clause-handles : goal.returns-then-not-found-clause-handles
returns-then-not-found-clause-handles g c =
    let to = c.look.ensures.view in
    record { joined = ap (λ (v : CoreSeatView). v.joined) to; ranks = ap (λ (v : CoreSeatView). v.ranks) to; out = ap (λ (v : CoreSeatView). v.out) to; these = []; grows = ap (λ (v : CoreSeatView). v.own) to }

pub returns-then-not-found-clause-entries : goal.returns-then-not-found-clause-entries
returns-then-not-found-clause-entries g c =
    let v = c.args.self.now.seat.view in
    subst (OnlyMarks v) (sym c.look.ensures.view) (looked_marks v c.args.task c.look.result (subst (λ n. c.args.task < n) (sym c.look.ensures.count) c.requires.task) c.look.ensures.met)

pub returns-then-not-found-clause-own : goal.returns-then-not-found-clause-own
returns-then-not-found-clause-own g c = ap (λ (v : CoreSeatView). v.own) c.look.ensures.view

pub returns-then-not-found-clause-tells : goal.returns-then-not-found-clause-tells
returns-then-not-found-clause-tells g c = λ up.
    tells_more c.args.self.now.seat.view c.look.new.self.view c.args.task c.look.result (subst (λ n. c.args.task < n) (sym c.look.ensures.count) c.requires.task) c.look.ensures.tells c.look.ensures.view up

pub returns-then-known-clause-kept : goal.returns-then-known-clause-kept
returns-then-known-clause-kept g c =
    let old = c.args.self.now in
    subst (λ v. IsKept old.core v old.happenings.items old.lines.items) (sym c.look.ensures.view)
    (looked old.core old.seat.view old.happenings.items old.lines.items c.args.task c.look.result c.requires.kept (subst (λ n. c.args.task < n) c.requires.tasks c.requires.task) c.look.ensures.met (λ q. sym c.is_cancelled-known.ensures ∙ c.if-known.true))

pub returns-then-known-clause-noted : goal.returns-then-known-clause-noted
returns-then-known-clause-noted g c = nothing_noted c.args.self.now.core c.args.self.now.happenings.items

pub returns-then-known-clause-handles : goal.returns-then-known-clause-handles
returns-then-known-clause-handles g c =
    let to = c.look.ensures.view in
    record { joined = ap (λ (v : CoreSeatView). v.joined) to; ranks = ap (λ (v : CoreSeatView). v.ranks) to; out = ap (λ (v : CoreSeatView). v.out) to; these = []; grows = ap (λ (v : CoreSeatView). v.own) to }

pub returns-then-known-clause-entries : goal.returns-then-known-clause-entries
returns-then-known-clause-entries g c =
    let v = c.args.self.now.seat.view in
    subst (OnlyMarks v) (sym c.look.ensures.view) (looked_marks v c.args.task c.look.result (subst (λ n. c.args.task < n) (sym c.look.ensures.count) c.requires.task) c.look.ensures.met)

pub returns-then-known-clause-own : goal.returns-then-known-clause-own
returns-then-known-clause-own g c = ap (λ (v : CoreSeatView). v.own) c.look.ensures.view

pub returns-then-known-clause-tells : goal.returns-then-known-clause-tells
returns-then-known-clause-tells g c = λ up.
    tells_more c.args.self.now.seat.view c.look.new.self.view c.args.task c.look.result (subst (λ n. c.args.task < n) (sym c.look.ensures.count) c.requires.task) c.look.ensures.tells c.look.ensures.view up

pub returns : goal.returns
returns g c =
    let old = c.args.self.now in
    let new = c.note.new.self in
    let task = c.args.task in
    let low = subst (λ n. task < n) c.requires.tasks c.requires.task in
    let was : WasMet (task_count old.core.calls) old.seat.view c.look.new.self.view task =
    subst (λ v. WasMet (task_count old.core.calls) old.seat.view v task) (sym c.look.ensures.view)
    (looked_met old.core old.seat.view old.happenings.items old.lines.items task c.look.result c.requires.kept low c.look.ensures.met (sym c.is_cancelled-found.ensures ∙ c.if-not-found.false) (sym c.is_cancelled-known.ensures ∙ c.if-known.false))
    in
    let did = c.note.ensures.notes old.seat.view c.look.new.self.view c.requires.kept was in
    let seat = ap (λ s. s.view) c.note.ensures.seat in
    let to = seat ∙ c.look.ensures.view in
    record {
      table = ap (λ s. s.table) c.note.ensures.seat ∙ c.look.ensures.table;
      kept = subst (λ v. IsKept new.core v new.happenings.items new.lines.items) (sym seat) did.0;
      room = did.2;
      noted = did.1.only;
      own = ap (λ (v : CoreSeatView). v.own) to;
      handles = record { joined = ap (λ (v : CoreSeatView). v.joined) to; ranks = ap (λ (v : CoreSeatView). v.ranks) to; out = ap (λ (v : CoreSeatView). v.out) to; these = []; grows = ap (λ (v : CoreSeatView). v.own) to };
      entries = subst (OnlyMarks old.seat.view) (sym to) (looked_marks old.seat.view task c.look.result (subst (λ n. task < n) (sym c.look.ensures.count) c.requires.task) c.look.ensures.met);
      tells = λ up. tells_more old.seat.view new.seat.view task c.look.result (subst (λ n. task < n) (sym c.look.ensures.count) c.requires.task) c.look.ensures.tells to up;
    }
