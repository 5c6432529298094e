use Rattle.std.proofs.Common.{◌≡◌, ◌∙◌, pos, ap, codes, rules}
use Rattle.std.proofs.lemmas.Int.{to_z-of_z}
use Rattle.std.proofs.lemmas.Result.{err_from_is_err_and}
use Rattle.std.specs.Prelude.{unwrap_or}
use Rattle.toml.specs.View.{table_view}
use Rattle.plan_read.specs.own.Subjects.{verb_with}
use Rattle.plan_read.specs.own.Values.{integer_or}
use Rattle.plan_read.proofs.HeaderReads.{passes}
use Rattle.plan_read.proofs.SubjectLaw.{spans_halt}
use Rattle.plan_read.proofs.calls.read_timed.Goals as goal
use mir.Syntax.{w64}
use mir.Val.{SFits}

pub returns-in_err-op : goal.returns-in_err-op
returns-in_err-op c =
    let q = err_from_is_err_and c.from_residual-in_err-op.result c.from_residual-in_err-op.ensures.1 in
    let ms = table_view c.args.row.now.table.now in
    let z = c.unwrap_or-at.result in
    let fits : SFits w64 z = search rules in
    let at : z ≡ integer_or (pos 0) (codes "at") ms = c.unwrap_or-at.ensures ∙ ap (λ o. unwrap_or o (pos 0)) c.integer.ensures in
    let read = simp to_z-of_z at c.in_ok-read_span.ensures in
    let forward = simp to_z-of_z at c.if-at-lt0.false in
    let short = passes _ _ read.0 in
    rw (q.1, q.2) (spans_halt c.in_err-op.field-0.0 c.args.place (verb_with c.args.subject) c.args.units c.args.header c.args.last ms (rw at at forward) (rw at at short) c.in_err-op.ensures)
