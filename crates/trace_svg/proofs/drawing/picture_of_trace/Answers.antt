use Rattle.std.proofs.Common.{ap₂, map, ◌≡◌, ◌∙◌, ℕ, List}
use Rattle.trace_draw.specs.Pictures.{picture_of}
use Rattle.trace_svg.specs.Drawing.{IsTrace, RefusesPicture, task_names}
use Rattle.trace_svg.specs.Shown.{svg_text}
use Rattle.trace_svg.proofs.Refused.{told, why}
use Rattle.trace_svg.proofs.drawing.picture_of_trace.Goals as goal

pub returns-in_err-shown-clause-refuses : goal.returns-in_err-shown-clause-refuses
returns-in_err-shown-clause-refuses g c =
    told _ c.in_err-shown.field-0.0 (λ e. (trace : List ℕ) → IsTrace c.args.plan.now c.args.workers trace c.args.lines.now → RefusesPicture e c.args.plan.now c.args.workers trace c.args.view) c.from_residual.ensures.1
    (λ trace is. why c.args.plan.now c.args.workers trace c.args.view c.args.lines.now c.in-Some.window c.in_err-shown.field-0.0 is c.in-Some.ensures c.in_err-shown.ensures.error)

pub returns-clause-picture : goal.returns-clause-picture
returns-clause-picture g c =
    let shown : c.in_ok-shown.shown ≡ picture_of c.args.lines.now c.args.workers c.in-Some.window = c.in_ok-shown.ensures.picture in
    let names : map (λ n. n.now) c.deref.result.now ≡ task_names c.args.plan.now = rw c.deref.ensures.value c.in_ok-names.ensures in
    λ trace is. record {
      lines = c.args.lines.now;
      trace = is;
      window = c.in-Some.window;
      views = c.in-Some.ensures;
      fits = rw shown at c.in_ok-shown.ensures.fits;
      spelled = c.in_ok-picture_text.ensures ∙ ap₂ svg_text shown names;
    }
