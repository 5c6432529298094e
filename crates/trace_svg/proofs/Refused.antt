-- Why a picture was refused.
use Rattle.std.proofs.Common.{◌≡◌, ℕ, List, Result, Ok, Err, subst, sym}
use Rattle.std.specs.Prelude.{IfErr, IsErrAnd}
use Rattle.plan_read.specs.Plans.{PlanTree}
use Rattle.executor_model.specs.declared.types.Line.{Line}
use Rattle.trace_draw.specs.Pictures.{crowd_told}
use Rattle.trace_draw.specs.declared.error.PictureError.{PictureError}
use Rattle.trace_draw.specs.declared.error.PictureError.TheVariants.{Crowded, Memory}
use Rattle.trace_draw.specs.declared.window.Window.{Window}
use Rattle.trace_svg.specs.Drawing.{IsTrace, IsViewOf, RefusesPicture, crowd_of}
use Rattle.trace_svg.specs.Faults.{of_picture}
use Rattle.trace_svg.specs.declared.report.DrawError.{DrawError}
use Rattle.trace_svg.specs.declared.view.View.{View}

-- a fault of the picture is a reason
pub why : (plan : PlanTree) (workers : ℕ) (text : List ℕ) (view : View) (lines : List Line) (window : Window) (fault : PictureError) → IsTrace plan workers text lines → IsViewOf view lines window
    → crowd_told fault ≡ crowd_of view lines window → RefusesPicture (of_picture fault) plan workers text view
why plan workers text view lines window (Crowded marks) trace views told = record { lines = lines; trace = trace; window = window; views = views; over = sym told }
why plan workers text view lines window Memory trace views told = tt

-- it is told
pub told : {T : Type 0} (result : Result T DrawError) (fault : PictureError) (Reason : DrawError → Type 0) → IsErrAnd result (λ e. e ≡ of_picture fault) → Reason (of_picture fault) → IfErr result Reason
told (Ok x) fault Reason is reason = absurd is
told (Err e) fault Reason is reason = subst Reason (sym is) reason
