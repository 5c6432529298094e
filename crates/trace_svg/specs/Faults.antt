-- Which fault of a drawing tells that of a check, or that of a picture. All of it is this project's rule.
use Rattle.trace_check.specs.declared.error.CheckError.{CheckError}
use Rattle.trace_check.specs.declared.error.CheckError.TheVariants as check
use Rattle.trace_draw.specs.declared.error.PictureError.{PictureError}
use Rattle.trace_draw.specs.declared.error.PictureError.TheVariants as picture
use Rattle.trace_svg.specs.declared.report.DrawError.{DrawError}
use Rattle.trace_svg.specs.declared.report.DrawError.TheVariants.{Workers, Crowded, Memory}

abbrev pub of_check : CheckError → DrawError
of_check check.Workers = Workers
of_check check.Memory = Memory

abbrev pub of_picture : PictureError → DrawError
of_picture (picture.Crowded marks) = Crowded marks
of_picture picture.Memory = Memory
