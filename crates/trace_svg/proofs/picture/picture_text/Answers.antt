use Rattle.trace_svg.specs.Shown.{svg_text}
use Rattle.trace_svg.proofs.Appended.{seven}
use Rattle.trace_svg.proofs.picture.picture_text.Goals as goal

pub returns : goal.returns
unfolding svg_text
returns g c =
    seven _ _ _ _ _ _ _ _ _ _ _ _ _ _ _ _
    (rw (c.axis_top.ensures, c.workers-workers.ensures) at c.in_ok-text.ensures.ok)
    c.in_ok-put_legend.ensures
    c.in_ok-put_rows.ensures
    (rw c.workers-workers.ensures at c.in_ok-put_lanes.ensures)
    (rw (c.window-window.ensures, c.workers-workers.ensures, c.ticks.ensures) at c.in_ok-put_axis.ensures)
    (rw (c.window-window.ensures, c.bars.ensures) at c.in_ok-put_bars.ensures)
    (rw (c.window-window.ensures, c.marks.ensures) at c.in_ok-put_marks.ensures)
    c.in_ok-write.ensures.bytes
