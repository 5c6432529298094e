-- Where things stand in a picture, in pixels. All of it is this project's rule.
use Rattle.std.specs.Prelude.{ℕ, ◌+◌, ◌-◌, ◌*◌, max, Option, Some, None}
use Rattle.executor_model.specs.declared.types.Answer.{Answer}
use Rattle.executor_model.specs.declared.types.Answer.TheVariants as a
use Rattle.executor_model.specs.declared.types.Message.{Message}
use Rattle.executor_model.specs.declared.types.Message.TheVariants as m
use Rattle.trace_svg.specs.declared.elements.words.Glyph.{Glyph}
use Rattle.trace_svg.specs.declared.elements.words.Glyph.TheVariants as glyph
use Rattle.trace_draw.specs.declared.bars.Bar.{Bar}
use Rattle.trace_draw.specs.declared.bars.Finish.{Finish}
use Rattle.trace_draw.specs.declared.window.Window.{Window}
use Rattle.trace_draw.specs.Scale.{place_of}

-- ---- from the left

-- a picture is so wide, and its part for time begins and ends here
abbrev pub wide : ℕ
wide = 1240

abbrev pub time_begins : ℕ
time_begins = 110

abbrev pub time_ends : ℕ
time_ends = 1170

-- where a moment stands
abbrev pub across : Window → ℕ → ℕ
across window moment = time_begins + place_of window (time_ends - time_begins) moment

-- where a run ends: at its finish, and at the end of the picture where it is under way
abbrev pub end_across : Window → Option Finish → ℕ
end_across window (Some finish) = across window finish.moment
end_across window None = time_ends

-- how wide the bar of a run is: 3 at least
abbrev pub bar_width : Window → Bar → ℕ
bar_width window bar = max (end_across window bar.finish - across window bar.first) 3

-- ---- from the top

-- the mark of what a line says. (A start and a finish of a run, and a purge, are no marks.)
abbrev pub glyph_by : Answer → Glyph
glyph_by (a.Submit task kind due) = glyph.Submit
glyph_by (a.Refuse task refusal) = glyph.Refuse
glyph_by (a.Cancel task effect) = glyph.Cancel
glyph_by (a.Outside task effect) = glyph.Outside
glyph_by (a.Policy which value) = glyph.Policy
glyph_by a.Shutdown = glyph.Shutdown
glyph_by a.ShutdownAgain = glyph.Shutdown
glyph_by a.ShutdownNow = glyph.Shutdown
glyph_by (a.Ask queue running shutdown terminated) = glyph.Ask
glyph_by a.Clock = glyph.Clock
glyph_by (a.Error error) = glyph.Error
glyph_by _ = glyph.Idle

abbrev pub glyph_of : Message → Glyph
glyph_of (m.Answer answer) = glyph_by answer
glyph_of (m.End task) = glyph.End

-- where the marks of a kind stand: those of calls above those of events
abbrev pub height_of : Glyph → ℕ
height_of glyph.Submit = 62
height_of glyph.Refuse = 62
height_of glyph.Cancel = 80
height_of glyph.Outside = 80
height_of glyph.End = 98
height_of glyph.Policy = 116
height_of glyph.Shutdown = 116
height_of glyph.Ask = 116
height_of glyph.Clock = 134
height_of glyph.Idle = 152
height_of glyph.Error = 152

-- where the lane of a worker begins, below the marks
abbrev pub lane_top : ℕ → ℕ
lane_top worker = 172 + 28 * worker

-- where the axis of a picture with so many workers stands, below the lanes
abbrev pub axis_top : ℕ → ℕ
axis_top workers = lane_top workers + 2
