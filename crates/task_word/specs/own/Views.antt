-- Beside `specs/Views`: what only private contracts and proofs cite.
use Rattle.std.specs.Prelude.{ℕ, length}
use Rattle.task_word.specs.declared.views.CoreSeatView.{CoreSeatView}
use Rattle.task_word.specs.declared.views.HandleSeatView.{HandleSeatView}
use Rattle.task_word.specs.declared.views.View.{View}
use Rattle.task_word.specs.declared.views.View.TheVariants.{Core, Handle, Spent}
use Rattle.task_word.specs.Views.{new_core, new_handle, one_out, joined_with}

-- what the core's seat knows
abbrev pub core_of : View → CoreSeatView
core_of (Core v) = v
core_of (Handle h) = new_core 0
core_of Spent = new_core 0

-- what a handle's seat knows
abbrev pub handle_of : View → HandleSeatView
handle_of (Core v) = new_handle 0
handle_of (Handle h) = h
handle_of Spent = new_handle 0

-- the first seat is the core's
abbrev pub first_view : ℕ → View
first_view n = Core (new_core n)

-- the core's view once a handle is cut off, and the handle's
abbrev pub lender : View → View
lender v = Core (one_out (core_of v))

-- the view of the handle that is cut off
abbrev pub lent : View → View
lent v = Handle (new_handle (length (core_of v).entries))

-- the core's view once the handle is back, and what is left of the handle's
abbrev pub together : View → View → View
together v w = Core (joined_with (core_of v) (handle_of w))

-- what is left of the view of a handle that is back
abbrev pub spent : View
spent = Spent
