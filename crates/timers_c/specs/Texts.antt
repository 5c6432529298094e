-- The text of the lines of the last call, as it is copied.
-- All of it is this project's rule.
use Rattle.std.specs.Prelude.{◌≡◌, ℕ, true, false, List, Option, Some, None, drop}
use Rattle.call_lines.specs.Narrow.{are_spelled}
use Rattle.line_copy.specs.declared.copied.Copied.{Copied}
use Rattle.line_copy.specs.Copying.{IsCopied}
use Rattle.timers_c.specs.declared.status.Status.{Status}
use Rattle.timers_c.specs.declared.status.Status.TheVariants as s
use Rattle.timers_c.specs.Seen.{Seen}

-- nothing was copied
abbrev pub no_copy : Copied
no_copy = record { lines = 0; bytes = 0 }

-- what the copying of the text of the lines came to, from the one of this number on, counted from 0
abbrev pub Copies : Status → ℕ → List ℕ → List ℕ → Copied → Option Seen → Option Seen → Type 0
Copies s.Done from before after copied (Some old) (Some new) = (new ≡ old) × (are_spelled old.lines ≡ true) × IsCopied (drop from old.lines) before after copied
Copies s.Number from before after copied (Some old) (Some new) = (new ≡ old) × (are_spelled old.lines ≡ false) × (after ≡ before) × (copied ≡ no_copy)
Copies s.NoTimers from before after copied None None = (after ≡ before) × (copied ≡ no_copy)
Copies _ from before after copied old new = ⊥
