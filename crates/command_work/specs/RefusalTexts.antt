-- RefusalTexts: the line of a refusal.
-- All of it is this project's rule.
use Rattle.std.specs.Prelude.{ℕ, List}
use Rattle.command_work.specs.declared.refusal.Refusal.{Refusal}

-- its bytes, the newline among them
abbrev pub text_of : Refusal → List ℕ
text_of refusal = refusal.line.items
