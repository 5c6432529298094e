-- What the parts of a migration answer.
use Rattle.std.specs.Prelude.{◌≡◌, ◌≤◌, ◌<◌, ℕ, List, false, length, Result, Ok, Err, String, string_bytes, Some}
use Rattle.std.specs.declared.alloc.Global.{Global}
use Rattle.toml.specs.Data.{Members}
use Rattle.toml.specs.Text.{IsDocumentText}
use Rattle.plan_read.specs.declared.faults.PlanFaultKind.TheVariants.{TooLong}
use Rattle.plan_read.specs.declared.faults.ReadError.{ReadError}
use Rattle.plan_read.specs.declared.faults.ReadError.TheVariants as errors
use Rattle.plan_read.specs.Migrating.{migrated, Migrates, MigrationFails}
use Rattle.plan_read.specs.Texts.{longest_text, tree_of}
use Rattle.plan_read.specs.own.Texts.{tree_at}

-- the text that is printed for a tree is that of its document, which is read back; or it is too long, or memory ran out
abbrev pub PrintsAs : Result (String Global) ReadError → Members → Type 0
PrintsAs (Ok s) ms = IsDocumentText false ms (string_bytes s) × (tree_of (string_bytes s) ≡ Some ms) × (length (string_bytes s) ≤ longest_text)
PrintsAs (Err errors.Memory) ms = Unit {0}
PrintsAs (Err (errors.Fault fault)) ms =
    (fault ≡ record { kind = TooLong; block = 0; call = 0 }) × ((printed : List ℕ) × IsDocumentText false ms printed × (longest_text < length printed))

-- at most one text is printed for the migrated tree of a text
abbrev pub OnePrinted : List ℕ → Type 0
OnePrinted text = (a b : List ℕ) → IsDocumentText false (migrated (tree_at text)) a → IsDocumentText false (migrated (tree_at text)) b → a ≡ b

-- a text is migrated to no other
abbrev pub NeverMigrates : List ℕ → Type 0
NeverMigrates text = (printed : List ℕ) → Migrates text printed → ⊥

-- a text is migrated to one other, or has a fault and is migrated to none, or memory ran out
abbrev pub MigratesTo : Result (String Global) ReadError → List ℕ → Type 0
MigratesTo (Ok s) text = Migrates text (string_bytes s) × OnePrinted text
MigratesTo (Err errors.Memory) text = Unit {0}
MigratesTo (Err (errors.Fault fault)) text = MigrationFails text fault × NeverMigrates text
