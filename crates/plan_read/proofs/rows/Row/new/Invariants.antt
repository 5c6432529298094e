use Rattle.std.proofs.Common.{◌≡◌, List, ◌++◌, length}
use Rattle.plan_read.specs.declared.key_names.KeyName.{KeyName}
use Rattle.plan_read.specs.own.Rows.{slot, word_of}
use Rattle.plan_read.proofs.RowLaw.{Entry, Sees}
use Rattle.plan_read.proofs.rows.Row.new.Given as goal

abbrev pub invariant-loop-word : goal.invariant-loop-word
invariant-loop-word l =
    (done : List Entry) × (l.table.entries ≡ done ++ l.word-iterator) × ((k : KeyName) → Sees l.table.entries done (slot k l.slots) (word_of k)) × (length l.slots ≡ 19)
