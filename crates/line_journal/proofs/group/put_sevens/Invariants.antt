use Rattle.std.proofs.Common.{◌≡◌, ◌-◌, ◌++◌, length, take}
use Rattle.line_journal.specs.Groups.{sevens}
use Rattle.line_journal.proofs.group.put_sevens.Given as goal

-- the bytes that are written, and those to come
abbrev pub invariant-loop-i : goal.invariant-loop-i
invariant-loop-i l = take l.i l.bytes ++ sevens (length l.bytes - l.i) l.left ≡ sevens (length l.bytes) l.fn.number
