use Rattle.std.proofs.Common.{◌≡◌, ◌+◌, ◌++◌, take}
use Rattle.trace_text.proofs.put.put_text.Given as goal

-- the bytes so far stand where they were put
abbrev pub invariant-loop-i : goal.invariant-loop-i
invariant-loop-i g l = take (l.fn.at + l.i) l.buffer ≡ take l.fn.at l.fn.buffer ++ take l.i l.fn.text
