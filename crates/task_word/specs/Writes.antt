-- The writes of the word of a task: for each kind of write, which word becomes which. A load writes nothing, and neither
-- does cutting off a handle or taking one back. This project's rule.
use Rattle.std.specs.Prelude.{◌≡◌, ℕ, ◌+◌, Bool, true, false}
use Rattle.task_word.specs.Words.{Parts, marked}
use Rattle.task_word.specs.declared.phases.Phase.{Phase}
use Rattle.task_word.specs.declared.phases.Phase.TheVariants.{Vacant, New, Running, Done, Failed}

-- the kinds of write. A handle makes the last one, and the core's seat all others
pub data Kind : Type 0 where
  submit : Kind
  start : Kind
  done : Kind
  fail : Kind
  rearm : Kind
  core_cancel : Kind
  handle_cancel : Kind

-- the word without the bit
abbrev pub unmarked : Phase → ℕ → Parts
unmarked p n = record { phase = p; run = n; marked = false }

-- a write of the kind takes the word w to the word u:
-- submit: a vacant word, with the bit or without, to new in run 0;
-- start: new in run n to running in run n;
-- done, fail: running in run n to done, to failed in run n;
-- rearm: running in run n to new in run n + 1;
-- core_cancel, handle_cancel: any word to the same with the bit
abbrev pub ChangesWord : Kind → Parts → Parts → Type 0
ChangesWord submit w u = (w.phase ≡ Vacant) × (u ≡ unmarked New 0)
ChangesWord start w u = (n : ℕ) × (w ≡ unmarked New n) × (u ≡ unmarked Running n)
ChangesWord done w u = (n : ℕ) × (w ≡ unmarked Running n) × (u ≡ unmarked Done n)
ChangesWord fail w u = (n : ℕ) × (w ≡ unmarked Running n) × (u ≡ unmarked Failed n)
ChangesWord rearm w u = (n : ℕ) × (w ≡ unmarked Running n) × (u ≡ unmarked New (n + 1))
ChangesWord core_cancel w u = u ≡ marked w
ChangesWord handle_cancel w u = u ≡ marked w

-- the write is a cancel, which sets the bit and nothing else
abbrev pub sets_bit : Kind → Bool
sets_bit submit = false
sets_bit start = false
sets_bit done = false
sets_bit fail = false
sets_bit rearm = false
sets_bit core_cancel = true
sets_bit handle_cancel = true
