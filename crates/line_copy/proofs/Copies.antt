-- Copies: one line more of those that are copied.
use Rattle.std.proofs.Common.{◌≡◌, ℕ, ◌+◌, ◌<◌, ◌≤◌, List, ◌++◌, Some, take, length, ap, ◌∙◌, sym, arith, inl, inr, length-append}
use Rattle.std.specs.Prelude.{slice_get}
use Rattle.std.proofs.lemmas.Bool.{cases_lt}
use Rattle.std.proofs.lemmas.List.{length-take-le}
use Rattle.std.proofs.lemmas.Option.{slice_get_within}
use Rattle.executor_model.specs.declared.types.Line.{Line}
use Rattle.trace_text.specs.Spelling.{line_text, lines_text}
use Rattle.trace_text.specs.Writing.{Puts, line_room}
use Rattle.line_copy.specs.declared.copied.Copied.{Copied}
use Rattle.line_copy.specs.Copying.{HoldsFirst}
use Rattle.line_copy.proofs.Texts.{lines_on}

-- a text that was put at a place ends as many bytes on as it has
pub ends : (old new text : List ℕ) (at end : ℕ) → length new ≡ length old → at ≤ length old → end ≤ length old → Puts (take at old) (take end new) text → end ≡ at + length text
ends old new text at end same begins within put =
    let front : length (take at old) ≡ at = length-take-le at old begins in
    let whole : length (take end new) ≡ end = length-take-le end new (omega (arith, same, within)) in
    omega (arith, front, whole, ap length put.is, length-append (take at old) text)

-- each line began where there was room, the last one too
room_on : (all : List Line) (before old : List ℕ) (copied : Copied) → HoldsFirst all before old copied → copied.bytes + line_room ≤ length old
    → (n : ℕ) → n < copied.lines + 1 → length (lines_text (take n all)) + line_room ≤ length before
room_on all before old copied held fits n low =
    elim (cases_lt n copied.lines) [
      | inl less ↦ held.room n less
      | inr past ↦
          let last : n ≡ copied.lines = omega arith in
          let there : length (take copied.bytes old) ≡ copied.bytes = length-take-le copied.bytes old (omega (arith, fits)) in
          omega (arith, ap (λ k. length (lines_text (take k all))) last, ap length held.text, there, held.size, fits)
    ]

-- the next line was put behind those that are copied
pub one_more : (all : List Line) (line : Line) (before old new : List ℕ) (copied : Copied) (end : ℕ) → HoldsFirst all before old copied → slice_get all copied.lines ≡ Some line
    → copied.bytes + line_room ≤ length old → end ≤ copied.bytes + line_room → length new ≡ length old → Puts (take copied.bytes old) (take end new) (line_text line)
    → HoldsFirst all before new (record { lines = copied.lines + 1; bytes = end })
one_more all line before old new copied end held next fits short same put = record {
  lines = omega (arith, slice_get_within all copied.lines line next);
  text = put.is ∙ (ap (λ l. l ++ line_text line) held.text ∙ sym (lines_on all copied.lines line next));
  bytes = omega (arith, fits, short, held.size);
  size = same ∙ held.size;
  room = room_on all before old copied held fits;
}
