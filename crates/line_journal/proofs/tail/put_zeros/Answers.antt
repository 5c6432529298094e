-- a piece more of zeros
use Rattle.std.proofs.Common.{◌≡◌, ℕ, ◌+◌, ◌<◌, ◌≤◌, List, length, take, replicate, ap, ◌∙◌, subst, arith}
use Rattle.std.specs.Prelude.{slice_index}
use Rattle.std.proofs.lemmas.List.{length-take-le, length-replicate, take-replicate, get_or-replicate}
use Rattle.line_journal.specs.Resting.{IsBlank}
use Rattle.line_journal.proofs.Rests.{piece_below, piece_crash, piece_blank, piece_blanks}
use Rattle.line_journal.proofs.tail.put_zeros.Goals as goal

abbrev blanks : List ℕ
blanks = replicate 8192 0

zero_in : (n i : ℕ) → n ≤ 8192 → i < n → slice_index (take n blanks) i ≡ 0
zero_in n i few low = ap (λ (t : List ℕ). slice_index t i) (take-replicate n 8192 0 few) ∙ get_or-replicate n i 0 0 low

long_of : (n : ℕ) → n ≤ 8192 → length (take n blanks) ≡ n
long_of n few = length-take-le n blanks (omega (arith, few, length-replicate {A = ℕ} 8192 0))

pub pieces-preserved : goal.pieces-preserved
pieces-preserved g c =
    let d = g.D.Disk in
    let h = c.pieces.invariant in
    let put = c.in_ok-put_piece.ensures in
    let n = c.min-n.result in
    let few : n ≤ 8192 = omega (arith, c.min-n.ensures) in
    let some : 0 < n = omega (arith, c.min-n.ensures, c.pieces-test.true) in
    let long = long_of n few in
    record {
      place = omega (arith, h.place);
      usable = put.usable;
      mixing = put.mixing ∙ h.mixing;
      below = piece_below c.args.from c.pieces.at _ _ _ _ h.place h.below put.others;
      crash = piece_crash c.args.from c.pieces.at _ _ _ _ h.place h.crash put.crash;
      blank = subst (λ (k : ℕ). IsBlank (d.seen c.put_piece.new.disk) c.args.from (c.pieces.at + k)) long
          (piece_blank c.args.from c.pieces.at (take n blanks) (d.seen c.pieces.disk) (d.seen c.put_piece.new.disk) h.blank put.others (put.written (omega (arith, some, long))) (λ i low. zero_in n i few (omega (arith, low, long))));
      blanks = λ mixes. piece_blanks c.args.from c.pieces.at (take n blanks) _ _ _ h.place (λ i low. zero_in n i few (omega (arith, low, long))) (h.blanks mixes) (put.mixed (mixes c.pieces.disk) (omega (arith, long, c.min-n.ensures, c.ranges.to)));
      clean = put.clean ∙ h.clean;
    }

pub returns-in_err-put_piece-clause-blanks : goal.returns-in_err-put_piece-clause-blanks
returns-in_err-put_piece-clause-blanks g c mixes =
    let h = c.pieces.invariant in
    let n = c.min-n.result in
    let few : n ≤ 8192 = omega (arith, c.min-n.ensures) in
    let long = long_of n few in
    piece_blanks c.args.from c.pieces.at (take n blanks) _ _ _ h.place (λ i low. zero_in n i few (omega (arith, low, long))) (h.blanks mixes) (c.put_piece.ensures.mixed (mixes c.pieces.disk) (omega (arith, long, c.min-n.ensures, c.ranges.to)))
