use Rattle.std.proofs.Common.{◌∙◌, sym, arith}
use Rattle.std.proofs.lemmas.Bool.Decides.{Decides-eqb}
use Rattle.std.proofs.lemmas.Slice.Eq.{slice_eq-Decides}
use Rattle.line_reasons.proofs.NumberFaults.{denied}
use Rattle.line_reasons.proofs.PlaceFaults.{zero_is_none, number_is_one, other_is_one}
use Rattle.line_reasons.proofs.word_fault.place_fault.Goals.{then-least-gt0+else-eq, else-least-gt0}
use Rattle.line_reasons.proofs.word_fault.place_fault.Goals as goal

pub returns-in-None : goal.returns-in-None
returns-in-None c =
    zero_is_none c.args.number c.args.word.now c.most.result (omega arith) c.most.ensures (omega (arith, c.least.ensures, c.if-least-gt0.true))
    ((slice_eq-Decides Decides-eqb c.args.word.now c.as_slice.result.now c.eq.result c.eq.ensures).0 c.if-eq.true ∙ c.as_slice.ensures)

pub returns-in-None-2 : goal.returns-in-None-2
returns-in-None-2 c =
    let word = c.args.word.now in
    elim c.if-least-gt0.branch [
      | then-least-gt0+else-eq w ↦
          let other = denied w.eq.result _ w.if-eq.false (λ is. (slice_eq-Decides Decides-eqb word w.as_slice.result.now w.eq.result w.eq.ensures).1 (is ∙ sym w.as_slice.ensures)) in
          other_is_one c.args.number word c.most.result (omega arith) c.most.ensures other c.in-None-2.ensures.fault
      | else-least-gt0 w ↦ number_is_one c.args.number word c.most.result (omega arith) c.most.ensures (omega (arith, c.least.ensures, w.if-least-gt0.false)) c.in-None-2.ensures.fault
    ]
