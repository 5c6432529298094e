use Rattle.std.proofs.Common.{◌≡◌, sym, ap, ◌∙◌, refl, arith, subst, length-set}
use Rattle.task_word.specs.Words.{rank, is_cancelled}
use Rattle.task_word.specs.Views.{handle_looked, MeetsHandle}
use Rattle.task_word.specs.own.Views.{handle_of}
use Rattle.task_word.specs.Numbers.{word_of_value}
use Rattle.task_word.specs.Answers.{shown_state}
use Rattle.task_word.proofs.HandleSteps.{handle_looks}
use Rattle.task_word.proofs.SeatFields.{handle_sits, keeps_met, cancelled_shows}
use Rattle.task_word.proofs.handle_side.HandleSeat.state.Goals as goal

pub load-found-requires : goal.load-found-requires
load-found-requires g c =
    let seat = c.self.inside.seat in
    let words = ap (λ s. s.table.words) c.self.view_is ∙ (ap (λ t. t.words) c.requires.table ∙ sym (ap (λ t. t.table.words) c.words.view_is)) in (
      ap (λ s. s.table) c.self.view_is ∙ (c.requires.table ∙ sym (ap (λ w. w.table) c.words.view_is)),
      omega (arith, c.words.invariant.1, c.if-k-words.false),
      handle_looks c.words.inside.table.shared.key _ seat.id c.args.k seat.me c.self.invariant.0 (omega (arith, c.words.invariant.0, c.if-k-words.false)) (omega (arith, c.self.invariant.2, c.words.invariant.1, c.if-k-words.false, words)),
    )

pub of_value-requires : goal.of_value-requires
of_value-requires g c = (c.load-found.ensures.2 c.args.k refl).0.word

pub invariant_of-self : goal.invariant_of-self
invariant_of-self g c =
    let step = c.load-found.ensures in
    let h = handle_of c.self.inside.seat.me.0 in
    let w = word_of_value c.load-found.result in
    handle_sits _ _ c.self.inside.seat.me _ (handle_looked h c.args.k w) step.0 (step.2 c.args.k refl).2 (length-set h.ranks c.args.k (rank w)) (length-set h.seen c.args.k (is_cancelled w)) c.self.invariant

pub returns-clause-met : goal.returns-clause-met
returns-clause-met g c in_n =
    let step = c.load-found.ensures.2 c.args.k refl in
    let h = handle_of c.self.inside.seat.me.0 in
    let w = word_of_value c.load-found.result in
    let is : handle_of c.load-found.new.seat.me.0 ≡ handle_looked h c.args.k w = ap (λ m. handle_of m.0) step.2 in
    let words = ap (λ s. s.table.words) c.self.view_is ∙ (ap (λ t. t.words) c.requires.table ∙ sym (ap (λ t. t.table.words) c.words.view_is)) in (
      w,
      subst (λ s. MeetsHandle s.view c.args.k w) c.self.view_is step.0,
      c.of_word.ensures ∙ ap shown_state c.of_value.ensures,
      is ∙ ap (λ s. handle_looked s.view c.args.k w) c.self.view_is,
      keeps_met h (handle_of c.load-found.new.seat.me.0) c.args.k w (omega (arith, c.self.invariant.2, c.words.invariant.1, c.if-k-words.false, words)) (omega (arith, c.self.invariant.3, c.words.invariant.1, c.if-k-words.false, words)) (ap (λ v. v.ranks) is) (ap (λ v. v.seen) is),
    )

pub returns-clause-won : goal.returns-clause-won
returns-clause-won g c in_n some_won =
    let step = c.load-found.ensures.2 c.args.k refl in
    let w = word_of_value c.load-found.result in
    let met : MeetsHandle c.args.self.now.view c.args.k w = subst (λ s. MeetsHandle s.view c.args.k w) c.self.view_is step.0 in
    (c.of_word.ensures ∙ ap shown_state c.of_value.ensures) ∙ cancelled_shows w (met.won some_won)
