use Rattle.std.proofs.Common.{◌≡◌, sym, ap, ◌∙◌, refl, arith, subst, length-set}
use Rattle.task_word.specs.Words.{rank, is_cancelled}
use Rattle.task_word.specs.Views.{handle_cancelled, wins, and_if, MeetsHandle}
use Rattle.task_word.specs.own.Views.{handle_of}
use Rattle.task_word.specs.Numbers.{word_of_value}
use Rattle.task_word.specs.Answers.{cancel_answer, is_handle_win}
use Rattle.task_word.proofs.HandleSteps.{handle_cancels}
use Rattle.task_word.proofs.SeatFields.{handle_sits, keeps_met, yes_wins}
use Rattle.task_word.proofs.handle_side.HandleSeat.cancel.Goals as goal

pub fetch_or-found-requires : goal.fetch_or-found-requires
fetch_or-found-requires g c =
    let seat = c.self.inside.seat in
    let words = ap (λ s. s.table.words) c.self.view_is ∙ (ap (λ t. t.words) c.requires.table ∙ sym (ap (λ t. t.table.words) c.words.view_is)) in (
      ap (λ s. s.table) c.self.view_is ∙ (c.requires.table ∙ sym (ap (λ w. w.table) c.words.view_is)),
      omega (arith, c.words.invariant.1, c.if-k-words.false),
      handle_cancels c.words.inside.table.shared.key _ seat.id c.args.k seat.me c.self.invariant.0 (omega (arith, c.words.invariant.0, c.if-k-words.false)) (omega (arith, c.self.invariant.2, c.words.invariant.1, c.if-k-words.false, words)),
    )

pub of_value-requires : goal.of_value-requires
of_value-requires g c = (c.fetch_or-found.ensures.2 c.args.k refl).0.word

pub invariant_of-self : goal.invariant_of-self
invariant_of-self g c =
    let step = c.fetch_or-found.ensures in
    let h = handle_of c.self.inside.seat.me.0 in
    let met = word_of_value c.fetch_or-found.result in
    handle_sits _ _ c.self.inside.seat.me _ (handle_cancelled h c.args.k met) step.0 (step.2 c.args.k refl).2 (length-set h.ranks c.args.k (rank met)) (length-set h.seen c.args.k (is_cancelled met)) c.self.invariant

pub returns-clause-met : goal.returns-clause-met
returns-clause-met g c in_n =
    let step = c.fetch_or-found.ensures.2 c.args.k refl in
    let h = handle_of c.self.inside.seat.me.0 in
    let w = word_of_value c.fetch_or-found.result in
    let is : handle_of c.fetch_or-found.new.seat.me.0 ≡ handle_cancelled h c.args.k w = ap (λ m. handle_of m.0) step.2 in
    let words = ap (λ s. s.table.words) c.self.view_is ∙ (ap (λ t. t.words) c.requires.table ∙ sym (ap (λ t. t.table.words) c.words.view_is)) in (
      w,
      subst (λ s. MeetsHandle s.view c.args.k w) c.self.view_is step.0,
      c.of_word.ensures ∙ ap cancel_answer c.of_value.ensures,
      is ∙ ap (λ s. handle_cancelled s.view c.args.k w) c.self.view_is,
      keeps_met h (handle_of c.fetch_or-found.new.seat.me.0) c.args.k w (omega (arith, c.self.invariant.2, c.words.invariant.1, c.if-k-words.false, words)) (omega (arith, c.self.invariant.3, c.words.invariant.1, c.if-k-words.false, words)) (ap (λ v. v.ranks) is) (ap (λ v. v.seen) is),
    )

pub returns-clause-won : goal.returns-clause-won
returns-clause-won g c =
    let told = c.fetch_or-found.ensures.2 c.args.k refl in
    let found = word_of_value c.fetch_or-found.result in
    let answer : c.of_word.result ≡ cancel_answer found = c.of_word.ensures ∙ ap cancel_answer c.of_value.ensures in
    ap (λ m. (handle_of m.0).won) told.2 ∙ (ap (λ s. and_if (wins found) c.args.k s.view.won) c.self.view_is ∙ ap (λ b. and_if b c.args.k c.args.self.now.view.won) (yes_wins found ∙ ap is_handle_win (sym answer)))
