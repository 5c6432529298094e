use Rattle.std.proofs.Common.{◌≡◌, ◌<◌, length, sym, ap, ◌∙◌, refl, arith, subst}
use Rattle.task_word.specs.Views.{entry, core_cancelled, wins, and_if, MeetsEntry}
use Rattle.task_word.specs.own.Views.{core_of}
use Rattle.task_word.specs.Numbers.{word_of_value}
use Rattle.task_word.specs.Steps.{CoreTells}
use Rattle.task_word.specs.Answers.{core_answer, is_won}
use Rattle.task_word.proofs.SeatFields.{won_wins}
use Rattle.task_word.specs.Words.{marked}
use Rattle.task_word.proofs.CoreSteps.{core_cancels}
use Rattle.task_word.proofs.Uses.{entry_here}
use Rattle.task_word.proofs.core_side.CoreSeat.cancel.Goals as goal

pub fetch_or-found-requires : goal.fetch_or-found-requires
fetch_or-found-requires g c =
    let tasks : c.words.inside.tasks ≡ c.args.words.now.tasks = ap (λ w. w.tasks) c.words.view_is in
    let seat = c.self.inside.seat in (
      ap (λ s. s.table) c.self.view_is ∙ (c.requires.table ∙ sym (ap (λ w. w.table) c.words.view_is)),
      omega (arith, tasks, c.words.invariant.1, c.requires.task),
      core_cancels c.words.inside.table.shared.key _ seat.id c.args.k seat.me c.self.invariant.0 c.self.invariant.1 (omega (arith, tasks, c.words.invariant.0, c.requires.task)),
    )

pub of_value-met-requires : goal.of_value-met-requires
of_value-met-requires g c = (c.fetch_or-found.ensures.2 c.args.k refl).0.word

pub returns-clause-met : goal.returns-clause-met
returns-clause-met g c =
    let step = c.fetch_or-found.ensures.2 c.args.k refl in
    let w = word_of_value c.fetch_or-found.result in
    let v = core_of c.self.inside.seat.me.0 in
    let words = ap (λ s. s.table.words) c.self.view_is ∙ (ap (λ t. t.words) c.requires.table ∙ sym (ap (λ t. t.table.words) c.words.view_is)) in
    let tasks : c.words.inside.tasks ≡ c.args.words.now.tasks = ap (λ w. w.tasks) c.words.view_is in
    let room : c.args.k < length v.entries = omega (arith, ap length c.self.invariant.2, c.self.invariant.5, c.words.invariant.1, tasks, words, c.requires.task) in (
      w,
      subst (λ s. MeetsEntry (entry s.view c.args.k) w) c.self.view_is step.0.meets,
      subst (λ s. CoreTells s.view c.args.k w) c.self.view_is step.0.tells,
      c.of_word.ensures ∙ ap core_answer c.of_value-met.ensures,
      ap (λ m. core_of m.0) step.1 ∙ ap (λ s. core_cancelled s.view c.args.k w) c.self.view_is,
      ap (λ m. entry (core_of m.0) c.args.k) step.1 ∙ entry_here v c.args.k (marked w) room,
    )

pub returns-clause-own : goal.returns-clause-own
returns-clause-own g c =
    let step = c.fetch_or-found.ensures.2 c.args.k refl in
    let w = word_of_value c.fetch_or-found.result in
    let answer : c.of_word.result ≡ core_answer w = c.of_word.ensures ∙ ap core_answer c.of_value-met.ensures in
    ap (λ m. (core_of m.0).own) step.1 ∙ (ap (λ s. and_if (wins w) c.args.k s.view.own) c.self.view_is ∙ ap (λ b. and_if b c.args.k c.args.self.now.view.own) (won_wins w ∙ ap is_won (sym answer)))
