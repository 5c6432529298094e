use Rattle.std.proofs.Common.{◌≡◌, ◌+◌, sym, ap, ◌∙◌, refl, arith, subst}
use Rattle.task_word.specs.Words.{value}
use Rattle.task_word.specs.own.Writes.{Exchanges}
use Rattle.task_word.specs.Views.{entry, with_entry}
use Rattle.task_word.specs.own.Views.{core_of}
use Rattle.task_word.specs.Numbers.{word_of_value}
use Rattle.task_word.proofs.WordNumbers.{reads_back}
use Rattle.task_word.proofs.SeatFields.{core_sits, found_it}
use Rattle.task_word.proofs.CoreSteps.{moves}
use Rattle.task_word.proofs.core_side.CoreSeat.advance.Goals as goal

pub compare_exchange-found-requires : goal.compare_exchange-found-requires
compare_exchange-found-requires g c =
    let tasks : c.words.inside.tasks ≡ c.args.words.now.tasks = ap (λ w. w.tasks) c.words.view_is in
    let seat = c.self.inside.seat in (
      ap (λ s. s.table) c.self.view_is ∙ (c.requires.table ∙ sym (ap (λ w. w.table) c.words.view_is)),
      omega (arith, tasks, c.words.invariant.1, c.requires.task),
      moves c.words.inside.table.shared.key _ seat.id c.args.k c.value-old.result c.value.result c.args.next seat.me c.self.invariant.0 c.self.invariant.1
          (omega (arith, tasks, c.words.invariant.0, c.requires.task))
          (subst (λ s. Exchanges (entry s.view c.args.k) c.args.next) (sym c.self.view_is) c.requires.exchange)
          (c.value-old.ensures.value ∙ ap value (c.known-word.ensures ∙ ap (λ s. entry s.view c.args.k) (sym c.self.view_is)))
          c.value.ensures.value
          (λ _. c.value.ensures.word),
    )

pub invariant_of-self : goal.invariant_of-self
invariant_of-self g c =
    let step = c.compare_exchange-found.ensures in
    let seat = c.self.inside.seat in
    let read : word_of_value c.value.result ≡ c.args.next = ap word_of_value c.value.ensures.value ∙ reads_back c.args.next c.value.ensures.word in
    core_sits _ _ _ _ seat.me _ c.self.inside.entries.items c.self.inside.out c.args.k c.args.next (with_entry (core_of seat.me.0) c.args.k c.args.next) step.0 step.1
    (found_it c.args.k _ c.args.next _ _ _ seat.me _ step.2 (refl {a = c.args.k + 1}) c.if-found-old.true read)
    refl
    refl
    c.self.invariant

pub returns-then-found-old-clause-view : goal.returns-then-found-old-clause-view
returns-then-found-old-clause-view g c =
    let step = c.compare_exchange-found.ensures in
    let seat = c.self.inside.seat in
    let read : word_of_value c.value.result ≡ c.args.next = ap word_of_value c.value.ensures.value ∙ reads_back c.args.next c.value.ensures.word in
    ap (λ m. core_of m.0) (found_it c.args.k _ c.args.next _ _ _ seat.me _ step.2 (refl {a = c.args.k + 1}) c.if-found-old.true read) ∙ ap (λ s. with_entry s.view c.args.k c.args.next) c.self.view_is
