-- The slot stands beside the number.
use Rattle.std.proofs.Common.{◌≡◌, ℕ, List, Some, ap, sym, ◌∙◌}
use Rattle.std.specs.Prelude.{slice_get}
use Rattle.live_core.specs.own.Slots.{IndexView}
use Rattle.live_core.proofs.Paired.{paired_beside, number_of_entry}
use Rattle.live_core.proofs.index.NumberIndex.find.Goals as goal

pub returns-in-Some-clause-found : goal.returns-in-Some-clause-found
returns-in-Some-clause-found g c =
    let place = c.in-Some.place in
    let there : slice_get c.self.inside.numbers.items place ≡ Some c.args.number = ap (λ (l : List ℕ). slice_get l place) (sym c.deref.ensures.value) ∙ c.in-Some.ensures.found in (
      place,
      ap (λ (v : IndexView). slice_get v.entries place) (sym c.self.view_is)
          ∙ paired_beside c.self.inside.numbers.items c.self.inside.slots.items place c.args.number c.index.result.now c.self.invariant.size there c.index.ensures,
    )

pub returns-in-None-clause-none : goal.returns-in-None-clause-none
returns-in-None-clause-none g c i x there same =
    c.in-None.ensures.none i (ap (λ (l : List ℕ). slice_get l i) c.deref.ensures.value
    ∙ (number_of_entry c.self.inside.numbers.items c.self.inside.slots.items i x (ap (λ (v : IndexView). slice_get v.entries i) c.self.view_is ∙ there) ∙ ap (λ (k : ℕ). Some k) same))
