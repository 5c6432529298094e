-- One run more, behind those that were begun or have ended.
use Rattle.std.proofs.Common.{◌≡◌, ℕ, ◌+◌, List, [], ◌∷◌, ◌++◌, Some, refl, sym, ap, ◌∙◌, subst, drop, slice_index_or, rules}
use Rattle.std.proofs.lemmas.List.{get_or-drop}
use Rattle.timers_c.specs.declared.runs.End.{End}
use Rattle.timers_c.specs.declared.runs.Ending.{Ending}
use Rattle.timers_c.specs.declared.runs.Run.{Run}
use Rattle.timers_c.specs.declared.status.Status.TheVariants as s
use Rattle.timers_c.specs.Calls.{TakesPoll}
use Rattle.timers_c.specs.Many.{FinishesEach, PollsEach, TakesEnding}
use Rattle.timers_c.specs.Seen.{Seen}

-- lists that are alike from a place on have the same there
pub same_there : {X : Type 0} (xs ys : List X) (i : ℕ) (d : X) → drop i xs ≡ drop i ys → slice_index_or xs i d ≡ slice_index_or ys i d
same_there xs ys i d h =
    let at : i + 0 ≡ i = search rules in
    ap (λ k. slice_index_or xs k d) (sym at) ∙ sym (get_or-drop i xs 0 d) ∙ ap (λ l. slice_index_or l 0 d) h ∙ get_or-drop i ys 0 d
    ∙ ap (λ k. slice_index_or ys k d) at

pub begins_more : (old : Seen) (now : ℕ) (at : Seen) (places runs : List Run) (place run : Run) (new : Seen) → PollsEach old now places runs at
    → TakesPoll s.Done now place.worker run (Some at) (Some new) → PollsEach old now (places ++ place ∷ []) (runs ++ run ∷ []) new
begins_more old now at [] [] place run new is one = (new, subst (λ (m : Seen). TakesPoll s.Done now place.worker run (Some m) (Some new)) is one, refl)
begins_more old now at (p ∷ ps) (r ∷ rs) place run new (between, did, rest) one = (between, did, begins_more between now at ps rs place run new rest one)
begins_more old now at [] (r ∷ rs) place run new never one = absurd never
begins_more old now at (p ∷ ps) [] place run new never one = absurd never

pub ends_more : (old : Seen) (now : ℕ) (at : Seen) (endings : List Ending) (ends : List End) (ending : Ending) (end : End) (new : Seen)
    → FinishesEach old now endings ends at → TakesEnding s.Done now ending end at new → FinishesEach old now (endings ++ ending ∷ []) (ends ++ end ∷ []) new
ends_more old now at [] [] ending end new is one = (new, subst (λ (m : Seen). TakesEnding s.Done now ending end m new) is one, refl)
ends_more old now at (e ∷ es) (r ∷ rs) ending end new (between, did, rest) one = (between, did, ends_more between now at es rs ending end new rest one)
ends_more old now at [] (r ∷ rs) ending end new never one = absurd never
ends_more old now at (e ∷ es) [] ending end new never one = absurd never
