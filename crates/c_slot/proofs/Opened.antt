-- What is kept, taken apart into what it owns and the handle of its allocator, and put together again.
use Rattle.c_slot.proofs.Steps.{◌≡◌, refl, ◌∙◌, List, [], ◌∷◌, ◌++◌, Ura, Val, vstruct, of_list, Fml, Logic, Goal, Item, Seq, Step, step, ‵, ◌$◌, move, drop, fsplit, fjoin, fpick, fpack, feq_i, feq_l, RattleType, Valss, Ptr, RawPtr, ptr_val, nothing, within, shape}
use Rattle.std.proofs.alloc.Calls.{token, Fits, handle_tells}
use Rattle.std_alloc.proofs.BoxSteps.Form.{Bx, R, P, handle}
use Rattle.std.specs.Box.Ownership.{box_owns}
use Rattle.c_slot.specs.declared.kept.Kept.{Kept}
use Rattle.c_slot.specs.contracts.kept.Kept.{the_row, the_type}

module _ (E : Bx) where
  abbrev pub D : Type 0
  D = Kept E.row.Denot E.al.row.Denot

  abbrev pub Row : RattleType
  Row = the_row (R E) (P E) E.al.g

  -- its machine value
  abbrev pub words : Ptr → Val → List Val
  words at handle = vstruct (of_list (ptr_val at ∷ handle ∷ [])) ∷ []

  abbrev pub owned_by : D → Fml
  owned_by k = box_owns (token E.al k.alloc) (R E) k.ptr k.value

module _ (E : Bx) {M : Type 1} {𝓤 : Ura M} {𝓛 : Logic 𝓤} {K : Type 0} {Γ : List (Item 𝓤)} {G : Goal 𝓤 𝓛.H} where
  pub opened : K → (k : D E) (vs : List Val)
      → ((h : Val) → vs ≡ words E k.ptr h → Fits E.al h → Seq K 𝓛 (‵ (owned_by E k) ∷ ‵ (handle E k.alloc h) ∷ Γ) G)
      → Seq K 𝓛 (‵ ((Row E).own_val k vs) ∷ Γ) G
  opened t k vs then =
      fsplit t $ fpick t (λ parts. fsplit t $ feq_l t (λ is. fsplit t $ feq_l t (λ at_is. fsplit t $
      handle_tells E.al t k.alloc parts.1.0 (λ h handle_is fits. move t (1 ∷ []) $ drop t $ move t (1 ∷ []) $
      then h (is ∙ (λ i. vstruct (of_list (at_is i ++ (handle_is i ++ []))) ∷ [])) fits))))

  pub closed : K → (k : D E) (h : Val)
      → Step K 𝓛 (‵ ((Row E).own_val k (words E k.ptr h)) ∷ Γ) G (‵ (owned_by E k) ∷ ‵ (handle E k.alloc h) ∷ Γ) G
  closed t k h = step (λ s.
      nothing t $ move t (2 ∷ 0 ∷ []) $ fjoin t $ feq_i t (List Val) (ptr_val k.ptr ∷ []) (ptr_val k.ptr ∷ []) refl $ fjoin t $
      feq_i t (List Val) (words E k.ptr h) (words E k.ptr h) refl $ fjoin t $
      fpack t (Valss (RawPtr ∷ P E ∷ [])) (within (shape (the_type (R E) (P E) E.al.g)) (k.ptr, (k.alloc, tt)) (words E k.ptr h)) (ptr_val k.ptr ∷ [], (h ∷ [], tt)) $ fjoin t $ s)
