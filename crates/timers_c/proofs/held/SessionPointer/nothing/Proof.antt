-- A slot with nothing is made of the null pointer and the handle of the allocator.
use Rattle.c_slot.proofs.Steps.{refl, sym, subst, List, [], ◌∷◌, ◌++◌, proved_at, Val, vstruct, of_list, ftrue, fsep, ent, WpFn, tables, Item, ‵, raw, ◌⊛◌, ◌$◌, ◌∵◌, !, qed, by, move, drop, join, split, fsplit, fjoin, fpack, feq_i, suffices, agg, no_more, and_then, returns, enter, alloc_all, pass_all, free_all, look_at, get, sets, done, yes, Valss, RawPtr, null_ptr, ptr_val, plain, nothing, within, shape, says, Stays, stay_dropped, walk_of, ends_at}
use Rattle.std.specs.Prelude.{false}
use base.Logic.{emp}
use types.Run.{lit}
use denote.Struct.Owning.{to}
use lib.Dec.{lit<}
use denote.Triple.Walked.{Goes-dropped}
use Rattle.std.specs.contracts.alloc.Global as heap
use Rattle.std.proofs.alloc.Calls.{handle_tells}
use Rattle.std_alloc.proofs.ResultValues.{and_tt}
use Rattle.timers_c.proofs.AsBox.{E}
use Rattle.timers_c.specs.own.Kept.{no_session}
use Rattle.timers_c.specs.contracts.held.SessionPointer as held
use Rattle.timers_c.specs.contracts.held.SessionPointer.nothing as f
use Rattle.timers_c.proofs.held.SessionPointer.nothing.Statement.{statement}
use Rattle.timers_c.proofs.held.SessionPointer.nothing.Code as code

abbrev stayed : Stays f.ended.signature.params f.ended.kept
stayed = (stay_dropped (plain (λ _. heap.the_row)) yes, tt)

pub nothing_spec : {M : Type 1} → statement M
nothing_spec 𝓤 𝓛 𝓜 𝓡 wired =
    let c = f.clauses 𝓛 𝓜.mem 𝓡.returns in let 𝓣 = tables 𝓤 𝓛.H 𝓜 𝓡 𝓡.env in
    proved_at 𝓛 f.ended stayed c 𝓜 𝓡 (Goes-dropped 𝓛 0 (plain (λ _. heap.the_row)) yes (λ κs x w. refl), tt)
    f.Key.name code.function (code.unfolded 𝓤 𝓛.H 𝓜 𝓡 wired) (λ y _.
    let a = y.0.3.0 in let Post = (walk_of 𝓛 f.ended stayed c).post y in
    qed 𝓛 ((‵ ftrue ⊛ ‵ (fsep (heap.the_row.own_val a y.0.4.0) ftrue)) ∷ raw (emp 𝓤) ∷ []) ∵ split ! $ drop ! $ fsplit ! $
    handle_tells E.al ! a y.0.4.0 (λ h is fits. move ! (1 ∷ 2 ∷ []) $ drop ! $ drop ! $
    let w = vstruct (of_list (ptr_val null_ptr ∷ h ∷ [])) in
    let made : held.the_row.Denot = record { ptr = null_ptr; alloc = a; full = false; value = no_session } in
    let Γ : List (Item 𝓤) = ‵ (heap.the_row.own_val a (h ∷ [])) ∷ [] in
    by ! (subst (λ (us : List Val). ent 𝓤 (types.Kit.⋆ 𝓛 Γ) (WpFn 𝓤 𝓛.H 𝓣.C 𝓣.Λ code.function (us ++ []) Post)) (sym is)
    (qed 𝓛 Γ ∵ enter ! _ _ _ _ _ $ alloc_all ! (λ l. pass_all ! refl (fits, tt) $
    sets ! (agg ! (and_then ! (lit ! tt) (and_then ! (get ! refl) (no_more !)))) refl (and_tt _ fits.0, (record { fits = lit< tt }, (fits.1, tt))) $
    returns ! (look_at ! 0 refl) $ free_all ! refl $
    suffices ! _ (ends_at 𝓛 f.ended stayed c y w made (tt, tt) (tt, tt)) $ says ! (refl, refl) $
    -- [the handle]
    nothing ! $ nothing ! $ move ! (2 ∷ 0 ∷ []) $ fjoin ! $ feq_i ! (List Val) (ptr_val null_ptr ∷ []) (ptr_val null_ptr ∷ []) refl $ fjoin ! $
    feq_i ! (List Val) (w ∷ []) (w ∷ []) refl $ fjoin ! $
    fpack ! (Valss (RawPtr ∷ heap.the_row ∷ [])) (within (shape held.the_type) (to held.the_type made) (w ∷ [])) (ptr_val null_ptr ∷ [], (h ∷ [], tt)) $ fjoin ! $
    nothing ! $ nothing ! $ fjoin ! $ join ! $ nothing ! $ join ! $ done !)))))
