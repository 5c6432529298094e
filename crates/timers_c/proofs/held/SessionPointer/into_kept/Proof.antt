-- The two fields move, and what they own goes with them.
use Rattle.c_slot.proofs.Steps.{◌≡◌, refl, sym, subst, ap, ◌∙◌, List, [], ◌∷◌, ◌++◌, Bool, true, proved_at, bare, Val, ftrue, fsep, ent, id⊢, never, fst∗, sem, fact, WpFn, tables, Item, ‵, raw, ◌⊛◌, ◌$◌, ◌∵◌, !, qed, by, move, drop, use1, join, split, rewrite, fsplit, fjoin, suffices, whole, sub, agg, stop, fld, no_more, and_then, of_opd, returns, enter, alloc_all, pass_all, free_all, look_at, get, get_in, sets, done, yes, Ptr, block_ptr, null_ptr, in_a_block, heard, nothing, says, Stays, stay_dropped, walk_of, ends_at}
use denote.Triple.Walked.{Goes-dropped}
use Rattle.std.proofs.alloc.Calls.{token}
use Rattle.std.specs.Box.Ownership.{box_owns}
use Rattle.std_alloc.proofs.BoxSteps.Form.{R, τ, word, box_typed}
use Rattle.c_slot.proofs.Opened.{D, Row, words, opened, closed}
use Rattle.timers_c.proofs.AsBox.{E, KeptRow, from_held}
use Rattle.timers_c.specs.Slots.{holds_session}
use Rattle.timers_c.specs.contracts.held.SessionPointer as held
use Rattle.timers_c.specs.contracts.held.SessionPointer.into_kept as f
use Rattle.timers_c.proofs.held.SessionPointer.into_kept.Statement.{statement}
use Rattle.timers_c.proofs.held.SessionPointer.into_kept.Code as code

abbrev stayed : Stays f.ended.signature.params f.ended.kept
stayed = (stay_dropped from_held yes, tt)

pub into_kept_spec : {M : Type 1} → statement M
into_kept_spec 𝓤 𝓛 𝓜 𝓡 wired =
    let c = f.clauses 𝓛 𝓜.mem 𝓡.returns in let 𝓣 = tables 𝓤 𝓛.H 𝓜 𝓡 𝓡.env in
    proved_at 𝓛 f.ended stayed c 𝓜 𝓡 (Goes-dropped 𝓛 0 from_held yes (λ κs x w. refl), tt)
    f.Key.name code.function (code.unfolded 𝓤 𝓛.H 𝓜 𝓡 wired) (λ y _.
    let s = y.0.3.0 in let a = s.alloc in let x = s.value in let Post = (walk_of 𝓛 f.ended stayed c).post y in
    qed 𝓛 ((‵ ftrue ⊛ ‵ (fsep (held.the_row.own_val s y.0.4.0) ftrue)) ∷ raw (fact 𝓤 (s.full ≡ true)) ∷ []) ∵ move ! (1 ∷ []) $ heard ! (s.full ≡ true) (λ full.
    split ! $ drop ! $ fsplit ! $ fsplit ! $ move ! (1 ∷ []) $
    rewrite ! 0 (λ (is_full : Bool). ‵ (holds_session a s.ptr is_full x)) full refl $ move ! (1 ∷ 0 ∷ []) $ fjoin ! $
    let k : D E = record { ptr = s.ptr; alloc = a; value = x } in
    use1 𝓛 (‵ ((Row E).own_val k y.0.4.0)) (id⊢ 𝓤 _) $
    opened E ! k y.0.4.0 (λ h words_are fits.
    in_a_block ! k.ptr (λ p. box_owns (token E.al a) (R E) p x) (fst∗ 𝓤 (never 𝓤) (sem 𝓛 (token E.al a (bare (τ E)) null_ptr))) (λ b o at.
    let w = word E h b o in let typed = box_typed E h b o fits in
    let made : D E = record { ptr = block_ptr b o; alloc = a; value = x } in
    closed E ! made h $ use1 𝓛 (‵ (KeptRow.own_val made (w ∷ []))) (id⊢ 𝓤 _) $
    move ! (1 ∷ []) $ drop ! $
    let Γ : List (Item 𝓤) = ‵ (KeptRow.own_val made (w ∷ [])) ∷ [] in
    by ! (subst (λ (us : List Val). ent 𝓤 (types.Kit.⋆ 𝓛 Γ) (WpFn 𝓤 𝓛.H 𝓣.C 𝓣.Λ code.function (us ++ []) Post)) (sym (words_are ∙ ap (λ (p : Ptr). words E p h) at))
    (qed 𝓛 Γ ∵ enter ! _ _ _ _ _ $ alloc_all ! (λ l. pass_all ! refl (typed, tt) $
    sets ! (of_opd ! (get_in ! (fld ! refl (stop !)) (sub ! 0 refl (whole !)))) refl (tt, tt) $
    sets ! (of_opd ! (get_in ! (fld ! refl (stop !)) (sub ! 1 refl (whole !)))) refl fits $
    sets ! (of_opd ! (get ! refl)) refl (tt, tt) $
    sets ! (agg ! (and_then ! (get ! refl) (and_then ! (get ! refl) (no_more !)))) refl typed $
    returns ! (look_at ! 0 refl) $ free_all ! refl $
    suffices ! _ (ends_at 𝓛 f.ended stayed c y w made (tt, tt) (tt, tt)) $ says ! refl $
    nothing ! $ nothing ! $ fjoin ! $ join ! $ nothing ! $ join ! $ done !)))))))
