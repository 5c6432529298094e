-- The two fields move, and what they own goes with them.
use Rattle.c_slot.proofs.Steps.{refl, sym, subst, ap, ◌∙◌, List, [], ◌∷◌, ◌++◌, true, proved_at, bare, Val, ftrue, fsep, ent, id⊢, never, fst∗, sem, WpFn, tables, Item, ‵, raw, ◌⊛◌, ◌$◌, ◌∵◌, !, qed, by, move, drop, use1, join, split, fsplit, fjoin, suffices, whole, sub, agg, stop, fld, no_more, and_then, of_opd, returns, enter, alloc_all, pass_all, free_all, look_at, get, get_in, sets, done, yes, Ptr, block_ptr, null_ptr, in_a_block, nothing, says, Stays, stay_dropped, walk_of, ends_at}
use base.Logic.{emp}
use denote.Triple.Walked.{Goes-dropped}
use Rattle.std.proofs.alloc.Calls.{token}
use Rattle.std.specs.Box.Ownership.{box_owns}
use Rattle.std_alloc.proofs.BoxSteps.Form.{R, τ, word, box_typed}
use Rattle.c_slot.proofs.Opened.{D, Row, words, opened, closed}
use Rattle.sched_c.proofs.AsBox.{E, from_kept}
use Rattle.sched_c.specs.contracts.held.SessionPointer as held
use Rattle.sched_c.specs.contracts.held.SessionPointer.of as f
use Rattle.sched_c.proofs.held.SessionPointer.of.Statement.{statement}
use Rattle.sched_c.proofs.held.SessionPointer.of.Code as code

abbrev stayed : Stays f.ended.signature.params f.ended.kept
stayed = (stay_dropped from_kept yes, tt)

pub of_spec : {M : Type 1} → statement M
of_spec 𝓤 𝓛 𝓜 𝓡 wired =
    let c = f.clauses 𝓛 𝓜.mem 𝓡.returns in let 𝓣 = tables 𝓤 𝓛.H 𝓜 𝓡 𝓡.env in
    proved_at 𝓛 f.ended stayed c 𝓜 𝓡 (Goes-dropped 𝓛 0 from_kept yes (λ κs x w. refl), tt)
    f.Key.name code.function (code.unfolded 𝓤 𝓛.H 𝓜 𝓡 wired) (λ y _.
    let k : D E = y.0.3.0 in let a = k.alloc in let x = k.value in let Post = (walk_of 𝓛 f.ended stayed c).post y in
    qed 𝓛 ((‵ ftrue ⊛ ‵ (fsep ((Row E).own_val k y.0.4.0) ftrue)) ∷ raw (emp 𝓤) ∷ []) ∵ split ! $ drop ! $ fsplit ! $
    opened E ! k y.0.4.0 (λ h words_are fits.
    in_a_block ! k.ptr (λ p. box_owns (token E.al a) (R E) p x) (fst∗ 𝓤 (never 𝓤) (sem 𝓛 (token E.al a (bare (τ E)) null_ptr))) (λ b o at.
    let w = word E h b o in let typed = box_typed E h b o fits in
    let made : held.the_row.Denot = record { ptr = block_ptr b o; alloc = a; full = true; value = x } in
    closed E ! (record { ptr = block_ptr b o; alloc = a; value = x }) h $ use1 𝓛 (‵ (held.the_row.own_val made (w ∷ []))) (id⊢ 𝓤 _) $
    move ! (1 ∷ 2 ∷ []) $ drop ! $ drop ! $
    let Γ : List (Item 𝓤) = ‵ (held.the_row.own_val made (w ∷ [])) ∷ [] in
    by ! (subst (λ (us : List Val). ent 𝓤 (types.Kit.⋆ 𝓛 Γ) (WpFn 𝓤 𝓛.H 𝓣.C 𝓣.Λ code.function (us ++ []) Post)) (sym (words_are ∙ ap (λ (p : Ptr). words E p h) at))
    (qed 𝓛 Γ ∵ enter ! _ _ _ _ _ $ alloc_all ! (λ l. pass_all ! refl (typed, tt) $
    sets ! (of_opd ! (get_in ! (fld ! refl (stop !)) (sub ! 0 refl (whole !)))) refl (tt, tt) $
    sets ! (of_opd ! (get_in ! (fld ! refl (stop !)) (sub ! 1 refl (whole !)))) refl fits $
    sets ! (of_opd ! (get ! refl)) refl (tt, tt) $
    sets ! (agg ! (and_then ! (get ! refl) (and_then ! (get ! refl) (no_more !)))) refl typed $
    returns ! (look_at ! 0 refl) $ free_all ! refl $
    suffices ! _ (ends_at 𝓛 f.ended stayed c y w made (tt, tt) (tt, tt)) $ says ! (refl, refl) $
    nothing ! $ nothing ! $ fjoin ! $ join ! $ nothing ! $ join ! $ done !))))))
