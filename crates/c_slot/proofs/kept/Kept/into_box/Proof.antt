-- What is kept goes back into a box.
use Rattle.c_slot.proofs.Steps.{◌≡◌, refl, sym, subst, ap, ◌∙◌, List, [], ◌∷◌, ◌++◌, T, proved_at, inst_fn, bare, Fn, Val, vptr, ftrue, flft, fsep, ent, id⊢, never, fst∗, sem, ◌⊑◌, fact, tables, WpFn, Item, ‵, raw, ◌⊛◌, some, later, at_ret, ◌$◌, ◌∵◌, !, qed, by, move, drop, use1, join, split, split3, pick, rewrite, fsplit, fjoin, feq_i, suffices, await, whole, sub, stop, fld, no_more, and_then, of_opd, returns, enter, first, blocks, exec, alloc_all, pass_all, free_all, look_at, get, get_in, sets, lands_last, env, done, no, Ptr, block_ptr, null_ptr, in_a_block, plain, heard, nothing, only, calls_at_last, Ended, triple_of, framed, says, Stays, stay_dropped, walk_of, ends_at}
use mir.Val.{has_ty, WT}
use Rattle.std.proofs.VecSteps.Shapes.{after}
use Rattle.std.proofs.alloc.Calls.{token, Goes-blank}
use Rattle.std.specs.Box.Ownership.{box_owns}
use Rattle.std_alloc.proofs.BoxSteps.Form.{Bx, R, P, B, τ, args, box_ty, word, box_typed}
use Rattle.std_alloc.proofs.BoxSteps.Form as box
use Rattle.std_alloc.proofs.BoxSteps.Steps.{box_out, box_in}
use Rattle.std_alloc.specs.contracts.boxed.Box.from_raw as g
use Rattle.std_alloc.proofs.boxed.Box.from_raw.Met.{met}
use Rattle.c_slot.proofs.Opened.{Row, words, opened}
use Rattle.c_slot.specs.contracts.kept.Kept.into_box as f
use Rattle.c_slot.proofs.kept.Kept.into_box.Statement.{statement}
use Rattle.c_slot.proofs.kept.Kept.into_box.Code as code

module _ (E : Bx) where
  abbrev function : Fn
  function = inst_fn (args E) code.function

  abbrev ended : Ended
  ended = f.ended E.row E.al.row E.al.g E.al.d E.al.drops

  abbrev stayed : Stays ended.signature.params ended.kept
  stayed = (stay_dropped (plain (λ _. Row E)) no, tt)

pub into_box_spec : {M : Type 1} → statement M
into_box_spec 𝓤 𝓛 𝓜 𝓡 wired X Z LX LZ ghosts al drops allocator let_al =
    let E : Bx = record { row = X; laws = LX; al = record { row = Z; laws = LZ; g = ghosts; d = al; drops = drops } } in
    let c = f.clauses X Z ghosts al drops 𝓛 𝓜.mem 𝓡.returns in
    let 𝓣 = tables 𝓤 𝓛.H 𝓜 𝓡 𝓡.env in
    let G = triple_of 𝓛 (g.signature X Z ghosts al drops) (g.spec X Z ghosts al drops 𝓛 𝓜.mem 𝓡.returns) in
    proved_at 𝓛 (ended E) (stayed E) c 𝓜 𝓡 (Goes-blank 𝓛 2 (plain (λ _. Row E)) no (λ κs x w. tt), tt)
    (f.Key.name (args E)) (function E) (code.unfolded 𝓤 𝓛.H 𝓜 𝓡 wired (X, (Z, tt)) al drops) (λ y _.
    let κs = y.0.0 in let qs = y.0.1 in let k = y.0.3.0 in let a = k.alloc in let x = k.value in
    let alive : Item 𝓤 = ‵ (flft κs.0 qs.0) ⊛ ‵ (flft κs.1.0 qs.1.0) ⊛ ‵ ftrue in
    let of_x : Item 𝓤 = raw (fact 𝓤 (κs.0 ⊑ X.lives)) in let of_a : Item 𝓤 = raw (fact 𝓤 (κs.1.0 ⊑ Z.lives)) in
    let Post = (walk_of 𝓛 (ended E) (stayed E) c).post y in
    qed 𝓛 ((alive ⊛ ‵ (fsep ((Row E).own_val k y.0.4.0) ftrue)) ∷ (of_x ⊛ of_a ⊛ ‵ ftrue) ∷ []) ∵
    split ! $ move ! (2 ∷ []) $ split3 ! $ move ! (2 ∷ []) $ drop ! $ move ! (3 ∷ []) $ fsplit ! $
    opened E ! k y.0.4.0 (λ h words_are fits.
    in_a_block ! k.ptr (λ p. box_owns (token E.al a) (R E) p x) (fst∗ 𝓤 (never 𝓤) (sem 𝓛 (token E.al a (bare (τ E)) null_ptr))) (λ b o at.
    let w = word E h b o in
    let z : G.Ghost = ((κs, qs, tt, (a, (block_ptr b o, tt)), (h ∷ [], (vptr b o ∷ [], tt))), x) in
    let Γ : List (Item 𝓤) = ‵ (box_owns (token E.al a) (R E) (block_ptr b o) x) ∷ ‵ ((P E).own_val a (h ∷ [])) ∷ ‵ ftrue ∷ of_x ∷ of_a ∷ alive ∷ [] in
    by ! (subst (λ (us : List Val). ent 𝓤 (types.Kit.⋆ 𝓛 Γ) (WpFn 𝓤 𝓛.H 𝓣.C 𝓣.Λ (function E) (us ++ []) Post)) (sym (words_are ∙ ap (λ (p : Ptr). words E p h) at))
    (qed 𝓛 Γ ∵ enter ! _ _ _ _ _ $ alloc_all ! (λ l. pass_all ! refl (box_typed E h b o fits, tt) $
    sets ! (of_opd ! (get_in ! (fld ! refl (stop !)) (sub ! 0 refl (whole !)))) refl (tt, tt) $
    sets ! (of_opd ! (get_in ! (fld ! refl (stop !)) (sub ! 1 refl (whole !)))) refl fits $
    first ! $ blocks ! $ sets ! (of_opd ! (get ! refl)) refl fits $
    -- [what the call requires; the parameters; the tokens; the locals]
    move ! (4 ∷ 0 ∷ []) $ join ! $ move ! (3 ∷ 0 ∷ []) $ join ! $
    move ! (2 ∷ []) $ feq_i ! (List Val) (vptr b o ∷ []) (vptr b o ∷ []) refl $ fjoin ! $ move ! (2 ∷ 0 ∷ []) $ fjoin ! $ move ! (2 ∷ 0 ∷ []) $ join ! $ join ! $
    use1 𝓛 (raw (G.pre z)) (id⊢ 𝓤 _) $
    calls_at_last ! (framed 𝓤 𝓛.H 𝓜 𝓣) G (met 𝓤 𝓛 𝓜 𝓡 (code.calls-std_alloc::boxed::Box::from_raw 𝓡.env wired) X Z LX LZ ghosts al drops allocator let_al) z
    (and_then ! (get ! refl) (and_then ! (get ! refl) (no_more !))) (λ u.
    use1 𝓛 (later (some (λ (r : box.D E). (alive ⊛ ‵ ((B E).own_val r (u ∷ []))) ⊛ some (λ (_ : Unit {0} × (Unit {0} × Unit {0})).
    ‵ (fsep ftrue (fsep ftrue ftrue)) ⊛ (raw (fact 𝓤 (r.value ≡ x)) ⊛ raw (fact 𝓤 (r.alloc ≡ a))))))) (id⊢ 𝓤 _) $
    await ! tt $ pick ! (λ r. split ! $ move ! (1 ∷ []) $ pick ! (λ _. split3 ! $ drop ! $ heard ! (r.value ≡ x) (λ same. drop ! $ split ! $ move ! (1 ∷ []) $
    box_out E ! r (u ∷ []) (λ b' o' h' at' u_is fits'. box_in E ! r b' o' r.value at' refl $
    rewrite ! 0 (λ (us : List Val). ‵ ((B E).own_val r us)) (sym u_is) refl $
    let typed : T (has_ty (box_ty E) u) × WT u = subst (λ (s : Val). T (has_ty (box_ty E) s) × WT s) (sym (ap only u_is)) (box_typed E h' b' o' fits') in
    lands_last ! refl typed $ exec ! 𝓣.C 𝓣.Λ (env (function E).locals l) (after 3 (function E).body) (at_ret _ Post) $
    sets ! (of_opd ! (get ! refl)) refl typed $ returns ! (look_at ! 0 refl) $ free_all ! refl $
    suffices ! _ (ends_at 𝓛 (ended E) (stayed E) c y u r ((tt, (tt, tt)), tt) (tt, tt)) $ says ! same $
    nothing ! $ nothing ! $ fjoin ! $ join ! $ move ! (1 ∷ 0 ∷ []) $ join ! $ done !)))))))))))
