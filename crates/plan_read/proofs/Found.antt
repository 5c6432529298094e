-- The submission that is found by a name, and where it stands.
use Rattle.std.proofs.Common.{◌≡◌, ◌⊎◌, ◌≤◌, ◌<◌, ℕ, suc, ◌+◌, true, false, nat_lt, List, [], ◌∷◌, ◌++◌, length, Option, Some, None, bytes_eq, refl, sym, ◌∙◌, ap, inl, inr, arith}
use Rattle.std.specs.Prelude.{slice_get}
use Rattle.std.proofs.lemmas.Bool.{cases_Bool}
use Rattle.std.proofs.lemmas.Bool.Decides.{nat_tests}
use Rattle.std.proofs.lemmas.Slice.Eq.{bytes_eq-Decides}
use Rattle.plan_read.specs.declared.plans.Call.{Call}
use Rattle.plan_read.specs.declared.plans.Header.{Header}
use Rattle.plan_read.specs.declared.sites.Site.{Site}
use Rattle.plan_read.specs.Plans.{BlockTree, PlanTree, name_of, names_of, site, submissions_of, submissions_from, submissions_before, find, StandsBefore}
use Rattle.plan_read.proofs.Naming.{find-append}

none_or_some : {A : Type 0} (o : Option A) → (o ≡ None) ⊎ ((x : A) × (o ≡ Some x))
none_or_some None = inl refl
none_or_some (Some x) = inr (x, refl)

-- a submission found in a block stands there, and has the name
record StandsIn (block sub : ℕ) (h : Header) (names : List (List ℕ)) (name : List ℕ) (s : Site) : Type 0 where
  index : ℕ
  in_block : s.target.block ≡ block
  place : s.target.sub ≡ sub + index
  named_so : slice_get names index ≡ Some name
  repeated : s.repeated ≡ nat_lt 1 h.times

found_first : (block sub : ℕ) (h : Header) (names : List (List ℕ)) (name first : List ℕ) (s : Site) → bytes_eq name first ≡ true → site block h sub ≡ s → StandsIn block sub h (first ∷ names) name s
found_first block sub h names name first s t is =
    let e : name ≡ first = (bytes_eq-Decides name first).0 t in record {
      index = 0;
      in_block = ap (λ (k : Site). k.target.block) (sym is);
      place = ap (λ (k : Site). k.target.sub) (sym is) ∙ omega arith;
      named_so = rw e refl;
      repeated = ap (λ (k : Site). k.repeated) (sym is);
    }

found_in_calls : (block : ℕ) (h : Header) (sub : ℕ) (cs : List Call) (name : List ℕ) (s : Site) → find name (submissions_of block h sub cs) ≡ Some s → StandsIn block sub h (names_of cs) name s
found_in_calls block h sub [] name s f = absurd (cc)
found_in_calls block h sub (c ∷ cs) name s f =
    elim (none_or_some (name_of c.op)) [
      | inl e ↦ (let r = found_in_calls block h sub cs name s (rw e at f) in rw e r)
      | inr e ↦ elim (cases_Bool (bytes_eq name e.0)) [
        | inl t ↦ (
            let is : site block h sub ≡ s = (let g = rw (e.1, t) at f in cc) in
            rw e.1 (found_first block sub h (names_of cs) name e.0 s t is))
        | inr u ↦ (
            let r = found_in_calls block h (sub + 1) cs name s (rw (e.1, u) at f) in
            rw e.1 (record { index = suc r.index; in_block = r.in_block; place = r.place ∙ omega arith; named_so = r.named_so; repeated = r.repeated }))
      ]
    ]

find-append_found : (q : List ℕ) (xs ys : List (List ℕ × Site)) (s : Site) → find q xs ≡ Some s → find q (xs ++ ys) ≡ Some s
find-append_found q [] ys s h = absurd (cc)
find-append_found q (x ∷ xs) ys s h = elim (cases_Bool (bytes_eq q x.0)) [ inl t ↦ rw t (rw t at h) | inr f ↦ rw f (find-append_found q xs ys s (rw f at h)) ]

-- a submission found in some blocks stands in one of them
record StandsAmong (block : ℕ) (bs : PlanTree) (name : List ℕ) (s : Site) : Type 0 where
  index : ℕ
  own : BlockTree
  in_block : s.target.block ≡ block + index
  at : slice_get bs index ≡ Some own
  within : index < length bs
  named_so : slice_get (names_of own.calls) s.target.sub ≡ Some name
  repeated : s.repeated ≡ nat_lt 1 own.header.times

stands_first : (block : ℕ) (b : BlockTree) (bs : PlanTree) (name : List ℕ) (s : Site) → StandsIn block 0 b.header (names_of b.calls) name s → StandsAmong block (b ∷ bs) name s
stands_first block b bs name s r =
    let e : s.target.sub ≡ r.index = r.place ∙ omega arith in
    record { index = 0; own = b; in_block = r.in_block ∙ omega arith; at = refl; within = omega arith; named_so = rw e r.named_so; repeated = r.repeated }

found_in_blocks : (block : ℕ) (bs : PlanTree) (name : List ℕ) (s : Site) → find name (submissions_from block bs) ≡ Some s → StandsAmong block bs name s
found_in_blocks block [] name s f = absurd (cc)
found_in_blocks block (b ∷ bs) name s f =
    elim (none_or_some (find name (submissions_of block b.header 0 b.calls))) [
      | inl e ↦ (
          let r = found_in_blocks (block + 1) bs name s (sym (find-append name (submissions_of block b.header 0 b.calls) (submissions_from (block + 1) bs) e) ∙ f) in
          record { index = suc r.index; own = r.own; in_block = r.in_block ∙ omega arith; at = r.at; within = omega (arith, r.within); named_so = r.named_so; repeated = r.repeated })
      | inr e ↦ (
          let g = find-append_found name (submissions_of block b.header 0 b.calls) (submissions_from (block + 1) bs) e.0 e.1 in
          let is : e.0 ≡ s = (let k = sym g ∙ f in cc) in
          stands_first block b bs name s (found_in_calls block b.header 0 b.calls name s (rw is at e.1)))
    ]

once : (times : ℕ) → nat_lt 1 times ≡ false → times ≤ 1
once times h = grind (arith, nat_tests)

-- in an earlier block
stands_earlier : (earlier : PlanTree) (before : List Call) (name : List ℕ) (s : Site) → StandsAmong 0 earlier name s → (s.target.block ≡ length earlier) ⊎ (s.repeated ≡ false)
    → StandsBefore earlier before name s.target
stands_earlier earlier before name s r (inl own) = absurd (omega (arith, own, r.in_block, r.within))
stands_earlier earlier before name s r (inr clear) =
    let e : s.target.block ≡ r.index = r.in_block ∙ omega arith in
    inr (r.own, rw e r.at, once r.own.header.times (sym r.repeated ∙ clear), r.named_so)

-- in the same block
stands_here : (earlier : PlanTree) (h : Header) (before : List Call) (name : List ℕ) (s : Site) → StandsIn (length earlier) 0 h (names_of before) name s
    → StandsBefore earlier before name s.target
stands_here earlier h before name s r =
    let e : s.target.sub ≡ r.index = r.place ∙ omega arith in
    inl (r.in_block, rw e r.named_so)

-- the submission that a cancel finds stands before it
pub stands_before : (earlier : PlanTree) (h : Header) (before : List Call) (name : List ℕ) (s : Site) → find name (submissions_before earlier h before) ≡ Some s
    → (s.target.block ≡ length earlier) ⊎ (s.repeated ≡ false) → StandsBefore earlier before name s.target
stands_before earlier h before name s f clear =
    elim (none_or_some (find name (submissions_from 0 earlier))) [
      | inl e ↦ (
          let g = sym (find-append name (submissions_from 0 earlier) (submissions_of (length earlier) h 0 before) e) ∙ f in
          stands_here earlier h before name s (found_in_calls (length earlier) h 0 before name s g))
      | inr e ↦ (
          let g = find-append_found name (submissions_from 0 earlier) (submissions_of (length earlier) h 0 before) e.0 e.1 in
          let is : e.0 ≡ s = (let k = sym g ∙ f in cc) in
          stands_earlier earlier before name s (found_in_blocks 0 earlier name s (rw is at e.1)) clear)
    ]
