-- History: over a whole run no answered group is lost.
use Rattle.std.proofs.Common.{◌≡◌, ◌⊎◌, ℕ, ◌+◌, List, [], ◌∷◌, ◌++◌, refl, ap, sym, ◌∙◌, subst, inl, inr, arith, append_assoc, append-nil}
use Rattle.line_journal.specs.Groups.{lines_of}
use Rattle.line_journal.specs.Parts.{Part, with_group, snapshot_of, next_head}
use Rattle.line_journal.specs.Runs.{Event, answered, unanswered, covered, uncovered, Leads, KeepsAnswered, IsOf, one_run}
use Rattle.line_journal.proofs.Reading.{lines_both}

of_group : (p : Part) (group : List ℕ) (groups : List (List ℕ)) → IsOf p groups → IsOf (with_group p group) (groups ++ group ∷ [])
of_group p group groups is = (is.0, ap (λ (t : List (List ℕ)). t ++ group ∷ []) is.1 ∙ append_assoc is.0 p.groups (group ∷ []), is.2)

of_snapshot : (p : Part) (text : List ℕ) (groups : List (List ℕ)) → IsOf p groups → IsOf (snapshot_of (next_head p text) text) groups
of_snapshot p text groups is =
    let sum : lines_of (is.0 ++ p.groups) ≡ lines_of is.0 + lines_of p.groups = lines_both is.0 p.groups in
    (is.0 ++ p.groups, is.1 ∙ sym (append-nil (is.0 ++ p.groups)), omega (arith, is.2, sum))

one_more : (p q : Part) (group : List ℕ) (groups rest : List (List ℕ)) → IsOf q ((groups ++ group ∷ []) ++ rest) → IsOf q (groups ++ group ∷ rest)
one_more p q group groups rest is = subst (λ (t : List (List ℕ)). IsOf q t) (append_assoc groups (group ∷ []) rest) is

pub kept_over : (events : List Event) (p q : Part) (groups : List (List ℕ)) → IsOf p groups → Leads p events q → (kept : List (List ℕ)) × KeepsAnswered events kept × IsOf q (groups ++ kept)
kept_over [] p q groups is leads = ([], refl, subst (λ (t : List (List ℕ)). IsOf q t) (sym (append-nil groups)) (subst (λ (r : Part). IsOf r groups) (sym leads) is))
kept_over (answered group ∷ events) p q groups is leads =
    let now : IsOf leads.0 (groups ++ group ∷ []) = subst (λ (r : Part). IsOf r (groups ++ group ∷ [])) (sym leads.1) (of_group p group groups is) in
    let more = kept_over events leads.0 q (groups ++ group ∷ []) now leads.2 in
    (group ∷ more.0, (more.0, refl, more.1), one_more p q group groups more.0 more.2)
kept_over (unanswered group ∷ events) p q groups is leads = elim leads.1 [
  | inl same ↦
      let more = kept_over events leads.0 q groups (subst (λ (r : Part). IsOf r groups) (sym same) is) leads.2 in
      (more.0, inl more.1, more.2)
  | inr new ↦
      let now : IsOf leads.0 (groups ++ group ∷ []) = subst (λ (r : Part). IsOf r (groups ++ group ∷ [])) (sym new) (of_group p group groups is) in
      let more = kept_over events leads.0 q (groups ++ group ∷ []) now leads.2 in
      (group ∷ more.0, inr (more.0, refl, more.1), one_more p q group groups more.0 more.2)
]
kept_over (covered text ∷ events) p q groups is leads =
    kept_over events leads.0 q groups (subst (λ (r : Part). IsOf r groups) (sym leads.1) (of_snapshot p text groups is)) leads.2
kept_over (uncovered text ∷ events) p q groups is leads = elim leads.1 [
  | inl same ↦ kept_over events leads.0 q groups (subst (λ (r : Part). IsOf r groups) (sym same) is) leads.2
  | inr new ↦ kept_over events leads.0 q groups (subst (λ (r : Part). IsOf r groups) (sym new) (of_snapshot p text groups is)) leads.2
]

-- without an error before the last group, what is kept is a front of what was handed in, and has all that was answered
pub front_of_run : (groups kept : List (List ℕ)) (last : List ℕ) → KeepsAnswered (one_run groups last) kept → (kept ≡ groups) ⊎ (kept ≡ groups ++ last ∷ [])
front_of_run [] kept last is = elim is [
  | inl none ↦ inl none
  | inr some ↦ inr (some.1 ∙ ap (λ (t : List (List ℕ)). last ∷ t) some.2)
]
front_of_run (group ∷ groups) kept last is = elim (front_of_run groups is.0 last is.2) [
  | inl same ↦ inl (is.1 ∙ ap (λ (t : List (List ℕ)). group ∷ t) same)
  | inr more ↦ inr (is.1 ∙ ap (λ (t : List (List ℕ)). group ∷ t) more)
]
