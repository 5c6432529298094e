-- The tree of a text, and the law on texts.
use Rattle.std.proofs.Common.{◌≡◌, ℕ, List, [], ◌++◌, length, Option, Some, None, is_some, true, refl, sym, subst, ap, ◌∙◌, inl, inr}
use Rattle.std.specs.Str.{IsUtf8, is_utf8}
use Rattle.std.specs.Prelude.{unwrap_or}
use Rattle.std.proofs.lemmas.Bool.{cases_Bool}
use Rattle.std.proofs.lemmas.Str.{IsUtf8-from_is_utf8, is_utf8-from_IsUtf8}
use Rattle.toml.specs.Data.{Members, no_members}
use Rattle.toml.specs.Parse.{parse_document}
use Rattle.plan_read.specs.declared.faults.Place.{Place}
use Rattle.plan_read.specs.declared.faults.PlanFault.{PlanFault}
use Rattle.plan_read.specs.Checks.{Passes}
use Rattle.plan_read.specs.Plans.{PlanTree}
use Rattle.plan_read.specs.Texts.{tree_of, longest_text, text_checks, TextWrites, TextFails}
use Rattle.plan_read.specs.Writes.{TreeFails}
use Rattle.plan_read.specs.own.Texts.{tree_at, length_tests, toml_tests, fault_of_text, plan_of_text}
use Rattle.plan_read.specs.own.Walk.{◌or_else◌, place_fault, top, tree_fault}
use Rattle.plan_read.proofs.Accepted.{le_from_test}
use Rattle.plan_read.proofs.Agreeing.{Agree, agree_passes, agree_none, fault_of, never_passes}
use Rattle.plan_read.proofs.Failing.{place_fault-append}
use Rattle.plan_read.proofs.HeaderLaw.{test_from_le}
use Rattle.plan_read.proofs.TreeLaw.{none_both, some_first, tree_written, tree_only, tree_fails, never_both}

-- the tree of a text that is UTF-8 and a document
pub is_tree : (text : List ℕ) (ms : Members) → IsUtf8 text → parse_document text ≡ Some ms → tree_of text ≡ Some ms
is_tree text ms utf8 parsed = rw (is_utf8-from_IsUtf8 text utf8, parsed) refl

-- a text that is no UTF-8, or no document, has no tree
pub is_no_tree : (text : List ℕ) → (IsUtf8 text → parse_document text ≡ None) → tree_of text ≡ None
is_no_tree text refused =
    elim (cases_Bool (is_utf8 text)) [
      | inl is ↦ rw (is, refused (IsUtf8-from_is_utf8 text is)) refl
      | inr isnt ↦ rw isnt refl
    ]

some_tree : (o : Option Members) → is_some o ≡ true → o ≡ Some (unwrap_or o no_members)
some_tree None h = absurd (cc)
some_tree (Some ms) h = refl

-- the tests of a text, as one place
both_tests : (p : Place) (text : List ℕ) → (place_fault p (length_tests text) or_else place_fault p (toml_tests text)) ≡ place_fault p (length_tests text ++ toml_tests text)
both_tests p text = sym (place_fault-append p (length_tests text) (toml_tests text))

text_agrees : (text : List ℕ) → Agree (tree_at text) [] (length_tests text ++ toml_tests text) (text_checks text)
unfolding text_checks
text_agrees text = (
  refl,
  λ b t. le_from_test (length text) longest_text t,
  λ x b w. test_from_le (length text) longest_text w,
  (
    refl,
    λ b t. some_tree (tree_of text) t,
    λ x b w. rw w refl,
    tt,
  ),
)

pub text_is : (text : List ℕ) (tree : Members) → Passes (text_checks text) tree → tree_at text ≡ tree
unfolding text_checks
text_is text tree b = rw b.1.0 refl

-- where a text as a whole has no fault, its tree passes the checks
pub text_passes : (text : List ℕ) → (place_fault top (length_tests text) or_else place_fault top (toml_tests text)) ≡ None → Passes (text_checks text) (tree_at text)
text_passes text none = agree_passes top (tree_at text) [] (length_tests text ++ toml_tests text) (text_checks text) (text_agrees text) tt (sym (both_tests top text) ∙ none)

-- where two places have no fault, and then a third
pub three_faults : (x y z : Option PlanFault) → (x or_else y or_else z) ≡ ((x or_else y) or_else z)
three_faults None y z = refl
three_faults (Some f) y z = refl

text_fault : (text : List ℕ) → fault_of_text text ≡ (place_fault top (length_tests text ++ toml_tests text) or_else tree_fault (tree_at text))
text_fault text = three_faults (place_fault top (length_tests text)) (place_fault top (toml_tests text)) (tree_fault (tree_at text)) ∙ ap (λ (f : Option PlanFault). f or_else tree_fault (tree_at text)) (both_tests top text)

-- a text without a fault writes the plan that is read of it
pub text_written : (text : List ℕ) → fault_of_text text ≡ None → TextWrites text (plan_of_text text)
text_written text none =
    let n = none_both (place_fault top (length_tests text ++ toml_tests text)) (tree_fault (tree_at text)) (sym (text_fault text) ∙ none) in
    record { tree = tree_at text; parsed = agree_passes top (tree_at text) [] (length_tests text ++ toml_tests text) (text_checks text) (text_agrees text) tt n.0; writes = tree_written (tree_at text) n.1 }

-- a text that writes a plan has no fault, and that plan is what is read of it
pub text_only : (text : List ℕ) (plan : PlanTree) → TextWrites text plan → (fault_of_text text ≡ None) × (plan_of_text text ≡ plan)
text_only text plan w =
    let r = tree_only w.tree plan w.writes in
    let is = text_is text w.tree w.parsed in
    let none = agree_none top (tree_at text) [] (length_tests text ++ toml_tests text) (text_checks text) (text_agrees text) w.tree tt w.parsed in
    (text_fault text ∙ rw (none, is) r.0, rw is r.1)

-- a text has the fault that is found
pub text_fails : (text : List ℕ) (fault : PlanFault) → fault_of_text text ≡ Some fault → TextFails text fault
text_fails text fault some =
    elim (some_first (place_fault top (length_tests text ++ toml_tests text)) (tree_fault (tree_at text)) fault (sym (text_fault text) ∙ some)) [
      | inl here ↦ inl (fault_of top (tree_at text) (length_tests text ++ toml_tests text) (text_checks text) fault (text_agrees text) here)
      | inr later ↦ inr (tree_at text, agree_passes top (tree_at text) [] (length_tests text ++ toml_tests text) (text_checks text) (text_agrees text) tt later.0, tree_fails (tree_at text) fault later.1)
    ]

-- a text that writes a plan has no fault
pub text_never_both : (text : List ℕ) (plan : PlanTree) (fault : PlanFault) → TextWrites text plan → TextFails text fault → ⊥
text_never_both text plan fault w (inl here) = never_passes [] (text_checks text) fault.kind w.tree here.0 tt w.parsed
text_never_both text plan fault w (inr later) =
    let same : later.0 ≡ w.tree = sym (text_is text later.0 later.1) ∙ text_is text w.tree w.parsed in
    never_both w.tree plan fault w.writes (subst (λ (t : Members). TreeFails t fault) same later.2)
