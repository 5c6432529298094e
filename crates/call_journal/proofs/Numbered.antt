-- Submissions that are named and numbered in their order, and how they are found.
use Rattle.std.proofs.Common.{◌≡◌, ◌<◌, ◌≤◌, ◌+◌, ◌^◌, ◌==◌, ℕ, zero, suc, true, false, List, [], ◌∷◌, ◌++◌, length, Some, None, bytes_eq, length-append, refl, sym, ap, ◌∙◌, inl, inr, arith}
use Rattle.std.specs.Prelude.{unwrap_or, slice_get}
use Rattle.std.proofs.lemmas.Bool.{cases_Bool}
use Rattle.std.proofs.lemmas.Bool.Decides.{nat_tests}
use Rattle.plan_read.specs.declared.sites.Site.{Site}
use Rattle.plan_read.specs.Plans.{find}
use Rattle.plan_read.proofs.MigratedLookups.{own_bytes}
use Rattle.plan_compile.specs.PlanCalls.{target_number}
use Rattle.call_journal.specs.Plans.{task_name}
use Rattle.call_journal.proofs.TaskNames.{task_name-apart}

-- a submission is that of task `n`, in a block that is made once, where `firsts` has the first number of each block before this one, and
-- `start` is the first one of this block
pub record IsNumbered (firsts : List ℕ) (start n : ℕ) (s : List ℕ × Site) : Type 0 where
  pub named : s.0 ≡ task_name n
  pub once : s.1.repeated ≡ false
  pub number : target_number firsts start s.1.target ≡ n
  pub near : s.1.target.block ≤ length firsts

-- some submissions are those of the tasks from `n` on
abbrev pub AreNumbered : List ℕ → ℕ → ℕ → List (List ℕ × Site) → Type 0
AreNumbered firsts start n [] = Unit {0}
AreNumbered firsts start n (s ∷ subs) = IsNumbered firsts start n s × AreNumbered firsts start (n + 1) subs

-- ---- finding

same_number : (a b : ℕ) → (a == b) ≡ true → a ≡ b
same_number a b h = grind (arith, nat_tests)

later : (n k : ℕ) → n ≤ k → (k == n) ≡ false → n + 1 ≤ k
later n k h apart = grind (arith, nat_tests)

differ : (n k : ℕ) → n + 1 ≤ k → k ≡ n → ⊥
differ n k h same = omega (arith, h, same)

-- the submission of a task, found by its name
pub record FindsTask (firsts : List ℕ) (start k : ℕ) (subs : List (List ℕ × Site)) : Type 0 where
  pub site : Site
  pub found : find (task_name k) subs ≡ Some site
  pub once : site.repeated ≡ false
  pub number : target_number firsts start site.target ≡ k

found_later : (firsts : List ℕ) (start n k : ℕ) (s : List ℕ × Site) (subs : List (List ℕ × Site)) → IsNumbered firsts start n s → n + 1 ≤ k → k < 2 ^ 64 → find (task_name k) (s ∷ subs) ≡ find (task_name k) subs
found_later firsts start n k s subs is less small =
    let apart : bytes_eq (task_name k) s.0 ≡ false = rw is.named (task_name-apart k n small (omega (arith, less, small)) (differ n k less)) in
    rw apart refl

found_here : (firsts : List ℕ) (start n k : ℕ) (s : List ℕ × Site) (subs : List (List ℕ × Site)) → IsNumbered firsts start n s → k ≡ n → find (task_name k) (s ∷ subs) ≡ Some s.1
found_here firsts start n k s subs is same =
    let own : bytes_eq (task_name k) s.0 ≡ true = rw (is.named, same) (own_bytes (task_name n)) in
    rw own refl

-- each task among them is found
pub finds_task : (firsts : List ℕ) (start n k : ℕ) (subs : List (List ℕ × Site)) → AreNumbered firsts start n subs → n ≤ k → k < n + length subs → k < 2 ^ 64 → FindsTask firsts start k subs
finds_task firsts start n k [] are least most small = absurd (omega (arith, least, most))
finds_task firsts start n k (s ∷ subs) are least most small =
    elim (cases_Bool (k == n)) [
      | inl t ↦ (
          let same = same_number k n t in
          record { site = s.1; found = found_here firsts start n k s subs are.0 same; once = are.0.once; number = are.0.number ∙ sym same })
      | inr f ↦ (
          let less = later n k least f in
          let rest = finds_task firsts start (n + 1) k subs are.1 less (omega (arith, most)) small in
          record { site = rest.site; found = found_later firsts start n k s subs are.0 less small ∙ rest.found; once = rest.once; number = rest.number })
    ]

-- the task behind them has a new name
pub finds_none : (firsts : List ℕ) (start n k : ℕ) (subs : List (List ℕ × Site)) → AreNumbered firsts start n subs → n + length subs ≤ k → k < 2 ^ 64 → find (task_name k) subs ≡ None
finds_none firsts start n k [] are past small = refl
finds_none firsts start n k (s ∷ subs) are past small =
    found_later firsts start n k s subs are.0 (omega (arith, past)) small ∙ finds_none firsts start (n + 1) k subs are.1 (omega (arith, past)) small

-- ---- one more

-- one submission more
pub numbered_more : (firsts : List ℕ) (start n : ℕ) (subs : List (List ℕ × Site)) (s : List ℕ × Site) → AreNumbered firsts start n subs → IsNumbered firsts start (n + length subs) s → AreNumbered firsts start n (subs ++ s ∷ [])
numbered_more firsts start n [] s are is = let e : n + 0 ≡ n = omega arith in (rw e at is, tt)
numbered_more firsts start n (x ∷ subs) s are is =
    let e : n + suc (length subs) ≡ (n + 1) + length subs = omega arith in
    (are.0, numbered_more firsts start (n + 1) subs s are.1 (rw e at is))

-- the number of a target stays where the next block begins
target_kept : (firsts : List ℕ) (start next i : ℕ) → i ≤ length firsts → unwrap_or (slice_get (firsts ++ start ∷ []) i) next ≡ unwrap_or (slice_get firsts i) start
target_kept [] start next zero h = refl
target_kept [] start next (suc i) h = absurd (omega (arith, h))
target_kept (f ∷ firsts) start next zero h = refl
target_kept (f ∷ firsts) start next (suc i) h = target_kept firsts start next i (omega (arith, h))

-- the next block begins
pub numbered_block : (firsts : List ℕ) (start next n : ℕ) (subs : List (List ℕ × Site)) → AreNumbered firsts start n subs → AreNumbered (firsts ++ start ∷ []) next n subs
numbered_block firsts start next n [] are = tt
numbered_block firsts start next n (s ∷ subs) are =
    let kept = target_kept firsts start next s.1.target.block are.0.near in (
      record {
        named = are.0.named;
        once = are.0.once;
        number = ap (λ (k : ℕ). k + s.1.target.sub) kept ∙ are.0.number;
        near = omega (arith, length-append firsts (start ∷ []), are.0.near);
      },
      numbered_block firsts start next (n + 1) subs are.1,
    )
