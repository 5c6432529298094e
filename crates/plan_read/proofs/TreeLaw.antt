-- A tree writes the plan that the walk reads of it, or has the fault that the walk finds.
use Rattle.std.proofs.Common.{subst, ◌≡◌, ◌⊎◌, ◌+◌, inl, inr, ◌∙◌, pos, negsuc, ap, true, List, [], ◌∷◌, ◌++◌, length, Option, None, Some, codes, append_assoc, refl, sym, arith}
use Rattle.std.specs.Prelude.{ℕ, ◌==◌, is_some, unwrap_or, option_and_then}
use Rattle.std.proofs.lemmas.Bool.{cases_Bool}
use Rattle.std.proofs.lemmas.List.{append-nil}
use Rattle.std.proofs.lemmas.Bool.Decides.{nat_tests}
use Rattle.toml.specs.Data.{Data, string, integer, float, boolean, datetime, array, table, Members, get_member, as_integer}
use Rattle.plan_read.specs.declared.faults.PlanFault.{PlanFault}
use Rattle.plan_read.specs.declared.plans.Call.{Call}
use Rattle.plan_read.specs.declared.plans.Header.{Header}
use Rattle.plan_read.specs.declared.versions.Version.{Version}
use Rattle.plan_read.specs.declared.versions.Version.TheVariants.{One, Two}
use Rattle.plan_read.specs.Checks.{Passes, IsFaultOf}
use Rattle.plan_read.specs.Keys.{number_of}
use Rattle.plan_read.specs.Plans.{BlockTree, PlanTree, most_blocks, end_of, made_by, last_offset}
use Rattle.plan_read.specs.Writes.{Head, Top, VersionAt, top_checks, header_checks, call_checks, TreeWritesIn, TreeWrites, WritesBlock, WritesBlocks, WritesCalls, WritesHead, CallsFail, BlockFails, BlocksFail, TreeFails}
use Rattle.plan_read.specs.own.Values.{given_integer, tables_at, header_of, found_at, next_call, calls_through, block_of, blocks_through, version_of, version_at, plan_of}
use Rattle.plan_read.specs.own.Walk.{◌or_else◌, place_fault, top, top_tests, header_place, header_tests, call_place, call_fault, calls_fault, block_fault, blocks_fault, tree_fault}
use Rattle.plan_read.proofs.Accepted.{typed_top, le_from_test}
use Rattle.plan_read.proofs.Agreeing.{Agree, agree_passes, agree_none, fault_of, never_passes, one_fault}
use Rattle.plan_read.proofs.HeaderLaw.{head_at, header_agrees, head_is, test_from_le}
use Rattle.plan_read.proofs.CallLaw.{tests_alike, call_agrees, call_is}
use Rattle.plan_read.proofs.Holding.{tables_fit, tables_are}

-- where two places have no fault, neither has one
pub none_both : (x y : Option PlanFault) → (x or_else y) ≡ None → (x ≡ None) × (y ≡ None)
none_both None y h = (refl, h)
none_both (Some f) y h = absurd (cc)

-- the fault of two places is that of the first, or the first has none
pub some_first : (x y : Option PlanFault) (fault : PlanFault) → (x or_else y) ≡ Some fault → (x ≡ Some fault) ⊎ ((x ≡ None) × (y ≡ Some fault))
some_first None y fault h = inr (refl, h)
some_first (Some f) y fault h = inl h

-- ---- a call

call_passes : (version : Version) (earlier : PlanTree) (h : Header) (before : List Call) (ms : Members) → call_fault version earlier h before ms ≡ None → Passes (call_checks version earlier h before ms) (next_call version earlier h before ms)
call_passes version earlier h before ms none =
    let place = call_place (length earlier) (length before) in
    let found = found_at earlier h before ms in
    agree_passes place _ [] _ _ (call_agrees version earlier h before ms) tt (sym (tests_alike place version found (length earlier) h (last_offset before) ms) ∙ none)

call_none : (version : Version) (earlier : PlanTree) (h : Header) (before : List Call) (ms : Members) (c : Call) → Passes (call_checks version earlier h before ms) c → call_fault version earlier h before ms ≡ None
call_none version earlier h before ms c passes =
    let place = call_place (length earlier) (length before) in
    let found = found_at earlier h before ms in
    tests_alike place version found (length earlier) h (last_offset before) ms ∙ agree_none place _ [] _ _ (call_agrees version earlier h before ms) c tt passes

call_fails : (version : Version) (earlier : PlanTree) (h : Header) (before : List Call) (ms : Members) (fault : PlanFault) → call_fault version earlier h before ms ≡ Some fault
    → IsFaultOf (call_checks version earlier h before ms) (length earlier + 1) (length before + 1) fault
call_fails version earlier h before ms fault some =
    let place = call_place (length earlier) (length before) in
    let found = found_at earlier h before ms in
    fault_of place _ _ _ fault (call_agrees version earlier h before ms) (sym (tests_alike place version found (length earlier) h (last_offset before) ms) ∙ some)

-- ---- calls

calls_written : (version : Version) (earlier : PlanTree) (h : Header) (before : List Call) (tables : List Members) → calls_fault version earlier h before tables ≡ None
    → (cs : List Call) × (calls_through version earlier h before tables ≡ before ++ cs) × WritesCalls version earlier h before tables cs
calls_written version earlier h before [] none = ([], sym (append-nil before), tt)
calls_written version earlier h before (ms ∷ tables) none =
    let c = next_call version earlier h before ms in
    let n = none_both (call_fault version earlier h before ms) (calls_fault version earlier h (before ++ c ∷ []) tables) none in
    let r = calls_written version earlier h (before ++ c ∷ []) tables n.1 in
    (c ∷ r.0, r.1 ∙ append_assoc before (c ∷ []) r.0, (call_passes version earlier h before ms n.0, r.2))

calls_only : (version : Version) (earlier : PlanTree) (h : Header) (before : List Call) (tables : List Members) (cs : List Call) → WritesCalls version earlier h before tables cs
    → (calls_fault version earlier h before tables ≡ None) × (calls_through version earlier h before tables ≡ before ++ cs)
calls_only version earlier h before [] [] w = (refl, sym (append-nil before))
calls_only version earlier h before [] (c ∷ cs) w = absurd w
calls_only version earlier h before (ms ∷ tables) [] w = absurd w
calls_only version earlier h before (ms ∷ tables) (c ∷ cs) w =
    let none = call_none version earlier h before ms c w.0 in
    let is = call_is version earlier h before ms c w.0 in
    let r = calls_only version earlier h (before ++ c ∷ []) tables cs w.1 in
    (rw (none, ← is) r.0, rw (← is) (r.1 ∙ append_assoc before (c ∷ []) cs))

calls_fail : (version : Version) (earlier : PlanTree) (h : Header) (before : List Call) (tables : List Members) (fault : PlanFault) → calls_fault version earlier h before tables ≡ Some fault → CallsFail version earlier h before tables fault
calls_fail version earlier h before [] fault some = absurd (cc)
calls_fail version earlier h before (ms ∷ tables) fault some =
    let c = next_call version earlier h before ms in
    elim (some_first (call_fault version earlier h before ms) (calls_fault version earlier h (before ++ c ∷ []) tables) fault some) [
      | inl here ↦ inl (call_fails version earlier h before ms fault here)
      | inr later ↦ inr (c, call_passes version earlier h before ms later.0, calls_fail version earlier h (before ++ c ∷ []) tables fault later.1)
    ]

-- ---- blocks

head_passes : (version : Version) (earlier : PlanTree) (ms : Members) → place_fault (header_place (length earlier)) (header_tests version (end_of earlier) (made_by earlier) ms) ≡ None → WritesHead version earlier ms (head_at version ms)
head_passes version earlier ms none = agree_passes (header_place (length earlier)) _ [] _ _ (header_agrees version (end_of earlier) (made_by earlier) ms) tt none

head_none : (version : Version) (earlier : PlanTree) (ms : Members) (x : Head) → WritesHead version earlier ms x → place_fault (header_place (length earlier)) (header_tests version (end_of earlier) (made_by earlier) ms) ≡ None
head_none version earlier ms x w = agree_none (header_place (length earlier)) _ [] _ _ (header_agrees version (end_of earlier) (made_by earlier) ms) x tt w

block_written : (version : Version) (earlier : PlanTree) (ms : Members) → block_fault version earlier ms ≡ None → WritesBlock version earlier ms (block_of version earlier ms)
block_written version earlier ms none =
    let n = none_both (place_fault (header_place (length earlier)) (header_tests version (end_of earlier) (made_by earlier) ms)) (calls_fault version earlier (header_of version ms) [] (tables_at (codes "call") ms)) none in
    let r = calls_written version earlier (header_of version ms) [] (tables_at (codes "call") ms) n.1 in
    record {
      tables = tables_at (codes "call") ms;
      head = head_passes version earlier ms n.0;
      calls = subst (λ (cs : List Call). WritesCalls version earlier (header_of version ms) [] (tables_at (codes "call") ms) cs) (sym r.1) r.2;
    }

block_only : (version : Version) (earlier : PlanTree) (ms : Members) (b : BlockTree) → WritesBlock version earlier ms b → (block_fault version earlier ms ≡ None) × (b ≡ block_of version earlier ms)
block_only version earlier ms b w =
    let x : Head = record { header = b.header; tables = w.tables } in
    let none = head_none version earlier ms x w.head in
    let is = head_is version (end_of earlier) (made_by earlier) ms x w.head in
    let header : b.header ≡ header_of version ms = ap (λ (h : Head). h.header) is in
    let tables : w.tables ≡ tables_at (codes "call") ms = ap (λ (h : Head). h.tables) is in
    let r = calls_only version earlier b.header [] w.tables b.calls w.calls in
    (rw (none, ← header, ← tables) r.0, rw (← header, ← tables, r.1) refl)

block_fails : (version : Version) (earlier : PlanTree) (ms : Members) (fault : PlanFault) → block_fault version earlier ms ≡ Some fault → BlockFails version earlier ms fault
block_fails version earlier ms fault some =
    elim (some_first (place_fault (header_place (length earlier)) (header_tests version (end_of earlier) (made_by earlier) ms)) (calls_fault version earlier (header_of version ms) [] (tables_at (codes "call") ms)) fault some) [
      | inl here ↦ inl (fault_of (header_place (length earlier)) _ _ _ fault (header_agrees version (end_of earlier) (made_by earlier) ms) here)
      | inr later ↦ inr (head_at version ms, head_passes version earlier ms later.0, calls_fail version earlier (header_of version ms) [] (tables_at (codes "call") ms) fault later.1)
    ]

blocks_written : (version : Version) (earlier : PlanTree) (tables : List Members) → blocks_fault version earlier tables ≡ None
    → (bs : PlanTree) × (blocks_through version earlier tables ≡ earlier ++ bs) × WritesBlocks version earlier tables bs
blocks_written version earlier [] none = ([], sym (append-nil earlier), tt)
blocks_written version earlier (ms ∷ tables) none =
    let b = block_of version earlier ms in
    let n = none_both (block_fault version earlier ms) (blocks_fault version (earlier ++ b ∷ []) tables) none in
    let r = blocks_written version (earlier ++ b ∷ []) tables n.1 in
    (b ∷ r.0, r.1 ∙ append_assoc earlier (b ∷ []) r.0, (block_written version earlier ms n.0, r.2))

blocks_only : (version : Version) (earlier : PlanTree) (tables : List Members) (bs : PlanTree) → WritesBlocks version earlier tables bs
    → (blocks_fault version earlier tables ≡ None) × (blocks_through version earlier tables ≡ earlier ++ bs)
blocks_only version earlier [] [] w = (refl, sym (append-nil earlier))
blocks_only version earlier [] (b ∷ bs) w = absurd w
blocks_only version earlier (ms ∷ tables) [] w = absurd w
blocks_only version earlier (ms ∷ tables) (b ∷ bs) w =
    let one = block_only version earlier ms b w.0 in
    let r = blocks_only version (earlier ++ b ∷ []) tables bs w.1 in
    (rw (one.0, ← one.1) r.0, rw (← one.1) (r.1 ∙ append_assoc earlier (b ∷ []) bs))

blocks_fail : (version : Version) (earlier : PlanTree) (tables : List Members) (fault : PlanFault) → blocks_fault version earlier tables ≡ Some fault → BlocksFail version earlier tables fault
blocks_fail version earlier [] fault some = absurd (cc)
blocks_fail version earlier (ms ∷ tables) fault some =
    let b = block_of version earlier ms in
    elim (some_first (block_fault version earlier ms) (blocks_fault version (earlier ++ b ∷ []) tables) fault some) [
      | inl here ↦ inl (block_fails version earlier ms fault here)
      | inr later ↦ inr (b, block_written version earlier ms later.0, blocks_fail version (earlier ++ b ∷ []) tables fault later.1)
    ]

-- ---- the tree

numbered : (n : ℕ) → is_some (version_of (pos n)) ≡ true → n ≡ number_of (unwrap_or (version_of (pos n)) One)
numbered n h =
    elim (cases_Bool (n == 1)) [
      | inl t ↦ (let e : n ≡ 1 = grind (arith, nat_tests) in rw t e)
      | inr f ↦ elim (cases_Bool (n == 2)) [
        | inl u ↦ (let e : n ≡ 2 = grind (arith, nat_tests) in rw (f, u) e)
        | inr g ↦ absurd (let e = rw (f, g) at h in cc)
      ]
    ]

version_fits : (o : Option Data) → is_some (option_and_then version_of (option_and_then as_integer o)) ≡ true
    → o ≡ Some (integer (pos (number_of (unwrap_or (option_and_then version_of (option_and_then as_integer o)) One))))
version_fits None h = absurd (cc)
version_fits (Some (integer (pos n))) h = ap (λ (k : ℕ). Some (integer (pos k))) (numbered n h)
version_fits (Some (integer (negsuc n))) h = absurd (cc)
version_fits (Some (string s)) h = absurd (cc)
version_fits (Some (float x)) h = absurd (cc)
version_fits (Some (boolean b)) h = absurd (cc)
version_fits (Some (datetime t)) h = absurd (cc)
version_fits (Some (array ds)) h = absurd (cc)
version_fits (Some (table ms)) h = absurd (cc)

-- the version that stands there is the one that is read
version_is : (ms : Members) (version : Version) → VersionAt ms version → (is_some (option_and_then version_of (given_integer (codes "version") ms)) ≡ true) × (version_at ms ≡ version)
version_is ms One w = (rw w refl, rw w refl)
version_is ms Two w = (rw w refl, rw w refl)

-- what is read of the top
abbrev pub top_read : Members → Top
top_read ms = record { version = version_at ms; tables = tables_at (codes "block") ms }

top_agrees : (ms : Members) → Agree (top_read ms) [] (top_tests ms) (top_checks ms)
unfolding top_tests top_checks
top_agrees ms = (
  refl,
  λ b t. version_fits (get_member (codes "version") ms) t,
  λ x b w. (version_is ms x.version w).0,
  (
    refl,
    λ b t. t,
    λ x b w. w,
    (
      refl,
      λ b t. (t, tables_fit (codes "block") ms (typed_top ms t).1.0),
      λ x b w. w.0,
      (
        refl,
        λ b t. le_from_test (length (tables_at (codes "block") ms)) most_blocks t,
        λ x b w. rw (tables_are (codes "block") ms x.tables b.1.1.0.1).1 (test_from_le (length x.tables) most_blocks w),
        tt,
      ),
    ),
  ),
)

top_is : (ms : Members) (t : Top) → Passes (top_checks ms) t → t ≡ top_read ms
unfolding top_checks
top_is ms t b = rw ((version_is ms t.version b.0).1, (tables_are (codes "block") ms t.tables b.1.1.0.1).1) refl

-- the top of a tree that writes a plan
abbrev top_of : (ms : Members) (plan : PlanTree) → TreeWrites ms plan → Top
top_of ms plan w = record { version = w.0; tables = w.1.tables }

-- a tree without a fault writes the plan that is read of it, in the version that is read
pub written_as_read : (ms : Members) → tree_fault ms ≡ None → TreeWritesIn (version_at ms) ms (plan_of ms)
written_as_read ms none =
    let n = none_both (place_fault top (top_tests ms)) (blocks_fault (version_at ms) [] (tables_at (codes "block") ms)) none in
    let r = blocks_written (version_at ms) [] (tables_at (codes "block") ms) n.1 in
    record {
      tables = tables_at (codes "block") ms;
      top = agree_passes top _ [] _ _ (top_agrees ms) tt n.0;
      blocks = subst (λ (bs : PlanTree). WritesBlocks (version_at ms) [] (tables_at (codes "block") ms) bs) (sym r.1) r.2;
    }

-- so it writes that plan
pub tree_written : (ms : Members) → tree_fault ms ≡ None → TreeWrites ms (plan_of ms)
tree_written ms none = (version_at ms, written_as_read ms none)

-- a tree that writes a plan in a version is of that version
pub writes_version : (version : Version) (ms : Members) (plan : PlanTree) → TreeWritesIn version ms plan → version_at ms ≡ version
writes_version version ms plan w = ap (λ (t : Top). t.version) (sym (top_is ms (record { version = version; tables = w.tables }) w.top))

-- a tree that writes a plan has no fault, and that plan is what is read of it
pub tree_only : (ms : Members) (plan : PlanTree) → TreeWrites ms plan → (tree_fault ms ≡ None) × (plan_of ms ≡ plan)
tree_only ms plan w =
    let is : top_of ms plan w ≡ top_read ms = top_is ms (top_of ms plan w) w.1.top in
    let version : w.0 ≡ version_at ms = ap (λ (t : Top). t.version) is in
    let tables : w.1.tables ≡ tables_at (codes "block") ms = ap (λ (t : Top). t.tables) is in
    let r = blocks_only w.0 [] w.1.tables plan w.1.blocks in
    let none = agree_none top _ [] _ _ (top_agrees ms) (top_of ms plan w) tt w.1.top in
    (rw (none, ← version, ← tables) r.0, rw (← version, ← tables) r.1)

-- a tree has the fault that is found
pub tree_fails : (ms : Members) (fault : PlanFault) → tree_fault ms ≡ Some fault → TreeFails ms fault
tree_fails ms fault some =
    elim (some_first (place_fault top (top_tests ms)) (blocks_fault (version_at ms) [] (tables_at (codes "block") ms)) fault some) [
      | inl here ↦ inl (fault_of top _ _ _ fault (top_agrees ms) here)
      | inr later ↦ inr (top_read ms, agree_passes top _ [] _ _ (top_agrees ms) tt later.0, blocks_fail (version_at ms) [] (tables_at (codes "block") ms) fault later.1)
    ]

-- ---- what writes does not fail

calls_never_both : (version : Version) (earlier : PlanTree) (h : Header) (before : List Call) (tables : List Members) (cs : List Call) (fault : PlanFault) → WritesCalls version earlier h before tables cs
    → CallsFail version earlier h before tables fault → ⊥
calls_never_both version earlier h before [] cs fault w f = f
calls_never_both version earlier h before (ms ∷ tables) [] fault w f = absurd w
calls_never_both version earlier h before (ms ∷ tables) (c ∷ cs) fault w (inl here) = never_passes [] (call_checks version earlier h before ms) fault.kind c here.0 tt w.0
calls_never_both version earlier h before (ms ∷ tables) (c ∷ cs) fault w (inr later) =
    let same : later.0 ≡ c = call_is version earlier h before ms later.0 later.1 ∙ sym (call_is version earlier h before ms c w.0) in
    calls_never_both version earlier h (before ++ c ∷ []) tables cs fault w.1 (subst (λ (k : Call). CallsFail version earlier h (before ++ k ∷ []) tables fault) same later.2)

heads_alike : (version : Version) (earlier : PlanTree) (ms : Members) (x y : Head) → WritesHead version earlier ms x → WritesHead version earlier ms y → x ≡ y
heads_alike version earlier ms x y v w = head_is version (end_of earlier) (made_by earlier) ms x v ∙ sym (head_is version (end_of earlier) (made_by earlier) ms y w)

block_never_both : (version : Version) (earlier : PlanTree) (ms : Members) (b : BlockTree) (fault : PlanFault) → WritesBlock version earlier ms b → BlockFails version earlier ms fault → ⊥
block_never_both version earlier ms b fault w (inl here) = never_passes [] (header_checks version (end_of earlier) (made_by earlier) ms) fault.kind _ here.0 tt w.head
block_never_both version earlier ms b fault w (inr later) =
    let x : Head = record { header = b.header; tables = w.tables } in
    let same : later.0 ≡ x = heads_alike version earlier ms later.0 x later.1 w.head in
    calls_never_both version earlier b.header [] w.tables b.calls fault w.calls (subst (λ (k : Head). CallsFail version earlier k.header [] k.tables fault) same later.2)

blocks_never_both : (version : Version) (earlier : PlanTree) (tables : List Members) (bs : PlanTree) (fault : PlanFault) → WritesBlocks version earlier tables bs → BlocksFail version earlier tables fault → ⊥
blocks_never_both version earlier [] bs fault w f = f
blocks_never_both version earlier (ms ∷ tables) [] fault w f = absurd w
blocks_never_both version earlier (ms ∷ tables) (b ∷ bs) fault w (inl here) = block_never_both version earlier ms b fault w.0 here
blocks_never_both version earlier (ms ∷ tables) (b ∷ bs) fault w (inr later) =
    let same : later.0 ≡ b = (block_only version earlier ms later.0 later.1).1 ∙ sym (block_only version earlier ms b w.0).1 in
    blocks_never_both version (earlier ++ b ∷ []) tables bs fault w.1 (subst (λ (k : BlockTree). BlocksFail version (earlier ++ k ∷ []) tables fault) same later.2)

-- a tree that writes a plan has no fault
pub never_both : (ms : Members) (plan : PlanTree) (fault : PlanFault) → TreeWrites ms plan → TreeFails ms fault → ⊥
never_both ms plan fault w (inl here) = never_passes [] (top_checks ms) fault.kind (top_of ms plan w) here.0 tt w.1.top
never_both ms plan fault w (inr later) =
    let same : later.0 ≡ top_of ms plan w = top_is ms later.0 later.1 ∙ sym (top_is ms (top_of ms plan w) w.1.top) in
    blocks_never_both w.0 [] w.1.tables plan fault w.1.blocks (subst (λ (t : Top). BlocksFail t.version [] t.tables fault) same later.2)

-- ---- what fails fails once

calls_fail_once : (version : Version) (earlier : PlanTree) (h : Header) (before : List Call) (tables : List Members) (fault other : PlanFault) → CallsFail version earlier h before tables fault → CallsFail version earlier h before tables other
    → fault ≡ other
calls_fail_once version earlier h before [] fault other f g = absurd f
calls_fail_once version earlier h before (ms ∷ tables) fault other (inl f) (inl g) = one_fault (call_checks version earlier h before ms) _ _ fault other f g
calls_fail_once version earlier h before (ms ∷ tables) fault other (inl f) (inr g) = absurd (never_passes [] (call_checks version earlier h before ms) fault.kind g.0 f.0 tt g.1)
calls_fail_once version earlier h before (ms ∷ tables) fault other (inr f) (inl g) = absurd (never_passes [] (call_checks version earlier h before ms) other.kind f.0 g.0 tt f.1)
calls_fail_once version earlier h before (ms ∷ tables) fault other (inr f) (inr g) =
    let same : g.0 ≡ f.0 = call_is version earlier h before ms g.0 g.1 ∙ sym (call_is version earlier h before ms f.0 f.1) in
    calls_fail_once version earlier h (before ++ f.0 ∷ []) tables fault other f.2 (subst (λ (k : Call). CallsFail version earlier h (before ++ k ∷ []) tables other) same g.2)

block_fails_once : (version : Version) (earlier : PlanTree) (ms : Members) (fault other : PlanFault) → BlockFails version earlier ms fault → BlockFails version earlier ms other → fault ≡ other
block_fails_once version earlier ms fault other (inl f) (inl g) = one_fault (header_checks version (end_of earlier) (made_by earlier) ms) _ _ fault other f g
block_fails_once version earlier ms fault other (inl f) (inr g) = absurd (never_passes [] (header_checks version (end_of earlier) (made_by earlier) ms) fault.kind g.0 f.0 tt g.1)
block_fails_once version earlier ms fault other (inr f) (inl g) = absurd (never_passes [] (header_checks version (end_of earlier) (made_by earlier) ms) other.kind f.0 g.0 tt f.1)
block_fails_once version earlier ms fault other (inr f) (inr g) =
    let same : g.0 ≡ f.0 = heads_alike version earlier ms g.0 f.0 g.1 f.1 in
    calls_fail_once version earlier f.0.header [] f.0.tables fault other f.2 (subst (λ (k : Head). CallsFail version earlier k.header [] k.tables other) same g.2)

blocks_fail_once : (version : Version) (earlier : PlanTree) (tables : List Members) (fault other : PlanFault) → BlocksFail version earlier tables fault → BlocksFail version earlier tables other → fault ≡ other
blocks_fail_once version earlier [] fault other f g = absurd f
blocks_fail_once version earlier (ms ∷ tables) fault other (inl f) (inl g) = block_fails_once version earlier ms fault other f g
blocks_fail_once version earlier (ms ∷ tables) fault other (inl f) (inr g) = absurd (block_never_both version earlier ms g.0 fault g.1 f)
blocks_fail_once version earlier (ms ∷ tables) fault other (inr f) (inl g) = absurd (block_never_both version earlier ms f.0 other f.1 g)
blocks_fail_once version earlier (ms ∷ tables) fault other (inr f) (inr g) =
    let same : g.0 ≡ f.0 = (block_only version earlier ms g.0 g.1).1 ∙ sym (block_only version earlier ms f.0 f.1).1 in
    blocks_fail_once version (earlier ++ f.0 ∷ []) tables fault other f.2 (subst (λ (k : BlockTree). BlocksFail version (earlier ++ k ∷ []) tables other) same g.2)

-- a tree has at most one fault
pub fails_once : (ms : Members) (fault other : PlanFault) → TreeFails ms fault → TreeFails ms other → fault ≡ other
fails_once ms fault other (inl f) (inl g) = one_fault (top_checks ms) _ _ fault other f g
fails_once ms fault other (inl f) (inr g) = absurd (never_passes [] (top_checks ms) fault.kind g.0 f.0 tt g.1)
fails_once ms fault other (inr f) (inl g) = absurd (never_passes [] (top_checks ms) other.kind f.0 g.0 tt f.1)
fails_once ms fault other (inr f) (inr g) =
    let same : g.0 ≡ f.0 = top_is ms g.0 g.1 ∙ sym (top_is ms f.0 f.1) in
    blocks_fail_once f.0.version [] f.0.tables fault other f.2 (subst (λ (t : Top). BlocksFail t.version [] t.tables other) same g.2)

-- ---- the laws on the definitions

decided : (ms : Members) (o : Option PlanFault) → tree_fault ms ≡ o → ((plan : PlanTree) × TreeWrites ms plan) ⊎ ((fault : PlanFault) × TreeFails ms fault)
decided ms None none = inl (plan_of ms, tree_written ms none)
decided ms (Some fault) some = inr (fault, tree_fails ms fault some)

-- a tree writes a plan or has a fault
pub writes_or_fails : (ms : Members) → ((plan : PlanTree) × TreeWrites ms plan) ⊎ ((fault : PlanFault) × TreeFails ms fault)
writes_or_fails ms = decided ms (tree_fault ms) refl

-- a tree writes at most one plan
pub writes_one : (ms : Members) (plan other : PlanTree) → TreeWrites ms plan → TreeWrites ms other → plan ≡ other
writes_one ms plan other w v = sym (tree_only ms plan w).1 ∙ (tree_only ms other v).1
