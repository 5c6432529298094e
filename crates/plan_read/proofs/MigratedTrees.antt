-- The plan of a tree of version 1 is that of the migrated tree, but for what its blocks keep of units.
use Rattle.std.proofs.Common.{◌≡◌, ◌≤◌, ℕ, pos, true, false, List, [], ◌∷◌, ◌++◌, map, Option, Some, is_some, codes, bytes_eq, refl, subst, sym, ap, ◌∙◌, inl, inr}
use Rattle.std.specs.Prelude.{option_map}
use Rattle.std.proofs.lemmas.Bool.{cases_Bool, and_parts, and_from}
use Rattle.std.proofs.lemmas.List.{length-map, map-append}
use Rattle.toml.specs.Data.{Data, integer, Members, get_member}
use Rattle.plan_read.specs.declared.keys.Shape.TheVariants.{Integer, Tables}
use Rattle.plan_read.specs.declared.versions.Version.TheVariants.{One, Two}
use Rattle.plan_read.specs.Checks.{Passes}
use Rattle.plan_read.specs.Keys.{number_of, top_keys, fits, is_key, has_only, are_typed}
use Rattle.plan_read.specs.Plans.{PlanTree, most_blocks}
use Rattle.plan_read.specs.Writes.{top_checks, WritesBlocks, TreeWritesIn}
use Rattle.plan_read.specs.Migrating.{with_member, each_table, migrated_block, migrated, block_in_nanoseconds, in_nanoseconds}
use Rattle.plan_read.proofs.MigratedLookups.{added_own, added_other, changed_own, changed_other, one_word, only_from, only_at}
use Rattle.plan_read.proofs.MigratedTables.{tables_fit_each, tables_each}
use Rattle.plan_read.proofs.MigratedBlocks.{block_migrated}

-- ---- the top

-- a tree with the version 2
abbrev second : Members → Members
second ms = with_member (codes "version") (integer (pos (number_of Two))) ms

version_found : (ms : Members) → get_member (codes "version") (migrated ms) ≡ Some (integer (pos (number_of Two)))
version_found ms = changed_other (codes "version") (codes "block") (each_table migrated_block) (second ms) refl ∙ added_own (codes "version") (integer (pos (number_of Two))) ms

blocks_found : (ms : Members) → get_member (codes "block") (migrated ms) ≡ option_map (each_table migrated_block) (get_member (codes "block") ms)
blocks_found ms =
    changed_own (codes "block") (each_table migrated_block) (second ms)
    ∙ ap (λ (o : Option Data). option_map (each_table migrated_block) o) (added_other (codes "block") (codes "version") (integer (pos (number_of Two))) ms refl)

other_found : (n : List ℕ) (ms : Members) → bytes_eq n (codes "version") ≡ false → bytes_eq n (codes "block") ≡ false → get_member n (migrated ms) ≡ get_member n ms
other_found n ms a b = changed_other n (codes "block") (each_table migrated_block) (second ms) b ∙ added_other n (codes "version") (integer (pos (number_of Two))) ms a

top_only : (ms : Members) → has_only top_keys ms ≡ true → has_only top_keys (migrated ms) ≡ true
top_only ms h = only_from top_keys (migrated ms) (λ n there. elim (cases_Bool (bytes_eq n (codes "version"))) [
  | inl v ↦ subst (λ (w : List ℕ). is_key top_keys w ≡ true) (sym (one_word n (codes "version") v)) refl
  | inr a ↦ elim (cases_Bool (bytes_eq n (codes "block"))) [
    | inl c ↦ subst (λ (w : List ℕ). is_key top_keys w ≡ true) (sym (one_word n (codes "block") c)) refl
    | inr b ↦ only_at top_keys ms n h (subst (λ (o : Option Data). is_some o ≡ true) (other_found n ms a b) there)
  ]
])

top_typed : (ms : Members) → are_typed top_keys ms ≡ true → are_typed top_keys (migrated ms) ≡ true
top_typed ms h =
    let version = and_parts (fits Integer (get_member (codes "version") ms)) _ h in
    let blocks = and_parts (fits Tables (get_member (codes "block") ms)) _ version.1 in
    let version_there : fits Integer (get_member (codes "version") (migrated ms)) ≡ true = ap (λ (o : Option Data). fits Integer o) (version_found ms) in
    let blocks_there : fits Tables (get_member (codes "block") (migrated ms)) ≡ true =
    ap (λ (o : Option Data). fits Tables o) (blocks_found ms) ∙ tables_fit_each migrated_block (get_member (codes "block") ms) ∙ blocks.0 in
    and_from (fits Integer (get_member (codes "version") (migrated ms))) _ version_there (and_from (fits Tables (get_member (codes "block") (migrated ms))) true blocks_there refl)

top_of : (ms : Members) (tables : List Members) → Passes (top_checks ms) (record { version = One; tables = tables }) → Passes (top_checks (migrated ms)) (record { version = Two; tables = map migrated_block tables })
unfolding top_checks
top_of ms tables w = (
  version_found ms,
  (
    top_only ms w.1.0,
    (
      (top_typed ms w.1.1.0.0, tables_each migrated_block (codes "block") ms (migrated ms) tables (blocks_found ms) w.1.1.0.1),
      (
        subst (λ (n : ℕ). n ≤ most_blocks) (sym (length-map tables migrated_block)) w.1.1.1.0,
        tt,
      ),
    ),
  ),
)

-- ---- the blocks

blocks_of : (earlier : PlanTree) (tables : List Members) (bs : PlanTree) → WritesBlocks One earlier tables bs → WritesBlocks Two (in_nanoseconds earlier) (map migrated_block tables) (in_nanoseconds bs)
blocks_of earlier [] [] w = tt
blocks_of earlier [] (b ∷ bs) w = absurd w
blocks_of earlier (ms ∷ tables) [] w = absurd w
blocks_of earlier (ms ∷ tables) (b ∷ bs) w =
    let rest = blocks_of (earlier ++ b ∷ []) tables bs w.1 in (
      block_migrated earlier ms b w.0,
      subst (λ (before : PlanTree). WritesBlocks Two before (map migrated_block tables) (in_nanoseconds bs)) (map-append block_in_nanoseconds earlier (b ∷ [])) rest,
    )

-- the law that a migrated tree writes the same plan in version 2
pub tree_migrated : (ms : Members) (plan : PlanTree) → TreeWritesIn One ms plan → TreeWritesIn Two (migrated ms) (in_nanoseconds plan)
tree_migrated ms plan w = record {
  tables = map migrated_block w.tables;
  top = top_of ms w.tables w.top;
  blocks = blocks_of [] w.tables plan w.blocks;
}
