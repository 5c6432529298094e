-- The table of a block writes the header of a block that is made once.
use Rattle.std.proofs.Common.{◌≡◌, ◌≤◌, ◌+◌, ℕ, pos, Bool, true, false, if◌then◌else◌, List, length, Some, None, codes, refl, inl, inr, arith}
use Rattle.toml.specs.Data.{integer, array, Items, Members, no_members, get_member}
use Rattle.sched_time.specs.Times.{longest}
use Rattle.sched_time.specs.declared.unit.Unit.TheVariants.{Ns}
use Rattle.plan_read.specs.declared.versions.Version.TheVariants.{Two}
use Rattle.plan_read.specs.Checks.{Passes}
use Rattle.plan_read.specs.Keys.{are_tables, header_keys}
use Rattle.plan_read.specs.Migrating.{with_member}
use Rattle.plan_read.specs.Writes.{Has, HasOnly, AreTyped, HoldTables, SpanAt, header_checks}
use Rattle.call_journal.specs.Plans.{with_span, written}
use Rattle.call_journal.proofs.Nanos.{AreInNanos, have_units, no_span}
use Rattle.call_journal.proofs.WrittenCalls.{head_at, offset_by}

-- the table of a block with these calls, where `zero` says that it begins at 0
abbrev pub block_at : Bool → ℕ → Items → Members
block_at zero begin items = if zero then with_member (codes "call") (array items) no_members else with_span (codes "at") begin (with_member (codes "call") (array items) no_members)

-- the table is that of a block
pub record IsBlockTable (ms : Members) (zero : Bool) (begin : ℕ) (items : Items) : Type 0 where
  pub only : HasOnly (header_keys Two) ms
  pub typed : AreTyped (header_keys Two) ms
  pub units : AreInNanos ms
  pub calls : Has ms (codes "call") (array items)
  pub times : get_member (codes "times") ms ≡ None
  pub every : get_member (codes "every") ms ≡ None
  pub offset : get_member (codes "at") ms ≡ (if zero then None else Some (integer (pos (written begin))))

-- so it is of each block
pub is_block_table : (zero : Bool) (begin : ℕ) (items : Items) → are_tables items ≡ true → IsBlockTable (block_at zero begin items) zero begin items
is_block_table true begin items h = record { only = refl; typed = rw h refl; units = (refl, refl, refl, refl, refl); calls = refl; times = refl; every = refl; offset = refl }
is_block_table false begin items h = record { only = refl; typed = rw h refl; units = (refl, refl, refl, refl, refl); calls = refl; times = refl; every = refl; offset = refl }

-- it writes its header
pub writes_head : (end made : ℕ) (ms : Members) (zero : Bool) (begin : ℕ) (items : Items) (tables : List Members) → IsBlockTable ms zero begin items → (zero ≡ true → begin ≡ 0) → begin ≤ longest
    → HoldTables items tables → end ≤ begin → length tables ≤ 256 → made + length tables ≤ 65536
    → Passes (header_checks Two end made ms) (record { header = head_at begin; tables = tables })
unfolding header_checks
writes_head end made ms zero begin items tables t none short hold order few total =
    let at : SpanAt Two Ns (codes "at") ms begin = offset_by ms zero begin t.offset t.units none short in (
      t.only,
      (
        (t.typed, inl (items, t.calls, hold)),
        (
          (refl, have_units ms t.units),
          (
            (inr (t.times, refl), omega arith, omega arith),
            (
              inl (omega arith),
              (
                ((at.2, at.3), (0, inr (t.every, refl))),
                (
                  (at, no_span (codes "every") ms t.units.1 t.every),
                  (
                    order,
                    (
                      (few, omega (arith, total)),
                      tt,
                    ),
                  ),
                ),
              ),
            ),
          ),
        ),
      ),
    )
