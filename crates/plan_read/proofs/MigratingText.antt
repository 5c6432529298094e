-- A text and the text that it is migrated to.
use Rattle.std.proofs.Common.{◌≡◌, ◌≤◌, ℕ, true, false, List, length, Option, None, Some, String, Global, refl, sym, ap, ◌∙◌, inl, inr, arith}
use Rattle.std.specs.Prelude.{Result, Ok, Err}
use Rattle.toml.specs.Data.{Members}
use Rattle.toml.specs.Text.{IsDocumentText}
use Rattle.plan_read.specs.declared.faults.PlanFault.{PlanFault}
use Rattle.plan_read.specs.declared.faults.PlanFaultKind.TheVariants.{Version}
use Rattle.plan_read.specs.declared.faults.ReadError.{ReadError}
use Rattle.plan_read.specs.declared.faults.ReadError.TheVariants as errors
use Rattle.plan_read.specs.declared.versions.Version.{Version as PlanVersion}
use Rattle.plan_read.specs.declared.versions.Version.TheVariants.{One, Two}
use Rattle.plan_read.specs.Migrating.{migrated, in_nanoseconds, Migrates, PrintsTooLong, MigrationFails}
use Rattle.plan_read.specs.Texts.{longest_text, text_checks, TextWrites, TextFails}
use Rattle.plan_read.specs.Writes.{TreeWritesIn}
use Rattle.plan_read.specs.own.Migrating.{OnePrinted, NeverMigrates, MigratesTo, PrintsAs}
use Rattle.plan_read.specs.own.Plain.{members_are_plain}
use Rattle.plan_read.specs.own.Reads.{FailsWith}
use Rattle.plan_read.specs.own.Texts.{tree_at, length_tests, toml_tests, fault_of_text}
use Rattle.plan_read.specs.own.Values.{version_at, plan_of}
use Rattle.plan_read.specs.own.Walk.{◌or_else◌, place_fault, top, tree_fault}
use Rattle.plan_read.proofs.MigratedTrees.{tree_migrated}
use Rattle.plan_read.proofs.PrintedLines.{one_document}
use Rattle.plan_read.proofs.TextLaw.{three_faults, text_fails, text_passes, text_is, text_never_both}
use Rattle.plan_read.proofs.TreeLaw.{written_as_read, writes_version}

-- the fault of a text as a whole
abbrev pub document_fault : List ℕ → Option PlanFault
document_fault text = place_fault top (length_tests text) or_else place_fault top (toml_tests text)

whole : (text : List ℕ) → fault_of_text text ≡ (document_fault text or_else tree_fault (tree_at text))
whole text = three_faults (place_fault top (length_tests text)) (place_fault top (toml_tests text)) (tree_fault (tree_at text))

-- ---- one migrated text

-- what is migrated writes a plan
pub migrates_writes : (text printed : List ℕ) (m : Migrates text printed) → TextWrites text m.plan
migrates_writes text printed m = record { tree = m.tree; parsed = m.parsed; writes = (One, m.writes) }

-- and so does what it is migrated to
pub printed_writes : (text printed : List ℕ) (m : Migrates text printed) → TextWrites printed (in_nanoseconds m.plan)
unfolding text_checks
printed_writes text printed m = record { tree = migrated m.tree; parsed = (m.short, (m.reads, tt)); writes = (Two, tree_migrated m.tree m.plan m.writes) }

-- a text that has a fault is not migrated
faulty : (text : List ℕ) (fault : PlanFault) → TextFails text fault → NeverMigrates text
faulty text fault fails printed m = text_never_both text m.plan fault (migrates_writes text printed m) fails

-- a text that is migrated is of version 1
first_version : (text printed : List ℕ) → Migrates text printed → version_at (tree_at text) ≡ One
first_version text printed m = rw (text_is text m.tree m.parsed) (writes_version One m.tree m.plan m.writes)

-- what it is migrated to is what is printed for its tree
prints_it : (text printed : List ℕ) → Migrates text printed → IsDocumentText false (migrated (tree_at text)) printed
prints_it text printed m = rw (text_is text m.tree m.parsed) m.prints

-- a text is migrated to one text
pub one_migrated : (text a b : List ℕ) → OnePrinted text → Migrates text a → Migrates text b → a ≡ b
one_migrated text a b one m n = one a b (prints_it text a m) (prints_it text b n)

-- a text that is migrated has no fault
pub never_fails : (text printed : List ℕ) (fault : PlanFault) → OnePrinted text → Migrates text printed → MigrationFails text fault → ⊥
never_fails text printed fault one m (inl fails) = text_never_both text m.plan fault (migrates_writes text printed m) fails
never_fails text printed fault one m (inr (inl again)) =
    let second : version_at (tree_at text) ≡ Two = rw (text_is text again.0.tree again.0.parsed) (writes_version Two again.0.tree again.0.plan again.0.writes) in
    let e = sym second ∙ first_version text printed m in
    absurd (cc)
never_fails text printed fault one m (inr (inr long)) =
    let same : long.0.printed ≡ printed = one long.0.printed printed (rw (text_is text long.0.tree long.0.parsed) long.0.prints) (prints_it text printed m) in
    let short : length long.0.printed ≤ longest_text = rw same m.short in
    absurd (omega (arith, long.0.long))

-- ---- what stops a migration

stopped : (text : List ℕ) (fault : PlanFault) → fault_of_text text ≡ Some fault → MigrationFails text fault × NeverMigrates text
stopped text fault some = let fails = text_fails text fault some in (inl fails, faulty text fault fails)

-- a text that is no document has its fault
pub document_fails : (text : List ℕ) (r : Result (String Global) ReadError) (e : ReadError) → r ≡ Err e → FailsWith e (document_fault text) → MigratesTo r text
document_fails text r errors.Memory is h = rw is tt
document_fails text r (errors.Fault fault) is h = rw is (stopped text fault (whole text ∙ rw h refl))

-- and so has one whose tree writes no plan
pub tree_fails : (text : List ℕ) (r : Result (String Global) ReadError) (e : ReadError) → r ≡ Err e → document_fault text ≡ None → FailsWith e (tree_fault (tree_at text)) → MigratesTo r text
tree_fails text r errors.Memory is none h = rw is tt
tree_fails text r (errors.Fault fault) is none h = rw is (stopped text fault (whole text ∙ rw none h))

-- want of memory says nothing
pub memory_fails : (text : List ℕ) (r : Result (String Global) ReadError) (e : ReadError) → r ≡ Err e → e ≡ errors.Memory → MigratesTo r text
memory_fails text r e is memory = rw (is, memory) tt

-- ---- what is done with a text that has no fault

-- its tree writes a plan in the version that is read
written_in : (text : List ℕ) (version : PlanVersion) → version ≡ version_at (tree_at text) → tree_fault (tree_at text) ≡ None → TreeWritesIn version (tree_at text) (plan_of (tree_at text))
written_in text version is none = rw is (written_as_read (tree_at text) none)

-- a text of version 2 is not migrated again
pub not_again : (text : List ℕ) (fault : PlanFault) → document_fault text ≡ None → tree_fault (tree_at text) ≡ None → Two ≡ version_at (tree_at text) → fault ≡ record { kind = Version; block = 0; call = 0 }
    → MigrationFails text fault × NeverMigrates text
not_again text fault document tree version is = (
  inr (inl (record { tree = tree_at text; parsed = text_passes text document; plan = plan_of (tree_at text); writes = written_in text Two version tree }, is)),
  λ printed m. (let e = version ∙ first_version text printed m in cc),
)

-- a text of version 1 is migrated to what is printed for its migrated tree, or that is too long
pub printed_as : (text : List ℕ) (r : Result (String Global) ReadError) (ms : Members) → document_fault text ≡ None → tree_fault (tree_at text) ≡ None → One ≡ version_at (tree_at text) → ms ≡ migrated (tree_at text)
    → members_are_plain 4 ms ≡ true → PrintsAs r ms → MigratesTo r text
printed_as text (Ok s) ms document tree version is plain p = (
  record {
    tree = tree_at text;
    parsed = text_passes text document;
    plan = plan_of (tree_at text);
    writes = written_in text One version tree;
    prints = rw (← is) p.0;
    reads = p.1 ∙ ap Some is;
    short = p.2;
  },
  λ a b x y. one_document false 4 ms a b plain (rw is x) (rw is y),
)
printed_as text (Err errors.Memory) ms document tree version is plain p = tt
printed_as text (Err (errors.Fault fault)) ms document tree version is plain p =
    let long : PrintsTooLong text = record {
      tree = tree_at text;
      parsed = text_passes text document;
      plan = plan_of (tree_at text);
      writes = written_in text One version tree;
      printed = p.1.0;
      prints = rw (← is) p.1.1;
      long = p.1.2;
    } in (
      inr (inr (long, p.0)),
      λ printed m. (let same : p.1.0 ≡ printed = one_document false 4 ms p.1.0 printed plain p.1.1 (rw is (prints_it text printed m)) in
          let short : length p.1.0 ≤ longest_text = rw same m.short in
          absurd (omega (arith, p.1.2))),
    )
