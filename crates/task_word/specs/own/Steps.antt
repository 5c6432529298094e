-- Beside `specs/Steps`: what only private contracts and proofs cite.
use Rattle.std.specs.Prelude.{◌≡◌, ℕ, ◌+◌, ◌≢◌, ◌⊎◌}
use Rattle.atomic_table.specs.Table.{Me}
use Rattle.task_word.specs.Words.{IsWord, value, marked, new_in}
use Rattle.task_word.specs.Views.{entry, with_entry, core_cancelled, handle_looked, handle_cancelled, MeetsEntry, MeetsHandle}
use Rattle.task_word.specs.own.Views.{core_of, handle_of}
use Rattle.task_word.specs.Numbers.{word_of_value}
use Rattle.task_word.specs.declared.views.CoreSeatView.{CoreSeatView}
use Rattle.task_word.specs.declared.views.HandleSeatView.{HandleSeatView}
use Rattle.task_word.specs.declared.views.View.{View}
use Rattle.task_word.specs.declared.views.View.TheVariants.{Core, Handle}
use Rattle.task_word.specs.Steps.{CoreTells}

-- a seat that holds no slot
abbrev pub Holder : Type 0
Holder = Me (Unit {0}) View

-- of the task whose word it is: the first word of a table belongs to no task
abbrev pub AtTask : ℕ → (ℕ → Type 0) → Type 0
AtTask word about = (k : ℕ) → word ≡ k + 1 → about k

-- the core's view has become v, and the rest is as it was
abbrev pub CoreIs : CoreSeatView → Holder → Holder → Type 0
CoreIs v me next = next ≡ (Core v, me.1)

-- the handle's view has become h, and the rest is as it was
abbrev pub HandleIs : HandleSeatView → Holder → Holder → Type 0
HandleIs h me next = next ≡ (Handle h, me.1)

-- the core's store: the core knows the word new in run 0
abbrev pub Submitted : ℕ → Holder → Holder → Type 0
Submitted word me next = AtTask word (λ k. CoreIs (with_entry (core_of me.0) k (new_in 0)) me next)

-- the core met the word w of the task k, which is its entry or has the bit besides
pub record CoreMeets (v : CoreSeatView) (k found : ℕ) : Type 0 where
  pub word : IsWord (word_of_value found)
  pub number : value (word_of_value found) ≡ found
  pub meets : MeetsEntry (entry v k) (word_of_value found)
  pub tells : CoreTells v k (word_of_value found)

-- the core's exchange: the number expected was found, and the core knows the new word; or another was, and the core
-- knows its entry with the bit
abbrev pub Exchanged : ℕ → ℕ → ℕ → Holder → ℕ → Holder → Type 0
Exchanged word old new me found next = AtTask word (λ k. CoreMeets (core_of me.0) k found × (
    ((found ≡ old) × CoreIs (with_entry (core_of me.0) k (word_of_value new)) me next)
    ⊎ ((found ≢ old) × CoreIs (with_entry (core_of me.0) k (marked (entry (core_of me.0) k))) me next)))

-- the core's setting of the bit: the core knows the word that it met with the bit, and whether it won
abbrev pub CoreCancelled : ℕ → Holder → ℕ → Holder → Type 0
CoreCancelled word me found next = AtTask word (λ k. CoreMeets (core_of me.0) k found × CoreIs (core_cancelled (core_of me.0) k (word_of_value found)) me next)

-- the core's load: the core knows the word that it met
abbrev pub CoreLooked : ℕ → Holder → ℕ → Holder → Type 0
CoreLooked word me found next = AtTask word (λ k. CoreMeets (core_of me.0) k found × CoreIs (with_entry (core_of me.0) k (word_of_value found)) me next)

-- a handle's setting of the bit: the handle knows the word that it met, and whether it won
abbrev pub HandleCancelled : ℕ → Holder → ℕ → Holder → Type 0
HandleCancelled word me found next = AtTask word (λ k. MeetsHandle (handle_of me.0) k (word_of_value found) × (value (word_of_value found) ≡ found) × HandleIs (handle_cancelled (handle_of me.0) k (word_of_value found)) me next)

-- a handle's load: the handle knows the word that it met
abbrev pub HandleLooked : ℕ → Holder → ℕ → Holder → Type 0
HandleLooked word me found next = AtTask word (λ k. MeetsHandle (handle_of me.0) k (word_of_value found) × (value (word_of_value found) ≡ found) × HandleIs (handle_looked (handle_of me.0) k (word_of_value found)) me next)
