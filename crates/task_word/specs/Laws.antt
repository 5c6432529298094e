-- The laws of the words, which no one call shows. This project's rule.
use Rattle.std.specs.Prelude.{◌≡◌, ◌≢◌, ℕ, ◌<◌, ◌≤◌, true, false, List}
use mathlib.Core.Option.{some}
use lib.ListN.{get_elem?}
use Rattle.task_word.specs.Words.{Parts, rank, is_ended_phase, is_cancelled, submitted, started, rearmed, ended_well, ended_badly, marked}
use Rattle.task_word.specs.Writes.{Kind, submit, start, done, fail, rearm, core_cancel, handle_cancel, ChangesWord, sets_bit}
use Rattle.task_word.specs.declared.phases.Phase.TheVariants.{Vacant, New, Running}
use Rattle.task_word.specs.Views.{times}
use Rattle.task_word.specs.Rule.{IsWellFormedTable, word_at, taken_by}
use Rattle.task_word.specs.declared.views.View.{View}

-- no seat cancelled the task k, or has it from a handle that did
abbrev pub NoWinner : ℕ → List View → Type 0
NoWinner k views = (id : ℕ) (v : View) → get_elem? views id ≡ some v → times k (taken_by v) ≡ 0

-- the seat id cancelled the task k, or has it from a handle that did: once, and no other seat
pub record IsWinner (k : ℕ) (views : List View) (id : ℕ) : Type 0 where
  pub view : View
  pub at : get_elem? views id ≡ some view
  pub once : times k (taken_by view) ≡ 1
  pub others : (j : ℕ) (v : View) → j ≢ id → get_elem? views j ≡ some v → times k (taken_by v) ≡ 0

-- the task k of n has one winner exactly when its word is cancelled, and else none. What is no task has none
pub record IsWonOnce (n k : ℕ) (words : List ℕ) (views : List View) : Type 0 where
  pub one : k < n → is_cancelled (word_at words k) ≡ true → (id : ℕ) × IsWinner k views id
  pub free : k < n → is_cancelled (word_at words k) ≡ false → NoWinner k views
  pub past : n ≤ k → NoWinner k views

-- whatever the words and the views are between two steps, each cancelled task has one winner, and no other task has any
abbrev pub OneWinner : Type 0
OneWinner = (n : ℕ) (words : List ℕ) (views : List View) → IsWellFormedTable n words views → (k : ℕ) → IsWonOnce n k words views

-- what each move makes of a word is what its kind of write makes of it, where the move may be made; and so for the bit
pub record MovesWrite (w : Parts) : Type 0 where
  pub submitted : w.phase ≡ Vacant → ChangesWord submit w (submitted w)
  pub started : w.phase ≡ New → is_cancelled w ≡ false → ChangesWord start w (started w)
  pub ended_well : w.phase ≡ Running → is_cancelled w ≡ false → ChangesWord done w (ended_well w)
  pub ended_badly : w.phase ≡ Running → is_cancelled w ≡ false → ChangesWord fail w (ended_badly w)
  pub rearmed : w.phase ≡ Running → is_cancelled w ≡ false → ChangesWord rearm w (rearmed w)
  pub core_cancelled : ChangesWord core_cancel w (marked w)
  pub handle_cancelled : ChangesWord handle_cancel w (marked w)

-- this is so of every word
abbrev pub MovesAreWrites : Type 0
MovesAreWrites = (w : Parts) → MovesWrite w

-- no write lowers the rank
abbrev pub NoWriteLowersRank : Type 0
NoWriteLowersRank = (kind : Kind) (w u : Parts) → ChangesWord kind w u → rank w ≤ rank u

-- each write but a cancel raises the rank
abbrev pub MovesRaiseRank : Type 0
MovesRaiseRank = (kind : Kind) (w u : Parts) → sets_bit kind ≡ false → ChangesWord kind w u → rank w < rank u

-- no write changes a cancelled word
abbrev pub CancelledWordStands : Type 0
CancelledWordStands = (kind : Kind) (w u : Parts) → ChangesWord kind w u → is_cancelled w ≡ true → u ≡ w

-- no write changes the phase or the run of an ended word
abbrev pub EndedWordStands : Type 0
EndedWordStands = (kind : Kind) (w u : Parts) → ChangesWord kind w u → is_ended_phase w.phase ≡ true → (u.phase ≡ w.phase) × (u.run ≡ w.run)
