-- The numbers that are those of words.
use Rattle.std.specs.Prelude.{◌≡◌, ℕ}
use Rattle.task_word.specs.Words.{IsWord, value}
use Rattle.task_word.specs.Numbers.{word_of_value}

-- the number is that of a word, and of no other
pub record IsNumberOfWord (n : ℕ) : Type 0 where
  pub word : IsWord (word_of_value n)
  pub same : value (word_of_value n) ≡ n
