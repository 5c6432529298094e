use Rattle.std.proofs.Common.{◌∙◌}
use Rattle.task_word.proofs.NewTables.{opens}
use Rattle.task_word.proofs.table.TaskWords.new.Goals as goal

pub of_words-requires : goal.of_words-requires
of_words-requires g c = opens c.args.tasks _ (c.as_slice.ensures.value ∙ c.in_ok-words.ensures.items_if_clones_equal (λ y e. e))
