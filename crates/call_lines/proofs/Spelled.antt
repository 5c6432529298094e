-- Lines of tasks that were ended, and their room for numbers.
use Rattle.std.proofs.Common.{◌≡◌, ℕ, Bool, true, false, List, Some, map, slice_get, refl, sym, ap, ◌∙◌}
use Rattle.std.specs.Option.{option_map}
use Rattle.std.proofs.lemmas.List.Folds.{list_all-map, list_all_at}
use Rattle.std.proofs.lemmas.Option.{get_or_from_slice_get, slice_get-map, slice_get_within}
use Rattle.executor_model.specs.declared.types.Line.{Line}
use Rattle.executor_model.specs.Flows.{end_line}
use Rattle.task_table.specs.declared.seat.TaskRef.{TaskRef}
use Rattle.task_table.specs.Endings.{numbers_of}
use Rattle.live_core.specs.Lined as lined
use Rattle.call_lines.specs.Narrow.{are_spelled, is_narrow, is_spelled}

-- the lines of tasks that were ended have room for their numbers where there is room for each
pub spelled_ends : (moment : ℕ) (ended : List TaskRef) → are_spelled (map (end_line moment) (numbers_of ended)) ≡ lined.are_spelled ended
spelled_ends moment ended =
    list_all-map (λ (l : Line). is_spelled l.message) (end_line moment) (numbers_of ended)
    ∙ list_all-map (λ (n : ℕ). is_spelled (end_line moment n).message) (λ (r : TaskRef). r.number) ended

-- the line of a task that was ended
pub line_there : (moment : ℕ) (ended : List TaskRef) (i : ℕ) (task : TaskRef) → slice_get ended i ≡ Some task
    → slice_get (map (end_line moment) (numbers_of ended)) i ≡ Some (end_line moment task.number)
line_there moment ended i task there =
    slice_get-map (end_line moment) (numbers_of ended) i
    ∙ ap (option_map (end_line moment)) (slice_get-map (λ (r : TaskRef). r.number) ended i ∙ ap (option_map (λ (r : TaskRef). r.number)) there)

true_unless : (b : Bool) → (b ≡ false → true ≡ false) → b ≡ true
true_unless true h = refl
true_unless false h = sym (h refl)

-- there is room for the number of each task that was ended
pub narrow_there : (moment : ℕ) (ended : List TaskRef) (i : ℕ) (task : TaskRef) → are_spelled (map (end_line moment) (numbers_of ended)) ≡ true
    → slice_get ended i ≡ Some task → is_narrow task.number ≡ true
narrow_there moment ended i task spelled there =
    let lines = map (end_line moment) (numbers_of ended) in let line = end_line moment task.number in let at = line_there moment ended i task there in
    true_unless (is_narrow task.number) (λ wide. sym spelled ∙ list_all_at (λ (l : Line). is_spelled l.message) lines i line (slice_get_within lines i line at)
    (ap (λ (l : Line). is_spelled l.message) (get_or_from_slice_get lines i line line at) ∙ wide))
