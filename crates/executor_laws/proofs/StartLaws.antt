-- What holds of each history that means some calls.
use Rattle.std.proofs.Common.{ℕ, nat_le, List, [], ◌∷◌, ◌++◌, sym, ◌∙◌, arith}
use Rattle.std.specs.Prelude.{slice_get}
use Rattle.std.proofs.lemmas.Bool.{and_parts, leb-true}
use Rattle.queue_code.specs.Calls.{Planned, numbers, task_count}
use Rattle.executor_model.specs.View.{is_waiting}
use Rattle.executor_model.specs.Histories.{HistoryEntry, IsHistoryOf, view_of_history, now_of, happenings, made}
use Rattle.executor_laws.specs.Laws.{Starts, NoStartIsEarly, StartsAreInOrder, AnswersByPosition}
use Rattle.executor_model.proofs.Starting.{StartsFirst, start_says}
use Rattle.executor_model.proofs.Sound.{first_is_enabled}
use Rattle.executor_model.proofs.First.{first_is_least, in_range}

-- what stands before some entries of a history is a history too
pub means_front : (calls : List Planned) (workers : ℕ) (later past : List HistoryEntry) → IsHistoryOf calls workers (later ++ past) → IsHistoryOf calls workers past
means_front calls workers [] past m = m
means_front calls workers (e ∷ later) past m = means_front calls workers later past m.0

-- the law that each answer is the table's for what stands before it
pub answers_by_position : AnswersByPosition
answers_by_position calls workers later past e m = let here = means_front calls workers later (e ∷ past) m in (here.2, here.3)

-- what a start in a history says
pub start_is_first : (calls : List Planned) (workers : ℕ) (past : List HistoryEntry) (e : HistoryEntry) (w k n d : ℕ) → Starts calls workers past e w k n d → StartsFirst calls (view_of_history calls past) e.happening k n d
start_is_first calls workers past e w k n d s = start_says calls workers (view_of_history calls past) e.happening w k n d (sym (means_front calls workers s.later (e ∷ past) s.means).2 ∙ s.start)

-- the law that no start stands before its due moment
pub no_start_is_early : NoStartIsEarly
no_start_is_early calls workers past e w k n d s =
    let said = start_is_first calls workers past e w k n d s in
    let v = view_of_history calls past in
    let enabled = and_parts (is_waiting (v.fate k)) (nat_le (v.fate k).due v.moment) (first_is_enabled v (numbers calls) k said.first) in
    omega (arith, said.due, leb-true (v.fate k).due v.moment enabled.1, said.still (now_of calls (happenings past)) (slice_get calls (made (happenings past))))

-- the law that each other enabled task comes after the one that starts
pub starts_are_in_order : StartsAreInOrder
starts_are_in_order calls workers past e w k n d j s below enabled =
    first_is_least (view_of_history calls past) (numbers calls) k j (start_is_first calls workers past e w k n d s).first (in_range 0 (task_count calls) j (omega arith) (omega arith)) enabled
