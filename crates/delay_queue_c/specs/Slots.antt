-- What the calls on a slot speak of. (All of it is this project's rule.)
use Rattle.std.specs.Prelude.{◌≡◌, ◌≢◌, ℕ, ◌-◌, ◌≤◌, List, [], ◌∷◌, Some, None, true, min, slice_set}
use Rattle.delay_queue.specs.Queues.{Queue, entry_count, IsLeast}
use Rattle.delay_queue.specs.Touches.{most_touches, Touches}
use Rattle.delay_queue_c.specs.Statuses.{done, insert_status}
use Rattle.delay_queue_c.specs.declared.entry.DqEntry.{DqEntry}

-- nothing of the queue changed, nor what it counted
pub record IsSame (before after : Queue) : Type 0 where
  pub entries : after.entries ≡ before.entries
  pub touched : after.touched ≡ before.touched

-- One entry was added, as `insert` adds it: its task was below the count of tasks, and had none.
pub record Inserts (before : Queue) (e : DqEntry) (after : Queue) : Type 0 where
  pub admitted : insert_status true before.entries e.task ≡ done
  pub inserted : after.entries ≡ slice_set before.entries e.task (Some e.due)
  pub touched : Touches before.touched after.touched (min 1 (entry_count before.entries)) (most_touches (entry_count before.entries))

-- one after another was added
abbrev pub InsertsEach : Queue → List DqEntry → Queue → Type 0
InsertsEach before [] after = after ≡ before
InsertsEach before (e ∷ es) after = (between : Queue) × (Inserts before e between × InsertsEach between es after)

-- Why no more were added: none was left, or the next one was refused, with this status.
abbrev pub Stops : Queue → List DqEntry → ℕ → Type 0
Stops queue [] status = status ≡ done
Stops queue (next ∷ rest) status = (status ≡ insert_status true queue.entries next.task) × (status ≢ done)

-- One entry was taken out, as `poll` takes it out at the moment `now`.
pub record Polls (before : Queue) (now : ℕ) (e : DqEntry) (after : Queue) : Type 0 where
  pub least : IsLeast before.entries e.due e.task
  pub due : e.due ≤ now
  pub removed : after.entries ≡ slice_set before.entries e.task None
  pub touched : Touches before.touched after.touched (min 1 (entry_count before.entries - 1)) (most_touches (entry_count before.entries))

-- one after another was taken out
abbrev pub PollsEach : Queue → ℕ → List DqEntry → Queue → Type 0
PollsEach before now [] after = after ≡ before
PollsEach before now (e ∷ es) after = (between : Queue) × (Polls before now e between × PollsEach between now es after)
