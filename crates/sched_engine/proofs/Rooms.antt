-- Rooms: where want of memory comes from.
use Rattle.std.proofs.Common.{◌≡◌, ℕ, ◌<◌, ◌≤◌, List, ◌⊎◌, inl, inr, drop, subst, ◌∙◌}
use Rattle.std.proofs.lemmas.Bool.{cases_lt}
use Rattle.executor_core.specs.CoreView.{CoreView, room_of}
use Rattle.sched_engine.specs.Inputs.{BeginsWithEvent}
use Rattle.sched_engine.specs.Pieces.{Output}
use Rattle.sched_engine.specs.own.Turns.{IsAnswered, WantsRoom}

-- the capacity stays, or an event wanted more of it
pub still_kept : (old mid : CoreView) (held : List ℕ) (before after : Output) (taken count first capacity capacity' : ℕ) → IsAnswered old mid held taken before after count → BeginsWithEvent (drop taken held) → mid.taken < mid.limit
    → (room_of mid ≤ capacity → capacity' ≡ capacity) → (capacity ≡ first) ⊎ WantsRoom old held before first → (capacity' ≡ first) ⊎ WantsRoom old held before first
still_kept old mid held before after taken count first capacity capacity' a begins below keeps (inr wants) = inr wants
still_kept old mid held before after taken count first capacity capacity' a begins below keeps (inl same) = by (cases_lt capacity (room_of mid))
  where
    by : (capacity < room_of mid) ⊎ (room_of mid ≤ capacity) → (capacity' ≡ first) ⊎ WantsRoom old held before first
    by (inl few) = inr (record { core = mid; taken = taken; after = after; count = count; answered = a; further = begins; below = below; short = subst (λ n. n < room_of mid) same few })
    by (inr enough) = inl (keeps enough ∙ same)

-- an event for which there was no memory wanted more of it
pub wanted : (old mid : CoreView) (held : List ℕ) (before after : Output) (taken count first capacity : ℕ) → IsAnswered old mid held taken before after count → BeginsWithEvent (drop taken held) → mid.taken < mid.limit
    → (room_of mid ≤ capacity → ⊥) → (capacity ≡ first) ⊎ WantsRoom old held before first → WantsRoom old held before first
wanted old mid held before after taken count first capacity a begins below lacks (inr wants) = wants
wanted old mid held before after taken count first capacity a begins below lacks (inl same) = by (cases_lt capacity (room_of mid))
  where
    by : (capacity < room_of mid) ⊎ (room_of mid ≤ capacity) → WantsRoom old held before first
    by (inl few) = record { core = mid; taken = taken; after = after; count = count; answered = a; further = begins; below = below; short = subst (λ n. n < room_of mid) same few }
    by (inr enough) = absurd (lacks enough)
