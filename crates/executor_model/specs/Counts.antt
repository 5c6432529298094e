-- How many workers there may be.
use Rattle.std.specs.Prelude.{ℕ, ◌≤◌}

-- the greatest number of workers (this project's limit)
abbrev pub most_workers : ℕ
most_workers = 64

-- a number of workers: 1 to the greatest
abbrev pub IsWorkerCount : ℕ → Type 0
IsWorkerCount workers = (1 ≤ workers) × (workers ≤ most_workers)

-- the greatest number of workers of an executor that is told calls while it runs (this project's limit: their numbers are bytes)
abbrev pub most_live_workers : ℕ
most_live_workers = 255

-- a number of workers of such an executor: 1 to the greatest
abbrev pub IsLiveWorkerCount : ℕ → Type 0
IsLiveWorkerCount workers = (1 ≤ workers) × (workers ≤ most_live_workers)
