-- Spelling: the text of a snapshot (this project's rule).
-- Numbers are decimals with no leading zero, one space stands between two words, each line ends with a newline (byte 10),
-- and a text is grouped to the right.
use Rattle.std.specs.Prelude.{◌≡◌, ℕ, ◌^◌, ◌<◌, ◌≤◌, Bool, true, false, List, ◌++◌, Option, Some, None, codes, flat_map, length}
use Rattle.std.specs.List.{All}
use Rattle.std.specs.Fmt.{decimal}
use Rattle.sched_time.specs.Policies.{truth_text}
use Rattle.sched_time.specs.Times.{longest}
use Rattle.sched_time.specs.declared.policies.Policies.{Policies}
use Rattle.sched_time.specs.declared.timing.Timing.{Timing}
use Rattle.sched_time.specs.declared.timing.Timing.TheVariants as t
use Rattle.executor_model.specs.declared.task.Stage.{Stage}
use Rattle.executor_model.specs.declared.task.Stage.TheVariants as ph
use Rattle.task_table.specs.declared.image.Image.{Image}
use Rattle.snapshot_text.specs.declared.head.Head.{Head}
use Rattle.snapshot_text.specs.declared.standing.Standing.{Standing}
use Rattle.snapshot_text.specs.declared.standing.Standing.TheVariants as s
use Rattle.snapshot_text.specs.Sums.{sum_of}
use Rattle.snapshot_text.specs.Snapshots.{SnapshotView}

-- ---- the front

-- two numbers, each behind its word, and a word behind them
abbrev pub two_text : List ℕ → List ℕ → List ℕ → ℕ × ℕ → List ℕ
two_text one other last v = one ++ (decimal v.0 ++ (other ++ (decimal v.1 ++ last)))

-- below these limits
abbrev pub FitTwo : ℕ → ℕ → ℕ × ℕ → Type 0
FitTwo one other v = (v.0 < one) × (v.1 < other)

-- whether something is so, behind its word, and the newline
abbrev pub flag_text : List ℕ → Bool → List ℕ
flag_text word b = word ++ (truth_text b ++ codes "\n")

-- how far the run is that the executor stands in: the lines that were taken, and the lines that were written
abbrev pub run_text : ℕ × ℕ → List ℕ
run_text v = two_text (codes "lines ") (codes " written ") (codes "\n") v

-- how many workers there are, and how many slots
abbrev pub size_text : ℕ × ℕ → List ℕ
size_text v = two_text (codes "workers ") (codes " slots ") (codes "\n") v

-- the moment, and the least moment of the call that comes next
abbrev pub time_text : ℕ × ℕ → List ℕ
time_text v = two_text (codes "moment ") (codes " earliest ") (codes "\n") v

-- how many numbers were given out, and of how many of these the submission was accepted
abbrev pub number_text : ℕ × ℕ → List ℕ
number_text v = two_text (codes "numbers ") (codes " accepted ") (codes "\n") v

-- the policies
abbrev pub policies_text : Policies → List ℕ
policies_text p = flag_text (codes "continue ") p.continues ++ (flag_text (codes "execute ") p.executes ++ flag_text (codes "remove ") p.removes)

-- whether a call to shut down was made, and one at once
abbrev pub shut_text : Bool × Bool → List ℕ
shut_text v = flag_text (codes "shut ") v.0 ++ flag_text (codes "stopped ") v.1

-- the lines at the front
abbrev pub head_text : Head → List ℕ
head_text h =
    codes "sched snapshot 1\n"
    ++ (run_text (h.lines, h.written)
    ++ (size_text (h.table.workers, h.table.slots)
    ++ (time_text (h.table.moment, h.earliest)
    ++ (number_text (h.count, h.accepted)
    ++ (policies_text h.table.policies ++ shut_text (h.table.shut, h.table.stopped))))))

-- its numbers fit
pub record FitsHead (h : Head) : Type 0 where
  pub run : FitTwo (2 ^ 64) (2 ^ 64) (h.lines, h.written)
  pub size : FitTwo (2 ^ 8) (2 ^ 32) (h.table.workers, h.table.slots)
  pub time : FitTwo (2 ^ 64) (2 ^ 64) (h.table.moment, h.earliest)
  pub numbers : FitTwo (2 ^ 64) (2 ^ 64) (h.count, h.accepted)

-- ---- the tasks

-- how often a task runs, and a space
abbrev pub timing_text : Timing → List ℕ
timing_text t.Once = codes "once "
timing_text (t.Rate period) = codes "rate " ++ (decimal period ++ codes " ")
timing_text (t.Fixed delay) = codes "fixed " ++ (decimal delay ++ codes " ")

-- within the limit of spans
abbrev pub FitsSpan : ℕ → Type 0
FitsSpan n = n ≤ longest

-- a period or a delay is within the limit
abbrev pub FitsTiming : Timing → Type 0
FitsTiming t.Once = Unit {0}
FitsTiming (t.Rate period) = FitsSpan period
FitsTiming (t.Fixed delay) = FitsSpan delay

-- how a task stands, and the newline
abbrev pub standing_text : Standing → List ℕ
standing_text s.Waits = codes "waits\n"
standing_text s.Kept = codes "kept\n"
standing_text (s.Runs worker) = codes "runs " ++ (decimal worker ++ codes "\n")
standing_text (s.Cancelled worker) = codes "runs " ++ (decimal worker ++ codes " cancelled\n")

-- a worker's number fits
abbrev pub FitsStanding : Standing → Type 0
FitsStanding (s.Runs worker) = worker < 2 ^ 8
FitsStanding (s.Cancelled worker) = worker < 2 ^ 8
FitsStanding _ = Unit {0}

-- how a task stands whose run this worker makes, which is kept, and which was cancelled, or not
abbrev pub standing_with : Option ℕ → Bool → Bool → Standing
standing_with None true cancelled = s.Kept
standing_with None false cancelled = s.Waits
standing_with (Some worker) kept true = s.Cancelled worker
standing_with (Some worker) kept false = s.Runs worker

-- how the task of an image stands
abbrev pub standing_of : Image → Standing
standing_of r = standing_with r.worker r.seat.kept r.seat.cancelled

-- the worker that makes the run of a task that stands so
abbrev pub worker_of : Standing → Option ℕ
worker_of (s.Runs worker) = Some worker
worker_of (s.Cancelled worker) = Some worker
worker_of _ = None

-- its phase
abbrev pub phase_of : Standing → Stage
phase_of (s.Runs worker) = ph.Running
phase_of (s.Cancelled worker) = ph.Running
phase_of _ = ph.Waiting

-- whether it was cancelled
abbrev pub was_cancelled : Standing → Bool
was_cancelled s.Kept = true
was_cancelled (s.Cancelled worker) = true
was_cancelled _ = false

-- whether it is kept
abbrev pub is_kept : Standing → Bool
is_kept s.Kept = true
is_kept _ = false

-- the image that a line tells: of the task of this number in this slot, whose run of this number is due then
abbrev pub image_of : ℕ × ℕ → ℕ × ℕ → Timing → Standing → Image
image_of place run timing standing = record {
  slot = place.1;
  worker = worker_of standing;
  seat = record {
    number = place.0;
    run = run.1;
    due = run.0;
    timing = timing;
    phase = phase_of standing;
    cancelled = was_cancelled standing;
    kept = is_kept standing;
  };
}

-- the numbers of an image fit, and it is one that a line tells: its task waits, is kept, or is run by a worker
pub record FitsImage (r : Image) : Type 0 where
  pub place : FitTwo (2 ^ 64) (2 ^ 32) (r.seat.number, r.slot)
  pub run : FitTwo (2 ^ 64) (2 ^ 64) (r.seat.due, r.seat.run)
  pub timing : FitsTiming r.seat.timing
  pub standing : FitsStanding (standing_of r)
  pub told : r ≡ image_of (r.seat.number, r.slot) (r.seat.due, r.seat.run) r.seat.timing (standing_of r)

-- the line of a task
abbrev pub task_text : Image → List ℕ
task_text r =
    two_text (codes "task ") (codes " slot ") (codes " ") (r.seat.number, r.slot)
    ++ (two_text (codes "due ") (codes " run ") (codes " ") (r.seat.due, r.seat.run)
    ++ (timing_text r.seat.timing ++ standing_text (standing_of r)))

-- ---- the other lines

-- a number of a caller's own that goes with a task
abbrev pub given_text : ℕ → List ℕ
given_text n = codes "data " ++ (decimal n ++ codes "\n")

-- below 2^64
abbrev pub FitsGiven : ℕ → Type 0
FitsGiven n = n < 2 ^ 64

-- an empty slot
abbrev pub empty_text : ℕ → List ℕ
empty_text slot = codes "free " ++ (decimal slot ++ codes "\n")

-- below 2^32
abbrev pub FitsSlot : ℕ → Type 0
FitsSlot slot = slot < 2 ^ 32

-- the last line: how many tasks there are, and the sum of all that stands before the line
abbrev pub end_text : ℕ × ℕ → List ℕ
end_text v = two_text (codes "end ") (codes " ") (codes "\n") v

-- ---- the whole

-- all but the last line
abbrev pub body_text : SnapshotView → List ℕ
body_text s = head_text s.head ++ (flat_map task_text s.tasks ++ (flat_map given_text s.given ++ flat_map empty_text s.empty))

-- the text of a snapshot
abbrev pub snapshot_text : SnapshotView → List ℕ
snapshot_text s = body_text s ++ end_text (length s.tasks, sum_of (body_text s))

-- all that a snapshot holds fits
pub record FitsSnapshot (s : SnapshotView) : Type 0 where
  pub head : FitsHead s.head
  pub tasks : All FitsImage s.tasks
  pub given : All FitsGiven s.given
  pub empty : All FitsSlot s.empty
  pub few : length s.tasks < 2 ^ 64
