-- Tasks: the line of a task, part by part.
use Rattle.std.proofs.Common.{◌≡◌, ℕ, ◌^◌, ◌<◌, List, ◌++◌, length, ap, sym, subst, ◌∙◌, refl, arith, append_assoc, codes}
use Rattle.std.specs.Fmt.{decimal}
use Rattle.std.proofs.lemmas.List.{append_cancel_left}
use Rattle.sched_time.specs.declared.timing.Timing.{Timing}
use Rattle.sched_time.specs.declared.timing.Timing.TheVariants as t
use Rattle.task_table.specs.declared.image.Image.{Image}
use Rattle.trace_text.specs.Reading.{Below, EndsNumber, IsRead, IsUnread, number_then}
use Rattle.trace_text.proofs.Choice.{one_before}
use Rattle.trace_text.proofs.Clashes.{clashes}
use Rattle.trace_text.proofs.Digits.{one_number}
use Rattle.trace_text.proofs.Parts.{IsOnce, number_once}
use Rattle.snapshot_text.specs.declared.standing.Standing.{Standing}
use Rattle.snapshot_text.specs.declared.standing.Standing.TheVariants as s
use Rattle.snapshot_text.specs.Spelling.{FitTwo, FitsImage, FitsSpan, FitsStanding, FitsTiming, image_of, standing_of, standing_text, task_text, timing_text, two_text}
use Rattle.snapshot_text.proofs.Both.{BothFit, both_once, both_read, both_text, no_first, no_other}
use Rattle.snapshot_text.proofs.Fields.{behind_word, fit_within, once_behind, once_within, two_once}

-- ---- places and runs

pub places_once : IsOnce (two_text (codes "task ") (codes " slot ") (codes " ")) (FitTwo (2 ^ 64) (2 ^ 64))
places_once = two_once (codes "task ") (codes " slot ") (codes " ") (λ r. omega (arith, r)) (omega arith) (λ r. omega (arith, r)) (omega arith)

pub place_within : (v : ℕ × ℕ) → FitTwo (2 ^ 64) (2 ^ 32) v → FitTwo (2 ^ 64) (2 ^ 64) v
place_within = fit_within (2 ^ 64) (2 ^ 32) (omega arith) (omega arith)

pub place_once : IsOnce (two_text (codes "task ") (codes " slot ") (codes " ")) (FitTwo (2 ^ 64) (2 ^ 32))
place_once = once_within (two_text (codes "task ") (codes " slot ") (codes " ")) (FitTwo (2 ^ 64) (2 ^ 64)) (FitTwo (2 ^ 64) (2 ^ 32)) place_within places_once

pub due_once : IsOnce (two_text (codes "due ") (codes " run ") (codes " ")) (FitTwo (2 ^ 64) (2 ^ 64))
due_once = two_once (codes "due ") (codes " run ") (codes " ") (λ r. omega (arith, r)) (omega arith) (λ r. omega (arith, r)) (omega arith)

-- ---- spans

pub span_small : (n : ℕ) → FitsSpan n → n < 2 ^ 64
span_small n h = omega (arith, h)

-- a span before a space is read once
pub span_once : IsOnce (number_then (codes " ")) FitsSpan
span_once n m x y p q h = one_before (codes " ") n m x y (span_small n p) (span_small m q) (λ r. omega (arith, r)) (omega arith) h

pub timing_once : IsOnce timing_text FitsTiming
timing_once t.Once t.Once x y p q h = (refl, append_cancel_left (codes "once ") x y h)
timing_once (t.Rate a) (t.Rate b) x y p q h = let r = once_behind (codes "rate ") (number_then (codes " ")) FitsSpan span_once a b x y p q h in (ap t.Rate r.0, r.1)
timing_once (t.Fixed a) (t.Fixed b) x y p q h = let r = once_behind (codes "fixed ") (number_then (codes " ")) FitsSpan span_once a b x y p q h in (ap t.Fixed r.0, r.1)
timing_once t.Once (t.Rate b) x y p q h = absurd (clashes (codes "once ") (timing_text (t.Rate b)) x y refl h)
timing_once t.Once (t.Fixed b) x y p q h = absurd (clashes (codes "once ") (timing_text (t.Fixed b)) x y refl h)
timing_once (t.Rate a) t.Once x y p q h = absurd (clashes (timing_text (t.Rate a)) (codes "once ") x y refl h)
timing_once (t.Rate a) (t.Fixed b) x y p q h = absurd (clashes (timing_text (t.Rate a)) (timing_text (t.Fixed b)) x y refl h)
timing_once (t.Fixed a) t.Once x y p q h = absurd (clashes (timing_text (t.Fixed a)) (codes "once ") x y refl h)
timing_once (t.Fixed a) (t.Rate b) x y p q h = absurd (clashes (timing_text (t.Fixed a)) (timing_text (t.Rate b)) x y refl h)

-- none of the three words
pub no_timing : (text : List ℕ) → ((rest : List ℕ) → text ≡ codes "once " ++ rest → ⊥) → ((rest : List ℕ) → text ≡ codes "rate " ++ rest → ⊥)
    → ((rest : List ℕ) → text ≡ codes "fixed " ++ rest → ⊥) → IsUnread timing_text FitsTiming text
no_timing text once rate fixed t.Once tail f h = once tail h
no_timing text once rate fixed (t.Rate n) tail f h = rate (number_then (codes " ") n ++ tail) h
no_timing text once rate fixed (t.Fixed n) tail f h = fixed (number_then (codes " ") n ++ tail) h

-- a word is there, and no span behind it
pub no_rate : (text rest : List ℕ) → text ≡ codes "rate " ++ rest → IsUnread (number_then (codes " ")) FitsSpan rest → IsUnread timing_text FitsTiming text
no_rate text rest is never (t.Rate n) tail f h = behind_word (codes "rate ") (number_then (codes " ")) FitsSpan text rest is never n tail f h
no_rate text rest is never t.Once tail f h = absurd (clashes (codes "rate ") (codes "once ") rest tail refl (sym is ∙ h))
no_rate text rest is never (t.Fixed n) tail f h = absurd (clashes (codes "rate ") (timing_text (t.Fixed n)) rest tail refl (sym is ∙ h))

pub no_fixed : (text rest : List ℕ) → text ≡ codes "fixed " ++ rest → IsUnread (number_then (codes " ")) FitsSpan rest → IsUnread timing_text FitsTiming text
no_fixed text rest is never (t.Fixed n) tail f h = behind_word (codes "fixed ") (number_then (codes " ")) FitsSpan text rest is never n tail f h
no_fixed text rest is never t.Once tail f h = absurd (clashes (codes "fixed ") (codes "once ") rest tail refl (sym is ∙ h))
no_fixed text rest is never (t.Rate n) tail f h = absurd (clashes (codes "fixed ") (timing_text (t.Rate n)) rest tail refl (sym is ∙ h))

-- ---- standings

-- a worker's line and that of one whose run was cancelled differ behind the number
runs_apart : (n m : ℕ) (x y : List ℕ) → n < 2 ^ 8 → m < 2 ^ 8 → number_then (codes "\n") n ++ x ≡ number_then (codes " cancelled\n") m ++ y → ⊥
runs_apart n m x y p q h =
    let both = one_number n m (codes "\n" ++ x) (codes " cancelled\n" ++ y) (omega (arith, p)) (omega (arith, q)) (λ r. omega (arith, r)) (λ r. omega (arith, r))
    (sym (append_assoc (decimal n) (codes "\n") x) ∙ (h ∙ append_assoc (decimal m) (codes " cancelled\n") y)) in
    clashes (codes "\n") (codes " cancelled\n") x y refl both.1

pub worker_once : (word : List ℕ) → EndsNumber word → 0 < length word → IsOnce (number_then word) (Below (2 ^ 8))
worker_once word ends some = number_once (2 ^ 8) word (omega arith) ends some

ended_once : IsOnce (number_then (codes "\n")) (Below (2 ^ 8))
ended_once = worker_once (codes "\n") (λ r. omega (arith, r)) (omega arith)

cancelled_once : IsOnce (number_then (codes " cancelled\n")) (Below (2 ^ 8))
cancelled_once = worker_once (codes " cancelled\n") (λ r. omega (arith, r)) (omega arith)

-- without the word before the worker
past_runs : (one other x y : List ℕ) → (codes "runs " ++ one) ++ x ≡ (codes "runs " ++ other) ++ y → one ++ x ≡ other ++ y
past_runs one other x y h = append_cancel_left (codes "runs ") (one ++ x) (other ++ y) h

pub standing_once : IsOnce standing_text FitsStanding
standing_once s.Waits s.Waits x y p q h = (refl, append_cancel_left (codes "waits\n") x y h)
standing_once s.Kept s.Kept x y p q h = (refl, append_cancel_left (codes "kept\n") x y h)
standing_once (s.Runs n) (s.Runs m) x y p q h = let r = once_behind (codes "runs ") (number_then (codes "\n")) (Below (2 ^ 8)) ended_once n m x y p q h in (ap s.Runs r.0, r.1)
standing_once (s.Cancelled n) (s.Cancelled m) x y p q h =
    let r = once_behind (codes "runs ") (number_then (codes " cancelled\n")) (Below (2 ^ 8)) cancelled_once n m x y p q h in (ap s.Cancelled r.0, r.1)
standing_once (s.Runs n) (s.Cancelled m) x y p q h = absurd (runs_apart n m x y p q (past_runs (number_then (codes "\n") n) (number_then (codes " cancelled\n") m) x y h))
standing_once (s.Cancelled n) (s.Runs m) x y p q h = absurd (runs_apart m n y x q p (sym (past_runs (number_then (codes " cancelled\n") n) (number_then (codes "\n") m) x y h)))
standing_once s.Waits s.Kept x y p q h = absurd (clashes (codes "waits\n") (codes "kept\n") x y refl h)
standing_once s.Waits (s.Runs m) x y p q h = absurd (clashes (codes "waits\n") (standing_text (s.Runs m)) x y refl h)
standing_once s.Waits (s.Cancelled m) x y p q h = absurd (clashes (codes "waits\n") (standing_text (s.Cancelled m)) x y refl h)
standing_once s.Kept s.Waits x y p q h = absurd (clashes (codes "kept\n") (codes "waits\n") x y refl h)
standing_once s.Kept (s.Runs m) x y p q h = absurd (clashes (codes "kept\n") (standing_text (s.Runs m)) x y refl h)
standing_once s.Kept (s.Cancelled m) x y p q h = absurd (clashes (codes "kept\n") (standing_text (s.Cancelled m)) x y refl h)
standing_once (s.Runs n) s.Waits x y p q h = absurd (clashes (standing_text (s.Runs n)) (codes "waits\n") x y refl h)
standing_once (s.Runs n) s.Kept x y p q h = absurd (clashes (standing_text (s.Runs n)) (codes "kept\n") x y refl h)
standing_once (s.Cancelled n) s.Waits x y p q h = absurd (clashes (standing_text (s.Cancelled n)) (codes "waits\n") x y refl h)
standing_once (s.Cancelled n) s.Kept x y p q h = absurd (clashes (standing_text (s.Cancelled n)) (codes "kept\n") x y refl h)

-- none of the words
pub no_standing : (text : List ℕ) → ((rest : List ℕ) → text ≡ codes "waits\n" ++ rest → ⊥) → ((rest : List ℕ) → text ≡ codes "kept\n" ++ rest → ⊥)
    → ((rest : List ℕ) → text ≡ codes "runs " ++ rest → ⊥) → IsUnread standing_text FitsStanding text
no_standing text waits kept runs s.Waits tail f h = waits tail h
no_standing text waits kept runs s.Kept tail f h = kept tail h
no_standing text waits kept runs (s.Runs n) tail f h = runs (number_then (codes "\n") n ++ tail) h
no_standing text waits kept runs (s.Cancelled n) tail f h = runs (number_then (codes " cancelled\n") n ++ tail) h

-- the word before a worker is there, and no worker with what is to follow
pub no_worker : (text rest : List ℕ) → text ≡ codes "runs " ++ rest → IsUnread (number_then (codes "\n")) (Below (2 ^ 8)) rest → IsUnread (number_then (codes " cancelled\n")) (Below (2 ^ 8)) rest
    → IsUnread standing_text FitsStanding text
no_worker text rest is never neither s.Waits tail f h = absurd (clashes (codes "runs ") (codes "waits\n") rest tail refl (sym is ∙ h))
no_worker text rest is never neither s.Kept tail f h = absurd (clashes (codes "runs ") (codes "kept\n") rest tail refl (sym is ∙ h))
no_worker text rest is never neither (s.Runs n) tail f h = behind_word (codes "runs ") (number_then (codes "\n")) (Below (2 ^ 8)) text rest is never n tail f h
no_worker text rest is never neither (s.Cancelled n) tail f h = behind_word (codes "runs ") (number_then (codes " cancelled\n")) (Below (2 ^ 8)) text rest is neither n tail f h

-- ---- the whole line

abbrev pub told_text : Timing × Standing → List ℕ
told_text = both_text timing_text standing_text

abbrev pub ToldFit : Timing × Standing → Type 0
ToldFit = BothFit FitsTiming FitsStanding

abbrev pub from_due : (ℕ × ℕ) × (Timing × Standing) → List ℕ
from_due = both_text (two_text (codes "due ") (codes " run ") (codes " ")) told_text

abbrev pub DueFit : (ℕ × ℕ) × (Timing × Standing) → Type 0
DueFit = BothFit (FitTwo (2 ^ 64) (2 ^ 64)) ToldFit

abbrev pub from_place : (ℕ × ℕ) × ((ℕ × ℕ) × (Timing × Standing)) → List ℕ
from_place = both_text (two_text (codes "task ") (codes " slot ") (codes " ")) from_due

abbrev pub PlaceFit : (ℕ × ℕ) × ((ℕ × ℕ) × (Timing × Standing)) → Type 0
PlaceFit = BothFit (FitTwo (2 ^ 64) (2 ^ 32)) DueFit

abbrev pub parts_of : Image → (ℕ × ℕ) × ((ℕ × ℕ) × (Timing × Standing))
parts_of r = ((r.seat.number, r.slot), ((r.seat.due, r.seat.run), (r.seat.timing, standing_of r)))

fits_parts : (r : Image) → FitsImage r → PlaceFit (parts_of r)
fits_parts r f = (f.place, (f.run, (f.timing, f.standing)))

-- parts that are not there are no task
pub no_task : (text : List ℕ) → IsUnread from_place PlaceFit text → IsUnread task_text FitsImage text
no_task text never r tail f h = never (parts_of r) tail (fits_parts r f) h

pub no_place : (text : List ℕ) → IsUnread (two_text (codes "task ") (codes " slot ") (codes " ")) (FitTwo (2 ^ 64) (2 ^ 32)) text → IsUnread task_text FitsImage text
no_place text never = no_task text (no_first (two_text (codes "task ") (codes " slot ") (codes " ")) (FitTwo (2 ^ 64) (2 ^ 32)) from_due DueFit text never)

pub past_place : (text rest : List ℕ) (place : ℕ × ℕ) → IsRead (two_text (codes "task ") (codes " slot ") (codes " ")) (FitTwo (2 ^ 64) (2 ^ 32)) text place rest → IsUnread from_due DueFit rest
    → IsUnread task_text FitsImage text
past_place text rest place read never = no_task text (no_other (two_text (codes "task ") (codes " slot ") (codes " ")) (FitTwo (2 ^ 64) (2 ^ 32)) from_due DueFit text rest place place_once read never)

pub no_due : (rest : List ℕ) → IsUnread (two_text (codes "due ") (codes " run ") (codes " ")) (FitTwo (2 ^ 64) (2 ^ 64)) rest → IsUnread from_due DueFit rest
no_due rest never = no_first (two_text (codes "due ") (codes " run ") (codes " ")) (FitTwo (2 ^ 64) (2 ^ 64)) told_text ToldFit rest never

pub past_due : (rest behind : List ℕ) (run : ℕ × ℕ) → IsRead (two_text (codes "due ") (codes " run ") (codes " ")) (FitTwo (2 ^ 64) (2 ^ 64)) rest run behind → IsUnread told_text ToldFit behind
    → IsUnread from_due DueFit rest
past_due rest behind run read never = no_other (two_text (codes "due ") (codes " run ") (codes " ")) (FitTwo (2 ^ 64) (2 ^ 64)) told_text ToldFit rest behind run due_once read never

pub no_told : (rest : List ℕ) → IsUnread timing_text FitsTiming rest → IsUnread told_text ToldFit rest
no_told rest never = no_first timing_text FitsTiming standing_text FitsStanding rest never

pub past_timing : (rest behind : List ℕ) (timing : Timing) → IsRead timing_text FitsTiming rest timing behind → IsUnread standing_text FitsStanding behind → IsUnread told_text ToldFit rest
past_timing rest behind timing read never = no_other timing_text FitsTiming standing_text FitsStanding rest behind timing timing_once read never

-- a line tells how its task stands
pub standing_told : (place run : ℕ × ℕ) (timing : Timing) (standing : Standing) → standing_of (image_of place run timing standing) ≡ standing
standing_told place run timing s.Waits = refl
standing_told place run timing s.Kept = refl
standing_told place run timing (s.Runs n) = refl
standing_told place run timing (s.Cancelled n) = refl

-- all parts are there
pub task_read : (text a b c tail : List ℕ) (place run : ℕ × ℕ) (timing : Timing) (standing : Standing)
    → IsRead (two_text (codes "task ") (codes " slot ") (codes " ")) (FitTwo (2 ^ 64) (2 ^ 32)) text place a
    → IsRead (two_text (codes "due ") (codes " run ") (codes " ")) (FitTwo (2 ^ 64) (2 ^ 64)) a run b → IsRead timing_text FitsTiming b timing c → IsRead standing_text FitsStanding c standing tail
    → IsRead task_text FitsImage text (image_of place run timing standing) tail
task_read text a b c tail place run timing standing first second third last =
    let told : IsRead told_text ToldFit b (timing, standing) tail = both_read timing_text FitsTiming standing_text FitsStanding b c tail timing standing third last in
    let due : IsRead from_due DueFit a (run, (timing, standing)) tail = both_read (two_text (codes "due ") (codes " run ") (codes " ")) (FitTwo (2 ^ 64) (2 ^ 64)) told_text ToldFit a b tail run _ second told in
    let whole : IsRead from_place PlaceFit text (place, (run, (timing, standing))) tail =
    both_read (two_text (codes "task ") (codes " slot ") (codes " ")) (FitTwo (2 ^ 64) (2 ^ 32)) from_due DueFit text a tail place _ first due in
    let same = standing_told place run timing standing in (
      record {
        place = first.0;
        run = second.0;
        timing = third.0;
        standing = subst FitsStanding (sym same) last.0;
        told = ap (λ z. image_of place run timing z) (sym same);
      },
      whole.1 ∙ ap (λ z. from_place (place, (run, (timing, z))) ++ tail) (sym same),
    )

-- ---- once

place_parts_once : IsOnce from_place PlaceFit
place_parts_once =
    both_once (two_text (codes "task ") (codes " slot ") (codes " ")) (FitTwo (2 ^ 64) (2 ^ 32)) from_due DueFit place_once
    (both_once (two_text (codes "due ") (codes " run ") (codes " ")) (FitTwo (2 ^ 64) (2 ^ 64)) told_text ToldFit due_once
    (both_once timing_text FitsTiming standing_text FitsStanding timing_once standing_once))

abbrev image_with : (ℕ × ℕ) × ((ℕ × ℕ) × (Timing × Standing)) → Image
image_with v = image_of v.0 v.1.0 v.1.1.0 v.1.1.1

-- one task alone stands at the front
pub task_once : IsOnce task_text FitsImage
task_once r q s t p o h =
    let both = place_parts_once (parts_of r) (parts_of q) s t (fits_parts r p) (fits_parts q o) h in
    (p.told ∙ (ap image_with both.0 ∙ sym o.told), both.1)
