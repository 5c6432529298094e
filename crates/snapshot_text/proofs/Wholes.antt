-- Wholes: a text is that of one snapshot at most.
use Rattle.std.proofs.Common.{◌≡◌, ◌==◌, ℕ, ◌+◌, ◌-◌, ◌*◌, ◌%◌, ◌^◌, ◌<◌, true, List, [], ◌∷◌, ◌++◌, length, take, sym, ap, subst, ◌∙◌, refl, arith, append_assoc, append-nil, length-append, codes}
use Rattle.std.specs.Prelude.{flat_map}
use Rattle.std.proofs.lemmas.Bool.Decides.{nat_tests}
use Rattle.std.proofs.lemmas.List.{take-append-le, take_all}
use Rattle.std.proofs.lemmas.List.Elements.{recursion_from_All}
use Rattle.trace_text.specs.Reading.{IsRead, IsUnread, number_then}
use Rattle.trace_text.proofs.Clashes.{clashes}
use Rattle.trace_text.proofs.LineWords.{last_number_once, last_task_once}
use Rattle.trace_text.proofs.Parts.{IsOnce}
use Rattle.snapshot_text.specs.Snapshots.{SnapshotView}
use Rattle.snapshot_text.specs.Spelling.{FitTwo, FitsGiven, FitsHead, FitsImage, FitsSlot, FitsSnapshot, body_text, empty_text, end_text, given_text, head_text, snapshot_text, task_text}
use Rattle.snapshot_text.specs.Reading.{SnapshotsAreOne}
use Rattle.snapshot_text.specs.Sums.{factor, sum_from, sum_of}
use Rattle.snapshot_text.specs.own.Lists.{AreRead}
use Rattle.snapshot_text.proofs.Fields.{once_behind, two_once}
use Rattle.snapshot_text.proofs.Heads.{head_once}
use Rattle.snapshot_text.proofs.Lists.{lists_once, no_word}
use Rattle.snapshot_text.proofs.Tasks.{task_once}

-- ---- each line is read once

given_once : IsOnce given_text FitsGiven
given_once = once_behind (codes "data ") (number_then (codes "\n")) FitsGiven last_number_once

empty_once : IsOnce empty_text FitsSlot
empty_once = once_behind (codes "free ") (number_then (codes "\n")) FitsSlot last_task_once

pub end_once : IsOnce end_text (FitTwo (2 ^ 64) (2 ^ 64))
end_once = two_once (codes "end ") (codes " ") (codes "\n") (λ r. omega (arith, r)) (omega arith) (λ r. omega (arith, r)) (omega arith)

-- ---- what begins with another word

no_task_there : (given empty : List ℕ) (end : ℕ × ℕ) → IsUnread task_text FitsImage (flat_map given_text given ++ (flat_map empty_text empty ++ end_text end))
no_task_there given empty end r tail f h =
    no_word given_text FitsGiven (codes "task ") (λ n. refl) given (flat_map empty_text empty ++ end_text end)
    (no_word empty_text FitsSlot (codes "task ") (λ n. refl) empty (end_text end) (λ rest q. clashes (codes "end ") (codes "task ") _ rest refl q)) _ h

no_given_there : (empty : List ℕ) (end : ℕ × ℕ) → IsUnread given_text FitsGiven (flat_map empty_text empty ++ end_text end)
no_given_there empty end n tail f h = no_word empty_text FitsSlot (codes "data ") (λ k. refl) empty (end_text end) (λ rest q. clashes (codes "end ") (codes "data ") _ rest refl q) _ h

no_slot_there : (end : ℕ × ℕ) → IsUnread empty_text FitsSlot (end_text end)
no_slot_there end n tail f h = clashes (codes "end ") (codes "free ") _ _ refl h

-- ---- the whole

-- the parts of a body, one behind the other, and a rest
body_parts : (s : SnapshotView) (last : List ℕ)
    → body_text s ++ last ≡ head_text s.head ++ (flat_map task_text s.tasks ++ (flat_map given_text s.given ++ (flat_map empty_text s.empty ++ last)))
body_parts s last =
    append_assoc (head_text s.head) (flat_map task_text s.tasks ++ (flat_map given_text s.given ++ flat_map empty_text s.empty)) last
    ∙ ap (λ l. head_text s.head ++ l)
    (append_assoc (flat_map task_text s.tasks) (flat_map given_text s.given ++ flat_map empty_text s.empty) last
    ∙ ap (λ l. flat_map task_text s.tasks ++ l) (append_assoc (flat_map given_text s.given) (flat_map empty_text s.empty) last))

-- what follows the head of a snapshot
pub behind_head : (s : SnapshotView) → (rest : List ℕ) × (snapshot_text s ≡ head_text s.head ++ rest)
behind_head s = (_, body_parts s (end_text (length s.tasks, sum_of (body_text s))))

-- what was read of a text, part by part
pub record ReadsBody (text : List ℕ) (s : SnapshotView) (last : List ℕ) : Type 0 where
  pub from_head : List ℕ
  pub from_tasks : List ℕ
  pub from_given : List ℕ
  pub head : IsRead head_text FitsHead text s.head from_head
  pub tasks : AreRead task_text FitsImage from_head s.tasks from_tasks
  pub given : AreRead given_text FitsGiven from_tasks s.given from_given
  pub empty : AreRead empty_text FitsSlot from_given s.empty last

-- then the body is at the front
pub body_read : (text last : List ℕ) (s : SnapshotView) → ReadsBody text s last → text ≡ body_text s ++ last
body_read text last s reads =
    reads.head.1
    ∙ (ap (λ l. head_text s.head ++ l)
    (reads.tasks.spelled
    ∙ ap (λ l. flat_map task_text s.tasks ++ l) (reads.given.spelled ∙ ap (λ l. flat_map given_text s.given ++ l) reads.empty.spelled))
    ∙ sym (body_parts s last))

-- and of the text of a snapshot that one was read, and the last line is left
pub one_body : (text last : List ℕ) (s : SnapshotView) → ReadsBody text s last → (other : SnapshotView) → FitsSnapshot other → text ≡ snapshot_text other
    → (s ≡ other) × (last ≡ end_text (length other.tasks, sum_of (body_text other)))
one_body text last s reads other fits is =
    let end : ℕ × ℕ = (length other.tasks, sum_of (body_text other)) in
    let heads = head_once s.head other.head reads.from_head (flat_map task_text other.tasks ++ (flat_map given_text other.given ++ (flat_map empty_text other.empty ++ end_text end)))
    reads.head.0 fits.head (sym reads.head.1 ∙ (is ∙ body_parts other (end_text end))) in
    let tasks = lists_once task_text FitsImage task_once s.tasks other.tasks reads.from_tasks (flat_map given_text other.given ++ (flat_map empty_text other.empty ++ end_text end))
    (recursion_from_All FitsImage s.tasks reads.tasks.fit) (recursion_from_All FitsImage other.tasks fits.tasks) reads.tasks.none (no_task_there other.given other.empty end)
    (sym reads.tasks.spelled ∙ heads.1) in
    let givens = lists_once given_text FitsGiven given_once s.given other.given reads.from_given (flat_map empty_text other.empty ++ end_text end)
    (recursion_from_All FitsGiven s.given reads.given.fit) (recursion_from_All FitsGiven other.given fits.given) reads.given.none (no_given_there other.empty end)
    (sym reads.given.spelled ∙ tasks.1) in
    let empties = lists_once empty_text FitsSlot empty_once s.empty other.empty last (end_text end)
    (recursion_from_All FitsSlot s.empty reads.empty.fit) (recursion_from_All FitsSlot other.empty fits.empty) reads.empty.none (no_slot_there end)
    (sym reads.empty.spelled ∙ givens.1) in
    (λ i. record { head = heads.0 i; tasks = tasks.0 i; given = givens.0 i; empty = empties.0 i }, empties.1)

-- ---- the last line

-- a sum is below 2^64
sum_small : (so_far : ℕ) (bytes : List ℕ) → so_far < 2 ^ 64 → sum_from so_far bytes < 2 ^ 64
sum_small so_far [] low = low
sum_small so_far (b ∷ bytes) low = sum_small ((so_far * factor % 2 ^ 64 + b) % 2 ^ 64) bytes (omega arith)

fits_end : (s : SnapshotView) → FitsSnapshot s → FitTwo (2 ^ 64) (2 ^ 64) (length s.tasks, sum_of (body_text s))
fits_end s fits = (fits.few, sum_small 1 (body_text s) (omega arith))

-- no last line is there
pub no_end : (text last : List ℕ) (s : SnapshotView) → ReadsBody text s last → IsUnread end_text (FitTwo (2 ^ 64) (2 ^ 64)) last
    → (other : SnapshotView) → FitsSnapshot other → text ≡ snapshot_text other → ⊥
no_end text last s reads never other fits is =
    never (length other.tasks, sum_of (body_text other)) [] (fits_end other fits) ((one_body text last s reads other fits is).1 ∙ sym (append-nil (end_text (length other.tasks, sum_of (body_text other)))))

-- one is there: then it is that of the snapshot, and nothing follows
pub one_end : (text last behind : List ℕ) (s : SnapshotView) (end : ℕ × ℕ) → ReadsBody text s last → IsRead end_text (FitTwo (2 ^ 64) (2 ^ 64)) last end behind
    → (other : SnapshotView) → FitsSnapshot other → text ≡ snapshot_text other → (end ≡ (length s.tasks, sum_of (body_text s))) × (behind ≡ [])
one_end text last behind s end reads read other fits is =
    let body = one_body text last s reads other fits is in
    let ends = end_once end (length other.tasks, sum_of (body_text other)) behind [] read.0 (fits_end other fits)
    (sym read.1 ∙ (body.1 ∙ sym (append-nil (end_text (length other.tasks, sum_of (body_text other)))))) in
    (ends.0 ∙ ap (λ (x : SnapshotView). (length x.tasks, sum_of (body_text x))) (sym body.0), ends.1)

-- the bytes before the last line are the body
pub body_taken : (text last : List ℕ) (s : SnapshotView) → ReadsBody text s last → take (length text - length last) text ≡ body_text s
body_taken text last s reads =
    let is = body_read text last s reads in
    let many : length text - length last ≡ length (body_text s) = omega (arith, ap length is, length-append (body_text s) last) in
    ap (λ n. take n text) many ∙ (ap (take (length (body_text s))) is ∙ (take-append-le (length (body_text s)) (body_text s) last (omega arith) ∙ take_all (length (body_text s)) (body_text s) (omega arith)))

-- where nothing is left
pub none_left : (rest : List ℕ) → (length rest == 0) ≡ true → rest ≡ []
none_left [] is = refl
none_left (b ∷ rest) is = let zero : length (b ∷ rest) ≡ 0 = grind (arith, nat_tests, is) in absurd (omega (arith, zero))

-- all is there
pub snapshot_read : (text last : List ℕ) (s : SnapshotView) (end : ℕ × ℕ) → ReadsBody text s last → IsRead end_text (FitTwo (2 ^ 64) (2 ^ 64)) last end [] → end ≡ (length s.tasks, sum_of (body_text s))
    → (text ≡ snapshot_text s) × FitsSnapshot s
snapshot_read text last s end reads read is = (
  body_read text last s reads ∙ ap (λ l. body_text s ++ l) (read.1 ∙ (append-nil (end_text end) ∙ ap end_text is)),
  record {
    head = reads.head.0;
    tasks = reads.tasks.fit;
    given = reads.given.fit;
    empty = reads.empty.fit;
    few = subst (λ n. n < 2 ^ 64) (ap (λ (x : ℕ × ℕ). x.0) is) read.0.0;
  },
)

-- ---- once

-- the text of a snapshot is read as that one
reads_own : (s : SnapshotView) → FitsSnapshot s → ReadsBody (snapshot_text s) s (end_text (length s.tasks, sum_of (body_text s)))
reads_own s fits = record {
  from_head = flat_map task_text s.tasks ++ (flat_map given_text s.given ++ (flat_map empty_text s.empty ++ end_text (length s.tasks, sum_of (body_text s))));
  from_tasks = flat_map given_text s.given ++ (flat_map empty_text s.empty ++ end_text (length s.tasks, sum_of (body_text s)));
  from_given = flat_map empty_text s.empty ++ end_text (length s.tasks, sum_of (body_text s));
  head = (fits.head, body_parts s (end_text (length s.tasks, sum_of (body_text s))));
  tasks = record { fit = fits.tasks; spelled = refl; none = no_task_there s.given s.empty (length s.tasks, sum_of (body_text s)) };
  given = record { fit = fits.given; spelled = refl; none = no_given_there s.empty (length s.tasks, sum_of (body_text s)) };
  empty = record { fit = fits.empty; spelled = refl; none = no_slot_there (length s.tasks, sum_of (body_text s)) };
}

-- one text is that of one snapshot alone
pub one_snapshot : SnapshotsAreOne
one_snapshot a b p q is = (one_body (snapshot_text a) (end_text (length a.tasks, sum_of (body_text a))) a (reads_own a p) b q is).0
