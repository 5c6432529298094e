-- Reading: what is read at a place, and what that says of the file.
use Rattle.std.proofs.Common.{◌≡◌, ℕ, ◌+◌, ◌*◌, ◌%◌, ◌<◌, ◌≤◌, List, [], ◌∷◌, ◌++◌, length, take, min, refl, ap, sym, ◌∙◌, subst, arith, length-append, append_assoc}
use Rattle.std.specs.Prelude.{slice_index, ◌==◌}
use Rattle.std.specs.List.{AllByRecursion, count_by}
use Rattle.std.proofs.lemmas.List.Sums.{count_by-le-length}
use Rattle.std.proofs.lemmas.List.{length-take-le}
use Rattle.sqlite_disk.specs.Disk.{Holds}
use Rattle.sqlite_disk.specs.Digest.{digest}
use Rattle.line_journal.specs.Groups.{sevens, frame, frames, lines_of, length_told, IsGroup, Ends}
use Rattle.line_journal.specs.Finding.{HasSome, HasAll, FoundWithin, IsFoundIn, IsEnded, IsJudged}
use Rattle.line_journal.specs.declared.zone.Found.{Found}
use Rattle.line_journal.specs.declared.zone.Found.TheVariants.{Group, End, Broken}
use Rattle.line_journal.proofs.Frames.{length-frame}
use Rattle.line_journal.proofs.Tearing.{holds_both, frames_last, length-frames_last, ends_in_head}

-- no group stands where its head tells as many bytes as stand there, and one of them is a zero
pub ends_with_body : (file : List ℕ) (at : ℕ) (head body : List ℕ) → Holds file at head → length head ≡ 13 → Holds file (at + 13) body → length body ≤ 65536
    → length body ≡ slice_index head 0 % 128 + slice_index head 1 % 128 * 128 + slice_index head 2 % 128 * 16384
    → (i : ℕ) → i < length body → slice_index body i ≡ 0 → Ends file at
ends_with_body file at head body front thirteen behind few tells i low lost =
    let here : at ≡ at + 0 = omega arith in
    let first : slice_index file at ≡ slice_index head 0 = ap (λ (k : ℕ). slice_index file k) here ∙ front.each 0 (omega (arith, thirteen)) in
    let second : slice_index file (at + 1) ≡ slice_index head 1 = front.each 1 (omega (arith, thirteen)) in
    let third : slice_index file (at + 2) ≡ slice_index head 2 = front.each 2 (omega (arith, thirteen)) in
    let place : at + (13 + i) ≡ at + 13 + i = omega arith in
    let one : 13 + i < 13 + length_told (slice_index head 0) (slice_index head 1) (slice_index head 2) = subst (λ (n : ℕ). 13 + i < 13 + n) tells (omega (arith, low)) in
    let two : 13 + i < 13 + length_told (slice_index file at) (slice_index head 1) (slice_index head 2) = subst (λ (n : ℕ). 13 + i < 13 + length_told n (slice_index head 1) (slice_index head 2)) (sym first) one in
    let three : 13 + i < 13 + length_told (slice_index file at) (slice_index file (at + 1)) (slice_index head 2) = subst (λ (n : ℕ). 13 + i < 13 + length_told (slice_index file at) n (slice_index head 2)) (sym second) two in
    record {
      place = 13 + i;
      near = omega (arith, low, few);
      covered = subst (λ (n : ℕ). 13 + i < 13 + length_told (slice_index file at) (slice_index file (at + 1)) n) (sym third) three;
      within = omega (arith, behind.within, low);
      lost = ap (λ (k : ℕ). slice_index file k) place ∙ (behind.each i low ∙ lost);
    }

-- a group stands where its head and its bytes do
pub stands_whole : (file : List ℕ) (at : ℕ) (head body : List ℕ) → Holds file at head → length head ≡ 13 → Holds file (at + 13) body
    → head ≡ sevens 3 (length body) ++ sevens 10 (digest 0 body) → Holds file at (frame body)
stands_whole file at head body front thirteen behind is =
    let next : Holds file (at + length head) body = subst (λ (n : ℕ). Holds file (at + n) body) (sym thirteen) behind in
    let whole : head ++ body ≡ frame body = ap (λ (t : List ℕ). t ++ body) is ∙ append_assoc (sevens 3 (length body)) (sevens 10 (digest 0 body)) body in
    subst (λ (t : List ℕ). Holds file at t) whole (holds_both file at head body front next)

pub all_last : (groups : List (List ℕ)) (g : List ℕ) → AllByRecursion IsGroup groups → IsGroup g → AllByRecursion IsGroup (groups ++ g ∷ [])
all_last [] g all is = (is, tt)
all_last (h ∷ groups) g all is = (all.0, all_last groups g all.1 is)

pub some_at_start : (file : List ℕ) (start : ℕ) → start ≤ length file → HasSome file start start 0
some_at_start file start low = ([], tt, record { within = omega (arith, low); each = λ i less. absurd (omega (arith, less)) }, omega arith, refl)

lines_last : (groups : List (List ℕ)) (g : List ℕ) → lines_of (groups ++ g ∷ []) ≡ lines_of groups + count_by (λ byte. byte == 10) g
lines_last [] g = omega arith
lines_last (h ∷ groups) g = omega (arith, lines_last groups g)

pub lines_both : (some more : List (List ℕ)) → lines_of (some ++ more) ≡ lines_of some + lines_of more
lines_both [] more = omega arith
lines_both (g ∷ some) more = omega (arith, lines_both some more)

-- there are no more lines than bytes
pub lines_few : (groups : List (List ℕ)) → lines_of groups ≤ length (frames groups)
lines_few [] = omega arith
lines_few (g ∷ groups) = omega (arith, lines_few groups, count_by-le-length (λ byte. byte == 10) g, length-append (frame g) (frames groups), length-frame g)

pub lines_more : (groups : List (List ℕ)) (g : List ℕ) (end most : ℕ) → length (frames groups) + (13 + length g) ≤ end → end ≤ most → min (lines_of groups + count_by (λ byte. byte == 10) g) most ≡ lines_of (groups ++ g ∷ [])
lines_more groups g end most room fits =
    let few : count_by (λ byte. byte == 10) g ≤ length g = count_by-le-length (λ byte. byte == 10) g in
    omega (arith, lines_last groups g, lines_few groups, few, room, fits)

-- one group more
pub some_more : (file : List ℕ) (start end lines most : ℕ) (g : List ℕ) → HasSome file start end lines → IsGroup g → Holds file end (frame g) → end + (13 + length g) ≤ most
    → HasSome file start (end + (13 + length g)) (min (lines + count_by (λ byte. byte == 10) g) most)
some_more file start end lines most g has is held fits =
    let next : Holds file (start + length (frames has.0)) (frame g) = subst (λ (e : ℕ). Holds file e (frame g)) has.3 held in (
      has.0 ++ g ∷ [],
      all_last has.0 g has.1 is,
      subst (λ (t : List ℕ). Holds file start t) (sym (frames_last has.0 g)) (holds_both file start (frames has.0) (frame g) has.2 next),
      omega (arith, has.3, length-frames_last has.0 g),
      ap (λ (n : ℕ). min (n + count_by (λ byte. byte == 10) g) most) has.4 ∙ lines_more has.0 g (end + (13 + length g)) most (omega (arith, has.3)) fits,
    )

-- and then none
pub all_of_some : (file : List ℕ) (start end lines : ℕ) → HasSome file start end lines → Ends file end → HasAll file start end lines
all_of_some file start end lines has none =
    (has.0, has.1, record { front = has.2; last = subst (λ (e : ℕ). Ends file e) has.3 none }, has.3, has.4)

-- what the end of a file says
pub found_at_end : (file : List ℕ) (at : ℕ) (part : List ℕ) (found : Found) → Holds file at part → length part < 13 → IsEnded part found → (buffer : List ℕ) → IsFoundIn file at buffer found
found_at_end file at part (Group n) held few is buffer = absurd is
found_at_end file at part End held few is buffer = ends_in_head file at is.0 (omega (arith, is.1, few)) (omega (arith, is.1, held.within)) (held.each is.0 is.1 ∙ is.2)
found_at_end file at part Broken held few is buffer = tt

pub within_at_end : (at : ℕ) (part : List ℕ) (found : Found) → IsEnded part found → (len room : ℕ) → FoundWithin at len room found
within_at_end at part (Group n) is len room = absurd is
within_at_end at part End is len room = tt
within_at_end at part Broken is len room = tt

-- what a head and its bytes say
pub found_judged : (file : List ℕ) (at : ℕ) (head body buffer : List ℕ) (found : Found) → Holds file at head → length head ≡ 13 → Holds file (at + 13) body → length body ≤ 65536
    → length body ≡ slice_index head 0 % 128 + slice_index head 1 % 128 * 128 + slice_index head 2 % 128 * 16384
    → take (length body) buffer ≡ body → IsJudged head body found → IsFoundIn file at buffer found
found_judged file at head body buffer (Group n) front thirteen behind few tells taken is =
    let same : take n buffer ≡ body = ap (λ (k : ℕ). take k buffer) is.0 ∙ taken in
    (subst IsGroup (sym same) is.1, subst (λ (t : List ℕ). Holds file at (frame t)) (sym same) (stands_whole file at head body front thirteen behind is.2))
found_judged file at head body buffer End front thirteen behind few tells taken is = ends_with_body file at head body front thirteen behind few tells is.0 is.1 is.2
found_judged file at head body buffer Broken front thirteen behind few tells taken is = tt

pub within_judged : (at len room : ℕ) (head body : List ℕ) (found : Found) → at + 13 + length body ≤ len → length body ≤ room → IsJudged head body found → FoundWithin at len room found
within_judged at len room head body (Group n) fits low is = (omega (arith, fits, is.0), omega (arith, low, is.0), omega (arith, is.1.some, is.0))
within_judged at len room head body End fits low is = tt
within_judged at len room head body Broken fits low is = tt

-- a group that was found is one more
pub some_found : (file : List ℕ) (start end lines most n : ℕ) (buffer : List ℕ) → n ≤ length buffer → HasSome file start end lines → IsFoundIn file end buffer (Group n) → end + (13 + n) ≤ most
    → HasSome file start (end + (13 + n)) (min (lines + count_by (λ byte. byte == 10) (take n buffer)) most)
some_found file start end lines most n buffer low has is fits =
    let long = length-take-le n buffer low in
    subst (λ (k : ℕ). HasSome file start (end + (13 + k)) (min (lines + count_by (λ byte. byte == 10) (take n buffer)) most)) long (some_more file start end lines most (take n buffer) has is.0 is.1 (omega (arith, long, fits)))
