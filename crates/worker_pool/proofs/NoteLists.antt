-- Lists of notes.
use Rattle.std.proofs.Common.{◌≡◌, ℕ, zero, suc, ◌<◌, List, [], ◌∷◌, ◌++◌, length, Option, Some, None, refl, sym, ap, arith}
use Rattle.std.proofs.lemmas.Bool.{false≢true}
use Rattle.std.specs.Prelude.{slice_index_or, slice_set, replicate, IsSome, IfSome}
use Rattle.once_cell.specs.declared.race.note.Note.{Note}
use Rattle.result_cell.specs.declared.verdict.Verdict.{Verdict}
use Rattle.result_cell.specs.Cells.{StaysKnown, known_at}

-- what is known at the place of a note
pub known_read : (notes : List (Note Verdict)) (k : ℕ) (d : Note Verdict) → k < length notes → known_at notes k ≡ (slice_index_or notes k d).known
known_read [] k d low = absurd (omega (arith, low))
known_read (n ∷ notes) zero d low = refl
known_read (n ∷ notes) (suc k) d low = known_read notes k d (omega (arith, low))

-- where each note knows nothing, and so does one more
pub nothing_more : (notes : List (Note Verdict)) (n : Note Verdict) → n.known ≡ None → ((k : ℕ) → known_at notes k ≡ None) → (k : ℕ) → known_at (notes ++ n ∷ []) k ≡ None
nothing_more [] n none never zero = none
nothing_more [] n none never (suc k) = refl
nothing_more (m ∷ notes) n none never zero = never zero
nothing_more (m ∷ notes) n none never (suc k) = nothing_more notes n none (λ j. never (suc j)) k

-- no place of these has one
abbrev no_note : Option (Note Verdict)
no_note = None

pub none_at : (n k : ℕ) → slice_index_or (replicate n no_note) k no_note ≡ no_note
none_at zero k = refl
none_at (suc n) zero = refl
none_at (suc n) (suc k) = none_at n k

-- within a list no default is read
pub any_default : {X : Type 0} (xs : List X) (k : ℕ) (d e : X) → k < length xs → slice_index_or xs k d ≡ slice_index_or xs k e
any_default [] k d e low = absurd (omega (arith, low))
any_default (x ∷ xs) zero d e low = refl
any_default (x ∷ xs) (suc k) d e low = any_default xs k d e (omega (arith, low))

-- what was taken out is put back
pub put_back : {X : Type 0} (xs : List X) (k : ℕ) (a b d : X) → k < length xs → slice_index_or xs k d ≡ b → slice_set (slice_set xs k a) k b ≡ xs
put_back [] k a b d low q = absurd (omega (arith, low))
put_back (x ∷ xs) zero a b d low q = λ i. sym q i ∷ xs
put_back (x ∷ xs) (suc k) a b d low q = ap (λ ys. x ∷ ys) (put_back xs k a b d (omega (arith, low)) q)

-- a note that knows a verdict stays as it is
stays_same : (a b : Option Verdict) → IsSome a → StaysKnown a b → b ≡ a
stays_same None b some stays = absurd (false≢true some)
stays_same (Some v) b some stays = stays

pub note_still : (before after : Note Verdict) → after.cell ≡ before.cell → IsSome before.known → StaysKnown before.known after.known → after ≡ before
note_still before after cell some stays = λ i. record { marker = before.marker; cell = cell i; known = stays_same before.known after.known some stays i }

-- what is so of an answer that is there
pub if_some : (o : Option Verdict) (P Q : Verdict → Type 0) → ((v : Verdict) → P v → Q v) → IfSome o P → IfSome o Q
if_some None P Q more q = tt
if_some (Some v) P Q more q = more v q
