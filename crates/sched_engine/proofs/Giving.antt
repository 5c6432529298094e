-- Giving: texts that were given out one behind the other, and fronts of them.
use Rattle.std.proofs.Common.{◌≡◌, ℕ, ◌+◌, ◌<◌, ◌≤◌, List, [], ◌∷◌, ◌++◌, take, drop, length, Option, Some, None, ap, ◌∙◌, sym, subst, append_assoc, append-nil}
use Rattle.std.specs.Io.KnownBytes.{Appends}
use Rattle.std.specs.Prelude.{slice_index_or}
use Rattle.std.proofs.lemmas.List.{take-append-drop, take-append-le, take_more}
use Rattle.std.proofs.lemmas.List.Concat.{flat_map-append, flat_map-cons}
use Rattle.executor_model.specs.declared.Line.{Line}
use Rattle.trace_text.specs.Spelling.{line_text, lines_text}
use Rattle.sched_engine.specs.Pieces.{Gives, Output}
use Rattle.sched_engine.proofs.Runs.{gave, gave_front}

-- nothing was written
pub wrote_none : (o : Option (List ℕ)) → Appends o o []
wrote_none None = tt
wrote_none (Some xs) = sym (append-nil xs)

-- nothing was given out yet
pub gives_none : (o : Output) → Gives o o []
gives_none o = ([], wrote_none o.contents, append-nil o.text)

-- a text was put behind the text at hand
pub gives_put : (a b : Output) (more next text : List ℕ) → Gives a b more → text ≡ b.text ++ next → Gives a (record { contents = b.contents; text = text }) (more ++ next)
gives_put a b more next text given is =
    (given.0, given.1, sym (append_assoc a.text more next) ∙ (ap (λ l. l ++ next) given.2 ∙ (append_assoc given.0 b.text next ∙ ap (λ l. given.0 ++ l) (sym is))))

-- two texts, one behind the other
pub gives_both : (a b c : Output) (more next : List ℕ) → Gives a b more → Gives b c next → Gives a c (more ++ next)
gives_both a b c more next first second = (
  first.0 ++ second.0,
  gave a.contents b.contents c.contents first.0 second.0 first.1 second.1,
  sym (append_assoc a.text more next) ∙ (ap (λ l. l ++ next) first.2 ∙ (append_assoc first.0 b.text next ∙ (ap (λ l. first.0 ++ l) second.2 ∙ sym (append_assoc first.0 second.0 c.text)))),
)

-- a front of the text at hand was written, which is a front of all that comes behind it too
pub gives_front : (a b : Output) (contents : Option (List ℕ)) (more rest all : List ℕ) (n : ℕ) → Gives a b more → n ≤ length b.text → Appends b.contents contents (take n b.text) → all ≡ more ++ rest
    → (k : ℕ) × Appends a.contents contents (take k (a.text ++ all))
gives_front a b contents more rest all n given within appends is =
    let whole : a.text ++ all ≡ given.0 ++ (b.text ++ rest) =
    ap (λ l. a.text ++ l) is ∙ (sym (append_assoc a.text more rest) ∙ (ap (λ l. l ++ rest) given.2 ∙ append_assoc given.0 b.text rest)) in
    let front : Appends b.contents contents (take n (b.text ++ rest)) = subst (Appends b.contents contents) (sym (take-append-le n b.text rest within)) appends in
    (length given.0 + n, subst (λ (l : List ℕ). Appends a.contents contents (take (length given.0 + n) l)) (sym whole) (gave_front a.contents b.contents contents given.0 (b.text ++ rest) n given.1 front))

-- the text of some lines, and then of more
pub lines_text-append : (xs ys : List Line) → lines_text (xs ++ ys) ≡ lines_text xs ++ lines_text ys
lines_text-append xs ys = flat_map-append line_text xs ys

-- the text of one line more
pub lines_on : (lines : List Line) (i : ℕ) (d : Line) → i < length lines → lines_text (take (i + 1) lines) ≡ lines_text (take i lines) ++ line_text (slice_index_or lines i d)
lines_on lines i d low =
    let line = slice_index_or lines i d in
    ap lines_text (take_more lines i d low) ∙ (flat_map-append line_text (take i lines) (line ∷ []) ∙ ap (λ l. lines_text (take i lines) ++ l) (flat_map-cons line_text line [] ∙ append-nil (line_text line)))

-- one line more was put, where room was made for it
pub gives_line : (old here roomy : Output) (text : List ℕ) (lines : List Line) (i : ℕ) (d : Line) → i < length lines → Gives old here (lines_text (take i lines)) → Gives here roomy []
    → text ≡ roomy.text ++ line_text (slice_index_or lines i d) → Gives old (record { contents = roomy.contents; text = text }) (lines_text (take (i + 1) lines))
gives_line old here roomy text lines i d low given made is =
    let so_far = lines_text (take i lines) in
    let all : Gives old roomy so_far = subst (Gives old roomy) (append-nil so_far) (gives_both old here roomy so_far [] given made) in
    subst (Gives old (record { contents = roomy.contents; text = text })) (sym (lines_on lines i d low)) (gives_put old roomy so_far (line_text (slice_index_or lines i d)) text all is)

-- the text of some lines is that of the first of them, and then of the others
pub lines_split : (lines : List Line) (i : ℕ) → lines_text lines ≡ lines_text (take i lines) ++ lines_text (drop i lines)
lines_split lines i = ap lines_text (sym (take-append-drop i lines)) ∙ lines_text-append (take i lines) (drop i lines)
