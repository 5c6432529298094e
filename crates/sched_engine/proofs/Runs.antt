-- Runs: what was taken from a source and what is held, over any lists of bytes.
use Rattle.std.proofs.Common.{◌≡◌, ℕ, ◌+◌, List, ◌++◌, take, drop, length, Option, Some, None, IfSome, ap, ◌∙◌, sym, subst, append_assoc, append-nil}
use Rattle.std.specs.Io.KnownBytes.{Consumes, Appends, IsAtEnd, prepend_known}
use Rattle.std.proofs.KnownBytes.{Appends-trans}
use Rattle.std.proofs.Math.Seq.{take-append-add}
use Rattle.std.proofs.lemmas.List.{take-append-drop}

-- at the end the input is what was done, and then what is held
pub at_end : (a b : Option (List ℕ)) (held done : List ℕ) (P : List ℕ → Type 0) → Consumes a (prepend_known held b) done → IsAtEnd b → P held
    → IfSome a (λ xs. (rest : List ℕ) × (xs ≡ done ++ rest) × P rest)
at_end None b held done P p e h = tt
at_end (Some xs) None held done P p e h = absurd p
at_end (Some xs) (Some ys) held done P p e h = (held, p ∙ ap (λ l. done ++ (held ++ l)) e ∙ ap (λ l. done ++ l) (append-nil held), h)

-- before the end the input is what was done, then what is held, and then more
pub so_far : (a b : Option (List ℕ)) (held done : List ℕ) (P : List ℕ → Type 0) → Consumes a (prepend_known held b) done → ((more : List ℕ) → P (held ++ more))
    → IfSome a (λ xs. (rest : List ℕ) × (xs ≡ done ++ rest) × P rest)
so_far None b held done P p h = tt
so_far (Some xs) None held done P p h = absurd p
so_far (Some xs) (Some ys) held done P p h = (held ++ ys, p, h ys)

-- what was read is what was done, and what is held
pub read_so_far : (a b : Option (List ℕ)) (held done : List ℕ) → Consumes a (prepend_known held b) done → Consumes a b (done ++ held)
read_so_far None b held done p = tt
read_so_far (Some xs) None held done p = absurd p
read_so_far (Some xs) (Some ys) held done p = p ∙ sym (append_assoc done held ys)

-- bytes came in behind those held
pub came : (a b c : Option (List ℕ)) (held bytes whole done : List ℕ) → Consumes a (prepend_known held b) done → Consumes b c bytes → whole ≡ held ++ bytes → Consumes a (prepend_known whole c) done
came None b c held bytes whole done p q e = tt
came (Some xs) None c held bytes whole done p q e = absurd p
came (Some xs) (Some ys) None held bytes whole done p q e = absurd q
came (Some xs) (Some ys) (Some zs) held bytes whole done p q e =
    p ∙ ap (λ l. done ++ (held ++ l)) q ∙ ap (λ l. done ++ l) (sym (append_assoc held bytes zs) ∙ ap (λ l. l ++ zs) (sym e))

-- the first n of the bytes that are held were done
pub took : (a b : Option (List ℕ)) (held done fresh : List ℕ) (n : ℕ) → Consumes a (prepend_known held b) done → take n held ≡ fresh → Consumes a (prepend_known (drop n held) b) (done ++ fresh)
took None b held done fresh n p front = tt
took (Some xs) None held done fresh n p front = absurd p
took (Some xs) (Some ys) held done fresh n p front =
    p ∙ ap (λ l. done ++ (l ++ ys)) (sym (take-append-drop n held) ∙ ap (λ l. l ++ drop n held) front) ∙ ap (λ l. done ++ l) (append_assoc fresh (drop n held) ys)
    ∙ sym (append_assoc done fresh (drop n held ++ ys))

-- a text was written behind another
pub gave : (a b c : Option (List ℕ)) (text more : List ℕ) → Appends a b text → Appends b c more → Appends a c (text ++ more)
gave a b c text more p q = Appends-trans a b c text more p q

-- a front of a text was written behind another
pub gave_front : (a b c : Option (List ℕ)) (text more : List ℕ) (n : ℕ) → Appends a b text → Appends b c (take n more) → Appends a c (take (length text + n) (text ++ more))
gave_front a b c text more n p q = subst (Appends a c) (sym (take-append-add text more n)) (Appends-trans a b c text (take n more) p q)
