-- Piles and stacks, by how many they hold; and texts that were appended.
use Rattle.std.proofs.Common.{◌≡◌, ℕ, ◌+◌, ◌-◌, ◌<◌, ◌≤◌, List, [], ◌∷◌, ◌++◌, Result, Ok, Err, length, take, drop, get_or, refl, sym, ap, ◌∙◌, append_assoc, append-nil, arith}
use Rattle.std.specs.Prelude.{OnOk, flat_map}
use Rattle.std.proofs.lemmas.List.{drop_more, drop_all}
use Rattle.executor_model.specs.declared.types.Line.{Line}
use Rattle.trace_text.specs.Spelling.{line_text}
use Rattle.trace_draw.specs.declared.bars.Bar.{Bar}
use Rattle.trace_draw.specs.declared.window.Window.{Window}
use Rattle.trace_svg.specs.Runs.{bar_text, line_mark, telling_mark}
use Rattle.trace_svg.specs.Piles.{pile_label, pile_shape, pile_text}
use Rattle.trace_svg.specs.Stacks.{stack_label, stack_text}

-- a second text was appended behind a first one
pub two : {A E : Type 0} (result : Result A E) (old between new first second : List ℕ) → between ≡ old ++ first → OnOk result (new ≡ between ++ second) → OnOk result (new ≡ old ++ (first ++ second))
two (Ok x) old between new first second put then = then ∙ (ap (λ t. t ++ second) put ∙ append_assoc old first second)
two (Err e) old between new first second put then = then

-- ---- piles

pub no_pile : (window : Window) (names : List (List ℕ)) (pile : List Bar) (text : List ℕ) → length pile < 1 → text ≡ text ++ pile_text window names pile
unfolding pile_text
no_pile window names [] text none = sym (append-nil text)
no_pile window names (bar ∷ more) text none = absurd (omega arith)

pub lone_bar : (window : Window) (names : List (List ℕ)) (pile : List Bar) (d : Bar) → 1 ≤ length pile → length pile < 2 → bar_text window names (get_or pile 0 d) ≡ pile_text window names pile
unfolding pile_text
lone_bar window names [] d some one = absurd (omega arith)
lone_bar window names (bar ∷ []) d some one = refl
lone_bar window names (first ∷ next ∷ more) d some one = absurd (omega arith)

pub several_bars : (window : Window) (names : List (List ℕ)) (pile : List Bar) → 2 ≤ length pile → pile_shape window names pile ++ pile_label window pile ≡ pile_text window names pile
unfolding pile_text
several_bars window names [] some = absurd (omega arith)
several_bars window names (bar ∷ []) some = absurd (omega arith)
several_bars window names (first ∷ next ∷ more) some = refl

-- ---- stacks

pub no_stack : (window : Window) (stack : List Line) (text : List ℕ) → length stack < 1 → text ≡ text ++ stack_text window stack
unfolding stack_text
no_stack window [] text none = sym (append-nil text)
no_stack window (line ∷ more) text none = absurd (omega arith)

pub lone_mark : (window : Window) (stack : List Line) (d : Line) → 1 ≤ length stack → length stack < 2 → line_mark window (get_or stack 0 d) ≡ stack_text window stack
unfolding stack_text
lone_mark window [] d some one = absurd (omega arith)
lone_mark window (line ∷ []) d some one = refl
lone_mark window (first ∷ next ∷ more) d some one = absurd (omega arith)

-- the last of some lines, alone
last_of : (stack : List Line) (d : Line) → 1 ≤ length stack → drop (length stack - 1) stack ≡ get_or stack (length stack - 1) d ∷ []
last_of stack d some = drop_more stack (length stack - 1) d (omega arith) ∙ ap (λ rest. get_or stack (length stack - 1) d ∷ rest) (drop_all (length stack - 1 + 1) stack (omega arith))

pub several_marks : (window : Window) (stack : List Line) (d : Line) → 2 ≤ length stack
    → flat_map (line_mark window) (take (length stack - 1) stack) ++ (telling_mark window (flat_map line_text stack) (get_or stack (length stack - 1) d) ++ stack_label window stack) ≡ stack_text window stack
unfolding stack_text
several_marks window [] d some = absurd (omega arith)
several_marks window (line ∷ []) d some = absurd (omega arith)
several_marks window (first ∷ next ∷ more) d some =
    let stack = first ∷ next ∷ more in
    let telling = telling_mark window (flat_map line_text stack) in
    ap (λ top. flat_map (line_mark window) (take (length stack - 1) stack) ++ (top ++ stack_label window stack))
    (sym (ap (flat_map telling) (last_of stack d (omega arith)) ∙ append-nil (telling (get_or stack (length stack - 1) d))))
