-- What a seat keeps about its own fields across a step.
use Rattle.std.proofs.Common.{◌≡◌, ℕ, ◌+◌, ◌<◌, ◌≤◌, Bool, true, false, inl, inr, List, [], length, set, slice_index, slice_index_or, ◌&&◌, not, get_or-set_same, refl, sym, ap, ◌∙◌, arith, length-set}
use Rattle.atomic_table.specs.Seated.{TableId}
use Rattle.task_word.specs.Words.{Parts, rank, is_live, is_cancelled}
use Rattle.task_word.specs.Answers.{HandleKeeps, shown_state_in, shown_state, cancel_answer_in, cancel_answer, is_handle_win, core_answer_in, core_answer, is_won}
use Rattle.task_word.specs.declared.phases.Phase.{Phase}
use Rattle.task_word.specs.declared.phases.Phase.TheVariants.{Vacant, New, Running, Done, Failed}
use Rattle.task_word.specs.declared.answers.TaskState.TheVariants as state
use Rattle.task_word.specs.Views.{most_handles, with_entry, wins}
use Rattle.task_word.specs.own.Views.{core_of, handle_of}
use Rattle.task_word.specs.Numbers.{word_of_value}
use Rattle.task_word.specs.own.Steps.{Holder, Exchanged}
use Rattle.task_word.specs.declared.views.CoreSeatView.{CoreSeatView}
use Rattle.task_word.specs.declared.views.HandleSeatView.{HandleSeatView}
use Rattle.task_word.specs.declared.views.View.TheVariants.{Core, Handle}

-- the core's seat: it is the first, and its data are what it knows
abbrev pub CoreSits : TableId → ℕ → Holder → List Parts → ℕ → Type 0
CoreSits table id me entries out =
    (id ≡ 0) × (me.0 ≡ Core (core_of me.0)) × (entries ≡ (core_of me.0).entries) × (out ≡ (core_of me.0).out) × (out ≤ most_handles) × (length entries + 1 ≡ table.words)

-- a step that sets one entry keeps this
pub core_sits : (table table' : TableId) (id id' : ℕ) (me me' : Holder) (entries : List Parts) (out k : ℕ) (e : Parts) (w : CoreSeatView) → table' ≡ table → id' ≡ id → me' ≡ (Core w, me.1)
    → w.entries ≡ set (core_of me.0).entries k e → w.out ≡ (core_of me.0).out → CoreSits table id me entries out → CoreSits table' id' me' (set entries k e) out
core_sits table table' id id' me me' entries out k e w same_table same_id is set_one same_out sits = (
  same_id ∙ sits.0,
  ap (λ m. m.0) is ∙ sym (ap (λ m. Core (core_of m.0)) is),
  ap (λ xs. set xs k e) sits.2 ∙ (sym set_one ∙ sym (ap (λ m. (core_of m.0).entries) is)),
  sits.3 ∙ (sym same_out ∙ sym (ap (λ m. (core_of m.0).out) is)),
  sits.4,
  ap (λ n. n + 1) (length-set entries k e) ∙ (sits.5 ∙ sym (ap (λ t. t.words) same_table)),
)

-- an exchange that found what it expected
pub found_it : (k word : ℕ) (next : Parts) (old new found : ℕ) (me me' : Holder) → Exchanged word old new me found me' → word ≡ k + 1 → found ≡ old → word_of_value new ≡ next
    → me' ≡ (Core (with_entry (core_of me.0) k next), me.1)
found_it k word next old new found me me' moved at hit read =
    elim (moved k at).1 [
      | inl hits ↦ hits.1 ∙ ap (λ e. (Core (with_entry (core_of me.0) k e), me.1)) read
      | inr misses ↦ absurd (misses.0 hit)
    ]

-- a handle's seat: its view is a handle's, and it has a place for each task
abbrev pub HandleSits : TableId → Holder → Type 0
HandleSits table me =
    (me.0 ≡ Handle (handle_of me.0)) × (me.1 ≡ []) × (length (handle_of me.0).ranks + 1 ≡ table.words) × (length (handle_of me.0).seen + 1 ≡ table.words)

-- a step that keeps the lengths of its lists keeps this
pub handle_sits : (table table' : TableId) (me me' : Holder) (h : HandleSeatView) → table' ≡ table → me' ≡ (Handle h, me.1)
    → length h.ranks ≡ length (handle_of me.0).ranks → length h.seen ≡ length (handle_of me.0).seen → HandleSits table me → HandleSits table' me'
handle_sits table table' me me' h same_table is ranks seen sits =
    let words = ap (λ t. t.words) same_table in (
      ap (λ m. m.0) is ∙ sym (ap (λ m. Handle (handle_of m.0)) is),
      ap (λ m. m.1) is ∙ sits.1,
      ap (λ m. length (handle_of m.0).ranks + 1) is ∙ (ap (λ n. n + 1) ranks ∙ (sits.2 ∙ sym words)),
      ap (λ m. length (handle_of m.0).seen + 1) is ∙ (ap (λ n. n + 1) seen ∙ (sits.3 ∙ sym words)),
    )

-- what is set is kept
pub keeps_met : (h h' : HandleSeatView) (k : ℕ) (w : Parts) → k < length h.ranks → k < length h.seen → h'.ranks ≡ set h.ranks k (rank w) → h'.seen ≡ set h.seen k (is_cancelled w) → HandleKeeps h' k w
keeps_met h h' k w ranks seen set_rank set_seen = (
  ap (λ xs. slice_index xs k) set_rank ∙ get_or-set_same h.ranks k (rank w) 0 ranks,
  ap (λ xs. slice_index_or xs k false) set_seen ∙ get_or-set_same h.seen k (is_cancelled w) false seen,
)

cancelled_in : (p : Phase) (bit : Bool) → is_live p && bit ≡ true → shown_state_in p bit ≡ state.Cancelled
cancelled_in Vacant bit e = absurd (let f : false ≡ true = e in grind (arith))
cancelled_in New true e = refl
cancelled_in New false e = absurd (let f : false ≡ true = e in grind (arith))
cancelled_in Running true e = refl
cancelled_in Running false e = absurd (let f : false ≡ true = e in grind (arith))
cancelled_in Done bit e = absurd (let f : false ≡ true = e in grind (arith))
cancelled_in Failed bit e = absurd (let f : false ≡ true = e in grind (arith))

-- a cancelled word shows that it is
pub cancelled_shows : (w : Parts) → is_cancelled w ≡ true → shown_state w ≡ state.Cancelled
cancelled_shows w e = cancelled_in w.phase w.marked e

yes_in : (p : Phase) (bit : Bool) → is_live p && not bit ≡ is_handle_win (cancel_answer_in p bit)
yes_in Vacant bit = refl
yes_in New true = refl
yes_in New false = refl
yes_in Running true = refl
yes_in Running false = refl
yes_in Done bit = refl
yes_in Failed bit = refl

-- a handle's cancel wins exactly when it answers so
pub yes_wins : (w : Parts) → wins w ≡ is_handle_win (cancel_answer w)
yes_wins w = yes_in w.phase w.marked

won_in : (p : Phase) (bit : Bool) → is_live p && not bit ≡ is_won (core_answer_in p bit)
won_in Vacant bit = refl
won_in New true = refl
won_in New false = refl
won_in Running true = refl
won_in Running false = refl
won_in Done bit = refl
won_in Failed bit = refl

-- the core's cancel wins exactly when it answers so
pub won_wins : (w : Parts) → wins w ≡ is_won (core_answer w)
won_wins w = won_in w.phase w.marked
