-- A look at the words, and what the seat then tells of each.
use Rattle.std.proofs.Common.{◌≡◌, ◌≢◌, ℕ, ◌+◌, ◌<◌, ◌==◌, ◌&&◌, Bool, true, false, inl, inr, List, length, refl, sym, ap, ◌∙◌, subst, arith}
use Rattle.std.specs.Prelude.{slice_index_or}
use Rattle.std.proofs.lemmas.Bool.{false≢true, eq-eqb, eqb-true}
use Rattle.task_word.specs.Words.{Parts, is_live, is_cancelled, marked}
use Rattle.task_word.specs.Views.{entry, with_entry, MeetsEntry}
use Rattle.task_word.specs.Steps.{CoreTells}
use Rattle.task_word.specs.declared.views.CoreSeatView.{CoreSeatView}
use Rattle.task_word.proofs.Uses.{entry_here, entry_other, entry_count}
use Rattle.queue_code.specs.Calls.{task_count}
use Rattle.executor_model.specs.declared.types.Happening.{Happening}
use Rattle.executor_model.specs.declared.types.Line.{Line}
use Rattle.executor_model.specs.Histories.{HistoryEntry}
use Rattle.executor_model.specs.State.{State, vacant}
use Rattle.executor_core.specs.CoreView.{CoreView, workers_of}
use Rattle.executor_laws.specs.TaskWords.{word_after}
use Rattle.worker_pool.specs.Books.{FitsWord}
use Rattle.worker_pool.specs.Applies.{OnlyMarks, TellsUpTo}
use Rattle.worker_pool.specs.own.Moves.{WasMet}
use Rattle.worker_pool.specs.own.Steps.{Agrees, IsKept, past_in}
use Rattle.worker_pool.proofs.Bools.{and_none, and_true}

looked_fits : (e w u : Parts) → FitsWord e u → MeetsEntry e w → (is_cancelled w ≡ true → is_cancelled u ≡ true) → FitsWord w u
looked_fits e w u fits meets only = elim meets [
  | inl same ↦ subst (λ x. FitsWord x u) (sym same) fits
  | inr same ↦ record {
    phase = ap (λ (p : Parts). p.phase) same ∙ fits.phase;
    run = ap (λ (p : Parts). p.run) same ∙ fits.run;
    cancelled = by (is_live e.phase) refl same;
  }
]
  where
    by : (b : Bool) → is_live e.phase ≡ b → w ≡ marked e → is_cancelled w ≡ is_cancelled u
    by true q same = let hit = ap is_cancelled same ∙ ap (λ b. b && true) q in hit ∙ sym (only hit)
    by false q same = ap is_cancelled same ∙ (ap (λ b. b && true) q ∙ (ap (λ b. b && e.marked) (sym q) ∙ fits.cancelled))

-- where the core knows of the cancel, or there is none, the seat's view goes on agreeing
pub looked : (m : CoreView) (v : CoreSeatView) (happened : List Happening) (lines : List Line) (k : ℕ) (w : Parts) → IsKept m v happened lines → k < task_count m.calls → MeetsEntry (entry v k) w →
    (is_cancelled w ≡ true → (slice_index_or m.tasks k vacant).cancelled ≡ true) → IsKept m (with_entry v k w) happened lines
looked m v happened lines k w kept low meets only = record {
  orderly = kept.orderly;
  means = kept.means;
  unpurged = kept.unpurged;
  stands = kept.stands;
  written = kept.written;
  agrees = record {
    count = entry_count v k w ∙ agrees.count;
    each = λ j. at j (k == j) refl;
    cancelled = agrees.cancelled;
  };
}
  where
    past : List HistoryEntry
    past = past_in m happened

    agrees : Agrees m.calls (workers_of m) past v
    agrees = kept.agrees

    u : Parts
    u = word_after m.calls (workers_of m) past k

    -- a word of a live phase that has the bit
    knows : is_cancelled w ≡ true → is_cancelled u ≡ true
    knows q =
        let bit : u.marked ≡ true = ap (λ (s : State). (s.tasks k).cancelled) (sym kept.stands) ∙ only q in
        let phase : w.phase ≡ (entry v k).phase = elim meets [ inl same ↦ ap (λ (p : Parts). p.phase) same | inr same ↦ ap (λ (p : Parts). p.phase) same ] in
        let live : is_live w.phase ≡ true = (Rattle.std.proofs.lemmas.Bool.and_parts (is_live w.phase) w.marked q).0 in
        (λ i. is_live ((sym (phase ∙ (agrees.each k).phase)) i) && bit i) ∙ (and_true (is_live w.phase) ∙ live)

    at : (j : ℕ) (b : Bool) → (k == j) ≡ b → FitsWord (entry (with_entry v k w) j) (word_after m.calls (workers_of m) past j)
    at j true same =
        let here = looked_fits (entry v k) w u (agrees.each k) meets knows in
        subst (λ i. FitsWord (entry (with_entry v k w) i) (word_after m.calls (workers_of m) past i)) (eqb-true k j same)
        (subst (λ x. FitsWord x u) (sym (entry_here v k w (subst (λ n. k < n) (sym agrees.count) low))) here)
    at j false apart = subst (λ x. FitsWord x (word_after m.calls (workers_of m) past j)) (sym (entry_other v k j w (λ e. false≢true (sym apart ∙ eq-eqb k j (sym e))))) (agrees.each j)

-- each entry is as it was then, or has the bit
pub looked_marks : (v : CoreSeatView) (k : ℕ) (w : Parts) → k < length v.entries → MeetsEntry (entry v k) w → OnlyMarks v (with_entry v k w)
looked_marks v k w low meets = λ j. by j (k == j) refl
  where
    by : (j : ℕ) (b : Bool) → (k == j) ≡ b → MeetsEntry (entry v j) (entry (with_entry v k w) j)
    by j true same = subst (λ i. MeetsEntry (entry v i) (entry (with_entry v k w) i)) (eqb-true k j same) (subst (λ x. MeetsEntry (entry v k) x) (sym (entry_here v k w low)) meets)
    by j false apart = inl (entry_other v k j w (λ e. false≢true (sym apart ∙ eq-eqb k j (sym e))))

meets_then : (x y z : Parts) → MeetsEntry x y → MeetsEntry y z → MeetsEntry x z
meets_then x y z one two = elim two [
  | inl same ↦ subst (λ p. MeetsEntry x p) (sym same) one
  | inr mark ↦ elim one [
    | inl same ↦ inr (mark ∙ ap marked same)
    | inr same ↦ inr (mark ∙ ap marked same)
  ]
]

pub marks_then : (a b c : CoreSeatView) → OnlyMarks a b → OnlyMarks b c → OnlyMarks a c
marks_then a b c one two = λ k. meets_then (entry a k) (entry b k) (entry c k) (one k) (two k)

-- where the core does not know of it, it was met
pub looked_met : (m : CoreView) (v : CoreSeatView) (happened : List Happening) (lines : List Line) (k : ℕ) (w : Parts) → IsKept m v happened lines → k < task_count m.calls → MeetsEntry (entry v k) w → is_cancelled w ≡ true →
    (slice_index_or m.tasks k vacant).cancelled ≡ false → WasMet (task_count m.calls) v (with_entry v k w) k
looked_met m v happened lines k w kept low meets cancelled unknown =
    let e = entry v k in
    let past = past_in m happened in
    let u = word_after m.calls (workers_of m) past k in
    let off : u.marked ≡ false = ap (λ (s : State). (s.tasks k).cancelled) (sym kept.stands) ∙ unknown in
    let fresh : is_cancelled e ≡ false = (kept.agrees.each k).cancelled ∙ (ap (λ b. is_live u.phase && b) off ∙ and_none (is_live u.phase)) in
    elim meets [
      | inl same ↦ absurd (false≢true (sym fresh ∙ (ap is_cancelled (sym same) ∙ cancelled)))
      | inr same ↦ record { task = low; live = sym (and_true (is_live e.phase)) ∙ (ap is_cancelled (sym same) ∙ cancelled); fresh = fresh; now = ap (with_entry v k) same }
    ]

-- one word more was met, and is the entry
pub tells_more : (v next_v : CoreSeatView) (k : ℕ) (w : Parts) → k < length v.entries → CoreTells v k w → next_v ≡ with_entry v k w → TellsUpTo v k → TellsUpTo next_v (k + 1)
tells_more v next_v k w low tells is up = subst (λ x. TellsUpTo x (k + 1)) (sym is) (λ j l. by j l (j == k) refl)
  where
    by : (j : ℕ) → j < k + 1 → (b : Bool) → (j == k) ≡ b → CoreTells (with_entry v k w) j (entry (with_entry v k w) j)
    by j l true same = subst (λ i. CoreTells (with_entry v k w) i (entry (with_entry v k w) i)) (sym (eqb-true j k same))
        (subst (CoreTells (with_entry v k w) k) (sym (entry_here v k w low)) (record { once = tells.once; alone = tells.alone; met = tells.met; still = tells.still }))
    by j l false apart =
        let other : j ≢ k = λ e. false≢true (sym apart ∙ eq-eqb j k e) in
        let was = up j (omega (arith, l, other)) in
        subst (CoreTells (with_entry v k w) j) (sym (entry_other v k j w other)) (record { once = was.once; alone = was.alone; met = was.met; still = was.still })
