-- What each write of a word does to it.
use Rattle.std.proofs.Common.{◌≡◌, ℕ, ◌+◌, ◌<◌, ◌≤◌, Bool, true, false, ◌&&◌, refl, sym, ap, ◌∙◌, arith}
use Rattle.task_word.specs.Words.{Parts, marked, is_live, is_ended_phase, is_cancelled, rank, rank_in, started, rearmed, ended_well, ended_badly}
use Rattle.task_word.specs.Writes.{Kind, submit, start, done, fail, rearm, core_cancel, handle_cancel, unmarked, ChangesWord, sets_bit}
use Rattle.task_word.specs.own.Writes.{Exchanges}
use Rattle.task_word.specs.declared.phases.Phase.{Phase}
use Rattle.task_word.specs.declared.phases.Phase.TheVariants.{Vacant, New, Running, Done, Failed}

-- a live word that is not cancelled has no bit
no_bit : (w : Parts) (p : Phase) → w.phase ≡ p → is_live p ≡ true → is_cancelled w ≡ false → w.marked ≡ false
no_bit w p phase live free = let e : is_live w.phase ≡ true = ap is_live phase ∙ live in sym (ap (λ b. b && w.marked) e) ∙ free

-- it is its phase and its run
plain_word : (w : Parts) (p : Phase) → w.phase ≡ p → is_live p ≡ true → is_cancelled w ≡ false → w ≡ unmarked p w.run
plain_word w p phase live free = let m = no_bit w p phase live free in λ i. record { phase = phase i; run = w.run; marked = m i }

-- the bit that a word has not is the same in the word that a move makes of it
with_no_bit : (p : Phase) (n : ℕ) (b : Bool) → b ≡ false → (record { phase = p; run = n; marked = b }) ≡ unmarked p n
with_no_bit p n b none = λ i. record { phase = p; run = n; marked = none i }

-- a run that begins is the write of a start
pub starts : (w : Parts) → w.phase ≡ New → is_cancelled w ≡ false → ChangesWord start w (started w)
starts w phase free = (w.run, plain_word w New phase refl free, with_no_bit Running w.run w.marked (no_bit w New phase refl free))

-- a run after which the task waits again is the write of a re-arm
pub rearms : (w : Parts) → w.phase ≡ Running → is_cancelled w ≡ false → ChangesWord rearm w (rearmed w)
rearms w phase free = (w.run, plain_word w Running phase refl free, with_no_bit New (w.run + 1) w.marked (no_bit w Running phase refl free))

-- a last run that ends well is the write of an end
pub ends_well : (w : Parts) → w.phase ≡ Running → is_cancelled w ≡ false → ChangesWord done w (ended_well w)
ends_well w phase free = (w.run, plain_word w Running phase refl free, with_no_bit Done w.run w.marked (no_bit w Running phase refl free))

-- a run that fails is the write of a failure
pub ends_badly : (w : Parts) → w.phase ≡ Running → is_cancelled w ≡ false → ChangesWord fail w (ended_badly w)
ends_badly w phase free = (w.run, plain_word w Running phase refl free, with_no_bit Failed w.run w.marked (no_bit w Running phase refl free))

-- what a word is that an exchange takes to another: live, not cancelled, and of no higher rank; nor is the other cancelled
pub record Exchanged (w u : Parts) : Type 0 where
  pub live : is_live w.phase ≡ true
  pub free : is_cancelled w ≡ false
  pub up : rank w < rank u
  pub still : is_cancelled u ≡ false

-- an exchange between two words without the bit, whose phases are known
exchanged : (w u : Parts) (p q : Phase) (n m : ℕ) → w ≡ unmarked p n → u ≡ unmarked q m → is_live p ≡ true → rank_in p n < rank_in q m → is_live q && false ≡ false → Exchanged w u
exchanged w u p q n m from to live up still =
    let a : rank w ≡ rank_in p n = ap rank from in
    let b : rank u ≡ rank_in q m = ap rank to in
    record {
      live = ap (λ x. is_live x.phase) from ∙ live;
      free = ap is_cancelled from ∙ ap (λ l. l && false) live;
      up = omega (arith, a, b, up);
      still = ap is_cancelled to ∙ still;
    }

-- each exchange takes on a live word that is not cancelled
pub exchanges : (w u : Parts) → Exchanges w u → Exchanged w u
exchanges w u (submit, e, t) = absurd (let f : false ≡ true = e in grind (arith))
exchanges w u (start, e, t) = exchanged w u New Running t.0 t.0 t.1 t.2 refl (omega arith) refl
exchanges w u (done, e, t) = exchanged w u Running Done t.0 t.0 t.1 t.2 refl (omega arith) refl
exchanges w u (fail, e, t) = exchanged w u Running Failed t.0 t.0 t.1 t.2 refl (omega arith) refl
exchanges w u (rearm, e, t) = exchanged w u Running New t.0 (t.0 + 1) t.1 t.2 refl (omega arith) refl
exchanges w u (core_cancel, e, t) = absurd (let f : false ≡ true = e in grind (arith))
exchanges w u (handle_cancel, e, t) = absurd (let f : false ≡ true = e in grind (arith))

-- how a word may become another: its rank does not fall, a cancelled word stays so in its rank, and an
-- ended one keeps its phase and its run
pub record Becomes (w u : Parts) : Type 0 where
  pub up : rank w ≤ rank u
  pub stays : is_cancelled w ≡ true → is_cancelled u ≡ true
  pub steady : is_cancelled w ≡ true → rank w ≡ rank u
  pub ended : is_ended_phase w.phase ≡ true → (u.phase ≡ w.phase) × (u.run ≡ w.run)

-- a word that no write changes
pub becomes_same : (w : Parts) → Becomes w w
becomes_same w = record { up = omega arith; stays = λ e. e; steady = λ e. refl; ended = λ e. (refl, refl) }

stay_cancelled : (live bit : Bool) → live && bit ≡ true → live && true ≡ true
stay_cancelled true bit e = refl
stay_cancelled false bit e = e

-- a word that gets the bit
becomes_marked : (w u : Parts) → u ≡ marked w → Becomes w u
becomes_marked w u is =
    record {
      up = (let r : rank u ≡ rank w = ap rank is in omega (arith, r));
      stays = λ e. ap is_cancelled is ∙ stay_cancelled (is_live w.phase) w.marked e;
      steady = λ e. sym (ap rank is);
      ended = λ e. (ap (λ p. p.phase) is, ap (λ p. p.run) is);
    }

-- a word that is neither cancelled nor ended may become any of no lower rank
becomes_on : (w u : Parts) → is_cancelled w ≡ false → is_ended_phase w.phase ≡ false → rank w ≤ rank u → Becomes w u
becomes_on w u free lasts up =
    record {
      up = up;
      stays = λ e. absurd (let f : true ≡ false = sym e ∙ free in grind (arith));
      steady = λ e. absurd (let f : true ≡ false = sym e ∙ free in grind (arith));
      ended = λ e. absurd (let f : true ≡ false = sym e ∙ lasts in grind (arith));
    }

-- a vacant word is not cancelled
pub vacant_free : (w : Parts) → w.phase ≡ Vacant → is_cancelled w ≡ false
vacant_free w e = ap (λ p. is_live p && w.marked) e

vacant_rank : (w : Parts) → w.phase ≡ Vacant → rank w ≡ 0
vacant_rank w e = ap (λ p. rank_in p w.run) e

live_lasts : (p : Phase) → is_live p ≡ true → is_ended_phase p ≡ false
live_lasts Vacant e = refl
live_lasts New e = refl
live_lasts Running e = refl
live_lasts Done e = absurd (let f : false ≡ true = e in grind (arith))
live_lasts Failed e = absurd (let f : false ≡ true = e in grind (arith))

becomes_exchanged : (w u : Parts) → Exchanged w u → Becomes w u
becomes_exchanged w u x = becomes_on w u x.free (live_lasts w.phase x.live) (omega (arith, x.up))

submit_rises : (w u : Parts) → ChangesWord submit w u → rank w < rank u
submit_rises w u t = let low = vacant_rank w t.0 in let one : rank u ≡ 1 = ap rank t.1 in omega (arith, low, one)

-- what a write makes of a word
pub becomes : (kind : Kind) (w u : Parts) → ChangesWord kind w u → Becomes w u
becomes submit w u t = becomes_on w u (vacant_free w t.0) (ap is_ended_phase t.0) (let r = submit_rises w u t in omega (arith, r))
becomes start w u t = becomes_exchanged w u (exchanges w u (start, refl, t))
becomes done w u t = becomes_exchanged w u (exchanges w u (done, refl, t))
becomes fail w u t = becomes_exchanged w u (exchanges w u (fail, refl, t))
becomes rearm w u t = becomes_exchanged w u (exchanges w u (rearm, refl, t))
becomes core_cancel w u t = becomes_marked w u t
becomes handle_cancel w u t = becomes_marked w u t

-- a write that is no cancel raises the rank
pub rises : (kind : Kind) (w u : Parts) → sets_bit kind ≡ false → ChangesWord kind w u → rank w < rank u
rises submit w u e t = submit_rises w u t
rises start w u e t = (exchanges w u (start, refl, t)).up
rises done w u e t = (exchanges w u (done, refl, t)).up
rises fail w u e t = (exchanges w u (fail, refl, t)).up
rises rearm w u e t = (exchanges w u (rearm, refl, t)).up
rises core_cancel w u e t = absurd (let f : true ≡ false = e in grind (arith))
rises handle_cancel w u e t = absurd (let f : true ≡ false = e in grind (arith))

has_bit : (live bit : Bool) → live && bit ≡ true → true ≡ bit
has_bit true bit e = sym e
has_bit false bit e = absurd (let f : false ≡ true = e in grind (arith))

marked_same : (w : Parts) → is_cancelled w ≡ true → marked w ≡ w
marked_same w e = let m = has_bit (is_live w.phase) w.marked e in λ i. record { phase = w.phase; run = w.run; marked = m i }

not_cancelled : (w u : Parts) → Exchanged w u → is_cancelled w ≡ true → u ≡ w
not_cancelled w u x e = absurd (let f : true ≡ false = sym e ∙ x.free in grind (arith))

-- a write leaves a cancelled word as it is
pub cancelled_same : (kind : Kind) (w u : Parts) → ChangesWord kind w u → is_cancelled w ≡ true → u ≡ w
cancelled_same submit w u t e = absurd (let f : true ≡ false = sym e ∙ vacant_free w t.0 in grind (arith))
cancelled_same start w u t e = not_cancelled w u (exchanges w u (start, refl, t)) e
cancelled_same done w u t e = not_cancelled w u (exchanges w u (done, refl, t)) e
cancelled_same fail w u t e = not_cancelled w u (exchanges w u (fail, refl, t)) e
cancelled_same rearm w u t e = not_cancelled w u (exchanges w u (rearm, refl, t)) e
cancelled_same core_cancel w u t e = t ∙ marked_same w e
cancelled_same handle_cancel w u t e = t ∙ marked_same w e
