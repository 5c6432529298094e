-- Which kept tasks a start meets, and what becomes of one that is dropped.
use Rattle.std.proofs.Common.{◌≡◌, ℕ, ◌+◌, ◌-◌, ◌^◌, ◌<◌, ◌≤◌, nat_le, ◌&&◌, ◌||◌, zero, suc, Bool, true, false, cond, inl, inr, List, [], ◌∷◌, Option, Some, None, refl, sym, ap, ◌∙◌, arith, subst}
use Rattle.std.specs.Prelude.{◌↔◌, not, min, IfSome, IfNone, IsTrue}
use Rattle.std.proofs.Math.ListN.{set}
use Rattle.std.proofs.lemmas.Bool.{false≢true, or_left, or_right, or_cases, leb-true, leb-false}
use Rattle.std.proofs.lemmas.Bool.Decides.{nat_tests}
use Rattle.std.proofs.lemmas.Option.{none-some, same_Some}
use Rattle.delay_queue.specs.Queues.{comes_before}
use Rattle.queue_code.specs.Calls.{how_many}
use Rattle.task_table.specs.declared.seat.Seat.{Seat}
use Rattle.task_table.specs.Seats.{task_in, slot_of, waits, is_alive, is_waiting_in, is_running_in}
use Rattle.task_table.specs.Tables.{TableView}
use Rattle.task_table.specs.Firsts.{NoneDue, FirstIs, MeetsNone, NoneMet, NoneKept, holds_kept, kept_in, IsEarliest, NoneWaits, IsRipe, IsHead, NoneQueued}
use Rattle.task_table.specs.Changes.{put, unkept}
use Rattle.task_table.specs.Runs.{Drops, IsFull}
use Rattle.task_table.specs.Formed.{IsFormed, IsSeated}
use Rattle.task_table.specs.Orders.{IsLeastKey}
use Rattle.task_table.specs.own.Queues.{IsTable}
use Rattle.task_table.specs.own.Heads.{HeadsQueue, HeadsKept, IsMetBy}
use Rattle.task_table.proofs.Heads.{waits_at, stays_at, entry_at, kept_at, first_due, least_not_due, none_due, least_unmet, none_kept}

-- ---- the least entries

-- the least entry of the tasks that wait, where it is due
pub heads_queue : {a : ℕ → ℕ → Bool} {r : ℕ → Bool} {room spare : ℕ} (m : TableView) (entries kept : ℕ → Option (ℕ × ℕ)) (slot due number : ℕ) → IsTable a r m entries kept room spare → IsLeastKey entries slot due number → due ≤ m.moment →
    HeadsQueue m slot due number
heads_queue m entries kept slot due number t is reached =
    let at = waits_at m entries kept slot due number t.queues is.there in
    record { task = at.x; first = first_due m entries kept slot due number at.x t.formed t.queues is at.there reached; dues = at.dues; named = at.named }

-- where it is not due
pub heads_later : {a : ℕ → ℕ → Bool} {r : ℕ → Bool} {room spare : ℕ} (m : TableView) (entries kept : ℕ → Option (ℕ × ℕ)) (slot due number : ℕ) → IsTable a r m entries kept room spare → IsLeastKey entries slot due number → m.moment < due → NoneDue m
heads_later m entries kept slot due number t is ahead = least_not_due m entries kept slot due number t.queues is ahead

-- where there is none
pub heads_none : {a : ℕ → ℕ → Bool} {r : ℕ → Bool} {room spare : ℕ} (m : TableView) (entries kept : ℕ → Option (ℕ × ℕ)) → IsTable a r m entries kept room spare → ((i : ℕ) → entries i ≡ None) → NoneDue m
heads_none m entries kept t empty = none_due m entries kept t.queues (λ i due number q. absurd (none-some (due, number) (sym (empty i) ∙ q)))

-- an entry that does not come before is due no earlier
no_earlier : (due number later other : ℕ) → comes_before later other due number ≡ false → due ≤ later
no_earlier due number later other q = grind (arith, nat_tests)

-- the least entry is due first
pub heads_earliest : {a : ℕ → ℕ → Bool} {r : ℕ → Bool} {room spare : ℕ} (m : TableView) (entries kept : ℕ → Option (ℕ × ℕ)) (slot due number : ℕ) → IsTable a r m entries kept room spare → IsLeastKey entries slot due number → IsEarliest m due
heads_earliest m entries kept slot due number t is =
    let at = waits_at m entries kept slot due number t.queues is.there in
    record {
      slot = slot;
      task = at.x;
      there = at.there;
      waiting = at.waiting;
      is = at.dues;
      least = λ i y there waiting. no_earlier due number y.due y.number (is.least i y.due y.number (entry_at m entries kept i y t.queues there waiting));
    }

-- where there is no entry, no task waits
pub none_waits : {a : ℕ → ℕ → Bool} {r : ℕ → Bool} {room spare : ℕ} (m : TableView) (entries kept : ℕ → Option (ℕ × ℕ)) → IsTable a r m entries kept room spare → ((i : ℕ) → entries i ≡ None) → NoneWaits m
none_waits m entries kept t empty i y there = by (waits (task_in y)) refl
  where
    by : (b : Bool) → waits (task_in y) ≡ b → b ≡ false
    by true waiting = absurd (none-some (y.due, y.number) (sym (empty i) ∙ entry_at m entries kept i y t.queues there waiting))
    by false waiting = refl

-- the least entry of the kept tasks
pub heads_kept : {a : ℕ → ℕ → Bool} {r : ℕ → Bool} {room spare : ℕ} (m : TableView) (entries kept : ℕ → Option (ℕ × ℕ)) (slot due number : ℕ) → IsTable a r m entries kept room spare → IsLeastKey kept slot due number → HeadsKept m slot due number
heads_kept m entries kept slot due number t is =
    let at = stays_at m entries kept slot due number t.queues is.there in
    record {
      task = at.x;
      there = at.there;
      kept = at.kept;
      dues = at.dues;
      named = at.named;
      unmet = λ first out. least_unmet m entries kept slot due number at.x first t.formed t.queues is at.there out;
      least = λ i y there held. no_earlier due number y.due y.number (is.least i y.due y.number (kept_at m entries kept i y t.queues there held));
    }

-- where there is none, no task is kept
pub none_stays : {a : ℕ → ℕ → Bool} {r : ℕ → Bool} {room spare : ℕ} (m : TableView) (entries kept : ℕ → Option (ℕ × ℕ)) → IsTable a r m entries kept room spare → ((i : ℕ) → kept i ≡ None) → NoneKept m
none_stays m entries kept t empty = none_kept m entries kept t.queues empty

-- what follows of a value, if there is one, and where there is none
pub if_some : {X : Type 0} (P Q : X → Type 0) (o : Option X) → ((x : X) → P x → Q x) → IfSome o P → IfSome o Q
if_some P Q None f p = p
if_some P Q (Some x) f p = f x p

pub if_none : {X P Q : Type 0} (o : Option X) → (P → Q) → IfNone o P → IfNone o Q
if_none None f p = f p
if_none (Some x) f p = p

-- ---- what a start meets

-- a test does not hold both ways
not_both : (due number later other : ℕ) → comes_before due number later other ≡ true → comes_before later other due number ≡ true → ⊥
not_both due number later other p q = grind (arith, nat_tests)

-- the first task that is due is one alone
pub first_same : (m : TableView) (one other : Option Seat) → FirstIs m one → FirstIs m other → one ≡ other
first_same m None None p q = refl
first_same m None (Some y) p q = absurd (p q.0 y q.1.there q.1.waiting q.1.due)
first_same m (Some x) None p q = absurd (q p.0 x p.1.there p.1.waiting p.1.due)
first_same m (Some x) (Some y) p q = elim (p.1.least q.0 y q.1.there q.1.waiting q.1.due) [
  | inl here ↦ sym p.1.there ∙ (ap (slot_of m.slots) (sym here) ∙ q.1.there)
  | inr before ↦ elim (q.1.least p.0 x p.1.there p.1.waiting p.1.due) [
    | inl here ↦ sym p.1.there ∙ (ap (slot_of m.slots) here ∙ q.1.there)
    | inr after ↦ absurd (not_both x.due x.number y.due y.number before after)
  ]
]

-- where a start does not meet the first kept task, it meets none
pub none_met : (m : TableView) (slot due number : ℕ) → HeadsKept m slot due number → IsMetBy m due number false → NoneMet m
none_met m slot due number head met first is =
    subst (MeetsNone m) (first_same m met.first first met.is is) (head.unmet met.first (sym (met.told head.task head.dues head.named)))

-- a moment that is reached, and one that is not
reached : (a b : ℕ) → a ≤ b → nat_le a b ≡ true
reached a b le = grind (arith, nat_tests)

ahead_of : (a b : ℕ) → b < a → nat_le a b ≡ false
ahead_of a b lt = grind (arith, nat_tests)

-- a start that gets a task meets a kept one that is due, if it comes before that task
pub met_first : (m : TableView) (slot due number later other now : ℕ) (b : Bool) → HeadsQueue m slot later other → now ≡ m.moment → due ≤ now → b ≡ comes_before due number later other → IsMetBy m due number b
met_first m slot due number later other now b head same ripe is = record {
  first = Some head.task;
  is = (slot, head.first);
  told = λ x d n.
      let there : nat_le x.due m.moment ≡ true = reached x.due m.moment (omega (arith, d, same, ripe)) in
      is ∙ ((λ i. comes_before (sym d i) (sym n i) (sym head.dues i) (sym head.named i)) ∙ sym (ap (λ c. c && comes_before x.due x.number head.task.due head.task.number) there));
}

-- and meets none that is not due
pub met_later : (m : TableView) (slot due number later other now : ℕ) → HeadsQueue m slot later other → now ≡ m.moment → now < due → IsMetBy m due number (nat_le due now)
met_later m slot due number later other now head same ahead = record {
  first = Some head.task;
  is = (slot, head.first);
  told = λ x d n. ahead_of due now ahead ∙ sym (ap (λ c. c && comes_before x.due x.number head.task.due head.task.number) (ahead_of x.due m.moment (omega (arith, d, same, ahead))));
}

-- ---- a task is dropped

-- how many tasks are kept once one is not
fewer : (slots : List (Option Seat)) (slot : ℕ) (x : Seat) → slot_of slots slot ≡ Some x → x.kept ≡ true → how_many holds_kept (set slots slot (Some (unkept x))) + 1 ≡ how_many holds_kept slots
fewer [] slot x there held = absurd (none-some x there)
fewer (y ∷ slots) zero x there held =
    let was : holds_kept y ≡ true = ap holds_kept there ∙ held in
    let h : ℕ = how_many holds_kept slots in
    let now : cond (holds_kept y) (1 + h) h ≡ 1 + h = ap (λ b. cond b (1 + h) h) was in
    omega (arith, now)
fewer (y ∷ slots) (suc i) x there held = by (holds_kept y) (fewer slots i x there held)
  where
    by : (b : Bool) → how_many holds_kept (set slots i (Some (unkept x))) + 1 ≡ how_many holds_kept slots →
        cond b (1 + how_many holds_kept (set slots i (Some (unkept x)))) (how_many holds_kept (set slots i (Some (unkept x)))) + 1 ≡ cond b (1 + how_many holds_kept slots) (how_many holds_kept slots)
    by true rest = omega (arith, rest)
    by false rest = rest

-- of a task that was kept nothing comes any more
over_now : (moment : ℕ) (x : Seat) → IsSeated moment x → x.kept ≡ true → is_alive (task_in (unkept x)) ≡ false
over_now moment x s held =
    let at = s.kept held in
    λ i. ((is_waiting_in (at.0 i) && not (at.1 i)) || false) || is_running_in (at.0 i)

-- what the call says of it
pub drops : (m n : TableView) (slot due number : ℕ) → IsFormed m → (head : HeadsKept m slot due number) → n ≡ put m slot (unkept head.task) → Drops m n slot
drops m n slot due number formed head is = record {
  task = head.task;
  there = head.there;
  kept = head.kept;
  is = is;
  over = over_now m.moment head.task (formed.seated slot head.task head.there) head.kept;
  fewer = ap (λ (u : TableView). kept_in u.slots + 1) is ∙ fewer m.slots slot head.task head.there head.kept;
}

pub not_full : (m : TableView) (slot due number : ℕ) (x : Seat) → HeadsQueue m slot due number → slot_of m.slots slot ≡ Some x → (x.run ≡ 2 ^ 64 - 1 → ⊥) → IsFull m → ⊥
not_full m slot due number x head there less full =
    let one : head.task ≡ x = same_Some head.task x (sym head.first.there ∙ there) in
    let same : head.task ≡ full.task = same_Some head.task full.task (first_same m (Some head.task) (Some full.task) (slot, head.first) (full.slot, full.first)) in
    less (ap (λ (z : Seat). z.run) (sym one ∙ same) ∙ full.last)

-- the first kept one is
pub ripe_kept : (m : TableView) (slot due number : ℕ) → HeadsKept m slot due number → due ≤ m.moment → IsRipe m
ripe_kept m slot due number head reached = (slot, head.task, head.there, or_right (waits (task_in head.task)) head.task.kept head.kept, omega (arith, head.dues, reached))

-- where no task that waits is due, and no kept one, none is
unripe : (m : TableView) → NoneDue m → ((i : ℕ) (x : Seat) → slot_of m.slots i ≡ Some x → x.kept ≡ true → x.due ≤ m.moment → ⊥) → IsRipe m → ⊥
unripe m none kept ripe = elim (or_cases (waits (task_in ripe.1)) ripe.1.kept ripe.3) [ inl waiting ↦ none ripe.0 ripe.1 ripe.2 waiting ripe.4 | inr held ↦ kept ripe.0 ripe.1 ripe.2 held ripe.4 ]

-- where the first kept task is not due, no kept one is
pub unripe_kept : (m : TableView) (slot due number : ℕ) → NoneDue m → HeadsKept m slot due number → m.moment < due → IsRipe m → ⊥
unripe_kept m slot due number none head ahead =
    unripe m none (λ i x there held ripe. false≢true (sym (head.unmet None (ahead_of head.task.due m.moment (omega (arith, head.dues, ahead))) i x there held) ∙ reached x.due m.moment ripe))

-- where no task that waits is due, one is where the first kept one is
pub ripe_where : (m : TableView) (slot due number now : ℕ) → NoneDue m → HeadsKept m slot due number → now ≡ m.moment → IsTrue (nat_le due now) ↔ IsRipe m
ripe_where m slot due number now none head same = by (nat_le due now) refl
  where
    by : (b : Bool) → nat_le due now ≡ b → IsTrue b ↔ IsRipe m
    by true q = (λ _. ripe_kept m slot due number head (omega (arith, same, leb-true due now q)), λ _. refl)
    by false q = (λ no. absurd (false≢true no), λ ripe. absurd (unripe_kept m slot due number none head (omega (arith, same, leb-false due now q)) ripe))

-- ---- the head of the queue

-- where no task waits and none is kept, none stands in the queue
pub none_queued : (m : TableView) → NoneWaits m → NoneKept m → NoneQueued m
none_queued m idle none i y there = λ j. idle i y there j || none i y there j

-- the first task that waits is the head where none is kept
pub head_waits : (m : TableView) (due : ℕ) → IsEarliest m due → NoneKept m → IsHead m due
head_waits m due first none = record {
  slot = first.slot;
  task = first.task;
  there = first.there;
  queued = or_left (waits (task_in first.task)) first.task.kept first.waiting;
  is = first.is;
  least = λ i y there queued. elim (or_cases (waits (task_in y)) y.kept queued) [ inl waiting ↦ first.least i y there waiting | inr held ↦ absurd (false≢true (sym (none i y there) ∙ held)) ];
}

-- the first kept task is where none waits
pub head_stays : (m : TableView) (slot due number : ℕ) → NoneWaits m → HeadsKept m slot due number → IsHead m due
head_stays m slot due number idle head = record {
  slot = slot;
  task = head.task;
  there = head.there;
  queued = or_right (waits (task_in head.task)) head.task.kept head.kept;
  is = head.dues;
  least = λ i y there queued. elim (or_cases (waits (task_in y)) y.kept queued) [ inl waiting ↦ absurd (false≢true (sym (idle i y there) ∙ waiting)) | inr held ↦ head.least i y there held ];
}

-- and else it is the one of both that is due first
pub head_either : (m : TableView) (first slot due number : ℕ) → IsEarliest m first → HeadsKept m slot due number → IsHead m (min first due)
head_either m first slot due number e head = by (nat_le first due) refl
  where
    below : (i : ℕ) (y : Seat) → slot_of m.slots i ≡ Some y → (waits (task_in y) || y.kept) ≡ true → min first due ≤ y.due
    below i y there queued = elim (or_cases (waits (task_in y)) y.kept queued) [
      | inl waiting ↦ let le = e.least i y there waiting in grind (arith, nat_tests, le)
      | inr held ↦ let le = head.least i y there held in grind (arith, nat_tests, le)
    ]

    by : (b : Bool) → nat_le first due ≡ b → IsHead m (min first due)
    by true q = record {
      slot = e.slot;
      task = e.task;
      there = e.there;
      queued = or_left (waits (task_in e.task)) e.task.kept e.waiting;
      is = let least : first ≡ min first due = grind (arith, nat_tests, q) in e.is ∙ least;
      least = below;
    }
    by false q = record {
      slot = slot;
      task = head.task;
      there = head.there;
      queued = or_right (waits (task_in head.task)) head.task.kept head.kept;
      is = let least : due ≡ min first due = grind (arith, nat_tests, q) in head.dues ∙ least;
      least = below;
    }
