-- A table and its two queues stay as they should be after each change.
use Rattle.std.proofs.Common.{◌≡◌, ℕ, Bool, true, inl, inr, ◌==◌, ◌+◌, ◌-◌, ◌^◌, ◌<◌, ◌≤◌, false, cond, List, length, replicate, Option, Some, None, ◌++◌, refl, sym, ap, ◌∙◌, arith, subst}
use Rattle.std.specs.Prelude.{Result, Ok, Err, OnOk}
use Rattle.std.specs.Result.{is_err}
use Rattle.std.proofs.Math.ListN.{set}
use Rattle.std.proofs.lemmas.List.{length-set, length-append, length-replicate}
use Rattle.std.proofs.lemmas.Bool.{false≢true}
use Rattle.std.proofs.lemmas.Option.{none-some}
use Rattle.executor_model.proofs.Tables.{at_set}
use Rattle.sched_time.specs.Times.{longest}
use Rattle.sched_time.specs.declared.timing.Timing.{Timing}
use Rattle.queue_code.specs.Calls.{IsTimed}
use Rattle.delay_queue.specs.slots.Entries.{Key}
use Rattle.delay_queue.specs.slots.Queues.{with_slots}
use Rattle.task_table.specs.declared.seat.Seat.{Seat}
use Rattle.task_table.specs.Seats.{task_in, slot_of, is_alive, IsNew}
use Rattle.task_table.specs.Tables.{TableView}
use Rattle.task_table.specs.Formed.{IsFormed}
use Rattle.task_table.specs.Changes.{submitted, admitted, emptied, grown}
use Rattle.executor_model.specs.declared.task.Stage.TheVariants as ph
use Rattle.task_table.specs.Orders.{keys, with_key}
use Rattle.task_table.specs.own.Queues.{Queues, IsTable}
use Rattle.task_table.proofs.Formed.{formed_admitted, formed_emptied, formed_grown, at_grown}
use Rattle.task_table.proofs.Queued.{queues_grown, queues_admitted, queues_emptied}
use Rattle.task_table.proofs.Keys.{keys_grown}
use Rattle.task_table.proofs.Written.{set_writes, read_slot, slot_within}

-- what stands in the queues, where it is said another way
pub queues_as : (m : TableView) (entries kept other spare : ℕ → Option (ℕ × ℕ)) → Queues m entries kept → ((i : ℕ) → entries i ≡ other i) → ((i : ℕ) → kept i ≡ spare i) → Queues m other spare
queues_as m entries kept other spare q same also = record { waiting = λ i. sym (same i) ∙ q.waiting i; keeping = λ i. sym (also i) ∙ q.keeping i }

-- ---- one slot is written

-- what holds of what is in each slot, once this is in one
holds_put : (P : ℕ → Seat → Type 0) (slots : List (Option Seat)) (slot : ℕ) (y : Seat) → slot < length slots → P slot y → ((i : ℕ) (z : Seat) → slot_of slots i ≡ Some z → P i z) →
    (i : ℕ) (z : Seat) → slot_of (set slots slot (Some y)) i ≡ Some z → P i z
holds_put P slots slot y low here old i z q = elim (read_slot slots (set slots slot (Some y)) slot i y z (set_writes slots slot y low) q) [
  | inl same ↦ subst (λ w. P i w) same.1 (subst (λ j. P j y) same.0 here)
  | inr other ↦ old i z other.1
]

-- the same, once one is empty
holds_none : (P : ℕ → Seat → Type 0) (slots : List (Option Seat)) (slot : ℕ) → slot < length slots → ((i : ℕ) (z : Seat) → slot_of slots i ≡ Some z → P i z) →
    (i : ℕ) (z : Seat) → slot_of (set slots slot None) i ≡ Some z → P i z
holds_none P slots slot low old i z q = by (slot == i) (sym (at_set slots slot i None None low) ∙ q)
  where
    by : (b : Bool) → cond b None (slot_of slots i) ≡ Some z → P i z
    by true q = absurd (none-some z q)
    by false q = old i z q

-- a table in one of whose slots another task stands, or the same one as it is then
pub tabled_put : {a : ℕ → ℕ → Bool} {r : ℕ → Bool} {room spare : ℕ} (m n : TableView) (slot : ℕ) (y : Seat) (entries kept after held : ℕ → Option (ℕ × ℕ)) → IsTable a r m entries kept room spare → IsFormed n →
    n.slots ≡ set m.slots slot (Some y) → slot < length m.slots → a slot y.number ≡ true → (y.phase ≡ ph.Running → r y.run ≡ true) → Queues n after held → IsTable a r n after held room spare
tabled_put {a = a} {r = r} m n slot y entries kept after held t formed is low fit run q =
    let there : (i : ℕ) (z : Seat) → slot_of n.slots i ≡ Some z → slot_of (set m.slots slot (Some y)) i ≡ Some z = λ i z at. ap (λ s. slot_of s i) (sym is) ∙ at in
    record {
      formed = formed;
      queues = q;
      room = omega (arith, t.room, ap length is, length-set m.slots slot (Some y));
      spare = omega (arith, t.spare, ap length is, length-set m.slots slot (Some y));
      fits = λ i z at. holds_put (λ j w. a j w.number ≡ true) m.slots slot y low fit t.fits i z (there i z at);
      runs = λ i z at. holds_put (λ j w. w.phase ≡ ph.Running → r w.run ≡ true) m.slots slot y low run t.runs i z (there i z at);
    }

-- the queues have as much room as they had
pub tabled_roomy : {a : ℕ → ℕ → Bool} {r : ℕ → Bool} (m : TableView) (entries kept : ℕ → Option (ℕ × ℕ)) (room spare more spare_more : ℕ) → IsTable a r m entries kept room spare → more ≡ room → spare_more ≡ spare →
    IsTable a r m entries kept more spare_more
tabled_roomy m entries kept room spare more spare_more t same also = record { formed = t.formed; queues = t.queues; room = omega (arith, t.room, same); spare = omega (arith, t.spare, also); fits = t.fits; runs = t.runs }

-- there are so many slots at least
long : {X : Type 0} (xs : List X) (n : ℕ) (x : X) → length (xs ++ replicate (n - length xs) x) ≡ length xs + (n - length xs)
long xs n x = length-append xs (replicate (n - length xs) x) ∙ ap (λ k. length xs + k) (length-replicate (n - length xs) x)

-- the queues and the slots have room for so many
tabled_grown : {a : ℕ → ℕ → Bool} {r : ℕ → Bool} (m : TableView) (entries kept : List (Option Key)) (n : ℕ) → n < 2 ^ 32 → IsTable a r m (keys entries) (keys kept) (length entries) (length kept) →
    IsTable a r (grown m n) (keys (with_slots entries n)) (keys (with_slots kept n)) (length (with_slots entries n)) (length (with_slots kept n))
tabled_grown m entries kept n few t =
    let there : (i : ℕ) (x : Seat) → slot_of (grown m n).slots i ≡ Some x → slot_of m.slots i ≡ Some x = λ i x at. sym (at_grown m.slots (n - length m.slots) i) ∙ at in
    record {
      formed = formed_grown m n t.formed few;
      queues = queues_grown m n (keys (with_slots entries n)) (keys (with_slots kept n))
          (queues_as m (keys entries) (keys kept) (keys (with_slots entries n)) (keys (with_slots kept n)) t.queues (keys_grown entries (n - length entries)) (keys_grown kept (n - length kept)));
      room = omega (arith, t.room, long m.slots n None, long entries n None);
      spare = omega (arith, t.spare, long m.slots n None, long kept n None);
      fits = λ i x at. t.fits i x (there i x at);
      runs = λ i x at. t.runs i x (there i x at);
    }

pub tabled_longer : {a : ℕ → ℕ → Bool} {r : ℕ → Bool} (m : TableView) (entries kept longer spare : List (Option Key)) (n : ℕ) → n < 2 ^ 32 → IsTable a r m (keys entries) (keys kept) (length entries) (length kept) →
    longer ≡ with_slots entries n → spare ≡ with_slots kept n → IsTable a r (grown m n) (keys longer) (keys spare) (length longer) (length spare)
tabled_longer {a = a} {r = r} m entries kept longer spare n few t is also =
    subst (λ e. IsTable a r (grown m n) (keys e) (keys spare) (length e) (length spare)) (sym is)
    (subst (λ k. IsTable a r (grown m n) (keys (with_slots entries n)) (keys k) (length (with_slots entries n)) (length k)) (sym also) (tabled_grown m entries kept n few t))

-- what holds where a call succeeds, of one that did
pub on_ok : {T E P : Type 0} (r : Result T E) → false ≡ is_err r → OnOk r P → P
on_ok (Ok x) q p = p
on_ok (Err e) q p = absurd (false≢true q)

-- ---- a task comes, and goes

-- an entry is put in for the task that is accepted
pub tabled_admitted : {a : ℕ → ℕ → Bool} {r : ℕ → Bool} {room spare : ℕ} (m : TableView) (slot number at : ℕ) (timing : Timing) (delay : ℕ) (entries kept after : ℕ → Option (ℕ × ℕ)) → IsTable a r m entries kept room spare →
    slot_of m.slots slot ≡ None → slot < length m.slots → IsNew m.slots number → m.moment ≤ at → at ≤ longest → delay ≤ longest → IsTimed timing → a slot number ≡ true →
    ((i : ℕ) → with_key entries slot (Some (at + delay, number)) i ≡ after i) → IsTable a r (admitted m slot number at timing delay) after kept room spare
tabled_admitted m slot number at timing delay entries kept after t empty low fresh ahead near short timed fit is =
    let n = admitted m slot number at timing delay in
    tabled_put m n slot (submitted number timing (at + delay)) entries kept after kept t (formed_admitted m slot number at timing delay t.formed empty low fresh ahead near short timed) refl low fit
    (λ q. let clash : ph.Waiting ≡ ph.Running = q in absurd cc)
    (queues_as n (with_key entries slot (Some (at + delay, number))) kept after kept (queues_admitted m slot number at timing delay entries kept empty low t.queues) is (λ i. refl))

pub tabled_emptied : {a : ℕ → ℕ → Bool} {r : ℕ → Bool} {room spare : ℕ} (m : TableView) (slot : ℕ) (x : Seat) (entries kept : ℕ → Option (ℕ × ℕ)) → IsTable a r m entries kept room spare → slot_of m.slots slot ≡ Some x →
    is_alive (task_in x) ≡ false → IsTable a r (emptied m slot) entries kept room spare
tabled_emptied {a = a} {r = r} m slot x entries kept t there over =
    let low = slot_within m.slots slot x there in
    record {
      formed = formed_emptied m slot x t.formed there over;
      queues = queues_emptied m slot x entries kept there over t.queues;
      room = omega (arith, t.room, length-set m.slots slot None);
      spare = omega (arith, t.spare, length-set m.slots slot None);
      fits = holds_none (λ j w. a j w.number ≡ true) m.slots slot low t.fits;
      runs = holds_none (λ j w. w.phase ≡ ph.Running → r w.run ≡ true) m.slots slot low t.runs;
    }
