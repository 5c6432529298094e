-- What stands in the two queues of a table after each change.
use Rattle.std.proofs.Common.{◌≡◌, ℕ, ◌+◌, ◌-◌, ◌<◌, ◌==◌, ◌&&◌, ◌||◌, Bool, true, false, cond, List, length, Option, Some, None, refl, sym, ap, ◌∙◌, subst}
use Rattle.std.specs.Prelude.{slice_index_or, not}
use Rattle.std.proofs.Math.ListN.{set}
use Rattle.std.proofs.lemmas.Bool.{false≢true, eqb-true, false_from_ne_true}
use Rattle.std.proofs.lemmas.Option.{same_Some}
use Rattle.sched_time.specs.declared.timing.Timing.{Timing}
use Rattle.sched_time.specs.declared.policies.Policies.{Policies}
use Rattle.sched_time.specs.declared.timing.Ending.{Ending}
use Rattle.executor_model.specs.declared.types.CancelEffect.TheVariants as f
use Rattle.executor_model.specs.declared.types.Outcome.{Outcome}
use Rattle.executor_model.specs.declared.types.Outcome.TheVariants as o
use Rattle.executor_model.specs.declared.task.Stage.TheVariants as ph
use Rattle.executor_model.specs.Answers.{outcome_in}
use Rattle.executor_model.proofs.Tables.{at_set}
use Rattle.task_table.specs.declared.seat.Seat.{Seat}
use Rattle.task_table.specs.Seats.{task_in, slot_of, is_waiting_in, is_running_in, waits, is_alive}
use Rattle.task_table.specs.Tables.{TableView}
use Rattle.task_table.specs.Ends.{effect_of}
use Rattle.task_table.specs.Changes.{put, submitted, at_moment, admitted, begun, started, ended, finished, cancelled, cancel_by, cancel_in, emptied, grown, unkept}
use Rattle.task_table.specs.Formed.{IsFormed}
use Rattle.task_table.specs.Orders.{with_key}
use Rattle.task_table.specs.own.Queues.{Queues, key_where, queued_key, kept_key, key_again, key_cancelled}
use Rattle.task_table.proofs.Written.{slot_within}
use Rattle.task_table.proofs.Formed.{at_grown}

-- ---- a change that leaves what the slots hold

-- what stands in the queues depends on the slots alone
pub queues_alike : (m n : TableView) (entries kept : ℕ → Option (ℕ × ℕ)) → ((i : ℕ) → slot_of n.slots i ≡ slot_of m.slots i) → Queues m entries kept → Queues n entries kept
queues_alike m n entries kept same q = record { waiting = λ i. q.waiting i ∙ ap queued_key (sym (same i)); keeping = λ i. q.keeping i ∙ ap kept_key (sym (same i)) }

pub queues_moment : (m : TableView) (at : ℕ) (entries kept : ℕ → Option (ℕ × ℕ)) → Queues m entries kept → Queues (at_moment m at) entries kept
queues_moment m at entries kept = queues_alike m (at_moment m at) entries kept (λ i. refl)

pub queues_under : (m : TableView) (policies : Policies) (shut stopped : Bool) (entries kept : ℕ → Option (ℕ × ℕ)) → Queues m entries kept → Queues (record m { policies = policies; shut = shut; stopped = stopped }) entries kept
queues_under m policies shut stopped entries kept = queues_alike m (record m { policies = policies; shut = shut; stopped = stopped }) entries kept (λ i. refl)

pub queues_grown : (m : TableView) (slots : ℕ) (entries kept : ℕ → Option (ℕ × ℕ)) → Queues m entries kept → Queues (grown m slots) entries kept
queues_grown m slots entries kept = queues_alike m (grown m slots) entries kept (at_grown m.slots (slots - length m.slots))

-- ---- one slot is written

-- what a slot says, by what is written in one
read_key : (key : Option Seat → Option (ℕ × ℕ)) (slots : List (Option Seat)) (slot i : ℕ) (x : Option Seat) (entries : ℕ → Option (ℕ × ℕ)) → slot < length slots → ((i : ℕ) → entries i ≡ key (slot_of slots i)) →
    with_key entries slot (key x) i ≡ key (slot_of (set slots slot x) i)
read_key key slots slot i x entries low is = by (slot == i) ∙ ap key (sym (at_set slots slot i x None low))
  where
    by : (b : Bool) → cond b (key x) (entries i) ≡ key (cond b x (slot_of slots i))
    by true = refl
    by false = is i

-- a queue at whose slot the same is written stays as it is
pub same_key : (entries : ℕ → Option (ℕ × ℕ)) (slot : ℕ) (key : Option (ℕ × ℕ)) → entries slot ≡ key → (i : ℕ) → entries i ≡ with_key entries slot key i
same_key entries slot key is i = by (slot == i) refl
  where
    by : (b : Bool) → (slot == i) ≡ b → entries i ≡ cond b key (entries i)
    by true here = sym (ap entries (eqb-true slot i here)) ∙ is
    by false other = refl

-- what stands in the queues once a slot holds this
pub queues_write : (m n : TableView) (slot : ℕ) (x : Option Seat) (entries kept : ℕ → Option (ℕ × ℕ)) → slot < length m.slots → n.slots ≡ set m.slots slot x → Queues m entries kept →
    Queues n (with_key entries slot (queued_key x)) (with_key kept slot (kept_key x))
queues_write m n slot x entries kept low is q = record {
  waiting = λ i. read_key queued_key m.slots slot i x entries low q.waiting ∙ ap (λ slots. queued_key (slot_of slots i)) (sym is);
  keeping = λ i. read_key kept_key m.slots slot i x kept low q.keeping ∙ ap (λ slots. kept_key (slot_of slots i)) (sym is);
}

-- the same, where these are what the slot says
queues_to : (m n : TableView) (slot : ℕ) (x : Option Seat) (key held : Option (ℕ × ℕ)) (entries kept : ℕ → Option (ℕ × ℕ)) → slot < length m.slots → n.slots ≡ set m.slots slot x → queued_key x ≡ key → kept_key x ≡ held →
    Queues m entries kept → Queues n (with_key entries slot key) (with_key kept slot held)
queues_to m n slot x key held entries kept low is queued holds q =
    let w = queues_write m n slot x entries kept low is q in
    record { waiting = λ i. ap (λ k. with_key entries slot k i) (sym queued) ∙ w.waiting i; keeping = λ i. ap (λ k. with_key kept slot k i) (sym holds) ∙ w.keeping i }

-- the same, where the kept ones stay
pub queues_but_kept : (m n : TableView) (slot : ℕ) (x : Option Seat) (key : Option (ℕ × ℕ)) (entries kept : ℕ → Option (ℕ × ℕ)) → slot < length m.slots → n.slots ≡ set m.slots slot x → queued_key x ≡ key →
    kept_key x ≡ kept_key (slot_of m.slots slot) → Queues m entries kept → Queues n (with_key entries slot key) kept
queues_but_kept m n slot x key entries kept low is queued holds q =
    let w = queues_to m n slot x key (kept_key (slot_of m.slots slot)) entries kept low is queued holds q in
    record { waiting = w.waiting; keeping = λ i. same_key kept slot (kept_key (slot_of m.slots slot)) (q.keeping slot) i ∙ w.keeping i }

-- ---- a task is accepted, and leaves its slot

pub queues_admitted : (m : TableView) (slot number at : ℕ) (timing : Timing) (delay : ℕ) (entries kept : ℕ → Option (ℕ × ℕ)) → slot_of m.slots slot ≡ None → slot < length m.slots → Queues m entries kept →
    Queues (admitted m slot number at timing delay) (with_key entries slot (Some (at + delay, number))) kept
queues_admitted m slot number at timing delay entries kept empty low q =
    queues_but_kept m (admitted m slot number at timing delay) slot (Some (submitted number timing (at + delay))) (Some (at + delay, number)) entries kept low refl refl (ap kept_key (sym empty)) q

-- a task that is over stands in no queue
over_parts : (wait kept run : Bool) → ((wait || kept) || run) ≡ false → (wait ≡ false) × (kept ≡ false)
over_parts true kept run q = absurd (false≢true (sym q))
over_parts false true run q = absurd (false≢true (sym q))
over_parts false false run q = (refl, refl)

pub queues_emptied : (m : TableView) (slot : ℕ) (x : Seat) (entries kept : ℕ → Option (ℕ × ℕ)) → slot_of m.slots slot ≡ Some x → is_alive (task_in x) ≡ false → Queues m entries kept → Queues (emptied m slot) entries kept
queues_emptied m slot x entries kept there over q =
    let parts = over_parts (waits (task_in x)) x.kept (is_running_in x.phase) over in
    let out : entries slot ≡ None = q.waiting slot ∙ (ap queued_key there ∙ ap (λ b. key_where b x) parts.0) in
    let w = queues_but_kept m (emptied m slot) slot None None entries kept (slot_within m.slots slot x there) refl refl (sym (ap kept_key there ∙ ap (λ b. key_where b x) parts.1)) q in
    record { waiting = λ i. same_key entries slot None out i ∙ w.waiting i; keeping = w.keeping }

-- ---- starts and finishes

pub queues_started : (m : TableView) (worker slot : ℕ) (x : Seat) (entries kept : ℕ → Option (ℕ × ℕ)) → slot_of m.slots slot ≡ Some x → Queues m entries kept → Queues (started m worker slot x) (with_key entries slot None) kept
queues_started m worker slot x entries kept there q =
    queues_but_kept m (started m worker slot x) slot (Some (begun x)) None entries kept (slot_within m.slots slot x there) refl refl (ap kept_key (sym there)) q

-- only a task that was not cancelled goes on
goes_on : (gone stops : Bool) (timing : Timing) (due next : ℕ) (ending : Ending) → outcome_in gone stops timing due ending ≡ o.Again next → gone ≡ false
goes_on true stops timing due next ending q = cc
goes_on false stops timing due next ending q = refl

-- a task whose run ended waits where it goes on
queued_ended : (outcome : Outcome) (due : ℕ) (x : Seat) → ((next : ℕ) → outcome ≡ o.Again next → x.cancelled ≡ false) → queued_key (Some (ended outcome due x)) ≡ key_again outcome due x.number
queued_ended (o.Done value) due x live = refl
queued_ended (o.Failed code) due x live = refl
queued_ended o.Dropped due x live = refl
queued_ended o.Ended due x live = refl
queued_ended (o.Again next) due x live = ap (λ b. cond (not b) (Some (due, x.number)) None) (live next refl)

-- it is kept as before
kept_ended : (outcome : Outcome) (due : ℕ) (x : Seat) → x.kept ≡ false → kept_key (Some (ended outcome due x)) ≡ None
kept_ended (o.Done value) due x out = ap (λ b. cond b (Some (due, x.number)) None) out
kept_ended (o.Failed code) due x out = ap (λ b. cond b (Some (due, x.number)) None) out
kept_ended o.Dropped due x out = ap (λ b. cond b (Some (due, x.number)) None) out
kept_ended o.Ended due x out = ap (λ b. cond b (Some (due, x.number)) None) out
kept_ended (o.Again next) due x out = ap (λ b. cond b (Some (due, x.number)) None) out

pub queues_finished : (m : TableView) (worker slot : ℕ) (x : Seat) (stops : Bool) (ending : Ending) (outcome : Outcome) (due : ℕ) (entries kept : ℕ → Option (ℕ × ℕ)) → IsFormed m → slice_index_or m.work worker None ≡ Some slot →
    slot_of m.slots slot ≡ Some x → outcome ≡ outcome_in x.cancelled stops x.timing due ending → Queues m entries kept →
    Queues (finished m worker slot x outcome due) (with_key entries slot (key_again outcome due x.number)) kept
queues_finished m worker slot x stops ending outcome due entries kept formed busy there is q =
    queues_but_kept m (finished m worker slot x outcome due) slot (Some (ended outcome due x)) (key_again outcome due x.number) entries kept (slot_within m.slots slot x there) refl
    (queued_ended outcome due x (λ next again. goes_on x.cancelled stops x.timing due next ending (sym is ∙ again)))
    (kept_ended outcome due x out ∙ sym (ap kept_key there ∙ ap (λ b. key_where b x) out))
    q
  where
    out : x.kept ≡ false
    out = false_from_ne_true x.kept (λ held.
        let at = formed.staffed worker slot busy in
        let clash : ph.Waiting ≡ ph.Running = sym ((formed.seated slot x there).kept held).0 ∙ (ap (λ (z : Seat). z.phase) (same_Some x at.0 (sym there ∙ at.1)) ∙ at.2) in
        absurd cc)

-- ---- cancels and kept tasks

-- what has the effect was not cancelled before
was_live : (b gone : Bool) → cond (b && not gone) f.Yes f.No ≡ f.Yes → gone ≡ false
was_live b false q = refl
was_live true true q = absurd cc
was_live false true q = absurd cc

pub queues_cancelled : (m : TableView) (slot : ℕ) (x : Seat) (entries kept : ℕ → Option (ℕ × ℕ)) → IsFormed m → slot_of m.slots slot ≡ Some x → effect_of x ≡ f.Yes → Queues m entries kept →
    Queues (cancel_in m slot x) (with_key entries slot None) (with_key kept slot (key_cancelled m.policies.removes x))
queues_cancelled m slot x entries kept formed there did q =
    subst (λ effect. Queues (cancel_by effect m slot x) (with_key entries slot None) (with_key kept slot (key_cancelled m.policies.removes x))) (sym did)
    (queues_to m (put m slot (cancelled m.policies.removes x)) slot (Some (cancelled m.policies.removes x)) None (key_cancelled m.policies.removes x) entries kept (slot_within m.slots slot x there) refl (none (is_waiting_in x.phase)) holds q)
  where
    none : (b : Bool) → key_where (b && false) x ≡ None
    none true = refl
    none false = refl

    live : x.cancelled ≡ false
    live = was_live (is_waiting_in x.phase || is_running_in x.phase) x.cancelled did

    out : x.kept ≡ false
    out = false_from_ne_true x.kept (λ held. absurd (false≢true (sym live ∙ ((formed.seated slot x there).kept held).1)))

    holds : kept_key (Some (cancelled m.policies.removes x)) ≡ key_cancelled m.policies.removes x
    holds = ap (λ b. key_where (b || (is_waiting_in x.phase && not m.policies.removes)) x) out

pub queues_unkept : (m : TableView) (slot : ℕ) (x : Seat) (entries kept : ℕ → Option (ℕ × ℕ)) → slot_of m.slots slot ≡ Some x → Queues m entries kept → Queues (put m slot (unkept x)) entries (with_key kept slot None)
queues_unkept m slot x entries kept there q =
    let w = queues_to m (put m slot (unkept x)) slot (Some (unkept x)) (queued_key (Some x)) None entries kept (slot_within m.slots slot x there) refl refl refl q in
    record { waiting = λ i. same_key entries slot (queued_key (Some x)) (q.waiting slot ∙ ap queued_key there) i ∙ w.waiting i; keeping = w.keeping }
