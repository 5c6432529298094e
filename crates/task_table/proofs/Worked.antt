-- A table and its two queues stay as they should be where a run begins and ends, and where a task is cancelled or kept no more.
use Rattle.std.proofs.Common.{◌≡◌, ℕ, ◌+◌, ◌^◌, ◌<◌, ◌≤◌, ◌&&◌, ◌||◌, Bool, true, false, cond, Option, Some, None, refl, sym, ap, ◌∙◌, arith, subst}
use Rattle.std.specs.Prelude.{slice_index_or, not}
use Rattle.std.proofs.lemmas.Bool.{false≢true, false_from_ne_true}
use Rattle.std.proofs.lemmas.Option.{same_Some}
use Rattle.sched_time.specs.Times.{longest}
use Rattle.sched_time.specs.declared.timing.Ending.{Ending}
use Rattle.sched_time.specs.declared.policies.Policies.{Policies}
use Rattle.executor_model.specs.Answers.{outcome_in}
use Rattle.executor_model.specs.State.{due_past}
use Rattle.executor_model.specs.declared.task.Stage.TheVariants as ph
use Rattle.executor_model.specs.declared.types.CancelEffect.{CancelEffect}
use Rattle.executor_model.specs.declared.types.CancelEffect.TheVariants as f
use Rattle.executor_model.specs.declared.types.Outcome.{Outcome}
use Rattle.executor_model.specs.declared.types.Outcome.TheVariants as o
use Rattle.task_table.specs.declared.seat.Seat.{Seat}
use Rattle.task_table.specs.Seats.{slot_of, is_waiting_in, is_running_in}
use Rattle.task_table.specs.Tables.{TableView, workers_of}
use Rattle.task_table.specs.Firsts.{IsFirstDue}
use Rattle.task_table.specs.Ends.{effect_of}
use Rattle.task_table.specs.Changes.{put, at_moment, begun, started, finished, ended, cancelled, cancelled_keeping, cancel_by, cancel_in, unkept}
use Rattle.task_table.specs.Formed.{IsFormed}
use Rattle.task_table.specs.own.Working.{IsAtWork}
use Rattle.task_table.specs.Orders.{with_key}
use Rattle.task_table.specs.own.Queues.{queued_key, kept_key, key_where, key_again, is_again, key_cancelled, Queues, IsTable}
use Rattle.task_table.proofs.Written.{slot_within}
use Rattle.task_table.proofs.Formed.{formed_moment, formed_under}
use Rattle.task_table.proofs.FormedWork.{formed_put, formed_started, formed_finished, formed_cancelled, formed_unkept}
use Rattle.task_table.proofs.Queued.{queues_moment, queues_under, queues_but_kept, same_key, queues_started, queues_finished, queues_cancelled, queues_unkept}
use Rattle.task_table.proofs.Tabled.{queues_as, tabled_put}

-- ---- a run begins

pub tabled_started : {a : ℕ → ℕ → Bool} {r : ℕ → Bool} {room spare : ℕ} (m : TableView) (worker slot : ℕ) (x : Seat) (entries kept after : ℕ → Option (ℕ × ℕ)) → IsTable a r m entries kept room spare → worker < workers_of m →
    slice_index_or m.work worker None ≡ None → IsFirstDue m slot x → x.run + 1 < 2 ^ 64 → r x.run ≡ true → ((i : ℕ) → with_key entries slot None i ≡ after i) → IsTable a r (started m worker slot x) after kept room spare
tabled_started m worker slot x entries kept after t low idle first few may is =
    let n = started m worker slot x in
    tabled_put m n slot (begun x) entries kept after kept t (formed_started m worker slot x t.formed low idle first few) refl (slot_within m.slots slot x first.there) (t.fits slot x first.there) (λ q. may)
    (queues_as n (with_key entries slot None) kept after kept (queues_started m worker slot x entries kept first.there t.queues) is (λ i. refl))

-- ---- a run ends

-- the task that a worker runs
pub at_work : (m : TableView) (worker slot : ℕ) (x : Seat) → IsFormed m → slice_index_or m.work worker None ≡ Some slot → slot_of m.slots slot ≡ Some x → IsAtWork m.moment x
at_work m worker slot x formed busy there =
    let at = formed.staffed worker slot busy in
    let runs : x.phase ≡ ph.Running = ap (λ (z : Seat). z.phase) (same_Some x at.0 (sym there ∙ at.1)) ∙ at.2 in
    let s = formed.seated slot x there in
    record { runs = runs; due = omega (arith, s.reached runs, formed.moment); room = s.room runs }

-- a task that runs does not wait
idle_key : (x : Seat) → x.phase ≡ ph.Running → queued_key (Some x) ≡ None
idle_key x runs = ap (λ p. key_where (is_waiting_in p && not x.cancelled) x) runs

-- it has no entry
pub busy_absent : {a : ℕ → ℕ → Bool} {r : ℕ → Bool} {room spare : ℕ} (m : TableView) (slot : ℕ) (x : Seat) (entries kept : ℕ → Option (ℕ × ℕ)) → IsTable a r m entries kept room spare → slot_of m.slots slot ≡ Some x → x.phase ≡ ph.Running →
    entries slot ≡ None
busy_absent m slot x entries kept t there runs = t.queues.waiting slot ∙ (ap queued_key there ∙ idle_key x runs)

-- a run that ended is no more under way, and its task keeps its number
ended_number : (outcome : Outcome) (due : ℕ) (x : Seat) → (ended outcome due x).number ≡ x.number
ended_number (o.Done value) due x = refl
ended_number (o.Failed code) due x = refl
ended_number o.Dropped due x = refl
ended_number o.Ended due x = refl
ended_number (o.Again next) due x = refl

ended_idle : (outcome : Outcome) (due : ℕ) (x : Seat) → (ended outcome due x).phase ≡ ph.Running → ⊥
ended_idle (o.Done value) due x q = cc
ended_idle (o.Failed code) due x q = cc
ended_idle o.Dropped due x q = cc
ended_idle o.Ended due x q = cc
ended_idle (o.Again next) due x q = cc

-- a table once a run ended
ended_by : {a : ℕ → ℕ → Bool} {r : ℕ → Bool} {room spare : ℕ} (m : TableView) (worker slot : ℕ) (x : Seat) (stops : Bool) (ending : Ending) (outcome : Outcome) (due : ℕ) (entries kept after : ℕ → Option (ℕ × ℕ)) →
    IsTable a r m entries kept room spare → slice_index_or m.work worker None ≡ Some slot → slot_of m.slots slot ≡ Some x → due ≡ due_past x.timing x.due m.moment → outcome ≡ outcome_in x.cancelled stops x.timing due ending →
    ((i : ℕ) → with_key entries slot (key_again outcome due x.number) i ≡ after i) → IsTable a r (finished m worker slot x outcome due) after kept room spare
ended_by {a = a} m worker slot x stops ending outcome due entries kept after t busy there dues is same =
    let n = finished m worker slot x outcome due in
    tabled_put m n slot (ended outcome due x) entries kept after kept t (formed_finished m worker slot x stops ending outcome due t.formed busy there dues is) refl (slot_within m.slots slot x there)
    (ap (a slot) (ended_number outcome due x) ∙ t.fits slot x there) (λ q. absurd (ended_idle outcome due x q))
    (queues_as n (with_key entries slot (key_again outcome due x.number)) kept after kept (queues_finished m worker slot x stops ending outcome due entries kept t.formed busy there is t.queues) same (λ i. refl))

again_key : (outcome : Outcome) (due number : ℕ) → is_again outcome ≡ true → key_again outcome due number ≡ Some (due, number)
again_key (o.Again next) due number again = refl
again_key (o.Done value) due number again = absurd (false≢true again)
again_key (o.Failed code) due number again = absurd (false≢true again)
again_key o.Dropped due number again = absurd (false≢true again)
again_key o.Ended due number again = absurd (false≢true again)

over_key : (outcome : Outcome) (due number : ℕ) → is_again outcome ≡ false → key_again outcome due number ≡ None
over_key (o.Done value) due number over = refl
over_key (o.Failed code) due number over = refl
over_key o.Dropped due number over = refl
over_key o.Ended due number over = refl
over_key (o.Again next) due number over = absurd (false≢true (sym over))

-- a run ends so that its task goes on in one way alone
pub not_again : (outcome : Outcome) → ((next : ℕ) → outcome ≡ o.Again next → ⊥) → is_again outcome ≡ false
not_again (o.Again next) none = absurd (none next refl)
not_again (o.Done value) none = refl
not_again (o.Failed code) none = refl
not_again o.Dropped none = refl
not_again o.Ended none = refl

-- the task waits for its next run, and has an entry again
pub tabled_again : {a : ℕ → ℕ → Bool} {r : ℕ → Bool} {room spare : ℕ} (m : TableView) (worker slot : ℕ) (x : Seat) (stops : Bool) (ending : Ending) (outcome : Outcome) (due : ℕ) (entries kept after : ℕ → Option (ℕ × ℕ)) →
    IsTable a r m entries kept room spare → slice_index_or m.work worker None ≡ Some slot → slot_of m.slots slot ≡ Some x → due ≡ due_past x.timing x.due m.moment → outcome ≡ outcome_in x.cancelled stops x.timing due ending →
    is_again outcome ≡ true → ((i : ℕ) → with_key entries slot (Some (due, x.number)) i ≡ after i) → IsTable a r (finished m worker slot x outcome due) after kept room spare
tabled_again m worker slot x stops ending outcome due entries kept after t busy there dues is again put_in =
    ended_by m worker slot x stops ending outcome due entries kept after t busy there dues is (λ i. ap (λ (k : Option (ℕ × ℕ)). with_key entries slot k i) (again_key outcome due x.number again) ∙ put_in i)

-- it is over, and has none
pub tabled_over : {a : ℕ → ℕ → Bool} {r : ℕ → Bool} {room spare : ℕ} (m : TableView) (worker slot : ℕ) (x : Seat) (stops : Bool) (ending : Ending) (outcome : Outcome) (due : ℕ) (entries kept : ℕ → Option (ℕ × ℕ)) →
    IsTable a r m entries kept room spare → slice_index_or m.work worker None ≡ Some slot → slot_of m.slots slot ≡ Some x → due ≡ due_past x.timing x.due m.moment → outcome ≡ outcome_in x.cancelled stops x.timing due ending →
    is_again outcome ≡ false → IsTable a r (finished m worker slot x outcome due) entries kept room spare
tabled_over m worker slot x stops ending outcome due entries kept t busy there dues is over =
    let runs = (at_work m worker slot x t.formed busy there).runs in
    let out : entries slot ≡ None = busy_absent m slot x entries kept t there runs in
    ended_by m worker slot x stops ending outcome due entries kept entries t busy there dues is
    (λ i. ap (λ (k : Option (ℕ × ℕ)). with_key entries slot k i) (over_key outcome due x.number over) ∙ sym (same_key entries slot None out i))

-- ---- a task is cancelled

was_live : (b gone : Bool) → cond (b && not gone) f.Yes f.No ≡ f.Yes → gone ≡ false
was_live b false q = refl
was_live true true q = absurd cc
was_live false true q = absurd cc

-- a task that a cancel cancels was not cancelled
pub was_uncancelled : (x : Seat) → effect_of x ≡ f.Yes → x.cancelled ≡ false
was_uncancelled x did = was_live (is_waiting_in x.phase || is_running_in x.phase) x.cancelled did

-- it is not kept
pub not_kept : (m : TableView) (slot : ℕ) (x : Seat) → IsFormed m → slot_of m.slots slot ≡ Some x → effect_of x ≡ f.Yes → x.kept ≡ false
not_kept m slot x formed there did = false_from_ne_true x.kept (λ held. absurd (false≢true (sym (was_uncancelled x did) ∙ ((formed.seated slot x there).kept held).1)))

-- it has no entry among the kept ones
pub kept_absent : {a : ℕ → ℕ → Bool} {r : ℕ → Bool} {room spare : ℕ} (m : TableView) (slot : ℕ) (x : Seat) (entries kept : ℕ → Option (ℕ × ℕ)) → IsTable a r m entries kept room spare → slot_of m.slots slot ≡ Some x → effect_of x ≡ f.Yes →
    kept slot ≡ None
kept_absent m slot x entries kept t there did = t.queues.keeping slot ∙ (ap kept_key there ∙ ap (λ b. key_where b x) (not_kept m slot x t.formed there did))

-- a table once the task is cancelled
cancelled_by : {a : ℕ → ℕ → Bool} {r : ℕ → Bool} {room spare : ℕ} (m : TableView) (slot : ℕ) (x : Seat) (entries kept after held : ℕ → Option (ℕ × ℕ)) → IsTable a r m entries kept room spare → slot_of m.slots slot ≡ Some x →
    effect_of x ≡ f.Yes → ((i : ℕ) → with_key entries slot None i ≡ after i) → ((i : ℕ) → with_key kept slot (key_cancelled m.policies.removes x) i ≡ held i) → IsTable a r (put m slot (cancelled m.policies.removes x)) after held room spare
cancelled_by m slot x entries kept after held t there did is same =
    let n = put m slot (cancelled m.policies.removes x) in
    tabled_put m n slot (cancelled m.policies.removes x) entries kept after held t (subst (λ e. IsFormed (cancel_by e m slot x)) did (formed_cancelled m slot x t.formed there)) refl (slot_within m.slots slot x there)
    (t.fits slot x there) (t.runs slot x there)
    (queues_as n (with_key entries slot None) (with_key kept slot (key_cancelled m.policies.removes x)) after held
    (subst (λ e. Queues (cancel_by e m slot x) (with_key entries slot None) (with_key kept slot (key_cancelled m.policies.removes x))) did (queues_cancelled m slot x entries kept t.formed there did t.queues)) is same)

-- it waited, and is kept
pub tabled_kept : {a : ℕ → ℕ → Bool} {r : ℕ → Bool} {room spare : ℕ} (m : TableView) (slot : ℕ) (x : Seat) (entries kept after held : ℕ → Option (ℕ × ℕ)) → IsTable a r m entries kept room spare → slot_of m.slots slot ≡ Some x →
    effect_of x ≡ f.Yes → (is_waiting_in x.phase && not m.policies.removes) ≡ true → ((i : ℕ) → with_key entries slot None i ≡ after i) → ((i : ℕ) → with_key kept slot (Some (x.due, x.number)) i ≡ held i) →
    IsTable a r (put m slot (cancelled m.policies.removes x)) after held room spare
tabled_kept m slot x entries kept after held t there did stays is also =
    cancelled_by m slot x entries kept after held t there did is (λ i. ap (λ b. with_key kept slot (key_where b x) i) stays ∙ also i)

-- it is not kept
pub tabled_gone : {a : ℕ → ℕ → Bool} {r : ℕ → Bool} {room spare : ℕ} (m : TableView) (slot : ℕ) (x : Seat) (entries kept after : ℕ → Option (ℕ × ℕ)) → IsTable a r m entries kept room spare → slot_of m.slots slot ≡ Some x →
    effect_of x ≡ f.Yes → (is_waiting_in x.phase && not m.policies.removes) ≡ false → ((i : ℕ) → with_key entries slot None i ≡ after i) → IsTable a r (put m slot (cancelled m.policies.removes x)) after kept room spare
tabled_gone m slot x entries kept after t there did leaves is =
    let out = kept_absent m slot x entries kept t there did in
    cancelled_by m slot x entries kept after kept t there did is (λ i. ap (λ b. with_key kept slot (key_where b x) i) leaves ∙ sym (same_key kept slot None out i))

-- ---- a task is kept no more

pub tabled_unkept : {a : ℕ → ℕ → Bool} {r : ℕ → Bool} {room spare : ℕ} (m : TableView) (slot : ℕ) (x : Seat) (entries kept held : ℕ → Option (ℕ × ℕ)) → IsTable a r m entries kept room spare → slot_of m.slots slot ≡ Some x →
    ((i : ℕ) → with_key kept slot None i ≡ held i) → IsTable a r (put m slot (unkept x)) entries held room spare
tabled_unkept m slot x entries kept held t there is =
    let n = put m slot (unkept x) in
    tabled_put m n slot (unkept x) entries kept entries held t (formed_unkept m slot x t.formed there) refl (slot_within m.slots slot x there) (t.fits slot x there) (t.runs slot x there)
    (queues_as n entries (with_key kept slot None) entries held (queues_unkept m slot x entries kept there t.queues) (λ i. refl) is)

-- a cancel leaves the moment
pub cancel_moment : (m : TableView) (slot : ℕ) (x : Seat) → (cancel_in m slot x).moment ≡ m.moment
cancel_moment m slot x = by (effect_of x)
  where
    by : (e : CancelEffect) → (cancel_by e m slot x).moment ≡ m.moment
    by f.Yes = refl
    by f.No = refl
    by f.Absent = refl

-- ---- a sweep ends a task

-- a task that waited and is cancelled waits no more
no_key : (x : Seat) → queued_key (Some (record x { cancelled = true })) ≡ None
no_key x = by (is_waiting_in x.phase)
  where
    by : (b : Bool) → key_where (b && false) (record x { cancelled = true }) ≡ None
    by true = refl
    by false = refl

pub tabled_ended : {a : ℕ → ℕ → Bool} {r : ℕ → Bool} {room spare : ℕ} (m : TableView) (slot : ℕ) (x : Seat) (entries kept after : ℕ → Option (ℕ × ℕ)) → IsTable a r m entries kept room spare → slot_of m.slots slot ≡ Some x →
    ((i : ℕ) → with_key entries slot None i ≡ after i) → IsTable a r (put m slot (record x { cancelled = true })) after kept room spare
tabled_ended m slot x entries kept after t there is =
    let y : Seat = record x { cancelled = true } in
    let s = t.formed.seated slot x there in
    let low = slot_within m.slots slot x there in
    tabled_put m (put m slot y) slot y entries kept after kept t
    (formed_put m slot x y t.formed there refl (record { submitted = s.submitted; due = s.due; timed = s.timed; reached = s.reached; room = s.room; kept = λ q. ((s.kept q).0, refl); over = λ q. refl }) (λ runs. runs))
    refl low (t.fits slot x there) (t.runs slot x there)
    (queues_as (put m slot y) (with_key entries slot None) kept after kept (queues_but_kept m (put m slot y) slot (Some y) None entries kept low refl (no_key x) (ap kept_key (sym there)) t.queues) is (λ i. refl))

-- a task that is cancelled, and kept no longer than it was
pub ends_as : (x : Seat) → cancelled_keeping false x ≡ record x { cancelled = true }
ends_as x = by x.kept
  where
    by : (b : Bool) → record x { cancelled = true; kept = b || false } ≡ record x { cancelled = true; kept = b }
    by true = refl
    by false = refl

-- ---- the table is at another moment, under other policies

pub tabled_settled : {a : ℕ → ℕ → Bool} {r : ℕ → Bool} {room spare : ℕ} (m : TableView) (at : ℕ) (policies : Policies) (shut stopped : Bool) (entries kept : ℕ → Option (ℕ × ℕ)) → IsTable a r m entries kept room spare → m.moment ≤ at →
    at ≤ longest → IsTable a r (record m { moment = at; policies = policies; shut = shut; stopped = stopped }) entries kept room spare
tabled_settled m at policies shut stopped entries kept t ahead near = record {
  formed = formed_under (at_moment m at) policies shut stopped (formed_moment m at t.formed ahead near);
  queues = queues_under (at_moment m at) policies shut stopped entries kept (queues_moment m at entries kept t.queues);
  room = t.room;
  spare = t.spare;
  fits = t.fits;
  runs = t.runs;
}
