-- What an ask tells, by the positions before it.
use Rattle.std.proofs.Common.{◌≡◌, ℕ, ◌+◌, ◌<◌, ◌==◌, ◌&&◌, ◌||◌, ◌⊎◌, nat_lt, Bool, true, false, cond, inl, inr, List, [], ◌∷◌, length, refl, sym, ap, ◌∙◌, arith, subst}
use Rattle.std.specs.Prelude.{◌↔◌, not}
use Rattle.std.specs.List.{filter}
use Rattle.std.proofs.lemmas.Bool.{not-true, not-false, and_from, and_parts, or_cases, or_left, or_right, or_parts, or_from, not_from_false, eqb-true, eqb-false, eq-eqb, ne_eqb, lt-ltb}
use Rattle.executor_model.specs.declared.types.Answer.TheVariants as a
use Rattle.queue_code.specs.Calls.{Planned, how_many, numbers, task_count}
use Rattle.executor_model.specs.View.{is_running, is_over, is_waiting}
use Rattle.executor_model.specs.Answers.{reply, is_queued, queue_size, running_count, is_terminated}
use Rattle.executor_model.specs.Histories.{HistoryEntry, IsHistoryOf, view_of_history, starts, finishes, was_shut}
use Rattle.executor_laws.specs.Policies.{KeptSince}
use Rattle.executor_laws.specs.Asks.{Waits, IsUnderWay, IsCountOf, AsksByPosition}
use Rattle.executor_laws.proofs.StartLaws.{means_front}
use Rattle.executor_laws.proofs.Replies.{IsAsk, told, ask_says, end_parts}
use Rattle.executor_laws.proofs.Policies.{ascends, ends_within, shut_is_a_shutdown}
use Rattle.executor_laws.proofs.Termination.{queued_and_running_are_tasks}
use Rattle.executor_laws.proofs.Kept.{kept_by_positions}

-- ---- the numbers that are counted

count_is_length : (test : ℕ → Bool) (ks : List ℕ) → length (filter test ks) ≡ how_many test ks
count_is_length test [] = refl
count_is_length test (k ∷ ks) =
    let pick : (b : Bool) → length (cond b (k ∷ filter test ks) (filter test ks)) ≡ cond b (1 + how_many test ks) (how_many test ks) =
    elim [ true ↦ omega (arith, count_is_length test ks) | false ↦ count_is_length test ks ]
    in
    pick (test k)

-- the tasks of a plan that pass a test are counted, where no other number passes it
counted : (calls : List Planned) (test : ℕ → Bool) (IsSo : ℕ → Type 0) → ((k : ℕ) → (test k ≡ true) ↔ IsSo k) → ((k : ℕ) → test k ≡ true → k < task_count calls) → IsCountOf IsSo (how_many test (numbers calls))
counted calls test IsSo same within = record {
  those = filter test (numbers calls);
  ascending = ascends test 0 0 (task_count calls) (omega arith);
  exact = λ k. (
    λ there. (same k).0 (end_parts test (numbers calls) k there).1,
    λ is. let passes = (same k).1 is in ends_within test (task_count calls) k ∙ and_from (nat_lt k (task_count calls)) (test k) (lt-ltb k (task_count calls) (within k passes)) passes,
  );
  number = count_is_length test (numbers calls);
}

-- ---- the tasks in the queue, and those that are run

finished_all : (n m : ℕ) → not (n == m) ≡ false → n ≡ m
finished_all n m q = eqb-true n m (not-false (n == m) q)

waits : (calls : List Planned) (past : List HistoryEntry) (k : ℕ) → (is_waiting ((view_of_history calls past).fate k) ≡ true) ↔ Waits past k
waits calls past k =
    let fate = (view_of_history calls past).fate k in (
      λ q.
          let parts = and_parts fate.accepted (not (is_running fate) && not (is_over fate)) q in
          let rest = and_parts (not (is_running fate)) (not (is_over fate)) parts.1 in
          let over = or_parts fate.cancelled (fate.failed || fate.done) (not-true (is_over fate) rest.1) in
          let ends = or_parts fate.failed fate.done over.1 in
          record { accepted = parts.0; rests = finished_all fate.starts fate.finishes (not-true (is_running fate) rest.0); uncancelled = over.0; undone = ends.1; unfailed = ends.0 },
      λ w.
          let idle : is_running fate ≡ false = ap not (eq-eqb fate.starts fate.finishes w.rests) in
          let over = or_from fate.cancelled (fate.failed || fate.done) w.uncancelled (or_from fate.failed fate.done w.unfailed w.undone) in
          and_from fate.accepted _ w.accepted (and_from (not (is_running fate)) _ (not_from_false (is_running fate) idle) (not_from_false (is_over fate) over)),
    )

queued : (calls : List Planned) (workers : ℕ) (past : List HistoryEntry) (k : ℕ) → IsHistoryOf calls workers past → (is_queued ((view_of_history calls past).fate k) ≡ true) ↔ (Waits past k ⊎ KeptSince calls past k)
queued calls workers past k m =
    let fate = (view_of_history calls past).fate k in
    let waiting = waits calls past k in
    let kept = kept_by_positions calls workers past k m in (
      λ q. elim (or_cases (is_waiting fate) fate.kept q) [ inl w ↦ inl (waiting.0 w) | inr s ↦ inr (kept.0 s) ],
      elim [ inl w ↦ or_left (is_waiting fate) fate.kept (waiting.1 w) | inr s ↦ or_right (is_waiting fate) fate.kept (kept.1 s) ],
    )

under_way : (calls : List Planned) (past : List HistoryEntry) (k : ℕ) → (is_running ((view_of_history calls past).fate k) ≡ true) ↔ IsUnderWay past k
under_way calls past k = (λ q. eqb-false (starts k past) (finishes k past) (not-true (starts k past == finishes k past) q), λ apart. ap not (ne_eqb (starts k past) (finishes k past) apart))

-- the law on what an ask tells
pub asks_by_position : AsksByPosition
asks_by_position calls workers later past e queue running shut terminated o m is =
    let v = view_of_history calls past in
    let here = means_front calls workers later (e ∷ past) m in
    let said : a.Ask queue running shut terminated ≡ (reply calls workers v e.happening).answer = sym is ∙ here.2 in
    let tells : a.Ask queue running shut terminated ≡ told calls v = said ∙ ask_says calls workers v e.happening (subst IsAsk said tt) in
    let size : queue ≡ queue_size calls v = cc in
    let runs : running ≡ running_count calls v = cc in
    let closed : shut ≡ was_shut past = cc in
    let over : terminated ≡ is_terminated v.shut (queue_size calls v) (running_count calls v) = cc in
    let tasks : (k : ℕ) → (is_queued (v.fate k) ≡ true → k < task_count calls) × (is_running (v.fate k) ≡ true → k < task_count calls) = λ k. queued_and_running_are_tasks calls workers past k o here.0 in
    let shutdown = (shut_is_a_shutdown calls workers past here.0).0 in
    record {
      queued = subst (IsCountOf (λ k. Waits past k ⊎ KeptSince calls past k)) (sym size) (counted calls (λ k. is_queued (v.fate k)) _ (λ k. queued calls workers past k here.0) (λ k. (tasks k).0));
      unfinished = subst (IsCountOf (IsUnderWay past)) (sym runs) (counted calls (λ k. is_running (v.fate k)) _ (under_way calls past) (λ k. (tasks k).1));
      shut_down = (λ q. shutdown.0 (sym closed ∙ q), λ s. closed ∙ shutdown.1 s);
      ended = (
        λ q.
            let parts = and_parts v.shut ((queue_size calls v == 0) && (running_count calls v == 0)) (sym over ∙ q) in
            let none = and_parts (queue_size calls v == 0) (running_count calls v == 0) parts.1 in
            (shutdown.0 parts.0, size ∙ eqb-true (queue_size calls v) 0 none.0, runs ∙ eqb-true (running_count calls v) 0 none.1),
        λ s. over
            ∙ and_from v.shut _ (shutdown.1 s.0) (and_from (queue_size calls v == 0) _ (eq-eqb (queue_size calls v) 0 (sym size ∙ s.1)) (eq-eqb (running_count calls v) 0 (sym runs ∙ s.2))),
      );
    }
