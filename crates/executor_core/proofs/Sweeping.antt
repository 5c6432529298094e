-- The calls that sweep: which tasks they end, a line for each, and their steps.
use Rattle.std.proofs.Common.{zero, suc, ◌≡◌, ℕ, ◌+◌, ◌<◌, ◌≤◌, ◌&&◌, ◌||◌, nat_lt, Bool, true, false, cond, inl, inr, ◌⊎◌, List, [], ◌∷◌, ◌++◌, length, map, take, drop, Option, Some, None, append_assoc, refl, sym, ap, ◌∙◌, arith, subst}
use Rattle.std.specs.Prelude.{not, option_map}
use Rattle.std.specs.Option.{option_map_or}
use Rattle.std.specs.List.{filter, range_with_len}
use Rattle.std.proofs.lemmas.Bool.{false≢true}
use Rattle.std.proofs.lemmas.Bool.Decides.{nat_tests}
use Rattle.std.proofs.lemmas.List.{append-nil, get_or_past, map-append}
use Rattle.sched_time.specs.declared.timing.Timing.{Timing}
use Rattle.sched_time.specs.declared.timing.Timing.TheVariants as how
use Rattle.sched_time.specs.declared.policies.Policies.{Policies}
use Rattle.sched_time.specs.declared.policies.Which.{Which}
use Rattle.sched_time.specs.Policies.{set_policy}
use Rattle.queue_code.specs.declared.call.CodeCall.{CodeCall}
use Rattle.queue_code.specs.declared.call.CodeCall.TheVariants as c
use Rattle.queue_code.specs.Calls.{Planned, how_many}
use Rattle.executor_model.specs.declared.types.Happening.TheVariants as h
use Rattle.executor_model.specs.declared.types.Answer.{Answer}
use Rattle.executor_model.specs.declared.types.Answer.TheVariants as a
use Rattle.executor_model.specs.declared.types.Line.{Line}
use Rattle.executor_model.specs.declared.task.Task.{Task}
use Rattle.executor_model.specs.declared.task.Stage.TheVariants as ph
use Rattle.executor_model.specs.Answers.{Reply, bare, is_ended_by, setting_sweeps}
use Rattle.executor_model.specs.Histories.{HistoryEntry, is_end}
use Rattle.executor_model.specs.State.{vacant}
use Rattle.executor_model.specs.Flows.{end_line, answer_line, lines_at}
use Rattle.executor_model.specs.Tasks.{uncancelled_in}
use Rattle.executor_model.proofs.Swept.{ends_are, filter_next, filter_none, and_left, and_none, few_tasks}
use Rattle.task_table.specs.declared.seat.Seat.{Seat}
use Rattle.task_table.specs.Seats.{task_in, slot_of, waits, is_waiting_in}
use Rattle.task_table.specs.Tables.{TableView, StandsBefore, CallSteps, CallStepsBefore, IsNextCall}
use Rattle.task_table.specs.Firsts.{NoneKept}
use Rattle.task_table.specs.Ends.{is_swept, ends_at_slot, sweeps_at, AreEnded}
use Rattle.task_table.specs.Changes.{at_moment, put, swept, swept_in, after_sweep}
use Rattle.task_table.specs.own.Found.{partly}
use Rattle.task_table.proofs.Ascending.{filtered_ascends}
use Rattle.task_table.proofs.Finding.{read_partly, partly_more}
use Rattle.task_table.proofs.Firsts.{waits_is}
use Rattle.task_table.proofs.Vacancy.{IsOther}
use Rattle.task_table.proofs.Starts.{stands_before}
use Rattle.task_table.proofs.Sweeps.{policy_sweeps, shutdown_sweeps, stop_sweeps}
use Rattle.executor_core.specs.plan_table.Numbered.{task_at, tasks_at}
use Rattle.executor_core.specs.plan_table.Tasks.{periodic_in, waits_again, is_periodic}
use Rattle.executor_core.specs.CoreView.{state_of, room_of, Steps}
use Rattle.executor_core.specs.own.Invariants.{core_of, ArePlaced, IsCore}
use Rattle.executor_core.specs.own.OwnSteps.{AreUnkept, NoneWaitsDelayed, swept_slots}
use Rattle.executor_core.proofs.Reaching.{count_tasks, core_steps}
use Rattle.executor_core.proofs.Placing.{put_fewer, unkept_seat, unkept_placed, unkept_empty, unkept_uncancelled, swept_placed, swept_empty, swept_count, none_delayed_here, none_delayed_there, mapped_slot, mapped_is}
use Rattle.executor_core.proofs.Landing.{StaysGone, stays_with}
use Rattle.executor_core.proofs.NextCalls.{NextCall, call_gone, call_takes, call_stays}

-- ---- whom a sweep ends

swept_seat : (stopped : Bool) (policies : Policies) (now : ℕ) (o : Option Seat) → option_map_or (is_swept stopped policies now) o false ≡ true → (x : Seat) × (o ≡ Some x) × (is_swept stopped policies now x ≡ true)
swept_seat stopped policies now None q = absurd (false≢true q)
swept_seat stopped policies now (Some x) q = (x, refl, q)

-- these are the numbers of their slots
pub are_ended : (taken : ℕ) (m : TableView) → ArePlaced taken m.slots → AreEnded m (swept_slots m)
are_ended taken m placed = record {
  ascending = filtered_ascends (λ i. ends_at_slot m i) 0 (length m.slots);
  each = λ k q. let e = swept_seat m.stopped m.policies m.moment (slot_of m.slots k) (sym (is k) ∙ q) in (k, e.0, e.1, (placed k e.0 e.1).named, e.2);
  all = λ i x there q. ap (λ n. is_end n (swept_slots m)) (placed i x there).named ∙ (is i ∙ (ap (λ o. option_map_or (is_swept m.stopped m.policies m.moment) o false) there ∙ q));
}
  where
    is : (k : ℕ) → is_end k (swept_slots m) ≡ ends_at_slot m k
    is k = ends_are (λ i. ends_at_slot m i) (length m.slots) k (λ high. ap (λ o. option_map_or (is_swept m.stopped m.policies m.moment) o false) (get_or_past m.slots k None high))

-- ---- one slot after the other

-- what a slot holds that is not reached yet
unreached : (m : TableView) (k : ℕ) → slot_of (partly m k).slots k ≡ slot_of m.slots k
unreached m k = read_partly (option_map (λ x. swept m.stopped m.policies m.moment x)) m.slots k None

-- whether its task is ended
pub unreached_ends : (m : TableView) (k : ℕ) → ends_at_slot (partly m k) k ≡ ends_at_slot m k
unreached_ends m k = ap (λ o. option_map_or (is_swept m.stopped m.policies m.moment) o false) (unreached m k)

-- one slot more is swept
pub one_more : (m cur new : TableView) (k : ℕ) → cur ≡ partly m k → k < length m.slots → new ≡ swept_in (slot_of cur.slots k) cur k → new ≡ partly m (k + 1)
one_more m cur new k at low is =
    let one : suc k ≡ k + 1 = omega arith in
    is ∙ (ap (λ (c : TableView). swept_in (slot_of c.slots k) c k) at ∙ (sym (partly_more m k low) ∙ ap (partly m) one))

-- the lines of one more
pub lines_more : (m : TableView) (k : ℕ) (before cur new : List Line) → cur ≡ before ++ map (end_line m.moment) (filter (λ i. ends_at_slot m i) (range_with_len 0 k)) → new ≡ cur ++ cond (ends_at_slot m k) (end_line m.moment k ∷ []) [] →
    new ≡ before ++ map (end_line m.moment) (filter (λ i. ends_at_slot m i) (range_with_len 0 (k + 1)))
lines_more m k before cur new at is =
    let test : ℕ → Bool = λ i. ends_at_slot m i in
    let line = end_line m.moment in
    let front = filter test (range_with_len 0 k) in
    let one : (b : Bool) → cond b (line k ∷ []) [] ≡ map line (cond b (k ∷ []) []) = elim [ true ↦ refl | false ↦ refl ] in
    is ∙ (ap (λ l. l ++ cond (test k) (line k ∷ []) []) at ∙ (append_assoc before (map line front) (cond (test k) (line k ∷ []) [])
    ∙ (ap (λ l. before ++ (map line front ++ l)) (one (test k))
    ∙ (ap (λ l. before ++ l) (sym (map-append line front (cond (test k) (k ∷ []) []))) ∙ ap (λ l. before ++ map line l) (sym (filter_next test k))))))

-- one task fewer is not cancelled where one is ended
pub fewer_in : (m : TableView) (k : ℕ) (o : Option Seat) → slot_of m.slots k ≡ o → uncancelled_in (tasks_at (swept_in o m k).slots) + cond (option_map_or (is_swept m.stopped m.policies m.moment) o false) 1 0 ≡ uncancelled_in (tasks_at m.slots)
fewer_in m k None there = omega arith
fewer_in m k (Some x) there = by (is_swept m.stopped m.policies m.moment x) refl
  where
    by : (b : Bool) → is_swept m.stopped m.policies m.moment x ≡ b → uncancelled_in (tasks_at (cond b (put m k (record x { cancelled = true })) m).slots) + cond b 1 0 ≡ uncancelled_in (tasks_at m.slots)
    by true q = put_fewer m.slots k x (record x { cancelled = true }) there (waits_is (task_in x) (first (waits (task_in x)) q)).1 refl
      where
        first : (a : Bool) → (a && is_ended_by m.stopped m.policies m.moment x.timing x.due) ≡ true → a ≡ true
        first true e = refl
        first false e = absurd (false≢true e)
    by false q = omega arith

-- ---- where no task is ended

-- a sweep that ends none leaves the table as it is
pub sweeps_none : (m : TableView) → ((i : ℕ) → ends_at_slot m i ≡ false) → after_sweep m ≡ m
sweeps_none m none = ap (λ slots. record m { slots = slots }) (all m.slots none)
  where
    one : (o : Option Seat) → option_map_or (is_swept m.stopped m.policies m.moment) o false ≡ false → option_map (λ x. swept m.stopped m.policies m.moment x) o ≡ o
    one None q = refl
    one (Some x) q = ap (λ b. Some (record x { cancelled = b || x.cancelled })) q

    all : (slots : List (Option Seat)) → ((i : ℕ) → option_map_or (is_swept m.stopped m.policies m.moment) (slot_of slots i) false ≡ false) → map (option_map (λ x. swept m.stopped m.policies m.moment x)) slots ≡ slots
    all [] none = refl
    all (o ∷ slots) none = λ i. one o (none 0) i ∷ all slots (λ k. none (suc k)) i

-- and adds no line
pub sweeps_no_line : (m : TableView) (lines : List Line) → ((i : ℕ) → ends_at_slot m i ≡ false) → lines ≡ lines ++ map (end_line m.moment) (swept_slots m)
sweeps_no_line m lines none = sym (append-nil lines) ∙ ap (λ l. lines ++ map (end_line m.moment) l) (sym (filter_none (λ i. ends_at_slot m i) (range_with_len 0 (length m.slots)) none))

none_counted : (test : Task → Bool) (slots : List (Option Seat)) (k : ℕ) → test vacant ≡ false → how_many test (tasks_at slots) ≡ 0 → test (task_at (slot_of slots k)) ≡ false
none_counted test [] k past none = past
none_counted test (o ∷ slots) zero past none = by (test (task_at o)) refl none
  where
    by : (b : Bool) → test (task_at o) ≡ b → cond b (1 + how_many test (tasks_at slots)) (how_many test (tasks_at slots)) ≡ 0 → test (task_at o) ≡ false
    by true q e = absurd (omega (arith, e))
    by false q e = q
none_counted test (o ∷ slots) (suc k) past none = none_counted test slots k past (by (test (task_at o)) none)
  where
    by : (b : Bool) → cond b (1 + how_many test (tasks_at slots)) (how_many test (tasks_at slots)) ≡ 0 → how_many test (tasks_at slots) ≡ 0
    by true e = absurd (omega (arith, e))
    by false e = e

-- the policies let run what waits
pub none_barred : (m : TableView) → m.stopped ≡ false → (m.policies.continues ≡ true) ⊎ (periodic_in (tasks_at m.slots) ≡ 0) → (m.policies.executes ≡ true) ⊎ NoneWaitsDelayed m → (i : ℕ) → ends_at_slot m i ≡ false
none_barred m runs periodic delayed i = by (slot_of m.slots i) refl
  where
    again : (x : Seat) → slot_of m.slots i ≡ Some x → waits (task_in x) ≡ true → is_periodic x.timing ≡ true → not m.policies.continues ≡ false
    again x q waiting more = elim periodic [
      | inl on ↦ ap not on
      | inr none ↦
          let counted : waits_again (task_in x) ≡ false = ap (λ o. waits_again (task_at o)) (sym q) ∙ none_counted waits_again m.slots i refl none in
          let counts : waits_again (task_in x) ≡ true = (λ j. waits_again_by (waits_is (task_in x) waiting).0 (waits_is (task_in x) waiting).1 more j) in
          absurd (false≢true (sym counted ∙ counts))
    ]
      where
        waits_again_by : x.phase ≡ ph.Waiting → x.cancelled ≡ false → is_periodic x.timing ≡ true → waits_again (task_in x) ≡ true
        waits_again_by phase live more = λ j. is_waiting_in (phase j) && (not (live j) && more j)

    once : (x : Seat) → slot_of m.slots i ≡ Some x → waits (task_in x) ≡ true → x.timing ≡ how.Once → (not m.policies.executes && nat_lt m.moment x.due) ≡ false
    once x q waiting one = elim delayed [
      | inl on ↦ ap (λ b. not b && nat_lt m.moment x.due) on
      | inr none ↦
          let due : nat_lt m.moment x.due ≡ false = grind (arith, nat_tests, none i x q waiting one) in
          ap (λ b. not m.policies.executes && b) due ∙ and_none (not m.policies.executes)
    ]

    by_timing : (x : Seat) → slot_of m.slots i ≡ Some x → waits (task_in x) ≡ true → (timing : Timing) → x.timing ≡ timing → is_ended_by false m.policies m.moment timing x.due ≡ false
    by_timing x q waiting how.Once is = once x q waiting is
    by_timing x q waiting (how.Rate period) is = again x q waiting (ap is_periodic is)
    by_timing x q waiting (how.Fixed delay) is = again x q waiting (ap is_periodic is)

    waits_or : (x : Seat) → slot_of m.slots i ≡ Some x → (b : Bool) → waits (task_in x) ≡ b → (b && is_ended_by m.stopped m.policies m.moment x.timing x.due) ≡ false
    waits_or x q false w = refl
    waits_or x q true w = ap (λ s. is_ended_by s m.policies m.moment x.timing x.due) runs ∙ by_timing x q w x.timing refl

    by : (o : Option Seat) → slot_of m.slots i ≡ o → option_map_or (is_swept m.stopped m.policies m.moment) o false ≡ false
    by None q = refl
    by (Some x) q = waits_or x q (waits (task_in x)) refl

-- ---- delayed tasks

-- none is left after a sweep under a policy that does not let them run
pub none_left : (m : TableView) → m.policies.executes ≡ false → NoneWaitsDelayed (after_sweep m)
none_left m off i y q waiting once =
    let f : Seat → Seat = λ x. swept m.stopped m.policies m.moment x in
    let e = mapped_is f (slot_of m.slots i) y (sym (mapped_slot f m.slots i) ∙ q) in
    let x = e.0 in
    let live = (waits_is (task_in y) waiting).1 in
    let parts : (is_swept m.stopped m.policies m.moment x || x.cancelled) ≡ false = ap (λ (z : Seat). z.cancelled) (sym e.2) ∙ live in
    let waited : waits (task_in x) ≡ true = waited_too x y e.2 waiting parts in
    let unswept = left_false (is_swept m.stopped m.policies m.moment x) x.cancelled parts in
    let runs : is_ended_by m.stopped m.policies m.moment x.timing x.due ≡ false = ap (λ b. b && is_ended_by m.stopped m.policies m.moment x.timing x.due) (sym waited) ∙ unswept in
    let due : x.due ≤ m.moment = reached m.stopped x.due (ap (λ t. is_ended_by m.stopped m.policies m.moment t x.due) (sym (ap (λ (z : Seat). z.timing) (sym e.2) ∙ once)) ∙ runs) in
    omega (arith, due, ap (λ (z : Seat). z.due) e.2)
  where
    left_false : (a b : Bool) → (a || b) ≡ false → a ≡ false
    left_false true b e = e
    left_false false b e = refl

    right_false : (a b : Bool) → (a || b) ≡ false → b ≡ false
    right_false true b e = absurd (false≢true (sym e))
    right_false false b e = e

    waited_too : (x y : Seat) → y ≡ swept m.stopped m.policies m.moment x → waits (task_in y) ≡ true → (is_swept m.stopped m.policies m.moment x || x.cancelled) ≡ false → waits (task_in x) ≡ true
    waited_too x y is waiting parts =
        let phase = ap (λ (z : Seat). z.phase) (sym is) ∙ (waits_is (task_in y) waiting).0 in
        let live = right_false (is_swept m.stopped m.policies m.moment x) x.cancelled parts in
        λ j. is_waiting_in (phase j) && not (live j)

    reached : (stopped : Bool) (due : ℕ) → is_ended_by stopped m.policies m.moment how.Once due ≡ false → due ≤ m.moment
    reached true due e = absurd (false≢true (sym e))
    reached false due e =
        let later : nat_lt m.moment due ≡ false = ap (λ b. not b && nat_lt m.moment due) (sym off) ∙ e in
        grind (arith, nat_tests, later)

-- none comes by a sweep
pub none_more : (m : TableView) → NoneWaitsDelayed m → NoneWaitsDelayed (after_sweep m)
none_more m none i y q waiting once =
    let f : Seat → Seat = λ x. swept m.stopped m.policies m.moment x in
    let e = mapped_is f (slot_of m.slots i) y (sym (mapped_slot f m.slots i) ∙ q) in
    let x = e.0 in
    let live = (waits_is (task_in y) waiting).1 in
    let parts : (is_swept m.stopped m.policies m.moment x || x.cancelled) ≡ false = ap (λ (z : Seat). z.cancelled) (sym e.2) ∙ live in
    let phase = ap (λ (z : Seat). z.phase) (sym e.2) ∙ (waits_is (task_in y) waiting).0 in
    let was : waits (task_in x) ≡ true = λ j. is_waiting_in (phase j) && not (right_false (is_swept m.stopped m.policies m.moment x) x.cancelled parts j) in
    let due = none i x e.1 was (ap (λ (z : Seat). z.timing) (sym e.2) ∙ once) in
    omega (arith, due, ap (λ (z : Seat). z.due) e.2)
  where
    right_false : (a b : Bool) → (a || b) ≡ false → b ≡ false
    right_false true b e = absurd (false≢true (sym e))
    right_false false b e = e

-- none comes where kept tasks are dropped, and the moment moves on
pub none_unkept : (t mid : TableView) (at : ℕ) → AreUnkept t mid → t.moment ≤ at → NoneWaitsDelayed t → (i : ℕ) (x : Seat) → slot_of mid.slots i ≡ Some x → waits (task_in x) ≡ true → x.timing ≡ how.Once → x.due ≤ at
none_unkept t mid at unkept later none i x q waiting once =
    let was = unkept_seat t mid i x unkept q in
    let due = none i was.0 was.2 (ap (λ (y : Seat). waits (task_in y)) (sym was.3) ∙ waiting) (ap (λ (y : Seat). y.timing) (sym was.3) ∙ once) in
    omega (arith, due, later, ap (λ (y : Seat). y.due) was.3)

-- ---- the step

-- what a call does that sweeps: some tasks are kept no more before it, then the policies or the flags are set, and then it sweeps
pub record SweepsBy (t mid set : TableView) (at : ℕ) : Type 0 where
  pub unkept : AreUnkept t mid
  pub slots : set.slots ≡ mid.slots
  pub work : set.work ≡ mid.work
  pub moment : set.moment ≡ at
  pub shut : set.shut ≡ true

abbrev swept_reply : TableView → Answer → Reply
swept_reply set answer = record { answer = answer; ends = swept_slots set }

sweep_placed : (taken at : ℕ) (t mid set : TableView) → SweepsBy t mid set at → ArePlaced taken t.slots → ArePlaced taken set.slots
sweep_placed taken at t mid set by placed = subst (ArePlaced taken) (sym by.slots) (unkept_placed taken t mid by.unkept placed)

-- whom it ends
pub sweep_ends : (taken at : ℕ) (t mid set : TableView) → SweepsBy t mid set at → ArePlaced taken t.slots → AreEnded set (swept_slots set)
sweep_ends taken at t mid set by placed = are_ended taken set (sweep_placed taken at t mid set by placed)

pub sweep_core : (calls : List Planned) (limit taken count : ℕ) (t mid set : TableView) (sought after_it : Bool) (at : ℕ) (call : CodeCall) (answer : Answer) (before within lines : List Line) (f : IsCore (core_of calls limit taken count t) t sought) →
    NextCall calls count t.moment at call f.past → SweepsBy t mid set at → StandsBefore mid calls f.past h.Call → CallStepsBefore mid (after_sweep set) (at, call) (swept_reply set answer) → ((i : ℕ) → IsOther i call) →
    within ≡ before ++ answer_line at answer ∷ [] → lines ≡ within ++ map (end_line set.moment) (swept_slots set) → (after_it ≡ true → NoneWaitsDelayed (after_sweep set)) →
    Steps (core_of calls limit taken count t) (core_of calls limit taken (count + 1) (after_sweep set)) before lines (h.Call ∷ []) × IsCore (core_of calls limit taken (count + 1) (after_sweep set)) (after_sweep set) after_it
sweep_core calls limit taken count t mid set sought after_it at call answer before within lines f n by stands steps other put add delayed =
    let u = after_sweep set in
    let r = swept_reply set answer in
    let placed_set = sweep_placed taken at t mid set by f.placed in
    let placed : ArePlaced taken u.slots = swept_placed taken set placed_set in
    let width : length u.work ≡ length t.work = ap length by.work ∙ ap (λ (v : TableView). length v.work) by.unkept.rest in
    let size : length u.slots ≡ length t.slots = swept_count set ∙ (ap length by.slots ∙ by.unkept.count) in
    let takes = steps calls f.past stands n.next in
    let gone : StaysGone calls t u f.past h.Call =
    call_gone calls count at call t u f.past f.reached n.next (λ i q. (unkept_empty t mid i by.unkept (ap (λ slots. slot_of slots i) (sym by.slots) ∙ swept_empty set i q), other i))
    in
    let did = core_steps calls limit taken count t u f.past h.Call r f.reached f.placed n.comes width takes gone placed in
    let core = stays_with calls limit taken count (count + 1) t u sought after_it h.Call r f n.comes width takes gone placed n.one size (omega (arith, by.moment, n.limit)) n.within (λ p q. omega (arith, by.moment, n.later p q))
    (λ is. (by.shut, none_delayed_there calls limit taken (count + 1) u (delayed is)))
    in
    let state = ap (λ k. state_of (core_of calls limit taken k u)) n.one ∙ did.state in
    let ends = map (end_line set.moment) (swept_slots set) in (
      record {
        calls = refl;
        limit = refl;
        workers = width;
        state = state;
        lines = add ∙ (ap (λ l. l ++ ends) put ∙ (append_assoc before (answer_line at answer ∷ []) ends
            ∙ (ap (λ m. before ++ answer_line m answer ∷ ends) (sym by.moment) ∙ (λ i. before ++ lines_at (state i).moment (sym did.said i)))));
      },
      core,
    )

-- the room that is left
pub sweep_room : (calls : List Planned) (limit taken count : ℕ) (t mid set : TableView) (at before within after : ℕ) → SweepsBy t mid set at → count + 1 ≤ length calls → within ≡ before + 1 →
    after + uncancelled_in (tasks_at (after_sweep set).slots) ≡ within + uncancelled_in (tasks_at set.slots) → after + room_of (core_of calls limit taken (count + 1) (after_sweep set)) ≤ before + room_of (core_of calls limit taken count t)
sweep_room calls limit taken count t mid set at before within after by within_calls put room =
    omega (arith, within_calls, put, room, ap (λ slots. uncancelled_in (tasks_at slots)) by.slots, unkept_uncancelled t mid by.unkept)

-- no delayed task waits before it, where none did before
pub sweep_sought : (calls : List Planned) (limit taken count : ℕ) (t mid set : TableView) (sought : Bool) (at : ℕ) (f : IsCore (core_of calls limit taken count t) t sought) → SweepsBy t mid set at → t.moment ≤ at → sought ≡ true → NoneWaitsDelayed set
sweep_sought calls limit taken count t mid set sought at f by later is i x q waiting once =
    let due = none_unkept t mid at by.unkept later (none_delayed_here calls limit taken count t (f.delayed is).1) i x (ap (λ slots. slot_of slots i) (sym by.slots) ∙ q) waiting once in
    omega (arith, due, by.moment)

-- ---- the slots that a sweep comes to

-- there are as many slots when it has come to some
pub partly_count : (m : TableView) (k : ℕ) → length (partly m k).slots ≡ length m.slots
partly_count m k = by (option_map (λ x. swept m.stopped m.policies m.moment x)) m.slots k
  where
    by : (f : Option Seat → Option Seat) (xs : List (Option Seat)) (k : ℕ) → length (map f (take k xs) ++ drop k xs) ≡ length xs
    by f [] zero = refl
    by f [] (suc k) = refl
    by f (x ∷ xs) zero = refl
    by f (x ∷ xs) (suc k) = ap suc (by f xs k)

-- their number has 32 bits
pub sweep_few : (calls : List Planned) (limit taken count : ℕ) (t mid set : TableView) (sought : Bool) (at : ℕ) → IsCore (core_of calls limit taken count t) t sought → SweepsBy t mid set at → length set.slots ≤ 65536
sweep_few calls limit taken count t mid set sought at f by =
    omega (arith, ap length by.slots, by.unkept.count, f.count, count_tasks t.slots, few_tasks calls f.orderly.0)

-- the lines of a call that sweeps have room
pub sweep_within : (calls : List Planned) (limit taken count : ℕ) (t mid set : TableView) (at before within size : ℕ) → SweepsBy t mid set at → before + room_of (core_of calls limit taken count t) ≤ size → within ≡ before + 1 → within + uncancelled_in (tasks_at set.slots) ≤ size
sweep_within calls limit taken count t mid set at before within size by room put =
    omega (arith, room, put, ap (λ slots. uncancelled_in (tasks_at slots)) by.slots, unkept_uncancelled t mid by.unkept)

-- ---- the calls that sweep

-- the table before such a call stands where it stood before tasks were kept no more
abbrev pub StaysBefore : TableView → TableView → Type 0
StaysBefore t mid = (calls : List Planned) (past : List HistoryEntry) (p : Planned) → IsNextCall calls past p → sweeps_at t.shut p.1 ≡ true → StandsBefore t calls past h.Call → StandsBefore mid calls past h.Call

-- the table takes the step of such a call, once it is swept
pub record Sweeps (calls : List Planned) (past : List HistoryEntry) (t mid set : TableView) (at : ℕ) (call : CodeCall) (answer : Answer) : Type 0 where
  pub by : SweepsBy t mid set at
  pub stands : StandsBefore mid calls past h.Call
  pub steps : CallStepsBefore mid (after_sweep set) (at, call) (swept_reply set answer)
  pub other : (i : ℕ) → IsOther i call

-- a policy is set while the executor is shut
pub policy_sweeping : (calls : List Planned) (limit taken count : ℕ) (t mid set : TableView) (sought : Bool) (at : ℕ) (which : Which) (value : Bool) (f : IsCore (core_of calls limit taken count t) t sought) → NextCall calls count t.moment at (c.SetPolicy which value) f.past →
    setting_sweeps t.shut which value ≡ true → AreUnkept t mid → StaysBefore t mid → NoneKept mid → set ≡ record (at_moment mid at) { policies = set_policy which value mid.policies } → Sweeps calls f.past t mid set at (c.SetPolicy which value) (a.Policy which value)
policy_sweeping calls limit taken count t mid set sought at which value f n sweeping unkept stays none is =
    let shut : mid.shut ≡ t.shut = ap (λ (v : TableView). v.shut) unkept.rest in
    let by : SweepsBy t mid set at = record {
      unkept = unkept;
      slots = ap (λ (v : TableView). v.slots) is;
      work = ap (λ (v : TableView). v.work) is;
      moment = ap (λ (v : TableView). v.moment) is;
      shut = ap (λ (v : TableView). v.shut) is ∙ (shut ∙ and_left t.shut _ sweeping);
    } in
    record {
      by = by;
      stands = stays calls f.past (at, c.SetPolicy which value) n.next sweeping (stands_before t calls f.past h.Call f.reached.stands);
      steps = subst (λ (v : TableView). CallStepsBefore mid (after_sweep v) (at, c.SetPolicy which value) (swept_reply v (a.Policy which value))) (sym is)
          (policy_sweeps mid at which value (swept_slots (record (at_moment mid at) { policies = set_policy which value mid.policies })) (ap (λ b. setting_sweeps b which value) shut ∙ sweeping) none (omega (arith, n.ahead, ap (λ (v : TableView). v.moment) unkept.rest))
          (subst (λ (v : TableView). AreEnded v (swept_slots v)) is (sweep_ends taken at t mid set by f.placed)));
      other = λ i task timing delay e. absurd cc;
    }

-- the executor is shut down
pub shutdown_sweeping : (calls : List Planned) (limit taken count : ℕ) (t mid set : TableView) (sought : Bool) (at : ℕ) (f : IsCore (core_of calls limit taken count t) t sought) → NextCall calls count t.moment at c.Shutdown f.past →
    t.shut ≡ false → AreUnkept t mid → StaysBefore t mid → NoneKept mid → set ≡ record (at_moment mid at) { shut = true } → Sweeps calls f.past t mid set at c.Shutdown a.Shutdown
shutdown_sweeping calls limit taken count t mid set sought at f n unshut unkept stays none is =
    let shut : mid.shut ≡ t.shut = ap (λ (v : TableView). v.shut) unkept.rest in
    let by : SweepsBy t mid set at = record {
      unkept = unkept;
      slots = ap (λ (v : TableView). v.slots) is;
      work = ap (λ (v : TableView). v.work) is;
      moment = ap (λ (v : TableView). v.moment) is;
      shut = ap (λ (v : TableView). v.shut) is;
    } in
    record {
      by = by;
      stands = stays calls f.past (at, c.Shutdown) n.next (ap not unshut) (stands_before t calls f.past h.Call f.reached.stands);
      steps = subst (λ (v : TableView). CallStepsBefore mid (after_sweep v) (at, c.Shutdown) (swept_reply v a.Shutdown)) (sym is)
          (shutdown_sweeps mid at (swept_slots (record (at_moment mid at) { shut = true })) (shut ∙ unshut) none (omega (arith, n.ahead, ap (λ (v : TableView). v.moment) unkept.rest))
          (subst (λ (v : TableView). AreEnded v (swept_slots v)) is (sweep_ends taken at t mid set by f.placed)));
      other = λ i task timing delay e. absurd cc;
    }

-- the executor is shut down at once
pub stop_sweeping : (calls : List Planned) (limit taken count : ℕ) (t mid set : TableView) (sought : Bool) (at : ℕ) (f : IsCore (core_of calls limit taken count t) t sought) → NextCall calls count t.moment at c.ShutdownNow f.past →
    AreUnkept t mid → StaysBefore t mid → NoneKept mid → set ≡ record (at_moment mid at) { shut = true; stopped = true } → Sweeps calls f.past t mid set at c.ShutdownNow a.ShutdownNow
stop_sweeping calls limit taken count t mid set sought at f n unkept stays none is =
    let by : SweepsBy t mid set at = record {
      unkept = unkept;
      slots = ap (λ (v : TableView). v.slots) is;
      work = ap (λ (v : TableView). v.work) is;
      moment = ap (λ (v : TableView). v.moment) is;
      shut = ap (λ (v : TableView). v.shut) is;
    } in
    record {
      by = by;
      stands = stays calls f.past (at, c.ShutdownNow) n.next refl (stands_before t calls f.past h.Call f.reached.stands);
      steps = subst (λ (v : TableView). CallStepsBefore mid (after_sweep v) (at, c.ShutdownNow) (swept_reply v a.ShutdownNow)) (sym is)
          (stop_sweeps mid at (swept_slots (record (at_moment mid at) { shut = true; stopped = true })) none (omega (arith, n.ahead, ap (λ (v : TableView). v.moment) unkept.rest))
          (subst (λ (v : TableView). AreEnded v (swept_slots v)) is (sweep_ends taken at t mid set by f.placed)));
      other = λ i task timing delay e. absurd cc;
    }

-- the steps of the core, and what stays true of it, once its table is swept
pub sweeping_core : (calls : List Planned) (limit taken count : ℕ) (t mid set u : TableView) (sought after_it : Bool) (at : ℕ) (call : CodeCall) (answer : Answer) (before within lines : List Line) (f : IsCore (core_of calls limit taken count t) t sought) →
    NextCall calls count t.moment at call f.past → Sweeps calls f.past t mid set at call answer → u ≡ after_sweep set → within ≡ before ++ answer_line at answer ∷ [] → lines ≡ within ++ map (end_line set.moment) (swept_slots set) → (after_it ≡ true → NoneWaitsDelayed u) →
    Steps (core_of calls limit taken count t) (core_of calls limit taken (count + 1) u) before lines (h.Call ∷ []) × IsCore (core_of calls limit taken (count + 1) u) u after_it
sweeping_core calls limit taken count t mid set u sought after_it at call answer before within lines f n s is put add delayed =
    subst (λ (v : TableView). Steps (core_of calls limit taken count t) (core_of calls limit taken (count + 1) v) before lines (h.Call ∷ []) × IsCore (core_of calls limit taken (count + 1) v) v after_it) (sym is)
    (sweep_core calls limit taken count t mid set sought after_it at call answer before within lines f n s.by s.stands s.steps s.other put add (λ q. subst NoneWaitsDelayed is (delayed q)))

-- the room that is left then
pub sweeping_room : (calls : List Planned) (limit taken count : ℕ) (t mid set u : TableView) (at before within after : ℕ) → SweepsBy t mid set at → count + 1 ≤ length calls → u ≡ after_sweep set → within ≡ before + 1 →
    after + uncancelled_in (tasks_at u.slots) ≡ within + uncancelled_in (tasks_at set.slots) → after + room_of (core_of calls limit taken (count + 1) u) ≤ before + room_of (core_of calls limit taken count t)
sweeping_room calls limit taken count t mid set u at before within after by within_calls is put room =
    subst (λ (v : TableView). after + room_of (core_of calls limit taken (count + 1) v) ≤ before + room_of (core_of calls limit taken count t)) (sym is)
    (sweep_room calls limit taken count t mid set at before within after by within_calls put (subst (λ (v : TableView). after + uncancelled_in (tasks_at v.slots) ≡ within + uncancelled_in (tasks_at set.slots)) is room))

-- a test that is turned and passes
pub not_true : (b : Bool) → not b ≡ true → b ≡ false
not_true true q = absurd (false≢true q)
not_true false q = refl

-- ---- the calls that change no task

-- a policy is set, or the executor was shut already: what is true of the core stays so
pub settled_stays : (calls : List Planned) (limit taken count : ℕ) (t u : TableView) (sought : Bool) (at : ℕ) (call : CodeCall) (answer : Answer) (policies : Policies) (f : IsCore (core_of calls limit taken count t) t sought) → NextCall calls count t.moment at call f.past →
    u ≡ record (at_moment t at) { policies = policies } → CallSteps t u (at, call) (bare answer) → ((i : ℕ) → IsOther i call) → IsCore (core_of calls limit taken (count + 1) u) u sought
settled_stays calls limit taken count t u sought at call answer policies f n is steps other =
    call_stays calls limit taken count t u sought at call answer f n (ap (λ (v : TableView). length v.work) is) steps
    (call_gone calls count at call t u f.past f.reached n.next (λ i q. (ap (λ (v : TableView). slot_of v.slots i) (sym is) ∙ q, other i))) (subst (λ (v : TableView). ArePlaced taken v.slots) (sym is) f.placed)
    (ap (λ (v : TableView). length v.slots) is) (ap (λ (v : TableView). v.moment) is)

-- its step, and its line
pub settled_steps : (calls : List Planned) (limit taken count : ℕ) (t u : TableView) (sought : Bool) (at : ℕ) (call : CodeCall) (answer : Answer) (policies : Policies) (f : IsCore (core_of calls limit taken count t) t sought) → NextCall calls count t.moment at call f.past →
    (before lines : List Line) → u ≡ record (at_moment t at) { policies = policies } → CallSteps t u (at, call) (bare answer) → ((i : ℕ) → IsOther i call) → lines ≡ before ++ answer_line at answer ∷ [] →
    Steps (core_of calls limit taken count t) (core_of calls limit taken (count + 1) u) before lines (h.Call ∷ [])
settled_steps calls limit taken count t u sought at call answer policies f n before lines is steps other add =
    let did = call_takes calls limit taken count t u sought at call answer f n (ap (λ (v : TableView). length v.work) is) steps
    (call_gone calls count at call t u f.past f.reached n.next (λ i q. (ap (λ (v : TableView). slot_of v.slots i) (sym is) ∙ q, other i))) (subst (λ (v : TableView). ArePlaced taken v.slots) (sym is) f.placed)
    in
    record {
      calls = refl;
      limit = refl;
      workers = did.workers;
      state = did.state;
      lines = add ∙ (ap (λ m. before ++ answer_line m answer ∷ []) (sym (ap (λ (v : TableView). v.moment) is)) ∙ (λ i. before ++ lines_at (did.state i).moment (sym did.said i)));
    }

-- the room that is left after it
pub settled_room : (calls : List Planned) (limit taken count : ℕ) (t u : TableView) (before after : ℕ) → u.slots ≡ t.slots → count + 1 ≤ length calls → after ≡ before + 1 →
    after + room_of (core_of calls limit taken (count + 1) u) ≤ before + room_of (core_of calls limit taken count t)
settled_room calls limit taken count t u before after same within put = omega (arith, within, put, ap (λ slots. uncancelled_in (tasks_at slots)) same)
