-- The definitions by recursion, read by position.
use Rattle.std.proofs.Common.{◌≡◌, ℕ, ◌+◌, ◌≤◌, ◌==◌, nat_lt, Bool, true, false, cond, ◌⊎◌, inl, inr, List, [], ◌∷◌, ◌++◌, Option, Some, None, refl, sym, ap, ◌∙◌, arith, subst}
use Rattle.std.specs.Prelude.{slice_get, max, ◌^◌, ◌||◌}
use Rattle.std.specs.Option.{option_map_or}
use Rattle.std.specs.List.{list_any}
use Rattle.std.proofs.lemmas.Bool.{false≢true, eqb-true, eq-eqb, or_from}
use Rattle.std.proofs.lemmas.Bool.Decides.{nat_tests}
use Rattle.std.proofs.lemmas.Option.{none-some, same_Some}
use Rattle.executor_model.specs.declared.types.EventError.TheVariants as x
use Rattle.executor_model.specs.declared.types.Happening.{Happening}
use Rattle.executor_model.specs.declared.types.Happening.TheVariants as h
use Rattle.executor_model.specs.declared.types.Answer.{Answer}
use Rattle.executor_model.specs.declared.types.Answer.TheVariants as a
use Rattle.queue_code.specs.Calls.{Planned, how_many, numbers, task_count}
use Rattle.executor_model.specs.View.{View, is_enabled, first_enabled}
use Rattle.executor_model.specs.Answers.{bare, reply, called, start_answer, finish_answer, moment_after, is_accepted, effect_on}
use Rattle.executor_model.specs.Histories.{HistoryEntry, IsHistoryOf, view_of_history, now_of, happenings, made, work_of, work_after, answer}
use Rattle.executor_laws.specs.Positions.{starts_by, finishes_by, StartedLast, WorkIsTheLastStart, StartsExceedFinishes, busy, HasMoment, Shows, NowIsTheGreatest, FirstIsTheLeast, NoneIsEnabled}
use Rattle.executor_model.proofs.Sound.{first_is_enabled}
use Rattle.executor_laws.proofs.Replies.{IsOfCall, call_answer}
use Rattle.executor_model.proofs.First.{first_is, first_is_in, first_is_least, first_is_none, none_enabled, in_range, range_below}

-- ---- the first enabled task

-- the law that the first enabled task is the least one
pub first_is_the_least : FirstIsTheLeast
first_is_the_least calls v k = (
  λ q. record {
    below = omega (arith, range_below 0 (task_count calls) k (first_is_in v (numbers calls) k q));
    enabled = first_is_enabled v (numbers calls) k q;
    least = λ j l e. first_is_least v (numbers calls) k j q (in_range 0 (task_count calls) j (omega arith) (omega arith)) e;
  },
  λ is. first_is v (numbers calls) k (in_range 0 (task_count calls) k (omega arith) (omega (arith, is.below))) is.enabled
      (λ j m e. is.least j (omega (arith, range_below 0 (task_count calls) j m)) e),
)

not_true : (b : Bool) → (b ≡ true → ⊥) → b ≡ false
not_true true n = absurd (n refl)
not_true false n = refl

-- the law that there is no first task exactly when none is enabled
pub none_is_enabled : NoneIsEnabled
none_is_enabled calls v = (
  λ q j l. not_true (is_enabled v j) (λ e. none_enabled v (numbers calls) j q (in_range 0 (task_count calls) j (omega arith) (omega arith)) e),
  λ none. first_is_none v (numbers calls) (λ j m e. false≢true (sym (none j (omega (arith, range_below 0 (task_count calls) j m))) ∙ e)),
)

-- ---- what an answer tells of the worker's work before it

-- the work of the worker is free where the answer is a start by it, and taken where it is a finish by it
abbrev Told : ℕ → Option ℕ → Answer → Type 0
Told w work (a.Start worker task run due) = (worker == w) ≡ true → work ≡ None
Told w work (a.Finish worker task run outcome) = (worker == w) ≡ true → work ≡ Some task
Told w work _ = Unit {0}

call_tells : (answer : Answer) (w : ℕ) (work : Option ℕ) → IsOfCall answer → Told w work answer
call_tells (a.Start worker task run due) w work of = absurd of
call_tells (a.Finish worker task run outcome) w work of = absurd of
call_tells _ w work of = tt

-- what a reply says of the work of a worker
pub work_is_told : (calls : List Planned) (workers : ℕ) (v : View) (y : Happening) (w : ℕ) → Told w (v.work w) (reply calls workers v y).answer
work_is_told calls workers v h.Call w =
    let pick : (q : Option Planned) → Told w (v.work w) (option_map_or (λ p. called calls (record v { moment = max v.moment p.0 }) p.1) q (bare a.Clock)).answer =
    elim [ None ↦ tt | Some p ↦ call_tells _ w (v.work w) (call_answer calls (record v { moment = max v.moment p.0 }) p.1) ]
    in
    pick (slice_get calls v.made)
work_is_told calls workers v (h.Clock t) w =
    let pick : (b c : Bool) → Told w (v.work w) (cond b (a.Error x.Backward) (cond c (a.Error x.TooFar) a.Clock)) = elim [ true ↦ λ c. tt | false ↦ elim [ true ↦ tt | false ↦ tt ] ] in
    pick _ _
work_is_told calls workers v (h.Start u) w =
    let first : (q : Option ℕ) → v.work u ≡ None → Told w (v.work w) (start_answer v u q) =
    elim [ None ↦ λ free. tt | Some k ↦ λ free. λ same. subst (λ i. v.work i ≡ None) (eqb-true u w same) free ]
    in
    let pick : (b : Bool) (q : Option ℕ) → v.work u ≡ q → Told w (v.work w) (cond b (option_map_or (λ _. a.Error x.Busy) q (start_answer v u (first_enabled v (numbers calls)))) (a.Error x.NoWorker)) =
    elim [ true ↦ elim [ None ↦ λ free. first (first_enabled v (numbers calls)) free | Some k ↦ λ taken. tt ] | false ↦ λ q is. tt ]
    in
    pick (nat_lt u workers) (v.work u) refl
work_is_told calls workers v (h.Finish u ending) w =
    let pick : (b : Bool) (q : Option ℕ) → v.work u ≡ q → Told w (v.work w) (cond b (finish_answer calls v u ending q) (a.Error x.NoWorker)) =
    elim [ true ↦ elim [ None ↦ λ is. tt | Some k ↦ λ is. λ same. subst (λ i. v.work i ≡ Some k) (eqb-true u w same) is ] | false ↦ λ q is. tt ]
    in
    pick (nat_lt u workers) (v.work u) refl
work_is_told calls workers v (h.Cancel k) w =
    let pick : (b : Bool) → Told w (v.work w) (cond b (a.Outside k (effect_on (v.fate k))) (a.Error x.NoTask)) = elim [ true ↦ tt | false ↦ tt ] in
    pick _
work_is_told calls workers v h.Purge w = tt

-- the same of an entry in a history
entry_tells : (calls : List Planned) (workers : ℕ) (past : List HistoryEntry) (e : HistoryEntry) (w : ℕ) → IsHistoryOf calls workers (e ∷ past) → Told w (work_of w past) e.answer
entry_tells calls workers past e w m = subst (Told w (work_of w past)) (sym m.2) (work_is_told calls workers (view_of_history calls past) e.happening w)

-- a start that stands behind one entry more
behind : (past : List HistoryEntry) (f : HistoryEntry) (w k : ℕ) → finishes_by w f.answer ≡ false → StartedLast past w k → StartedLast (f ∷ past) w k
behind past f w k unended s = record {
  later = f ∷ s.later;
  e = s.e;
  before = s.before;
  parts = ap (λ l. f ∷ l) s.parts;
  run = s.run;
  due = s.due;
  start = s.start;
  unfinished = neither (finishes_by w f.answer) (list_any (λ g. finishes_by w g.answer) s.later) unended s.unfinished;
}
  where
    neither : (b d : Bool) → b ≡ false → d ≡ false → (b || d) ≡ false
    neither true d p q = p
    neither false d p q = q

started_here : (past : List HistoryEntry) (e : HistoryEntry) (w k j n d : ℕ) → e.answer ≡ a.Start w j n d → j ≡ k → StartedLast (e ∷ past) w k
started_here past e w k j n d is same = record {
  later = [];
  e = e;
  before = past;
  parts = refl;
  run = n;
  due = d;
  start = is ∙ ap (λ i. a.Start w i n d) same;
  unfinished = refl;
}

-- the start is that of an entry, or stands behind it
last_or_behind : (past : List HistoryEntry) (e : HistoryEntry) (w k : ℕ) → (work_of w past ≡ Some k → StartedLast past w k) → (answer : Answer) → e.answer ≡ answer → work_after w answer (work_of w past) ≡ Some k → StartedLast (e ∷ past) w k
last_or_behind past e w k before (a.Start u j n d) is q = by (u == w) refl q
  where
    by : (b : Bool) → (u == w) ≡ b → cond b (Some j) (work_of w past) ≡ Some k → StartedLast (e ∷ past) w k
    by true same q = started_here past e w k j n d (is ∙ ap (λ i. a.Start i j n d) (eqb-true u w same)) (same_Some j k q)
    by false other q = behind past e w k (ap (finishes_by w) is) (before q)
last_or_behind past e w k before (a.Finish u j n o) is q = by (u == w) refl q
  where
    by : (b : Bool) → (u == w) ≡ b → cond b None (work_of w past) ≡ Some k → StartedLast (e ∷ past) w k
    by true same q = absurd (none-some k q)
    by false other q = behind past e w k (ap (finishes_by w) is ∙ other) (before q)
last_or_behind past e w k before answer is q = behind past e w k (ap (finishes_by w) is) (before q)

last_start : (past : List HistoryEntry) (w k : ℕ) → work_of w past ≡ Some k → StartedLast past w k
last_start [] w k q = absurd (none-some k q)
last_start (e ∷ past) w k q = last_or_behind past e w k (last_start past w k) e.answer refl q

-- an entry that is no finish by the worker leaves its work, since no start by it can come
keeps : (w k : ℕ) (r : Answer) (work : Option ℕ) → Told w work r → finishes_by w r ≡ false → work ≡ Some k → work_after w r work ≡ Some k
keeps w k (a.Start u j n d) work told unended is =
    let by : (b : Bool) → (u == w) ≡ b → cond b (Some j) work ≡ Some k =
    elim [ true ↦ λ same. absurd (none-some k (sym (told same) ∙ is)) | false ↦ λ other. is ]
    in
    by (u == w) refl
keeps w k (a.Finish u j n o) work told unended is =
    let by : (b : Bool) → (u == w) ≡ b → cond b None work ≡ Some k =
    elim [ true ↦ λ same. absurd (false≢true (sym unended ∙ same)) | false ↦ λ other. is ]
    in
    by (u == w) refl
keeps w k _ work told unended is = is

none_of_parts : (b d : Bool) → (b || d) ≡ false → (b ≡ false) × (d ≡ false)
none_of_parts true d q = absurd (false≢true (sym q))
none_of_parts false d q = (refl, q)

works_since : (calls : List Planned) (workers : ℕ) (later before : List HistoryEntry) (e : HistoryEntry) (w k n d : ℕ) → IsHistoryOf calls workers (later ++ e ∷ before) → e.answer ≡ a.Start w k n d →
    list_any (λ f. finishes_by w f.answer) later ≡ false → work_of w (later ++ e ∷ before) ≡ Some k
works_since calls workers [] before e w k n d m start unended =
    ap (λ r. work_after w r (work_of w before)) start ∙ ap (λ b. cond b (Some k) (work_of w before)) (eq-eqb w w refl)
works_since calls workers (f ∷ later) before e w k n d m start unended =
    let parts = none_of_parts (finishes_by w f.answer) (list_any (λ g. finishes_by w g.answer) later) unended in
    keeps w k f.answer (work_of w (later ++ e ∷ before)) (entry_tells calls workers (later ++ e ∷ before) f w m) parts.0 (works_since calls workers later before e w k n d m.0 start parts.1)

-- a worker that works is not started
starts_none : (w k : ℕ) (r : Answer) (work : Option ℕ) → Told w work r → work ≡ Some k → starts_by w r ≡ false
starts_none w k (a.Start u j n d) work told is =
    let by : (b : Bool) → (u == w) ≡ b → b ≡ false = elim [ true ↦ λ same. absurd (none-some k (sym (told same) ∙ is)) | false ↦ λ other. refl ] in
    by (u == w) refl
starts_none w k _ work told is = refl

-- a start with no finish after it is the last one
none_started : (calls : List Planned) (workers : ℕ) (later before : List HistoryEntry) (e : HistoryEntry) (w k n d : ℕ) → IsHistoryOf calls workers (later ++ e ∷ before) → e.answer ≡ a.Start w k n d →
    list_any (λ f. finishes_by w f.answer) later ≡ false → list_any (λ f. starts_by w f.answer) later ≡ false
none_started calls workers [] before e w k n d m start unended = refl
none_started calls workers (f ∷ later) before e w k n d m start unended =
    let parts = none_of_parts (finishes_by w f.answer) (list_any (λ g. finishes_by w g.answer) later) unended in
    let works = works_since calls workers later before e w k n d m.0 start parts.1 in
    or_from (starts_by w f.answer) (list_any (λ g. starts_by w g.answer) later) (starts_none w k f.answer (work_of w (later ++ e ∷ before)) (entry_tells calls workers (later ++ e ∷ before) f w m) works)
    (none_started calls workers later before e w k n d m.0 start parts.1)

-- the law that a worker's task is that of its last start
pub work_is_the_last_start : WorkIsTheLastStart
work_is_the_last_start calls workers past w k m = (
  λ q.
      let s = last_start past w k q in
      (s, none_started calls workers s.later s.before s.e w k s.run s.due (subst (IsHistoryOf calls workers) s.parts m) s.start s.unfinished),
  λ s. subst (λ l. work_of w l ≡ Some k) (sym s.parts) (works_since calls workers s.later s.before s.e w k s.run s.due (subst (IsHistoryOf calls workers) s.parts m) s.start s.unfinished),
)

-- counts of starts and finishes, moved by one answer
one_more : (w : ℕ) (r : Answer) (work : Option ℕ) (n m : ℕ) → Told w work r → n ≡ busy work + m →
    cond (starts_by w r) (1 + n) n ≡ busy (work_after w r work) + cond (finishes_by w r) (1 + m) m
one_more w (a.Start u j run due) work n m told is =
    let by : (b : Bool) → (u == w) ≡ b → cond b (1 + n) n ≡ busy (cond b (Some j) work) + m =
    elim [ true ↦ λ same. omega (arith, is, ap busy (told same)) | false ↦ λ other. is ]
    in
    by (u == w) refl
one_more w (a.Finish u j run o) work n m told is =
    let by : (b : Bool) → (u == w) ≡ b → n ≡ busy (cond b None work) + cond b (1 + m) m =
    elim [ true ↦ λ same. omega (arith, is, ap busy (told same)) | false ↦ λ other. is ]
    in
    by (u == w) refl
one_more w _ work n m told is = is

-- the law that a worker that works started once more than it finished
pub starts_exceed_finishes : StartsExceedFinishes
starts_exceed_finishes calls workers [] w m = refl
starts_exceed_finishes calls workers (e ∷ past) w m =
    one_more w e.answer (work_of w past) (how_many (λ f. starts_by w f.answer) past) (how_many (λ f. finishes_by w f.answer) past) (entry_tells calls workers past e w m)
    (starts_exceed_finishes calls workers past w m.0)

-- ---- the moment

-- an accepted clock is answered so, and no other one
clock_accepted : (now t : ℕ) → cond (nat_lt t now) (a.Error x.Backward) (cond (nat_lt (2 ^ 62) t) (a.Error x.TooFar) a.Clock) ≡ a.Clock → is_accepted now t ≡ true
clock_accepted now t q =
    let pick : (b d : Bool) → nat_lt t now ≡ b → nat_lt (2 ^ 62) t ≡ d → cond b (a.Error x.Backward) (cond d (a.Error x.TooFar) a.Clock) ≡ a.Clock → is_accepted now t ≡ true =
    elim [ true ↦ λ d p r q. absurd cc | false ↦ elim [ true ↦ λ p r q. absurd cc | false ↦ λ p r q. grind (arith, nat_tests) ] ]
    in
    pick (nat_lt t now) (nat_lt (2 ^ 62) t) refl refl q

accepted_clock : (now t : ℕ) → is_accepted now t ≡ true → a.Clock ≡ cond (nat_lt t now) (a.Error x.Backward) (cond (nat_lt (2 ^ 62) t) (a.Error x.TooFar) a.Clock)
accepted_clock now t q =
    let low : nat_lt t now ≡ false = grind (arith, nat_tests) in
    let near : nat_lt (2 ^ 62) t ≡ false = grind (arith, nat_tests) in
    λ i. cond (sym low i) (a.Error x.Backward) (cond (sym near i) (a.Error x.TooFar) a.Clock)

-- now does not fall
rises : (now : ℕ) (call : Option Planned) (y : Happening) → now ≤ moment_after now call y
rises now None h.Call = omega arith
rises now (Some p) h.Call = omega arith
rises now call (h.Clock t) =
    let pick : (b : Bool) → is_accepted now t ≡ b → now ≤ cond b t now = elim [ true ↦ λ q. grind (arith, nat_tests) | false ↦ λ q. omega arith ] in
    pick (is_accepted now t) refl
rises now call (h.Start w) = omega arith
rises now call (h.Finish w ending) = omega arith
rises now call (h.Cancel k) = omega arith
rises now call h.Purge = omega arith

-- the moment of an entry is at most now
below_here : (calls : List Planned) (workers : ℕ) (e : HistoryEntry) (before : List HistoryEntry) (t : ℕ) → IsHistoryOf calls workers (e ∷ before) → HasMoment calls e before t → t ≤ now_of calls (happenings (e ∷ before))
below_here calls workers e before t m (inl call) =
    let now = now_of calls (happenings before) in
    let after : now_of calls (happenings (e ∷ before)) ≡ max now call.1.0.0 =
    ap (λ y. moment_after now (slice_get calls (made (happenings before))) y) call.0 ∙ ap (λ q. moment_after now q h.Call) call.1.1
    in
    omega (arith, after, call.1.2)
below_here calls workers e before t m (inr clock) =
    let now = now_of calls (happenings before) in
    let next = slice_get calls (made (happenings before)) in
    let accepted = clock_accepted now t (ap (λ y. (answer calls workers before y).answer) (sym clock.0) ∙ (sym m.2 ∙ clock.1)) in
    let after : now_of calls (happenings (e ∷ before)) ≡ t = ap (moment_after now next) clock.0 ∙ ap (λ b. cond b t now) accepted in
    omega (arith, after)

below_now : (calls : List Planned) (workers : ℕ) (later before : List HistoryEntry) (e : HistoryEntry) (t : ℕ) → IsHistoryOf calls workers (later ++ e ∷ before) → HasMoment calls e before t → t ≤ now_of calls (happenings (later ++ e ∷ before))
below_now calls workers [] before e t m has = below_here calls workers e before t m has
below_now calls workers (f ∷ later) before e t m has =
    let rest = later ++ e ∷ before in
    omega (arith, below_now calls workers later before e t m.0 has, rises (now_of calls (happenings rest)) (slice_get calls (made (happenings rest))) f.happening)

shown_behind : (calls : List Planned) (past : List HistoryEntry) (f : HistoryEntry) (t : ℕ) → Shows calls past t → Shows calls (f ∷ past) t
shown_behind calls past f t s = record { later = f ∷ s.later; e = s.e; before = s.before; parts = ap (λ l. f ∷ l) s.parts; moment = s.moment }

abbrev Greatest : List Planned → List HistoryEntry → ℕ → Type 0
Greatest calls past t = (t ≡ 0) ⊎ Shows calls past t

greatest_behind : (calls : List Planned) (past : List HistoryEntry) (f : HistoryEntry) (t : ℕ) → Greatest calls past t → Greatest calls (f ∷ past) t
greatest_behind calls past f t (inl none) = inl none
greatest_behind calls past f t (inr s) = inr (shown_behind calls past f t s)

greatest_here : (calls : List Planned) (past : List HistoryEntry) (e : HistoryEntry) (t : ℕ) → HasMoment calls e past t → Greatest calls (e ∷ past) t
greatest_here calls past e t has = inr (record { later = []; e = e; before = past; parts = refl; moment = has })

two_orders : (n k : ℕ) → (n ≤ k) ⊎ (k ≤ n)
two_orders n k = grind arith

max_cases : (n k : ℕ) → (max n k ≡ n) ⊎ (max n k ≡ k)
max_cases n k = elim (two_orders n k) [ inl l ↦ inr (omega (arith, l)) | inr l ↦ inl (omega (arith, l)) ]

now_shown : (calls : List Planned) (workers : ℕ) (past : List HistoryEntry) → IsHistoryOf calls workers past → Greatest calls past (now_of calls (happenings past))
now_shown calls workers [] m = inl refl
now_shown calls workers (e ∷ past) m =
    let now = now_of calls (happenings past) in
    let old = greatest_behind calls past e now (now_shown calls workers past m.0) in
    let called : (q : Option Planned) → slice_get calls (made (happenings past)) ≡ q → e.happening ≡ h.Call → Greatest calls (e ∷ past) (moment_after now q h.Call) =
    elim [
      | None ↦ λ is y. old
      | Some p ↦ λ is y. elim (max_cases now p.0) [
        | inl same ↦ subst (Greatest calls (e ∷ past)) (sym same) old
        | inr same ↦ greatest_here calls past e (max now p.0) (inl (y, (p, is, sym same)))
      ]
    ]
    in
    let clocked : (t : ℕ) (b : Bool) → is_accepted now t ≡ b → e.happening ≡ h.Clock t → Greatest calls (e ∷ past) (cond b t now) =
    λ t. elim [
      | true ↦ λ q y. greatest_here calls past e t (inr (y, m.2 ∙ (ap (λ z. (answer calls workers past z).answer) y ∙ sym (accepted_clock now t q))))
      | false ↦ λ q y. old
    ]
    in
    let go : (y : Happening) → e.happening ≡ y → Greatest calls (e ∷ past) (moment_after now (slice_get calls (made (happenings past))) y) =
    elim [
      | h.Call ↦ λ y. called (slice_get calls (made (happenings past))) refl y
      | h.Clock t ↦ λ y. clocked t (is_accepted now t) refl y
      | h.Start w ↦ λ y. old
      | h.Finish w ending ↦ λ y. old
      | h.Cancel k ↦ λ y. old
      | h.Purge ↦ λ y. old
    ]
    in
    go e.happening refl

-- the law that now is the greatest moment of the calls made and the accepted clocks
pub now_is_the_greatest : NowIsTheGreatest
now_is_the_greatest calls workers past m = (
  λ t s. subst (λ l. t ≤ now_of calls (happenings l)) (sym s.parts) (below_now calls workers s.later s.before s.e t (subst (IsHistoryOf calls workers) s.parts m) s.moment),
  now_shown calls workers past m,
)
