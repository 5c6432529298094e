-- A history of some calls is one of one call more, and of many.
use Rattle.std.proofs.Common.{◌≡◌, ℕ, ◌+◌, ◌<◌, ◌≤◌, zero, suc, true, false, cond, inl, inr, ◌⊎◌, List, [], ◌∷◌, ◌++◌, length, Some, refl, sym, ap, ◌∙◌, arith, subst, append_assoc}
use Rattle.std.specs.Prelude.{slice_get, nat_lt, nat_le}
use Rattle.std.specs.List.{All}
use Rattle.std.proofs.lemmas.Bool.{and_parts}
use Rattle.std.proofs.lemmas.Bool.Decides.{nat_tests}
use Rattle.std.proofs.lemmas.List.{append-nil}
use Rattle.std.proofs.lemmas.List.Elements.{All-head, All-tail, All-nil, All-cons}
use Rattle.std.proofs.lemmas.Option.{none-some, same_Some}
use Rattle.sched_time.specs.Times.{longest}
use Rattle.executor_model.specs.declared.types.Happening.{Happening}
use Rattle.executor_model.specs.declared.types.Happening.TheVariants as h
use Rattle.executor_model.specs.declared.types.EventError.TheVariants as x
use Rattle.executor_model.specs.declared.types.Answer.{Answer}
use Rattle.executor_model.specs.declared.types.Answer.TheVariants as a
use Rattle.queue_code.specs.Calls.{Planned, IsOrderly, IsOrderlyFrom, IsOrderlyCall, count_after, task_count}
use Rattle.executor_model.specs.Answers.{Reply, moment_after, is_accepted}
use Rattle.executor_model.specs.Histories.{HistoryEntry, happenings, made, now_of, answer, AreMade, MayFrom, IsHistoryOf}
use Rattle.executor_model.specs.State.{after, next, reply_of}
use Rattle.executor_model.specs.Flows.{lines_at, reply_in}
use Rattle.executor_model.proofs.Agree.{after_agrees, answers_alike}
use Rattle.executor_laws.specs.Additions.{LooksBelow, AllLookBelow, StandsFor, CallsMayBeAdded, ManyCallsMayBeAdded}
use Rattle.executor_laws.proofs.AddedCalls.{split_orderly, task_grows}
use Rattle.executor_laws.proofs.AddedAnswers.{IsNext, NotThere, Admits, reply_alike}
use Rattle.executor_laws.proofs.AddedSteps.{next_alike, moment_alike, passed_before, still_not_there}

-- ---- one call more

admits : (calls : List Planned) (p : Planned) (made now never : ℕ) (happening : Happening) (said : Answer) → task_count (calls ++ p ∷ []) ≤ never → MayFrom calls made now happening →
    LooksBelow p.0 (task_count calls) never happening said → Admits calls p made happening
admits calls p made now never h.Call said low may below = may
admits calls p made now never (h.Clock t) said low may below = tt
admits calls p made now never (h.Start w) said low may below = tt
admits calls p made now never (h.Finish w ending) said low may below = tt
admits calls p made now never (h.Cancel k) said low may (inl there) = inl there
admits calls p made now never (h.Cancel k) said low may (inr far) = inr (omega (arith, low, far))
admits calls p made now never h.Purge said low may below = tt

one_longer : (calls : List Planned) (p : Planned) → length (calls ++ p ∷ []) ≡ 1 + length calls
one_longer [] p = refl
one_longer (y ∷ calls) p = omega (arith, one_longer calls p)

which_call : (calls : List Planned) (p q : Planned) (n : ℕ) → slice_get (calls ++ p ∷ []) n ≡ Some q → (slice_get calls n ≡ Some q) ⊎ (p ≡ q)
which_call [] p q zero is = inr (same_Some p q is)
which_call [] p q (suc n) is = absurd (none-some q is)
which_call (y ∷ calls) p q zero is = inl is
which_call (y ∷ calls) p q (suc n) is = which_call calls p q n is

still_made : (calls : List Planned) (p : Planned) (made t : ℕ) → t < p.0 → AreMade calls made t → AreMade (calls ++ p ∷ []) made t
still_made calls p made t before all n q is at = elim (which_call calls p q n is) [
  | inl there ↦ all n q there at
  | inr last ↦ absurd (omega (arith, before, at, ap (λ (y : Planned). y.0) last))
]

-- a clock that is accepted is answered so
clock_answer : (moment now : ℕ) → is_accepted now moment ≡ true → cond (nat_lt moment now) (a.Error x.Backward) (cond (nat_lt longest moment) (a.Error x.TooFar) a.Clock) ≡ a.Clock
clock_answer moment now q =
    let parts = and_parts (nat_le now moment) (nat_le moment longest) q in
    let low : nat_lt moment now ≡ false = grind (arith, nat_tests, parts.0) in
    let near : nat_lt longest moment ≡ false = grind (arith, nat_tests, parts.1) in
    λ i. cond (low i) (a.Error x.Backward) (cond (near i) (a.Error x.TooFar) a.Clock)

may_still : (calls : List Planned) (p : Planned) (made now later never : ℕ) (happening : Happening) (said : Answer) → later ≡ now → MayFrom calls made now happening →
    ((t : ℕ) → happening ≡ h.Clock t → is_accepted now t ≡ true → said ≡ a.Clock) → LooksBelow p.0 (task_count calls) never happening said → MayFrom (calls ++ p ∷ []) made later happening
may_still calls p made now later never h.Call said same may clocks below = omega (arith, may, one_longer calls p)
may_still calls p made now later never (h.Clock t) said same may clocks below = λ q. let accepted = subst (λ m. is_accepted m t ≡ true) same q in still_made calls p made t (below (clocks t refl accepted)) (may accepted)
may_still calls p made now later never (h.Start w) said same may clocks below = tt
may_still calls p made now later never (h.Finish w ending) said same may clocks below = tt
may_still calls p made now later never (h.Cancel k) said same may clocks below = tt
may_still calls p made now later never h.Purge said same may clocks below = tt

-- it is, and knows nothing of the task that the call submits
record Still (calls : List Planned) (p : Planned) (workers : ℕ) (past : List HistoryEntry) : Type 0 where
  stands : StandsFor calls (calls ++ p ∷ []) workers past
  there : NotThere (after calls workers (happenings past)) (task_count calls)

still : (calls : List Planned) (p : Planned) (workers : ℕ) (past : List HistoryEntry) (never : ℕ) → IsNext calls p → task_count (calls ++ p ∷ []) ≤ never → IsHistoryOf calls workers past →
    AllLookBelow p.0 (task_count calls) never past → Still calls p workers past
still calls p workers [] never is low m below = record { stands = record { means = tt; lines = refl; state = refl; now = refl }; there = record { task = refl; idle = λ w q. none-some (task_count calls) q } }
still calls p workers (e ∷ past) never is low m below =
    let more = calls ++ p ∷ [] in
    let here : LooksBelow p.0 (task_count calls) never e.happening e.answer = All-head (λ e. LooksBelow p.0 (task_count calls) never e.happening e.answer) e past below in
    let before = still calls p workers past never is low m.0 (All-tail (λ e. LooksBelow p.0 (task_count calls) never e.happening e.answer) e past below) in
    let s = after calls workers (happenings past) in
    let agrees = after_agrees calls workers past m.0 in
    let agrees_more = after_agrees more workers past before.stands.means in
    let ok = admits calls p (made (happenings past)) (now_of calls (happenings past)) never e.happening e.answer low m.1 here in
    let ok_in : Admits calls p s.made e.happening = subst (λ n. Admits calls p n e.happening) (sym (ap (λ v. v.made) agrees.view)) ok in
    let same : answer more workers past e.happening ≡ answer calls workers past e.happening =
    sym (answers_alike more workers (after more workers (happenings past)) past e.happening agrees_more)
    ∙ (ap (λ t. reply_of more workers t e.happening) before.stands.state
    ∙ (reply_alike calls p workers s e.happening is before.there ok_in
    ∙ answers_alike calls workers s past e.happening agrees))
    in
    let clocks : (t : ℕ) → e.happening ≡ h.Clock t → is_accepted (now_of calls (happenings past)) t ≡ true → e.answer ≡ a.Clock =
    λ t is q. m.2 ∙ (ap (λ y. (answer calls workers past y).answer) is ∙ clock_answer t (now_of calls (happenings past)) q)
    in
    let now : moment_after (now_of more (happenings past)) (slice_get more (made (happenings past))) e.happening ≡ moment_after (now_of calls (happenings past)) (slice_get calls (made (happenings past))) e.happening =
    ap (λ n. moment_after n (slice_get more (made (happenings past))) e.happening) before.stands.now ∙ moment_alike calls p (now_of calls (happenings past)) (made (happenings past)) e.happening ok
    in
    record {
      stands = record {
        means = (
          before.stands.means,
          may_still calls p (made (happenings past)) (now_of calls (happenings past)) (now_of more (happenings past)) never e.happening e.answer before.stands.now m.1 clocks here,
          m.2 ∙ ap (λ (r : Reply). r.answer) (sym same),
          m.3 ∙ ap (λ (r : Reply). r.ends) (sym same),
        );
        lines = λ i. before.stands.lines i ++ lines_at (now i) (reply_in e);
        state = ap (λ t. next more workers t e.happening) before.stands.state ∙ next_alike calls p workers s e.happening is agrees.sound before.there ok_in;
        now = now;
      };
      there = still_not_there calls workers s (task_count calls) e.happening (passed_before calls s.made e.happening is.orderly) agrees.sound before.there;
    }

-- the law of one call more
pub calls_may_be_added : CallsMayBeAdded
calls_may_be_added calls workers past never p m open_for =
    let parts = split_orderly 0 0 calls p open_for.orderly in
    let same : 0 + task_count calls ≡ task_count calls = omega arith in
    (still calls p workers past never (record { orderly = parts.0; last = subst (λ n. IsOrderlyCall n p.1) same parts.1 }) open_for.numbers m open_for.below).stands

-- ---- many calls more

-- the front of calls in order is in order
front_orderly : (count moment : ℕ) (calls more : List Planned) → IsOrderlyFrom count moment (calls ++ more) → IsOrderlyFrom count moment calls
front_orderly count moment [] more o = tt
front_orderly count moment (y ∷ calls) more o = (o.0, o.1, o.2, front_orderly (count_after count y.1) y.0 calls more o.3)

-- a front has no more tasks
front_tasks : (calls more : List Planned) → task_count calls ≤ task_count (calls ++ more)
front_tasks calls [] = let same = ap task_count (append-nil calls) in omega (arith, same)
front_tasks calls (p ∷ more) =
    let rest = front_tasks (calls ++ p ∷ []) more in
    let same = ap task_count (append_assoc calls (p ∷ []) more) in
    omega (arith, task_grows calls p, rest, same)

-- what looks below some tasks looks below more of them
looks_higher : (moment count more never : ℕ) (happening : Happening) (said : Answer) → count ≤ more → LooksBelow moment count never happening said → LooksBelow moment more never happening said
looks_higher moment count more never h.Call said le below = tt
looks_higher moment count more never (h.Clock t) said le below = below
looks_higher moment count more never (h.Start w) said le below = tt
looks_higher moment count more never (h.Finish w ending) said le below = tt
looks_higher moment count more never (h.Cancel k) said le (inl there) = inl (omega (arith, there, le))
looks_higher moment count more never (h.Cancel k) said le (inr far) = inr far
looks_higher moment count more never h.Purge said le below = tt

all_higher : (moment count more never : ℕ) (past : List HistoryEntry) → count ≤ more → AllLookBelow moment count never past → AllLookBelow moment more never past
all_higher moment count more never [] le below = All-nil (λ (e : HistoryEntry). LooksBelow moment more never e.happening e.answer)
all_higher moment count more never (e ∷ past) le below =
    let here = All-head (λ (e : HistoryEntry). LooksBelow moment count never e.happening e.answer) e past below in
    let rest = All-tail (λ (e : HistoryEntry). LooksBelow moment count never e.happening e.answer) e past below in
    All-cons (λ (e : HistoryEntry). LooksBelow moment more never e.happening e.answer) e past (looks_higher moment count more never e.happening e.answer le here) (all_higher moment count more never past le rest)

each_higher : (count more never : ℕ) (past : List HistoryEntry) (added : List Planned) → count ≤ more → All (λ (p : Planned). AllLookBelow p.0 count never past) added → All (λ (p : Planned). AllLookBelow p.0 more never past) added
each_higher count more never past [] le below = All-nil (λ (p : Planned). AllLookBelow p.0 more never past)
each_higher count more never past (p ∷ added) le below =
    let here = All-head (λ (p : Planned). AllLookBelow p.0 count never past) p added below in
    let rest = All-tail (λ (p : Planned). AllLookBelow p.0 count never past) p added below in
    All-cons (λ (p : Planned). AllLookBelow p.0 more never past) p added (all_higher p.0 count more never past le here) (each_higher count more never past added le rest)

-- what stands for longer calls, and they for still longer ones, stands for those
stands_further : (calls mid longer : List Planned) (workers : ℕ) (past : List HistoryEntry) → StandsFor calls mid workers past → StandsFor mid longer workers past → StandsFor calls longer workers past
stands_further calls mid longer workers past one more = record {
  means = more.means;
  lines = more.lines ∙ one.lines;
  state = more.state ∙ one.state;
  now = more.now ∙ one.now;
}

stands_same : (calls : List Planned) (workers : ℕ) (past : List HistoryEntry) → IsHistoryOf calls workers past → StandsFor calls calls workers past
stands_same calls workers past m = record { means = m; lines = refl; state = refl; now = refl }

-- the law of many calls more
pub many_calls_may_be_added : ManyCallsMayBeAdded
many_calls_may_be_added calls workers past never [] m open_for = subst (λ cs. StandsFor calls cs workers past) (sym (append-nil calls)) (stands_same calls workers past m)
many_calls_may_be_added calls workers past never (p ∷ more) m open_for =
    let mid = calls ++ p ∷ [] in
    let whole : mid ++ more ≡ calls ++ p ∷ more = append_assoc calls (p ∷ []) more in
    let orderly : IsOrderly (mid ++ more) = subst IsOrderly (sym whole) open_for.orderly in
    let numbers : task_count (mid ++ more) ≤ never = subst (λ cs. task_count cs ≤ never) (sym whole) open_for.numbers in
    let first : StandsFor calls mid workers past = calls_may_be_added calls workers past never p m (record {
      orderly = front_orderly 0 0 mid more orderly;
      numbers = let fewer = front_tasks mid more in omega (arith, fewer, numbers);
      below = All-head (λ (p : Planned). AllLookBelow p.0 (task_count calls) never past) p more open_for.below;
    }) in
    let rest : StandsFor mid (mid ++ more) workers past = many_calls_may_be_added mid workers past never more first.means (record {
      orderly = orderly;
      numbers = numbers;
      below = each_higher (task_count calls) (task_count mid) never past more (task_grows calls p) (All-tail (λ (p : Planned). AllLookBelow p.0 (task_count calls) never past) p more open_for.below);
    }) in
    subst (λ cs. StandsFor calls cs workers past) whole (stands_further calls mid (mid ++ more) workers past first rest)
