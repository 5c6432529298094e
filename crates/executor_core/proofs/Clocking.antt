-- A clock that is accepted.
use Rattle.std.proofs.Common.{◌≡◌, ℕ, ◌≤◌, nat_le, Bool, true, false, List, length, Some, refl, sym, ap, ◌∙◌, arith, subst}
use Rattle.std.specs.Prelude.{slice_get}
use Rattle.std.proofs.lemmas.Bool.Decides.{nat_tests}
use Rattle.std.proofs.lemmas.Bool.{leb-true}
use Rattle.sched_time.specs.Times.{longest}
use Rattle.queue_code.specs.Calls.{Planned}
use Rattle.executor_model.specs.declared.types.Happening.TheVariants as h
use Rattle.executor_model.specs.declared.types.Answer.TheVariants as a
use Rattle.executor_model.specs.View.{View}
use Rattle.executor_model.specs.Answers.{bare, is_accepted}
use Rattle.executor_model.specs.Histories.{HistoryEntry, happenings, now_of, AreMade, MayCome}
use Rattle.executor_model.proofs.Agree.{after_agrees}
use Rattle.task_table.specs.Tables.{TableView, EventSteps}
use Rattle.task_table.specs.Changes.{at_moment}
use Rattle.executor_core.specs.own.Invariants.{core_of, IsReached, IsCore}
use Rattle.executor_core.specs.own.OwnSteps.{Takes}
use Rattle.executor_core.proofs.Landing.{StaysGone, stays_gone, lands, stays}

-- the moment of a history is that of the table which stands there
pub now_there : (calls : List Planned) (count : ℕ) (t : TableView) (past : List HistoryEntry) → IsReached calls count t past → now_of calls (happenings past) ≡ t.moment
now_there calls count t past reached = sym (ap (λ (v : View). v.moment) (after_agrees calls (length t.work) past reached.stands.means).view) ∙ reached.stands.shows.moment

-- a clock that finds each call made whose moment it reaches may come
clock_comes : (calls : List Planned) (count now : ℕ) (t : TableView) (past : List HistoryEntry) → IsReached calls count t past → (is_accepted t.moment now ≡ true → AreMade calls count now) → MayCome calls (happenings past) (h.Clock now)
clock_comes calls count now t past reached made_all accepted =
    subst (λ n. AreMade calls n now) (sym reached.front) (made_all (ap (λ m. is_accepted m now) (sym (now_there calls count t past reached)) ∙ accepted))

-- the next call is not before it
next_later : (calls : List Planned) (count now : ℕ) → AreMade calls count now → (p : Planned) → slice_get calls count ≡ Some p → now ≤ p.0
next_later calls count now all p is = by (nat_le p.0 now) refl
  where
    by : (b : Bool) → nat_le p.0 now ≡ b → now ≤ p.0
    by true q = absurd (omega (arith, all count p is (leb-true p.0 now q)))
    by false q = grind (arith, nat_tests, q)

pub clock : (calls : List Planned) (limit taken count : ℕ) (t u : TableView) (sought : Bool) (now : ℕ) (f : IsCore (core_of calls limit taken count t) t sought) → is_accepted t.moment now ≡ true → now ≤ longest → AreMade calls count now → u ≡ at_moment t now →
    EventSteps t u (h.Clock now) (bare a.Clock) → Takes (core_of calls limit taken count t) (core_of calls limit taken count u) (h.Clock now) a.Clock × IsCore (core_of calls limit taken count u) u sought
clock calls limit taken count t u sought now f accepted near all is steps =
    let v = at_moment t now in
    let takes = subst (λ x. EventSteps t x (h.Clock now) (bare a.Clock)) is steps calls f.past f.reached.stands in
    let gone : StaysGone calls t v f.past (h.Clock now) = stays_gone calls count t v f.past (h.Clock now) f.reached (λ i q. (q, tt)) in
    let comes = clock_comes calls count now t f.past f.reached (λ _. all) in
    let done : Takes (core_of calls limit taken count t) (core_of calls limit taken count v) (h.Clock now) a.Clock × IsCore (core_of calls limit taken count v) v sought = (
      lands calls limit taken count count t v sought (h.Clock now) a.Clock f comes refl takes gone f.placed refl,
      stays calls limit taken count count t v sought (h.Clock now) (bare a.Clock) f comes refl takes gone f.placed refl refl near f.made (next_later calls count now all),
    )
    in
    (subst (λ x. Takes (core_of calls limit taken count t) (core_of calls limit taken count x) (h.Clock now) a.Clock) (sym is) done.0, subst (λ x. IsCore (core_of calls limit taken count x) x sought) (sym is) done.1)

-- a moment at which the clock is accepted is within the limit
pub clock_near : (now moment : ℕ) → is_accepted now moment ≡ true → moment ≤ longest
clock_near now moment is = grind (arith, nat_tests, is)
