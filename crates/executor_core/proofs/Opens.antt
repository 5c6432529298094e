-- The core before anything happened, and which calls a moment reaches.
use Rattle.std.proofs.Common.{zero, suc, ◌≡◌, ℕ, ◌+◌, ◌<◌, ◌≤◌, nat_le, Bool, true, false, cond, inl, inr, List, [], ◌∷◌, length, Some, None, refl, sym, ap, ◌∙◌, arith}
use Rattle.std.specs.Prelude.{slice_get, slice_index_or, replicate, IsTrue}
use Rattle.std.proofs.lemmas.Option.{none-some, slice_get_within, get_or_from_slice_get}
use Rattle.std.proofs.lemmas.Bool.{false≢true, le-leb, leb-true, cases_lt}
use Rattle.std.proofs.lemmas.Bool.Decides.{nat_tests}
use Rattle.std.proofs.lemmas.List.{length-replicate}
use Rattle.queue_code.specs.Calls.{Planned, IsOrderly, IsPlanned, IsOrderlyFrom, count_after, how_many, task_count}
use Rattle.executor_model.specs.Flows.{reached, ReachesNext}
use Rattle.executor_model.proofs.Tables.{at_replicate}
use Rattle.task_table.specs.Seats.{slot_of}
use Rattle.task_table.specs.Tables.{TableView, Stands}
use Rattle.executor_core.specs.CoreView.{IsOpening}
use Rattle.executor_core.specs.own.Invariants.{core_of, ArePlaced, IsReached, IsCore}
use Rattle.executor_core.proofs.Reaching.{count_tasks, state_there}

-- an empty slot holds no task
none_placed : (count : ℕ) (t : TableView) → t.slots ≡ replicate count None → ArePlaced 0 t.slots
none_placed count t is i x q = absurd (none-some x (sym (ap (λ slots. slot_of slots i) is ∙ at_replicate count i None) ∙ q))

-- where nothing happened yet
none_happened : (calls : List Planned) (t : TableView) → IsOrderly calls → Stands t [] [] → IsReached calls 0 t []
none_happened calls t orderly stands = record { stands = record { orderly = orderly; means = tt; shows = stands.shows }; front = refl; gone = λ i q. refl }

-- a core whose table is that of a plan before anything happened
pub opening_core : (calls : List Planned) (limit count workers : ℕ) (t : TableView) (sought : Bool) → IsPlanned calls → length t.work ≡ workers → workers ≤ 64 → count ≡ task_count calls → t.slots ≡ replicate count None → Stands t [] [] → sought ≡ false → IsCore (core_of calls limit 0 0 t) t sought
opening_core calls limit count workers t sought orderly width few counted is stands unsought = record {
  shown = refl;
  orderly = orderly;
  made = omega arith;
  few = omega (arith, width, few);
  taken = omega arith;
  moment = omega (arith, stands.shows.moment);
  ahead = λ p next. omega (arith, stands.shows.moment);
  count = count_tasks t.slots ∙ (ap length is ∙ (length-replicate count None ∙ counted));
  past = [];
  reached = none_happened calls t orderly.1 stands;
  placed = none_placed count t is;
  delayed = λ q. absurd (false≢true (sym unsought ∙ q));
}

-- is the opening one
pub opening_is : (calls : List Planned) (limit count workers : ℕ) (t : TableView) → IsPlanned calls → t.slots ≡ replicate count None → length t.work ≡ workers → Stands t [] [] → IsOpening (core_of calls limit 0 0 t) calls workers limit
opening_is calls limit count workers t orderly is width stands = record {
  calls = refl;
  limit = refl;
  taken = refl;
  count = width;
  stands = sym (state_there calls limit 0 0 t [] (none_happened calls t orderly.1 stands) (none_placed count t is));
}

-- ---- calls that a moment reaches

none_reached : (count moment t : ℕ) (calls : List Planned) → IsOrderlyFrom count moment calls → t < moment → how_many (λ p. nat_le p.0 t) calls ≡ 0
none_reached count moment t [] o l = refl
none_reached count moment t (p ∷ calls) o l =
    let beyond : nat_le p.0 t ≡ false = grind (arith, nat_tests, o.0) in
    ap (λ b. cond b (1 + how_many (λ q. nat_le q.0 t) calls) (how_many (λ q. nat_le q.0 t) calls)) beyond ∙ none_reached (count_after count p.1) p.0 t calls o.3 (omega (arith, o.0, l))

-- the next call is reached exactly when some call is
pub next_reached : (count moment t : ℕ) (calls : List Planned) (n : ℕ) (p d : Planned) → IsOrderlyFrom count moment calls → n < length calls → p ≡ slice_index_or calls n d →
    (p.0 ≤ t → reached calls n t ≡ 1 + reached calls (n + 1) t) × (t < p.0 → reached calls n t ≡ 0)
next_reached count moment t [] n p d o l is = absurd (omega arith)
next_reached count moment t (x ∷ calls) zero p d o l is = (
  λ yes. let test : nat_le x.0 t ≡ true = le-leb x.0 t (omega (arith, yes, ap (λ (y : Planned). y.0) is)) in
      ap (λ b. cond b (1 + how_many (λ q. nat_le q.0 t) calls) (how_many (λ q. nat_le q.0 t) calls)) test,
  λ beyond. let test : nat_le x.0 t ≡ false = grind (arith, nat_tests, beyond, ap (λ (y : Planned). y.0) is) in
      ap (λ b. cond b (1 + how_many (λ q. nat_le q.0 t) calls) (how_many (λ q. nat_le q.0 t) calls)) test
      ∙ none_reached (count_after count x.1) x.0 t calls o.3 (omega (arith, beyond, ap (λ (y : Planned). y.0) is)),
)
next_reached count moment t (x ∷ calls) (suc n) p d o l is =
    let rest = next_reached (count_after count x.1) x.0 t calls n p d o.3 (omega arith) is in
    let one : suc n + 1 ≡ suc (n + 1) = omega arith in
    (λ yes. rest.0 yes ∙ ap (λ k. 1 + reached (x ∷ calls) k t) (sym one), rest.1)

-- past the last call none is reached
pub end_reached : (calls : List Planned) (n t : ℕ) → slice_get calls n ≡ None → reached calls n t ≡ 0
end_reached [] zero t is = refl
end_reached [] (suc n) t is = refl
end_reached (x ∷ calls) zero t is = absurd (none-some x (sym is))
end_reached (x ∷ calls) (suc n) t is = end_reached calls n t is

-- ---- the test of the next call's moment tells whether some call is reached

-- a next call whose moment is at most that of a clock is reached
pub tells_next : (calls : List Planned) (n moment : ℕ) (p : Planned) → IsOrderly calls → slice_get calls n ≡ Some p → IsTrue (nat_le p.0 moment) → ReachesNext calls n moment
tells_next calls n moment p o is test =
    let low = slice_get_within calls n p is in
    (low, (next_reached 0 0 moment calls n p p o low (sym (get_or_from_slice_get calls n p p is))).0 (leb-true p.0 moment test))

-- a next call whose moment is above that of a clock is not reached, nor any behind it
pub tells_none : (calls : List Planned) (n moment : ℕ) (p : Planned) → IsOrderly calls → slice_get calls n ≡ Some p → nat_le p.0 moment ≡ false → reached calls n moment ≡ 0
tells_none calls n moment p o is test =
    (next_reached 0 0 moment calls n p p o (slice_get_within calls n p is) (sym (get_or_from_slice_get calls n p p is))).1
    (elim (cases_lt moment p.0) [ inl beyond ↦ beyond | inr within ↦ absurd (false≢true (sym test ∙ le-leb p.0 moment within)) ])
