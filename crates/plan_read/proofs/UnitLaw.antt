-- Units, by the tests and by the facts.
use Rattle.std.proofs.Common.{◌≡◌, ℕ, true, List, [], ◌∷◌, Option, None, Some, is_some, codes, refl, sym, subst}
use Rattle.std.proofs.lemmas.Bool.{and_parts}
use Rattle.std.specs.List.{AllByRecursion, list_all}
use Rattle.std.specs.Prelude.{unwrap_or}
use Rattle.toml.specs.Data.{Members, get_member}
use Rattle.sched_time.specs.declared.unit.Unit.{Unit as TimeUnit}
use Rattle.sched_time.specs.declared.unit.Unit.TheVariants.{Ns}
use Rattle.plan_read.specs.declared.keys.Shape.TheVariants.{Text}
use Rattle.plan_read.specs.declared.versions.Version.{Version}
use Rattle.plan_read.specs.declared.versions.Version.TheVariants.{One, Two}
use Rattle.plan_read.specs.Keys.{fits, time_keys, unit_key, unit_of_word}
use Rattle.plan_read.specs.Writes.{UnitAt, UnitOf, HaveUnits}
use Rattle.plan_read.specs.own.Values.{text_or, unit_or, unit_for}
use Rattle.plan_read.specs.own.Walk.{is_unit, are_units}
use Rattle.plan_read.proofs.Holding.{text_fits, text_is}

some_unit : (o : Option TimeUnit) → is_some o ≡ true → o ≡ Some (unwrap_or o Ns)
some_unit None h = absurd (cc)
some_unit (Some x) h = refl

-- a text that is a unit stands at its key as one
pub unit_fits : (version : Version) (key : List ℕ) (ms : Members) → fits Text (get_member key ms) ≡ true → is_unit version key ms ≡ true → UnitAt version key ms (unit_or version key ms)
unit_fits version key ms typed known =
    (text_or (codes "ns") key ms, text_fits (get_member key ms) (codes "ns") typed, some_unit (unit_of_word version (text_or (codes "ns") key ms)) known)

-- a unit that stands at a key is what is read there
pub unit_is : (version : Version) (key : List ℕ) (ms : Members) (unit : TimeUnit) → UnitAt version key ms unit → (is_unit version key ms ≡ true) × (unit_or version key ms ≡ unit)
unit_is version key ms unit w = let word = text_is (codes "ns") key ms w.0 w.1 in (rw (word.1, w.2) refl, rw (word.1, w.2) refl)

-- ---- beside the times

all_fit : (times : List (List ℕ)) (ms : Members) → AllByRecursion (λ time. fits Text (get_member (unit_key time) ms) ≡ true) times → list_all (λ time. is_unit Two (unit_key time) ms) times ≡ true
    → AllByRecursion (λ time. (unit : TimeUnit) × UnitAt Two (unit_key time) ms unit) times
all_fit [] ms typed known = tt
all_fit (time ∷ times) ms typed known =
    let p = and_parts (is_unit Two (unit_key time) ms) (list_all (λ t. is_unit Two (unit_key t) ms) times) known in
    ((unit_or Two (unit_key time) ms, unit_fits Two (unit_key time) ms typed.0 p.0), all_fit times ms typed.1 p.1)

all_are : (times : List (List ℕ)) (ms : Members) → AllByRecursion (λ time. (unit : TimeUnit) × UnitAt Two (unit_key time) ms unit) times → list_all (λ time. is_unit Two (unit_key time) ms) times ≡ true
all_are [] ms h = refl
all_are (time ∷ times) ms h = rw ((unit_is Two (unit_key time) ms h.0.0 h.0.1).0, all_are times ms h.1) refl

-- texts that are units stand beside the times as such
pub units_fit : (ms : Members) → AllByRecursion (λ time. fits Text (get_member (unit_key time) ms) ≡ true) time_keys → are_units Two ms ≡ true → HaveUnits Two ms
units_fit ms typed known = all_fit time_keys ms typed known

-- units that stand there are read as such
pub units_are : (version : Version) (ms : Members) → HaveUnits version ms → are_units version ms ≡ true
units_are One ms h = refl
units_are Two ms h = all_are time_keys ms h

-- ---- the unit of one time

-- the unit of a time is the one that is read
pub unit_of_is : (version : Version) (block : TimeUnit) (key : List ℕ) (ms : Members) (unit : TimeUnit) → UnitOf version block key ms unit → unit_for version block key ms ≡ unit
unit_of_is One block key ms unit w = sym w
unit_of_is Two block key ms unit w = (unit_is Two (unit_key key) ms unit w).1

-- the unit that is read is the time's, where it has one
read_unit : (key : List ℕ) (ms : Members) (h : (unit : TimeUnit) × UnitAt Two (unit_key key) ms unit) → UnitAt Two (unit_key key) ms (unit_or Two (unit_key key) ms)
read_unit key ms h = subst (λ (u : TimeUnit). UnitAt Two (unit_key key) ms u) (sym (unit_is Two (unit_key key) ms h.0 h.1).1) h.1

pub at_unit : (version : Version) (block : TimeUnit) (ms : Members) → HaveUnits version ms → UnitOf version block (codes "at") ms (unit_for version block (codes "at") ms)
at_unit One block ms h = refl
at_unit Two block ms h = read_unit (codes "at") ms h.0

pub every_unit : (version : Version) (block : TimeUnit) (ms : Members) → HaveUnits version ms → UnitOf version block (codes "every") ms (unit_for version block (codes "every") ms)
every_unit One block ms h = refl
every_unit Two block ms h = read_unit (codes "every") ms h.1.0

pub delay_unit : (version : Version) (block : TimeUnit) (ms : Members) → HaveUnits version ms → UnitOf version block (codes "delay") ms (unit_for version block (codes "delay") ms)
delay_unit One block ms h = refl
delay_unit Two block ms h = read_unit (codes "delay") ms h.1.1.0

pub first_unit : (version : Version) (block : TimeUnit) (ms : Members) → HaveUnits version ms → UnitOf version block (codes "first") ms (unit_for version block (codes "first") ms)
first_unit One block ms h = refl
first_unit Two block ms h = read_unit (codes "first") ms h.1.1.1.0

pub period_unit : (version : Version) (block : TimeUnit) (ms : Members) → HaveUnits version ms → UnitOf version block (codes "period") ms (unit_for version block (codes "period") ms)
period_unit One block ms h = refl
period_unit Two block ms h = read_unit (codes "period") ms h.1.1.1.1.0
