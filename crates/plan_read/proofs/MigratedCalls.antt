-- The calls of a block of version 1 are those of the tables with units in version 2.
use Rattle.std.proofs.Common.{◌≡◌, ℕ, true, List, [], ◌∷◌, ◌++◌, map, length, Option, is_some, codes, refl, subst, sym, ◌∙◌}
use Rattle.toml.specs.Data.{Data, Members}
use Rattle.sched_time.specs.declared.unit.Unit.{Unit as TimeUnit}
use Rattle.sched_time.specs.declared.unit.Unit.TheVariants.{Ns}
use Rattle.plan_read.specs.declared.plans.Call.{Call}
use Rattle.plan_read.specs.declared.plans.Header.{Header}
use Rattle.plan_read.specs.declared.plans.Op.{Op}
use Rattle.plan_read.specs.declared.plans.Op.TheVariants as ops
use Rattle.plan_read.specs.declared.sites.Site.{Site}
use Rattle.plan_read.specs.declared.verbs.Verb.{Verb}
use Rattle.plan_read.specs.declared.verbs.Verb.TheVariants as verbs
use Rattle.plan_read.specs.declared.versions.Version.TheVariants.{One, Two}
use Rattle.plan_read.specs.Keys.{call_keys}
use Rattle.plan_read.specs.Plans.{PlanTree, submissions_before}
use Rattle.plan_read.specs.Writes.{call_checks, verb_of, HasPolicy, NameAt, HasName, IsNew, Finds, HasTarget, IsClear, HasSpans, WritesCall, WritesCalls}
use Rattle.plan_read.specs.Migrating.{in_nanoseconds}
use Rattle.plan_read.proofs.MigratedUnits.{carried, CarriesUnits, units_carried, AreNoUnits, are_no_units, no_units, only_carried, required_carried, typed_carried}
use Rattle.plan_read.proofs.MigratedTimes.{IsUnit, have_units, integer_same, span_carried, delay_carried, period_carried}
use Rattle.plan_read.proofs.MigratedPlans.{header_in_nanoseconds, length_same, before_same}

-- ---- the keys of calls are not those of units

call_keys_apart : (verb : Verb) → AreNoUnits (call_keys One verb)
call_keys_apart verbs.Schedule = (refl, (refl, (refl, (refl, (refl, tt)))))
call_keys_apart verbs.Execute = (refl, (refl, (refl, (refl, (refl, tt)))))
call_keys_apart verbs.Rate = (refl, (refl, (refl, (refl, (refl, tt)))))
call_keys_apart verbs.Fixed = (refl, (refl, (refl, (refl, (refl, tt)))))
call_keys_apart verbs.Cancel = (refl, (refl, (refl, (refl, (refl, tt)))))
call_keys_apart verbs.Policy = (refl, (refl, (refl, (refl, (refl, tt)))))
call_keys_apart verbs.Shutdown = (refl, (refl, (refl, (refl, (refl, tt)))))
call_keys_apart verbs.ShutdownNow = (refl, (refl, (refl, (refl, (refl, tt)))))
call_keys_apart verbs.Ask = (refl, (refl, (refl, (refl, (refl, tt)))))

call_keys_no_units : (verb : Verb) → are_no_units (call_keys One verb) ≡ true
call_keys_no_units verbs.Schedule = refl
call_keys_no_units verbs.Execute = refl
call_keys_no_units verbs.Rate = refl
call_keys_no_units verbs.Fixed = refl
call_keys_no_units verbs.Cancel = refl
call_keys_no_units verbs.Policy = refl
call_keys_no_units verbs.Shutdown = refl
call_keys_no_units verbs.ShutdownNow = refl
call_keys_no_units verbs.Ask = refl

-- ---- what is no time

module _ (word : Option (List ℕ)) (ms ns : Members) (c : CarriesUnits word ms ns) where
  policy_carried : (op : Op) → HasPolicy ms op → HasPolicy ns op
  policy_carried (ops.Policy which value) w = ((w.0.0, c.others (codes "which") refl ∙ w.0.1, w.0.2), c.others (codes "value") refl ∙ w.1)
  policy_carried op w = tt

  name_at : (name : List ℕ) → NameAt ms name → NameAt ns name
  name_at name w = (c.others (codes "name") refl ∙ w.0, w.1)

  name_carried : (op : Op) → HasName ms op → HasName ns op
  name_carried (ops.Schedule name delay) w = name_at name w
  name_carried (ops.Execute name) w = name_at name w
  name_carried (ops.Rate name first period) w = name_at name w
  name_carried (ops.Fixed name first delay) w = name_at name w
  name_carried (ops.Cancel target) w = (w.0, name_at w.0 w.1)
  name_carried op w = tt

  finds_carried : (subs : List (List ℕ × Site)) (s : Site) → Finds subs ms s → Finds subs ns s
  finds_carried subs s w = (w.0, name_at w.0 w.1, w.2)

  target_carried : (subs : List (List ℕ × Site)) (op : Op) → HasTarget subs ms op → HasTarget subs ns op
  target_carried subs (ops.Cancel target) w = (w.0, finds_carried subs w.0 w.1, w.2)
  target_carried subs op w = tt

  clear_carried : (block : ℕ) (subs : List (List ℕ × Site)) (op : Op) → IsClear block subs ms op → IsClear block subs ns op
  clear_carried block subs (ops.Cancel target) w = (w.0, finds_carried subs w.0 w.1, w.2)
  clear_carried block subs op w = tt

  -- ---- times

  spans_carried : (block unit : TimeUnit) (op : Op) → IsUnit word unit → HasSpans One unit ms op → HasSpans Two block ns op
  spans_carried block unit (ops.Schedule name delay) is w = delay_carried word block unit (codes "delay") ms ns delay is (c.units.1.1.0, c.others (codes "delay") refl) w
  spans_carried block unit (ops.Rate name first period) is w = (
    delay_carried word block unit (codes "first") ms ns first is (c.units.1.1.1.0, c.others (codes "first") refl) w.0,
    period_carried word block unit (codes "period") ms ns period is (c.units.1.1.1.1.0, c.others (codes "period") refl) w.1,
  )
  spans_carried block unit (ops.Fixed name first delay) is w = (
    delay_carried word block unit (codes "first") ms ns first is (c.units.1.1.1.0, c.others (codes "first") refl) w.0,
    period_carried word block unit (codes "delay") ms ns delay is (c.units.1.1.0, c.others (codes "delay") refl) w.1,
  )
  spans_carried block unit op is w = tt

-- ---- a call

-- a call of version 1 is that of a table with units in version 2
call_of : (word : Option (List ℕ)) (earlier : PlanTree) (h : Header) (before : List Call) (ms ns : Members) (c : Call) → CarriesUnits word ms ns → IsUnit word h.unit → WritesCall One earlier h before ms c
    → WritesCall Two (in_nanoseconds earlier) (header_in_nanoseconds h) before ns c
unfolding call_checks
call_of word earlier h before ms ns c u is w =
    let verb = verb_of c.op in
    let same = sym (before_same earlier h before) in
    let only = w.1.1.0 in
    let required = w.1.1.1.0 in
    let typed = w.1.1.1.1.0 in
    let named = w.1.1.1.1.1.1.0 in
    let new = w.1.1.1.1.1.1.1.0 in
    let target = w.1.1.1.1.1.1.1.1.0 in
    let clear = w.1.1.1.1.1.1.1.1.1.0 in
    let forward = w.1.1.1.1.1.1.1.1.1.1.0 in
    let short = w.1.1.1.1.1.1.1.1.1.1.1.0 in
    let order = w.1.1.1.1.1.1.1.1.1.1.1.1.0 in
    let targets : HasTarget (submissions_before (in_nanoseconds earlier) (header_in_nanoseconds h) before) ns c.op =
    subst (λ (subs : List (List ℕ × Site)). HasTarget subs ns c.op) same (target_carried word ms ns u (submissions_before earlier h before) c.op target) in
    let clears : IsClear (length earlier) (submissions_before (in_nanoseconds earlier) (header_in_nanoseconds h) before) ns c.op =
    subst (λ (subs : List (List ℕ × Site)). IsClear (length earlier) subs ns c.op) same (clear_carried word ms ns u (length earlier) (submissions_before earlier h before) c.op clear) in (
      subst (λ (o : Option Data). is_some o ≡ true) (sym (u.others (codes "op") refl)) w.0,
      (
        (w.1.0.0, u.others (codes "op") refl ∙ w.1.0.1, w.1.0.2),
        (
          only_carried (call_keys One verb) word ms ns u only,
          (
            required_carried (call_keys One verb) word ms ns u (call_keys_no_units verb) required,
            (
              (typed_carried (call_keys One verb) word ms ns u (call_keys_no_units verb) typed.0, policy_carried word ms ns u c.op typed.1),
              (
                have_units word h.unit ms ns is u,
                (
                  name_carried word ms ns u c.op named,
                  (
                    subst (λ (subs : List (List ℕ × Site)). IsNew subs c.op) same new,
                    (
                      targets,
                      (
                        subst (λ (n : ℕ). IsClear n (submissions_before (in_nanoseconds earlier) (header_in_nanoseconds h) before) ns c.op) (sym (length_same earlier)) clears,
                        (
                          (forward.0, integer_same _ (codes "at") ms ns _ (u.others (codes "at") refl) forward.1),
                          (
                            (span_carried word Ns h.unit (codes "at") ms ns c.at is (u.units.0, u.others (codes "at") refl) short.0, spans_carried word ms ns u Ns h.unit c.op is short.1, short.2),
                            (
                              order,
                              tt,
                            ),
                          ),
                        ),
                      ),
                    ),
                  ),
                ),
              ),
            ),
          ),
        ),
      ),
    )

call_carried : (word : Option (List ℕ)) (earlier : PlanTree) (h : Header) (before : List Call) (ms : Members) (c : Call) → IsUnit word h.unit → WritesCall One earlier h before ms c
    → WritesCall Two (in_nanoseconds earlier) (header_in_nanoseconds h) before (carried word ms) c
unfolding call_checks
call_carried word earlier h before ms c is w =
    let verb = verb_of c.op in
    call_of word earlier h before ms (carried word ms) c (units_carried word ms (no_units (call_keys One verb) ms w.1.1.0 (call_keys_apart verb))) is w

-- the calls of version 1 are those of the tables with units in version 2
pub calls_carried : (word : Option (List ℕ)) (earlier : PlanTree) (h : Header) (before : List Call) (tables : List Members) (cs : List Call) → IsUnit word h.unit → WritesCalls One earlier h before tables cs
    → WritesCalls Two (in_nanoseconds earlier) (header_in_nanoseconds h) before (map (carried word) tables) cs
calls_carried word earlier h before [] [] is w = tt
calls_carried word earlier h before [] (c ∷ cs) is w = absurd w
calls_carried word earlier h before (ms ∷ tables) [] is w = absurd w
calls_carried word earlier h before (ms ∷ tables) (c ∷ cs) is w =
    (call_carried word earlier h before ms c is w.0, calls_carried word earlier h (before ++ c ∷ []) tables cs is w.1)
