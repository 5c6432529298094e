-- The tests of a call agree with its checks.
use Rattle.std.proofs.Common.{◌≡◌, ◌⊎◌, ◌≤◌, ℕ, ℤ, pos, Bool, true, false, not, ◌&&◌, ◌||◌, ◌==◌, nat_le, List, [], ◌∷◌, ◌++◌, length, Option, None, Some, is_some, codes, refl, sym, inl, inr, arith}
use Rattle.std.specs.Prelude.{unwrap_or, option_and_then, is_none}
use Rattle.std.specs.List.{AllByRecursion}
use Rattle.std.proofs.lemmas.Bool.{and_parts, cases_Bool}
use Rattle.std.proofs.lemmas.Bool.Decides.{nat_tests}
use Rattle.toml.specs.Data.{Data, string, integer, float, boolean, datetime, array, table, Members, get_member, as_str, as_integer, as_bool}
use Rattle.sched_time.specs.Times.{longest, span_of}
use Rattle.sched_time.specs.declared.policies.Which.TheVariants.{Continue}
use Rattle.sched_time.specs.declared.unit.Unit.{Unit as TimeUnit}
use Rattle.plan_read.specs.declared.faults.Place.{Place}
use Rattle.plan_read.specs.declared.faults.PlanFaultKind.TheVariants.{BadName, DuplicateName, UnknownName, Ambiguous}
use Rattle.plan_read.specs.declared.plans.Call.{Call}
use Rattle.plan_read.specs.declared.plans.Header.{Header}
use Rattle.plan_read.specs.declared.plans.Op.{Op}
use Rattle.plan_read.specs.declared.plans.Op.TheVariants as ops
use Rattle.plan_read.specs.declared.sites.Site.{Site}
use Rattle.plan_read.specs.declared.keys.Shape.TheVariants.{Text, Integer, Truth, Policy}
use Rattle.plan_read.specs.declared.units.Units.{Units}
use Rattle.plan_read.specs.declared.verbs.Verb.{Verb}
use Rattle.plan_read.specs.declared.verbs.Verb.TheVariants as verbs
use Rattle.plan_read.specs.declared.versions.Version.{Version}
use Rattle.plan_read.specs.declared.versions.Version.TheVariants.{One, Two}
use Rattle.plan_read.specs.Checks.{Passes}
use Rattle.plan_read.specs.Keys.{fits, Key, call_keys, own_keys, has_only, has_required, are_typed, verb_of_word, which_of_word}
use Rattle.plan_read.specs.task_names.Names.{is_name}
use Rattle.plan_read.specs.Plans.{PlanTree, find, submissions_before, moment_in_last, last_offset}
use Rattle.plan_read.specs.Writes.{call_checks, verb_of, NamesVerb, HasPolicy, NameAt, HasName, IsNew, HasTarget, IsClear, UnitOf, HaveUnits, HasSpans, SpanAt, DelayAt, PeriodAt}
use Rattle.plan_read.specs.own.Values.{text_or, integer_or, verb_at, name_at, op_of, written_call, target_of, span_at, period_at, unit_for, units_in, submits, found_at}
use Rattle.plan_read.specs.own.Walk.{Test, ◌barring◌, place_fault, call_tests, verb_tests, key_tests, name_tests, time_tests, is_clear, are_spans_short, is_verb, are_units}
use Rattle.plan_read.proofs.Accepted.{list_all_true, le_from_test}
use Rattle.plan_read.proofs.Agreeing.{Agree}
use Rattle.plan_read.proofs.HeaderLaw.{test_from_le}
use Rattle.plan_read.proofs.Holding.{integer_fits, text_fits, whole_fits, whole_is, span_fits, span_is}
use Rattle.plan_read.proofs.UnitLaw.{units_fit, units_are, unit_of_is, at_unit, delay_unit, first_unit, period_unit}
use Rattle.plan_read.proofs.VersionKeys.{call_texts, required_in_one, typed_in_one}

-- ---- values that are there

some_of : {A : Type 0} (o : Option A) (d : A) → is_some o ≡ true → o ≡ Some (unwrap_or o d)
some_of None d h = absurd (cc)
some_of (Some x) d h = refl

none_of : {A : Type 0} (o : Option A) → is_none o ≡ true → o ≡ None
none_of None h = refl
none_of (Some x) h = absurd (cc)

text_there : (o : Option Data) (d : List ℕ) → is_some o ≡ true → fits Text o ≡ true → o ≡ Some (string (unwrap_or (option_and_then as_str o) d))
text_there o d there typed = elim (text_fits o d typed) [ inl h ↦ h | inr h ↦ absurd (let e = rw h.0 at there in cc) ]

integer_there : (o : Option Data) (d : ℤ) → is_some o ≡ true → fits Integer o ≡ true → o ≡ Some (integer (unwrap_or (option_and_then as_integer o) d))
integer_there o d there typed = elim (integer_fits o d typed) [ inl h ↦ h | inr h ↦ absurd (let e = rw h.0 at there in cc) ]

truth_there : (o : Option Data) → is_some o ≡ true → fits Truth o ≡ true → o ≡ Some (boolean (unwrap_or (option_and_then as_bool o) false))
truth_there None there typed = absurd (cc)
truth_there (Some (boolean b)) there typed = refl
truth_there (Some (integer n)) there typed = absurd (cc)
truth_there (Some (string s)) there typed = absurd (cc)
truth_there (Some (float x)) there typed = absurd (cc)
truth_there (Some (datetime t)) there typed = absurd (cc)
truth_there (Some (array ds)) there typed = absurd (cc)
truth_there (Some (table ms)) there typed = absurd (cc)

policy_is_text : (o : Option Data) → fits Policy o ≡ true → fits Text o ≡ true
policy_is_text None typed = refl
policy_is_text (Some (string s)) typed = refl
policy_is_text (Some (boolean b)) typed = absurd (cc)
policy_is_text (Some (integer n)) typed = absurd (cc)
policy_is_text (Some (float x)) typed = absurd (cc)
policy_is_text (Some (datetime t)) typed = absurd (cc)
policy_is_text (Some (array ds)) typed = absurd (cc)
policy_is_text (Some (table ms)) typed = absurd (cc)

policy_word : (o : Option Data) → is_some o ≡ true → fits Policy o ≡ true → is_some (which_of_word (unwrap_or (option_and_then as_str o) [])) ≡ true
policy_word None there typed = absurd (cc)
policy_word (Some (string s)) there typed = typed
policy_word (Some (boolean b)) there typed = absurd (cc)
policy_word (Some (integer n)) there typed = absurd (cc)
policy_word (Some (float x)) there typed = absurd (cc)
policy_word (Some (datetime t)) there typed = absurd (cc)
policy_word (Some (array ds)) there typed = absurd (cc)
policy_word (Some (table ms)) there typed = absurd (cc)

same_block : (a b : ℕ) → ((a == b) || false) ≡ true → a ≡ b
same_block a b h = grind (arith, nat_tests)

-- what a cancel means
clear : (block : ℕ) (s : Site) → is_clear block (Some s) ≡ true → (s.target.block ≡ block) ⊎ (s.repeated ≡ false)
clear block s h = elim (cases_Bool s.repeated) [
  | inl t ↦ inl (same_block s.target.block block (rw t at h))
  | inr f ↦ inr f
]

or_yes : (a : Bool) → (a || true) ≡ true
or_yes true = refl
or_yes false = refl

same : (a b : ℕ) (r : Bool) → a ≡ b → ((a == b) || not r) ≡ true
same a b r h = let e : (a == b) ≡ true = grind (arith, nat_tests) in rw e refl

clear_back : (block : ℕ) (s : Site) → (s.target.block ≡ block) ⊎ (s.repeated ≡ false) → is_clear block (Some s) ≡ true
clear_back block s (inl h) = same s.target.block block s.repeated h
clear_back block s (inr h) = rw h (or_yes (s.target.block == block))

-- ---- the operation that is read

-- a value that is read as the word of an operation is a text
op_is_text : (o : Option Data) → is_some (verb_of_word (unwrap_or (option_and_then as_str o) [])) ≡ true → o ≡ Some (string (unwrap_or (option_and_then as_str o) []))
op_is_text None h = absurd (cc)
op_is_text (Some (string s)) h = refl
op_is_text (Some (boolean b)) h = absurd (cc)
op_is_text (Some (integer n)) h = absurd (cc)
op_is_text (Some (float x)) h = absurd (cc)
op_is_text (Some (datetime t)) h = absurd (cc)
op_is_text (Some (array ds)) h = absurd (cc)
op_is_text (Some (table ms)) h = absurd (cc)

-- the operation that is read is of the word that is read
verb_of_read : (verb : Verb) (found : Option Site) (units : Units) (ms : Members) → verb_of (op_of verb found units ms) ≡ verb
unfolding op_of
verb_of_read verbs.Schedule found unit ms = refl
verb_of_read verbs.Execute found unit ms = refl
verb_of_read verbs.Rate found unit ms = refl
verb_of_read verbs.Fixed found unit ms = refl
verb_of_read verbs.Cancel found unit ms = refl
verb_of_read verbs.Policy found unit ms = refl
verb_of_read verbs.Shutdown found unit ms = refl
verb_of_read verbs.ShutdownNow found unit ms = refl
verb_of_read verbs.Ask found unit ms = refl

verb_named : (ms : Members) → is_verb ms ≡ true → NamesVerb ms (verb_at ms)
unfolding verb_at
verb_named ms known =
    let word = text_or [] (codes "op") ms in
    (word, op_is_text (get_member (codes "op") ms) known, some_of (verb_of_word word) verbs.Ask known)

-- a word that the table names is the one that is read
verb_is : (ms : Members) (verb : Verb) → NamesVerb ms verb → (verb_at ms ≡ verb) × (is_verb ms ≡ true)
unfolding verb_at
verb_is ms verb w = (rw (w.1, w.2) refl, rw (w.1, w.2) refl)

-- ---- the keys that are read

required_all : (keys : List Key) (ms : Members) → has_required keys ms ≡ true → AllByRecursion (λ k. (not k.required || is_some (get_member k.name ms)) ≡ true) keys
required_all keys ms h = list_all_true (λ k. not k.required || is_some (get_member k.name ms)) keys h

typed_all : (keys : List Key) (ms : Members) → are_typed keys ms ≡ true → AllByRecursion (λ k. fits k.shape (get_member k.name ms) ≡ true) keys
typed_all keys ms h = list_all_true (λ k. fits k.shape (get_member k.name ms)) keys h

-- what the tests on the keys say
record KeysPass (verb : Verb) (ms : Members) : Type 0 where
  there : has_required (call_keys One verb) ms ≡ true
  typed : are_typed (call_keys One verb) ms ≡ true

-- the offset is an integer
offset_typed : (verb : Verb) (ms : Members) → are_typed (call_keys One verb) ms ≡ true → fits Integer (get_member (codes "at") ms) ≡ true
offset_typed verb ms h =
    let t = and_parts (fits Text (get_member (codes "op") ms)) (fits Integer (get_member (codes "at") ms) && are_typed (own_keys verb) ms) h in
    (and_parts (fits Integer (get_member (codes "at") ms)) (are_typed (own_keys verb) ms) t.1).0

policy_read : (verb : Verb) (found : Option Site) (units : Units) (ms : Members) → KeysPass verb ms → HasPolicy ms (op_of verb found units ms)
unfolding op_of
policy_read verbs.Policy found unit ms k =
    let there = required_all (call_keys One verbs.Policy) ms k.there in
    let typed = typed_all (call_keys One verbs.Policy) ms k.typed in
    let which = get_member (codes "which") ms in
    let word = text_or [] (codes "which") ms in (
      (word, text_there which [] there.1.1.0 (policy_is_text which typed.1.1.0), some_of (which_of_word word) Continue (policy_word which there.1.1.0 typed.1.1.0)),
      truth_there (get_member (codes "value") ms) there.1.1.1.0 typed.1.1.1.0,
    )
policy_read verbs.Schedule found unit ms k = tt
policy_read verbs.Execute found unit ms k = tt
policy_read verbs.Rate found unit ms k = tt
policy_read verbs.Fixed found unit ms k = tt
policy_read verbs.Cancel found unit ms k = tt
policy_read verbs.Shutdown found unit ms k = tt
policy_read verbs.ShutdownNow found unit ms k = tt
policy_read verbs.Ask found unit ms k = tt

-- ---- names: the tests on them, with one of each kind for every operation

-- an operation cancels a task
abbrev pub cancels : Verb → Bool
cancels verbs.Cancel = true
cancels _ = false

abbrev pub name_barring : Verb → Option Site → ℕ → Members → List Test
name_barring verb found block ms =
    (BadName barring not (submits verb || cancels verb) || is_name (name_at ms))
    ∷ (DuplicateName barring not (submits verb) || is_none found)
    ∷ (UnknownName barring not (cancels verb) || is_some found)
    ∷ (Ambiguous barring not (cancels verb) || is_clear block found)
    ∷ []

-- they have the same fault
names_alike : (p : Place) (verb : Verb) (found : Option Site) (block : ℕ) (ms : Members) (rest : List Test)
    → place_fault p (name_tests verb found block ms ++ rest) ≡ place_fault p (name_barring verb found block ms ++ rest)
unfolding name_tests
names_alike p verbs.Schedule found block ms rest = refl
names_alike p verbs.Execute found block ms rest = refl
names_alike p verbs.Rate found block ms rest = refl
names_alike p verbs.Fixed found block ms rest = refl
names_alike p verbs.Cancel found block ms rest = refl
names_alike p verbs.Policy found block ms rest = refl
names_alike p verbs.Shutdown found block ms rest = refl
names_alike p verbs.ShutdownNow found block ms rest = refl
names_alike p verbs.Ask found block ms rest = refl

-- the name that is read
name_there : (verb : Verb) (ms : Members) → is_some (get_member (codes "name") ms) ≡ true → fits Text (get_member (codes "name") ms) ≡ true → is_name (name_at ms) ≡ true → NameAt ms (name_at ms)
name_there verb ms there typed good = (text_there (get_member (codes "name") ms) [] there typed, good)

name_read : (verb : Verb) (found : Option Site) (block : ℕ) (units : Units) (ms : Members) → KeysPass verb ms → (not (submits verb || cancels verb) || is_name (name_at ms)) ≡ true
    → HasName ms (op_of verb found units ms)
unfolding op_of
name_read verbs.Schedule found block unit ms k good =
    name_there verbs.Schedule ms (required_all (call_keys One verbs.Schedule) ms k.there).1.1.0 (typed_all (call_keys One verbs.Schedule) ms k.typed).1.1.0 good
name_read verbs.Execute found block unit ms k good =
    name_there verbs.Execute ms (required_all (call_keys One verbs.Execute) ms k.there).1.1.0 (typed_all (call_keys One verbs.Execute) ms k.typed).1.1.0 good
name_read verbs.Rate found block unit ms k good =
    name_there verbs.Rate ms (required_all (call_keys One verbs.Rate) ms k.there).1.1.0 (typed_all (call_keys One verbs.Rate) ms k.typed).1.1.0 good
name_read verbs.Fixed found block unit ms k good =
    name_there verbs.Fixed ms (required_all (call_keys One verbs.Fixed) ms k.there).1.1.0 (typed_all (call_keys One verbs.Fixed) ms k.typed).1.1.0 good
name_read verbs.Cancel found block unit ms k good =
    (name_at ms, name_there verbs.Cancel ms (required_all (call_keys One verbs.Cancel) ms k.there).1.1.0 (typed_all (call_keys One verbs.Cancel) ms k.typed).1.1.0 good)
name_read verbs.Policy found block unit ms k good = tt
name_read verbs.Shutdown found block unit ms k good = tt
name_read verbs.ShutdownNow found block unit ms k good = tt
name_read verbs.Ask found block unit ms k good = tt

-- a name that stands there is the one that is read
name_is : (ms : Members) (name : List ℕ) → NameAt ms name → (name_at ms ≡ name) × (is_name (name_at ms) ≡ true)
name_is ms name w = let e : name_at ms ≡ name = rw w.0 refl in (e, rw e w.1)

name_good : (ms : Members) (op : Op) → HasName ms op → (not (submits (verb_of op) || cancels (verb_of op)) || is_name (name_at ms)) ≡ true
name_good ms (ops.Schedule name delay) w = (name_is ms name w).1
name_good ms (ops.Execute name) w = (name_is ms name w).1
name_good ms (ops.Rate name first period) w = (name_is ms name w).1
name_good ms (ops.Fixed name first delay) w = (name_is ms name w).1
name_good ms (ops.Cancel target) w = (name_is ms w.0 w.1).1
name_good ms (ops.Policy which value) w = refl
name_good ms ops.Shutdown w = refl
name_good ms ops.ShutdownNow w = refl
name_good ms ops.Ask w = refl

-- ---- no submission of the name

new_read : (verb : Verb) (subs : List (List ℕ × Site)) (units : Units) (ms : Members) → (not (submits verb) || is_none (find (name_at ms) subs)) ≡ true
    → IsNew subs (op_of verb (find (name_at ms) subs) units ms)
unfolding op_of
new_read verbs.Schedule subs unit ms h name is = let e : name_at ms ≡ name = cc in rw (← e) (none_of (find (name_at ms) subs) h)
new_read verbs.Execute subs unit ms h name is = let e : name_at ms ≡ name = cc in rw (← e) (none_of (find (name_at ms) subs) h)
new_read verbs.Rate subs unit ms h name is = let e : name_at ms ≡ name = cc in rw (← e) (none_of (find (name_at ms) subs) h)
new_read verbs.Fixed subs unit ms h name is = let e : name_at ms ≡ name = cc in rw (← e) (none_of (find (name_at ms) subs) h)
new_read verbs.Cancel subs unit ms h name is = absurd (cc)
new_read verbs.Policy subs unit ms h name is = absurd (cc)
new_read verbs.Shutdown subs unit ms h name is = absurd (cc)
new_read verbs.ShutdownNow subs unit ms h name is = absurd (cc)
new_read verbs.Ask subs unit ms h name is = absurd (cc)

new_good : (subs : List (List ℕ × Site)) (ms : Members) (op : Op) → HasName ms op → IsNew subs op → (not (submits (verb_of op)) || is_none (find (name_at ms) subs)) ≡ true
new_good subs ms (ops.Schedule name delay) w n = rw ((name_is ms name w).0, n name refl) refl
new_good subs ms (ops.Execute name) w n = rw ((name_is ms name w).0, n name refl) refl
new_good subs ms (ops.Rate name first period) w n = rw ((name_is ms name w).0, n name refl) refl
new_good subs ms (ops.Fixed name first delay) w n = rw ((name_is ms name w).0, n name refl) refl
new_good subs ms (ops.Cancel target) w n = refl
new_good subs ms (ops.Policy which value) w n = refl
new_good subs ms ops.Shutdown w n = refl
new_good subs ms ops.ShutdownNow w n = refl
new_good subs ms ops.Ask w n = refl

-- ---- the submission that a cancel means

some_site : (o : Option Site) → is_some o ≡ true → (s : Site) × (o ≡ Some s) × (target_of o ≡ s.target)
some_site None h = absurd (cc)
some_site (Some s) h = (s, refl, refl)

target_read : (verb : Verb) (subs : List (List ℕ × Site)) (units : Units) (ms : Members) → HasName ms (op_of verb (find (name_at ms) subs) units ms)
    → (not (cancels verb) || is_some (find (name_at ms) subs)) ≡ true → HasTarget subs ms (op_of verb (find (name_at ms) subs) units ms)
unfolding op_of
target_read verbs.Cancel subs unit ms w h =
    let s = some_site (find (name_at ms) subs) h in
    let n = name_is ms w.0 w.1 in
    (s.0, (w.0, w.1, rw (← n.0) s.1), s.2)
target_read verbs.Schedule subs unit ms w h = tt
target_read verbs.Execute subs unit ms w h = tt
target_read verbs.Rate subs unit ms w h = tt
target_read verbs.Fixed subs unit ms w h = tt
target_read verbs.Policy subs unit ms w h = tt
target_read verbs.Shutdown subs unit ms w h = tt
target_read verbs.ShutdownNow subs unit ms w h = tt
target_read verbs.Ask subs unit ms w h = tt

target_good : (subs : List (List ℕ × Site)) (ms : Members) (op : Op) → HasTarget subs ms op → (not (cancels (verb_of op)) || is_some (find (name_at ms) subs)) ≡ true
target_good subs ms (ops.Cancel target) w = rw ((name_is ms w.1.0 w.1.1).0, w.1.2) refl
target_good subs ms (ops.Schedule name delay) w = refl
target_good subs ms (ops.Execute name) w = refl
target_good subs ms (ops.Rate name first period) w = refl
target_good subs ms (ops.Fixed name first delay) w = refl
target_good subs ms (ops.Policy which value) w = refl
target_good subs ms ops.Shutdown w = refl
target_good subs ms ops.ShutdownNow w = refl
target_good subs ms ops.Ask w = refl

clear_read : (verb : Verb) (block : ℕ) (subs : List (List ℕ × Site)) (units : Units) (ms : Members) → HasTarget subs ms (op_of verb (find (name_at ms) subs) units ms)
    → (not (cancels verb) || is_clear block (find (name_at ms) subs)) ≡ true → IsClear block subs ms (op_of verb (find (name_at ms) subs) units ms)
unfolding op_of
clear_read verbs.Cancel block subs unit ms w h =
    let found : find (name_at ms) subs ≡ Some w.0 = rw (name_is ms w.1.0 w.1.1).0 w.1.2 in
    (w.0, w.1, clear block w.0 (rw found at h))
clear_read verbs.Schedule block subs unit ms w h = tt
clear_read verbs.Execute block subs unit ms w h = tt
clear_read verbs.Rate block subs unit ms w h = tt
clear_read verbs.Fixed block subs unit ms w h = tt
clear_read verbs.Policy block subs unit ms w h = tt
clear_read verbs.Shutdown block subs unit ms w h = tt
clear_read verbs.ShutdownNow block subs unit ms w h = tt
clear_read verbs.Ask block subs unit ms w h = tt

clear_good : (block : ℕ) (subs : List (List ℕ × Site)) (ms : Members) (op : Op) → IsClear block subs ms op → (not (cancels (verb_of op)) || is_clear block (find (name_at ms) subs)) ≡ true
clear_good block subs ms (ops.Cancel target) w = rw ((name_is ms w.1.0 w.1.1).0, w.1.2) (clear_back block w.0 w.2)
clear_good block subs ms (ops.Schedule name delay) w = refl
clear_good block subs ms (ops.Execute name) w = refl
clear_good block subs ms (ops.Rate name first period) w = refl
clear_good block subs ms (ops.Fixed name first delay) w = refl
clear_good block subs ms (ops.Policy which value) w = refl
clear_good block subs ms ops.Shutdown w = refl
clear_good block subs ms ops.ShutdownNow w = refl
clear_good block subs ms ops.Ask w = refl

-- ---- the spans

delay_there : (version : Version) (block unit : TimeUnit) (key : List ℕ) (ms : Members) → UnitOf version block key ms unit → is_some (get_member key ms) ≡ true → fits Integer (get_member key ms) ≡ true
    → nat_le (span_at unit key ms) longest ≡ true → DelayAt version block key ms (span_at unit key ms)
delay_there version block unit key ms u there typed short =
    (unit, u, integer_or (pos 0) key ms, integer_there (get_member key ms) (pos 0) there typed, refl, le_from_test (span_at unit key ms) longest short)

period_there : (version : Version) (block unit : TimeUnit) (key : List ℕ) (ms : Members) → UnitOf version block key ms unit → is_some (get_member key ms) ≡ true → fits Integer (get_member key ms) ≡ true
    → nat_le (span_at unit key ms) longest ≡ true → PeriodAt version block key ms (period_at unit key ms)
period_there version block unit key ms u there typed short =
    (unit, u, integer_or (pos 0) key ms, integer_there (get_member key ms) (pos 0) there typed, refl, le_from_test (span_at unit key ms) longest short)

spans_read : (version : Version) (verb : Verb) (found : Option Site) (block : TimeUnit) (ms : Members) → KeysPass verb ms → HaveUnits version ms → are_spans_short verb (units_in version block ms) ms ≡ true
    → HasSpans version block ms (op_of verb found (units_in version block ms) ms)
unfolding op_of
spans_read version verbs.Schedule found block ms k u short =
    let there = required_all (call_keys One verbs.Schedule) ms k.there in
    let typed = typed_all (call_keys One verbs.Schedule) ms k.typed in
    delay_there version block (unit_for version block (codes "delay") ms) (codes "delay") ms (delay_unit version block ms u) there.1.1.1.0 typed.1.1.1.0 short
spans_read version verbs.Rate found block ms k u short =
    let there = required_all (call_keys One verbs.Rate) ms k.there in
    let typed = typed_all (call_keys One verbs.Rate) ms k.typed in
    let first = unit_for version block (codes "first") ms in
    let period = unit_for version block (codes "period") ms in
    let both = and_parts (nat_le (span_at first (codes "first") ms) longest) (nat_le (span_at period (codes "period") ms) longest) short in (
      delay_there version block first (codes "first") ms (first_unit version block ms u) there.1.1.1.0 typed.1.1.1.0 both.0,
      period_there version block period (codes "period") ms (period_unit version block ms u) there.1.1.1.1.0 typed.1.1.1.1.0 both.1,
    )
spans_read version verbs.Fixed found block ms k u short =
    let there = required_all (call_keys One verbs.Fixed) ms k.there in
    let typed = typed_all (call_keys One verbs.Fixed) ms k.typed in
    let first = unit_for version block (codes "first") ms in
    let delay = unit_for version block (codes "delay") ms in
    let both = and_parts (nat_le (span_at first (codes "first") ms) longest) (nat_le (span_at delay (codes "delay") ms) longest) short in (
      delay_there version block first (codes "first") ms (first_unit version block ms u) there.1.1.1.0 typed.1.1.1.0 both.0,
      period_there version block delay (codes "delay") ms (delay_unit version block ms u) there.1.1.1.1.0 typed.1.1.1.1.0 both.1,
    )
spans_read version verbs.Execute found block ms k u short = tt
spans_read version verbs.Cancel found block ms k u short = tt
spans_read version verbs.Policy found block ms k u short = tt
spans_read version verbs.Shutdown found block ms k u short = tt
spans_read version verbs.ShutdownNow found block ms k u short = tt
spans_read version verbs.Ask found block ms k u short = tt

-- a span that stands there is the one that is read
delay_is : (version : Version) (block : TimeUnit) (key : List ℕ) (ms : Members) (n : ℕ) → DelayAt version block key ms n
    → (span_at (unit_for version block key ms) key ms ≡ n) × (nat_le (span_at (unit_for version block key ms) key ms) longest ≡ true)
delay_is version block key ms n w =
    let e : span_at (unit_for version block key ms) key ms ≡ n = rw (unit_of_is version block key ms w.0 w.1, w.3) (sym w.4) in
    (e, rw e (test_from_le n longest w.5))

period_is : (version : Version) (block : TimeUnit) (key : List ℕ) (ms : Members) (period : Option ℕ) → PeriodAt version block key ms period
    → (period_at (unit_for version block key ms) key ms ≡ period) × (nat_le (span_at (unit_for version block key ms) key ms) longest ≡ true)
period_is version block key ms period w =
    let unit = unit_of_is version block key ms w.0 w.1 in
    (rw (unit, w.3) (sym w.4), rw (unit, w.3) (test_from_le (span_of w.2 w.0) longest w.5))

spans_good : (version : Version) (block : TimeUnit) (ms : Members) (op : Op) → HasSpans version block ms op → are_spans_short (verb_of op) (units_in version block ms) ms ≡ true
spans_good version block ms (ops.Schedule name delay) w = (delay_is version block (codes "delay") ms delay w).1
spans_good version block ms (ops.Rate name first period) w = rw ((delay_is version block (codes "first") ms first w.0).1, (period_is version block (codes "period") ms period w.1).1) refl
spans_good version block ms (ops.Fixed name first delay) w = rw ((delay_is version block (codes "first") ms first w.0).1, (period_is version block (codes "delay") ms delay w.1).1) refl
spans_good version block ms (ops.Execute name) w = refl
spans_good version block ms (ops.Cancel target) w = refl
spans_good version block ms (ops.Policy which value) w = refl
spans_good version block ms ops.Shutdown w = refl
spans_good version block ms ops.ShutdownNow w = refl
spans_good version block ms ops.Ask w = refl

-- the offset that stands there is the one that is read
offset_is : (version : Version) (block : TimeUnit) (ms : Members) (n : ℕ) → SpanAt version block (codes "at") ms n → (n ≤ longest) × (span_at (unit_for version block (codes "at") ms) (codes "at") ms ≡ n)
offset_is version block ms n w =
    let s = span_is version block (codes "at") ms n w in
    (s.0, rw (unit_of_is version block (codes "at") ms w.0 w.1) s.1)

-- ---- times

or_le : (a b c d : ℕ) → (nat_le a b || nat_le c d) ≡ true → (a ≤ b) ⊎ (c ≤ d)
or_le a b c d h = elim (cases_Bool (nat_le a b)) [ inl t ↦ inl (le_from_test a b t) | inr f ↦ inr (le_from_test c d (rw f at h)) ]

or_back : (a b c d : ℕ) → (a ≤ b) ⊎ (c ≤ d) → (nat_le a b || nat_le c d) ≡ true
or_back a b c d (inl h) = rw (test_from_le a b h) refl
or_back a b c d (inr h) = rw (test_from_le c d h) (or_yes (nat_le a b))

-- three tests one after the other
three : (a b c : Bool) → ((a && b) && c) ≡ true → (a ≡ true) × (b ≡ true) × (c ≡ true)
three a b c h = let p = and_parts (a && b) c h in let q = and_parts a b p.0 in (q.0, q.1, p.1)

-- ---- units

units_read : (version : Version) (verb : Verb) (ms : Members) → has_only (call_keys version verb) ms ≡ true → are_typed (call_keys version verb) ms ≡ true → are_units version ms ≡ true → HaveUnits version ms
units_read One verb ms only typed known = tt
units_read Two verb ms only typed known = units_fit ms (call_texts verb ms only typed) known

-- ---- the tests and the checks

-- the tests on a call, with one on names of each kind
abbrev pub even_tests : Version → Option Site → ℕ → Header → ℕ → Members → List Test
even_tests version found block h last ms =
    verb_tests ms ++ key_tests version (verb_at ms) ms ++ name_barring (verb_at ms) found block ms ++ time_tests (verb_at ms) (units_in version h.unit ms) h last ms

pub tests_alike : (p : Place) (version : Version) (found : Option Site) (block : ℕ) (h : Header) (last : ℕ) (ms : Members)
    → place_fault p (call_tests version found block h last ms) ≡ place_fault p (even_tests version found block h last ms)
unfolding verb_tests key_tests
tests_alike p version found block h last ms = rw (names_alike p (verb_at ms) found block ms (time_tests (verb_at ms) (units_in version h.unit ms) h last ms)) refl

-- the operation that is read
abbrev pub op_read : Version → PlanTree → Header → List Call → Members → Op
op_read version earlier h before ms = op_of (verb_at ms) (found_at earlier h before ms) (units_in version h.unit ms) ms

-- what the checks before the names say of what is read
read_keys : (version : Version) (earlier : PlanTree) (h : Header) (before : List Call) (ms : Members) → has_required (call_keys version (verb_of (op_read version earlier h before ms))) ms ≡ true
    → are_typed (call_keys version (verb_of (op_read version earlier h before ms))) ms ≡ true → KeysPass (verb_at ms) ms
read_keys version earlier h before ms there typed =
    let e = verb_of_read (verb_at ms) (found_at earlier h before ms) (units_in version h.unit ms) ms in
    record { there = required_in_one version (verb_at ms) ms (rw e at there); typed = typed_in_one version (verb_at ms) ms (rw e at typed) }

pub call_agrees : (version : Version) (earlier : PlanTree) (h : Header) (before : List Call) (ms : Members)
    → Agree (written_call version (found_at earlier h before ms) h ms) [] (even_tests version (found_at earlier h before ms) (length earlier) h (last_offset before) ms) (call_checks version earlier h before ms)
unfolding verb_tests key_tests time_tests call_checks
call_agrees version earlier h before ms =
    let subs = submissions_before earlier h before in
    let found = find (name_at ms) subs in
    let verb = verb_at ms in
    let units = units_in version h.unit ms in
    let is = verb_of_read verb found units ms in
    let at = span_at units.at (codes "at") ms in (
      refl,
      λ b t. t,
      λ x b w. w,
      (
        refl,
        λ b t. rw is (verb_named ms t),
        λ x b w. (verb_is ms (verb_of x.op) w).1,
        (
          refl,
          λ b t. rw is t,
          λ x b w. rw (verb_is ms (verb_of x.op) b.1.0).0 w,
          (
            refl,
            λ b t. rw is t,
            λ x b w. rw (verb_is ms (verb_of x.op) b.1.0).0 w,
            (
              refl,
              λ b t. (rw is t, policy_read verb found units ms (record { there = required_in_one version verb ms (rw is at b.1.1.1.0); typed = typed_in_one version verb ms t })),
              λ x b w. rw (verb_is ms (verb_of x.op) b.1.0).0 w.0,
              (
                refl,
                λ b t. units_read version verb ms (rw is at b.1.1.0) (rw is at b.1.1.1.1.0.0) t,
                λ x b w. units_are version ms w,
                (
                  refl,
                  λ b t. name_read verb found (length earlier) units ms (read_keys version earlier h before ms b.1.1.1.0 b.1.1.1.1.0.0) t,
                  λ x b w. rw (verb_is ms (verb_of x.op) b.1.0).0 (name_good ms x.op w),
                  (
                    refl,
                    λ b t. new_read verb subs units ms t,
                    λ x b w. rw (verb_is ms (verb_of x.op) b.1.0).0 (new_good subs ms x.op b.1.1.1.1.1.1.0 w),
                    (
                      refl,
                      λ b t. target_read verb subs units ms b.1.1.1.1.1.1.0 t,
                      λ x b w. rw (verb_is ms (verb_of x.op) b.1.0).0 (target_good subs ms x.op w),
                      (
                        refl,
                        λ b t. clear_read verb (length earlier) subs units ms b.1.1.1.1.1.1.1.1.0 t,
                        λ x b w. rw (verb_is ms (verb_of x.op) b.1.0).0 (clear_good (length earlier) subs ms x.op w),
                        (
                          refl,
                          λ b t. (_, whole_fits (codes "at") ms (offset_typed verb ms (read_keys version earlier h before ms b.1.1.1.0 b.1.1.1.1.0.0).typed) t),
                          λ x b w. (whole_is (codes "at") ms w.0 w.1).0,
                          (
                            refl,
                            λ b t. (let n = three (nat_le at longest) (are_spans_short verb units ms) (nat_le (moment_in_last h at) longest) t in
                                let whole = b.1.1.1.1.1.1.1.1.1.1.0 in
                                let beside = b.1.1.1.1.1.0 in (
                                  span_fits version h.unit units.at (codes "at") ms whole.0 (at_unit version h.unit ms beside) whole.1 (le_from_test at longest n.0),
                                  spans_read version verb found h.unit ms (read_keys version earlier h before ms b.1.1.1.0 b.1.1.1.1.0.0) beside n.1,
                                  le_from_test (moment_in_last h at) longest n.2,
                                )),
                            λ x b w. (let a = offset_is version h.unit ms x.at w.0 in
                                rw ((verb_is ms (verb_of x.op) b.1.0).0, a.1, test_from_le x.at longest a.0, spans_good version h.unit ms x.op w.1, test_from_le (moment_in_last h x.at) longest w.2) refl),
                            (
                              refl,
                              λ b t. (let n = and_parts (nat_le (last_offset before) at) (nat_le h.times 1 || nat_le at h.every) t in
                                  (le_from_test (last_offset before) at n.0, or_le h.times 1 at h.every n.1)),
                              λ x b w. (let a = offset_is version h.unit ms x.at b.1.1.1.1.1.1.1.1.1.1.1.0.0 in
                                  rw (a.1, test_from_le (last_offset before) x.at w.0) (or_back h.times 1 x.at h.every w.1)),
                              tt,
                            ),
                          ),
                        ),
                      ),
                    ),
                  ),
                ),
              ),
            ),
          ),
        ),
      ),
    )

-- ---- what passes is what is read

op_is : (version : Version) (ms : Members) (found : Option Site) (block : TimeUnit) (op : Op) (subs : List (List ℕ × Site)) → HasPolicy ms op → HasName ms op → found ≡ find (name_at ms) subs → HasTarget subs ms op
    → HasSpans version block ms op → op ≡ op_of (verb_of op) found (units_in version block ms) ms
unfolding op_of
op_is version ms found block (ops.Schedule name delay) subs p n f t s = rw ((name_is ms name n).0, (delay_is version block (codes "delay") ms delay s).0) refl
op_is version ms found block (ops.Execute name) subs p n f t s = rw (name_is ms name n).0 refl
op_is version ms found block (ops.Rate name first period) subs p n f t s =
    rw ((name_is ms name n).0, (delay_is version block (codes "first") ms first s.0).0, (period_is version block (codes "period") ms period s.1).0) refl
op_is version ms found block (ops.Fixed name first delay) subs p n f t s =
    rw ((name_is ms name n).0, (delay_is version block (codes "first") ms first s.0).0, (period_is version block (codes "delay") ms delay s.1).0) refl
op_is version ms found block (ops.Cancel target) subs p n f t s = rw (f, (name_is ms t.1.0 t.1.1).0, t.1.2, t.2) refl
op_is version ms found block (ops.Policy which value) subs p n f t s = rw (p.0.1, p.0.2, p.1) refl
op_is version ms found block ops.Shutdown subs p n f t s = refl
op_is version ms found block ops.ShutdownNow subs p n f t s = refl
op_is version ms found block ops.Ask subs p n f t s = refl

pub call_is : (version : Version) (earlier : PlanTree) (h : Header) (before : List Call) (ms : Members) (c : Call) → Passes (call_checks version earlier h before ms) c
    → c ≡ written_call version (found_at earlier h before ms) h ms
unfolding call_checks
call_is version earlier h before ms c b =
    let subs = submissions_before earlier h before in
    let verb = (verb_is ms (verb_of c.op) b.1.0).0 in
    let a = offset_is version h.unit ms c.at b.1.1.1.1.1.1.1.1.1.1.1.0.0 in
    let op = op_is version ms (found_at earlier h before ms) h.unit c.op subs b.1.1.1.1.0.1 b.1.1.1.1.1.1.0 refl b.1.1.1.1.1.1.1.1.0 b.1.1.1.1.1.1.1.1.1.1.1.0.1 in
    rw (a.1, verb, ← op) refl
