-- The table of each call writes a call of a plan, which is made at the same moment and asks for the same.
use Rattle.std.proofs.Common.{◌≡◌, ◌<◌, ◌≤◌, ◌+◌, ◌-◌, ◌^◌, ◌==◌, ℕ, pos, Bool, true, false, List, length, Option, Some, None, codes, if◌then◌else◌, refl, sym, subst, inl, inr, arith}
use Rattle.std.specs.Prelude.{IsSome}
use Rattle.std.proofs.lemmas.Bool.Decides.{nat_tests}
use Rattle.toml.specs.Data.{Data, string, integer, Members, get_member}
use Rattle.sched_time.specs.Times.{longest}
use Rattle.sched_time.specs.declared.policies.Which.{Which}
use Rattle.sched_time.specs.declared.policies.Which.TheVariants.{Continue, Execute, Remove}
use Rattle.sched_time.specs.declared.unit.Unit.TheVariants.{Ns}
use Rattle.queue_code.specs.Calls.{IsOrderlyCall}
use Rattle.call_text.specs.Spelling.{FitsCall}
use Rattle.call_text.specs.declared.call.CallLine.{CallLine}
use Rattle.call_text.specs.declared.call.CallLine.TheVariants as call
use Rattle.plan_read.specs.declared.plans.Call.{Call}
use Rattle.plan_read.specs.declared.plans.Header.{Header}
use Rattle.plan_read.specs.declared.plans.Op.{Op}
use Rattle.plan_read.specs.declared.plans.Op.TheVariants as ops
use Rattle.plan_read.specs.declared.plans.Target.{Target}
use Rattle.plan_read.specs.declared.sites.Site.{Site}
use Rattle.plan_read.specs.declared.verbs.Verb.{Verb}
use Rattle.plan_read.specs.declared.versions.Version.TheVariants.{Two}
use Rattle.plan_read.specs.Keys.{call_keys, which_of_word}
use Rattle.plan_read.specs.Plans.{PlanTree, tasks_after, submissions_before, find, last_offset}
use Rattle.plan_read.specs.Writes.{HasOnly, HasRequired, AreTyped, NamesVerb, verb_of, HasName, IsNew, HasTarget, IsClear, HasSpans, HasPolicy, SpanAt, WritesCall, call_checks}
use Rattle.plan_compile.specs.PlanCalls.{code_call, target_number}
use Rattle.call_journal.specs.Plans.{task_after, task_name, which_word, written, call_members}
use Rattle.call_journal.specs.MadeCalls.{code_of}
use Rattle.call_journal.specs.declared.journal.MadeCall.{MadeCall}
use Rattle.call_journal.proofs.CallTables.{HasOwn, IsTableOf, verb_of_line, is_table}
use Rattle.call_journal.proofs.Numbered.{AreNumbered, finds_task, finds_none}
use Rattle.call_journal.proofs.TaskNames.{task_name-is}
use Rattle.call_journal.proofs.Nanos.{AreInNanos, have_units, no_span, span_is, delay_is, period_is}

-- ---- the operation of a call

-- the operation that the table of a call writes, where a cancel means the submission `target`
abbrev pub op_of_line : Target → ℕ → CallLine → Op
op_of_line target task (call.Schedule delay) = ops.Schedule (task_name task) delay
op_of_line target task call.Execute = ops.Execute (task_name task)
op_of_line target task (call.Rate first period) = ops.Rate (task_name task) first (Some period)
op_of_line target task (call.Fixed first delay) = ops.Fixed (task_name task) first (Some delay)
op_of_line target task (call.Cancel other) = ops.Cancel target
op_of_line target task (call.Policy which value) = ops.Policy which value
op_of_line target task call.Shutdown = ops.Shutdown
op_of_line target task call.ShutdownNow = ops.ShutdownNow
op_of_line target task call.Ask = ops.Ask

-- a cancel means the submission of its task, found among those before it
abbrev pub Aims : List ℕ → ℕ → List (List ℕ × Site) → Site → CallLine → Type 0
Aims firsts start subs s (call.Cancel other) = (find (task_name other) subs ≡ Some s) × (s.repeated ≡ false) × (target_number firsts start s.target ≡ other)
Aims firsts start subs s _ = Unit {0}

nowhere : Site
nowhere = record { target = record { block = 0; sub = 0 }; repeated = false }

-- there is one that it means
pub aims : (firsts : List ℕ) (start task : ℕ) (subs : List (List ℕ × Site)) (c : CallLine) → AreNumbered firsts start 0 subs → length subs ≡ task → task < 2 ^ 32 → IsOrderlyCall task (code_of task c)
    → (s : Site) × Aims firsts start subs s c
aims firsts start task subs (call.Cancel other) are count small orderly =
    let f = finds_task firsts start 0 other subs are (omega arith) (omega (arith, count, orderly)) (omega (arith, small, orderly)) in
    (f.site, (f.found, f.once, f.number))
aims firsts start task subs (call.Schedule delay) are count small orderly = (nowhere, tt)
aims firsts start task subs call.Execute are count small orderly = (nowhere, tt)
aims firsts start task subs (call.Rate first period) are count small orderly = (nowhere, tt)
aims firsts start task subs (call.Fixed first delay) are count small orderly = (nowhere, tt)
aims firsts start task subs (call.Policy which value) are count small orderly = (nowhere, tt)
aims firsts start task subs call.Shutdown are count small orderly = (nowhere, tt)
aims firsts start task subs call.ShutdownNow are count small orderly = (nowhere, tt)
aims firsts start task subs call.Ask are count small orderly = (nowhere, tt)

-- it is the call that was made
pub same_call : (firsts : List ℕ) (start task : ℕ) (subs : List (List ℕ × Site)) (s : Site) (c : CallLine) → Aims firsts start subs s c → code_call firsts start task (op_of_line s.target task c) ≡ code_of task c
same_call firsts start task subs s (call.Cancel other) aim = rw aim.2 refl
same_call firsts start task subs s (call.Schedule delay) aim = refl
same_call firsts start task subs s call.Execute aim = refl
same_call firsts start task subs s (call.Rate first period) aim = refl
same_call firsts start task subs s (call.Fixed first delay) aim = refl
same_call firsts start task subs s (call.Policy which value) aim = refl
same_call firsts start task subs s call.Shutdown aim = refl
same_call firsts start task subs s call.ShutdownNow aim = refl
same_call firsts start task subs s call.Ask aim = refl

-- it counts the same tasks
pub same_count : (target : Target) (task from : ℕ) (c : CallLine) → tasks_after from (op_of_line target task c) ≡ task_after from c
same_count target task from (call.Cancel other) = refl
same_count target task from (call.Schedule delay) = refl
same_count target task from call.Execute = refl
same_count target task from (call.Rate first period) = refl
same_count target task from (call.Fixed first delay) = refl
same_count target task from (call.Policy which value) = refl
same_count target task from call.Shutdown = refl
same_count target task from call.ShutdownNow = refl
same_count target task from call.Ask = refl

-- ---- the checks

some_there : (o : Option Data) (d : Data) → o ≡ Some d → IsSome o
some_there o d h = rw h refl

which_is : (which : Which) → which_of_word (which_word which) ≡ Some which
which_is Continue = refl
which_is Execute = refl
which_is Remove = refl

new_name : (subs : List (List ℕ × Site)) (own name : List ℕ) → find own subs ≡ None → Some own ≡ Some name → find name subs ≡ None
new_name subs own name none same = let e : own ≡ name = cc in subst (λ (w : List ℕ). find w subs ≡ None) e none

module _ (ms : Members) (task : ℕ) (subs : List (List ℕ × Site)) (firsts : List ℕ) (start block : ℕ) (s : Site) where
  policy_held : (c : CallLine) → HasOwn ms task c → HasPolicy ms (op_of_line s.target task c)
  policy_held (call.Policy which value) h = ((which_word which, h.0, which_is which), h.1)
  policy_held (call.Schedule delay) h = tt
  policy_held call.Execute h = tt
  policy_held (call.Rate first period) h = tt
  policy_held (call.Fixed first delay) h = tt
  policy_held (call.Cancel other) h = tt
  policy_held call.Shutdown h = tt
  policy_held call.ShutdownNow h = tt
  policy_held call.Ask h = tt

  name_held : (c : CallLine) → HasOwn ms task c → task < 2 ^ 32 → FitsCall c → HasName ms (op_of_line s.target task c)
  name_held (call.Schedule delay) h small fits = (h.0, task_name-is task small)
  name_held call.Execute h small fits = (h, task_name-is task small)
  name_held (call.Rate first period) h small fits = (h.0, task_name-is task small)
  name_held (call.Fixed first delay) h small fits = (h.0, task_name-is task small)
  name_held (call.Cancel other) h small fits = (task_name other, (h, task_name-is other fits))
  name_held (call.Policy which value) h small fits = tt
  name_held call.Shutdown h small fits = tt
  name_held call.ShutdownNow h small fits = tt
  name_held call.Ask h small fits = tt

  new_held : (c : CallLine) → find (task_name task) subs ≡ None → IsNew subs (op_of_line s.target task c)
  new_held (call.Schedule delay) none = λ name e. new_name subs (task_name task) name none e
  new_held call.Execute none = λ name e. new_name subs (task_name task) name none e
  new_held (call.Rate first period) none = λ name e. new_name subs (task_name task) name none e
  new_held (call.Fixed first delay) none = λ name e. new_name subs (task_name task) name none e
  new_held (call.Cancel other) none = λ name e. absurd (cc)
  new_held (call.Policy which value) none = λ name e. absurd (cc)
  new_held call.Shutdown none = λ name e. absurd (cc)
  new_held call.ShutdownNow none = λ name e. absurd (cc)
  new_held call.Ask none = λ name e. absurd (cc)

  target_held : (c : CallLine) → HasOwn ms task c → FitsCall c → Aims firsts start subs s c → HasTarget subs ms (op_of_line s.target task c)
  target_held (call.Cancel other) h fits aim = (s, (task_name other, (h, task_name-is other fits), aim.0), refl)
  target_held (call.Schedule delay) h fits aim = tt
  target_held call.Execute h fits aim = tt
  target_held (call.Rate first period) h fits aim = tt
  target_held (call.Fixed first delay) h fits aim = tt
  target_held (call.Policy which value) h fits aim = tt
  target_held call.Shutdown h fits aim = tt
  target_held call.ShutdownNow h fits aim = tt
  target_held call.Ask h fits aim = tt

  clear_held : (c : CallLine) → HasOwn ms task c → FitsCall c → Aims firsts start subs s c → IsClear block subs ms (op_of_line s.target task c)
  clear_held (call.Cancel other) h fits aim = (s, (task_name other, (h, task_name-is other fits), aim.0), inr aim.1)
  clear_held (call.Schedule delay) h fits aim = tt
  clear_held call.Execute h fits aim = tt
  clear_held (call.Rate first period) h fits aim = tt
  clear_held (call.Fixed first delay) h fits aim = tt
  clear_held (call.Policy which value) h fits aim = tt
  clear_held call.Shutdown h fits aim = tt
  clear_held call.ShutdownNow h fits aim = tt
  clear_held call.Ask h fits aim = tt

  spans_held : (c : CallLine) → HasOwn ms task c → AreInNanos ms → FitsCall c → HasSpans Two Ns ms (op_of_line s.target task c)
  spans_held (call.Schedule delay) h units fits = delay_is (codes "delay") ms delay units.2 h.1 fits
  spans_held (call.Rate first period) h units fits = (
    delay_is (codes "first") ms first units.3 h.1 fits.0,
    period_is (codes "period") ms period units.4 h.2 fits.1.0 fits.1.1,
  )
  spans_held (call.Fixed first delay) h units fits = (
    delay_is (codes "first") ms first units.3 h.1 fits.0,
    period_is (codes "delay") ms delay units.2 h.2 fits.1.0 fits.1.1,
  )
  spans_held call.Execute h units fits = tt
  spans_held (call.Cancel other) h units fits = tt
  spans_held (call.Policy which value) h units fits = tt
  spans_held call.Shutdown h units fits = tt
  spans_held call.ShutdownNow h units fits = tt
  spans_held call.Ask h units fits = tt

-- ---- the offset

zero_is : (n : ℕ) → (n == 0) ≡ true → n ≡ 0
zero_is n h = grind (arith, nat_tests)

-- the offset or the moment that stands at `at`
pub offset_by : (ms : Members) (zero : Bool) (n : ℕ) → get_member (codes "at") ms ≡ (if zero then None else Some (integer (pos (written n)))) → AreInNanos ms → (zero ≡ true → n ≡ 0) → n ≤ longest
    → SpanAt Two Ns (codes "at") ms n
offset_by ms true n has units none short = subst (λ (k : ℕ). SpanAt Two Ns (codes "at") ms k) (sym (none refl)) (no_span (codes "at") ms units.0 has)
offset_by ms false n has units none short = span_is (codes "at") ms n units.0 has short

-- ---- the call

-- the header of a block that begins at a moment
abbrev pub head_at : ℕ → Header
head_at begin = record { at = begin; unit = Ns; times = 1; every = 0 }

-- the call that a table writes
abbrev pub plan_call : ℕ → Site → ℕ → MadeCall → Call
plan_call begin s task c = record { at = c.moment - begin; op = op_of_line s.target task c.call }

verb_held : (target : Target) (task : ℕ) (c : CallLine) → verb_of (op_of_line target task c) ≡ verb_of_line c
verb_held target task (call.Cancel other) = refl
verb_held target task (call.Schedule delay) = refl
verb_held target task call.Execute = refl
verb_held target task (call.Rate first period) = refl
verb_held target task (call.Fixed first delay) = refl
verb_held target task (call.Policy which value) = refl
verb_held target task call.Shutdown = refl
verb_held target task call.ShutdownNow = refl
verb_held target task call.Ask = refl

-- the table of a call writes it
pub writes_call : (earlier : PlanTree) (firsts : List ℕ) (begin start task : ℕ) (before : List Call) (s : Site) (c : MadeCall)
    → AreNumbered firsts start 0 (submissions_before earlier (head_at begin) before) → length (submissions_before earlier (head_at begin) before) ≡ task → task < 2 ^ 32
    → FitsCall c.call → Aims firsts start (submissions_before earlier (head_at begin) before) s c.call
    → begin ≤ c.moment → c.moment ≤ longest → begin + last_offset before ≤ c.moment
    → WritesCall Two earlier (head_at begin) before (call_members begin task c) (plan_call begin s task c)
unfolding call_checks
writes_call earlier firsts begin start task before s c are count small fits aim begun within order =
    let subs = submissions_before earlier (head_at begin) before in
    let n = c.moment - begin in
    let ms = call_members begin task c in
    let t : IsTableOf ms (n == 0) n task c.call = is_table (n == 0) n task c.call in
    let none : find (task_name task) subs ≡ None = finds_none firsts start 0 task subs are (omega (arith, count)) (omega (arith, small)) in
    let at : SpanAt Two Ns (codes "at") ms n = offset_by ms (n == 0) n t.offset t.units (zero_is n) (omega (arith, within)) in
    let same = sym (verb_held s.target task c.call) in (
      some_there (get_member (codes "op") ms) (string t.verb.0) t.verb.1,
      (
        subst (λ (v : Verb). NamesVerb ms v) same t.verb,
        (
          subst (λ (v : Verb). HasOnly (call_keys Two v) ms) same t.only,
          (
            subst (λ (v : Verb). HasRequired (call_keys Two v) ms) same t.required,
            (
              (subst (λ (v : Verb). AreTyped (call_keys Two v) ms) same t.typed, policy_held ms task subs firsts start (length earlier) s c.call t.own),
              (
                have_units ms t.units,
                (
                  name_held ms task subs firsts start (length earlier) s c.call t.own small fits,
                  (
                    new_held ms task subs firsts start (length earlier) s c.call none,
                    (
                      target_held ms task subs firsts start (length earlier) s c.call t.own fits aim,
                      (
                        clear_held ms task subs firsts start (length earlier) s c.call t.own fits aim,
                        (
                          (at.2, at.3),
                          (
                            (at, spans_held ms task subs firsts start (length earlier) s c.call t.own t.units fits, omega (arith, begun, within)),
                            (
                              (omega (arith, order), inl (omega arith)),
                              tt,
                            ),
                          ),
                        ),
                      ),
                    ),
                  ),
                ),
              ),
            ),
          ),
        ),
      ),
    )
