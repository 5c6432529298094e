-- The calls that a journal keeps of those that were noted in it.
use Rattle.std.proofs.Common.{◌≡◌, ◌⊎◌, ◌<◌, ◌≤◌, ◌+◌, ℕ, Bool, true, false, nat_lt, if◌then◌else◌, List, [], ◌∷◌, ◌++◌, length, append_assoc, length-append, refl, sym, subst, ap, ◌∙◌, inl, inr, arith}
use Rattle.std.proofs.lemmas.Bool.{cases_Bool, and_parts}
use Rattle.std.proofs.lemmas.Bool.Decides.{nat_tests}
use Rattle.std.proofs.lemmas.List.{append-nil}
use Rattle.queue_code.specs.Calls.{Planned, submits_task, task_count, IsOrderlyFrom, IsOrderly}
use Rattle.call_text.specs.declared.call.CallLine.{CallLine}
use Rattle.call_text.specs.declared.call.CallLine.TheVariants as call
use Rattle.plan_read.specs.Plans.{most_calls}
use Rattle.call_journal.specs.Journals.{JournalView, keeps_more, noted}
use Rattle.call_journal.specs.MadeCalls.{code_of, numbered_calls, executor_calls, MayBePlanned}
use Rattle.call_journal.specs.Plans.{task_after, tasks_after}
use Rattle.call_journal.specs.declared.journal.MadeCall.{MadeCall}
use Rattle.call_journal.proofs.BlockCalls.{AllFit, call_counts, length-numbered}

-- ---- one call more

counts : (task : ℕ) (c : CallLine) → (if submits_task (code_of task c) then task + 1 else task) ≡ task_after task c
counts task (call.Cancel other) = refl
counts task (call.Schedule delay) = refl
counts task call.Execute = refl
counts task (call.Rate first period) = refl
counts task (call.Fixed first delay) = refl
counts task (call.Policy which value) = refl
counts task call.Shutdown = refl
counts task call.ShutdownNow = refl
counts task call.Ask = refl

counted_by : (task n : ℕ) (submits : Bool) (after : ℕ) → (if submits then task + 1 else task) ≡ after → task + (if submits then 1 + n else n) ≡ after + n
counted_by task n true after h = omega (arith, h)
counted_by task n false after h = omega (arith, h)

-- the tasks that some calls submit
tasks_counted : (task : ℕ) (cs : List MadeCall) → task + task_count (numbered_calls task cs) ≡ tasks_after task cs
tasks_counted task [] = omega arith
tasks_counted task (c ∷ cs) =
    counted_by task (task_count (numbered_calls (task_after task c.call) cs)) (submits_task (code_of task c.call)) (task_after task c.call) (counts task c.call)
    ∙ tasks_counted (task_after task c.call) cs

numbered_more : (task : ℕ) (cs : List MadeCall) (c : MadeCall) → numbered_calls task (cs ++ c ∷ []) ≡ numbered_calls task cs ++ (c.moment, code_of (tasks_after task cs) c.call) ∷ []
numbered_more task [] c = refl
numbered_more task (d ∷ cs) c = ap (λ (rest : List Planned). (d.moment, code_of task d.call) ∷ rest) (numbered_more (task_after task d.call) cs c)

-- one call more is numbered behind the tasks that were submitted
pub executor_calls-more : (cs : List MadeCall) (c : MadeCall) → executor_calls (cs ++ c ∷ []) ≡ executor_calls cs ++ (c.moment, code_of (task_count (executor_calls cs)) c.call) ∷ []
executor_calls-more cs c =
    let count : tasks_after 0 cs ≡ task_count (executor_calls cs) = omega (arith, tasks_counted 0 cs) in
    numbered_more 0 cs c ∙ ap (λ (n : ℕ). executor_calls cs ++ (c.moment, code_of n c.call) ∷ []) count

pub fit_more : (cs : List MadeCall) (c : MadeCall) → AllFit cs → AllFit (c ∷ []) → AllFit (cs ++ c ∷ [])
fit_more [] c all one = one
fit_more (d ∷ cs) c all one = (all.0, fit_more cs c all.1 one)

-- ---- those in front

fit_front : (cs rest : List MadeCall) → AllFit (cs ++ rest) → AllFit cs
fit_front [] rest all = tt
fit_front (c ∷ cs) rest all = (all.0, fit_front cs rest all.1)

orderly_front : (task moment : ℕ) (cs rest : List MadeCall) → IsOrderlyFrom task moment (numbered_calls task (cs ++ rest)) → IsOrderlyFrom task moment (numbered_calls task cs)
orderly_front task moment [] rest h = tt
orderly_front task moment (c ∷ cs) rest h =
    let behind : IsOrderlyFrom (task_after task c.call) c.moment (numbered_calls (task_after task c.call) (cs ++ rest)) =
    subst (λ (n : ℕ). IsOrderlyFrom n c.moment (numbered_calls (task_after task c.call) (cs ++ rest))) (call_counts task c.call) h.3 in
    let front = orderly_front (task_after task c.call) c.moment cs rest behind in
    (h.0, h.1, h.2, subst (λ (n : ℕ). IsOrderlyFrom n c.moment (numbered_calls (task_after task c.call) cs)) (sym (call_counts task c.call)) front)

-- ---- what is kept

-- a journal keeps the first of these calls: all of them, or those for which there is room
pub record Keeps (journal : JournalView) (all : List MadeCall) : Type 0 where
  pub rest : List MadeCall
  pub joined : journal.calls ++ rest ≡ all
  pub few : length journal.calls ≤ most_calls
  pub full : (rest ≡ []) ⊎ (keeps_more journal ≡ false)

-- an empty journal keeps none
pub keeps_none : (journal : JournalView) → journal.calls ≡ [] → Keeps journal []
keeps_none journal none = record { rest = []; joined = append-nil journal.calls ∙ none; few = rw none (omega arith); full = inl refl }

less : (a b : ℕ) → nat_lt a b ≡ true → a < b
less a b h = grind (arith, nat_tests)

keeps_one : (journal : JournalView) (all : List MadeCall) (c : MadeCall) → keeps_more journal ≡ true → Keeps journal all → Keeps (record journal { calls = journal.calls ++ c ∷ [] }) (all ++ c ∷ [])
keeps_one journal all c more keeps =
    let none : keeps.rest ≡ [] = elim keeps.full [ inl e ↦ e | inr past ↦ absurd (let e = sym more ∙ past in cc) ] in
    let same : journal.calls ≡ all = sym (append-nil journal.calls) ∙ subst (λ (rest : List MadeCall). journal.calls ++ rest ≡ all) none keeps.joined in
    let under : length journal.calls < most_calls = less (length journal.calls) most_calls (and_parts journal.is_wanted (nat_lt (length journal.calls) most_calls) more).1 in
    record {
      rest = [];
      joined = append-nil (journal.calls ++ c ∷ []) ∙ ap (λ (cs : List MadeCall). cs ++ c ∷ []) same;
      few = omega (arith, length-append journal.calls (c ∷ []), under);
      full = inl refl;
    }

keeps_past : (journal after : JournalView) (all : List MadeCall) (c : MadeCall) → keeps_more journal ≡ false → after.calls ≡ journal.calls → keeps_more after ≡ false → Keeps journal all → Keeps after (all ++ c ∷ [])
keeps_past journal after all c past same still keeps = record {
  rest = keeps.rest ++ c ∷ [];
  joined = ap (λ (cs : List MadeCall). cs ++ (keeps.rest ++ c ∷ [])) same ∙ sym (append_assoc journal.calls keeps.rest (c ∷ [])) ∙ ap (λ (cs : List MadeCall). cs ++ c ∷ []) keeps.joined;
  few = rw same keeps.few;
  full = inr still;
}

past_by : (wanted : Bool) (journal : JournalView) (all : List MadeCall) (c : MadeCall) → keeps_more journal ≡ false → Keeps journal all → Keeps (if wanted then record journal { is_over = true } else journal) (all ++ c ∷ [])
past_by true journal all c past keeps = keeps_past journal (record journal { is_over = true }) all c past refl past keeps
past_by false journal all c past keeps = keeps_past journal journal all c past refl past keeps

-- one call more is noted
pub keeps_noted : (journal : JournalView) (all : List MadeCall) (c : MadeCall) → Keeps journal all → Keeps (noted journal c) (all ++ c ∷ [])
keeps_noted journal all c keeps =
    elim (cases_Bool (keeps_more journal)) [
      | inl more ↦ rw more (keeps_one journal all c more keeps)
      | inr past ↦ rw past (past_by journal.is_wanted journal all c past keeps)
    ]

-- a plan may make the calls that a journal keeps, where all that were noted are in order and fit
pub kept_may : (journal : JournalView) (all : List MadeCall) → Keeps journal all → IsOrderly (executor_calls all) → AllFit all → MayBePlanned journal.calls
kept_may journal all keeps orderly fit =
    let run : IsOrderly (executor_calls (journal.calls ++ keeps.rest)) = subst (λ (cs : List MadeCall). IsOrderly (executor_calls cs)) (sym keeps.joined) orderly in (
      (omega (arith, length-numbered 0 journal.calls, keeps.few), orderly_front 0 0 journal.calls keeps.rest run),
      fit_front journal.calls keeps.rest (subst AllFit (sym keeps.joined) fit),
    )
