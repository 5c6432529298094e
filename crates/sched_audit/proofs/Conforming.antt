-- What a run wrote conforms: the trace of some events is a history, and the text of each history conforms.
use Rattle.std.proofs.Common.{◌≡◌, ℕ, zero, suc, ◌^◌, ◌<◌, ◌≤◌, List, [], ◌∷◌, ◌++◌, length, replicate, Result, Ok, Err, sym, ap, subst, arith}
use Rattle.std.specs.Prelude.{All}
use Rattle.std.proofs.lemmas.List.Elements.{All-nil, All-cons, All-head, All-tail}
use Rattle.queue_code.specs.Calls.{Planned, IsPlanned}
use Rattle.executor_model.specs.declared.types.Event.{Event}
use Rattle.executor_model.specs.declared.types.Event.TheVariants as v
use Rattle.executor_model.specs.declared.types.Happening.{Happening}
use Rattle.executor_model.specs.declared.types.Happening.TheVariants as h
use Rattle.executor_model.specs.Counts.{IsWorkerCount}
use Rattle.executor_model.specs.Histories.{HistoryEntry, made, now_of}
use Rattle.executor_model.specs.Flows.{flow, calls_before, happening_of}
use Rattle.executor_model.proofs.Flowing.{made_past}
use Rattle.trace_text.specs.Spelling.{FitsEvent}
use Rattle.plan_read.specs.Plans.{PlanTree}
use Rattle.plan_read.specs.Texts.{TextWrites}
use Rattle.plan_compile.specs.PlanCalls.{calls_of_plan}
use Rattle.trace_check.specs.declared.finding.Finding.{Finding}
use Rattle.trace_check.specs.declared.finding.Finding.TheVariants as f
use Rattle.trace_check.specs.Findings.{Conforms}
use Rattle.trace_check.specs.Laws.{FitsHappening}
use Rattle.trace_check.proofs.TextLaws.{findings_are_one}
use Rattle.trace_check.proofs.Fitting.{histories_conform}
use Rattle.sched_engine.specs.declared.report.Report.{Report}
use Rattle.sched_engine.specs.declared.report.RunError.{RunError}
use Rattle.sched_engine.specs.declared.report.RunError.TheVariants as x
use Rattle.sched_engine.specs.Inputs.{AreEvents}
use Rattle.sched_engine.specs.Running.{IsAccepted, IsTrace, RanInMemory, text_of}
use Rattle.sched_engine.proofs.Inputs.{length-happenings, flow_are}
use Rattle.sched_audit.specs.Audits.{IsWhole, FindsByText}

-- ---- the happenings of events

event_fits : (event : Event) → FitsEvent event → FitsHappening (happening_of event)
event_fits (v.Clock moment) fit = tt
event_fits (v.Start w) fit = tt
event_fits (v.Finish w ending) fit = fit.1
event_fits (v.Cancel k) fit = tt

calls_fit : (n : ℕ) (past : List Happening) → All FitsHappening past → All FitsHappening (replicate n h.Call ++ past)
calls_fit zero past fit = fit
calls_fit (suc n) past fit = All-cons FitsHappening h.Call (replicate n h.Call ++ past) tt (calls_fit n past fit)

-- the happenings of events that fit do
flow_fits : (calls : List Planned) (events : List Event) → AreEvents events → All FitsHappening (flow calls events)
flow_fits calls [] fit = All-nil FitsHappening
flow_fits calls (event ∷ before) fit =
    let past = flow calls before in
    let n = calls_before calls (made past) (now_of calls past) event in
    All-cons FitsHappening (happening_of event) (replicate n h.Call ++ past) (event_fits event (All-head FitsEvent event before fit)) (calls_fit n past (flow_fits calls before (All-tail FitsEvent event before fit)))

-- the text of the trace of some events conforms
trace_conforms : (calls : List Planned) (workers : ℕ) (events : List Event) (past : List HistoryEntry) → IsPlanned calls → IsWorkerCount workers → AreEvents events → length events < 2 ^ 32 → IsTrace calls workers events past →
    Conforms calls workers (text_of calls past)
trace_conforms calls workers events past o count fit few trace =
    let short : length past ≤ 2 ^ 64 = omega (
      arith,
      length-happenings past,
      ap length trace.flows,
      ap made trace.flows,
      flow_are calls events,
      made_past calls workers past trace.means,
      few,
      o.0,
    )
    in
    histories_conform calls workers past o count trace.means (subst (All FitsHappening) (sym trace.flows) (flow_fits calls events fit)) short

-- ---- what is found

-- the calls of each plan that a text writes are few enough, and in order
abbrev pub AreInOrder : Type 0
AreInOrder = (text : List ℕ) (plan : PlanTree) → TextWrites text plan → IsPlanned (calls_of_plan plan)

-- a text conforms, by the plan that a plan text writes
record ConformsByText (plan_text : List ℕ) (workers : ℕ) (text : List ℕ) : Type 0 where
  pub plan : PlanTree
  pub reads : TextWrites plan_text plan
  pub conforms : Conforms (calls_of_plan plan) workers text

wrote : (plan_text : List ℕ) (workers limit : ℕ) (calls : List Planned) (events : List Event) (past : List HistoryEntry) (output : List ℕ) → AreInOrder → limit < 2 ^ 32 → IsAccepted plan_text calls workers limit →
    AreEvents events → length events ≤ limit → IsTrace calls workers events past → output ≡ text_of calls past → ConformsByText plan_text workers output
wrote plan_text workers limit calls events past output ordered small accepted fit within trace is =
    let o : IsPlanned calls = subst IsPlanned (sym accepted.makes) (ordered plan_text accepted.plan accepted.reads) in
    let conforms : Conforms calls workers (text_of calls past) = trace_conforms calls workers events past o accepted.counted fit (omega (arith, within, small)) trace in
    record {
      plan = accepted.plan;
      reads = accepted.reads;
      conforms = subst (λ (cs : List Planned). Conforms cs workers output) accepted.makes (subst (Conforms calls workers) (sym is) conforms);
    }

-- a whole trace conforms
whole_conforms : (answer : Result Report RunError) (plan_text : List ℕ) (workers limit : ℕ) (input output : List ℕ) → AreInOrder → limit < 2 ^ 32 → RanInMemory answer plan_text workers limit input output → IsWhole answer →
    ConformsByText plan_text workers output
whole_conforms (Ok report) plan_text workers limit input output ordered small ran whole =
    wrote plan_text workers limit ran.calls ran.events ran.past output ordered small ran.accepted ran.fit ran.within ran.trace ran.written
whole_conforms (Err (x.EventLine n)) plan_text workers limit input output ordered small ran whole =
    let (calls, accepted, taken) = ran.1 in
    wrote plan_text workers limit calls taken.events taken.past output ordered small accepted taken.fit taken.within taken.trace taken.gives.1
whole_conforms (Err x.Full) plan_text workers limit input output ordered small ran whole =
    let (calls, accepted, taken) = ran.1 in
    wrote plan_text workers limit calls taken.events taken.past output ordered small accepted taken.fit taken.within taken.trace taken.gives.1
whole_conforms (Err (x.Plan fault)) plan_text workers limit input output ordered small ran whole = absurd whole
whole_conforms (Err x.Workers) plan_text workers limit input output ordered small ran whole = absurd whole
whole_conforms (Err x.Limit) plan_text workers limit input output ordered small ran whole = absurd whole
whole_conforms (Err x.Read) plan_text workers limit input output ordered small ran whole = absurd whole
whole_conforms (Err x.Write) plan_text workers limit input output ordered small ran whole = absurd whole
whole_conforms (Err x.Lost) plan_text workers limit input output ordered small ran whole = absurd whole
whole_conforms (Err x.Memory) plan_text workers limit input output ordered small ran whole = absurd whole

-- what is found of a whole trace is that it conforms
pub whole_found : (answer : Result Report RunError) (plan_text : List ℕ) (workers limit : ℕ) (input output : List ℕ) (finding : Finding) → AreInOrder → limit < 2 ^ 32 → RanInMemory answer plan_text workers limit input output → IsWhole answer →
    FindsByText plan_text workers output finding → finding ≡ f.Conforms
whole_found answer plan_text workers limit input output finding ordered small ran whole finds =
    let c = whole_conforms answer plan_text workers limit input output ordered small ran whole in
    findings_are_one (calls_of_plan c.plan) workers output finding f.Conforms (finds c.plan c.reads) c.conforms
