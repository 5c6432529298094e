use Rattle.std.proofs.Common.{◌≡◌, ℕ, ◌∙◌, List, [], Option, Some, refl, sym, subst}
use Rattle.std.specs.Prelude.{reverse, MatchOption}
use Rattle.std.proofs.lemmas.Bool.{false≢true}
use Rattle.queue_code.specs.Calls.{IsPlanned}
use Rattle.executor_model.specs.declared.types.Line.{Line}
use Rattle.executor_model.specs.Flows.{history_from, lines_of}
use Rattle.live_engine.specs.declared.live_line.LiveLine.{LiveLine}
use Rattle.live_engine.specs.LiveLines.{live_history}
use Rattle.live_plain.specs.own.Scripts.{ScriptView, ShowsAll}
use Rattle.live_plain.specs.PlainLines.{ArePlain, lines_in}
use Rattle.live_plain.proofs.Showing.{shown_lines}
use Rattle.live_plain.proofs.tracing.trace_of_lines.Goals as goal

-- what is known of the script, where there is one or none
abbrev Known : ℕ → List LiveLine → Option ScriptView → Type 0
Known workers lines told = MatchOption told (ArePlain workers lines → ⊥) (λ script. ShowsAll workers lines script)

shown : (workers : ℕ) (lines : List LiveLine) (told : Option ScriptView) (script : ScriptView) → told ≡ Some script → Known workers lines told → ShowsAll workers lines script
shown workers lines told script is known = subst (Known workers lines) is known

-- its lines are those of the history
told_lines : (workers : ℕ) (lines : List LiveLine) (s : ScriptView) (told : List Line) → told ≡ lines_of s.calls (history_from s.calls workers [] (reverse s.happened)) → ShowsAll workers lines s → told ≡ lines_in (live_history workers lines)
told_lines workers lines s told is all = is ∙ shown_lines workers (live_history workers lines) s all.1

pub returns-in_default-clause-whole : goal.returns-in_default-clause-whole
returns-in_default-clause-whole g c =
    let lines = reverse c.args.lines.now in
    let not_plain : ArePlain c.args.workers lines → ⊥ = subst (Known c.args.workers lines) c.in_default.is (c.in_ok-script.ensures c.args.workers) in
    (λ q. absurd (false≢true q), λ plain. absurd (not_plain plain))

pub trace-requires : goal.trace-requires
trace-requires g c =
    let all = shown c.args.workers (reverse c.args.lines.now) c.in_ok-script.field-0 c.in-Some.script c.in-Some.is (c.in_ok-script.ensures c.args.workers) in
    subst IsPlanned (sym all.1.calls) (all.1.few, all.1.orderly)

pub returns-clause-lines : goal.returns-clause-lines
returns-clause-lines g c =
    let all = shown c.args.workers (reverse c.args.lines.now) c.in_ok-script.field-0 c.in-Some.script c.in-Some.is (c.in_ok-script.ensures c.args.workers) in
    told_lines c.args.workers (reverse c.args.lines.now) c.in-Some.script c.in_ok-trace.field-0.items c.in_ok-trace.ensures all

pub returns-clause-whole : goal.returns-clause-whole
returns-clause-whole g c =
    let all = shown c.args.workers (reverse c.args.lines.now) c.in_ok-script.field-0 c.in-Some.script c.in-Some.is (c.in_ok-script.ensures c.args.workers) in
    (λ _. all.0, λ _. refl)
