-- Notings: calls that are noted in a journal, whatever room it has.
use Rattle.std.proofs.Common.{◌≡◌, ℕ, Bool, true, false, cond, List, [], ◌∷◌, ◌++◌, refl, sym, ap, ◌∙◌, subst}
use Rattle.call_text.specs.declared.call.CallLine.{CallLine}
use Rattle.call_journal.specs.declared.journal.MadeCall.{MadeCall}
use Rattle.call_journal.specs.Journals.{JournalView, keeps_more, noted}
use Rattle.live_engine.specs.declared.live_line.LiveLine.{LiveLine}
use Rattle.live_engine.specs.declared.live_line.LiveLine.TheVariants as l
use Rattle.live_core.specs.Lives.{LiveView}
use Rattle.executor_model.specs.Answers.{Reply}
use Rattle.live_engine.specs.LiveLines.{LiveHistory, live_history, meant, next_moment}
use Rattle.live_engine.specs.LiveRuns.{Notes, all_noted, made_by, made_calls}
use Rattle.live_engine.specs.own.LiveSteps.{IsAt, TakesLine, noted_line}
use Rattle.live_engine.proofs.Steps.{call_moment, meant_there}

-- the same call is noted whatever room there is
noted_with_room : (journal : JournalView) (call : MadeCall) (room after : ℕ) → record (noted (record journal { room = room }) call) { room = after } ≡ record (noted journal call) { room = after }
noted_with_room journal call room after = by (keeps_more journal) journal.is_wanted
  where
    by : (keeps wanted : Bool) →
        record (cond keeps (record journal { room = room; calls = journal.calls ++ call ∷ [] }) (cond wanted (record journal { room = room; is_over = true }) (record journal { room = room }))) { room = after }
        ≡ record (cond keeps (record journal { calls = journal.calls ++ call ∷ [] }) (cond wanted (record journal { is_over = true }) journal)) { room = after }
    by true wanted = refl
    by false true = refl
    by false false = refl

-- room was made, and a call was noted
pub noted_after_room : (journal roomy next : JournalView) (moment at : ℕ) (call : CallLine) → roomy ≡ record journal { room = roomy.room } → next ≡ noted roomy (record { moment = at; call = call }) → at ≡ moment →
    next ≡ record (noted journal (record { moment = moment; call = call })) { room = next.room }
noted_after_room journal roomy next moment at call room is now =
    ap (λ (j : JournalView). record j { room = next.room }) (is ∙ (ap (λ n. noted roomy (record { moment = n; call = call })) now ∙ ap (λ (j : JournalView). noted j (record { moment = moment; call = call })) room))
    ∙ noted_with_room journal (record { moment = moment; call = call }) roomy.room next.room

-- nothing was noted
pub nothing_noted : (journal next : JournalView) → next ≡ journal → next ≡ record journal { room = next.room }
nothing_noted journal next is = is ∙ ap (λ (j : JournalView). record journal { room = j.room }) (sym is)

-- nothing was noted yet
pub notes_none : (journal : JournalView) → Notes journal journal []
notes_none journal = refl

-- room was made
pub notes_room : (first journal roomier : JournalView) (calls : List MadeCall) → Notes first journal calls → roomier ≡ record journal { room = roomier.room } → Notes first roomier calls
notes_room first journal roomier calls notes is = is ∙ ap (λ (j : JournalView). record j { room = roomier.room }) notes

-- one call more was noted
notes_call : (first journal next : JournalView) (calls : List MadeCall) (call : MadeCall) → Notes first journal calls → next ≡ record (noted journal call) { room = next.room } → Notes first next (call ∷ calls)
notes_call first journal next calls call notes is =
    is ∙ (ap (λ (j : JournalView). record (noted j call) { room = next.room }) notes ∙ noted_with_room (all_noted first calls) call journal.room next.room)

-- a line was taken that is meant so, and the call that it makes was noted
notes_meant : (first journal next : JournalView) (calls : List MadeCall) (old new : LiveView) (line : LiveLine) (r : Reply) (workers : ℕ) (so_far : LiveHistory) → Notes first journal calls → TakesLine old new line r → IsAt workers old so_far →
    next ≡ record (noted_line journal line new.table.moment) { room = next.room } → Notes first next (made_by so_far line ++ calls)
notes_meant first journal next calls old new (l.Event event) r workers so_far notes takes at is = notes_room first journal next calls notes is
notes_meant first journal next calls old new (l.Call call) r workers so_far notes takes at is =
    notes_call first journal next calls (record { moment = next_moment so_far; call = call }) notes
    (is ∙ ap (λ n. record (noted journal (record { moment = n; call = call })) { room = next.room }) (call_moment old new call r workers so_far takes at))

-- the same of any line, as it is meant
pub notes_line : (first journal next : JournalView) (old new : LiveView) (line : LiveLine) (r : Reply) (workers : ℕ) (lines : List LiveLine) → Notes first journal (made_calls workers lines) → TakesLine old new (meant old.count line) r →
    IsAt workers old (live_history workers lines) → next ≡ record (noted_line journal (meant old.count line) new.table.moment) { room = next.room } → Notes first next (made_calls workers (line ∷ lines))
notes_line first journal next old new line r workers lines notes takes at is =
    let so_far = live_history workers lines in
    subst (λ (line : LiveLine). Notes first next (made_by so_far line ++ made_calls workers lines)) (meant_there workers old so_far line at)
    (notes_meant first journal next (made_calls workers lines) old new (meant old.count line) r workers so_far notes takes at is)
