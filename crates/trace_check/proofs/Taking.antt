-- One line more: what a check does on its state is what the lines that go ask.
use Rattle.std.proofs.Common.{◌≡◌, ℕ, ◌+◌, ◌<◌, ◌≤◌, Bool, false, List, [], ◌∷◌, ◌++◌, drop, length, get_or, Some, None, refl, sym, ap, ◌∙◌, subst, arith}
use Rattle.std.specs.Prelude.{slice_get, slice_index_or}
use Rattle.std.proofs.lemmas.List.{drop_more}
use Rattle.std.proofs.Math.ListN.{drop_of_length-le}
use Rattle.executor_model.specs.declared.types.Happening.{Happening}
use Rattle.executor_model.specs.declared.types.Answer.{Answer}
use Rattle.executor_model.specs.declared.types.Line.{Line}
use Rattle.executor_model.specs.declared.types.Message.{Message}
use Rattle.executor_model.specs.declared.types.Message.TheVariants as m
use Rattle.queue_code.specs.Calls.{Planned}
use Rattle.executor_model.specs.View.{View}
use Rattle.executor_model.specs.Answers.{Reply, reply, moment_after}
use Rattle.executor_model.specs.Histories.{happenings, view_of_history, now_of, answer, MayFrom}
use Rattle.executor_model.specs.State.{State, view_of_state, next, reply_of}
use Rattle.executor_model.specs.Flows.{answer_line, end_line, lines_at}
use Rattle.executor_core.specs.CoreView.{CoreView, workers_of, state_of, Counts, Steps, IsOpening}
use Rattle.executor_model.proofs.Agree.{after_agrees}
use Rattle.trace_check.specs.Representatives.{busy_by, busy_after, representative_of}
use Rattle.trace_check.specs.Going.{Goes, IsNextAnswer, StandsNext}
use Rattle.trace_check.specs.own.Standing.{IsAt, IsStanding, TellBusy, most_named, representative_of_message}
use Rattle.trace_check.proofs.Splits.{ends_at, mains, owed_ends, same_said, goes_owed, goes_answered, goes_line_by_line}

-- the state of a check shows what the history shows
seen_is : (calls : List Planned) (workers : ℕ) (s : State) (due lines : List Line) (flags : List Bool) (at : IsAt calls workers s due flags lines) → view_of_state calls s ≡ view_of_history calls at.goes.past
seen_is calls workers s due lines flags at = ap (view_of_state calls) at.stands ∙ (after_agrees calls workers at.goes.past at.goes.means).view

-- what stands next, where this is owed
next_is : (calls : List Planned) (workers : ℕ) (s : State) (due lines : List Line) (flags : List Bool) (line : Line) (at : IsAt calls workers s due flags lines) → Goes calls workers (line ∷ lines) →
    StandsNext calls workers lines at.goes.past due line
next_is calls workers s due lines flags line at more =
    subst (λ o. StandsNext calls workers lines at.goes.past o line) at.owed ((goes_line_by_line calls workers lines line at.goes).0 more)

-- ---- a line that is owed

-- the line that is owed is taken
pub takes_owed : (calls : List Planned) (workers : ℕ) (s : State) (due : Line) (rest lines : List Line) (flags : List Bool) → IsAt calls workers s (due ∷ rest) flags lines →
    IsAt calls workers s rest flags (due ∷ lines)
takes_owed calls workers s due rest lines flags at = by due.moment due.message at
  where
    by : (moment : ℕ) (message : Message) → IsAt calls workers s (record { moment = moment; message = message } ∷ rest) flags lines →
        IsAt calls workers s rest flags (record { moment = moment; message = message } ∷ lines)
    by moment (m.Answer said) at = absurd (omega (arith, owed_ends calls workers lines at.goes, ap mains at.owed))
    by moment (m.End task) at = record {
      goes = goes_owed calls workers lines at.goes (end_line moment task) rest at.owed;
      stands = at.stands;
      owed = refl;
      busy = at.busy;
    }

-- another line is refused
pub refuses_owed : (calls : List Planned) (workers : ℕ) (s : State) (due line : Line) (rest lines : List Line) (flags : List Bool) → IsAt calls workers s (due ∷ rest) flags lines →
    (due ≡ line → ⊥) → Goes calls workers (line ∷ lines) → ⊥
refuses_owed calls workers s due line rest lines flags at other more = other (sym (next_is calls workers s (due ∷ rest) lines flags line at more))

-- where nothing is owed, the end of a task is refused
pub refuses_end : (calls : List Planned) (workers : ℕ) (s : State) (moment task : ℕ) (lines : List Line) (flags : List Bool) → IsAt calls workers s [] flags lines →
    Goes calls workers (end_line moment task ∷ lines) → ⊥
refuses_end calls workers s moment task lines flags at more = next_is calls workers s [] lines flags (end_line moment task) at more

-- ---- an answer

-- an answer that goes, as the state tells it
record FromState (calls : List Planned) (workers : ℕ) (s : State) (lines : List Line) (moment : ℕ) (said : Answer) : Type 0 where
  pub happening : Happening
  pub representative : representative_of workers lines moment said ≡ Some happening
  pub comes : MayFrom calls s.made s.moment happening
  pub now : moment ≡ (next calls workers s happening).moment
  pub answered : said ≡ (reply_of calls workers s happening).answer

from_state : (calls : List Planned) (workers : ℕ) (s : State) (lines : List Line) (flags : List Bool) (moment : ℕ) (said : Answer) (at : IsAt calls workers s [] flags lines) →
    Goes calls workers (answer_line moment said ∷ lines) → FromState calls workers s lines moment said
from_state calls workers s lines flags moment said at more =
    let stands : IsNextAnswer calls workers lines at.goes.past moment said = next_is calls workers s [] lines flags (answer_line moment said) at more in
    let h = stands.happening in
    let is = sym (seen_is calls workers s [] lines flags at) in
    record {
      happening = h;
      representative = stands.representative;
      comes = subst (λ (v : View). MayFrom calls v.made v.moment h) is stands.comes;
      now = stands.now ∙ ap (λ (v : View). moment_after v.moment (slice_get calls v.made) h) is;
      answered = stands.answered ∙ ap (λ (v : View). (reply calls workers v h).answer) is;
    }

same_some : (h g : Happening) → Some h ≡ Some g → h ≡ g
same_some h g is = cc

-- an answer without a representative is refused
pub refuses_plain : (calls : List Planned) (workers : ℕ) (s : State) (lines : List Line) (flags : List Bool) (moment : ℕ) (said : Answer) → IsAt calls workers s [] flags lines →
    ((h : Happening) → representative_of workers lines moment said ≡ Some h → ⊥) → Goes calls workers (answer_line moment said ∷ lines) → ⊥
refuses_plain calls workers s lines flags moment said at none more = let f = from_state calls workers s lines flags moment said at more in none f.happening f.representative

-- one whose representative may not come is refused
pub refuses_coming : (calls : List Planned) (workers : ℕ) (s : State) (lines : List Line) (flags : List Bool) (moment : ℕ) (said : Answer) (h : Happening) → IsAt calls workers s [] flags lines →
    Some h ≡ representative_of workers lines moment said → (MayFrom calls s.made s.moment h → ⊥) → Goes calls workers (answer_line moment said ∷ lines) → ⊥
refuses_coming calls workers s lines flags moment said h at representative never more =
    let f = from_state calls workers s lines flags moment said at more in
    never (subst (MayFrom calls s.made s.moment) (same_some f.happening h (sym (representative ∙ f.representative))) f.comes)

-- one that the representative does not get is refused
pub refuses_line : (calls : List Planned) (workers : ℕ) (s : State) (lines : List Line) (flags : List Bool) (moment : ℕ) (said : Answer) (h : Happening) → IsAt calls workers s [] flags lines →
    Some h ≡ representative_of workers lines moment said → (answer_line (next calls workers s h).moment (reply_of calls workers s h).answer ≡ answer_line moment said → ⊥) →
    Goes calls workers (answer_line moment said ∷ lines) → ⊥
refuses_line calls workers s lines flags moment said h at representative other more =
    let f = from_state calls workers s lines flags moment said at more in
    let same = same_some f.happening h (sym (representative ∙ f.representative)) in
    other (λ i. answer_line (sym (f.now ∙ ap (λ g. (next calls workers s g).moment) same) i) (sym (f.answered ∙ ap (λ g. (reply_of calls workers s g).answer) same) i))

-- one that the representative gets is taken
pub takes_answer : (calls : List Planned) (workers : ℕ) (s : State) (lines : List Line) (flags after_flags : List Bool) (moment : ℕ) (said : Answer) (h : Happening) → IsAt calls workers s [] flags lines →
    Some h ≡ representative_of workers lines moment said → MayFrom calls s.made s.moment h → answer_line (next calls workers s h).moment (reply_of calls workers s h).answer ≡ answer_line moment said →
    ((w : ℕ) → w < most_named → slice_index_or after_flags w false ≡ busy_by w said (slice_index_or flags w false)) →
    IsAt calls workers (next calls workers s h) (ends_at (next calls workers s h).moment (reply_of calls workers s h).ends) after_flags (answer_line moment said ∷ lines)
takes_answer calls workers s lines flags after_flags moment said h at representative may same flags_are =
    let is = seen_is calls workers s [] lines flags at in
    let r = answer calls workers at.goes.past h in
    let now = now_of calls (h ∷ happenings at.goes.past) in
    let same_reply : reply_of calls workers s h ≡ r = ap (λ (v : View). reply calls workers v h) is in
    let same_now : (next calls workers s h).moment ≡ now = ap (λ (v : View). moment_after v.moment (slice_get calls v.made) h) is in
    let same_answer : (reply_of calls workers s h).answer ≡ said = same_said (next calls workers s h).moment moment (reply_of calls workers s h).answer said same in
    let stands : IsNextAnswer calls workers lines at.goes.past moment said = record {
      happening = h;
      representative = sym representative;
      comes = subst (λ (v : View). MayFrom calls v.made v.moment h) is may;
      now = ap (λ (x : Line). x.moment) (sym same) ∙ same_now;
      answered = sym same_answer ∙ ap (λ (x : Reply). x.answer) same_reply;
    }
    in
    record {
      goes = goes_answered calls workers lines at.goes moment said at.owed stands;
      stands = ap (λ z. next calls workers z h) at.stands;
      owed = λ i. ends_at (sym same_now i) (sym same_reply i).ends;
      busy = λ w l. flags_are w l ∙ ap (busy_by w said) (at.busy w l);
    }

-- ---- what is owed, by the lines of the last answer and how many were met

-- some are left
pub owed_here : (out : List Line) (met : ℕ) (d : Line) → met < length out → d ≡ get_or out met d → drop met out ≡ d ∷ drop (met + 1) out
owed_here out met d within is = drop_more out met d within ∙ ap (λ x. x ∷ drop (met + 1) out) (sym is)

-- none is left
pub owed_none : (out : List Line) (met : ℕ) → length out ≤ met → drop met out ≡ []
owed_none out met past = drop_of_length-le out past

-- ---- the same of a core

-- a core took the step of a happening, and these are its lines
pub record Took (m n : CoreView) (happening : Happening) (out : List Line) : Type 0 where
  pub calls : n.calls ≡ m.calls
  pub workers : workers_of n ≡ workers_of m
  pub state : state_of n ≡ next m.calls (workers_of m) (state_of m) happening
  pub lines : out ≡ lines_at (next m.calls (workers_of m) (state_of m) happening).moment (reply_of m.calls (workers_of m) (state_of m) happening)

-- it did where it counted the happening before
pub took : (m counted n : CoreView) (happening : Happening) (before out : List Line) → Counts m counted → before ≡ [] → Steps counted n before out (happening ∷ []) → Took m n happening out
took m counted n happening before out counts none steps =
    let s = subst (λ x. Steps x n before out (happening ∷ [])) counts steps in
    record { calls = s.calls; workers = s.workers; state = s.state; lines = s.lines ∙ ap (λ ls. ls ++ lines_at (next m.calls (workers_of m) (state_of m) happening).moment (reply_of m.calls (workers_of m) (state_of m) happening)) none }

-- the first line is that of the answer
pub first_line : (m n : CoreView) (happening : Happening) (out : List Line) (d : Line) → Took m n happening out →
    get_or out 0 d ≡ answer_line (next m.calls (workers_of m) (state_of m) happening).moment (reply_of m.calls (workers_of m) (state_of m) happening).answer
first_line m n happening out d t = ap (λ ls. get_or ls 0 d) t.lines

moved_at : (calls other : List Planned) (workers count : ℕ) (s t : State) (due rest : List Line) (flags : List Bool) (lines : List Line) → calls ≡ other → workers ≡ count → s ≡ t → due ≡ rest →
    IsAt calls workers s due flags lines → IsAt other count t rest flags lines
moved_at calls other workers count s t due rest flags lines a b c d at =
    subst (λ x. IsAt x count t rest flags lines) a (subst (λ x. IsAt calls x t rest flags lines) b (subst (λ x. IsAt calls workers x rest flags lines) c (subst (λ x. IsAt calls workers s x flags lines) d at)))

-- an answer that the core gave is taken
pub takes_said : (m n : CoreView) (out lines : List Line) (flags after_flags : List Bool) (moment : ℕ) (said : Answer) (h : Happening) (d : Line) → IsStanding m [] flags lines →
    Some h ≡ representative_of (workers_of m) lines moment said → MayFrom m.calls m.made m.moment h → Took m n h out → get_or out 0 d ≡ answer_line moment said →
    ((w : ℕ) → w < most_named → slice_index_or after_flags w false ≡ busy_by w said (slice_index_or flags w false)) → IsStanding n (drop 1 out) after_flags (answer_line moment said ∷ lines)
takes_said m n out lines flags after_flags moment said h d at representative may t same flags_are =
    let s = next m.calls (workers_of m) (state_of m) h in
    let r = reply_of m.calls (workers_of m) (state_of m) h in
    moved_at m.calls n.calls (workers_of m) (workers_of n) s (state_of n) (ends_at s.moment r.ends) (drop 1 out) after_flags (answer_line moment said ∷ lines) (sym t.calls) (sym t.workers) (sym t.state)
    (sym (ap (drop 1) t.lines))
    (takes_answer m.calls (workers_of m) (state_of m) lines flags after_flags moment said h at representative may (sym (first_line m n h out d t) ∙ same) flags_are)

-- before any line a check stands with the core before anything happened
pub opens : (m : CoreView) (planned : List Planned) (workers most : ℕ) (due : List Line) (flags : List Bool) → IsOpening m planned workers most → due ≡ [] → TellBusy flags [] → IsStanding m due flags []
opens m planned workers most due flags opening none free =
    subst (λ d. IsStanding m d flags []) (sym none)
    (record { goes = record { past = []; means = tt; representative = refl; owed = []; front = refl }; stands = opening.stands; owed = refl; busy = free })

-- ---- a line where nothing is owed, whatever it says

-- one without a representative is refused
pub refuses_unknown : (calls : List Planned) (workers : ℕ) (s : State) (lines : List Line) (flags : List Bool) (line : Line) → IsAt calls workers s [] flags lines →
    ((h : Happening) → representative_of_message workers lines line.moment line.message ≡ Some h → ⊥) → Goes calls workers (line ∷ lines) → ⊥
refuses_unknown calls workers s lines flags line at none = by line.moment line.message none
  where
    by : (moment : ℕ) (message : Message) → ((h : Happening) → representative_of_message workers lines moment message ≡ Some h → ⊥) → Goes calls workers (record { moment = moment; message = message } ∷ lines) → ⊥
    by moment (m.Answer said) none = refuses_plain calls workers s lines flags moment said at none
    by moment (m.End task) none = refuses_end calls workers s moment task lines flags at

-- one whose representative may not come is refused
pub refuses_early : (calls : List Planned) (workers : ℕ) (s : State) (lines : List Line) (flags : List Bool) (line : Line) (h : Happening) → IsAt calls workers s [] flags lines →
    Some h ≡ representative_of_message workers lines line.moment line.message → (MayFrom calls s.made s.moment h → ⊥) → Goes calls workers (line ∷ lines) → ⊥
refuses_early calls workers s lines flags line h at is never = by line.moment line.message is
  where
    by : (moment : ℕ) (message : Message) → Some h ≡ representative_of_message workers lines moment message → Goes calls workers (record { moment = moment; message = message } ∷ lines) → ⊥
    by moment (m.Answer said) is = refuses_coming calls workers s lines flags moment said h at is never
    by moment (m.End task) is = refuses_end calls workers s moment task lines flags at

-- one that the representative does not get is refused
pub refuses_other : (calls : List Planned) (workers : ℕ) (s : State) (lines : List Line) (flags : List Bool) (line : Line) (h : Happening) → IsAt calls workers s [] flags lines →
    Some h ≡ representative_of_message workers lines line.moment line.message → (answer_line (next calls workers s h).moment (reply_of calls workers s h).answer ≡ line → ⊥) → Goes calls workers (line ∷ lines) → ⊥
refuses_other calls workers s lines flags line h at is other = by line.moment line.message is other
  where
    by : (moment : ℕ) (message : Message) → Some h ≡ representative_of_message workers lines moment message
        → (answer_line (next calls workers s h).moment (reply_of calls workers s h).answer ≡ record { moment = moment; message = message } → ⊥) → Goes calls workers (record { moment = moment; message = message } ∷ lines) → ⊥
    by moment (m.Answer said) is other = refuses_line calls workers s lines flags moment said h at is other
    by moment (m.End task) is other = refuses_end calls workers s moment task lines flags at

no_happening : (h : Happening) → Some h ≡ None → ⊥
no_happening h is = absurd cc

-- one that the representative gets is taken
pub takes_line : (m n : CoreView) (out lines : List Line) (flags after_flags : List Bool) (line : Line) (h : Happening) (d : Line) → IsStanding m [] flags lines →
    Some h ≡ representative_of_message (workers_of m) lines line.moment line.message → MayFrom m.calls m.made m.moment h → Took m n h out → get_or out 0 d ≡ line →
    ((w : ℕ) → w < most_named → slice_index_or after_flags w false ≡ busy_after w line.message (slice_index_or flags w false)) → IsStanding n (drop 1 out) after_flags (line ∷ lines)
takes_line core n out lines flags after_flags line h d at is may t same flags_are = by line.moment line.message is same flags_are
  where
    by : (moment : ℕ) (message : Message) → Some h ≡ representative_of_message (workers_of core) lines moment message → get_or out 0 d ≡ record { moment = moment; message = message }
        → ((w : ℕ) → w < most_named → slice_index_or after_flags w false ≡ busy_after w message (slice_index_or flags w false)) → IsStanding n (drop 1 out) after_flags (record { moment = moment; message = message } ∷ lines)
    by moment (m.Answer said) is same flags_are = takes_said core n out lines flags after_flags moment said h d at is may t same flags_are
    by moment (m.End task) is same flags_are = absurd (no_happening h is)
