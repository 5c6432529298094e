-- The lines of each trace go, and are whole.
use Rattle.std.proofs.Common.{◌≡◌, ℕ, ◌+◌, ◌≤◌, ◌==◌, ◌^◌, ◌||◌, Bool, true, false, cond, List, [], ◌∷◌, ◌++◌, Option, Some, None, refl, sym, ap, ◌∙◌, subst, arith, append-nil}
use Rattle.std.proofs.lemmas.List.{reverse-reverse}
use Rattle.std.specs.Prelude.{if◌then◌else◌, slice_get, reverse}
use Rattle.std.specs.Option.{is_some}
use Rattle.executor_model.specs.declared.types.Happening.{Happening}
use Rattle.executor_model.specs.declared.types.Line.{Line}
use Rattle.executor_model.specs.declared.types.Answer.{Answer}
use Rattle.executor_model.specs.declared.types.Answer.TheVariants as a
use Rattle.queue_code.specs.Calls.{Planned, IsPlanned, task_count, submits_task}
use Rattle.executor_model.specs.View.{View}
use Rattle.executor_model.specs.Answers.{Reply, reply, moment_after}
use Rattle.executor_model.specs.Histories.{HistoryEntry, entry_of, happenings, is_call, view_of_history, now_of, answer, work_of, work_after, policies_after, is_shutdown, is_stop, IsHistoryOf, MayFrom}
use Rattle.executor_model.proofs.Flowing.{how_many-le}
use Rattle.executor_model.proofs.Views.{view_after, fate_after, look_moves}
use Rattle.executor_model.proofs.Within.{now_within}
use Rattle.trace_check.specs.Representatives.{is_busy, busy_by}
use Rattle.executor_model.specs.Flows.{answer_line, end_line, lines_at, lines_of}
use Rattle.trace_check.specs.Going.{Goes, AreWhole, IsNextAnswer}
use Rattle.trace_check.specs.Laws.{TracesGo}
use Rattle.trace_check.proofs.Splits.{ends_at, turned_before, goes_owed, goes_answered}
use Rattle.trace_check.proofs.Plainly.{plainly}

-- lines, the oldest first, behind others, the newest first
abbrev pub behind : List Line → List Line → List Line
behind [] lines = lines
behind (line ∷ more) lines = behind more (line ∷ lines)

behind_order : (more lines : List Line) → reverse (behind more lines) ≡ reverse lines ++ more
behind_order [] lines = sym (append-nil (reverse lines))
behind_order (line ∷ more) lines = behind_order more (line ∷ lines) ∙ turned_before line lines more

-- the ends that are owed go
record Paid (calls : List Planned) (workers : ℕ) (lines : List Line) (past : List HistoryEntry) : Type 0 where
  pub goes : Goes calls workers lines
  pub whole : goes.owed ≡ []
  pub same : goes.past ≡ past

paid : (calls : List Planned) (workers : ℕ) (lines : List Line) (g : Goes calls workers lines) (moment : ℕ) (ks : List ℕ) → g.owed ≡ ends_at moment ks →
    Paid calls workers (behind (ends_at moment ks) lines) g.past
paid calls workers lines g moment [] is = record { goes = g; whole = is; same = refl }
paid calls workers lines g moment (k ∷ ks) is = paid calls workers (end_line moment k ∷ lines) (goes_owed calls workers lines g (end_line moment k) (ends_at moment ks) is) moment ks refl

busy_behind : (lines : List Line) (moment : ℕ) (ks : List ℕ) (w : ℕ) → is_busy (behind (ends_at moment ks) lines) w ≡ is_busy lines w
busy_behind lines moment [] w = refl
busy_behind lines moment (k ∷ ks) w = busy_behind (end_line moment k ∷ lines) moment ks w

some_started : (b : Bool) (k : ℕ) (o : Option ℕ) → cond b true (is_some o) ≡ is_some (cond b (Some k) o)
some_started true k o = refl
some_started false k o = refl

some_finished : (b : Bool) (o : Option ℕ) → cond b false (is_some o) ≡ is_some (cond b None o)
some_finished true o = refl
some_finished false o = refl

busy_works : (w : ℕ) (answer : Answer) (o : Option ℕ) → busy_by w answer (is_some o) ≡ is_some (work_after w answer o)
busy_works w (a.Start worker task run due) o = some_started (worker == w) task o
busy_works w (a.Finish worker task run outcome) o = some_finished (worker == w) o
busy_works w answer o = refl

-- the plain history of a history's lines: it has the same lines and shows the same
record Alike (calls : List Planned) (workers : ℕ) (past : List HistoryEntry) : Type 0 where
  pub lines : List Line
  pub goes : Goes calls workers lines
  pub whole : goes.owed ≡ []
  pub order : reverse lines ≡ lines_of calls past
  pub seen : view_of_history calls goes.past ≡ view_of_history calls past
  pub busy : (w : ℕ) → is_busy lines w ≡ is_some (work_of w past)

-- two happenings with one reply that are both calls or both not, and leave one moment, leave one view
one_view : (calls : List Planned) (v : View) (y g : Happening) (r : Reply) → is_call g ≡ is_call y →
    moment_after v.moment (slice_get calls v.made) g ≡ moment_after v.moment (slice_get calls v.made) y → view_after calls v g r ≡ view_after calls v y r
one_view calls v y g r call moment = λ i. record {
  made = if call i then 1 + v.made else v.made;
  moment = moment i;
  fate = λ k. fate_after calls v r k;
  work = λ w. work_after w r.answer (v.work w);
  policies = policies_after r.answer v.policies;
  shut = is_shutdown r.answer || v.shut;
  stopped = is_stop r.answer || v.stopped;
}

one_more : (calls : List Planned) (workers : ℕ) (past : List HistoryEntry) (y : Happening) → workers ≤ 64 → task_count calls ≤ 65536 → now_of calls (happenings past) ≤ 2 ^ 62 →
    MayFrom calls (view_of_history calls past).made (view_of_history calls past).moment y → Alike calls workers past → Alike calls workers (entry_of y (answer calls workers past y) ∷ past)
one_more calls workers past y few tasks within may alike =
    let v = view_of_history calls past in
    let g = alike.goes in
    let r = reply calls workers v y in
    let as_plain = plainly calls workers v alike.lines y few tasks within alike.busy may in
    let h = as_plain.happening in
    let now = moment_after v.moment (slice_get calls v.made) y in
    let line = answer_line now r.answer in
    let same_reply : answer calls workers g.past h ≡ r = ap (λ (u : View). reply calls workers u h) alike.seen ∙ as_plain.replies in
    let same_now : now_of calls (h ∷ happenings g.past) ≡ now = ap (λ (u : View). moment_after u.moment (slice_get calls u.made) h) alike.seen ∙ as_plain.moment in
    let next : IsNextAnswer calls workers alike.lines g.past now r.answer = record {
      happening = h;
      representative = as_plain.representative;
      comes = subst (λ (u : View). MayFrom calls u.made u.moment h) (sym alike.seen) as_plain.comes;
      now = sym same_now;
      answered = ap (λ (s : Reply). s.answer) (sym same_reply);
    }
    in
    let more : Goes calls workers (line ∷ alike.lines) = goes_answered calls workers alike.lines g now r.answer alike.whole next in
    let pays = paid calls workers (line ∷ alike.lines) more now r.ends (λ i. ends_at (same_now i) (same_reply i).ends) in
    let seen : view_of_history calls more.past ≡ view_of_history calls (entry_of y r ∷ past) =
    (λ i. view_of_history calls (entry_of h (same_reply i) ∷ g.past))
    ∙ (sym (look_moves calls g.past h r) ∙ (ap (λ (u : View). view_after calls u h r) alike.seen ∙ (one_view calls v y h r as_plain.call as_plain.moment ∙ look_moves calls past y r)))
    in
    record {
      lines = behind (ends_at now r.ends) (line ∷ alike.lines);
      goes = pays.goes;
      whole = pays.whole;
      order = behind_order (ends_at now r.ends) (line ∷ alike.lines)
          ∙ (turned_before line alike.lines (ends_at now r.ends) ∙ ap (λ ls. ls ++ lines_at now r) alike.order);
      seen = ap (view_of_history calls) pays.same ∙ seen;
      busy = λ w. busy_behind (line ∷ alike.lines) now r.ends w ∙ (ap (busy_by w r.answer) (alike.busy w) ∙ busy_works w r.answer (work_of w past));
    }

alike : (calls : List Planned) (workers : ℕ) (past : List HistoryEntry) → IsPlanned calls → workers ≤ 64 → IsHistoryOf calls workers past → Alike calls workers past
alike calls workers [] orderly few means = record {
  lines = [];
  goes = record { past = []; means = tt; representative = refl; owed = []; front = refl };
  whole = refl;
  order = refl;
  seen = refl;
  busy = λ w. refl;
}
alike calls workers (e ∷ past) orderly few means =
    let tasks : task_count calls ≤ 65536 = omega (arith, how_many-le (λ (p : Planned). submits_task p.1) calls, orderly.0) in
    subst (λ x. Alike calls workers (x ∷ past)) (λ i. record { happening = e.happening; answer = sym means.2 i; ends = sym means.3 i })
    (one_more calls workers past e.happening few tasks (now_within calls (happenings past) orderly.1) means.1 (alike calls workers past orderly few means.0))

-- the lines of each history go, and are whole
pub traces_go : TracesGo
traces_go calls workers past orderly count means =
    let a = alike calls workers past orderly count.1 means in
    subst (AreWhole calls workers) (sym (reverse-reverse a.lines) ∙ ap reverse a.order) (record { goes = a.goes; whole = a.whole })
