-- The cancels among what was added to a history: each of a task that was not cancelled before, and is not cancelled again.
use Rattle.std.proofs.Common.{◌≡◌, ◌⊎◌, ℕ, ◌==◌, ◌&&◌, ◌||◌, Bool, true, false, not, inl, inr, List, [], ◌∷◌, ◌++◌, cond, refl, sym, ap, ◌∙◌, subst, append_assoc}
use Rattle.std.specs.Prelude.{IsTrue}
use Rattle.std.specs.List.{All, list_any}
use Rattle.std.proofs.lemmas.Bool.{false≢true}
use Rattle.std.proofs.lemmas.List.Elements.{All-nil, All-cons, All-head, All-tail, All-weaker}
use Rattle.task_word.specs.Words.{is_cancelled}
use Rattle.task_word.specs.Views.{entry}
use Rattle.task_word.specs.declared.views.CoreSeatView.{CoreSeatView}
use Rattle.queue_code.specs.Calls.{Planned}
use Rattle.executor_model.specs.declared.types.Happening.{Happening}
use Rattle.executor_model.specs.declared.types.Happening.TheVariants as h
use Rattle.executor_model.specs.declared.types.Line.{Line}
use Rattle.executor_model.specs.Histories.{HistoryEntry, IsHistoryOf, happenings, is_call, cancels, was_cancelled, answer, now_of, is_end as stands_in}
use Rattle.executor_model.specs.Flows.{answer_line, lines_at, lines_of, reply_in}
use Rattle.executor_laws.proofs.TaskWords.{words_tell_the_history}
use Rattle.executor_laws.proofs.Policies.{tasks_are_cancelled_once}
use Rattle.worker_pool.specs.Books.{is_outside, was_outside}
use Rattle.worker_pool.specs.Applies.{SaysYes, IsNoted, calls_in}
use Rattle.worker_pool.specs.own.Steps.{Agrees, Noting, IsPassed, Completes}
use Rattle.worker_pool.proofs.Bools.{same_eqb, or_none, or_true, and_true, neither, false_unless, any_append}
use Rattle.worker_pool.proofs.Steps.{outside_cancels}

-- ---- a task is cancelled once

-- where it was
abbrev Found : ℕ → List HistoryEntry → Type 0
Found k past = (between : List HistoryEntry) × (first : HistoryEntry) × (rest : List HistoryEntry) × (past ≡ between ++ first ∷ rest) × (cancels k first.answer first.ends ≡ true)

find : (k : ℕ) (past : List HistoryEntry) → was_cancelled k past ≡ true → Found k past
find k [] q = absurd (false≢true q)
find k (e ∷ past) q =
    let behind : was_cancelled k past ≡ true → Found k (e ∷ past) = λ p. let r = find k past p in (e ∷ r.0, r.1, r.2, ap (λ xs. e ∷ xs) r.3, r.4) in
    let pick : (b : Bool) → cancels k e.answer e.ends ≡ b → Found k (e ∷ past) = elim [
      | true ↦ λ is. ([], e, past, refl, is)
      | false ↦ λ is. behind (ap (λ b. b || was_cancelled k past) (sym is) ∙ q)
    ]
    in
    pick (cancels k e.answer e.ends) refl

-- what was cancelled before is not cancelled again
pub once : (calls : List Planned) (workers : ℕ) (past : List HistoryEntry) (e : HistoryEntry) (k : ℕ) → IsHistoryOf calls workers (e ∷ past) → was_cancelled k past ≡ true → cancels k e.answer e.ends ≡ false
once calls workers past e k means q = false_unless (cancels k e.answer e.ends) (λ now.
    let r = find k past q in
    tasks_are_cancelled_once calls workers r.2 r.0 r.1 e k (subst (λ p. IsHistoryOf calls workers (e ∷ p)) r.3 means) r.4 now)

-- ---- the cancels that were noted, among calls

-- a cancel of task k was noted
abbrev pub was_noted : ℕ → List HistoryEntry → Bool
was_noted k entries = list_any (λ e. not (is_call e.happening) && is_outside k e.answer) entries

abbrev Yes : HistoryEntry → Type 0
Yes e = (k : ℕ) × SaysYes e k

calls_fewer : (k : ℕ) (entries : List HistoryEntry) → was_cancelled k entries ≡ false → was_cancelled k (calls_in entries) ≡ false
calls_fewer k [] q = refl
calls_fewer k (e ∷ entries) q =
    let parts = neither (cancels k e.answer e.ends) (was_cancelled k entries) q in
    let rest = calls_fewer k entries parts.1 in
    let pick : (b : Bool) → was_cancelled k (cond b (e ∷ calls_in entries) (calls_in entries)) ≡ false = elim [ true ↦ (λ i. parts.0 i || rest i) | false ↦ rest ] in
    pick (is_call e.happening)

-- what is so of a task whose cancel was noted among calls
pub record IsApart (past between : List HistoryEntry) (k : ℕ) : Type 0 where
  pub before : was_cancelled k past ≡ false
  pub calls : was_cancelled k (calls_in between) ≡ false
  pub now : was_cancelled k (between ++ past) ≡ true

pub noted_apart : (calls : List Planned) (workers : ℕ) (past between : List HistoryEntry) (k : ℕ) → IsHistoryOf calls workers (between ++ past) → All IsPassed between → was_noted k between ≡ true → IsApart past between k
noted_apart calls workers past [] k means all q = absurd (false≢true q)
noted_apart calls workers past (e ∷ between) k means all q =
    let further : was_noted k between ≡ true → IsApart past between k = λ is. noted_apart calls workers past between k means.0 (All-tail IsPassed e between all) is in
    elim (All-head IsPassed e between all) [
      | inl call ↦
          let i = further (ap (λ b. (not b && is_outside k e.answer) || was_noted k between) (sym call) ∙ q) in
          let again = once calls workers (between ++ past) e k means i.now in
          record {
            before = i.before;
            calls = ap (λ b. was_cancelled k (cond b (e ∷ calls_in between) (calls_in between))) call ∙ (λ j. again j || i.calls j);
            now = or_true (cancels k e.answer e.ends) (was_cancelled k (between ++ past)) i.now;
          }
      | inr said ↦
          let none : calls_in (e ∷ between) ≡ calls_in between = ap (λ y. cond (is_call y) (e ∷ calls_in between) (calls_in between)) said.1.happening in
          let pick : (b : Bool) → was_noted k between ≡ b → IsApart past (e ∷ between) k = elim [
            | true ↦ λ is.
                let i = further is in
                record { before = i.before; calls = ap (was_cancelled k) none ∙ i.calls; now = or_true (cancels k e.answer e.ends) (was_cancelled k (between ++ past)) i.now }
            | false ↦ λ is.
                let here : is_outside k e.answer ≡ true =
                sym (or_none (is_outside k e.answer)) ∙ (ap (λ b. is_outside k e.answer || b) (sym is) ∙ (ap (λ y. (not (is_call y) && is_outside k e.answer) || was_noted k between) (sym said.1.happening) ∙ q))
                in
                let now = outside_cancels k e.answer e.ends here in
                let fresh = false_unless (was_cancelled k (between ++ past)) (λ was. false≢true (sym (once calls workers (between ++ past) e k means was) ∙ now)) in
                let parts = neither (was_cancelled k between) (was_cancelled k past) (sym (any_append (λ x. cancels k x.answer x.ends) between past) ∙ fresh) in
                record {
                  before = parts.1;
                  calls = ap (was_cancelled k) none ∙ calls_fewer k between parts.0;
                  now = ap (λ b. b || was_cancelled k (between ++ past)) now;
                }
          ]
          in
          pick (was_noted k between) refl
    ]

-- ---- what is so of the tasks of noted cancels at the end

-- a task is cancelled in a seat's view, but not by the seat
abbrev IsElsewhere : CoreSeatView → ℕ → Type 0
IsElsewhere v k = (is_cancelled (entry v k) ≡ true) × (stands_in k v.own ≡ false)

elsewhere : (calls : List Planned) (workers : ℕ) (past new_past : List HistoryEntry) (v next_v : CoreSeatView) (k : ℕ) (grown : Bool) → IsHistoryOf calls workers new_past → Agrees calls workers past v → Agrees calls workers new_past next_v →
    was_cancelled k past ≡ false → was_cancelled k new_past ≡ true → grown ≡ false → stands_in k next_v.own ≡ (grown || stands_in k v.own) → IsElsewhere next_v k
elsewhere calls workers past new_past v next_v k grown means agrees new_agrees before now not_grown own = (
  (new_agrees.each k).cancelled ∙ ((words_tell_the_history calls workers new_past k means).cancelled ∙ now),
  own ∙ ((λ i. not_grown i || stands_in k v.own) ∙ (neither (stands_in k v.own) (was_outside k past) (sym (agrees.cancelled k) ∙ before)).0),
)

each_noted : (v : CoreSeatView) (entries : List HistoryEntry) → All IsPassed entries → ((k : ℕ) → was_noted k entries ≡ true → IsElsewhere v k) → All (λ e. IsTrue (is_call e.happening) ⊎ IsNoted v e) entries
each_noted v [] all facts = All-nil (λ e. IsTrue (is_call e.happening) ⊎ IsNoted v e)
each_noted v (e ∷ entries) all facts =
    let here : IsTrue (is_call e.happening) ⊎ IsNoted v e = elim (All-head IsPassed e entries all) [
      | inl call ↦ inl call
      | inr said ↦
          let tells : is_outside said.0 e.answer ≡ true = ap (is_outside said.0) said.1.answer ∙ (and_true (said.0 == said.0) ∙ same_eqb said.0) in
          let hit : was_noted said.0 (e ∷ entries) ≡ true = (λ i. (not (is_call (said.1.happening i)) && tells i) || was_noted said.0 entries) in
          let fact = facts said.0 hit in
          inr (record { task = said.0; said = said.1; met = fact.0; others = fact.1 })
    ]
    in
    All-cons (λ e. IsTrue (is_call e.happening) ⊎ IsNoted v e) e entries here
    (each_noted v entries (All-tail IsPassed e entries all) (λ k q. facts k (or_true (not (is_call e.happening) && is_outside k e.answer) (was_noted k entries) q)))

pub takes_noted : (calls : List Planned) (workers : ℕ) (past new_past : List HistoryEntry) (v next_v : CoreSeatView) (part : List Happening) → IsHistoryOf calls workers new_past → Agrees calls workers past v → Agrees calls workers new_past next_v →
    (took : Completes calls workers v.own next_v.own past new_past part) → All (λ e. IsTrue (is_call e.happening) ⊎ IsNoted next_v e) took.between
takes_noted calls workers past new_past v next_v part means agrees new_agrees took = each_noted next_v took.between took.each facts
  where
    whole : IsHistoryOf calls workers (took.last ∷ (took.between ++ past))
    whole = subst (IsHistoryOf calls workers) took.past means

    facts : (k : ℕ) → was_noted k took.between ≡ true → IsElsewhere next_v k
    facts k q =
        let apart = noted_apart calls workers past took.between k whole.0 took.each q in
        let last = once calls workers (took.between ++ past) took.last k whole apart.now in
        elsewhere calls workers past new_past v next_v k (was_cancelled k (took.last ∷ calls_in took.between)) means agrees new_agrees apart.before
        (ap (was_cancelled k) took.past ∙ or_true (cancels k took.last.answer took.last.ends) (was_cancelled k (took.between ++ past)) apart.now)
        (λ i. last i || apart.calls i) (took.own k)

pub noting_noted : (calls : List Planned) (workers : ℕ) (past new_past : List HistoryEntry) (v next_v : CoreSeatView) → IsHistoryOf calls workers new_past → Agrees calls workers past v → Agrees calls workers new_past next_v →
    next_v.own ≡ v.own → (noting : Noting past new_past) → All (IsNoted next_v) noting.noted
noting_noted calls workers past new_past v next_v means agrees new_agrees same noting = strip noting.noted noting.each (each_noted next_v noting.noted each facts)
  where
    each : All IsPassed noting.noted
    each = All-weaker Yes IsPassed (λ e said. inr said) noting.noted noting.each

    whole : IsHistoryOf calls workers (noting.noted ++ past)
    whole = subst (IsHistoryOf calls workers) noting.past means

    facts : (k : ℕ) → was_noted k noting.noted ≡ true → IsElsewhere next_v k
    facts k q =
        let apart = noted_apart calls workers past noting.noted k whole each q in
        elsewhere calls workers past new_past v next_v k false means agrees new_agrees apart.before (ap (was_cancelled k) noting.past ∙ apart.now) refl (ap (stands_in k) same)

    strip : (entries : List HistoryEntry) → All Yes entries → All (λ e. IsTrue (is_call e.happening) ⊎ IsNoted next_v e) entries → All (IsNoted next_v) entries
    strip [] said all = All-nil (IsNoted next_v)
    strip (e ∷ entries) said all =
        let here : IsNoted next_v e = elim (All-head (λ e. IsTrue (is_call e.happening) ⊎ IsNoted next_v e) e entries all) [
          | inl call ↦ absurd (false≢true (sym (ap is_call (All-head Yes e entries said).1.happening) ∙ call))
          | inr it ↦ it
        ]
        in
        All-cons (IsNoted next_v) e entries here (strip entries (All-tail Yes e entries said) (All-tail (λ e. IsTrue (is_call e.happening) ⊎ IsNoted next_v e) e entries all))

-- ---- lines

-- the lines of a longer history begin with those before
pub lines_more : (calls : List Planned) (more past : List HistoryEntry) → (lines : List Line) × (lines_of calls (more ++ past) ≡ lines_of calls past ++ lines)
lines_more calls [] past = ([], sym (Rattle.std.proofs.lemmas.List.append-nil (lines_of calls past)))
lines_more calls (e ∷ more) past =
    let r = lines_more calls more past in
    let own = lines_at (now_of calls (happenings (e ∷ (more ++ past)))) (reply_in e) in (
      r.0 ++ own,
      ap (λ xs. xs ++ own) r.1 ∙ append_assoc (lines_of calls past) r.0 own,
    )

-- an event ends nobody
pub event_ends_none : (calls : List Planned) (workers : ℕ) (past : List HistoryEntry) (y : Happening) → is_call y ≡ false → (answer calls workers past y).ends ≡ []
event_ends_none calls workers past h.Call event = absurd (false≢true (sym event))
event_ends_none calls workers past (h.Clock t) event = refl
event_ends_none calls workers past (h.Start w) event = refl
event_ends_none calls workers past (h.Finish w ending) event = refl
event_ends_none calls workers past (h.Cancel k) event = refl
event_ends_none calls workers past h.Purge event = refl

-- the last line of a history whose last entry is that of an event is its answer
pub last_line : (calls : List Planned) (workers : ℕ) (past : List HistoryEntry) (e : HistoryEntry) → IsHistoryOf calls workers (e ∷ past) → is_call e.happening ≡ false →
    lines_of calls (e ∷ past) ≡ lines_of calls past ++ answer_line (now_of calls (happenings (e ∷ past))) e.answer ∷ []
last_line calls workers past e means event =
    let none : e.ends ≡ [] = means.3 ∙ event_ends_none calls workers past e.happening event in
    ap (λ ends. lines_of calls past ++ lines_at (now_of calls (happenings (e ∷ past))) (record { answer = e.answer; ends = ends })) none
