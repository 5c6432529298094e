-- Lines that go, one line more or less.
use Rattle.std.proofs.Common.{◌≡◌, ℕ, ◌+◌, Bool, true, false, cond, List, [], ◌∷◌, ◌++◌, length, map, Some, refl, sym, ap, ◌∙◌, subst, arith, append_assoc, append-nil}
use Rattle.std.specs.Prelude.{reverse}
use Rattle.std.proofs.lemmas.List.{length-map, append_cancel_left, reverse-append}
use Rattle.executor_model.specs.declared.types.Happening.{Happening}
use Rattle.executor_model.specs.declared.types.Answer.{Answer}
use Rattle.executor_model.specs.declared.types.Line.{Line}
use Rattle.executor_model.specs.declared.types.Message.{Message}
use Rattle.executor_model.specs.declared.types.Message.TheVariants as m
use Rattle.queue_code.specs.Calls.{Planned, how_many}
use Rattle.executor_model.specs.Histories.{HistoryEntry, entry_of, happenings, now_of, answer, IsHistoryOf}
use Rattle.executor_model.specs.Flows.{answer_line, end_line, lines_at, lines_of, reply_in}
use Rattle.executor_model.proofs.Flowing.{how_many-append, one_answer}
use Rattle.trace_check.specs.Representatives.{AreRepresentatives}
use Rattle.trace_check.specs.Going.{Goes, IsNextAnswer, StandsNext}
use Rattle.trace_check.specs.Laws.{GoesLineByLine, GoesOnlyOneWay, FrontsGo}

-- the lines of the tasks that an answer ends
abbrev pub ends_at : ℕ → List ℕ → List Line
ends_at moment ks = map (end_line moment) ks

-- the newest of some lines stands last once they are turned
pub turned : (line : Line) (lines : List Line) → reverse (line ∷ lines) ≡ reverse lines ++ line ∷ []
turned line lines = reverse-append (line ∷ []) lines

-- and so in front of what stands behind them
pub turned_before : (line : Line) (lines behind : List Line) → reverse (line ∷ lines) ++ behind ≡ reverse lines ++ line ∷ behind
turned_before line lines behind = ap (λ ls. ls ++ behind) (turned line lines) ∙ append_assoc (reverse lines) (line ∷ []) behind

-- ---- counting the lines that answer

abbrev is_answer : Message → Bool
is_answer (m.Answer answer) = true
is_answer (m.End task) = false

-- a line is an answer
abbrev pub is_answered : Line → Bool
is_answered line = is_answer line.message

-- how many lines are answers
abbrev pub mains : List Line → ℕ
mains lines = how_many is_answered lines

one_main : (line : Line) (lines : List Line) → is_answered line ≡ true → mains (line ∷ lines) ≡ 1 + mains lines
one_main line lines is = ap (λ b. cond b (1 + mains lines) (mains lines)) is

drop_one : (b : Bool) (m n : ℕ) → cond b (1 + m) m ≡ cond b (1 + n) n → m ≡ n
drop_one true m n h = omega arith
drop_one false m n h = h

tail_mains : (x y : Line) (xs ys : List Line) → x ≡ y → mains (x ∷ xs) ≡ mains (y ∷ ys) → mains xs ≡ mains ys
tail_mains x y xs ys same h = drop_one (is_answered y) (mains xs) (mains ys) (ap (λ z. cond (is_answered z) (1 + mains xs) (mains xs)) (sym same) ∙ h)

mains_ends : (moment : ℕ) (ks : List ℕ) → mains (ends_at moment ks) ≡ 0
mains_ends moment [] = refl
mains_ends moment (k ∷ ks) = mains_ends moment ks

mains_trace : (calls : List Planned) (past : List HistoryEntry) → mains (lines_of calls past) ≡ length past
mains_trace calls [] = refl
mains_trace calls (e ∷ past) =
    omega (
      arith,
      how_many-append is_answered (lines_of calls past) (lines_at (now_of calls (happenings (e ∷ past))) (reply_in e)),
      mains_trace calls past,
      mains_ends (now_of calls (happenings (e ∷ past))) e.ends,
    )

mains_plain : (workers : ℕ) (lines : List Line) (happened : List Happening) → AreRepresentatives workers lines happened → mains lines ≡ length happened
mains_plain workers [] happened p = ap length (sym p)
mains_plain workers (line ∷ before) happened p = by (λ rest q. mains_plain workers before rest q) line.message happened p
  where
    by : ((rest : List Happening) → AreRepresentatives workers before rest → mains before ≡ length rest) → (message : Message) (happened : List Happening) →
        AreRepresentatives workers (record { moment = line.moment; message = message } ∷ before) happened → mains (record { moment = line.moment; message = message } ∷ before) ≡ length happened
    by again (m.End task) happened p = again happened p
    by again (m.Answer answer) [] p = absurd p
    by again (m.Answer answer) (happening ∷ happened) p = omega (arith, again happened p.1)

mains_turned : (lines : List Line) → mains (reverse lines) ≡ mains lines
mains_turned [] = refl
mains_turned (line ∷ before) = ap mains (turned line before) ∙ (how_many-append is_answered (reverse before) (line ∷ []) ∙ by (mains_turned before) (is_answered line))
  where
    by : mains (reverse before) ≡ mains before → (b : Bool) → mains (reverse before) + cond b (1 + 0) 0 ≡ cond b (1 + mains before) (mains before)
    by again true = omega (arith, again)
    by again false = omega (arith, again)

-- the lines and the history have as many answers
even : (calls : List Planned) (workers : ℕ) (lines : List Line) (past : List HistoryEntry) → AreRepresentatives workers lines (happenings past) → mains (lines_of calls past) ≡ mains (reverse lines)
even calls workers lines past representative =
    omega (arith, mains_trace calls past, mains_plain workers lines (happenings past) representative, mains_turned lines, length-map past (λ (e : HistoryEntry). e.happening))

-- so what is owed ends tasks
pub owed_ends : (calls : List Planned) (workers : ℕ) (lines : List Line) (g : Goes calls workers lines) → mains g.owed ≡ 0
owed_ends calls workers lines g =
    omega (arith, even calls workers lines g.past g.representative, ap mains g.front, how_many-append is_answered (reverse lines) g.owed)

-- where two lists are cut at an answer, with as many answers before it, they are cut at one place
split : (xs ys es os : List Line) (m k : Line) → xs ++ m ∷ es ≡ ys ++ k ∷ os → mains xs ≡ mains ys → is_answered m ≡ true → is_answered k ≡ true →
    (xs ≡ ys) × (m ≡ k) × (es ≡ os)
split [] [] es os m k h c p q =
    let here : m ≡ k = cc in
    let rest : es ≡ os = cc in
    (refl, here, rest)
split [] (y ∷ ys) es os m k h c p q =
    let here : m ≡ y = cc in
    absurd (omega (arith, one_main y ys (ap is_answered (sym here) ∙ p), c))
split (x ∷ xs) [] es os m k h c p q =
    let here : x ≡ k = cc in
    absurd (omega (arith, one_main x xs (ap is_answered here ∙ q), c))
split (x ∷ xs) (y ∷ ys) es os m k h c p q =
    let here : x ≡ y = cc in
    let rest : xs ++ m ∷ es ≡ ys ++ k ∷ os = cc in
    let inner = split xs ys es os m k rest (tail_mains x y xs ys here c) p q in
    let same : xs ≡ ys = inner.0 in
    (cc, inner.1, inner.2)

-- ---- one line more

-- the line that is owed goes
abbrev pub goes_owed : (calls : List Planned) (workers : ℕ) (lines : List Line) (g : Goes calls workers lines) (due : Line) (rest : List Line) → g.owed ≡ due ∷ rest →
    Goes calls workers (due ∷ lines)
goes_owed calls workers lines g due rest is =
    let by : (moment : ℕ) (message : Message) → g.owed ≡ record { moment = moment; message = message } ∷ rest → Goes calls workers (record { moment = moment; message = message } ∷ lines) =
    λ moment. elim [
      | m.Answer answer ↦ λ is. absurd (omega (arith, owed_ends calls workers lines g, ap mains is))
      | m.End task ↦ λ is. record {
        past = g.past;
        means = g.means;
        representative = g.representative;
        owed = rest;
        front = g.front ∙ (ap (λ o. reverse lines ++ o) is ∙ sym (turned_before (end_line moment task) lines rest));
      }
    ]
    in
    by due.moment due.message is

-- an answer that stands next goes
abbrev pub goes_answered : (calls : List Planned) (workers : ℕ) (lines : List Line) (g : Goes calls workers lines) (moment : ℕ) (said : Answer) → g.owed ≡ [] →
    IsNextAnswer calls workers lines g.past moment said → Goes calls workers (answer_line moment said ∷ lines)
goes_answered calls workers lines g moment said none next =
    let r = answer calls workers g.past next.happening in
    let now = now_of calls (next.happening ∷ happenings g.past) in
    let before : lines_of calls g.past ≡ reverse lines = g.front ∙ (ap (λ o. reverse lines ++ o) none ∙ append-nil (reverse lines)) in
    record {
      past = entry_of next.happening r ∷ g.past;
      means = (g.means, next.comes, refl, refl);
      representative = (next.representative, g.representative);
      owed = ends_at now r.ends;
      front = (λ i. before i ++ answer_line (sym next.now i) (sym next.answered i) ∷ ends_at now r.ends)
          ∙ sym (turned_before (answer_line moment said) lines (ends_at now r.ends));
    }

-- ---- one line less

-- what goes before a line, and that the line stands next to it
record Before (calls : List Planned) (workers : ℕ) (lines : List Line) (line : Line) : Type 0 where
  pub goes : Goes calls workers lines
  pub next : StandsNext calls workers lines goes.past goes.owed line

-- lines of one answer say the same
pub same_said : (t u : ℕ) (one other : Answer) → answer_line t one ≡ answer_line u other → one ≡ other
same_said t u one other same = let said : m.Answer one ≡ m.Answer other = ap (λ (line : Line). line.message) same in cc

before_answered : (calls : List Planned) (workers : ℕ) (lines : List Line) (moment : ℕ) (said : Answer) (past : List HistoryEntry) (owed : List Line) → IsHistoryOf calls workers past →
    AreRepresentatives workers (answer_line moment said ∷ lines) (happenings past) → lines_of calls past ≡ reverse (answer_line moment said ∷ lines) ++ owed → Before calls workers lines (answer_line moment said)
before_answered calls workers lines moment said [] owed means representative front = absurd representative
before_answered calls workers lines moment said (e ∷ past) owed means representative front =
    let now = now_of calls (happenings (e ∷ past)) in
    let cut = split (lines_of calls past) (reverse lines) (ends_at now e.ends) owed (answer_line now e.answer) (answer_line moment said) (front ∙ turned_before (answer_line moment said) lines owed)
    (even calls workers lines past representative.1) refl refl in
    let same : answer_line now e.answer ≡ answer_line moment said = cut.1 in
    let same_answer : e.answer ≡ said = same_said now moment e.answer said same in
    record {
      goes = record { past = past; means = means.0; representative = representative.1; owed = []; front = cut.0 ∙ sym (append-nil (reverse lines)) };
      next = record {
        happening = e.happening;
        representative = representative.0;
        comes = means.1;
        now = ap (λ (x : Line). x.moment) (sym same);
        answered = sym same_answer ∙ means.2;
      };
    }

before_line : (calls : List Planned) (workers : ℕ) (lines : List Line) (line : Line) → Goes calls workers (line ∷ lines) → Before calls workers lines line
before_line calls workers lines line g = by line.moment line.message g
  where
    by : (moment : ℕ) (message : Message) → Goes calls workers (record { moment = moment; message = message } ∷ lines) → Before calls workers lines (record { moment = moment; message = message })
    by moment (m.Answer said) g = before_answered calls workers lines moment said g.past g.owed g.means g.representative g.front
    by moment (m.End task) g = record {
      goes = record { past = g.past; means = g.means; representative = g.representative; owed = end_line moment task ∷ g.owed; front = g.front ∙ turned_before (end_line moment task) lines g.owed };
      next = refl;
    }

-- where lines go, those before the last one go
pub fronts_go : FrontsGo
fronts_go calls workers lines line g = (before_line calls workers lines line g).goes

-- ---- one way

one_plain : (workers : ℕ) (lines : List Line) (some other : List Happening) → AreRepresentatives workers lines some → AreRepresentatives workers lines other → some ≡ other
one_plain workers [] some other p q = p ∙ sym q
one_plain workers (line ∷ before) some other p q = by (λ some other p q. one_plain workers before some other p q) line.message some other p q
  where
    by : ((some other : List Happening) → AreRepresentatives workers before some → AreRepresentatives workers before other → some ≡ other) → (message : Message) (some other : List Happening) →
        AreRepresentatives workers (record { moment = line.moment; message = message } ∷ before) some → AreRepresentatives workers (record { moment = line.moment; message = message } ∷ before) other → some ≡ other
    by again (m.End task) some other p q = again some other p q
    by again (m.Answer answer) [] other p q = absurd p
    by again (m.Answer answer) (h ∷ some) [] p q = absurd q
    by again (m.Answer answer) (h ∷ some) (g ∷ other) p q =
        let rest : some ≡ other = again some other p.1 q.1 in
        let first : Some h ≡ Some g = sym p.0 ∙ q.0 in
        cc

-- lines go in one way at most
pub goes_only_one_way : GoesOnlyOneWay
goes_only_one_way calls workers lines one other =
    let past : one.past ≡ other.past = one_answer calls workers one.past other.past one.means other.means (one_plain workers lines (happenings one.past) (happenings other.past) one.representative other.representative) in
    (past, append_cancel_left (reverse lines) one.owed other.owed (sym one.front ∙ (ap (lines_of calls) past ∙ other.front)))

-- ---- line by line

-- after lines that go, exactly the lines that stand next may follow
pub goes_line_by_line : GoesLineByLine
goes_line_by_line calls workers lines line g = (to, back)
  where
    to : Goes calls workers (line ∷ lines) → StandsNext calls workers lines g.past g.owed line
    to more =
        let before = before_line calls workers lines line more in
        let one = goes_only_one_way calls workers lines before.goes g in
        subst (λ o. StandsNext calls workers lines g.past o line) one.1 (subst (λ p. StandsNext calls workers lines p before.goes.owed line) one.0 before.next)

    answered : (moment : ℕ) (message : Message) → g.owed ≡ [] → StandsNext calls workers lines g.past [] (record { moment = moment; message = message }) →
        Goes calls workers (record { moment = moment; message = message } ∷ lines)
    answered moment (m.Answer said) is next = goes_answered calls workers lines g moment said is next
    answered moment (m.End task) is next = absurd next

    back : StandsNext calls workers lines g.past g.owed line → Goes calls workers (line ∷ lines)
    back next =
        let by : (owed : List Line) → g.owed ≡ owed → StandsNext calls workers lines g.past owed line → Goes calls workers (line ∷ lines) =
        elim [
          | [] ↦ λ is next. answered line.moment line.message is next
          | due ∷ rest ↦ λ is next. subst (λ x. Goes calls workers (x ∷ lines)) (sym next) (goes_owed calls workers lines g due rest is)
        ]
        in
        by g.owed refl next
