-- One line of a trace alone stands at the front of some bytes.
use Rattle.std.proofs.Common.{◌≡◌, ℕ, ◌^◌, ◌<◌, true, false, Option, Some, None, List, [], ◌++◌, length, refl, ap, ◌∙◌, sym, arith, append_assoc, append-nil, codes, ◌==◌, ◌⊎◌, inl, inr}
use Rattle.std.specs.Prelude.{drop}
use Rattle.std.specs.Fmt.{decimal}
use Rattle.std.proofs.lemmas.Bool.{false≢true}
use Rattle.std.proofs.lemmas.List.{append_cancel_left}
use Rattle.executor_model.specs.declared.Outcome.{Outcome}
use Rattle.executor_model.specs.declared.Answer.TheVariants as a
use Rattle.executor_model.specs.declared.Message.{Message}
use Rattle.executor_model.specs.declared.Message.TheVariants.{Answer, End}
use Rattle.executor_model.specs.declared.Line.{Line}
use Rattle.trace_text.specs.Spelling.{message_text, error_text, outcome_text, cancel_text, line_text, FitsMessage, FitsLine, FitsOutcome}
use Rattle.trace_text.specs.own.Spelling.{FitsCancel}
use Rattle.trace_text.specs.Reading.{IsRead, IsUnread, LinesAreOne, EndsNumber, Below, Any, text_then}
use Rattle.trace_text.proofs.Digits.{one_number}
use Rattle.trace_text.proofs.Clashes.{clash, clashes}
use Rattle.trace_text.proofs.Parts.{IsOnce}
use Rattle.trace_text.proofs.LineForms.{start_text, FitsStart, finish_text, FitsFinish, submit_text, FitsSubmit, refuse_text, FitsRefuse, set_text, FitsSet, ask_text, FitsAsk, start_once, finish_once, submit_once, refuse_once, cancel_once, set_once, ask_once}
use Rattle.trace_text.proofs.LineWords.{outcome_is, error_once, last_task_once}

-- the outcome of a finish stands behind its space
finish_is : (w k n : ℕ) (o : Outcome) → decimal w ++ (codes " task " ++ (decimal k ++ (codes " run " ++ (decimal n ++ outcome_text o)))) ≡ finish_text (w, (k, (n, o)))
finish_is w k n o = ap (λ l. decimal w ++ (codes " task " ++ (decimal k ++ (codes " run " ++ (decimal n ++ l))))) (outcome_is o)

-- ---- no line

-- bytes behind ` start ` that are no worker with what it gets
pub unread_start : (bytes : List ℕ) → IsUnread start_text FitsStart bytes → IsUnread message_text FitsMessage (codes " start " ++ bytes)
unread_start bytes never (Answer (a.Start w k n d)) tail f h = never (w, Some (k, (n, d))) tail (f.0, (f.1, (f.2, f.3))) (append_cancel_left (codes " start ") bytes (start_text (w, Some (k, (n, d))) ++ tail) h)
unread_start bytes never (Answer (a.Idle w)) tail f h = never (w, None) tail (f, tt) (append_cancel_left (codes " start ") bytes (start_text (w, None) ++ tail) h)
unread_start bytes never m tail f h = absurd (clashes (codes " start ") (message_text m) bytes tail refl h)

-- bytes behind ` finish ` that are no worker with its run and the outcome
pub unread_finish : (bytes : List ℕ) → IsUnread finish_text FitsFinish bytes → IsUnread message_text FitsMessage (codes " finish " ++ bytes)
unread_finish bytes never (Answer (a.Finish w k n o)) tail f h =
    never (w, (k, (n, o))) tail (f.0, (f.1, (f.2, f.3))) (append_cancel_left (codes " finish ") bytes ((decimal w ++ (codes " task " ++ (decimal k ++ (codes " run " ++ (decimal n ++ outcome_text o))))) ++ tail) h ∙ ap (λ l. l ++ tail) (finish_is w k n o))
unread_finish bytes never m tail f h = absurd (clashes (codes " finish ") (message_text m) bytes tail refl h)

-- bytes behind ` submit ` that are no task with its kind and due moment
pub unread_submit : (bytes : List ℕ) → IsUnread submit_text FitsSubmit bytes → IsUnread message_text FitsMessage (codes " submit " ++ bytes)
unread_submit bytes never (Answer (a.Submit k kind d)) tail f h = never (k, (kind, d)) tail (f.0, (tt, f.1)) (append_cancel_left (codes " submit ") bytes (submit_text (k, (kind, d)) ++ tail) h)
unread_submit bytes never m tail f h = absurd (clashes (codes " submit ") (message_text m) bytes tail refl h)

-- bytes behind ` refuse ` that are no task with a reason
pub unread_refuse : (bytes : List ℕ) → IsUnread refuse_text FitsRefuse bytes → IsUnread message_text FitsMessage (codes " refuse " ++ bytes)
unread_refuse bytes never (Answer (a.Refuse k reason)) tail f h = never (k, reason) tail (f, tt) (append_cancel_left (codes " refuse ") bytes (refuse_text (k, reason) ++ tail) h)
unread_refuse bytes never m tail f h = absurd (clashes (codes " refuse ") (message_text m) bytes tail refl h)

-- bytes behind ` cancel ` that are no task with an effect
pub unread_cancel : (bytes : List ℕ) → IsUnread cancel_text FitsCancel bytes → IsUnread message_text FitsMessage (codes " cancel " ++ bytes)
unread_cancel bytes never (Answer (a.Cancel k e)) tail f h = never (k, e) tail f (append_cancel_left (codes " cancel ") bytes (cancel_text (k, e) ++ tail) h)
unread_cancel bytes never m tail f h = absurd (clashes (codes " cancel ") (message_text m) bytes tail refl h)

-- bytes behind ` outside ` that are no task with an effect
pub unread_outside : (bytes : List ℕ) → IsUnread cancel_text FitsCancel bytes → IsUnread message_text FitsMessage (codes " outside " ++ bytes)
unread_outside bytes never (Answer (a.Outside k e)) tail f h = never (k, e) tail f (append_cancel_left (codes " outside ") bytes (cancel_text (k, e) ++ tail) h)
unread_outside bytes never m tail f h = absurd (clashes (codes " outside ") (message_text m) bytes tail refl h)

-- bytes behind ` policy ` that are no policy with what it is set to
pub unread_policy : (bytes : List ℕ) → IsUnread set_text FitsSet bytes → IsUnread message_text FitsMessage (codes " policy " ++ bytes)
unread_policy bytes never (Answer (a.Policy which value)) tail f h = never (which, value) tail (tt, tt) (append_cancel_left (codes " policy ") bytes (set_text (which, value) ++ tail) h)
unread_policy bytes never m tail f h = absurd (clashes (codes " policy ") (message_text m) bytes tail refl h)

-- bytes behind ` ask queue ` that do not tell how far the executor is
pub unread_ask : (bytes : List ℕ) → IsUnread ask_text FitsAsk bytes → IsUnread message_text FitsMessage (codes " ask queue " ++ bytes)
unread_ask bytes never (Answer (a.Ask q r shut over)) tail f h = never (q, (r, (shut, over))) tail (f.0, (f.1, (tt, tt))) (append_cancel_left (codes " ask queue ") bytes (ask_text (q, (r, (shut, over))) ++ tail) h)
unread_ask bytes never m tail f h = absurd (clashes (codes " ask queue ") (message_text m) bytes tail refl h)

-- bytes of a word, with no message behind it
pub unread_behind : (word bytes rest : List ℕ) → bytes ≡ word ++ rest → IsUnread message_text FitsMessage (word ++ rest) → IsUnread message_text FitsMessage bytes
unread_behind word bytes rest is never m tail f h = never m tail f (sym is ∙ h)

-- none of the first words
pub unread_words : (bytes : List ℕ)
    → ((t : List ℕ) → bytes ≡ codes " start " ++ t → ⊥)
    → ((t : List ℕ) → bytes ≡ codes " finish " ++ t → ⊥)
    → ((t : List ℕ) → bytes ≡ codes " clock\n" ++ t → ⊥)
    → ((t : List ℕ) → bytes ≡ codes " submit " ++ t → ⊥)
    → ((t : List ℕ) → bytes ≡ codes " end " ++ t → ⊥)
    → ((t : List ℕ) → bytes ≡ codes " outside " ++ t → ⊥)
    → ((t : List ℕ) → bytes ≡ codes " cancel " ++ t → ⊥)
    → ((t : List ℕ) → bytes ≡ codes " refuse " ++ t → ⊥)
    → ((t : List ℕ) → bytes ≡ codes " error " ++ t → ⊥)
    → ((t : List ℕ) → bytes ≡ codes " ask queue " ++ t → ⊥)
    → ((t : List ℕ) → bytes ≡ codes " policy " ++ t → ⊥)
    → ((t : List ℕ) → bytes ≡ codes " shutdown" ++ t → ⊥)
    → ((t : List ℕ) → bytes ≡ codes " purge\n" ++ t → ⊥)
    → IsUnread message_text FitsMessage bytes
unread_words bytes start finish clock submit ended outside cancel refuse failed ask policy stopped purge (Answer (a.Start w k n d)) tail f h = start (start_text (w, Some (k, (n, d))) ++ tail) h
unread_words bytes start finish clock submit ended outside cancel refuse failed ask policy stopped purge (Answer (a.Idle w)) tail f h = start (start_text (w, None) ++ tail) h
unread_words bytes start finish clock submit ended outside cancel refuse failed ask policy stopped purge (Answer (a.Finish w k n o)) tail f h = finish ((decimal w ++ (codes " task " ++ (decimal k ++ (codes " run " ++ (decimal n ++ outcome_text o))))) ++ tail) h
unread_words bytes start finish clock submit ended outside cancel refuse failed ask policy stopped purge (Answer (a.Submit k kind d)) tail f h = submit (submit_text (k, (kind, d)) ++ tail) h
unread_words bytes start finish clock submit ended outside cancel refuse failed ask policy stopped purge (Answer (a.Refuse k reason)) tail f h = refuse (refuse_text (k, reason) ++ tail) h
unread_words bytes start finish clock submit ended outside cancel refuse failed ask policy stopped purge (Answer (a.Cancel k e)) tail f h = cancel (cancel_text (k, e) ++ tail) h
unread_words bytes start finish clock submit ended outside cancel refuse failed ask policy stopped purge (Answer (a.Outside k e)) tail f h = outside (cancel_text (k, e) ++ tail) h
unread_words bytes start finish clock submit ended outside cancel refuse failed ask policy stopped purge (Answer (a.Policy which value)) tail f h = policy (set_text (which, value) ++ tail) h
unread_words bytes start finish clock submit ended outside cancel refuse failed ask policy stopped purge (Answer (a.Ask q r shut over)) tail f h = ask (ask_text (q, (r, (shut, over))) ++ tail) h
unread_words bytes start finish clock submit ended outside cancel refuse failed ask policy stopped purge (Answer (a.Error e)) tail f h = failed (text_then error_text (codes "\n") e ++ tail) h
unread_words bytes start finish clock submit ended outside cancel refuse failed ask policy stopped purge (End k) tail f h = ended (text_then decimal (codes "\n") k ++ tail) h
unread_words bytes start finish clock submit ended outside cancel refuse failed ask policy stopped purge (Answer a.Clock) tail f h = clock tail h
unread_words bytes start finish clock submit ended outside cancel refuse failed ask policy stopped purge (Answer a.Purge) tail f h = purge tail h
unread_words bytes start finish clock submit ended outside cancel refuse failed ask policy stopped purge m tail f h = stopped (drop (length (codes " shutdown")) (message_text m) ++ tail) h

-- ---- one line

one_form : {V : Type 0} (word : List ℕ) (spell : V → List ℕ) (fits : V → Type 0) (message : V → Message) → IsOnce spell fits → (x y : V) (s t : List ℕ) → fits x → fits y
    → word ++ (spell x ++ s) ≡ word ++ (spell y ++ t) → (message x ≡ message y) × (s ≡ t)
one_form word spell fits message once x y s t p q h = let r = once x y s t p q (append_cancel_left word (spell x ++ s) (spell y ++ t) h) in (ap message r.0, r.1)

-- what a start says
abbrev start_message : ℕ × Option (ℕ × (ℕ × ℕ)) → Message
start_message v = elim (v.1) as (λ g. Message) [ None ↦ Answer (a.Idle v.0) | Some g ↦ Answer (a.Start v.0 g.0 g.1.0 g.1.1) ]

one_start : (x y : ℕ × Option (ℕ × (ℕ × ℕ))) (s t : List ℕ) → FitsStart x → FitsStart y → codes " start " ++ (start_text x ++ s) ≡ codes " start " ++ (start_text y ++ t) → (start_message x ≡ start_message y) × (s ≡ t)
one_start = one_form (codes " start ") start_text FitsStart start_message start_once

-- two texts that differ before their ends, or of one message
one_text : (m n : Message) (s t : List ℕ) → (clash (message_text m) (message_text n) ≡ true) ⊎ (m ≡ n) → message_text m ++ s ≡ message_text n ++ t → (m ≡ n) × (s ≡ t)
one_text m n s t (inl differ) h = absurd (clashes (message_text m) (message_text n) s t differ h)
one_text m n s t (inr same) h = (same, append_cancel_left (message_text m) s t (h ∙ ap (λ x. message_text x ++ t) (sym same)))

message_once : IsOnce message_text FitsMessage
message_once (Answer (a.Start w1 k1 n1 d1)) (Answer (a.Start w2 k2 n2 d2)) s t p q h = one_start (w1, Some (k1, (n1, d1))) (w2, Some (k2, (n2, d2))) s t (p.0, (p.1, (p.2, p.3))) (q.0, (q.1, (q.2, q.3))) h
message_once (Answer (a.Start w1 k1 n1 d1)) (Answer (a.Idle w2)) s t p q h = one_start (w1, Some (k1, (n1, d1))) (w2, None) s t (p.0, (p.1, (p.2, p.3))) (q, tt) h
message_once (Answer (a.Idle w1)) (Answer (a.Start w2 k2 n2 d2)) s t p q h = one_start (w1, None) (w2, Some (k2, (n2, d2))) s t (p, tt) (q.0, (q.1, (q.2, q.3))) h
message_once (Answer (a.Idle w1)) (Answer (a.Idle w2)) s t p q h = one_start (w1, None) (w2, None) s t (p, tt) (q, tt) h
message_once (Answer (a.Finish w1 k1 n1 o1)) (Answer (a.Finish w2 k2 n2 o2)) s t p q h =
    one_form (codes " finish ") finish_text FitsFinish (λ v. Answer (a.Finish v.0 v.1.0 v.1.1.0 v.1.1.1)) finish_once (w1, (k1, (n1, o1))) (w2, (k2, (n2, o2))) s t (p.0, (p.1, (p.2, p.3))) (q.0, (q.1, (q.2, q.3)))
    (ap (λ l. codes " finish " ++ (l ++ s)) (sym (finish_is w1 k1 n1 o1)) ∙ (h ∙ ap (λ l. codes " finish " ++ (l ++ t)) (finish_is w2 k2 n2 o2)))
message_once (Answer (a.Submit k1 kind1 d1)) (Answer (a.Submit k2 kind2 d2)) s t p q h = one_form (codes " submit ") submit_text FitsSubmit (λ v. Answer (a.Submit v.0 v.1.0 v.1.1)) submit_once (k1, (kind1, d1)) (k2, (kind2, d2)) s t (p.0, (tt, p.1)) (q.0, (tt, q.1)) h
message_once (Answer (a.Refuse k1 reason1)) (Answer (a.Refuse k2 reason2)) s t p q h = one_form (codes " refuse ") refuse_text FitsRefuse (λ v. Answer (a.Refuse v.0 v.1)) refuse_once (k1, reason1) (k2, reason2) s t (p, tt) (q, tt) h
message_once (Answer (a.Cancel k1 e1)) (Answer (a.Cancel k2 e2)) s t p q h = one_form (codes " cancel ") cancel_text FitsCancel (λ v. Answer (a.Cancel v.0 v.1)) cancel_once (k1, e1) (k2, e2) s t p q h
message_once (Answer (a.Outside k1 e1)) (Answer (a.Outside k2 e2)) s t p q h = one_form (codes " outside ") cancel_text FitsCancel (λ v. Answer (a.Outside v.0 v.1)) cancel_once (k1, e1) (k2, e2) s t p q h
message_once (Answer (a.Policy which1 value1)) (Answer (a.Policy which2 value2)) s t p q h = one_form (codes " policy ") set_text FitsSet (λ v. Answer (a.Policy v.0 v.1)) set_once (which1, value1) (which2, value2) s t (tt, tt) (tt, tt) h
message_once (Answer (a.Ask q1 r1 shut1 over1)) (Answer (a.Ask q2 r2 shut2 over2)) s t p q h = one_form (codes " ask queue ") ask_text FitsAsk (λ v. Answer (a.Ask v.0 v.1.0 v.1.1.0 v.1.1.1)) ask_once (q1, (r1, (shut1, over1))) (q2, (r2, (shut2, over2))) s t (p.0, (p.1, (tt, tt))) (q.0, (q.1, (tt, tt))) h
message_once (Answer (a.Error e1)) (Answer (a.Error e2)) s t p q h = one_form (codes " error ") (text_then error_text (codes "\n")) Any (λ e. Answer (a.Error e)) error_once e1 e2 s t tt tt h
message_once (End k1) (End k2) s t p q h = one_form (codes " end ") (text_then decimal (codes "\n")) (Below (2 ^ 32)) End last_task_once k1 k2 s t p q h
message_once m (Answer a.Clock) s t p q h = one_text m (Answer a.Clock) s t (first_of (search inl, search inr)) h
message_once m n s t p q h = one_text m n s t (first_of (search inl, search inr)) h

-- a number ends before what a line says
message_ends : (m : Message) (tail : List ℕ) → EndsNumber (message_text m ++ tail)
message_ends (Answer a.Clock) tail = λ r. omega (arith, r)
message_ends m tail = λ r. omega (arith, r)

-- one text spells one line, and no line's text is the front of another's
pub first_line : LinesAreOne
first_line a b s t p q h =
    let both = one_number a.moment b.moment (message_text a.message ++ s) (message_text b.message ++ t) p.0 q.0 (message_ends a.message s) (message_ends b.message t)
    (sym (append_assoc (decimal a.moment) (message_text a.message) s) ∙ (h ∙ append_assoc (decimal b.moment) (message_text b.message) t)) in
    let rest = message_once a.message b.message s t p.1 q.1 both.1 in
    (λ i. record { moment = both.0 i; message = rest.0 i }, rest.1)

-- bytes behind a line make a text that spells no line
pub nothing_behind_line : (bytes rest : List ℕ) (line : Line) → FitsLine line → bytes ≡ line_text line ++ rest → false ≡ (length rest == 0) → (other : Line) → FitsLine other → bytes ≡ line_text other → ⊥
nothing_behind_line bytes rest line p is some other q h =
    let none : rest ≡ [] = (first_line line other rest [] p q (sym is ∙ (h ∙ sym (append-nil (line_text other))))).1 in
    false≢true (some ∙ ap (λ l. length l == 0) none)

-- no number stands in front
pub unread_moment : (bytes : List ℕ) → ((n : ℕ) (rest : List ℕ) → n < 2 ^ 64 → EndsNumber rest → bytes ≡ decimal n ++ rest → ⊥) → IsUnread line_text FitsLine bytes
unread_moment bytes never line tail f h = never line.moment (message_text line.message ++ tail) f.0 (message_ends line.message tail) (h ∙ append_assoc (decimal line.moment) (message_text line.message) tail)

-- a number stands in front, and nothing that a line says is behind it
pub unread_message : (bytes rest : List ℕ) (n : ℕ) → bytes ≡ decimal n ++ rest → EndsNumber rest → n < 2 ^ 64 → IsUnread message_text FitsMessage rest → IsUnread line_text FitsLine bytes
unread_message bytes rest n is ends small never line tail f h =
    never line.message tail f.1
    (one_number n line.moment rest (message_text line.message ++ tail) small f.0 ends (message_ends line.message tail) (sym is ∙ (h ∙ append_assoc (decimal line.moment) (message_text line.message) tail))).1

-- a finish, whose worker, task, run and outcome are read one behind the other
pub read_finish : (bytes b c d rest : List ℕ) (w k n : ℕ) (o : Outcome) → IsRead (text_then decimal (codes " task ")) (Below (2 ^ 8)) bytes w b → IsRead (text_then decimal (codes " run ")) (Below (2 ^ 32)) b k c
    → IsRead (text_then decimal (codes " ")) (Below (2 ^ 64)) c n d → IsRead outcome_text FitsOutcome (codes " " ++ d) o rest → IsRead message_text FitsMessage (codes " finish " ++ bytes) (Answer (a.Finish w k n o)) rest
read_finish bytes b c d rest w k n o worker task run outcome =
    let ended : c ≡ decimal n ++ (outcome_text o ++ rest) = run.1 ∙ (append_assoc (decimal n) (codes " ") d ∙ ap (λ l. decimal n ++ l) outcome.1) in
    let tasked : b ≡ decimal k ++ (codes " run " ++ (decimal n ++ (outcome_text o ++ rest))) = task.1 ∙ (append_assoc (decimal k) (codes " run ") c ∙ ap (λ l. decimal k ++ (codes " run " ++ l)) ended) in
    let worked : bytes ≡ decimal w ++ (codes " task " ++ (decimal k ++ (codes " run " ++ (decimal n ++ (outcome_text o ++ rest))))) =
    worker.1 ∙ (append_assoc (decimal w) (codes " task ") b ∙ ap (λ l. decimal w ++ (codes " task " ++ l)) tasked) in
    let on_run : codes " run " ++ (decimal n ++ (outcome_text o ++ rest)) ≡ (codes " run " ++ (decimal n ++ outcome_text o)) ++ rest =
    ap (λ l. codes " run " ++ l) (sym (append_assoc (decimal n) (outcome_text o) rest)) ∙ sym (append_assoc (codes " run ") (decimal n ++ outcome_text o) rest) in
    let of_task = decimal k ++ (codes " run " ++ (decimal n ++ outcome_text o)) in
    let on_task : codes " task " ++ (decimal k ++ (codes " run " ++ (decimal n ++ (outcome_text o ++ rest)))) ≡ (codes " task " ++ of_task) ++ rest =
    ap (λ l. codes " task " ++ l) (ap (λ l. decimal k ++ l) on_run ∙ sym (append_assoc (decimal k) (codes " run " ++ (decimal n ++ outcome_text o)) rest)) ∙ sym (append_assoc (codes " task ") of_task rest) in
    let of_worker = decimal w ++ (codes " task " ++ of_task) in
    let whole : codes " finish " ++ bytes ≡ (codes " finish " ++ of_worker) ++ rest =
    ap (λ l. codes " finish " ++ l) (worked ∙ (ap (λ l. decimal w ++ l) on_task ∙ sym (append_assoc (decimal w) (codes " task " ++ of_task) rest))) ∙ sym (append_assoc (codes " finish ") of_worker rest) in
    ((worker.0, task.0, run.0, outcome.0), whole)
