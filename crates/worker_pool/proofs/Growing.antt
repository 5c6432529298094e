-- What was added to a history by one stretch of happenings, and then by another.
use Rattle.std.proofs.Common.{◌≡◌, ℕ, ◌||◌, Bool, true, false, inl, inr, List, [], ◌∷◌, ◌++◌, length, length-append, cond, refl, sym, ap, ◌∙◌, subst, append_assoc, arith}
use Rattle.std.specs.Prelude.{slice_index_or, slice_get, drop, replicate}
use Rattle.std.specs.List.{All}
use Rattle.std.proofs.lemmas.List.{map-append}
use Rattle.std.proofs.lemmas.List.Elements.{All-nil, All-cons, All-head, All-tail, All-append, All-weaker, filter-append}
use Rattle.task_word.specs.Views.{and_if}
use Rattle.task_word.specs.declared.views.CoreSeatView.{CoreSeatView}
use Rattle.queue_code.specs.Calls.{Planned}
use Rattle.executor_model.specs.declared.types.Event.{Event}
use Rattle.executor_model.specs.declared.types.Happening.{Happening}
use Rattle.executor_model.specs.declared.types.Happening.TheVariants as h
use Rattle.executor_model.specs.Histories.{HistoryEntry, happenings, is_call, cancels, was_cancelled, answer, is_end as stands_in}
use Rattle.executor_model.specs.Answers.{moment_after}
use Rattle.executor_model.specs.Flows.{happening_of, calls_before, CallComes, EventComes}
use Rattle.executor_core.specs.CoreView.{CoreView, workers_of}
use Rattle.worker_pool.specs.Applies.{SaysYes, calls_in, is_in_way, WereInWay}
use Rattle.worker_pool.specs.own.Steps.{SamePlan, OnlyOwnGrows, Noting, OnlyNoted, NotedFor, IsPassed, Passes, Completes, MovesOn, part_in, past_in}
use Rattle.worker_pool.proofs.Bools.{or_none, or_assoc, any_append}
use Rattle.worker_pool.proofs.Steps.{longer}

-- ---- the same plan

pub same_plan : (m : CoreView) → SamePlan m m
same_plan m = record { calls = refl; workers = refl; taken = refl; limit = refl }

pub same_then : (a b c : CoreView) → SamePlan a b → SamePlan b c → SamePlan a c
same_then a b c one two = record { calls = two.calls ∙ one.calls; workers = two.workers ∙ one.workers; taken = two.taken ∙ one.taken; limit = two.limit ∙ one.limit }

-- what is so of the calls and workers of one core is so of those of the other
pub for_same : (P : List Planned → ℕ → Type 0) (old new : CoreView) → SamePlan old new → P new.calls (workers_of new) → P old.calls (workers_of old)
for_same P old new same p = subst (λ c. P c (workers_of old)) same.calls (subst (P new.calls) same.workers p)

pub same_handles : (v : CoreSeatView) → OnlyOwnGrows v v
same_handles v = record { joined = refl; ranks = refl; out = refl; these = []; grows = refl }

pub handles_then : (a b c : CoreSeatView) → OnlyOwnGrows a b → OnlyOwnGrows b c → OnlyOwnGrows a c
handles_then a b c one two = record {
  joined = two.joined ∙ one.joined;
  ranks = two.ranks ∙ one.ranks;
  out = two.out ∙ one.out;
  these = two.these ++ one.these;
  grows = two.grows ∙ (ap (λ xs. two.these ++ xs) one.grows ∙ sym (append_assoc two.these one.these a.own));
}

-- a task that came to a list, if so, stands in front of it
pub in_front : (b : Bool) (k : ℕ) (xs : List ℕ) → and_if b k xs ≡ and_if b k [] ++ xs
in_front true k xs = refl
in_front false k xs = refl

-- ---- cancels that were noted

abbrev Yes : HistoryEntry → Type 0
Yes e = (k : ℕ) × SaysYes e k

pub none_noted : (past : List HistoryEntry) → Noting past past
none_noted past = record { noted = []; past = refl; each = All-nil Yes }

pub noting_then : (a b c : List HistoryEntry) → Noting a b → Noting b c → Noting a c
noting_then a b c one two = record {
  noted = two.noted ++ one.noted;
  past = two.past ∙ (ap (λ xs. two.noted ++ xs) one.past ∙ sym (append_assoc two.noted one.noted a));
  each = All-append Yes two.noted one.noted two.each one.each;
}

pub noted_then : (a b c : CoreView) (xs ys zs : List Happening) → OnlyNoted a b xs ys → OnlyNoted b c ys zs → OnlyNoted a c xs zs
noted_then a b c xs ys zs one two = record {
  same = same_then a b c one.same two.same;
  made = two.made ∙ one.made;
  moment = two.moment ∙ one.moment;
  counted = λ q. two.counted (one.counted q);
  sweeps = λ q. two.sweeps (one.sweeps q);
  noting = noting_then (past_in a xs) (past_in b ys) (past_in c zs) one.noting two.noting;
  room = omega (arith, one.room, two.room);
}

pub nothing_noted : (m : CoreView) (xs : List Happening) → OnlyNoted m m xs xs
nothing_noted m xs = record {
  same = same_plan m;
  made = refl;
  moment = refl;
  counted = λ q. q;
  sweeps = λ q. q;
  noting = none_noted (past_in m xs);
  room = omega arith;
}

-- a noted cancel is no call
no_call : (e : HistoryEntry) → Yes e → is_call e.happening ≡ false
no_call e said = ap is_call said.1.happening

no_calls : (noted : List HistoryEntry) → All Yes noted → calls_in noted ≡ []
no_calls [] all = refl
no_calls (e ∷ noted) all = ap (λ b. cond b (e ∷ calls_in noted) (calls_in noted)) (no_call e (All-head Yes e noted all)) ∙ no_calls noted (All-tail Yes e noted all)

-- ---- what stood in the way

-- what comes next behind what stands before these entries: the first call among them, or else this happening
abbrev next_of : Happening → List HistoryEntry → Happening
next_of y [] = y
next_of y (e ∷ entries) = next_of (cond (is_call e.happening) h.Call y) entries

next_call : (entries : List HistoryEntry) → next_of h.Call entries ≡ h.Call
next_call [] = refl
next_call (e ∷ entries) = ap (λ y. next_of y entries) (alike (is_call e.happening)) ∙ next_call entries
  where
    alike : (b : Bool) → cond b h.Call h.Call ≡ h.Call
    alike true = refl
    alike false = refl

-- where no call is among them
next_same : (y : Happening) (entries : List HistoryEntry) → happenings (calls_in entries) ≡ [] → next_of y entries ≡ y
next_same y [] none = refl
next_same y (e ∷ entries) none =
    let rest : happenings (calls_in entries) ≡ [] → next_of y entries ≡ y = λ q. next_same y entries q in
    let pick : (b : Bool) → happenings (cond b (e ∷ calls_in entries) (calls_in entries)) ≡ [] → next_of (cond b h.Call y) entries ≡ y = elim [
      | true ↦ λ q. let clash : e.happening ∷ happenings (calls_in entries) ≡ [] = q in absurd cc
      | false ↦ λ q. rest q
    ]
    in
    pick (is_call e.happening) none

-- some entries, and then others
way_both : (plan : List Planned) (workers : ℕ) (past : List HistoryEntry) (y : Happening) (xs ys : List HistoryEntry) → WereInWay plan workers (ys ++ past) y xs → WereInWay plan workers past (next_of y xs) ys → WereInWay plan workers past y (xs ++ ys)
way_both plan workers past y [] ys one two = two
way_both plan workers past y (e ∷ xs) ys one two = (
  λ k is. subst (λ p. is_in_way plan workers p y k ≡ true) (sym (append_assoc xs ys past)) (one.0 k is),
  way_both plan workers past (cond (is_call e.happening) h.Call y) xs ys one.1 two,
)

pub none_way : (plan : List Planned) (workers : ℕ) (past : List HistoryEntry) (y : Happening) → WereInWay plan workers past y (none_noted past).noted
unfolding none_noted
none_way plan workers past y = tt

pub none_for : (m : CoreView) (xs : List Happening) (y : Happening) → NotedFor m m xs xs y
unfolding nothing_noted
none_for m xs y = record { only = nothing_noted m xs; way = none_way m.calls (workers_of m) (past_in m xs) y }

pub noted_for_then : (a b c : CoreView) (xs ys zs : List Happening) (y : Happening) → NotedFor a b xs ys y → NotedFor b c ys zs y → NotedFor a c xs zs y
unfolding noted_then noting_then
noted_for_then a b c xs ys zs y one two =
    let before = one.only.noting.noted in
    let behind = two.only.noting.noted in
    let here = for_same (λ p n. WereInWay p n (past_in b ys) y behind) a b one.only.same two.way in
    record {
      only = noted_then a b c xs ys zs one.only two.only;
      way = way_both a.calls (workers_of a) (past_in a xs) y behind before (subst (λ p. WereInWay a.calls (workers_of a) p y behind) one.only.noting.past here)
          (subst (λ z. WereInWay a.calls (workers_of a) (past_in a xs) z before) (sym (next_same y behind (ap happenings (no_calls behind two.only.noting.each)))) one.way);
    }

-- ---- one happening that came

-- after noted cancels
pub takes_one : (plan calls : List Planned) (n workers : ℕ) (own new_own : List ℕ) (past mid new_past : List HistoryEntry) (y : Happening) → (noting : Noting past mid) → WereInWay plan n past y noting.noted → new_past ≡ longer calls workers mid y →
    ((k : ℕ) → stands_in k new_own ≡ (cancels k (answer calls workers mid y).answer (answer calls workers mid y).ends || stands_in k own)) → Completes plan n own new_own past new_past (y ∷ [])
takes_one plan calls n workers own new_own past mid new_past y noting way more grows =
    let r = answer calls workers mid y in
    let none = no_calls noting.noted noting.each in
    record {
      last = Rattle.executor_model.specs.Histories.entry_of y r;
      between = noting.noted;
      past = more ∙ ap (λ xs. Rattle.executor_model.specs.Histories.entry_of y r ∷ xs) noting.past;
      each = All-weaker Yes IsPassed (λ e said. inr said) noting.noted noting.each;
      way = way;
      part = ap (λ xs. y ∷ happenings xs) none;
      own = λ k. grows k ∙ ap (λ b. b || stands_in k own) (sym (ap (λ xs. cancels k r.answer r.ends || was_cancelled k xs) none ∙ or_none (cancels k r.answer r.ends)));
    }

-- ---- stretches, one behind the other

pub none_passed : (plan : List Planned) (n : ℕ) (y : Happening) (own : List ℕ) (past : List HistoryEntry) → Passes plan n y own own past past []
none_passed plan n y own past = record { between = []; past = refl; each = All-nil IsPassed; way = tt; calls = refl; own = λ k. refl }

-- noted cancels alone
pub noting_passes : (plan : List Planned) (n : ℕ) (y : Happening) (own new_own : List ℕ) (past new_past : List HistoryEntry) → new_own ≡ own → (noting : Noting past new_past) → WereInWay plan n past y noting.noted → Passes plan n y own new_own past new_past []
noting_passes plan n y own new_own past new_past same noting way =
    let none = no_calls noting.noted noting.each in
    record {
      between = noting.noted;
      past = noting.past;
      each = All-weaker Yes IsPassed (λ e said. inr said) noting.noted noting.each;
      way = way;
      calls = ap happenings none;
      own = λ k. ap (stands_in k) same ∙ ap (λ xs. was_cancelled k xs || stands_in k own) (sym none);
    }

-- a call is passed too, whatever comes next; in front of it that call comes next
call_passes : (plan : List Planned) (n : ℕ) (y : Happening) (own new_own : List ℕ) (past new_past : List HistoryEntry) → Completes plan n own new_own past new_past (h.Call ∷ []) →
    (passed : Passes plan n y own new_own past new_past (h.Call ∷ [])) × (next_of y passed.between ≡ h.Call)
call_passes plan n y own new_own past new_past took =
    let is : took.last.happening ≡ h.Call = ap (λ xs. slice_index_or xs 0 h.Call) took.part in
    let one : calls_in (took.last ∷ took.between) ≡ took.last ∷ calls_in took.between = ap (λ z. cond (is_call z) (took.last ∷ calls_in took.between) (calls_in took.between)) is in
    let next : cond (is_call took.last.happening) h.Call y ≡ h.Call = ap (λ z. cond (is_call z) h.Call y) is in (
      record {
        between = took.last ∷ took.between;
        past = took.past;
        each = All-cons IsPassed took.last took.between (inl (ap is_call is)) took.each;
        way = (
          λ k q. let clash : h.Call ≡ h.Cancel k = sym is ∙ q in absurd cc,
          subst (λ z. WereInWay plan n past z took.between) (is ∙ sym next) took.way,
        );
        calls = ap happenings one ∙ took.part;
        own = λ k. took.own k ∙ ap (λ xs. was_cancelled k xs || stands_in k own) (sym one);
      },
      ap (λ z. next_of z took.between) next ∙ next_call took.between,
    )

calls_both : (xs ys : List HistoryEntry) → calls_in (xs ++ ys) ≡ calls_in xs ++ calls_in ys
calls_both xs ys = filter-append (λ e. is_call e.happening) xs ys

calls_of_both : (xs ys : List HistoryEntry) → happenings (calls_in (xs ++ ys)) ≡ happenings (calls_in xs) ++ happenings (calls_in ys)
calls_of_both xs ys = ap happenings (calls_both xs ys) ∙ map-append (λ (e : HistoryEntry). e.happening) (calls_in xs) (calls_in ys)

cancelled_both : (k : ℕ) (xs ys : List HistoryEntry) → was_cancelled k (calls_in (xs ++ ys)) ≡ (was_cancelled k (calls_in xs) || was_cancelled k (calls_in ys))
cancelled_both k xs ys = ap (was_cancelled k) (calls_both xs ys) ∙ any_append (λ e. cancels k e.answer e.ends) (calls_in xs) (calls_in ys)

-- cancels were noted before a call, and then came what has that call in front
passes_then : (plan : List Planned) (n : ℕ) (y : Happening) (a b c : List ℕ) (p q r : List HistoryEntry) (one two : List Happening) → Passes plan n h.Call a b p q one → (second : Passes plan n y b c q r two) → next_of y second.between ≡ h.Call →
    Passes plan n y a c p r (two ++ one)
passes_then plan n y a b c p q r one two first second call = record {
  between = second.between ++ first.between;
  past = second.past ∙ (ap (λ xs. second.between ++ xs) first.past ∙ sym (append_assoc second.between first.between p));
  each = All-append IsPassed second.between first.between second.each first.each;
  way = way_both plan n p y second.between first.between (subst (λ x. WereInWay plan n x y second.between) first.past second.way) (subst (λ z. WereInWay plan n p z first.between) (sym call) first.way);
  calls = calls_of_both second.between first.between ∙ (λ i. second.calls i ++ first.calls i);
  own = λ k. second.own k ∙ (ap (λ x. was_cancelled k (calls_in second.between) || x) (first.own k)
      ∙ (or_assoc (was_cancelled k (calls_in second.between)) (was_cancelled k (calls_in first.between)) (stands_in k a)
      ∙ ap (λ x. x || stands_in k a) (sym (cancelled_both k second.between first.between))));
}

-- and then a happening came
pub passes_take : (plan : List Planned) (n : ℕ) (y : Happening) (a b c : List ℕ) (p q r : List HistoryEntry) (one : List Happening) → Passes plan n y a b p q one → Completes plan n b c q r (y ∷ []) → Completes plan n a c p r (y ∷ one)
passes_take plan n y a b c p q r one first second = record {
  last = second.last;
  between = second.between ++ first.between;
  past = second.past ∙ ap (λ xs. second.last ∷ xs) (ap (λ xs. second.between ++ xs) first.past ∙ sym (append_assoc second.between first.between p));
  each = All-append IsPassed second.between first.between second.each first.each;
  way = way_both plan n p second.last.happening second.between first.between (subst (λ x. WereInWay plan n x second.last.happening second.between) first.past second.way)
      (subst (λ z. WereInWay plan n p z first.between) (sym (next_same second.last.happening second.between (ap (drop 1) second.part) ∙ is)) first.way);
  part = ap (λ xs. second.last.happening ∷ xs) (calls_of_both second.between first.between ∙ ap (λ xs. happenings (calls_in second.between) ++ xs) first.calls) ∙ ap (λ xs. xs ++ one) second.part;
  own = λ k. second.own k ∙ (ap (λ x. was_cancelled k (second.last ∷ calls_in second.between) || x) (first.own k)
      ∙ (or_assoc (was_cancelled k (second.last ∷ calls_in second.between)) (was_cancelled k (calls_in first.between)) (stands_in k a)
      ∙ ap (λ x. x || stands_in k a) (joined k)));
}
  where
    is : second.last.happening ≡ y
    is = ap (λ xs. slice_index_or xs 0 y) second.part

    joined : (k : ℕ) → (was_cancelled k (second.last ∷ calls_in second.between) || was_cancelled k (calls_in first.between)) ≡ was_cancelled k (second.last ∷ calls_in (second.between ++ first.between))
    joined k = sym (or_assoc (cancels k second.last.answer second.last.ends) (was_cancelled k (calls_in second.between)) (was_cancelled k (calls_in first.between)))
        ∙ ap (λ x. cancels k second.last.answer second.last.ends || x) (sym (cancelled_both k second.between first.between))

-- a call was made after noted cancels
pub call_after : (old mid new : CoreView) (before happened : List Happening) → OnlyNoted old mid before happened → MovesOn mid new h.Call → MovesOn old new h.Call
call_after old mid new before happened noted on = record {
  made = on.made ∙ ap (λ k. Rattle.executor_model.specs.Histories.made_after k h.Call) noted.made;
  moment = on.moment ∙ (λ i. moment_after (noted.moment i) (slice_get (noted.same.calls i) (noted.made i)) h.Call);
}

-- ---- the part of an event

-- a call of it was made, once cancels were noted
pub part_call : (old mid new : CoreView) (event : Event) (part more : List Happening) → part ≡ part_in mid event ++ more → new.calls ≡ mid.calls → CallComes mid.calls mid.made mid.moment event → MovesOn mid new h.Call → part ≡ part_in new event ++ (h.Call ∷ more)
part_call old mid new event part more is calls comes on =
    is ∙ (ap (λ xs. xs ++ more) (comes.rest ∙ (λ i. Rattle.executor_model.specs.Flows.part_of (sym calls i) (sym on.made i) (sym on.moment i) event ++ h.Call ∷ [])) ∙ append_assoc (part_in new event) (h.Call ∷ []) more)

-- cancels alone were noted
pub part_same : (mid new : CoreView) (event : Event) → new.calls ≡ mid.calls → new.made ≡ mid.made → new.moment ≡ mid.moment → part_in mid event ≡ part_in new event
part_same mid new event calls made moment = λ i. Rattle.executor_model.specs.Flows.part_of (sym calls i) (sym made i) (sym moment i) event

-- the event is all that is left
pub part_last : (mid : CoreView) (event : Event) (part more : List Happening) → part ≡ part_in mid event ++ more → EventComes mid.calls mid.made mid.moment event → part ≡ (happening_of event ∷ []) ++ more
part_last mid event part more is comes = is ∙ ap (λ xs. xs ++ more) comes.alone

-- a call comes next, or the event itself, and not both
pub one_comes : (calls : List Planned) (made now : ℕ) (event : Event) → CallComes calls made now event → EventComes calls made now event → ⊥
one_comes calls made now event call last =
    let rest = replicate (calls_before calls (Rattle.executor_model.specs.Histories.made_after made h.Call) (moment_after now (slice_get calls made) h.Call) event) h.Call in
    let none : [] ≡ rest ++ h.Call ∷ [] = ap (drop 1) (sym last.alone ∙ call.rest) in
    let many = length-append rest (h.Call ∷ []) in
    let count = ap length none in
    omega (arith, many, count)

still_calls : (mid new : CoreView) (event : Event) → new.calls ≡ mid.calls → new.made ≡ mid.made → new.moment ≡ mid.moment → CallComes mid.calls mid.made mid.moment event → CallComes new.calls new.made new.moment event
still_calls mid new event calls made moment comes =
    subst (λ c. CallComes c new.made new.moment event) (sym calls) (subst (λ k. CallComes mid.calls k new.moment event) (sym made) (subst (λ t. CallComes mid.calls mid.made t event) (sym moment) comes))

-- calls were made and cancels were noted, the last ones before what comes next: the next call, where one comes, and else anything
abbrev pub PassesBefore : CoreView → CoreView → List ℕ → List ℕ → List Happening → List Happening → Event → List Happening → Type 0
PassesBefore old mid own mid_own xs ys event more =
    (y : Happening) → (CallComes mid.calls mid.made mid.moment event → y ≡ h.Call) → Passes old.calls (workers_of old) y own mid_own (past_in old xs) (past_in mid ys) more

-- a call was tried: it was made, or a cancel was noted
pub call_tried : (result : Bool) (old mid new : CoreView) (own mid_own new_own : List ℕ) (xs ys zs : List Happening) (event : Event) (more : List Happening) → SamePlan old mid →
    PassesBefore old mid own mid_own xs ys event more → part_in old event ≡ part_in mid event ++ more → CallComes mid.calls mid.made mid.moment event → new.calls ≡ mid.calls →
    (result ≡ true → Completes mid.calls (workers_of mid) mid_own new_own (past_in mid ys) (past_in new zs) (h.Call ∷ []) × MovesOn mid new h.Call) → (result ≡ false → NotedFor mid new ys zs h.Call × (new_own ≡ mid_own)) →
    (then : List Happening) × PassesBefore old new own new_own xs zs event then × (part_in old event ≡ part_in new event ++ then)
call_tried true old mid new own mid_own new_own xs ys zs event more same passed is comes calls done noted =
    let did = done refl in
    let call = for_same (λ p n. Completes p n mid_own new_own (past_in mid ys) (past_in new zs) (h.Call ∷ [])) old mid same did.0 in (
      h.Call ∷ more,
      λ y only.
          let then = call_passes old.calls (workers_of old) y mid_own new_own (past_in mid ys) (past_in new zs) call in
          passes_then old.calls (workers_of old) y own mid_own new_own (past_in old xs) (past_in mid ys) (past_in new zs) more (h.Call ∷ []) (passed h.Call (λ _. refl)) then.0 then.1,
      part_call old mid new event (part_in old event) more is calls comes did.1,
    )
call_tried false old mid new own mid_own new_own xs ys zs event more same passed is comes calls done noted =
    let did = noted refl in
    let only = did.0.only in
    let way = for_same (λ p n. WereInWay p n (past_in mid ys) h.Call only.noting.noted) old mid same did.0.way in
    let then = noting_passes old.calls (workers_of old) h.Call mid_own new_own (past_in mid ys) (past_in new zs) did.1 only.noting way in
    let all : Passes old.calls (workers_of old) h.Call own new_own (past_in old xs) (past_in new zs) more =
    passes_then old.calls (workers_of old) h.Call own mid_own new_own (past_in old xs) (past_in mid ys) (past_in new zs) more [] (passed h.Call (λ _. refl)) then (next_call then.between)
    in (
      more,
      λ y may. subst (λ z. Passes old.calls (workers_of old) z own new_own (past_in old xs) (past_in new zs) more) (sym (may (still_calls mid new event calls only.made only.moment comes))) all,
      is ∙ ap (λ hs. hs ++ more) (part_same mid new event calls only.made only.moment),
    )
