-- The submissions before a call, and one more.
use Rattle.std.proofs.Common.{subst, ◌≡◌, ℕ, ◌+◌, true, false, List, [], ◌∷◌, ◌++◌, length, Option, Some, None, is_some, Result, Ok, Err, IfOk, OnOk, ◌&&◌, bytes_eq, if◌then◌else◌, append_assoc, refl, sym, ◌∙◌, ap, inl, inr, arith}
use Rattle.std.proofs.lemmas.Bool.{cases_Bool}
use Rattle.std.proofs.lemmas.List.{append-nil}
use Rattle.std.proofs.lemmas.Slice.Eq.{bytes_eq-Decides}
use Rattle.std.specs.Borrow.{Bor}
use Rattle.std.specs.BTreeMap.{BTreeMap}
use Rattle.toml.specs.Data.{Members}
use Rattle.plan_read.specs.declared.units.Units.{Units}
use Rattle.plan_read.specs.declared.versions.Version.{Version}
use Rattle.plan_read.specs.declared.faults.Place.{Place}
use Rattle.plan_read.specs.declared.faults.ReadError.{ReadError}
use Rattle.plan_read.specs.declared.plans.Call.{Call}
use Rattle.plan_read.specs.declared.plans.Header.{Header}
use Rattle.plan_read.specs.declared.sites.Site.{Site}
use Rattle.plan_read.specs.declared.verbs.Verb.{Verb}
use Rattle.plan_read.specs.declared.verbs.Verb.TheVariants as verbs
use Rattle.plan_read.specs.own.Walk.{place_fault, call_tests, verb_tests, key_tests, new_name_tests, name_tests, time_tests}
use Rattle.plan_read.specs.Plans.{BlockTree, PlanTree, name_of, is_submission, tasks_after, tasks_after_calls, named, site, submissions_of, submissions_from, submissions_before, find}
use Rattle.plan_read.specs.own.Reads.{found_in, Knows, Reads}
use Rattle.plan_read.specs.own.Values.{verb_at, op_of, written_call, name_at, units_in}
use Rattle.plan_read.specs.own.Values.{submits}
use Rattle.plan_read.proofs.Failing.{all_pass, parts}

-- ---- finding a name

bytes_eq-equal : (xs ys : List ℕ) → bytes_eq xs ys ≡ true → xs ≡ ys
bytes_eq-equal xs ys h = (bytes_eq-Decides xs ys).0 h

-- names compare alike both ways
pub bytes_eq-symmetric : (xs ys : List ℕ) → bytes_eq xs ys ≡ bytes_eq ys xs
bytes_eq-symmetric xs ys =
    elim (cases_Bool (bytes_eq xs ys)) [
      | inl t ↦ t ∙ sym ((bytes_eq-Decides ys xs).1 (sym ((bytes_eq-Decides xs ys).0 t)))
      | inr f ↦ elim (cases_Bool (bytes_eq ys xs)) [ inl u ↦ absurd (let e = (bytes_eq-Decides xs ys).1 (sym ((bytes_eq-Decides ys xs).0 u)) in cc) | inr u ↦ f ∙ sym u ]
    ]

-- a name that is not among some submissions is looked for behind them
pub find-append : (q : List ℕ) (xs ys : List (List ℕ × Site)) → find q xs ≡ None → find q (xs ++ ys) ≡ find q ys
find-append q [] ys h = refl
find-append q (x ∷ xs) ys h = elim (cases_Bool (bytes_eq q x.0)) [ inl t ↦ absurd (let e = rw t at h in cc) | inr f ↦ rw f (find-append q xs ys (rw f at h)) ]

-- a new name is found as what was added, and every other name as before
pub find-added : (q name : List ℕ) (s : Site) (subs : List (List ℕ × Site)) → find name subs ≡ None
    → find q (subs ++ (name, s) ∷ []) ≡ (if bytes_eq name q then Some s else find q subs)
find-added q name s [] h = rw (bytes_eq-symmetric q name) refl
find-added q name s (x ∷ subs) h =
    elim (cases_Bool (bytes_eq q x.0)) [
      | inl t ↦ (
          let apart : bytes_eq name q ≡ false = elim (cases_Bool (bytes_eq name q)) [ inl u ↦ absurd (let e = rw (bytes_eq-equal name q u, t) at h in cc) | inr u ↦ u ] in
          rw (t, apart) refl)
      | inr f ↦ rw f (find-added q name s subs (elim (cases_Bool (bytes_eq name x.0)) [ inl u ↦ absurd (let e = rw u at h in cc) | inr u ↦ rw u at h ]))
    ]

-- ---- one more call

-- the number of submissions after one more call
pub tasks_after-one_more : (n : ℕ) (cs : List Call) (c : Call) → tasks_after_calls n (cs ++ c ∷ []) ≡ tasks_after (tasks_after_calls n cs) c.op
tasks_after-one_more n [] c = refl
tasks_after-one_more n (d ∷ cs) c = tasks_after-one_more (tasks_after n d.op) cs c

-- the submissions of a block after one more call
pub submissions_of-one_more : (block : ℕ) (h : Header) (sub : ℕ) (cs : List Call) (c : Call)
    → submissions_of block h sub (cs ++ c ∷ []) ≡ submissions_of block h sub cs ++ named (site block h (tasks_after_calls sub cs)) (name_of c.op)
submissions_of-one_more block h sub [] c = append-nil (named (site block h sub) (name_of c.op))
submissions_of-one_more block h sub (d ∷ cs) c = rw (submissions_of-one_more block h (tasks_after sub d.op) cs c, append_assoc) refl

-- the submissions before the call after `cs`
pub before-one_more : (earlier : PlanTree) (h : Header) (cs : List Call) (c : Call)
    → submissions_before earlier h (cs ++ c ∷ []) ≡ submissions_before earlier h cs ++ named (site (length earlier) h (tasks_after_calls 0 cs)) (name_of c.op)
before-one_more earlier h cs c = rw (submissions_of-one_more (length earlier) h 0 cs c, append_assoc) refl

-- after a call that submits a new name
named-one_more : (earlier : PlanTree) (h : Header) (cs : List Call) (c : Call) (name q : List ℕ) → name_of c.op ≡ Some name → find name (submissions_before earlier h cs) ≡ None
    → find q (submissions_before earlier h (cs ++ c ∷ []))
    ≡ (if bytes_eq name q then Some (site (length earlier) h (tasks_after_calls 0 cs)) else find q (submissions_before earlier h cs))
named-one_more earlier h cs c name q e fresh = rw (before-one_more earlier h cs c, e) (find-added q name _ _ fresh)

is_none : (n : Option (List ℕ)) → is_some n ≡ false → n ≡ None
is_none None h = refl
is_none (Some x) h = absurd (cc)

-- after a call that submits nothing
unnamed-one_more : (earlier : PlanTree) (h : Header) (cs : List Call) (c : Call) (q : List ℕ) → is_submission c.op ≡ false
    → find q (submissions_before earlier h (cs ++ c ∷ [])) ≡ find q (submissions_before earlier h cs)
unnamed-one_more earlier h cs c q e = rw (before-one_more earlier h cs c, is_none (name_of c.op) e, append-nil) refl

-- ---- an accepted call that submits has a new name

fresh_name : (p : Place) (found : Option Site) (ms : Members) → place_fault p (new_name_tests found ms) ≡ None → found ≡ None
fresh_name p None ms h = refl
fresh_name p (Some x) ms h = absurd (let e = (all_pass p (new_name_tests (Some x) ms) h).1.0 in cc)

fresh_by_verb : (p : Place) (verb : Verb) (found : Option Site) (block : ℕ) (units : Units) (ms : Members) → place_fault p (name_tests verb found block ms) ≡ None
    → is_some (name_of (op_of verb found units ms)) ≡ true → (name_of (op_of verb found units ms) ≡ Some (name_at ms)) × (found ≡ None)
unfolding name_tests op_of
fresh_by_verb p verbs.Schedule found block unit ms h s = (refl, fresh_name p found ms h)
fresh_by_verb p verbs.Execute found block unit ms h s = (refl, fresh_name p found ms h)
fresh_by_verb p verbs.Rate found block unit ms h s = (refl, fresh_name p found ms h)
fresh_by_verb p verbs.Fixed found block unit ms h s = (refl, fresh_name p found ms h)
fresh_by_verb p verb found block unit ms h s = absurd (cc)

-- an accepted call that submits has a new name
pub fresh : (p : Place) (version : Version) (found : Option Site) (block : ℕ) (h : Header) (last : ℕ) (ms : Members) (c : Call) → place_fault p (call_tests version found block h last ms) ≡ None
    → c ≡ written_call version found h ms → is_submission c.op ≡ true → (name_of c.op ≡ Some (name_at ms)) × (found ≡ None)
fresh p version found block h last ms c passed is s =
    let a = parts p (verb_tests ms ++ key_tests version (verb_at ms) ms ++ name_tests (verb_at ms) found block ms) (time_tests (verb_at ms) (units_in version h.unit ms) h last ms) passed in
    let b = parts p (verb_tests ms ++ key_tests version (verb_at ms) ms) (name_tests (verb_at ms) found block ms) a.0 in
    let r = fresh_by_verb p (verb_at ms) found block (units_in version h.unit ms) ms b.1 (subst (λ (k : Call). is_some (name_of k.op) ≡ true) is s) in
    (subst (λ (k : Call). name_of k.op ≡ Some (name_at ms)) (sym is) r.0, r.1)

-- ---- the map of names

-- after a call that submits
pub knows-named : (names new : BTreeMap (Bor (List ℕ)) Site) (earlier : PlanTree) (h : Header) (cs : List Call) (c : Call) (name : List ℕ) (s : Site)
    → Knows names (submissions_before earlier h cs) → name_of c.op ≡ Some name → find name (submissions_before earlier h cs) ≡ None
    → s ≡ site (length earlier) h (tasks_after_calls 0 cs)
    → ((q : List ℕ) → found_in new q ≡ (if bytes_eq name q then Some s else found_in names q))
    → Knows new (submissions_before earlier h (cs ++ c ∷ []))
knows-named names new earlier h cs c name s known e none is added q = rw (added q, known q, is) (sym (named-one_more earlier h cs c name q e none))

-- after a call that submits nothing
pub knows-unnamed : (names : BTreeMap (Bor (List ℕ)) Site) (earlier : PlanTree) (h : Header) (cs : List Call) (c : Call)
    → Knows names (submissions_before earlier h cs) → is_submission c.op ≡ false → Knows names (submissions_before earlier h (cs ++ c ∷ []))
knows-unnamed names earlier h cs c known e q = known q ∙ sym (unnamed-one_more earlier h cs c q e)

submits-op : (verb : Verb) (found : Option Site) (units : Units) (ms : Members) → is_submission (op_of verb found units ms) ≡ submits verb
unfolding op_of
submits-op verbs.Schedule found unit ms = refl
submits-op verb found unit ms = refl

-- after a call that was read, whose name was added where it submits
pub knows-read : (names new : BTreeMap (Bor (List ℕ)) Site) (earlier : PlanTree) (h : Header) (cs : List Call) (s : Site) (found : Option Site) (p : Place) (version : Version) (last : ℕ) (ms : Members) (r : Result Call ReadError)
    → Knows names (submissions_before earlier h cs) → found ≡ find (name_at ms) (submissions_before earlier h cs) → s ≡ site (length earlier) h (tasks_after_calls 0 cs)
    → OnOk r ((q : List ℕ) → found_in new q ≡ (if submits (verb_at ms) && bytes_eq (name_at ms) q then Some s else found_in names q))
    → Reads (λ (c : Call). c) r (place_fault p (call_tests version found (length earlier) h last ms)) (written_call version found h ms)
    → IfOk r (λ c. Knows new (submissions_before earlier h (cs ++ c ∷ [])))
knows-read names new earlier h cs s found p version last ms (Err e) known is place added reads = tt
knows-read names new earlier h cs s found p version last ms (Ok c) known is place added reads =
    let op : is_submission c.op ≡ submits (verb_at ms) = subst (λ (k : Call). is_submission k.op ≡ submits (verb_at ms)) (sym reads.1) (submits-op (verb_at ms) found (units_in version h.unit ms) ms) in
    elim (cases_Bool (submits (verb_at ms))) [
      | inl t ↦ (
          let n = fresh p version found (length earlier) h last ms c reads.0 reads.1 (op ∙ t) in
          knows-named names new earlier h cs c (name_at ms) s known n.0 (sym is ∙ n.1) place (λ q. rw t at (added q)))
      | inr f ↦ (
          let same : Knows names (submissions_before earlier h (cs ++ c ∷ [])) = knows-unnamed names earlier h cs c known (op ∙ f) in
          λ q. (rw f at (added q)) ∙ same q)
    ]

-- a block's submissions are those before the next block
pub submissions_from-one_more : (block : ℕ) (bs : PlanTree) (b : BlockTree)
    → submissions_from block (bs ++ b ∷ []) ≡ submissions_from block bs ++ submissions_of (block + length bs) b.header 0 b.calls
submissions_from-one_more block [] b = let e : block + 0 ≡ block = omega arith in rw (append-nil, e) refl
submissions_from-one_more block (d ∷ bs) b =
    let e : block + 1 + length bs ≡ block + length (d ∷ bs) = omega arith in
    rw (submissions_from-one_more (block + 1) bs b, e, append_assoc) refl

-- after a block
pub knows-block : (names : BTreeMap (Bor (List ℕ)) Site) (earlier : PlanTree) (h : Header) (cs : List Call) → Knows names (submissions_before earlier h cs)
    → Knows names (submissions_from 0 (earlier ++ record { header = h; calls = cs } ∷ []))
knows-block names earlier h cs known q =
    let e : 0 + length earlier ≡ length earlier = omega arith in
    known q ∙ ap (find q) (sym (submissions_from-one_more 0 earlier (record { header = h; calls = cs }) ∙ ap (λ (k : ℕ). submissions_from 0 earlier ++ submissions_of k h 0 cs) e))

-- before the first call of a block
pub knows-start : (names : BTreeMap (Bor (List ℕ)) Site) (earlier : PlanTree) (h : Header) → Knows names (submissions_from 0 earlier) → Knows names (submissions_before earlier h [])
knows-start names earlier h known q = known q ∙ ap (find q) (sym (append-nil (submissions_from 0 earlier)))
