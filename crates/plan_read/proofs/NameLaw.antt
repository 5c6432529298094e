-- The names of a written plan are distinct.
use Rattle.std.proofs.Common.{◌≡◌, ℕ, ◌+◌, List, [], ◌∷◌, ◌++◌, length, None, Option, Some, bytes_eq, append_assoc, refl, inl, inr, arith}
use Rattle.std.proofs.lemmas.Bool.{cases_Bool}
use Rattle.std.proofs.lemmas.List.{append-nil}
use Rattle.toml.specs.Data.{Members}
use Rattle.plan_read.specs.declared.plans.Call.{Call}
use Rattle.plan_read.specs.declared.plans.Header.{Header}
use Rattle.plan_read.specs.declared.sites.Site.{Site}
use Rattle.plan_read.specs.declared.versions.Version.{Version}
use Rattle.plan_read.specs.Plans.{PlanTree, name_of, named, submissions_from, submissions_before, find, AreDistinct}
use Rattle.plan_read.specs.Writes.{IsNew, call_checks, TreeWrites, WritesCall, WritesCalls, WritesBlocks}
use Rattle.plan_read.proofs.Naming.{find-append, bytes_eq-symmetric, before-one_more, submissions_from-one_more}

distinct-added : (subs : List (List ℕ × Site)) (name : List ℕ) (s : Site) → AreDistinct subs → find name subs ≡ None → AreDistinct (subs ++ (name, s) ∷ [])
distinct-added [] name s d none = (refl, tt)
distinct-added (x ∷ subs) name s d none =
    elim (cases_Bool (bytes_eq name x.0)) [
      | inl t ↦ absurd (let e = rw t at none in cc)
      | inr f ↦ (rw (find-append x.0 subs ((name, s) ∷ []) d.0, bytes_eq-symmetric x.0 name, f) refl, distinct-added subs name s d.1 (rw f at none))
    ]

distinct-named : (subs : List (List ℕ × Site)) (name : Option (List ℕ)) (s : Site) → ((n : List ℕ) → name ≡ Some n → find n subs ≡ None) → AreDistinct subs → AreDistinct (subs ++ named s name)
distinct-named subs None s new d = rw (append-nil subs) d
distinct-named subs (Some name) s new d = distinct-added subs name s d (new name refl)

is_new : (version : Version) (earlier : PlanTree) (h : Header) (before : List Call) (ms : Members) (c : Call) → WritesCall version earlier h before ms c → IsNew (submissions_before earlier h before) c.op
unfolding call_checks
is_new version earlier h before ms c w = w.1.1.1.1.1.1.1.0

distinct-calls : (version : Version) (earlier : PlanTree) (h : Header) (before : List Call) (tables : List Members) (cs : List Call) → WritesCalls version earlier h before tables cs
    → AreDistinct (submissions_before earlier h before) → AreDistinct (submissions_before earlier h (before ++ cs))
distinct-calls version earlier h before [] [] w d = rw (append-nil before) d
distinct-calls version earlier h before [] (c ∷ cs) w d = absurd w
distinct-calls version earlier h before (ms ∷ tables) [] w d = absurd w
distinct-calls version earlier h before (ms ∷ tables) (c ∷ cs) w d =
    let one = distinct-named (submissions_before earlier h before) (name_of c.op) _ (is_new version earlier h before ms c w.0) d in
    rw (← append_assoc before (c ∷ []) cs) (distinct-calls version earlier h (before ++ c ∷ []) tables cs w.1 (rw (before-one_more earlier h before c) one))

distinct-blocks : (version : Version) (earlier : PlanTree) (tables : List Members) (bs : PlanTree) → WritesBlocks version earlier tables bs → AreDistinct (submissions_from 0 earlier) → AreDistinct (submissions_from 0 (earlier ++ bs))
distinct-blocks version earlier [] [] w d = rw (append-nil earlier) d
distinct-blocks version earlier [] (b ∷ bs) w d = absurd w
distinct-blocks version earlier (ms ∷ tables) [] w d = absurd w
distinct-blocks version earlier (ms ∷ tables) (b ∷ bs) w d =
    let start : AreDistinct (submissions_before earlier b.header []) = rw (append-nil (submissions_from 0 earlier)) d in
    let calls = distinct-calls version earlier b.header [] w.0.tables b.calls w.0.calls start in
    let e : 0 + length earlier ≡ length earlier = omega arith in
    rw (← append_assoc earlier (b ∷ []) bs) (distinct-blocks version (earlier ++ b ∷ []) tables bs w.1 (rw (submissions_from-one_more 0 earlier b, e) calls))

-- the law that two submissions of a plan have different names
pub names_distinct : (ms : Members) (plan : PlanTree) → TreeWrites ms plan → AreDistinct (submissions_from 0 plan)
names_distinct ms plan w = distinct-blocks w.0 [] w.1.tables plan w.1.blocks tt
