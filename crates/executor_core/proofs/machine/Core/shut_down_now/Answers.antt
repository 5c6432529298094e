-- The next call shuts the executor down at once, and sweeps.
use Rattle.std.proofs.Common.{◌≡◌, ℕ, ◌+◌, ◌≤◌, ◌++◌, ◌∷◌, [], Some, vec_capacity, sym, ap, ◌∙◌, arith, subst}
use Rattle.std.specs.Prelude.{slice_get, vec_len}
use Rattle.queue_code.specs.declared.call.CodeCall.TheVariants as call
use Rattle.executor_model.specs.declared.types.Answer.TheVariants as a
use Rattle.executor_model.specs.declared.types.Happening.TheVariants as h
use Rattle.executor_model.specs.declared.types.Line.{Line}
use Rattle.executor_core.specs.CoreView.{CoreView, Steps, room_of}
use Rattle.executor_core.specs.own.Invariants.{core_of}
use Rattle.executor_core.proofs.NextCalls.{next_call}
use Rattle.executor_core.proofs.Sweeping.{stop_sweeping, sweep_few, sweep_within, sweep_sought, sweeping_core, sweeping_room}
use Rattle.executor_core.proofs.machine.Core.shut_down_now.Goals as goal

pub stop_at-requires-clause-limit : goal.stop_at-requires-clause-limit
stop_at-requires-clause-limit g c =
    let m = c.self.inside in
    let f = c.self.invariant in
    let at = c.pass-at.result in
    let there : slice_get m.calls.items m.calls.made ≡ Some (c.requires.call.0, call.ShutdownNow) = ap (λ (x : CoreView). slice_get x.calls x.made) c.self.view_is ∙ c.requires.call.1 in
    let is : slice_get m.calls.items m.calls.made ≡ Some (at, call.ShutdownNow) = there ∙ ap (λ (n : ℕ). Some (n, call.ShutdownNow)) (sym (c.pass-at.ensures.moment (c.requires.call.0, call.ShutdownNow) there)) in
    let n = next_call m.calls.items m.limit m.taken m.calls.made m.table m.sought at (call.ShutdownNow) f is in
    n.limit

pub sweep-self-inside-requires-clause-few : goal.sweep-self-inside-requires-clause-few
sweep-self-inside-requires-clause-few g c =
    let m = c.self.inside in
    let f = c.self.invariant in
    let at = c.pass-at.result in
    let there : slice_get m.calls.items m.calls.made ≡ Some (c.requires.call.0, call.ShutdownNow) = ap (λ (x : CoreView). slice_get x.calls x.made) c.self.view_is ∙ c.requires.call.1 in
    let is : slice_get m.calls.items m.calls.made ≡ Some (at, call.ShutdownNow) = there ∙ ap (λ (n : ℕ). Some (n, call.ShutdownNow)) (sym (c.pass-at.ensures.moment (c.requires.call.0, call.ShutdownNow) there)) in
    let n = next_call m.calls.items m.limit m.taken m.calls.made m.table m.sought at (call.ShutdownNow) f is in
    let mid = c.drop_kept.new.table in
    let set = c.stop_at.new.self in
    let s = stop_sweeping m.calls.items m.limit m.taken m.calls.made m.table mid set m.sought at f n c.drop_kept.ensures.unkept c.drop_kept.ensures.steps c.drop_kept.ensures.none c.stop_at.ensures in
    sweep_few m.calls.items m.limit m.taken m.calls.made m.table mid set m.sought at f s.by

pub sweep-self-inside-requires-clause-room : goal.sweep-self-inside-requires-clause-room
sweep-self-inside-requires-clause-room g c =
    let m = c.self.inside in
    let f = c.self.invariant in
    let at = c.pass-at.result in
    let there : slice_get m.calls.items m.calls.made ≡ Some (c.requires.call.0, call.ShutdownNow) = ap (λ (x : CoreView). slice_get x.calls x.made) c.self.view_is ∙ c.requires.call.1 in
    let is : slice_get m.calls.items m.calls.made ≡ Some (at, call.ShutdownNow) = there ∙ ap (λ (n : ℕ). Some (n, call.ShutdownNow)) (sym (c.pass-at.ensures.moment (c.requires.call.0, call.ShutdownNow) there)) in
    let n = next_call m.calls.items m.limit m.taken m.calls.made m.table m.sought at (call.ShutdownNow) f is in
    let mid = c.drop_kept.new.table in
    let set = c.stop_at.new.self in
    let s = stop_sweeping m.calls.items m.limit m.taken m.calls.made m.table mid set m.sought at f n c.drop_kept.ensures.unkept c.drop_kept.ensures.steps c.drop_kept.ensures.none c.stop_at.ensures in
    omega (
      arith,
      c.push_reserved.ensures.capacity,
      sweep_within m.calls.items m.limit m.taken m.calls.made m.table mid set at (vec_len c.args.out.now) (vec_len c.push_reserved.new.self) (vec_capacity c.args.out.now) s.by (omega (arith, c.requires.room, ap room_of c.self.view_is)) c.push_reserved.ensures.len,
    )

pub sweep-self-inside-requires-clause-sought : goal.sweep-self-inside-requires-clause-sought
sweep-self-inside-requires-clause-sought g c =
    let m = c.self.inside in
    let f = c.self.invariant in
    let at = c.pass-at.result in
    let there : slice_get m.calls.items m.calls.made ≡ Some (c.requires.call.0, call.ShutdownNow) = ap (λ (x : CoreView). slice_get x.calls x.made) c.self.view_is ∙ c.requires.call.1 in
    let is : slice_get m.calls.items m.calls.made ≡ Some (at, call.ShutdownNow) = there ∙ ap (λ (n : ℕ). Some (n, call.ShutdownNow)) (sym (c.pass-at.ensures.moment (c.requires.call.0, call.ShutdownNow) there)) in
    let n = next_call m.calls.items m.limit m.taken m.calls.made m.table m.sought at (call.ShutdownNow) f is in
    let mid = c.drop_kept.new.table in
    let set = c.stop_at.new.self in
    let s = stop_sweeping m.calls.items m.limit m.taken m.calls.made m.table mid set m.sought at f n c.drop_kept.ensures.unkept c.drop_kept.ensures.steps c.drop_kept.ensures.none c.stop_at.ensures in
    λ q. sweep_sought m.calls.items m.limit m.taken m.calls.made m.table mid set m.sought at f s.by n.ahead q

pub invariant_of-self : goal.invariant_of-self
invariant_of-self g c =
    let m = c.self.inside in
    let f = c.self.invariant in
    let at = c.pass-at.result in
    let there : slice_get m.calls.items m.calls.made ≡ Some (c.requires.call.0, call.ShutdownNow) = ap (λ (x : CoreView). slice_get x.calls x.made) c.self.view_is ∙ c.requires.call.1 in
    let is : slice_get m.calls.items m.calls.made ≡ Some (at, call.ShutdownNow) = there ∙ ap (λ (n : ℕ). Some (n, call.ShutdownNow)) (sym (c.pass-at.ensures.moment (c.requires.call.0, call.ShutdownNow) there)) in
    let n = next_call m.calls.items m.limit m.taken m.calls.made m.table m.sought at (call.ShutdownNow) f is in
    let mid = c.drop_kept.new.table in
    let set = c.stop_at.new.self in
    let s = stop_sweeping m.calls.items m.limit m.taken m.calls.made m.table mid set m.sought at f n c.drop_kept.ensures.unkept c.drop_kept.ensures.steps c.drop_kept.ensures.none c.stop_at.ensures in
    let did = sweeping_core m.calls.items m.limit m.taken m.calls.made m.table mid set c.sweep-self-inside.new.table m.sought c.sweep-self-inside.result at (call.ShutdownNow) a.ShutdownNow c.args.out.now.items c.push_reserved.new.self.items c.sweep-self-inside.new.out.items f n s
    c.sweep-self-inside.ensures.swept (c.push_reserved.ensures.items ∙ ap (λ (l : Line). c.args.out.now.items ++ l ∷ []) c.new.ensures) c.sweep-self-inside.ensures.lines c.sweep-self-inside.ensures.sought
    in
    rw c.pass-at.ensures.passed (did.1)

pub returns-clause-steps : goal.returns-clause-steps
returns-clause-steps g c =
    let m = c.self.inside in
    let f = c.self.invariant in
    let at = c.pass-at.result in
    let there : slice_get m.calls.items m.calls.made ≡ Some (c.requires.call.0, call.ShutdownNow) = ap (λ (x : CoreView). slice_get x.calls x.made) c.self.view_is ∙ c.requires.call.1 in
    let is : slice_get m.calls.items m.calls.made ≡ Some (at, call.ShutdownNow) = there ∙ ap (λ (n : ℕ). Some (n, call.ShutdownNow)) (sym (c.pass-at.ensures.moment (c.requires.call.0, call.ShutdownNow) there)) in
    let n = next_call m.calls.items m.limit m.taken m.calls.made m.table m.sought at (call.ShutdownNow) f is in
    let mid = c.drop_kept.new.table in
    let set = c.stop_at.new.self in
    let s = stop_sweeping m.calls.items m.limit m.taken m.calls.made m.table mid set m.sought at f n c.drop_kept.ensures.unkept c.drop_kept.ensures.steps c.drop_kept.ensures.none c.stop_at.ensures in
    let did = sweeping_core m.calls.items m.limit m.taken m.calls.made m.table mid set c.sweep-self-inside.new.table m.sought c.sweep-self-inside.result at (call.ShutdownNow) a.ShutdownNow c.args.out.now.items c.push_reserved.new.self.items c.sweep-self-inside.new.out.items f n s
    c.sweep-self-inside.ensures.swept (c.push_reserved.ensures.items ∙ ap (λ (l : Line). c.args.out.now.items ++ l ∷ []) c.new.ensures) c.sweep-self-inside.ensures.lines c.sweep-self-inside.ensures.sought
    in
    rw c.pass-at.ensures.passed (subst (λ (x : CoreView). Steps x (core_of m.calls.items m.limit m.taken (m.calls.made + 1) c.sweep-self-inside.new.table) c.args.out.now.items c.sweep-self-inside.new.out.items (h.Call ∷ [])) c.self.view_is did.0)

pub returns-clause-room : goal.returns-clause-room
returns-clause-room g c =
    let m = c.self.inside in
    let f = c.self.invariant in
    let at = c.pass-at.result in
    let there : slice_get m.calls.items m.calls.made ≡ Some (c.requires.call.0, call.ShutdownNow) = ap (λ (x : CoreView). slice_get x.calls x.made) c.self.view_is ∙ c.requires.call.1 in
    let is : slice_get m.calls.items m.calls.made ≡ Some (at, call.ShutdownNow) = there ∙ ap (λ (n : ℕ). Some (n, call.ShutdownNow)) (sym (c.pass-at.ensures.moment (c.requires.call.0, call.ShutdownNow) there)) in
    let n = next_call m.calls.items m.limit m.taken m.calls.made m.table m.sought at (call.ShutdownNow) f is in
    let mid = c.drop_kept.new.table in
    let set = c.stop_at.new.self in
    let s = stop_sweeping m.calls.items m.limit m.taken m.calls.made m.table mid set m.sought at f n c.drop_kept.ensures.unkept c.drop_kept.ensures.steps c.drop_kept.ensures.none c.stop_at.ensures in
    rw c.pass-at.ensures.passed (subst (λ (x : CoreView). vec_len c.sweep-self-inside.new.out + room_of (core_of m.calls.items m.limit m.taken (m.calls.made + 1) c.sweep-self-inside.new.table) ≤ vec_len c.args.out.now + room_of x) c.self.view_is
    (sweeping_room m.calls.items m.limit m.taken m.calls.made m.table mid set c.sweep-self-inside.new.table at (vec_len c.args.out.now) (vec_len c.push_reserved.new.self) (vec_len c.sweep-self-inside.new.out) s.by n.within c.sweep-self-inside.ensures.swept c.push_reserved.ensures.len c.sweep-self-inside.ensures.room))
