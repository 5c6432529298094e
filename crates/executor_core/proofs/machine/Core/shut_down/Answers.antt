-- The next call shuts the executor down, and sweeps, or finds it shut.
use Rattle.std.proofs.Common.{◌≡◌, ℕ, ◌+◌, ◌≤◌, ◌++◌, ◌∷◌, [], Some, vec_capacity, sym, ap, ◌∙◌, arith, subst}
use Rattle.std.specs.Prelude.{slice_get, vec_len}
use Rattle.queue_code.specs.declared.call.CodeCall.TheVariants as call
use Rattle.executor_model.specs.declared.types.Answer.TheVariants as a
use Rattle.executor_model.specs.declared.types.Happening.TheVariants as h
use Rattle.executor_model.specs.declared.types.Line.{Line}
use Rattle.executor_model.specs.Answers.{bare}
use Rattle.task_table.specs.Tables.{TableView, CallSteps}
use Rattle.executor_core.specs.CoreView.{CoreView, Steps, room_of}
use Rattle.executor_core.specs.own.Invariants.{core_of}
use Rattle.executor_core.proofs.NextCalls.{next_call}
use Rattle.executor_core.proofs.Sweeping.{shutdown_sweeping, sweep_few, sweep_within, sweep_sought, sweeping_core, sweeping_room, settled_stays, settled_steps, settled_room}
use Rattle.task_table.proofs.Policies.{shutdown_again}
use Rattle.executor_core.proofs.machine.Core.shut_down.Goals as goal

pub pass-requires-clause-limit : goal.pass-requires-clause-limit
pass-requires-clause-limit g c =
    let m = c.self.inside in
    let f = c.self.invariant in
    let at = c.pass-at.result in
    let there : slice_get m.calls.items m.calls.made ≡ Some (c.requires.call.0, call.Shutdown) = ap (λ (x : CoreView). slice_get x.calls x.made) c.self.view_is ∙ c.requires.call.1 in
    let is : slice_get m.calls.items m.calls.made ≡ Some (at, call.Shutdown) = there ∙ ap (λ (n : ℕ). Some (n, call.Shutdown)) (sym (c.pass-at.ensures.moment (c.requires.call.0, call.Shutdown) there)) in
    let n = next_call m.calls.items m.limit m.taken m.calls.made m.table m.sought at (call.Shutdown) f is in
    n.limit

pub shut_at-requires-clause-limit : goal.shut_at-requires-clause-limit
shut_at-requires-clause-limit g c =
    let m = c.self.inside in
    let f = c.self.invariant in
    let at = c.pass-at.result in
    let there : slice_get m.calls.items m.calls.made ≡ Some (c.requires.call.0, call.Shutdown) = ap (λ (x : CoreView). slice_get x.calls x.made) c.self.view_is ∙ c.requires.call.1 in
    let is : slice_get m.calls.items m.calls.made ≡ Some (at, call.Shutdown) = there ∙ ap (λ (n : ℕ). Some (n, call.Shutdown)) (sym (c.pass-at.ensures.moment (c.requires.call.0, call.Shutdown) there)) in
    let n = next_call m.calls.items m.limit m.taken m.calls.made m.table m.sought at (call.Shutdown) f is in
    n.limit

pub sweep-self-inside-requires-clause-few : goal.sweep-self-inside-requires-clause-few
sweep-self-inside-requires-clause-few g c =
    let m = c.self.inside in
    let f = c.self.invariant in
    let at = c.pass-at.result in
    let there : slice_get m.calls.items m.calls.made ≡ Some (c.requires.call.0, call.Shutdown) = ap (λ (x : CoreView). slice_get x.calls x.made) c.self.view_is ∙ c.requires.call.1 in
    let is : slice_get m.calls.items m.calls.made ≡ Some (at, call.Shutdown) = there ∙ ap (λ (n : ℕ). Some (n, call.Shutdown)) (sym (c.pass-at.ensures.moment (c.requires.call.0, call.Shutdown) there)) in
    let n = next_call m.calls.items m.limit m.taken m.calls.made m.table m.sought at (call.Shutdown) f is in
    let mid = c.drop_kept.new.table in
    let set = c.shut_at.new.self in
    let s = shutdown_sweeping m.calls.items m.limit m.taken m.calls.made m.table mid set m.sought at f n (sym c.is_shut.ensures ∙ c.if-is_shut.false) c.drop_kept.ensures.unkept c.drop_kept.ensures.steps c.drop_kept.ensures.none c.shut_at.ensures in
    sweep_few m.calls.items m.limit m.taken m.calls.made m.table mid set m.sought at f s.by

pub sweep-self-inside-requires-clause-room : goal.sweep-self-inside-requires-clause-room
sweep-self-inside-requires-clause-room g c =
    let m = c.self.inside in
    let f = c.self.invariant in
    let at = c.pass-at.result in
    let there : slice_get m.calls.items m.calls.made ≡ Some (c.requires.call.0, call.Shutdown) = ap (λ (x : CoreView). slice_get x.calls x.made) c.self.view_is ∙ c.requires.call.1 in
    let is : slice_get m.calls.items m.calls.made ≡ Some (at, call.Shutdown) = there ∙ ap (λ (n : ℕ). Some (n, call.Shutdown)) (sym (c.pass-at.ensures.moment (c.requires.call.0, call.Shutdown) there)) in
    let n = next_call m.calls.items m.limit m.taken m.calls.made m.table m.sought at (call.Shutdown) f is in
    let mid = c.drop_kept.new.table in
    let set = c.shut_at.new.self in
    let s = shutdown_sweeping m.calls.items m.limit m.taken m.calls.made m.table mid set m.sought at f n (sym c.is_shut.ensures ∙ c.if-is_shut.false) c.drop_kept.ensures.unkept c.drop_kept.ensures.steps c.drop_kept.ensures.none c.shut_at.ensures in
    omega (
      arith,
      c.push_reserved-2.ensures.capacity,
      sweep_within m.calls.items m.limit m.taken m.calls.made m.table mid set at (vec_len c.args.out.now) (vec_len c.push_reserved-2.new.self) (vec_capacity c.args.out.now) s.by (omega (arith, c.requires.room, ap room_of c.self.view_is)) c.push_reserved-2.ensures.len,
    )

pub sweep-self-inside-requires-clause-sought : goal.sweep-self-inside-requires-clause-sought
sweep-self-inside-requires-clause-sought g c =
    let m = c.self.inside in
    let f = c.self.invariant in
    let at = c.pass-at.result in
    let there : slice_get m.calls.items m.calls.made ≡ Some (c.requires.call.0, call.Shutdown) = ap (λ (x : CoreView). slice_get x.calls x.made) c.self.view_is ∙ c.requires.call.1 in
    let is : slice_get m.calls.items m.calls.made ≡ Some (at, call.Shutdown) = there ∙ ap (λ (n : ℕ). Some (n, call.Shutdown)) (sym (c.pass-at.ensures.moment (c.requires.call.0, call.Shutdown) there)) in
    let n = next_call m.calls.items m.limit m.taken m.calls.made m.table m.sought at (call.Shutdown) f is in
    let mid = c.drop_kept.new.table in
    let set = c.shut_at.new.self in
    let s = shutdown_sweeping m.calls.items m.limit m.taken m.calls.made m.table mid set m.sought at f n (sym c.is_shut.ensures ∙ c.if-is_shut.false) c.drop_kept.ensures.unkept c.drop_kept.ensures.steps c.drop_kept.ensures.none c.shut_at.ensures in
    λ q. sweep_sought m.calls.items m.limit m.taken m.calls.made m.table mid set m.sought at f s.by n.ahead q

pub invariant_of-self : goal.invariant_of-self
invariant_of-self g c =
    let m = c.self.inside in
    let f = c.self.invariant in
    let at = c.pass-at.result in
    let there : slice_get m.calls.items m.calls.made ≡ Some (c.requires.call.0, call.Shutdown) = ap (λ (x : CoreView). slice_get x.calls x.made) c.self.view_is ∙ c.requires.call.1 in
    let is : slice_get m.calls.items m.calls.made ≡ Some (at, call.Shutdown) = there ∙ ap (λ (n : ℕ). Some (n, call.Shutdown)) (sym (c.pass-at.ensures.moment (c.requires.call.0, call.Shutdown) there)) in
    let n = next_call m.calls.items m.limit m.taken m.calls.made m.table m.sought at (call.Shutdown) f is in
    let steps : CallSteps m.table c.pass.new.self (at, call.Shutdown) (bare (a.ShutdownAgain)) = subst (λ (v : TableView). CallSteps m.table v (at, call.Shutdown) (bare a.ShutdownAgain)) (sym c.pass.ensures.slots) (shutdown_again m.table at (sym c.is_shut.ensures ∙ c.if-is_shut.true) n.ahead) in
    rw c.pass-at.ensures.passed (settled_stays m.calls.items m.limit m.taken m.calls.made m.table c.pass.new.self m.sought at (call.Shutdown) (a.ShutdownAgain) m.table.policies f n c.pass.ensures.slots steps (λ i task timing delay e. absurd cc))

pub invariant_of-self-2 : goal.invariant_of-self-2
invariant_of-self-2 g c =
    let m = c.self.inside in
    let f = c.self.invariant in
    let at = c.pass-at.result in
    let there : slice_get m.calls.items m.calls.made ≡ Some (c.requires.call.0, call.Shutdown) = ap (λ (x : CoreView). slice_get x.calls x.made) c.self.view_is ∙ c.requires.call.1 in
    let is : slice_get m.calls.items m.calls.made ≡ Some (at, call.Shutdown) = there ∙ ap (λ (n : ℕ). Some (n, call.Shutdown)) (sym (c.pass-at.ensures.moment (c.requires.call.0, call.Shutdown) there)) in
    let n = next_call m.calls.items m.limit m.taken m.calls.made m.table m.sought at (call.Shutdown) f is in
    let mid = c.drop_kept.new.table in
    let set = c.shut_at.new.self in
    let s = shutdown_sweeping m.calls.items m.limit m.taken m.calls.made m.table mid set m.sought at f n (sym c.is_shut.ensures ∙ c.if-is_shut.false) c.drop_kept.ensures.unkept c.drop_kept.ensures.steps c.drop_kept.ensures.none c.shut_at.ensures in
    let did = sweeping_core m.calls.items m.limit m.taken m.calls.made m.table mid set c.sweep-self-inside.new.table m.sought c.sweep-self-inside.result at (call.Shutdown) a.Shutdown c.args.out.now.items c.push_reserved-2.new.self.items c.sweep-self-inside.new.out.items f n s
    c.sweep-self-inside.ensures.swept (c.push_reserved-2.ensures.items ∙ ap (λ (l : Line). c.args.out.now.items ++ l ∷ []) c.new-2.ensures) c.sweep-self-inside.ensures.lines c.sweep-self-inside.ensures.sought
    in
    rw c.pass-at.ensures.passed (did.1)

pub returns-then-is_shut-clause-steps : goal.returns-then-is_shut-clause-steps
returns-then-is_shut-clause-steps g c =
    let m = c.self.inside in
    let f = c.self.invariant in
    let at = c.pass-at.result in
    let there : slice_get m.calls.items m.calls.made ≡ Some (c.requires.call.0, call.Shutdown) = ap (λ (x : CoreView). slice_get x.calls x.made) c.self.view_is ∙ c.requires.call.1 in
    let is : slice_get m.calls.items m.calls.made ≡ Some (at, call.Shutdown) = there ∙ ap (λ (n : ℕ). Some (n, call.Shutdown)) (sym (c.pass-at.ensures.moment (c.requires.call.0, call.Shutdown) there)) in
    let n = next_call m.calls.items m.limit m.taken m.calls.made m.table m.sought at (call.Shutdown) f is in
    let steps : CallSteps m.table c.pass.new.self (at, call.Shutdown) (bare (a.ShutdownAgain)) = subst (λ (v : TableView). CallSteps m.table v (at, call.Shutdown) (bare a.ShutdownAgain)) (sym c.pass.ensures.slots) (shutdown_again m.table at (sym c.is_shut.ensures ∙ c.if-is_shut.true) n.ahead) in
    rw c.pass-at.ensures.passed (subst (λ (x : CoreView). Steps x (core_of m.calls.items m.limit m.taken (m.calls.made + 1) c.pass.new.self) c.args.out.now.items c.push_reserved.new.self.items (h.Call ∷ [])) c.self.view_is
    (settled_steps m.calls.items m.limit m.taken m.calls.made m.table c.pass.new.self m.sought at (call.Shutdown) (a.ShutdownAgain) m.table.policies f n c.args.out.now.items c.push_reserved.new.self.items c.pass.ensures.slots steps (λ i task timing delay e. absurd cc) (c.push_reserved.ensures.items ∙ ap (λ (l : Line). c.args.out.now.items ++ l ∷ []) c.new.ensures)))

pub returns-then-is_shut-clause-room : goal.returns-then-is_shut-clause-room
returns-then-is_shut-clause-room g c =
    let m = c.self.inside in
    let f = c.self.invariant in
    let at = c.pass-at.result in
    let there : slice_get m.calls.items m.calls.made ≡ Some (c.requires.call.0, call.Shutdown) = ap (λ (x : CoreView). slice_get x.calls x.made) c.self.view_is ∙ c.requires.call.1 in
    let is : slice_get m.calls.items m.calls.made ≡ Some (at, call.Shutdown) = there ∙ ap (λ (n : ℕ). Some (n, call.Shutdown)) (sym (c.pass-at.ensures.moment (c.requires.call.0, call.Shutdown) there)) in
    let n = next_call m.calls.items m.limit m.taken m.calls.made m.table m.sought at (call.Shutdown) f is in
    rw c.pass-at.ensures.passed (subst (λ (x : CoreView). vec_len c.push_reserved.new.self + room_of (core_of m.calls.items m.limit m.taken (m.calls.made + 1) c.pass.new.self) ≤ vec_len c.args.out.now + room_of x) c.self.view_is
    (settled_room m.calls.items m.limit m.taken m.calls.made m.table c.pass.new.self (vec_len c.args.out.now) (vec_len c.push_reserved.new.self) (ap (λ (v : TableView). v.slots) c.pass.ensures.slots) n.within c.push_reserved.ensures.len))

pub returns-clause-steps : goal.returns-clause-steps
returns-clause-steps g c =
    let m = c.self.inside in
    let f = c.self.invariant in
    let at = c.pass-at.result in
    let there : slice_get m.calls.items m.calls.made ≡ Some (c.requires.call.0, call.Shutdown) = ap (λ (x : CoreView). slice_get x.calls x.made) c.self.view_is ∙ c.requires.call.1 in
    let is : slice_get m.calls.items m.calls.made ≡ Some (at, call.Shutdown) = there ∙ ap (λ (n : ℕ). Some (n, call.Shutdown)) (sym (c.pass-at.ensures.moment (c.requires.call.0, call.Shutdown) there)) in
    let n = next_call m.calls.items m.limit m.taken m.calls.made m.table m.sought at (call.Shutdown) f is in
    let mid = c.drop_kept.new.table in
    let set = c.shut_at.new.self in
    let s = shutdown_sweeping m.calls.items m.limit m.taken m.calls.made m.table mid set m.sought at f n (sym c.is_shut.ensures ∙ c.if-is_shut.false) c.drop_kept.ensures.unkept c.drop_kept.ensures.steps c.drop_kept.ensures.none c.shut_at.ensures in
    let did = sweeping_core m.calls.items m.limit m.taken m.calls.made m.table mid set c.sweep-self-inside.new.table m.sought c.sweep-self-inside.result at (call.Shutdown) a.Shutdown c.args.out.now.items c.push_reserved-2.new.self.items c.sweep-self-inside.new.out.items f n s
    c.sweep-self-inside.ensures.swept (c.push_reserved-2.ensures.items ∙ ap (λ (l : Line). c.args.out.now.items ++ l ∷ []) c.new-2.ensures) c.sweep-self-inside.ensures.lines c.sweep-self-inside.ensures.sought
    in
    rw c.pass-at.ensures.passed (subst (λ (x : CoreView). Steps x (core_of m.calls.items m.limit m.taken (m.calls.made + 1) c.sweep-self-inside.new.table) c.args.out.now.items c.sweep-self-inside.new.out.items (h.Call ∷ [])) c.self.view_is did.0)

pub returns-clause-room : goal.returns-clause-room
returns-clause-room g c =
    let m = c.self.inside in
    let f = c.self.invariant in
    let at = c.pass-at.result in
    let there : slice_get m.calls.items m.calls.made ≡ Some (c.requires.call.0, call.Shutdown) = ap (λ (x : CoreView). slice_get x.calls x.made) c.self.view_is ∙ c.requires.call.1 in
    let is : slice_get m.calls.items m.calls.made ≡ Some (at, call.Shutdown) = there ∙ ap (λ (n : ℕ). Some (n, call.Shutdown)) (sym (c.pass-at.ensures.moment (c.requires.call.0, call.Shutdown) there)) in
    let n = next_call m.calls.items m.limit m.taken m.calls.made m.table m.sought at (call.Shutdown) f is in
    let mid = c.drop_kept.new.table in
    let set = c.shut_at.new.self in
    let s = shutdown_sweeping m.calls.items m.limit m.taken m.calls.made m.table mid set m.sought at f n (sym c.is_shut.ensures ∙ c.if-is_shut.false) c.drop_kept.ensures.unkept c.drop_kept.ensures.steps c.drop_kept.ensures.none c.shut_at.ensures in
    rw c.pass-at.ensures.passed (subst (λ (x : CoreView). vec_len c.sweep-self-inside.new.out + room_of (core_of m.calls.items m.limit m.taken (m.calls.made + 1) c.sweep-self-inside.new.table) ≤ vec_len c.args.out.now + room_of x) c.self.view_is
    (sweeping_room m.calls.items m.limit m.taken m.calls.made m.table mid set c.sweep-self-inside.new.table at (vec_len c.args.out.now) (vec_len c.push_reserved-2.new.self) (vec_len c.sweep-self-inside.new.out) s.by n.within c.sweep-self-inside.ensures.swept c.push_reserved-2.ensures.len c.sweep-self-inside.ensures.room))
