use Rattle.std.proofs.Common.{◌≡◌, ◌≢◌, true, inl, inr, [], ◌∷◌, ◌++◌, ◌∙◌, sym, ap, subst, arith}
use Rattle.std.proofs.lemmas.Bool.{false≢true}
use Rattle.task_word.specs.declared.views.CoreSeatView.{CoreSeatView}
use Rattle.queue_code.specs.Calls.{task_count}
use Rattle.executor_model.specs.declared.types.Need.TheVariants as n
use Rattle.executor_core.specs.declared.foreseen.Foreseen.{Foreseen}
use Rattle.executor_model.specs.Histories.{is_call, is_end as stands_in}
use Rattle.executor_core.specs.CoreView.{workers_of, Steps, comes_before_event}
use Rattle.executor_laws.specs.Cancels.{is_needed}
use Rattle.worker_pool.specs.own.Moves.{CanMove, WasMet, moves_made}
use Rattle.worker_pool.specs.own.Steps.{IsKept, past_in, need_in, OnlyOwnGrows, Completes, MovesOn}
use Rattle.worker_pool.proofs.Steps.{own_then}
use Rattle.worker_pool.proofs.Keepings.{sweeps_are_calls, keeps_step, kept_can_move, past_more, need_after, needed_in_way, moves_on, moved_handles, call_comes_before}
use Rattle.worker_pool.proofs.Growing.{none_noted, none_way, takes_one}
use Rattle.worker_pool.proofs.desk.Desk.attempt.Goals as goal

pub move_word-requires : goal.move_word-requires
move_word-requires g c =
    let old = c.args.self.now in
    record {
      table = c.requires.table;
      can = subst (λ n. CanMove n old.seat.view c.foresee-foreseen.result.need) (sym c.requires.tasks)
          (subst (CanMove (task_count old.core.calls) old.seat.view) (sym (ap (λ (f : Foreseen). f.need) c.foresee-foreseen.ensures.foreseen))
          (kept_can_move old.core old.seat.view old.happenings.items old.lines.items c.args.happening c.requires.kept c.requires.counted c.prove_bound.ensures));
    }

pub returns-in-Some : goal.returns-in-Some
returns-in-Some g c =
    let old = c.args.self.now in
    let new = c.note.new.self in
    let met = c.move_word.new.seat.view in
    let task = c.in-Some.task in
    let was : WasMet (task_count old.core.calls) old.seat.view met task = subst (λ n. WasMet n old.seat.view met task) c.requires.tasks c.in-Some.ensures.met in
    let did = c.note.ensures.notes old.seat.view met c.requires.kept was in
    let same : new.seat.view ≡ met = ap (λ s. s.view) c.note.ensures.seat in
    let to = same ∙ was.now in
    let y = c.args.happening in
    let way = needed_in_way old.core old.seat.view old.happenings.items old.lines.items y task c.requires.kept (subst (λ need. is_needed task need ≡ true) (ap (λ (f : Foreseen). f.need) c.foresee-foreseen.ensures.foreseen) c.in-Some.ensures.named) in
    record {
      table = ap (λ s. s.table) c.note.ensures.seat ∙ c.move_word.ensures.table;
      kept = subst (λ v. IsKept new.core v new.happenings.items new.lines.items) (sym same) did.0;
      same = did.1.only.same;
      handles = record { joined = ap (λ (v : CoreSeatView). v.joined) to; ranks = ap (λ (v : CoreSeatView). v.ranks) to; out = ap (λ (v : CoreSeatView). v.out) to; these = []; grows = ap (λ (v : CoreSeatView). v.own) to };
      done = λ q. absurd (false≢true q);
      noted = λ q. (record { only = did.1.only; way = did.1.way y way }, ap (λ (v : CoreSeatView). v.own) to);
      more = λ why. (did.1.only.counted c.requires.counted, did.1.less, did.2);
    }

pub returns : goal.returns
returns g c =
    let old = c.args.self.now in
    let y = c.args.happening in
    let past = past_in old.core old.happenings.items in
    let core = c.happen_foreseen.new.self in
    let seat = c.move_word.new.seat.view in
    let items = c.push_reserved.new.self.items in
    let lines = c.happen_foreseen.new.out.items in
    let is : c.foresee-foreseen.result.happening ≡ y = ap (λ (f : Foreseen). f.happening) c.foresee-foreseen.ensures.foreseen in
    let steps = subst (λ x. Steps old.core core old.lines.items lines (x ∷ [])) is c.happen_foreseen.ensures.steps in
    let added = c.push_reserved.ensures.items ∙ ap (λ x. old.happenings.items ++ x ∷ []) c.new.ensures in
    let plain : need_in old.core y ≢ n.Sweep = λ q. c.in_default.not-Sweep (ap (λ (f : Foreseen). f.need) c.foresee-foreseen.ensures.foreseen ∙ q) in
    let to : seat ≡ moves_made old.seat.view (need_in old.core y) = c.move_word.ensures.moved c.in_default-move_word.is ∙ ap (λ (f : Foreseen). moves_made old.seat.view f.need) c.foresee-foreseen.ensures.foreseen in
    let after = need_after old.core old.seat.view old.happenings.items old.lines.items y c.requires.kept in
    let room = c.requires.room in
    record {
      table = c.move_word.ensures.table;
      kept = keeps_step old.core core old.seat.view seat old.happenings.items items old.lines.items lines y c.requires.kept c.requires.comes plain steps added to;
      same = record { calls = steps.calls; workers = steps.workers; taken = c.happen_foreseen.ensures.leaves.taken; limit = steps.limit };
      handles = subst (OnlyOwnGrows old.seat.view) (sym to) (moved_handles old.seat.view (need_in old.core y));
      done = λ q. (
        takes_one old.core.calls old.core.calls (workers_of old.core) (workers_of old.core) old.seat.view.own seat.own past past (past_in core items) y (none_noted past) (none_way old.core.calls (workers_of old.core) past y) (past_more old.core core old.happenings.items items y steps.calls steps.workers added)
            (λ k. ap (λ (v : CoreSeatView). stands_in k v.own) (to ∙ ap (moves_made old.seat.view) after) ∙ own_then old.core.calls (workers_of old.core) past y old.seat.view k c.requires.kept.means (λ q. plain (after ∙ q))),
        moves_on old.core core old.lines.items lines y steps,
      );
      noted = λ q. absurd (false≢true (sym q));
      more = λ why. elim why [
        | inl q ↦ absurd (false≢true (sym q))
        | inr call ↦
            let gives = c.happen_foreseen.ensures.call (ap is_call is ∙ call) in (
              c.happen_foreseen.ensures.counted (ap comes_before_event is ∙ call_comes_before y call) c.requires.counted,
              gives.less,
              record {
                lines_fit = omega (arith, gives.lines, room.lines_fit, c.happen_foreseen.ensures.capacity);
                happened_fit = omega (arith, gives.less, room.happened_fit, c.push_reserved.ensures.len, c.push_reserved.ensures.capacity);
              },
            )
      ];
    }

pub returns-in-Sweep-clause-done : goal.returns-in-Sweep-clause-done
returns-in-Sweep-clause-done g c = λ q.
    let old = c.args.self.now in
    let new = c.sweep.new.self in
    let y = c.args.happening in
    let call = sweeps_are_calls old.core y (sym (ap (λ (f : Foreseen). f.need) c.foresee-foreseen.ensures.foreseen) ∙ c.in-Sweep.is) in
    subst (λ x. Completes old.core.calls (workers_of old.core) old.seat.view.own new.seat.view.own (past_in old.core old.happenings.items) (past_in new.core new.happenings.items) (x ∷ []) × MovesOn old.core new.core x) (sym call)
    (c.sweep.ensures.done, c.sweep.ensures.on)
