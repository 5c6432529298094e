-- The laws of the words.
use Rattle.std.proofs.Common.{◌≡◌, ℕ, List, refl, ap, ◌∙◌, arith}
use Rattle.task_word.specs.Views.{times}
use Rattle.task_word.specs.Rule.{taken_by, taken_in_all, flag}
use Rattle.task_word.specs.declared.views.View.{View}
use Rattle.task_word.specs.Laws.{OneWinner, NoWinner, IsWinner, MovesAreWrites, NoWriteLowersRank, MovesRaiseRank, CancelledWordStands, EndedWordStands}
use Rattle.task_word.proofs.ViewLists.{sum_part, sum_parts, sum_one}
use Rattle.task_word.proofs.Writes.{becomes, rises, cancelled_same, starts, ends_well, ends_badly, rearms}

-- where the task stands in no list, no seat took it
nobody : (k : ℕ) (views : List View) → taken_in_all k views ≡ 0 → NoWinner k views
nobody k views none id v at = let part = sum_part (λ u. times k (taken_by u)) views id v at in omega (arith, part, none)

-- where it stands in one list, once, the seat of that list won it
somebody : (k : ℕ) (views : List View) → taken_in_all k views ≡ 1 → (id : ℕ) × IsWinner k views id
somebody k views one =
    let w = sum_one (λ u. times k (taken_by u)) views one in (
      w.0,
      record {
        view = w.1;
        at = w.2;
        once = w.3;
        others = λ j v apart at.
            let parts = sum_parts (λ u. times k (taken_by u)) views j w.0 v w.1 apart at w.2 in
            let here = w.3 in
            omega (arith, parts, one, here);
      },
    )

-- the law of the one winner
pub wins_once : OneWinner
wins_once n words views kept k =
    record {
      one = λ lt e. somebody k views (kept.once k lt ∙ ap flag e);
      free = λ lt e. nobody k views (kept.once k lt ∙ ap flag e);
      past = λ ge. nobody k views (kept.none k ge);
    }

-- the law of the moves
pub moves_write : MovesAreWrites
moves_write w =
    record {
      submitted = λ e. (e, refl);
      started = λ e free. starts w e free;
      ended_well = λ e free. ends_well w e free;
      ended_badly = λ e free. ends_badly w e free;
      rearmed = λ e free. rearms w e free;
      core_cancelled = refl;
      handle_cancelled = refl;
    }

-- the law of ranks that do not fall
pub lowers_none : NoWriteLowersRank
lowers_none kind w u t = (becomes kind w u t).up

-- the law of ranks that rise
pub raises : MovesRaiseRank
raises kind w u moves t = rises kind w u moves t

-- the law of cancelled words
pub cancelled_stands : CancelledWordStands
cancelled_stands kind w u t e = cancelled_same kind w u t e

-- the law of ended words
pub ended_stands : EndedWordStands
ended_stands kind w u t e = (becomes kind w u t).ended e
