-- The worker that started last is told by text.
use denote.Text.{Utf8}
use denote.Shadow.{shadow}
use Rattle.pool_run_tests.proofs.pool_runs.is_same.Given as goal

abbrev pub invariant-loop-wanted : goal.invariant-loop-wanted
invariant-loop-wanted l =
    (goal.iterator-loop-wanted).can_next l.wanted-iterator ×
    (goal.iterator-loop-wanted).is_finite l.wanted-iterator ×
    shadow (Utf8 l.starter)
