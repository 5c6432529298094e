use Rattle.executor_plain.proofs.tasks.+first_enabled.Given as goal

abbrev pub decreases-first_enabled : goal.decreases-first_enabled
decreases-first_enabled g l = l.count
