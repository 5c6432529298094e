use Rattle.executor_plain.proofs.queue.+count_queued.Given as goal

abbrev pub decreases-count_queued : goal.decreases-count_queued
decreases-count_queued g l = l.count
