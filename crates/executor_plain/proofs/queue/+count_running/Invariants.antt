use Rattle.executor_plain.proofs.queue.+count_running.Given as goal

abbrev pub decreases-count_running : goal.decreases-count_running
decreases-count_running g l = l.count
