use Rattle.queue_code.specs.Codes.{calls_of}
use Rattle.pool_engine.proofs.pooled.run_pool.Given as goal

abbrev pub ghosts-run_named : goal.ghosts-run_named
ghosts-run_named g a = record { table = a.shared.now.table; cells = a.shared.now.cells; calls = calls_of a.code; workers = a.asked.now.workers }
