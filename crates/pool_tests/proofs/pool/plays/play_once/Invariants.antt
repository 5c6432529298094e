use Rattle.queue_code.specs.Codes.{calls_of}
use Rattle.pool_tests.proofs.pool.plays.play_once.Given as goal

abbrev pub ghosts-pool_of : goal.ghosts-pool_of
ghosts-pool_of g a = record { table = a.shared.now.table; cells = a.shared.now.cells; calls = calls_of a.code; workers = a.workers }
