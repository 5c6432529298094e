use Rattle.queue_code.specs.Codes.{calls_of}
use Rattle.pool_engine.proofs.pooled.tests.tells_with.Given as goal

abbrev pub ghosts-tells : goal.ghosts-tells
ghosts-tells g a = record { table = a.shared.now.table; cells = a.shared.now.cells; calls = calls_of a.code; workers = 1 }
