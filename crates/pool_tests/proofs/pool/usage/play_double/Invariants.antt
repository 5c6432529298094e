use Rattle.queue_code.specs.Codes.{calls_of}
use Rattle.pool_tests.proofs.pool.usage.play_double.Given as goal

abbrev pub ghosts-double_three : goal.ghosts-double_three
ghosts-double_three g a = record { table = a.shared.now.table; cells = a.shared.now.cells; calls = calls_of a.code; workers = 2 }
