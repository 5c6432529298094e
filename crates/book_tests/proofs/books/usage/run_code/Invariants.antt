use Rattle.queue_code.specs.Codes.{calls_of}
use Rattle.book_tests.proofs.books.usage.run_code.Given as goal

abbrev pub ghosts-run_book : goal.ghosts-run_book
ghosts-run_book g a = record { table = a.shared.now.table; cells = a.shared.now.cells; calls = calls_of a.code; workers = 1 }
