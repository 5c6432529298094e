use Rattle.queue_code.specs.Codes.{calls_of}
use Rattle.book_tests.proofs.books.usage.start_code.Given as goal

abbrev pub ghosts-start_book : goal.ghosts-start_book
ghosts-start_book g a = record { table = a.shared.now.table; cells = a.shared.now.cells; calls = calls_of a.code; workers = 1 }
