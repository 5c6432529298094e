use Rattle.queue_code.specs.Codes.{calls_of}
use Rattle.book_tests.proofs.books.play_code.Given as goal

abbrev pub ghosts-book_of : goal.ghosts-book_of
ghosts-book_of g a = record { table = a.shared.now.table; cells = a.shared.now.cells; calls = calls_of a.code; workers = a.workers }
