-- Beside `specs/ChangesWord`: what only private contracts and proofs cite.
use Rattle.std.specs.Prelude.{◌≡◌, Bool, true, false}
use Rattle.task_word.specs.Words.{Parts}
use Rattle.task_word.specs.Writes.{Kind, submit, start, done, fail, rearm, core_cancel, handle_cancel, ChangesWord}

-- the write is an exchange, which expects the word that it takes on
abbrev pub is_exchange : Kind → Bool
is_exchange submit = false
is_exchange start = true
is_exchange done = true
is_exchange fail = true
is_exchange rearm = true
is_exchange core_cancel = false
is_exchange handle_cancel = false

-- some exchange takes the word w to the word u
abbrev pub Exchanges : Parts → Parts → Type 0
Exchanges w u = (kind : Kind) × (is_exchange kind ≡ true) × ChangesWord kind w u
