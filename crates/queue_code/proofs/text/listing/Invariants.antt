use Rattle.std.proofs.Common.{◌≡◌, ◌++◌, drop, string_bytes}
use Rattle.queue_code.specs.Listings.{listing_from, listing_of}
use Rattle.queue_code.proofs.text.listing.Given as goal

-- the text and the lines of the rest are the whole text
abbrev pub invariant-loop-index : goal.invariant-loop-index
invariant-loop-index g l = string_bytes l.text ++ listing_from l.index-counter (drop l.index-counter l.instrs) ≡ listing_of l.instrs
