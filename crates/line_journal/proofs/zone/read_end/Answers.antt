use Rattle.std.proofs.Common.{ℕ, ◌<◌, length, replicate, arith, List}
use Rattle.std.proofs.lemmas.List.{length-take-le, length-replicate}
use Rattle.line_journal.proofs.Reading.{found_at_end, within_at_end}
use Rattle.line_journal.proofs.zone.read_end.Goals as goal

pub returns-clause-within : goal.returns-clause-within
returns-clause-within g c = within_at_end c.args.at c.read.new.buffer c.ended.result c.ended.ensures

pub returns-clause-found : goal.returns-clause-found
returns-clause-found g c clean =
    let blanks : List ℕ = replicate 13 0 in
    let low : c.args.there < length blanks = omega (arith, c.requires.few, length-replicate {A = ℕ} 13 0) in
    let room = length-take-le c.args.there blanks (omega (arith, low)) in
    found_at_end (g.D.Disk.seen c.args.disk.now) c.args.at c.read.new.buffer c.ended.result (c.in_ok-read.ensures.read clean (omega (arith, room, c.requires.some))) (omega (arith, c.read.auto.buffer, room, c.requires.few)) c.ended.ensures
