use Rattle.std.proofs.Common.{◌≡◌, ℕ, ◌<◌, ◌≤◌, ◌++◌, length, take, drop, ◌∙◌, arith}
use Rattle.std.proofs.Math.Seq.{take-append_seam}
use Rattle.std.proofs.lemmas.List.{length-take-le, length-replicate}
use Rattle.line_journal.proofs.Reading.{found_judged}
use Rattle.line_journal.proofs.zone.read_group.Goals as goal

pub returns-clause-found : goal.returns-clause-found
returns-clause-found g c clean =
    let d = g.D.Disk in
    let n = c.length_in-n.result in
    let head = c.read.new.buffer in
    let body = c.read-2.new.buffer in
    let thirteen : length head ≡ 13 = omega (arith, c.read.auto.buffer, length-replicate {A = ℕ} 13 0) in
    let fits : n ≤ length c.args.buffer.now = omega (arith, c.if-n-buffer.false) in
    let room : length (take n c.args.buffer.now) ≡ n = length-take-le n c.args.buffer.now fits in
    let long : length body ≡ n = omega (arith, c.read-2.auto.buffer, room) in
    let some : 0 < length (take n c.args.buffer.now) = omega (arith, room, c.if-n-eq0.false) in
    let front = c.in_ok-read.ensures.read (c.read-2.ensures.clean clean) (omega (arith, length-replicate {A = ℕ} 13 0)) in
    let behind = rw c.read.ensures.seen at (c.in_ok-read-2.ensures.read clean some) in
    found_judged (d.seen c.args.disk.now) c.args.at head body (body ++ drop n c.args.buffer.now) c.judged.result front thirteen behind (omega (arith, long)) (long ∙ c.length_in-n.ensures) (take-append_seam body (drop n c.args.buffer.now)) c.judged.ensures
