use Rattle.std.proofs.Common.{◌≡◌, ◌+◌, ◌-◌, ◌++◌, take, drop, length, ap, ◌∙◌, arith, rules, length-take}
use borrow.Rule.Slice.PartMut.{post_of, put_mid}
use lib.Seq.{paste}
use Rattle.std.specs.Vec.{with_items}
use Rattle.std.proofs.lemmas.List.{with_items_is, places}
use Rattle.byte_ends.proofs.Ranges.{refill}
use Rattle.byte_ends.proofs.held.HeldBytes.fill.Goals as goal

-- what is held, and then what the read brought
pub returns-in-Some-clause-bytes : goal.returns-in-Some-clause-bytes
returns-in-Some-clause-bytes g c =
    let held = c.self.inside in
    let size = held.to - held.from in
    let n = c.in-Some.n in
    let moved = c.deref_mut.result.now in
    let read = c.read_some.new.buf in
    let post = post_of size (length moved - size) moved in
    let buffer = put_mid size (length moved - size) moved read in
    let whole = with_items c.copy_within.new.self buffer in
    let items : whole.items ≡ buffer = with_items_is c.copy_within.new.self buffer (search (rules, places)) in
    let from_start : size + n - 0 ≡ size + n = omega arith in
    let pasted : moved ≡ paste held.buffer.items 0 (drop held.from held.buffer.items) size = c.deref_mut.ensures.value ∙ c.copy_within.ensures.items in
    let bytes = c.in-Some.ensures.bytes in (
      take n read,
      bytes.1,
      ap (λ q. take q whole.items) from_start ∙ ap (take (size + n)) items
          ∙ refill held.buffer.items moved read post held.from held.to n c.self.invariant.0 (search rules) pasted (search rules) bytes.0 ∙ ap (λ l. l ++ take n read) c.self.view_is,
      omega (arith, length-take n read, bytes.0, c.in-Some.n-test.1),
    )
