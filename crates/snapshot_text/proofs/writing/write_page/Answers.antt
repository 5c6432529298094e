use Rattle.byte_ends.proofs.Tries.{good_then_bad, good_then_good}
use Rattle.std.proofs.Common.{◌≡◌, ◌++◌, ◌∙◌, Bool, true, false, length, ap}
use Rattle.std.specs.Prelude.{flat_map}
use Rattle.byte_ends.specs.Ends.{CountsTries}
use Rattle.snapshot_text.specs.Snapshots.{SnapshotView}
use Rattle.snapshot_text.specs.Spelling.{body_text, empty_text, end_text, given_text, head_text, snapshot_text}
use Rattle.snapshot_text.specs.Sums.{sum_of}
use Rattle.snapshot_text.specs.own.Pages.{IsGiven, PageView}
use Rattle.snapshot_text.proofs.Pages.{all_given, behind, first_given, front_of_more, given_sum, put_given}
use Rattle.snapshot_text.proofs.Written.{behind_empty, behind_given, behind_tasks, is_body, last_line, to_empty, to_given, to_tasks}
use Rattle.snapshot_text.proofs.writing.write_page.Goals as goal

pub returns-then-not-write_all-clause-written : goal.returns-then-not-write_all-clause-written
returns-then-not-write_all-clause-written g c =
    let s : SnapshotView = record { head = c.args.head.now; tasks = c.args.tasks.now; given = c.args.given.now; empty = c.args.empty.now } in
    let start : IsGiven (g.W.Sink.contents c.args.writer.now) (g.W.Sink.contents c.args.writer.now) c.put_head.new.page (head_text s.head) = first_given (g.W.Sink.contents c.args.writer.now) c.put_head.new.page (head_text s.head)
    (c.put_head.ensures ∙ ap (λ (p : PageView). record { text = head_text s.head; sum = p.sum }) c.requires) in
    let tasks = c.if-not-write_all.ensures.given (g.W.Sink.contents c.args.writer.now) (head_text s.head) start in
    front_of_more (g.W.Sink.contents c.args.writer.now) (g.W.Sink.contents c.write_all.new.writer) (to_tasks s) (flat_map given_text s.given ++ (flat_map empty_text s.empty ++ last_line s)) (snapshot_text s) tasks.0 (behind_tasks s) tasks.1 tasks.2

pub returns-then-not-write_all-2-clause-written : goal.returns-then-not-write_all-2-clause-written
returns-then-not-write_all-2-clause-written g c =
    let s : SnapshotView = record { head = c.args.head.now; tasks = c.args.tasks.now; given = c.args.given.now; empty = c.args.empty.now } in
    let start : IsGiven (g.W.Sink.contents c.args.writer.now) (g.W.Sink.contents c.args.writer.now) c.put_head.new.page (head_text s.head) = first_given (g.W.Sink.contents c.args.writer.now) c.put_head.new.page (head_text s.head)
    (c.put_head.ensures ∙ ap (λ (p : PageView). record { text = head_text s.head; sum = p.sum }) c.requires) in
    let tasks = c.if-not-write_all.ensures.given (g.W.Sink.contents c.args.writer.now) (head_text s.head) start in
    let givens = c.if-not-write_all-2.ensures.given (g.W.Sink.contents c.args.writer.now) (to_tasks s) tasks in
    front_of_more (g.W.Sink.contents c.args.writer.now) (g.W.Sink.contents c.write_all-2.new.writer) (to_given s) (flat_map empty_text s.empty ++ last_line s) (snapshot_text s) givens.0 (behind_given s) givens.1 givens.2

pub returns-then-not-write_all-2-clause-counts : goal.returns-then-not-write_all-2-clause-counts
returns-then-not-write_all-2-clause-counts g c =
    good_then_bad _ _ _ _ _ _ c.if-not-write_all.ensures.counts c.if-not-write_all-2.ensures.counts

pub returns-then-not-write_all-3-clause-written : goal.returns-then-not-write_all-3-clause-written
returns-then-not-write_all-3-clause-written g c =
    let s : SnapshotView = record { head = c.args.head.now; tasks = c.args.tasks.now; given = c.args.given.now; empty = c.args.empty.now } in
    let start : IsGiven (g.W.Sink.contents c.args.writer.now) (g.W.Sink.contents c.args.writer.now) c.put_head.new.page (head_text s.head) = first_given (g.W.Sink.contents c.args.writer.now) c.put_head.new.page (head_text s.head)
    (c.put_head.ensures ∙ ap (λ (p : PageView). record { text = head_text s.head; sum = p.sum }) c.requires) in
    let tasks = c.if-not-write_all.ensures.given (g.W.Sink.contents c.args.writer.now) (head_text s.head) start in
    let givens = c.if-not-write_all-2.ensures.given (g.W.Sink.contents c.args.writer.now) (to_tasks s) tasks in
    let empties = c.if-not-write_all-3.ensures.given (g.W.Sink.contents c.args.writer.now) (to_given s) givens in
    front_of_more (g.W.Sink.contents c.args.writer.now) (g.W.Sink.contents c.write_all-3.new.writer) (to_empty s) (last_line s) (snapshot_text s) empties.0 (behind_empty s) empties.1 empties.2

pub returns-then-not-write_all-3-clause-counts : goal.returns-then-not-write_all-3-clause-counts
returns-then-not-write_all-3-clause-counts g c =
    good_then_bad _ _ _ _ _ _ (good_then_good _ _ _ _ _ _ c.if-not-write_all.ensures.counts c.if-not-write_all-2.ensures.counts) c.if-not-write_all-3.ensures.counts

pub returns-then-not-make_room-clause-written : goal.returns-then-not-make_room-clause-written
returns-then-not-make_room-clause-written g c =
    let s : SnapshotView = record { head = c.args.head.now; tasks = c.args.tasks.now; given = c.args.given.now; empty = c.args.empty.now } in
    let start : IsGiven (g.W.Sink.contents c.args.writer.now) (g.W.Sink.contents c.args.writer.now) c.put_head.new.page (head_text s.head) = first_given (g.W.Sink.contents c.args.writer.now) c.put_head.new.page (head_text s.head)
    (c.put_head.ensures ∙ ap (λ (p : PageView). record { text = head_text s.head; sum = p.sum }) c.requires) in
    let tasks = c.if-not-write_all.ensures.given (g.W.Sink.contents c.args.writer.now) (head_text s.head) start in
    let givens = c.if-not-write_all-2.ensures.given (g.W.Sink.contents c.args.writer.now) (to_tasks s) tasks in
    let empties = c.if-not-write_all-3.ensures.given (g.W.Sink.contents c.args.writer.now) (to_given s) givens in
    let room = c.if-not-make_room.ensures.given (g.W.Sink.contents c.args.writer.now) (to_empty s) empties in
    front_of_more (g.W.Sink.contents c.args.writer.now) (g.W.Sink.contents c.make_room.new.writer) (to_empty s) (last_line s) (snapshot_text s) room.0 (behind_empty s) room.1 room.2

pub returns-then-not-make_room-clause-counts : goal.returns-then-not-make_room-clause-counts
returns-then-not-make_room-clause-counts g c =
    good_then_bad _ _ _ _ _ _ (good_then_good _ _ _ _ _ _ (good_then_good _ _ _ _ _ _ c.if-not-write_all.ensures.counts c.if-not-write_all-2.ensures.counts) c.if-not-write_all-3.ensures.counts) c.if-not-make_room.ensures.counts

pub returns-clause-written : goal.returns-clause-written
returns-clause-written g c =
    let s : SnapshotView = record { head = c.args.head.now; tasks = c.args.tasks.now; given = c.args.given.now; empty = c.args.empty.now } in
    let start : IsGiven (g.W.Sink.contents c.args.writer.now) (g.W.Sink.contents c.args.writer.now) c.put_head.new.page (head_text s.head) = first_given (g.W.Sink.contents c.args.writer.now) c.put_head.new.page (head_text s.head)
    (c.put_head.ensures ∙ ap (λ (p : PageView). record { text = head_text s.head; sum = p.sum }) c.requires) in
    let tasks = c.if-not-write_all.ensures.given (g.W.Sink.contents c.args.writer.now) (head_text s.head) start in
    let givens = c.if-not-write_all-2.ensures.given (g.W.Sink.contents c.args.writer.now) (to_tasks s) tasks in
    let empties = c.if-not-write_all-3.ensures.given (g.W.Sink.contents c.args.writer.now) (to_given s) givens in
    let room = c.if-not-make_room.ensures.given (g.W.Sink.contents c.args.writer.now) (to_empty s) empties in
    let sum : c.sum-sum.result ≡ sum_of (body_text s) = c.sum-sum.ensures ∙ (given_sum (g.W.Sink.contents c.args.writer.now) (g.W.Sink.contents c.make_room.new.writer) c.make_room.new.page (to_empty s) room ∙ ap sum_of (is_body s)) in
    let put : c.put_two.new.self ≡ behind c.make_room.new.page (last_line s) = c.put_two.ensures.text ∙ (λ i. behind c.make_room.new.page (end_text (length s.tasks, sum i))) in
    let all = put_given (g.W.Sink.contents c.args.writer.now) (g.W.Sink.contents c.make_room.new.writer) c.make_room.new.page c.put_two.new.self (to_empty s) (last_line s) room put in
    rw (behind_empty s) (all_given c.write_text.result (g.W.Sink.contents c.args.writer.now) (g.W.Sink.contents c.make_room.new.writer) (g.W.Sink.contents c.write_text.new.sink) c.put_two.new.self
    (to_empty s ++ last_line s) all (rw c.bytes.ensures at c.write_text.ensures.bytes))

pub returns-clause-counts : goal.returns-clause-counts
returns-clause-counts g c = go c.write_text.result c.write_text.ensures.counts
  where
    go : (result : Bool) → CountsTries result (g.W.Sink.failed c.make_room.new.writer) (g.W.Sink.fruitless c.make_room.new.writer) (g.W.Sink.failed c.write_text.new.sink) (g.W.Sink.fruitless c.write_text.new.sink)
        → CountsTries result (g.W.Sink.failed c.args.writer.now) (g.W.Sink.fruitless c.args.writer.now) (g.W.Sink.failed c.write_text.new.sink) (g.W.Sink.fruitless c.write_text.new.sink)
    go true good = good_then_good _ _ _ _ _ _ (good_then_good _ _ _ _ _ _ (good_then_good _ _ _ _ _ _ (good_then_good _ _ _ _ _ _ c.if-not-write_all.ensures.counts c.if-not-write_all-2.ensures.counts) c.if-not-write_all-3.ensures.counts) c.if-not-make_room.ensures.counts) good
    go false bad = good_then_bad _ _ _ _ _ _ (good_then_good _ _ _ _ _ _ (good_then_good _ _ _ _ _ _ (good_then_good _ _ _ _ _ _ c.if-not-write_all.ensures.counts c.if-not-write_all-2.ensures.counts) c.if-not-write_all-3.ensures.counts) c.if-not-make_room.ensures.counts) bad
