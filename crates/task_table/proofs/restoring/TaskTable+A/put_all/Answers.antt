-- Each task comes to its slot, or no table has written so.
use Rattle.std.proofs.Common.{◌≡◌, ◌+◌, length, refl, sym, subst, arith}
use Rattle.std.proofs.lemmas.Option.{slice_get_read}
use Rattle.task_table.specs.Tables.{TableView}
use Rattle.task_table.specs.own.Restoring.{IsPart}
use Rattle.task_table.proofs.Imaged.{images_of_part, part_of_images}
use Rattle.task_table.proofs.Placing.{next_new, part_more, none_wrote, keeps_placed, keeps_both}
use Rattle.task_table.proofs.restoring.TaskTable+A.put_all.Goals as goal

pub put_back-requires : goal.put_back-requires
put_back-requires g c =
    let rs = c.args.written.now in
    let i = c.loop-image.image-index in
    let r = c.image-item.result in
    next_new c.loop-image.self rs i r c.loop-image.invariant.part c.requires.ascending (slice_get_read rs (length rs) i r refl c.loop-image-test.true c.image-item.is)

pub returns-then-not-put_back-clause-refused : goal.returns-then-not-put_back-clause-refused
returns-then-not-put_back-clause-refused g c =
    let rs = c.args.written.now in
    let i = c.loop-image.image-index in
    let r = c.image-item.result in
    let t = c.loop-image.self in
    λ _ m formed keeps images.
    none_wrote t rs i r c.loop-image.invariant.part c.requires.ascending c.loop-image-test.true (slice_get_read rs (length rs) i r refl c.loop-image-test.true c.image-item.is) (c.if-not-put_back.ensures.left refl).1
    m formed (keeps_both c.args.self.now t m c.loop-image.invariant.frame keeps) (part_of_images m rs images)

pub loop-image-preserved : goal.loop-image-preserved
loop-image-preserved g c =
    let rs = c.args.written.now in
    let i = c.loop-image.image-index in
    let r = c.image-item.result in
    let t = c.loop-image.self in
    let put = c.if-not-put_back.ensures.put refl in
    record {
      part = subst (λ (v : TableView). IsPart v rs (i + 1)) (sym put.1) (part_more t rs i r c.loop-image.invariant.part (slice_get_read rs (length rs) i r refl c.loop-image-test.true c.image-item.is) put.0);
      frame = keeps_placed c.args.self.now t c.put_back.new.self r c.loop-image.invariant.frame put.1;
    }

pub returns-clause-put : goal.returns-clause-put
returns-clause-put g c =
    let rs = c.args.written.now in
    let all : c.loop-image.image-index ≡ length rs = omega (arith, c.loop-image-test.false, c.loop-image.auto.image-index-end) in
    λ _. images_of_part c.loop-image.self rs (subst (IsPart c.loop-image.self rs) all c.loop-image.invariant.part) c.requires.ascending
