-- Each entry adds its task, if its slot holds it.
use Rattle.std.proofs.Common.{◌≡◌, ◌+◌, ◌<◌, List, Some, length, get_or, sym, ap, subst, ◌∙◌, arith}
use Rattle.std.specs.Prelude.{slice_get}
use Rattle.std.proofs.lemmas.Option.{slice_get-get_or}
use Rattle.task_table.specs.declared.seat.TaskRef.{TaskRef}
use Rattle.task_table.specs.declared.image.Image.{Image}
use Rattle.live_core.specs.own.Restoring.{AreWritten}
use Rattle.live_core.specs.own.Slots.{entries_of}
use Rattle.live_core.proofs.Imaging.{written_nothing, written_none, written_more, written_all}
use Rattle.live_core.proofs.Paired.{paired_at, paired_size}
use Rattle.live_core.proofs.index.images_of.Goals as goal
use Rattle.live_core.proofs.index.images_of.Goals.{in-Some+in_ok-push, in_default}

pub loop-place-init : goal.loop-place-init
loop-place-init g c =
    let m = c.args.table.now in
    let es = entries_of c.args.numbers.now c.args.slots.now in
    subst (λ (rs : List Image). AreWritten m es 0 rs) (sym c.in_ok-images.ensures.items) (written_nothing m es)

pub loop-place-preserved : goal.loop-place-preserved
loop-place-preserved g c =
    let m = c.args.table.now in
    let numbers = c.args.numbers.now in
    let slots = c.args.slots.now in
    let es = entries_of numbers slots in
    let i = c.loop-place.place in
    let rs = c.loop-place.images.items in
    let e : TaskRef = record { number = get_or numbers i 0; slot = get_or slots i 0 } in
    let low : i < length numbers = omega (arith, c.loop-place-test.true) in
    let is : slice_get es i ≡ Some e = paired_at numbers slots i (get_or numbers i 0) (get_or slots i 0) (slice_get-get_or numbers i 0 low) (slice_get-get_or slots i 0 (omega (arith, low, c.requires.pairs))) in
    elim c.match-image_of.branch [
      | in-Some+in_ok-push w ↦
          subst (λ (new : List Image). AreWritten m es (i + 1) new) (sym (ap (λ v. v.items) w.images-is ∙ w.in_ok-push.ensures.items))
          (written_more m es i rs e w.in-Some.image c.requires.index.1.ascending c.loop-place.invariant is w.in-Some.ensures.slot w.in-Some.ensures.number w.in-Some.ensures.is)
      | in_default w ↦ subst (λ (new : List Image). AreWritten m es (i + 1) new) (sym (ap (λ v. v.items) w.images-is)) (written_none m es i rs e c.loop-place.invariant is w.in_default.ensures.none)
    ]

pub returns : goal.returns
returns g c =
    let numbers = c.args.numbers.now in
    let slots = c.args.slots.now in
    written_all c.args.table.now (entries_of numbers slots) c.requires.index.0 c.loop-place.place c.loop-place.images.items c.each_table_is_formed.ensures c.requires.index.1
    (omega (arith, c.loop-place-test.false, paired_size numbers slots c.requires.pairs)) c.loop-place.invariant
