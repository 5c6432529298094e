use Rattle.std.proofs.Common.{◌≡◌, ◌<◌, ◌∙◌, Some, None, length, sym, ap, subst}
use Rattle.std.specs.Prelude.{slice_index_or, slice_set, IsSome}
use Rattle.once_cell.specs.declared.race.note.Note.{Note}
use Rattle.result_cell.specs.declared.verdict.Verdict.{Verdict}
use Rattle.result_cell.specs.Cells.{StaysKnown, known_at}
use Rattle.result_cell.proofs.Notes.{length_notes, set_note, known_here, known_elsewhere}
use Rattle.worker_pool.proofs.NoteLists.{known_read, any_default, put_back, note_still, if_some}
use Rattle.worker_pool.proofs.results.agreed.Goals as goal

pub read_both-verdict-requires-clause-mine : goal.read_both-verdict-requires-clause-mine
read_both-verdict-requires-clause-mine g c =
    let mine = c.args.mine.now.items in
    let k = c.args.task in
    let low : k < length mine = subst (λ n. k < n) (sym c.requires.count) c.if-place-cells.false in
    let slot : slice_index_or mine k None ≡ Some c.in_ok-note.note = any_default mine k None c.index_mut.result.now low ∙ (sym c.index_mut.ensures.value ∙ (sym c.take.ensures.value ∙ c.in_ok-note.was)) in
    (c.requires.mine k c.in_ok-note.note slot).0 ∙ (any_default c.args.cells.now k 0 c.index-cells-place.result c.if-place-cells.false ∙ sym c.index-cells-place.is)

pub returns-clause-mine : goal.returns-clause-mine
returns-clause-mine g c =
    let mine = c.args.mine.now.items in
    let k = c.args.task in
    let note = c.in_ok-note.note in
    let low : k < length mine = subst (λ n. k < n) (sym c.requires.count) c.if-place-cells.false in
    let slot : slice_index_or mine k None ≡ Some note = any_default mine k None c.index_mut.result.now low ∙ (sym c.index_mut.ensures.value ∙ (sym c.take.ensures.value ∙ c.in_ok-note.was)) in
    let knows = c.requires.mine k note slot in
    let same : c.read_both-verdict.new.mine ≡ note = note_still note c.read_both-verdict.new.mine c.read_both-verdict.ensures.mine.0 knows.1 c.read_both-verdict.ensures.mine.1 in
    put_back mine k c.take.new.self (Some c.read_both-verdict.new.mine) None low (slot ∙ ap (λ n. Some n) (sym same))

pub returns-clause-theirs : goal.returns-clause-theirs
returns-clause-theirs g c =
    set_note c.args.theirs.now.items c.args.cells.now c.args.task c.read_both-verdict.new.theirs c.index_mut-2.result.now c.requires.theirs
    (c.read_both-verdict.ensures.theirs.0 ∙ ap (λ n. n.cell) c.index_mut-2.ensures.value)

pub returns-clause-keeps : goal.returns-clause-keeps
returns-clause-keeps g c =
    let old = c.args.theirs.now.items in
    let k = c.args.task in
    let new = c.read_both-verdict.new.theirs in
    let inside : k < length old = subst (λ n. k < n) (sym (length_notes old c.args.cells.now c.requires.theirs)) c.if-place-cells.false in
    let before : known_at old k ≡ c.index_mut-2.result.now.known = known_read old k c.index_mut-2.result.now inside ∙ ap (λ n. n.known) (sym c.index_mut-2.ensures.value) in
    subst (λ x. StaysKnown x (known_at (slice_set old k new) k)) (sym before) (subst (λ y. StaysKnown c.index_mut-2.result.now.known y) (sym (known_here old k new inside)) c.read_both-verdict.ensures.theirs.1)

pub returns-clause-others : goal.returns-clause-others
returns-clause-others g c = λ k other. known_elsewhere c.args.theirs.now.items c.args.task k c.read_both-verdict.new.theirs other

pub returns-clause-both : goal.returns-clause-both
returns-clause-both g c =
    let mine = c.args.mine.now.items in
    let theirs = c.args.theirs.now.items in
    let k = c.args.task in
    let note = c.in_ok-note.note in
    let new = c.read_both-verdict.new in
    let low : k < length mine = subst (λ n. k < n) (sym c.requires.count) c.if-place-cells.false in
    let inside : k < length theirs = subst (λ n. k < n) (sym (length_notes theirs c.args.cells.now c.requires.theirs)) c.if-place-cells.false in
    let slot : slice_index_or mine k None ≡ Some note = any_default mine k None c.index_mut.result.now low ∙ (sym c.index_mut.ensures.value ∙ (sym c.take.ensures.value ∙ c.in_ok-note.was)) in
    let same : new.mine ≡ note = note_still note new.mine c.read_both-verdict.ensures.mine.0 (c.requires.mine k note slot).1 c.read_both-verdict.ensures.mine.1 in
    let now : slice_index_or (slice_set (slice_set mine k c.take.new.self) k (Some new.mine)) k None ≡ Some new.mine =
    ap (λ xs. slice_index_or xs k None) (put_back mine k c.take.new.self (Some new.mine) None low (slot ∙ ap (λ n. Some n) (sym same))) ∙ (slot ∙ ap (λ n. Some n) (sym same))
    in
    if_some c.read_both-verdict.result (λ v. (new.mine.known ≡ Some v) × (new.theirs.known ≡ Some v))
    (λ v. (known_at (slice_set theirs k new.theirs) k ≡ Some v) × (n : Note Verdict) × (slice_index_or (slice_set (slice_set mine k c.take.new.self) k (Some new.mine)) k None ≡ Some n) × (n.known ≡ Some v))
    (λ v both. (known_here theirs k new.theirs inside ∙ both.1, new.mine, now, both.0)) c.read_both-verdict.ensures.both

pub returns-clause-wherever : goal.returns-clause-wherever
returns-clause-wherever g c = λ there is knew.
    let mine = c.args.mine.now.items in
    let theirs = c.args.theirs.now.items in
    let k = c.args.task in
    let note = c.in_ok-note.note in
    let low : k < length mine = subst (λ n. k < n) (sym c.requires.count) c.if-place-cells.false in
    let inside : k < length theirs = subst (λ n. k < n) (sym (length_notes theirs c.args.cells.now c.requires.theirs)) c.if-place-cells.false in
    let slot : slice_index_or mine k None ≡ Some note = any_default mine k None c.index_mut.result.now low ∙ (sym c.index_mut.ensures.value ∙ (sym c.take.ensures.value ∙ c.in_ok-note.was)) in
    c.read_both-verdict.ensures.wherever (c.requires.mine k note slot).1
    (subst (λ o. IsSome o) (known_read theirs k c.index_mut-2.result.now inside ∙ ap (λ n. n.known) (sym c.index_mut-2.ensures.value)) knew)
