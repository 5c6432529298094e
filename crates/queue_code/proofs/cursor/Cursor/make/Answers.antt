use Rattle.std.proofs.Common.{◌≡◌, ◌+◌, sym, subst, Some, None, arith, refl, inl, inr}
use Rattle.std.specs.List.{slice_get}
use Rattle.std.proofs.lemmas.Option.{slice_get_within}
use Rattle.queue_code.specs.declared.instr.Instr.{Instr}
use Rattle.queue_code.specs.Codes.{call_by}
use Rattle.queue_code.specs.own.Cursors.{IsPlain}
use Rattle.queue_code.proofs.Making.{makes, in_range, none_left, made_first, others_left, none_made, over_behind}
use Rattle.queue_code.proofs.cursor.Cursor.make.Goals as goal

pub returns-in_default : goal.returns-in_default
returns-in_default g c =
    let over : slice_get {X = Instr} c.args.code.now c.args.self.now.index ≡ None = sym c.in_default.ensures.instr in
    rw (none_left c.args.code.now c.args.self.now c.in_default.ensures.sound over) (record { cursor = c.requires.cursor; call = refl; left = refl; steps = inl over; over = λ _. over; rests = λ _. refl })

pub call_of-call-requires : goal.call_of-call-requires
call_of-call-requires g c =
    let plain : IsPlain (Some c.in-Some.instr) = subst IsPlain (sym c.in-Some.ensures.instr) c.requires.plain in
    let m = makes c.args.code.now c.args.self.now c.in-Some.instr 0 c.in-Some.ensures.sound c.requires.cursor (sym c.in-Some.ensures.instr) plain in
    in_range c.args.code.now c.args.self.now _ _ c.requires.cursor m.left

pub overflow_add-self-2 : goal.overflow_add-self-2
overflow_add-self-2 g c = omega (arith, c.in-Some.ensures.size, slice_get_within {A = Instr} c.args.code.now c.args.self.now.index c.in-Some.instr (sym c.in-Some.ensures.instr))

pub returns : goal.returns
returns g c =
    let code = c.args.code.now in
    let cursor = c.args.self.now in
    let at = sym c.in-Some.ensures.instr in
    let sound = c.in-Some.ensures.sound in
    let plain : IsPlain (Some c.in-Some.instr) = subst IsPlain (sym c.in-Some.ensures.instr) c.requires.plain in
    let m = makes code cursor c.in-Some.instr (cursor.steps + 1) sound c.requires.cursor at plain in
    let none = λ (e : call_by cursor.base cursor.start cursor.tasks c.in-Some.instr ≡ None). none_made code cursor c.in-Some.instr sound at plain e in
    rw (c.tasks.ensures, c.call_of-call.ensures) (record {
      cursor = m.cursor;
      call = made_first code cursor _ _ m none;
      left = others_left code cursor _ _ m none;
      steps = inr refl;
      over = λ e. over_behind code cursor c.in-Some.instr sound at plain e;
      rests = λ over. cc;
    })
