-- A task is spent, or its number says it.
use Rattle.std.proofs.Common.{◌≡◌, ◌&&◌, Bool, true, false, refl, sym, ◌∙◌}
use Rattle.std.specs.Prelude.{not, nat_lt}
use Rattle.std.proofs.lemmas.Bool.{false≢true}
use Rattle.task_table.specs.Seats.{task_in, is_alive}
use Rattle.live_core.proofs.restoring.is_live.Goals as goal

spent : (b c : Bool) → not b ≡ true → false ≡ (b && c)
spent true c q = absurd (false≢true q)
spent false c q = refl

unspent : (b c : Bool) → not b ≡ false → c ≡ (b && c)
unspent true c q = refl
unspent false c q = absurd (false≢true (sym q))

pub returns-then-is_spent : goal.returns-then-is_spent
returns-then-is_spent c =
    let x = c.args.image.now in
    spent (is_alive (task_in x.seat)) (nat_lt x.seat.number c.args.count) (sym c.is_spent.ensures ∙ c.if-is_spent.true)

pub returns : goal.returns
returns c =
    let x = c.args.image.now in
    unspent (is_alive (task_in x.seat)) (nat_lt x.seat.number c.args.count) (sym c.is_spent.ensures ∙ c.if-is_spent.false)
