-- One or two numbers are stored (`some_put`), and the third where there are three (`third_put`).
use Rattle.std.proofs.Common.{refl, arith}
use mathlib.Core.Logic.{inl, inr}
use Rattle.grids.proofs.Loops.{all_written}
use Rattle.thin_products.specs.Thin.{number_at}
use Rattle.thin_products.proofs.Laws.{some_put, third_put}
use Rattle.thin_products.proofs.put_some.Goals as goal
use Rattle.thin_products.proofs.put_some.Goals.{then-cols-ge2, else-cols-ge2}

pub returns-then-cols-ge3 : goal.returns-then-cols-ge3
returns-then-cols-ge3 c =
    let some = some_put {g = number_at c.args.t} c.requires.0 refl refl (elim c.if-cols-ge2.branch [ then-cols-ge2 w ↦ inl (w.if-cols-ge2.true, w.c-is) | else-cols-ge2 w ↦ inr (w.if-cols-ge2.false, w.c-is) ]) in
    all_written (third_put c.if-cols-ge3.true refl some) c.requires.1

pub returns-else-cols-ge3 : goal.returns-else-cols-ge3
returns-else-cols-ge3 c =
    let some = some_put {g = number_at c.args.t} c.requires.0 refl refl (elim c.if-cols-ge2.branch [ then-cols-ge2 w ↦ inl (w.if-cols-ge2.true, w.c-is) | else-cols-ge2 w ↦ inr (w.if-cols-ge2.false, w.c-is) ]) in
    all_written some (omega arith)
