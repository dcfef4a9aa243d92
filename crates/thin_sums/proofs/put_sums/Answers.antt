-- One or two numbers are stored (`some_put`), and the third where there are three (`third_put`).
use Rattle.std.proofs.Common.{ℕ, List, ◌≡◌, ◌+◌, refl, ap, get_or, arith, Float}
use mathlib.Core.Logic.{inl, inr}
use Rattle.std.specs.Float.{binary32, nan}
use Rattle.std.specs.Float.Ieee.{add}
use Rattle.grids.proofs.Loops.{all_written}
use Rattle.thin_products.specs.declared.Three.{Three}
use Rattle.thin_products.specs.Thin.{number_at}
use Rattle.thin_products.proofs.Laws as law
use Rattle.thin_sums.proofs.put_sums.Goals as goal
use Rattle.thin_sums.proofs.put_sums.Goals.{then-cols-ge2, else-cols-ge2}

-- the number for the cell at + j
abbrev sum : Three → List Float → ℕ → ℕ → Float
sum t q at j = add binary32 (number_at t j) (get_or q (at + j) nan)

-- the first, at the place where the code reads it
first_at : (t : Three) (q : List Float) (at : ℕ) → add binary32 t.t0 (get_or q at nan) ≡ sum t q at 0
first_at t q at = let e : at ≡ at + 0 = omega arith in ap (λ (i : ℕ). add binary32 t.t0 (get_or q i nan)) e

pub returns-then-cols-ge3 : goal.returns-then-cols-ge3
returns-then-cols-ge3 c =
    let some = law.some_put {g = sum c.args.t c.args.q.now c.args.at} c.requires.0 (first_at c.args.t c.args.q.now c.args.at) refl (elim c.if-cols-ge2.branch [ then-cols-ge2 w ↦ inl (w.if-cols-ge2.true, w.c-is) | else-cols-ge2 w ↦ inr (w.if-cols-ge2.false, w.c-is) ]) in
    all_written (law.third_put c.if-cols-ge3.true refl some) c.requires.1

pub returns-else-cols-ge3 : goal.returns-else-cols-ge3
returns-else-cols-ge3 c =
    let some = law.some_put {g = sum c.args.t c.args.q.now c.args.at} c.requires.0 (first_at c.args.t c.args.q.now c.args.at) refl (elim c.if-cols-ge2.branch [ then-cols-ge2 w ↦ inl (w.if-cols-ge2.true, w.c-is) | else-cols-ge2 w ↦ inr (w.if-cols-ge2.false, w.c-is) ]) in
    all_written some (omega arith)
