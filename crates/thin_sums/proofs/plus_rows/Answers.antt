-- A turn writes one row more, of which the three totals with q's numbers are the entries, or the last again (`offsets`).
use Rattle.std.proofs.Common.{ℕ, List, ◌+◌, ◌*◌, ◌≤◌, ◌∙◌, ap, length, arith, Float}
use mathlib.Core.Logic.{inl, inr}
use Rattle.std.specs.Float.{binary32}
use Rattle.std.specs.Float.Ieee.{add}
use Rattle.grids.specs.Grid.{cell}
use Rattle.grids.proofs.Grids.{row_in, grid_ext}
use Rattle.grids.proofs.Turns.{no_rows, all_rows}
use Rattle.thin_products.proofs.Laws.{offsets, columns_in, row_put}
use Rattle.thin_products.proofs.Strides.{transpose_in, transpose_alike}
use Rattle.thin_sums.proofs.plus_rows.Goals as goal
use Rattle.thin_sums.proofs.plus_rows.Goals.{then-cols-ge2, else-cols-ge2, then-cols-ge3, else-cols-ge3}

-- an entry's total with q's number added
abbrev made : ℕ → List Float → ℕ → ℕ → Float → Float
made cols q i j x = add binary32 x (cell cols q i j)

pub loop-r-init : goal.loop-r-init
loop-r-init c = record {
  apart = offsets c.requires.0 c.requires.1 (elim c.if-cols-ge2.branch [ then-cols-ge2 w ↦ inl (w.if-cols-ge2.true, w.one-is) | else-cols-ge2 w ↦ inr (w.if-cols-ge2.false, w.one-is) ]) (elim c.if-cols-ge3.branch [ then-cols-ge3 w ↦ inl (w.if-cols-ge3.true, w.two-is) | else-cols-ge3 w ↦ inr (w.if-cols-ge3.false, w.two-is) ]);
  written = no_rows;
}

pub three_totals-requires : goal.three_totals-requires
three_totals-requires c =
    let m = c.args in
    let in_a : c.loop-r.r * m.inner + m.inner ≤ length m.a.now = omega (arith, row_in m.rows m.inner c.loop-r.r c.loop-r-test.true, c.requires.3) in
    (in_a, columns_in m.inner 1 m.b.now c.requires.0 (transpose_in m.inner m.cols m.b.now c.requires.4) c.loop-r.invariant.apart)

pub loop-r-preserved : goal.loop-r-preserved
loop-r-preserved c =
    let m = c.args in
    let v = c.loop-r.invariant in record {
      apart = v.apart;
      written = row_put binary32 m.inner (cell m.inner m.a.now) m.b.now 1 (made m.cols m.q.now) c.three_totals.result v.written c.loop-r-test.true c.requires.1 v.apart c.three_totals.ensures c.put_sums.ensures;
    }

pub returns : goal.returns
returns c =
    let m = c.args in
    all_rows c.loop-r.invariant.written c.loop-r-test.false
    ∙ grid_ext m.rows m.cols _ _ m.c.now
    (λ i j hi hj. ap (made m.cols m.q.now i j) (transpose_alike binary32 m.rows m.inner m.cols m.a.now m.b.now i j hi hj))
