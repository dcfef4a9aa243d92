-- `wide::predict_wide` meets its contract: P by its products and Q, x by the turned A, whose entries are those of A. Assumes nothing.
use mathlib.Core.Path.{ap, sym, subst, ◌∙◌}
use Prim.Native.Nat.{ℕ, ◌*◌, ◌≤◌}
use mathlib.Core.List.{List}
use native.Mathlib.Nat.{mul-le-mul}
use native.Mathlib.Omega.{arith}
use borrow.Author.Rules.{rules}
use lib.ListN.{length}
use lib.Ieee.{Float, binary32}
use Rattle.grids.specs.Grid.{cell}
use Rattle.grids.proofs.Grids.{run_ext, length-grid, grid-cell}
use Rattle.entries.specs.Entries.{numbers}
use Rattle.entries.proofs.Written.{times_x_alike}
use Rattle.filters.proofs.Writes.{copied, p_written}
use Rattle.predictions.proofs.wide.predict_wide.Goals as goal

pub returns : goal.returns
returns c =
    let a = c.args in
    let e = c.by_turned.ensures in
    let predicted =
    c.rowvector_turned.ensures
    ∙ run_ext 0 a.n _ _ a.predicted.now
    (λ j hj. times_x_alike binary32 a.n a.n _ (cell a.n a.a.now) (numbers a.x.now) j hj
    (λ j k hj hk. ap (λ (l : List Float). cell a.n l k j) e.t ∙ grid-cell a.n a.n (λ k j. cell a.n a.a.now j k) _ k j hk hj (mul-le-mul c.requires.1 c.requires.1))) in record {
      x = copied a.n _ a.x.now a.predicted.now _ _ c.requires.6 predicted c.copy_cells.ensures;
      predicted = predicted;
      p = p_written _ a.n a.a.now a.p.now a.q.now a.temp.now _ _ _ c.requires.4 c.requires.7 e.temp e.p c.add_cells_a.ensures;
      temp = e.temp;
    }
