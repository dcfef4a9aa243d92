-- `fill_columns`: columns 0 to i − 1 are done, their pivots taken, and d is the last reciprocal.
use Rattle.std.proofs.Common.{◌≡◌, ℕ, ◌<◌, true}
use Rattle.std.specs.Float.{binary32}
use Rattle.grids.specs.Grid.{cell, grid}
use Rattle.factors.specs.Pivots.{pivot_taken}
use Rattle.factors.specs.Decomposition.{factor, pivot_at, last_recip}
use Rattle.columns.proofs.fill_columns.Given as goal

abbrev pub invariant-loop-i : goal.invariant-loop-i
invariant-loop-i l = record {
  last : l.d ≡ last_recip binary32 (cell l.n l.initial.t) l.i;
  done : l.t ≡ grid l.n l.n (factor binary32 (cell l.n l.initial.t) l.i) l.initial.t;
  taken : (k : ℕ) → k < l.i → pivot_taken (pivot_at binary32 (cell l.n l.initial.t) k) ≡ true;
}
