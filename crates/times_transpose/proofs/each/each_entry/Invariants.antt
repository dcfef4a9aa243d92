-- r of the rows are stored, for any h that says what op makes of two numbers.
use Rattle.std.proofs.Common.{◌≡◌, Float}
use Rattle.std.specs.Float.{binary32}
use Rattle.grids.specs.Grid.{cell}
use Rattle.grids.proofs.Turns.{Rows}
use Rattle.entries.specs.Entries.{product_t}
use Rattle.times_transpose.proofs.each.each_entry.Given as goal

abbrev pub invariant-loop-r : goal.invariant-loop-r
invariant-loop-r g l = (h : Float → Float → Float) → ((x y v : Float) → goal.F-post g l.op x y v → v ≡ h x y) → Rows l.rows l.cols (λ i j. h (cell l.cols l.fn.c i j) (product_t binary32 l.inner l.a l.b i j)) l.fn.c l.c l.r
