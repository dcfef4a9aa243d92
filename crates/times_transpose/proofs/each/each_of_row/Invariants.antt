-- Four times q of the numbers are stored, and then j of them, for any h that says what op makes of two numbers.
use Rattle.std.proofs.Common.{◌≡◌, ◌*◌, Float}
use Rattle.std.specs.Float.{binary32}
use Rattle.grids.specs.Grid.{cell}
use Rattle.grids.proofs.Loops.{Writing}
use Rattle.entries.specs.Entries.{product_t}
use Rattle.times_transpose.proofs.each.each_of_row.Given as goal

abbrev pub invariant-loop-q : goal.invariant-loop-q
invariant-loop-q g l = (h : Float → Float → Float) → ((x y v : Float) → goal.F-post g l.op x y v → v ≡ h x y) → Writing (l.r * l.cols) l.cols (λ i. h (cell l.cols l.fn.c l.r i) (product_t binary32 l.inner l.a l.b l.r i)) l.fn.c l.c (4 * l.q)

abbrev pub invariant-loop-j : goal.invariant-loop-j
invariant-loop-j g l = (h : Float → Float → Float) → ((x y v : Float) → goal.F-post g l.op x y v → v ≡ h x y) → Writing (l.r * l.cols) l.cols (λ i. h (cell l.cols l.fn.c l.r i) (product_t binary32 l.inner l.a l.b l.r i)) l.fn.c l.c l.j
