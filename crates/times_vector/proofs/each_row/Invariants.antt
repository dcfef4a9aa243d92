-- Four times q of the numbers are stored, and then r of them, for any h that says what op makes of two numbers.
use Rattle.std.proofs.Common.{◌≡◌, ◌*◌, get_or, Float}
use Rattle.std.specs.Float.{binary32, nan}
use Rattle.grids.proofs.Loops.{Writing}
use Rattle.entries.specs.Entries.{row_product}
use Rattle.times_vector.proofs.each_row.Given as goal

abbrev pub invariant-loop-q : goal.invariant-loop-q
invariant-loop-q g l = (h : Float → Float → Float) → ((x y r : Float) → goal.F-post g l.op x y r → r ≡ h x y) → Writing 0 l.rows (λ i. h (get_or l.fn.c i nan) (row_product binary32 l.inner l.a l.x i)) l.fn.c l.c (4 * l.q)

abbrev pub invariant-loop-r : goal.invariant-loop-r
invariant-loop-r g l = (h : Float → Float → Float) → ((x y r : Float) → goal.F-post g l.op x y r → r ≡ h x y) → Writing 0 l.rows (λ i. h (get_or l.fn.c i nan) (row_product binary32 l.inner l.a l.x i)) l.fn.c l.c l.r
