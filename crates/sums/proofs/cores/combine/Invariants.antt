-- i of the cells are written, for any h that says what op makes of two numbers.
use Rattle.std.proofs.Common.{◌≡◌, get_or, Float}
use Rattle.std.specs.Float.{nan}
use Rattle.grids.specs.Grid.{run}
use Rattle.sums.proofs.cores.combine.Given as goal

abbrev pub invariant-loop-i : goal.invariant-loop-i
invariant-loop-i g l = (h : Float → Float → Float) → ((x y r : Float) → goal.F-post g l.op x y r → r ≡ h x y) → l.a ≡ run 0 l.i (λ k. h (get_or l.initial.a k nan) (get_or l.b k nan)) l.initial.a
