-- Whether the first i are, for any g that says what op makes of two numbers.
use Rattle.std.proofs.Common.{◌≡◌, get_or, Float}
use Rattle.std.specs.Float.{nan}
use Rattle.numbers.specs.Finite.{all_finite}
use Rattle.finite.proofs.pairs_finite.Given as goal

abbrev pub invariant-loop-i : goal.invariant-loop-i
invariant-loop-i g l = (h : Float → Float → Float) → ((x y r : Float) → goal.F-post g l.op x y r → r ≡ h x y) → l.all ≡ all_finite l.i (λ k. h (get_or l.a k nan) (get_or l.b k nan))
