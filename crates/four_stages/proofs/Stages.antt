-- Each stage on values that are made of entries is the general definition at n = 4 and m = 2: both compute to the same sums. Assumes nothing.
use mathlib.Core.Path.{◌≡◌, refl}
use mathlib.Core.Bool.{Bool, true, false, ◌&&◌}
use Prim.Native.Nat.{ℕ}
use lib.Ieee.{Float, binary32, add, sub}
use Rattle.side_by_side.specs.declared.Four.{Four}
use Rattle.side_by_side.specs.declared.Eight.{Eight}
use Rattle.side_by_side.specs.declared.Sixteen.{Sixteen}
use Rattle.numbers.specs.Reciprocal.{recip_of}
use Rattle.numbers.specs.Sums.{sum_from}
use Rattle.numbers.specs.Finite.{every, all_finite, entries_finite}
use Rattle.entries.specs.Entries.{times, times_t}
use Rattle.factors.specs.Inverse.{plus_sum, solved, back, inverse}
use Rattle.filters.specs.Correction.{new_x}
use Rattle.four_values.specs.Values.{four, square, wide, tall, large}
use Rattle.four_stages.specs.declared.Operands.{Operands}
use Rattle.four_stages.specs.Stages.{projected, residual, inverted, crossed, gained, spread, lessened, moved, fine}

-- ---- what is read

abbrev made : Four → Sixteen → Eight → Four → Float → Float → Operands
made x p h r z0 z1 = record { x = x; p = p; h = h; r = r; z0 = z0; z1 = z1 }

pub operands_are :
    {x x' r r' : Four} {p p' : Sixteen} {h h' : Eight} {z0 z1 : Float} → x ≡ x' → p ≡ p' → h ≡ h' → r ≡ r'
    → made x p h r z0 z1 ≡ made x' p' h' r' z0 z1
operands_are a b c d = rw (a, b, c, d)

-- ---- stages

module _ (H P : ℕ → ℕ → Float) where
  pub projected_of : projected (wide H) (large P) ≡ wide (times binary32 4 H P)
  unfolding projected sum_from
  projected_of = refl

  pub crossed_of : crossed (large P) (wide H) ≡ tall (times_t binary32 4 P H)
  unfolding crossed sum_from
  crossed_of = refl

pub residual_of_lem : (G H R : ℕ → ℕ → Float) → residual (wide G) (wide H) (square R) ≡ square (λ r c. add binary32 (times_t binary32 4 G H r c) (R r c))
unfolding residual sum_from
residual_of_lem G H R = refl

-- the inverse does not go by what its buffer held
pub inverted_of : (L e : ℕ → ℕ → Float) → inverted (L 1 0) (recip_of binary32 (L 0 0)) (recip_of binary32 (L 1 1)) ≡ square (inverse binary32 2 L e)
unfolding inverted plus_sum solved back sum_from
inverted_of L e = refl

pub gained_of : (F I : ℕ → ℕ → Float) → gained (tall F) (square I) ≡ tall (times binary32 2 F I)
unfolding gained sum_from
gained_of F I = refl

pub spread_of : (K G : ℕ → ℕ → Float) → spread (tall K) (wide G) ≡ large (times binary32 2 K G)
unfolding spread sum_from
spread_of K G = refl

pub lessened_of : (P T : ℕ → ℕ → Float) → lessened (large P) (large T) ≡ large (λ r c. sub binary32 (P r c) (T r c))
unfolding lessened
lessened_of P T = refl

pub moved_of : (x : ℕ → Float) (K : ℕ → ℕ → Float) (y : ℕ → Float) → moved (four x) (tall K) (y 0) (y 1) ≡ four (new_x binary32 2 K x y)
unfolding moved sum_from
moved_of x K y = refl

pub fine_of : (x : ℕ → Float) (P : ℕ → ℕ → Float) → fine (four x) (large P) ≡ all_finite 4 x && entries_finite 4 P
unfolding fine every
fine_of x P = refl

-- ---- a test after another

pub both : (t u r : Bool) → t ≡ true → r ≡ u → r ≡ t && u
both t u r h q = rw h q

pub not_first : (t u : Bool) → t ≡ false → false ≡ t && u
not_first t u h = rw h refl
