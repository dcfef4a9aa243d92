-- The correction of four states by two observations, stage by stage on values; each by the general definitions. Definitions only.
use Rattle.std.specs.Prelude.{◌≡◌, Bool, ◌&&◌, List, ℕ, ◌≤◌, Float}
use Rattle.std.specs.Float.{binary32}
use Rattle.std.specs.Float.Ieee.{add, sub, mul, neg}
use Rattle.side_by_side.specs.declared.Four.{Four}
use Rattle.side_by_side.specs.declared.Eight.{Eight}
use Rattle.side_by_side.specs.declared.Sixteen.{Sixteen}
use Rattle.numbers.specs.Reciprocal.{one, recip_of}
use Rattle.numbers.specs.Sums.{plus0}
use Rattle.numbers.specs.Finite.{all_finite, entries_finite}
use Rattle.grids.specs.Grid.{cell}
use Rattle.entries.specs.Entries.{numbers, times, times_t}
use Rattle.factors.specs.Decomposition.{reached, decomposed}
use Rattle.filters.specs.Correction.{innovation_of, new_x}
use Rattle.four_stages.specs.declared.Operands.{Operands}
use Rattle.four_stages.specs.declared.Root.{Root}
use Rattle.four_stages.specs.declared.Seen.{Seen}
use Rattle.four_values.specs.Values.{of_two, four, square, wide, tall, large, in_four, in_square, in_wide, in_tall, in_large}

-- what is read
unfoldable pub lent_in : List Float → List Float → List Float → List Float → List Float → Operands
lent_in x P H z R = record { x = four (numbers x); p = large (cell 4 P); h = wide (cell 4 H); r = square (cell 2 R); z0 = numbers z 0; z1 = numbers z 1 }

-- the innovation
unfoldable pub innovation : Operands → ℕ → Float
innovation b = innovation_of binary32 4 (in_wide b.h) (in_four b.x) (of_two b.z0 b.z1)

-- H·P
unfoldable pub projected : Eight → Sixteen → Eight
projected h p = wide (times binary32 4 (in_wide h) (in_large p))

-- S from it
unfoldable pub residual : Eight → Eight → Four → Four
residual g h r = square (λ i j. add binary32 (times_t binary32 4 (in_wide g) (in_wide h) i j) (in_square r i j))

-- all of these
pub record Observed (b : Operands) (v : Seen) : Type 0 where
  pub y0_is : v.y0 ≡ innovation b 0
  pub y1_is : v.y1 ≡ innovation b 1
  pub g_is : v.g ≡ projected b.h b.p
  pub s_is : v.s ≡ residual v.g b.h b.r

-- how many pivots of s are taken, what the decomposition leaves of it, and the diagonal's reciprocals where both are
pub record Rooted (s : Four) (v : Root) : Type 0 where
  pub taken_is : v.taken ≡ reached binary32 2 (in_square s)
  pub l_is : v.l ≡ square (decomposed binary32 2 (in_square s))
  pub d_is : 2 ≤ v.taken → (v.d0 ≡ recip_of binary32 v.l.t0) × (v.d1 ≡ recip_of binary32 v.l.t3)

-- the inverse from the factor's entry below the diagonal and the reciprocals on it: off the diagonal, and all of it
abbrev pub beside : Float → Float → Float → Float
beside l d0 d1 = mul binary32 (mul binary32 (add binary32 plus0 (mul binary32 (neg l) (mul binary32 one d0))) d1) d1

unfoldable pub inverted : Float → Float → Float → Four
inverted l d0 d1 = record {
  t0 = mul binary32 (add binary32 (mul binary32 one d0) (mul binary32 (neg l) (beside l d0 d1))) d0;
  t1 = beside l d0 d1;
  t2 = beside l d0 d1;
  t3 = mul binary32 (mul binary32 one d1) d1;
}

-- P·Hᵀ
unfoldable pub crossed : Sixteen → Eight → Eight
crossed p h = tall (times_t binary32 4 (in_large p) (in_wide h))

-- the gain
unfoldable pub gained : Eight → Four → Eight
gained f i = tall (times binary32 2 (in_tall f) (in_square i))

-- the gain times H·P
unfoldable pub spread : Eight → Eight → Sixteen
spread k g = large (times binary32 2 (in_tall k) (in_wide g))

-- P less that
unfoldable pub lessened : Sixteen → Sixteen → Sixteen
lessened p t = large (λ r c. sub binary32 (in_large p r c) (in_large t r c))

-- the new x
unfoldable pub moved : Four → Eight → Float → Float → Four
moved x k y0 y1 = four (new_x binary32 2 (in_tall k) (in_four x) (of_two y0 y1))

-- whether all of x and P are finite
unfoldable pub fine : Four → Sixteen → Bool
fine x n = all_finite 4 (in_four x) && entries_finite 4 (in_large n)
