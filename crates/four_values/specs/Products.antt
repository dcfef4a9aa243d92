-- Products of matrices by value, each by the general definition. Definitions only.
use Rattle.std.specs.Prelude.{Float}
use Rattle.std.specs.Float.{binary32}
use Rattle.std.specs.Float.Ieee.{add, sub, mul}
use Rattle.side_by_side.specs.declared.Four.{Four}
use Rattle.side_by_side.specs.declared.Eight.{Eight}
use Rattle.side_by_side.specs.declared.Sixteen.{Sixteen}
use Rattle.entries.specs.Entries.{times, times_t, times_x}
use Rattle.four_values.specs.Values.{of_two, four, square, large, in_four, in_square, in_wide, in_large}

-- a row times P
unfoldable pub row_times : Four → Sixteen → Four
row_times h p = four (times binary32 4 (λ r. in_four h) (in_large p) 0)

-- t, and x times the row a and y times the row b on top
unfoldable pub with_two : Four → Float → Four → Float → Four → Four
with_two t x a y b = four (λ k. add binary32 (add binary32 (in_four t k) (mul binary32 x (in_four a k))) (mul binary32 y (in_four b k)))

-- two rows times Hᵀ
unfoldable pub rows_across : Four → Four → Eight → Four
rows_across a b h = square (times_t binary32 4 (of_two (in_four a) (in_four b)) (in_wide h))

-- two by two times two by two
unfoldable pub square_times : Four → Four → Four
square_times a b = square (times binary32 2 (in_square a) (in_square b))

-- a row of two times two rows of four
unfoldable pub pair_times : Float → Float → Eight → Four
pair_times a b g = four (times binary32 2 (λ r. of_two a b) (in_wide g) 0)

-- a row times x, the first product being the start
unfoldable pub row_dot : Four → Four → Float
row_dot h x = times_x binary32 4 (λ r. in_four h) (in_four x) 0

-- four numbers less four others
unfoldable pub differences : Four → Four → Four
differences a b = four (λ k. sub binary32 (in_four a k) (in_four b k))

-- rows for columns
unfoldable pub transposed : Sixteen → Sixteen
transposed t = large (λ r c. in_large t c r)
