-- The checked examples (R26), of the definitions themselves: one table, bits in hexadecimal. `proofs/Table.antt` computes it. Definitions only.
use Rattle.std.specs.Prelude.{Bool, true, false, not, ◌&&◌, List, [], ◌∷◌, ◌++◌, map, ℕ, eqb, length, replicate, Float, Err}
use Rattle.std.specs.Float.{binary32}
use Rattle.std.specs.Float.Ieee.{of_bits, to_bits}
use Rattle.answers.specs.declared.Refusal.TheVariants.{Size, Short}
use Rattle.answers.specs.Answers.{number_of, carried_by, settled}
use Rattle.numbers.specs.Root.{sqrt_of}
use Rattle.numbers.specs.Proposed.{accepts}
use Rattle.grids.specs.Grid.{cell, run, grid}
use Rattle.entries.specs.Entries.{product, row_product}
use Rattle.factors.specs.Decomposition.{reached, decomposed}
use Rattle.factors.specs.Inverse.{inverse}
use Rattle.filters.specs.Prediction.{predicted_x, temp_p, predicted_p}
use Rattle.filters.specs.Correction.{innovation_of, residual_of, gain_of, new_x, new_p}
use Rattle.filters.specs.Corrected.{finite_answer}
use Rattle.card_text.specs.Spelling.{card_length}
use Rattle.one_state.specs.declared.OneState.{OneState}
use Rattle.one_state.specs.OneState.{spread, gain, corrected_x, corrected_p, fresh, with_blind, predicted, corrected, answer_of, handed_back}
use Rattle.rows.specs.declared.Corrections.{Corrections}
use Rattle.rows.specs.declared.Corrections.TheVariants.{All, Part, Refused}
use Rattle.rows.specs.Rows.{row_answer, readings_answer, predicted_row, corrected_row, corrections_of}
use Rattle.promises.specs.Cards as cards
use Rattle.promises.specs.Cards.{equal, judged, judged_with}

-- ---- how a line is read

-- the numbers of these patterns
abbrev pub values : List ℕ → List Float
values bs = map (of_bits binary32) bs

-- the number x has the pattern b
unfoldable pub has : Float → ℕ → Bool
has x b = eqb (to_bits binary32 x) b

-- the numbers of the buffer have these patterns, and there are as many
unfoldable pub are : List Float → List ℕ → Bool
unfolding has
are [] [] = true
are [] (b ∷ bs) = false
are (x ∷ xs) [] = false
are (x ∷ xs) (b ∷ bs) = has x b && are xs bs

-- of the n by n matrix t, i pivots are taken (n: all), and these patterns are left
unfoldable pub leaves : ℕ → List ℕ → ℕ → List ℕ → Bool
unfolding are
leaves n t i after =
    eqb (reached binary32 n (cell n (values t))) i
    && are (grid n n (decomposed binary32 n (cell n (values t))) (values t)) after

-- the n by n factor l inverts to these patterns, in a destination that held d
unfoldable pub inverts : ℕ → List ℕ → List ℕ → List ℕ → Bool
unfolding are
inverts n l d after = are (grid n n (inverse binary32 n (cell n (values l)) (cell n (values d))) (values d)) after

-- A = [1 1; 0 1], P = [2 1; 1 3], Q = identity
abbrev A : List Float
A = values (0x3f800000 ∷ 0x3f800000 ∷ 0x00000000 ∷ 0x3f800000 ∷ [])

abbrev P : List Float
P = values (0x40000000 ∷ 0x3f800000 ∷ 0x3f800000 ∷ 0x40400000 ∷ [])

abbrev Q : List Float
Q = values (0x3f800000 ∷ 0x00000000 ∷ 0x00000000 ∷ 0x3f800000 ∷ [])

-- a 1 by 1 matrix of this pattern, and a vector of it
abbrev only : ℕ → ℕ → ℕ → Float
only b r c = of_bits binary32 b

abbrev alone : ℕ → ℕ → Float
alone b k = of_bits binary32 b

-- x, P, H, R and z of a correction of one state by one observation, with pivots that are taken: the last test answers this number
unfoldable pub tests : ℕ → ℕ → ℕ → ℕ → ℕ → ℕ → Bool
tests x p h r z number =
    let K = gain_of binary32 1 1 (only h) (only p) (only r) (only 0x7fc00000) in
    eqb (number_of (finite_answer 1 (new_x binary32 1 K (alone x) (innovation_of binary32 1 (only h) (alone x) (alone z))) (new_p binary32 1 1 K (only h) (only p)))) number

-- the record x, p, h, r, its model apart, corrected by the reading z answers this number
unfoldable pub says : ℕ → ℕ → ℕ → ℕ → ℕ → ℕ → Bool
says x p h r z number =
    let of = of_bits binary32 in
    eqb (number_of (answer_of (corrected (fresh (of x) (of p) (of 0x3f800000) (of 0) (of h) (of r)) (of z)))) number

-- the record x = 1, p = 3, a = h = 1, q = 0, r, refused `before` times in a row
abbrev yarn : ℕ → ℕ → OneState
yarn r before = let of = of_bits binary32 in with_blind (fresh (of 0x3f800000) (of 0x40400000) (of 0x3f800000) (of 0) (of 0x3f800000) (of r)) before

-- it has this count after a correction by the reading z
unfoldable pub blinds : ℕ → ℕ → ℕ → ℕ → Bool
blinds r before z after = eqb (handed_back (corrected (yarn r before) (of_bits binary32 z))).blind after

-- what may differ between the records of a row: the patterns of x and p, and the count
abbrev pub Row : Type 0
Row = List (ℕ × ℕ × ℕ)

-- the row of these, with a and q of these patterns and h = r = 1
abbrev row_of : ℕ → ℕ → Row → List OneState
row_of a q ts = let of = of_bits binary32 in map (λ (t : ℕ × ℕ × ℕ). with_blind (fresh (of t.0) (of t.1) (of a) (of q) (of 0x3f800000) (of 0x3f800000)) t.2) ts

-- the records are those
unfoldable pub stands : ℕ → ℕ → List OneState → Row → Bool
unfolding has are
stands a q [] [] = true
stands a q [] (t ∷ ts) = false
stands a q (s ∷ row) [] = false
stands a q (s ∷ row) (t ∷ ts) =
    are (s.x ∷ s.p ∷ s.a ∷ s.q ∷ s.h ∷ s.r ∷ []) (t.0 ∷ t.1 ∷ a ∷ q ∷ 0x3f800000 ∷ 0x3f800000 ∷ []) && eqb s.blind t.2 && stands a q row ts

-- what the correction of a row says, by numbers
abbrev coded : Corrections → List ℕ
coded (All n) = 0 ∷ n ∷ []
coded (Part n i) = 1 ∷ n ∷ i ∷ []
coded (Refused v) = 2 ∷ number_of v ∷ carried_by v

-- a row with a = 1 and q = 0, corrected by these readings: the call says c and leaves these
unfoldable pub corrects : Row → List ℕ → Corrections → Row → Bool
unfolding stands equal
corrects before zs c after =
    let row = row_of 0x3f800000 0 before in
    equal (coded (corrections_of row (values zs))) (coded c)
    && stands 0x3f800000 0 (settled (readings_answer (length row) (length zs)) (corrected_row row (values zs)) row) after

-- one with this a and q, predicted: the call answers this number and leaves these
unfoldable pub predicts : ℕ → ℕ → Row → ℕ → Row → Bool
unfolding stands
predicts a q before number after =
    let row = row_of a q before in
    eqb (number_of (row_answer (length row))) number && stands a q (settled (row_answer (length row)) (predicted_row row) row) after

-- x = 1, p = 3, not refused yet
abbrev feeder : ℕ × ℕ × ℕ
feeder = (0x3f800000, 0x40400000, 0)

-- ---- the table

unfoldable pub table : Bool
unfolding has are leaves inverts tests says blinds corrects predicts judged judged_with cards.says cards.writes cards.refuses
table =
    -- roots of 4 and 2
    has (sqrt_of binary32 (of_bits binary32 0x40800000)) 0x40000000
    && has (sqrt_of binary32 (of_bits binary32 0x40000000)) 0x3fb504f3
    -- of the least and the largest number, of −0 and of +∞
    && has (sqrt_of binary32 (of_bits binary32 0x00000001)) 0x1a3504f3
    && has (sqrt_of binary32 (of_bits binary32 0x7f7fffff)) 0x5f7fffff
    && has (sqrt_of binary32 (of_bits binary32 0x80000000)) 0x80000000
    && has (sqrt_of binary32 (of_bits binary32 0x7f800000)) 0x7f800000
    -- proposed roots of 2^46, and of one less: the second leads below the least of 24 digits
    && accepts 24 0x400000000000 0x800000
    && not (accepts 24 0x3fffffffffff 0x800000)
    -- of 2^46 + 2^23, of 2^47 and of 2^48 - 1
    && accepts 24 0x400000800000 0x800000
    && not (accepts 24 0x400000800000 0x800001)
    && accepts 24 0x800000000000 0xb504f3
    && not (accepts 24 0x800000000000 0xb504f4)
    && not (accepts 24 0xffffffffffff 0x1000000)
    -- A·x
    && are (run 0 2 (predicted_x binary32 2 A (values (0x40400000 ∷ 0x40000000 ∷ []))) (values (0x40400000 ∷ 0x40000000 ∷ []))) (0x40a00000 ∷ 0x40000000 ∷ [])
    -- A·P, and A·P·Aᵀ + Q
    && are (grid 2 2 (temp_p binary32 2 A P) P) (0x40400000 ∷ 0x40800000 ∷ 0x3f800000 ∷ 0x40400000 ∷ [])
    && are (grid 2 2 (predicted_p binary32 2 A P Q) P) (0x41000000 ∷ 0x40800000 ∷ 0x40800000 ∷ 0x40800000 ∷ [])
    -- a matrix that is decomposed, and the same with a NaN below the diagonal
    && leaves 2 (0x40800000 ∷ 0x40000000 ∷ 0x40000000 ∷ 0x40a00000 ∷ []) 2 (0x40000000 ∷ 0x00000000 ∷ 0x3f800000 ∷ 0x40000000 ∷ [])
    && leaves 2 (0x40800000 ∷ 0x40000000 ∷ 0x7fc00000 ∷ 0x40a00000 ∷ []) 2 (0x40000000 ∷ 0x00000000 ∷ 0x3f800000 ∷ 0x40000000 ∷ [])
    -- its inverse, in a destination that held NaN
    && inverts 2 (0x40000000 ∷ 0x00000000 ∷ 0x3f800000 ∷ 0x40000000 ∷ []) (0x7fc00000 ∷ 0x7fc00000 ∷ 0x7fc00000 ∷ 0x7fc00000 ∷ []) (0x3ea00000 ∷ 0xbe000000 ∷ 0xbe000000 ∷ 0x3e800000 ∷ [])
    -- refused at pivot 1
    && leaves 2 (0x3f800000 ∷ 0x40000000 ∷ 0x40000000 ∷ 0x3f800000 ∷ []) 1 (0x3f800000 ∷ 0x40000000 ∷ 0x40000000 ∷ 0xc0400000 ∷ [])
    -- refused at pivot 0: below zero, NaN, and +∞, which leaves +∞·(+0)
    && leaves 1 (0xc0a00000 ∷ []) 0 (0x80000000 ∷ [])
    && leaves 1 (0x7fc00000 ∷ []) 0 (0x7fc00000 ∷ [])
    && leaves 1 (0x7f800000 ∷ []) 0 (0x7fc00000 ∷ [])
    -- the largest number is taken
    && leaves 1 (0x7f7fffff ∷ []) 1 (0x5f7fffff ∷ [])
    -- refused at pivot 1 for +∞, which stays
    && leaves 2 (0x40800000 ∷ 0x40000000 ∷ 0x40000000 ∷ 0x7f800000 ∷ []) 1 (0x40000000 ∷ 0x40000000 ∷ 0x3f800000 ∷ 0x7f800000 ∷ [])
    -- the inverse asks for no pivot: from L = [+∞] it is +0
    && inverts 1 (0x7f800000 ∷ []) (0x7fc00000 ∷ []) (0x00000000 ∷ [])
    -- a correction, S, K, x and P: by the general filter
    && has (residual_of binary32 1 (only 0x3f800000) (only 0x40400000) (only 0x3f800000) 0 0) 0x40800000
    && has (gain_of binary32 1 1 (only 0x3f800000) (only 0x40400000) (only 0x3f800000) (only 0x7fc00000) 0 0) 0x3f400000
    && has (
    new_x binary32 1 (gain_of binary32 1 1 (only 0x3f800000) (only 0x40400000) (only 0x3f800000) (only 0x7fc00000)) (alone 0x3f800000)
    (innovation_of binary32 1 (only 0x3f800000) (alone 0x3f800000) (alone 0x40a00000)) 0) 0x40800000
    && has (
    new_p binary32 1 1 (gain_of binary32 1 1 (only 0x3f800000) (only 0x40400000) (only 0x3f800000) (only 0x7fc00000)) (only 0x3f800000) (only 0x40400000) 0 0) 0x3f400000
    -- and by the record
    && has (spread binary32 (of_bits binary32 0x3f800000) (of_bits binary32 0x40400000) (of_bits binary32 0x3f800000)) 0x40800000
    && has (gain binary32 (of_bits binary32 0x3f800000) (of_bits binary32 0x40400000) (of_bits binary32 0x3f800000)) 0x3f400000
    && has (corrected_x binary32 (of_bits binary32 0x3f800000) (of_bits binary32 0x40400000) (of_bits binary32 0x3f800000) (of_bits binary32 0x3f800000) (of_bits binary32 0x40a00000)) 0x40800000
    && has (corrected_p binary32 (of_bits binary32 0x40400000) (of_bits binary32 0x3f800000) (of_bits binary32 0x3f800000)) 0x3f400000
    -- the same by readings that are NaN, +∞ and −∞: refused with 9; by the largest number it is done
    && tests 0x3f800000 0x40400000 0x3f800000 0x3f800000 0x40a00000 0
    && tests 0x3f800000 0x40400000 0x3f800000 0x3f800000 0x7fc00000 9
    && tests 0x3f800000 0x40400000 0x3f800000 0x3f800000 0x7f800000 9
    && tests 0x3f800000 0x40400000 0x3f800000 0x3f800000 0xff800000 9
    && tests 0x3f800000 0x40400000 0x3f800000 0x3f800000 0x7f7fffff 0
    && says 0x3f800000 0x40400000 0x3f800000 0x3f800000 0x40a00000 0
    && says 0x3f800000 0x40400000 0x3f800000 0x3f800000 0x7fc00000 9
    && says 0x3f800000 0x40400000 0x3f800000 0x3f800000 0x7f800000 9
    && says 0x3f800000 0x40400000 0x3f800000 0x3f800000 0xff800000 9
    && says 0x3f800000 0x40400000 0x3f800000 0x3f800000 0x7f7fffff 0
    -- by NaN with R = −5, or with R infinite: 4 comes first
    && says 0x3f800000 0x40400000 0x3f800000 0xc0a00000 0x7fc00000 4
    && says 0x3f800000 0x40400000 0x3f800000 0x7f800000 0x7fc00000 4
    -- an x that is +∞ already, and a p: 9, and 4
    && says 0x7f800000 0x40400000 0x3f800000 0x3f800000 0x40a00000 9
    && says 0x3f800000 0x7f800000 0x3f800000 0x3f800000 0x40a00000 4
    -- how often in a row it was refused: by 5 it is done, by NaN refused with 9, and with r = −5 with 4; a prediction leaves it
    && blinds 0x3f800000 0 0x40a00000 0
    && blinds 0x3f800000 7 0x40a00000 0
    && blinds 0x3f800000 255 0x40a00000 0
    && blinds 0x3f800000 0 0x7fc00000 1
    && blinds 0x3f800000 2 0x7fc00000 3
    && blinds 0x3f800000 254 0x7fc00000 255
    && blinds 0x3f800000 255 0x7fc00000 255
    && blinds 0xc0a00000 0 0x40a00000 1
    && blinds 0xc0a00000 254 0x40a00000 255
    && blinds 0xc0a00000 255 0x40a00000 255
    && eqb (predicted (yarn 0x3f800000 9)).blind 9
    -- rows of such records by 5: of none, of two, of thirteen, and of two by one reading
    && corrects [] (0x40a00000 ∷ []) (All 0) []
    && corrects (feeder ∷ feeder ∷ []) (0x40a00000 ∷ 0x40a00000 ∷ []) (All 2) ((0x40800000, 0x3f400000, 0) ∷ (0x40800000, 0x3f400000, 0) ∷ [])
    && corrects (replicate 13 feeder) (replicate 13 0x40a00000) (Refused (Err (Size 0))) (replicate 13 feeder)
    && corrects (feeder ∷ feeder ∷ []) (0x40a00000 ∷ []) (Refused (Err (Short 1))) (feeder ∷ feeder ∷ [])
    -- of three by 5, NaN and 5, and by NaN, 5 and +∞: a refused one stays as it was among the others, its count one up, and the first is named
    && corrects (feeder ∷ feeder ∷ feeder ∷ []) (0x40a00000 ∷ 0x7fc00000 ∷ 0x40a00000 ∷ []) (Part 2 1)
    ((0x40800000, 0x3f400000, 0) ∷ (0x3f800000, 0x40400000, 1) ∷ (0x40800000, 0x3f400000, 0) ∷ [])
    && corrects (feeder ∷ feeder ∷ feeder ∷ []) (0x7fc00000 ∷ 0x40a00000 ∷ 0x7f800000 ∷ []) (Part 1 0)
    ((0x3f800000, 0x40400000, 1) ∷ (0x40800000, 0x3f400000, 0) ∷ (0x3f800000, 0x40400000, 1) ∷ [])
    -- rows predicted with a = 2 and q = 1: of two, of twelve and of thirteen
    && predicts 0x40000000 0x3f800000 (feeder ∷ (0x40000000, 0x3f800000, 3) ∷ []) 0 ((0x40000000, 0x41500000, 0) ∷ (0x40800000, 0x40a00000, 3) ∷ [])
    && predicts 0x40000000 0x3f800000 (replicate 12 feeder) 0 (replicate 12 (0x40000000, 0x41500000, 0))
    && predicts 0x40000000 0x3f800000 (replicate 13 feeder) 1 (replicate 13 feeder)
    -- −1 times +0, without and with a +0 in front
    && has (row_product binary32 1 (values (0xbf800000 ∷ [])) (values (0x00000000 ∷ [])) 0) 0x80000000
    && has (product binary32 1 1 (values (0xbf800000 ∷ [])) (values (0x00000000 ∷ [])) 0 0) 0x00000000
    -- 16777215 + 1, exact; 16777216 + 1, past the limit of R23
    && has (predicted_x binary32 2 A (values (0x4b7fffff ∷ 0x3f800000 ∷ [])) 0) 0x4b800000
    && has (predicted_x binary32 2 A (values (0x4b800000 ∷ 0x3f800000 ∷ [])) 0) 0x4b800000
    -- the whole card of one state: taken, and what it holds
    && judged cards.card 0 []
    && cards.says cards.card 1 1 (0x3f800000 ∷ []) (0x3c800000 ∷ []) (0x3f800000 ∷ []) (0x3f800000 ∷ [])
    -- the same with carriage returns, without its last newline, and with a byte behind it
    && judged (cards.returns cards.card) 5 (1 ∷ [])
    && judged (cards.cut cards.card) 5 (7 ∷ [])
    && judged (cards.card ++ (10 ∷ [])) 5 (8 ∷ [])
    -- no text at all
    && judged [] 5 (1 ∷ [])
    -- `edition=0`, `2`, `99`, and with nothing below it; `01` and `100`; `edition=2` with no newline
    && judged (cards.with1 cards.c0) 6 []
    && judged (cards.with1 cards.c99) 6 []
    && judged (cards.edition cards.c2) 6 []
    && judged (cards.with1 cards.c01) 5 (1 ∷ [])
    && judged (cards.with1 cards.c100) 5 (1 ∷ [])
    && judged (cards.cut (cards.edition cards.c2)) 5 (1 ∷ [])
    -- `states=0` and `17`; `00` and `123`
    && judged (cards.with2 cards.c0) 1 (0 ∷ [])
    && judged (cards.with2 cards.c17) 1 (0 ∷ [])
    && judged (cards.with2 cards.c00) 5 (2 ∷ [])
    && judged (cards.with2 cards.c123) 5 (2 ∷ [])
    -- `states=2` with the matrices of one state
    && judged (cards.with2 cards.c2) 5 (4 ∷ [])
    -- a capital digit, and one comma too many
    && judged (cards.with4 cards.capital) 5 (4 ∷ [])
    && judged (cards.with4 cards.comma) 5 (4 ∷ [])
    -- lines 2 and 3 swapped, and lines 5 and 6
    && judged (cards.text (cards.edition cards.c1 ∷ cards.observations cards.c1 ∷ cards.states cards.c1 ∷ cards.matrix 97 cards.one ∷ cards.matrix 113 cards.one ∷ cards.matrix 104 cards.one ∷ cards.matrix 114 cards.one ∷ [])) 5 (2 ∷ [])
    && judged (cards.text (cards.edition cards.c1 ∷ cards.states cards.c1 ∷ cards.observations cards.c1 ∷ cards.matrix 97 cards.one ∷ cards.matrix 104 cards.one ∷ cards.matrix 113 cards.one ∷ cards.matrix 114 cards.one ∷ [])) 5 (5 ∷ [])
    -- `states=17` above a broken line 5, and below a broken line 1
    && judged (cards.text (cards.edition cards.c1 ∷ cards.states cards.c17 ∷ cards.observations cards.c1 ∷ cards.matrix 97 cards.one ∷ cards.matrix 104 cards.one ∷ [])) 1 (0 ∷ [])
    && judged (cards.text (cards.edition cards.c01 ∷ cards.states cards.c17 ∷ [])) 5 (1 ∷ [])
    -- buffers of 1, 1, 0 and 0 numbers; the same for a card with a byte behind it
    && judged_with cards.card 1 1 0 0 2 (2 ∷ [])
    && judged_with (cards.card ++ (0 ∷ [])) 0 0 0 0 5 (8 ∷ [])
    -- the card of one state, written of its numbers; one of NaN of two other patterns, −0 and +∞
    && cards.writes 0x3f800000 0x3c800000 0x3f800000 0x3f800000 cards.card
    && cards.writes 0xffc12345 0x80000000 0x7f800001 0x7f800000 (cards.card_of cards.quiet_nan cards.minus_zero cards.quiet_nan cards.infinity)
    -- how long cards are: (1, 1), (9, 10), (10, 9) and (16, 16)
    && eqb (card_length 8 1 1) 78
    && eqb (card_length 8 9 10) 3211
    && eqb (card_length 8 10 9) 3382
    && eqb (card_length 8 16 16) 9260
    -- 78 bytes, and 77; no byte, and no number of R; 17 observations, and 0 states with them
    && cards.refuses 1 1 1 1 1 1 78 0 []
    && cards.refuses 1 1 1 1 1 1 77 2 (4 ∷ [])
    && cards.refuses 1 1 1 1 1 0 0 2 (3 ∷ [])
    && cards.refuses 1 17 0 0 0 0 0 1 (1 ∷ [])
    && cards.refuses 0 17 0 0 0 0 0 1 (0 ∷ [])
