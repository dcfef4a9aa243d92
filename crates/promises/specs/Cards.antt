-- Cards for the table of checked examples (R26, R34, R35): texts byte by byte, what they are answered with, and what is written. Definitions only.
use Rattle.std.specs.Prelude.{Bool, true, false, ◌&&◌, cond, List, [], ◌∷◌, ◌++◌, ℕ, eqb}
use Rattle.std.specs.Float.{binary32}
use Rattle.std.specs.Float.Ieee.{of_bits}
use Rattle.answers.specs.Answers.{number_of, carried_by}
use Rattle.card_text.specs.Card.{card_answer, read_answer, states_of, observations_of, a_of, q_of, h_of, r_of}
use Rattle.card_text.specs.Spelling.{card_text}
use Rattle.card_text.specs.Said.{said}
use Rattle.cards.specs.Written.{write_answer}

-- ---- lines with the newline that ends them, byte by byte

-- `edition=`, `states=` and `observations=`, and the bytes of a count
abbrev pub edition : List ℕ → List ℕ
edition v = 101 ∷ 100 ∷ 105 ∷ 116 ∷ 105 ∷ 111 ∷ 110 ∷ 61 ∷ (v ++ (10 ∷ []))

abbrev pub states : List ℕ → List ℕ
states v = 115 ∷ 116 ∷ 97 ∷ 116 ∷ 101 ∷ 115 ∷ 61 ∷ (v ++ (10 ∷ []))

abbrev pub observations : List ℕ → List ℕ
observations v = 111 ∷ 98 ∷ 115 ∷ 101 ∷ 114 ∷ 118 ∷ 97 ∷ 116 ∷ 105 ∷ 111 ∷ 110 ∷ 115 ∷ 61 ∷ (v ++ (10 ∷ []))

-- `1`, `0`, `00`, `01`, `2`, `17`, `99`, `100` and `123`
abbrev pub c1 : List ℕ
c1 = 49 ∷ []

abbrev pub c0 : List ℕ
c0 = 48 ∷ []

abbrev pub c00 : List ℕ
c00 = 48 ∷ 48 ∷ []

abbrev pub c01 : List ℕ
c01 = 48 ∷ 49 ∷ []

abbrev pub c2 : List ℕ
c2 = 50 ∷ []

abbrev pub c17 : List ℕ
c17 = 49 ∷ 55 ∷ []

abbrev pub c99 : List ℕ
c99 = 57 ∷ 57 ∷ []

abbrev pub c100 : List ℕ
c100 = 49 ∷ 48 ∷ 48 ∷ []

abbrev pub c123 : List ℕ
c123 = 49 ∷ 50 ∷ 51 ∷ []

-- a letter, `=`, and the bytes of entries: `a=`, `q=`, `h=` and `r=` by 97, 113, 104 and 114
abbrev pub matrix : ℕ → List ℕ → List ℕ
matrix key v = key ∷ 61 ∷ (v ++ (10 ∷ []))

-- `3f800000`, `3c800000`, `3F800000` and `3f800000,`
abbrev pub one : List ℕ
one = 51 ∷ 102 ∷ 56 ∷ 48 ∷ 48 ∷ 48 ∷ 48 ∷ 48 ∷ []

abbrev pub sixtyfourth : List ℕ
sixtyfourth = 51 ∷ 99 ∷ 56 ∷ 48 ∷ 48 ∷ 48 ∷ 48 ∷ 48 ∷ []

abbrev pub capital : List ℕ
capital = 51 ∷ 70 ∷ 56 ∷ 48 ∷ 48 ∷ 48 ∷ 48 ∷ 48 ∷ []

abbrev pub comma : List ℕ
comma = 51 ∷ 102 ∷ 56 ∷ 48 ∷ 48 ∷ 48 ∷ 48 ∷ 48 ∷ 44 ∷ []

-- `7fc00000`, `80000000` and `7f800000`
abbrev pub quiet_nan : List ℕ
quiet_nan = 55 ∷ 102 ∷ 99 ∷ 48 ∷ 48 ∷ 48 ∷ 48 ∷ 48 ∷ []

abbrev pub minus_zero : List ℕ
minus_zero = 56 ∷ 48 ∷ 48 ∷ 48 ∷ 48 ∷ 48 ∷ 48 ∷ 48 ∷ []

abbrev pub infinity : List ℕ
infinity = 55 ∷ 102 ∷ 56 ∷ 48 ∷ 48 ∷ 48 ∷ 48 ∷ 48 ∷ []

-- ---- texts

-- lines one after the other
abbrev pub text : List (List ℕ) → List ℕ
text [] = []
text (l ∷ ls) = l ++ text ls

-- the same with a carriage return before each newline
unfoldable pub returns : List ℕ → List ℕ
returns [] = []
returns (b ∷ t) = cond (eqb b 10) (13 ∷ b ∷ returns t) (b ∷ returns t)

-- without the last byte
unfoldable pub cut : List ℕ → List ℕ
cut [] = []
cut (b ∷ []) = []
cut (b ∷ c ∷ t) = b ∷ cut (c ∷ t)

-- the card of one state and one observation with these in the places of lines 1, 2 and 4
abbrev pub lines : List ℕ → List ℕ → List ℕ → List ℕ
lines e n a = text (e ∷ n ∷ observations c1 ∷ a ∷ matrix 113 sixtyfourth ∷ matrix 104 one ∷ matrix 114 one ∷ [])

-- the whole card, and the same with another line 1, 2 or 4
abbrev pub card : List ℕ
card = lines (edition c1) (states c1) (matrix 97 one)

abbrev pub with1 : List ℕ → List ℕ
with1 v = lines (edition v) (states c1) (matrix 97 one)

abbrev pub with2 : List ℕ → List ℕ
with2 v = lines (edition c1) (states v) (matrix 97 one)

abbrev pub with4 : List ℕ → List ℕ
with4 v = lines (edition c1) (states c1) (matrix 97 v)

-- the card of one state and one observation with these entries
abbrev pub card_of : List ℕ → List ℕ → List ℕ → List ℕ → List ℕ
card_of a q h r = text (edition c1 ∷ states c1 ∷ observations c1 ∷ matrix 97 a ∷ matrix 113 q ∷ matrix 104 h ∷ matrix 114 r ∷ [])

-- ---- answers

-- the same numbers, and as many
unfoldable pub equal : List ℕ → List ℕ → Bool
equal [] [] = true
equal [] (n ∷ ns) = false
equal (m ∷ ms) [] = false
equal (m ∷ ms) (n ∷ ns) = eqb m n && equal ms ns

-- the text is answered with this number, which carries this
unfoldable pub judged : List ℕ → ℕ → List ℕ → Bool
unfolding equal
judged s number carried = equal (number_of (card_answer 8 s) ∷ carried_by (card_answer 8 s)) (number ∷ carried)

-- with buffers of so many numbers it is
unfoldable pub judged_with : List ℕ → ℕ → ℕ → ℕ → ℕ → ℕ → List ℕ → Bool
unfolding equal
judged_with s la lq lh lr number carried = let v = read_answer 8 s la lq lh lr in equal (number_of v ∷ carried_by v) (number ∷ carried)

-- the text holds these sizes and patterns
unfoldable pub says : List ℕ → ℕ → ℕ → List ℕ → List ℕ → List ℕ → List ℕ → Bool
unfolding equal
says s n m a q h r =
    eqb (states_of s) n && eqb (observations_of s) m && equal (a_of 8 s) a && equal (q_of 8 s) q && equal (h_of 8 s) h && equal (r_of 8 s) r

-- ---- what is written

-- the card of one state and one observation with the numbers of these patterns is this text
unfoldable pub writes : ℕ → ℕ → ℕ → ℕ → List ℕ → Bool
unfolding equal
writes a q h r t = equal (card_text 8 (said binary32 1 1 (of_bits binary32 a ∷ []) (of_bits binary32 q ∷ []) (of_bits binary32 h ∷ []) (of_bits binary32 r ∷ []))) t

-- n states and m observations with buffers of so many numbers and bytes are answered with this number, which carries this
unfoldable pub refuses : ℕ → ℕ → ℕ → ℕ → ℕ → ℕ → ℕ → ℕ → List ℕ → Bool
unfolding equal
refuses n m la lq lh lr lb number carried = let v = write_answer 8 n m la lq lh lr lb in equal (number_of v ∷ carried_by v) (number ∷ carried)
