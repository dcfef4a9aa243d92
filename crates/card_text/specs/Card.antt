-- A settings card: which text is one, what the first bad line is answered with, and what the card holds (R34). Definitions only.
-- d is how many digits an entry has: eight for binary32.
use Rattle.std.specs.Prelude.{Bool, true, false, ◌&&◌, cond, List, [], ◌∷◌, ◌++◌, ℕ, ◌*◌, eqb, length, drop, Ok, Err}
use Rattle.answers.specs.declared.Refusal.TheVariants.{Line, Edition}
use Rattle.answers.specs.Answers.{Answer}
use Rattle.answers.specs.Tests.{size_test, Lent, lent, buffer_tests, after_tests}
use Rattle.card_text.specs.Lines.{ends, first_line, behind_lines}
use Rattle.card_text.specs.Values.{begins, is_count, number_in, are_entries, entries_in}

-- ---- the keys

-- `edition=`
abbrev pub edition_key : List ℕ
edition_key = 101 ∷ 100 ∷ 105 ∷ 116 ∷ 105 ∷ 111 ∷ 110 ∷ 61 ∷ []

-- `states=`
abbrev pub states_key : List ℕ
states_key = 115 ∷ 116 ∷ 97 ∷ 116 ∷ 101 ∷ 115 ∷ 61 ∷ []

-- `observations=`
abbrev pub observations_key : List ℕ
observations_key = 111 ∷ 98 ∷ 115 ∷ 101 ∷ 114 ∷ 118 ∷ 97 ∷ 116 ∷ 105 ∷ 111 ∷ 110 ∷ 115 ∷ 61 ∷ []

-- `a=`, `q=`, `h=`, `r=`
abbrev pub a_key : List ℕ
a_key = 97 ∷ 61 ∷ []

abbrev pub q_key : List ℕ
q_key = 113 ∷ 61 ∷ []

abbrev pub h_key : List ℕ
h_key = 104 ∷ 61 ∷ []

abbrev pub r_key : List ℕ
r_key = 114 ∷ 61 ∷ []

-- ---- a line: the first of the text t, which is what the card has from there on

-- it is ended by a newline, and begins with the key
abbrev pub keyed : List ℕ → List ℕ → Bool
keyed key t = ends t && begins key (first_line t)

-- what stands in it behind the key
abbrev pub value_of : List ℕ → List ℕ → List ℕ
value_of key t = drop (length key) (first_line t)

-- it is the key and a count; the number
unfoldable pub count_line : List ℕ → List ℕ → Bool
count_line key t = keyed key t && is_count (value_of key t)

unfoldable pub count_of : List ℕ → List ℕ → ℕ
count_of key t = number_in (value_of key t)

-- it is the key and k entries of d digits; their numbers
unfoldable pub entries_line : ℕ → List ℕ → ℕ → List ℕ → Bool
entries_line d key k t = keyed key t && are_entries d k (value_of key t)

unfoldable pub entries_of : ℕ → List ℕ → ℕ → List ℕ → List ℕ
entries_of d key k t = entries_in d k (value_of key t)

-- ---- a card: lines are numbered from 1, and behind line k stands `behind_lines k s`

-- how many states and observations the card s has
abbrev pub states_of : List ℕ → ℕ
states_of s = count_of states_key (behind_lines 1 s)

abbrev pub observations_of : List ℕ → ℕ
observations_of s = count_of observations_key (behind_lines 2 s)

-- nothing stands there
abbrev pub nothing : List ℕ → Bool
nothing [] = true
nothing (b ∷ t) = false

-- refusal 5 of line k where it is not as it must be
abbrev pub line_test : ℕ → Bool → Answer
line_test k good = cond good (Ok tt) (Err (Line k))

-- refusal 6 of an edition other than 1
abbrev pub edition_test : ℕ → Answer
edition_test e = cond (eqb e 1) (Ok tt) (Err Edition)

-- The tests of lines 1 to 3 of a card of n states and m observations, from the top: line 1 and its edition, lines 2 and 3 and their sizes
abbrev pub head_tests : ℕ → ℕ → List ℕ → List Answer
head_tests n m s =
    line_test 1 (count_line edition_key s)
    ∷ edition_test (count_of edition_key s)
    ∷ line_test 2 (count_line states_key (behind_lines 1 s))
    ∷ size_test 0 n
    ∷ line_test 3 (count_line observations_key (behind_lines 2 s))
    ∷ size_test 1 m
    ∷ []

-- those of the four matrices, and that nothing stands behind them
abbrev pub matrix_tests : ℕ → ℕ → ℕ → List ℕ → List Answer
matrix_tests d n m s =
    line_test 4 (entries_line d a_key (n * n) (behind_lines 3 s))
    ∷ line_test 5 (entries_line d q_key (n * n) (behind_lines 4 s))
    ∷ line_test 6 (entries_line d h_key (m * n) (behind_lines 5 s))
    ∷ line_test 7 (entries_line d r_key (m * m) (behind_lines 6 s))
    ∷ line_test 8 (nothing (behind_lines 7 s))
    ∷ []

-- all of them
abbrev pub card_tests : ℕ → ℕ → ℕ → List ℕ → List Answer
card_tests d n m s = head_tests n m s ++ matrix_tests d n m s

-- what the card by itself is answered with: the first test that fails decides
unfoldable pub card_answer : ℕ → List ℕ → Answer
card_answer d s = after_tests (Ok tt) (card_tests d (states_of s) (observations_of s) s)

-- the buffers for A, Q, H and R of n states and m observations, of so many numbers
abbrev pub buffers : ℕ → ℕ → ℕ → ℕ → ℕ → ℕ → List Lent
buffers n m la lq lh lr = lent (n * n) la ∷ lent (n * n) lq ∷ lent (m * n) lh ∷ lent (m * m) lr ∷ []

-- what the card and then these buffers are answered with
unfoldable pub read_answer : ℕ → List ℕ → ℕ → ℕ → ℕ → ℕ → Answer
read_answer d s la lq lh lr = after_tests (card_answer d s) (buffer_tests 0 (buffers (states_of s) (observations_of s) la lq lh lr))

-- ---- what a card that is taken holds: the patterns of A, Q, H and R, row after row

abbrev pub a_of : ℕ → List ℕ → List ℕ
a_of d s = entries_of d a_key (states_of s * states_of s) (behind_lines 3 s)

abbrev pub q_of : ℕ → List ℕ → List ℕ
q_of d s = entries_of d q_key (states_of s * states_of s) (behind_lines 4 s)

abbrev pub h_of : ℕ → List ℕ → List ℕ
h_of d s = entries_of d h_key (observations_of s * states_of s) (behind_lines 5 s)

abbrev pub r_of : ℕ → List ℕ → List ℕ
r_of d s = entries_of d r_key (observations_of s * observations_of s) (behind_lines 6 s)
