-- The text of sizes and entries: how a card is spelt (R34). Definitions only.
use Rattle.std.specs.Prelude.{cond, List, [], ◌∷◌, ◌++◌, ℕ, zero, suc, ◌+◌, ◌*◌, ◌/◌, ◌%◌, ◌^◌, ◌≤◌, ◌<◌, ◌≡◌, ltb, length}
use Rattle.card_text.specs.Lines.{newline}
use Rattle.card_text.specs.Values.{comma}
use Rattle.card_text.specs.Card.{edition_key, states_key, observations_key, a_key, q_key, h_key, r_key, states_of, observations_of, a_of, q_of, h_of, r_of}

-- a number below 100, in one decimal digit where it is below 10, else in two
unfoldable pub count_text : ℕ → List ℕ
count_text n = cond (ltb n 10) ((48 + n) ∷ []) ((48 + n / 10) ∷ (48 + n % 10) ∷ [])

-- the byte of a digit below 16: `0` to `9`, `a` to `f`
abbrev pub digit_text : ℕ → ℕ
digit_text x = cond (ltb x 10) (48 + x) (87 + x)

-- the last d digits of a number in hexadecimal, the highest first
unfoldable pub entry_text : ℕ → ℕ → List ℕ
entry_text zero e = []
entry_text (suc d) e = digit_text (e / 16 ^ d % 16) ∷ entry_text d e

-- entries with commas between
unfoldable pub entries_text : ℕ → List ℕ → List ℕ
unfolding entry_text
entries_text d [] = []
entries_text d (e ∷ []) = entry_text d e
entries_text d (e ∷ c ∷ es) = entry_text d e ++ (comma ∷ entries_text d (c ∷ es))

-- a line, with a text behind it
abbrev pub line : List ℕ → List ℕ → List ℕ → List ℕ
line key value t = key ++ (value ++ (newline ∷ t))

-- what a card says: both sizes, and the patterns of A, Q, H and R
pub record Settings : Type 0 where
  pub n : ℕ
  pub m : ℕ
  pub a : List ℕ
  pub q : List ℕ
  pub h : List ℕ
  pub r : List ℕ

-- every number of the list is below b
abbrev pub AllBelow : ℕ → List ℕ → Type 0
AllBelow b [] = Unit {0}
AllBelow b (e ∷ es) = (e < b) × AllBelow b es

-- k patterns of d digits
abbrev pub Patterns : ℕ → ℕ → List ℕ → Type 0
Patterns d k es = (length es ≡ k) × AllBelow (16 ^ d) es

-- sizes from 1 to 16, and as many patterns as they ask for
pub record Sound (d : ℕ) (c : Settings) : Type 0 where
  pub states_least : 1 ≤ c.n
  pub states_most : c.n ≤ 16
  pub observations_least : 1 ≤ c.m
  pub observations_most : c.m ≤ 16
  pub patterns_a : Patterns d (c.n * c.n) c.a
  pub patterns_q : Patterns d (c.n * c.n) c.q
  pub patterns_h : Patterns d (c.m * c.n) c.h
  pub patterns_r : Patterns d (c.m * c.m) c.r

-- the card that says these settings: seven lines in their order, and nothing behind them
unfoldable pub card_text : ℕ → Settings → List ℕ
unfolding count_text entries_text
card_text d c =
    line edition_key (count_text 1)
    (line states_key (count_text c.n)
    (line observations_key (count_text c.m)
    (line a_key (entries_text d c.a)
    (line q_key (entries_text d c.q)
    (line h_key (entries_text d c.h)
    (line r_key (entries_text d c.r) []))))))

-- what a text holds, read as a card
abbrev pub held : ℕ → List ℕ → Settings
held d s = record { n = states_of s; m = observations_of s; a = a_of d s; q = q_of d s; h = h_of d s; r = r_of d s }

-- how many digits a count has, and how many entries a card
abbrev pub count_digits : ℕ → ℕ
count_digits n = cond (ltb n 10) 1 2

abbrev pub entries_count : ℕ → ℕ → ℕ
entries_count n m = n * n + n * n + m * n + m * m

-- How long the card of n states and m observations is: 40 bytes of keys, newlines and the edition, the digits of both sizes, and d digits and one byte more for each entry
unfoldable pub card_length : ℕ → ℕ → ℕ → ℕ
card_length d n m = 40 + count_digits n + count_digits m + entries_count n m * suc d
