-- How long a card is goes by its sizes alone: line by line, by how many bytes the key and the value have. Assumes nothing.
use mathlib.Core.Path.{◌≡◌, refl, ◌∙◌}
use mathlib.Core.Bool.{Bool, true, false, cond}
use mathlib.Core.List.{List, [], ◌∷◌, ◌++◌}
use Prim.Native.Nat.{ℕ, suc, ◌+◌, ◌*◌, ◌/◌, ◌%◌, ◌≤◌}
use native.Mathlib.Nat.{mul-pos, mul-le-mul, mul-le-mul_right}
use native.Mathlib.Omega.{arith}
use lib.Dec.{ltb}
use lib.ListN.{length, length-append}
use Rattle.card_text.specs.Lines.{newline}
use Rattle.card_text.specs.Card.{edition_key, states_key, observations_key, a_key, q_key, h_key, r_key}
use Rattle.card_text.specs.Spelling.{count_text, entries_text, line, Settings, Sound, card_text, count_digits, entries_count, card_length}
use Rattle.card_text.proofs.Entries.{entries-length}
use Rattle.card_text.proofs.Patterns.{entries-are}
use Rattle.card_text.proofs.Theorems.{behind1, behind2, behind3, behind4, behind5, behind6}

-- the bytes of a count, and of a line
pub count_length : (n : ℕ) → length (count_text n) ≡ count_digits n
unfolding count_text
count_length n = at (ltb n 10)
  where
    at : (y : Bool) → length (cond y ((48 + n) ∷ []) ((48 + n / 10) ∷ (48 + n % 10) ∷ [])) ≡ cond y 1 2
    at true = refl
    at false = refl

pub line-length : (key value t : List ℕ) → length (line key value t) ≡ length key + suc (length value) + length t
line-length key value t = rw (length-append key (value ++ (newline ∷ t)), length-append value (newline ∷ t)) (omega arith)

-- a line of k entries: its newline stands where one more comma would
entries_line_length : (d : ℕ) (key : List ℕ) (k : ℕ) (es t : List ℕ) → 1 ≤ k → length es ≡ k → length (line key (entries_text d es) t) ≡ length key + k * suc d + length t
entries_line_length d key k es t some h = line-length key (entries_text d es) t ∙ rw (entries-length d k (entries_text d es) (entries-are d k some es h))

-- Settings with as many entries as their sizes ask for, whatever the entries are.
module _ (d : ℕ) (c : Settings) (n-least : 1 ≤ c.n) (m-least : 1 ≤ c.m) (a-many : length c.a ≡ c.n * c.n) (q-many : length c.q ≡ c.n * c.n) (h-many : length c.h ≡ c.m * c.n) (r-many : length c.r ≡ c.m * c.m) where
  -- what stands behind line 6, behind line 5, ..
  from6 : length (behind6 d c) ≡ 2 + c.m * c.m * suc d
  from6 = entries_line_length d r_key (c.m * c.m) c.r [] (mul-pos m-least m-least) r-many ∙ omega arith

  from5 : length (behind5 d c) ≡ 4 + (c.m * c.n + c.m * c.m) * suc d
  from5 = entries_line_length d h_key (c.m * c.n) c.h (behind6 d c) (mul-pos m-least n-least) h-many ∙ rw from6 (omega arith)

  from4 : length (behind4 d c) ≡ 6 + (c.n * c.n + c.m * c.n + c.m * c.m) * suc d
  from4 = entries_line_length d q_key (c.n * c.n) c.q (behind5 d c) (mul-pos n-least n-least) q-many ∙ rw from5 (omega arith)

  from3 : length (behind3 d c) ≡ 8 + entries_count c.n c.m * suc d
  from3 = entries_line_length d a_key (c.n * c.n) c.a (behind4 d c) (mul-pos n-least n-least) a-many ∙ rw from4 (omega arith)

  from2 : length (behind2 d c) ≡ 22 + count_digits c.m + entries_count c.n c.m * suc d
  from2 = line-length observations_key (count_text c.m) (behind3 d c) ∙ rw (count_length c.m, from3) (omega arith)

  from1 : length (behind1 d c) ≡ 30 + count_digits c.n + count_digits c.m + entries_count c.n c.m * suc d
  from1 = line-length states_key (count_text c.n) (behind2 d c) ∙ rw (count_length c.n, from2) (omega arith)

  -- The length of their card goes by the sizes alone.
  pub text-length : length (card_text d c) ≡ card_length d c.n c.m
  unfolding card_text count_text card_length
  text-length = line-length edition_key (count_text 1) (behind1 d c) ∙ rw from1 (omega arith)

-- That of sound settings, which every card that is taken is of.
pub sound_length : (d : ℕ) (c : Settings) → Sound d c → length (card_text d c) ≡ card_length d c.n c.m
sound_length d c sound = text-length d c sound.states_least sound.observations_least sound.patterns_a.0 sound.patterns_q.0 sound.patterns_h.0 sound.patterns_r.0

-- ---- no card is longer than that of 16 states and 16 observations

-- the entries of each matrix,
pub squares : (n m : ℕ) → n ≤ 16 → m ≤ 16 → (n * n ≤ 256) × (m * n ≤ 256) × (m * m ≤ 256)
squares n m hn hm = (mul-le-mul hn hn, mul-le-mul hm hn, mul-le-mul hm hm)

few : (n m : ℕ) → n ≤ 16 → m ≤ 16 → entries_count n m ≤ 1024
few n m hn hm = omega (arith, squares n m hn hm)

-- the digits of a size,
pub digits_at_most : (n : ℕ) → count_digits n ≤ 2
digits_at_most n = at (ltb n 10)
  where
    at : (y : Bool) → cond y 1 2 ≤ 2
    at true = omega arith
    at false = omega arith

-- the card by its sizes,
pub length_at_most : (d n m : ℕ) → n ≤ 16 → m ≤ 16 → card_length d n m ≤ 44 + 1024 * suc d
unfolding card_length
length_at_most d n m hn hm = omega (arith, digits_at_most n, digits_at_most m, mul-le-mul_right (suc d) (few n m hn hm))

-- and by what it says
pub text_at_most : (d : ℕ) (c : Settings) → Sound d c → length (card_text d c) ≤ 44 + 1024 * suc d
text_at_most d c sound = rw (sound_length d c sound) (length_at_most d c.n c.m sound.states_most sound.observations_most)
