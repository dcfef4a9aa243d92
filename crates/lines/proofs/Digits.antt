-- What the loop over the digits asks: each digit is below 16, a turn keeps what is still to be read, and the number stays below 2^32.
-- Assumes nothing.
use mathlib.Core.Path.{◌≡◌, refl, sym, ap, ◌∙◌, subst}
use mathlib.Core.Bool.{Bool, true, false, ◌&&◌, cond}
use mathlib.Core.List.{List}
use Prim.Native.Nat.{ℕ, zero, suc, ◌+◌, ◌-◌, ◌*◌, ◌^◌, ◌≤◌, ◌<◌}
use native.Mathlib.Nat.{le_trans, le_of_eq, lt_of_lt_of_le, lt_of_not-le, not-suc-le-zero, mul-one, mul-pos, mul_assoc, mul-le-mul_left, mul-le-mul_right, pow-suc, pow-succ'}
use native.Mathlib.Omega.{arith}
use lib.Dec.{leb, eqb, lit<}
use lib.ListN.{length, get_or, drop, get_or-eq_default}
use Rattle.std.specs.List.{slice_range}
use Rattle.std.proofs.lemmas.List.{get_or-drop, get_or-take}
use borrow.Author.Tests.{eq-eqb, ne_eqb, leb-true, le-leb, lt-leb}
use Rattle.lines.specs.Hex.{digit_of, digit_at, unless, digits_from}
use Rattle.std.specs.Prelude.{Option, None, Some}
use Rattle.lines.specs.declared.words.Word.{Word}

-- ---- a digit
pub digit_decimal : (b : ℕ) → 48 ≤ b → b ≤ 57 → b - 48 ≡ digit_of b
unfolding digit_of
digit_decimal b l h = sym (simp (le-leb 48 b l, le-leb b 57 h))

pub digit_letter : (b : ℕ) → 97 ≤ b → b ≤ 102 → b - 97 + 10 ≡ digit_of b
unfolding digit_of
digit_letter b l h = sym (simp (le-leb 48 b (omega arith), lt-leb b 57 (omega arith), le-leb 97 b l, le-leb b 102 h))

pub digit_low : (b : ℕ) → b < 48 → 16 ≡ digit_of b
unfolding digit_of
digit_low b h = sym (simp (lt-leb 48 b h, lt-leb 97 b (omega arith)))

pub digit_between : (b : ℕ) → 57 < b → b < 97 → 16 ≡ digit_of b
unfolding digit_of
digit_between b l h = sym (simp (le-leb 48 b (omega arith), lt-leb b 57 l, lt-leb 97 b h))

pub digit_high : (b : ℕ) → 102 < b → 16 ≡ digit_of b
unfolding digit_of
digit_high b l = sym (simp (le-leb 48 b (omega arith), lt-leb b 57 (omega arith), le-leb 97 b (omega arith), lt-leb b 102 l))

-- no byte is worth more than 16
pub small : (b : ℕ) → digit_of b ≤ 16
unfolding digit_of
small b = at (leb 48 b) (leb b 57) (leb 97 b) (leb b 102) (leb-true b 57) (leb-true b 102)
  where
    at : (p q r s : Bool) → (q ≡ true → b ≤ 57) → (s ≡ true → b ≤ 102) → cond (p && q) (b - 48) (cond (r && s) (b - 97 + 10) 16) ≤ 16
    at true true r s h k = let g = h refl in omega arith
    at true false true true h k = let g = k refl in omega arith
    at true false true false h k = omega arith
    at true false false s h k = omega arith
    at false q true true h k = let g = k refl in omega arith
    at false q true false h k = omega arith
    at false q false s h k = omega arith

-- ---- the end of the digits
-- past the end there is no digit
pub past_end : (s : List ℕ) (p : ℕ) → length s ≤ p → digit_at s p ≡ 16
unfolding digit_of
past_end s p h = rw (get_or-eq_default s 0 h)

pub no_digit : (k n : ℕ) (s : List ℕ) (p : ℕ) → 0 < k → digit_at s p ≡ 16 → None ≡ digits_from k n s p
unfolding digits_from
no_digit zero n s p h e = absurd (not-suc-le-zero h)
no_digit (suc k) n s p h e = rw (eq-eqb (digit_at s p) 16 e)

-- fewer bytes are left than digits are to be read
pub too_short : (k n : ℕ) (s : List ℕ) (p : ℕ) → 0 < k → length s < p + k → None ≡ digits_from k n s p
unfolding digits_from
too_short zero n s p h g = absurd (not-suc-le-zero h)
too_short (suc k) n s p h g = go (eqb (digit_at s p) 16) refl (λ i j. too_short k (n * 16 + digit_at s p) s (p + 1) i j)
  where
    go : (b : Bool) → eqb (digit_at s p) 16 ≡ b → (0 < k → length s < p + 1 + k → None ≡ digits_from k (n * 16 + digit_at s p) s (p + 1)) → None ≡ unless b (digits_from k (n * 16 + digit_at s p) s (p + 1))
    go true e rest = refl
    go false e rest =
        let inside : p < length s = lt_of_not-le (λ (l : length s ≤ p). let f : eqb (digit_at s p) 16 ≡ true = eq-eqb (digit_at s p) 16 (past_end s p l) in (cc)) in
        rest (omega arith) (omega arith)

-- the byte that a part of the list has at a place
pub part_byte : (s rest digits : List ℕ) (p i : ℕ) → rest ≡ slice_range s p (length s) → digits ≡ slice_range rest 0 8 → i < 8 → p + i < length s → get_or digits i 0 ≡ get_or s (p + i) 0
part_byte s rest digits p i a b h g =
    let inside : i < length s - p = omega arith in
    rw (b, get_or-take 8 (drop 0 rest) i 0 h, a, get_or-take (length s - p) (drop p s) i 0 inside, get_or-drop p s i 0)

pub all_read : (k n : ℕ) (s : List ℕ) (p : ℕ) → k ≤ 0 → Some (record { bits = n; next = p }) ≡ digits_from k n s p
unfolding digits_from
all_read zero n s p h = refl
all_read (suc k) n s p h = absurd (not-suc-le-zero h)

-- ---- a turn that finds a digit d, with k digits still to be read behind n
-- there is room for k digits more behind n: whatever they are, the number stays below 2^32
abbrev pub Room : ℕ → ℕ → Type 0
Room n k = (n + 1) * 16 ^ k ≤ 4294967296

one_less : (k : ℕ) → suc k - 1 ≡ k
one_less k = omega arith

power_pos : (k : ℕ) → 0 < 16 ^ k
power_pos zero = lit< tt
power_pos (suc k) = rw (pow-suc 16 k) (mul-pos (power_pos k) (lit< tt))

wider : (n d k : ℕ) → d < 16 → 0 < k → (n * 16 + d + 1) * 16 ^ (k - 1) ≤ (n + 1) * 16 ^ k
wider n d zero s h = absurd (not-suc-le-zero h)
wider n d (suc k) s h = rw (one_less k) (le_trans (mul-le-mul_right (16 ^ k) (more n d s)) (le_of_eq (mul_assoc (n + 1) 16 (16 ^ k) ∙ ap (λ (x : ℕ). (n + 1) * x) (sym (pow-succ' 16 k)))))
  where
    more : (n d : ℕ) → d < 16 → n * 16 + d + 1 ≤ (n + 1) * 16
    more n d h = omega arith

next : (k n : ℕ) (s : List ℕ) (p : ℕ) → 0 < k → (digit_at s p ≡ 16 → ⊥) → digits_from k n s p ≡ digits_from (k - 1) (n * 16 + digit_at s p) s (p + 1)
unfolding digits_from
next zero n s p h e = absurd (not-suc-le-zero h)
next (suc k) n s p h e = rw (ne_eqb (digit_at s p) 16 e, one_less k)

under : (x q : ℕ) → 0 < q → x < (x + 1) * q
under x q h = lt_of_lt_of_le (lt_suc x) (le_trans (le_of_eq (sym (mul-one (x + 1)))) (mul-le-mul_left (x + 1) h))
  where
    lt_suc : (x : ℕ) → x < x + 1
    lt_suc x = omega arith

module _ (n d k : ℕ) (below : d < 16) (more : 0 < k) (r : Room n k) where
  turn_room : Room (n * 16 + d) (k - 1)
  turn_room = le_trans (wider n d k below more) r

  pub turn_fits : n * 16 + d < 4294967296
  turn_fits = lt_of_lt_of_le (under (n * 16 + d) (16 ^ (k - 1)) (power_pos (k - 1))) turn_room

-- what is still to be read stays the same
turn_same : (s : List ℕ) (n p k d : ℕ) → 0 < k → d < 16 → d ≡ digit_at s p → digits_from (k - 1) (n * 16 + d) s (p + 1) ≡ digits_from k n s p
turn_same s n p k d more below is =
    let found : digit_at s p ≡ 16 → ⊥ = λ e. (omega arith) in
    ap (λ (x : ℕ). digits_from (k - 1) (n * 16 + x) s (p + 1)) is ∙ sym (next k n s p more found)

-- a turn of the loop over the eight bytes from a position on
module _ (s : List ℕ) (at i n d : ℕ) (inside : i < 8) (below : d < 16) where
  rest : 8 - i - 1 ≡ 8 - (i + 1)
  rest = omega arith

  pub read_more : (r : Option Word) → d ≡ digit_at s (at + i) → digits_from (8 - i) n s (at + i) ≡ r → digits_from (8 - (i + 1)) (n * 16 + d) s (at + (i + 1)) ≡ r
  read_more r is e =
      let place : at + i + 1 ≡ at + (i + 1) = omega arith in
      subst (λ k. digits_from k (n * 16 + d) s (at + (i + 1)) ≡ r) rest (subst (λ p. digits_from (8 - i - 1) (n * 16 + d) s p ≡ r) place (turn_same s n (at + i) (8 - i) d (omega arith) below is ∙ e))

  pub room_more : Room n (8 - i) → Room (n * 16 + d) (8 - (i + 1))
  room_more r = subst (Room (n * 16 + d)) rest (turn_room n d (8 - i) below (omega arith) r)
