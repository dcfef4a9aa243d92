-- Laws of entries with commas between: their length, and what stands at the front of the text behind the key. Assumes nothing.
use mathlib.Core.Path.{◌≡◌, refl, sym, ap, ◌∙◌}
use mathlib.Core.Bool.{Bool, true, false, ◌&&◌, and-eq-true_iff, true≢false}
use mathlib.Core.List.{List, [], ◌∷◌, ◌++◌}
use Prim.Native.Nat.{ℕ, zero, suc, ◌+◌, ◌-◌, ◌*◌, ◌≤◌, ◌<◌}
use native.Mathlib.Nat.{lt_of_not-le, le_of_eq, suc-mul, one-mul}
use native.Mathlib.Omega.{arith}
use borrow.Author.Tests.{eqb-true, eq-eqb}
use lib.Dec.{eqb, ltb}
use lib.ListN.{length, get_or, take, drop, length-drop, get_or-eq_default}
use lib.Seq.{take_at, take_all, get_or_at, split_at, take-append-le, drop-append-le}
use Rattle.lines.specs.Hex.{digit_of}
use Rattle.card_text.specs.Lines.{newline, ends}
use Rattle.card_text.specs.Values.{comma, are_digits, spelt_from, is_entry, are_entries, entries_in}

-- ---- there is no newline among digits

no_newline : ltb (digit_of newline) 16 ≡ false
unfolding digit_of
no_newline = refl

plain_digit : (b : ℕ) → ltb (digit_of b) 16 ≡ true → eqb b newline ≡ false
plain_digit b h = at (eqb b newline) refl
  where
    at : (y : Bool) → eqb b newline ≡ y → y ≡ false
    at true q = sym h ∙ ap (λ (x : ℕ). ltb (digit_of x) 16) (eqb-true b newline q) ∙ no_newline
    at false q = refl

pub digits_plain : (e : List ℕ) → are_digits e ≡ true → ends e ≡ false
unfolding are_digits ends
digits_plain [] h = refl
digits_plain (b ∷ e) h =
    let both = (and-eq-true_iff (ltb (digit_of b) 16) (are_digits e)).0 h in
    rw (plain_digit b both.0) (digits_plain e both.1)

-- ---- one entry

pub entry_is : (d : ℕ) (e : List ℕ) → length e ≡ d → are_digits e ≡ true → is_entry d e ≡ true
unfolding is_entry
entry_is d e l h = rw (eq-eqb (length e) d l) h

pub entry_parts : (d : ℕ) (e : List ℕ) → is_entry d e ≡ true → (length e ≡ d) × (are_digits e ≡ true)
unfolding is_entry
entry_parts d e h = let both = (and-eq-true_iff (eqb (length e) d) (are_digits e)).0 h in (eqb-true (length e) d both.0, both.1)

-- ---- an entry, a comma, and more of them

-- behind some bytes and one more
pub past : (p : List ℕ) (b : ℕ) (t : List ℕ) (n : ℕ) → length p ≡ n → drop (suc n) (p ++ (b ∷ t)) ≡ t
past [] b t n e = rw (← e)
past (c ∷ p) b t n e = rw (← e) (past p b t (length p) refl)

module _ (d k : ℕ) (e w : List ℕ) (l : length e ≡ d) (h : are_digits e ≡ true) where
  pub more_are : are_entries d (suc (suc k)) (e ++ (comma ∷ w)) ≡ are_entries d (suc k) w
  unfolding are_entries
  more_are = rw (take_at e (comma ∷ w) d l, entry_is d e l h, get_or_at e comma w 0 d l, past e comma w d l)

-- a byte that is not 0 is one of the text
pub held : (v : List ℕ) (i b : ℕ) → get_or v i 0 ≡ suc b → i < length v
held v i b e = lt_of_not-le (λ (h : length v ≤ i). let z = get_or-eq_default v 0 h in omega arith)

module _ (d k : ℕ) (v : List ℕ) (h : are_entries d (suc (suc k)) v ≡ true) where
  tests : (is_entry d (take d v) ≡ true) × (eqb (get_or v d 0) comma ≡ true) × (are_entries d (suc k) (drop (suc d) v) ≡ true)
  unfolding are_entries
  tests =
      let rest = eqb (get_or v d 0) comma && are_entries d (suc k) (drop (suc d) v) in
      let both = (and-eq-true_iff (is_entry d (take d v)) rest).0 h in
      let two = (and-eq-true_iff (eqb (get_or v d 0) comma) (are_entries d (suc k) (drop (suc d) v))).0 both.1 in
      (both.0, two.0, two.1)

  pub more_comma : get_or v d 0 ≡ comma
  more_comma = eqb-true (get_or v d 0) comma tests.1

  pub more_room : d < length v
  more_room = held v d 43 more_comma

  pub more_first : (length (take d v) ≡ d) × (are_digits (take d v) ≡ true)
  more_first = entry_parts d (take d v) tests.0

  pub more_rest : are_entries d (suc k) (drop (suc d) v) ≡ true
  more_rest = tests.2

  pub more_cut : v ≡ take d v ++ (comma ∷ drop (suc d) v)
  more_cut = split_at v d 0 more_room ∙ ap (λ (b : ℕ). take d v ++ (b ∷ drop (suc d) v)) more_comma

-- ---- how long they are

pub entries-length : (d k : ℕ) (v : List ℕ) → are_entries d k v ≡ true → suc (length v) ≡ k * suc d
unfolding are_entries
entries-length d zero v h = absurd (true≢false (sym h))
entries-length d (suc zero) v h = ap suc (entry_parts d v h).0 ∙ sym (one-mul (suc d))
entries-length d (suc (suc k)) v h =
    let below = entries-length d (suc k) (drop (suc d) v) (more_rest d k v h) in
    sum (length v) (length (drop (suc d) v)) (length-drop (suc d) v) (more_room d k v h) below ∙ sym (suc-mul (suc k) (suc d))
  where
    sum : (l r : ℕ) → r ≡ l - suc d → d < l → suc r ≡ suc k * suc d → suc l ≡ suc k * suc d + suc d
    sum l r e g b = omega arith

-- ---- what stands behind the last of them does not matter

pub entries-front : (d k : ℕ) (v w : List ℕ) → are_entries d k v ≡ true → entries_in d k (v ++ w) ≡ entries_in d k v
unfolding are_entries entries_in
entries-front d zero v w h = absurd (true≢false (sym h))
entries-front d (suc zero) v w h =
    let l = (entry_parts d v h).0 in
    ap (λ (e : List ℕ). spelt_from 0 e ∷ []) (take_at v w d l ∙ sym (take_all d v (le_of_eq l)))
entries-front d (suc (suc k)) v w h =
    let g = more_room d k v h in
    rw (take-append-le d v w (omega arith), drop-append-le (suc d) v w g) (ap (λ (es : List ℕ). spelt_from 0 (take d v) ∷ es) (entries-front d (suc k) (drop (suc d) v) w (more_rest d k v h)))
