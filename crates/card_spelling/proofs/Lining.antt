-- Lines put one behind the other: a key with its value and the newline, and then what comes behind the line. Assumes nothing.
use mathlib.Core.Path.{◌≡◌, sym, ap, ap₂, ◌∙◌}
use mathlib.Core.List.{List, [], ◌∷◌, ◌++◌, append_assoc}
use Prim.Native.Nat.{ℕ, suc, ◌+◌, ◌*◌, ◌/◌, ◌%◌, ◌≤◌, ◌<◌}
use native.Mathlib.Omega.{arith}
use borrow.Author.Tests.{lt-ltb, le-ltb}
use lib.ListN.{length}
use lib.Seq.{sets}
use lib.Ieee.{Float, Format}
use Rattle.card_text.specs.Lines.{newline}
use Rattle.card_text.specs.Spelling.{count_text, count_digits, entries_text, line}
use Rattle.card_text.specs.Said.{patterns}
use Rattle.card_text.proofs.Length.{count_length, line-length}
use Rattle.card_fields.proofs.Laid.{then_text}
use Rattle.card_fields.proofs.Entering.{entries_bytes}

-- ---- a line of a count: behind the key one digit or two, and the newline

one_digit : (n : ℕ) → n < 10 → count_text n ≡ (48 + n) ∷ []
unfolding count_text
one_digit n h = rw (lt-ltb n 10 h)

two_digits : (n : ℕ) → 10 ≤ n → count_text n ≡ (48 + n / 10) ∷ (48 + n % 10) ∷ []
unfolding count_text
two_digits n h = rw (le-ltb n 10 h)

module _ (key : List ℕ) (at p n : ℕ) (place : p ≡ at + length key) (l z w : List ℕ) (e : z ≡ sets l at key) where
  -- below ten
  pub one_put : n < 10 → (a : ℕ) → a ≡ 48 + n → w ≡ sets z p (a ∷ newline ∷ []) → w ≡ sets l at (line key (count_text n) [])
  one_put h a ea s =
      then_text l z at p key e place w (a ∷ newline ∷ []) s
      ∙ ap (λ (t : List ℕ). sets l at (key ++ (t ++ (newline ∷ [])))) (ap (λ (x : ℕ). x ∷ []) ea ∙ sym (one_digit n h))

  -- from ten on
  pub two_put : 10 ≤ n → (a b : ℕ) → a ≡ 48 + n / 10 → b ≡ 48 + n % 10 → w ≡ sets z p (a ∷ b ∷ newline ∷ []) → w ≡ sets l at (line key (count_text n) [])
  two_put h a b ea eb s =
      then_text l z at p key e place w (a ∷ b ∷ newline ∷ []) s
      ∙ ap (λ (t : List ℕ). sets l at (key ++ (t ++ (newline ∷ [])))) (ap₂ (λ (x y : ℕ). x ∷ y ∷ []) ea eb ∙ sym (two_digits n h))

-- ---- a line, and a text behind it

line_then : (key value t : List ℕ) → line key value t ≡ line key value [] ++ t
line_then key value t = sym (append_assoc key (value ++ (newline ∷ [])) t ∙ ap (λ (u : List ℕ). key ++ u) (append_assoc value (newline ∷ []) t))

alone : (key value : List ℕ) → length (line key value []) ≡ length key + suc (length value)
alone key value = omega (arith, line-length key value [])

-- a line was put at p into l, which is z then, and q is the position behind it: a count, or the first k numbers of x
abbrev pub CountPut : List ℕ → ℕ → List ℕ → ℕ → List ℕ → ℕ → Type 0
CountPut l p key n z q = (q ≡ p + (length key + suc (count_digits n))) × (z ≡ sets l p (line key (count_text n) []))

abbrev pub EntriesPut : Format → ℕ → List ℕ → ℕ → List ℕ → List Float → ℕ → List ℕ → ℕ → Type 0
EntriesPut f d l p key x k z q = (q ≡ p + (length key + k * suc d)) × (z ≡ sets l p (line key (entries_text d (patterns f k x)) []))

-- then a text was put behind it, and the list is w
module _ (l : List ℕ) (p : ℕ) (key z : List ℕ) (q : ℕ) (t w : List ℕ) (e : w ≡ sets z q t) where
  behind : (value : List ℕ) (k : ℕ) → suc (length value) ≡ k → q ≡ p + (length key + k) → z ≡ sets l p (line key value []) → w ≡ sets l p (line key value t)
  behind value k bytes place h =
      then_text l z p q (line key value []) h (place ∙ ap (λ (n : ℕ). p + n) (sym (alone key value ∙ ap (λ (n : ℕ). length key + n) bytes))) w t e
      ∙ ap (sets l p) (sym (line_then key value t))

  pub behind_count : (n : ℕ) → CountPut l p key n z q → w ≡ sets l p (line key (count_text n) t)
  behind_count n h = behind (count_text n) (suc (count_digits n)) (ap suc (count_length n)) h.0 h.1

  pub behind-entries : (f : Format) (d : ℕ) (x : List Float) (k : ℕ) → 1 ≤ k → k ≤ length x → EntriesPut f d l p key x k z q → w ≡ sets l p (line key (entries_text d (patterns f k x)) t)
  behind-entries f d x k some room h = behind (entries_text d (patterns f k x)) (k * suc d) (entries_bytes f x d k some room) h.0 h.1
