-- The card of lent numbers says them: their patterns are as many as the sizes ask for and have at most d digits, so that it is taken; each stands for its number (`lines/proofs/Back.antt`).
-- And what a card that is taken says, put into buffers and spelt again, is the same but for the patterns of NaN. Over the format and the digits, of which d are as many as it has.
-- Assumes nothing.
use mathlib.Core.Path.{◌≡◌, refl, sym, ap, ap₂, ◌∙◌, subst}
use mathlib.Core.Bool.{Bool, true, false, cond}
use mathlib.Core.List.{List, [], ◌∷◌, ◌++◌, map, map-append}
use Prim.Native.Nat.{ℕ, zero, suc, ◌*◌, ◌^◌, ◌≤◌, ◌<◌}
use native.Mathlib.Nat.{not-suc-le-zero, le_of_suc-le-suc}
use native.Mathlib.Omega.{arith}
use lib.ListN.{length, get_or, take, length-map}
use lib.Seq.{take-suc, length-take-le, ext_get_or}
use lib.Ieee.{Float, nan, Format, top, of_bits, nan_bits}
use Rattle.lines.specs.Pattern.{quiet, pattern_of, quieted}
use Rattle.lines.proofs.Back.{pattern_small, pattern_back, pattern_again}
use Rattle.card_text.specs.Spelling.{Settings, AllBelow, Sound}
use Rattle.card_text.specs.Said.{OfFormat, patterns, said, said_again, OneNan, OneNanOnly}

-- ---- the patterns of numbers

-- they are as many
pub patterns-length : (f : Format) (k : ℕ) (l : List Float) → k ≤ length l → length (patterns f k l) ≡ k
unfolding patterns
patterns-length f k l h = length-map (take k l) (pattern_of f) ∙ length-take-le k l h

-- one more of them is that of the next number
pub patterns_more : (f : Format) (i : ℕ) (l : List Float) (o : Float) → i < length l → patterns f (suc i) l ≡ patterns f i l ++ (pattern_of f (get_or l i o) ∷ [])
unfolding patterns
patterns_more f i l o h = ap (map (pattern_of f)) (take-suc l i o h) ∙ map-append (pattern_of f) (take i l) (get_or l i o ∷ [])

-- pattern i is that of number i
pub patterns_at : (f : Format) (k : ℕ) (l : List Float) (i : ℕ) → i < k → k ≤ length l → get_or (patterns f k l) i 0 ≡ pattern_of f (get_or l i nan)
unfolding patterns
patterns_at f zero l i h g = absurd (not-suc-le-zero h)
patterns_at f (suc k) [] i h g = absurd (not-suc-le-zero g)
patterns_at f (suc k) (x ∷ l) zero h g = refl
patterns_at f (suc k) (x ∷ l) (suc i) h g = patterns_at f k l i (le_of_suc-le-suc h) (le_of_suc-le-suc g)

module _ (f : Format) (d : ℕ) (wide : 16 ^ d ≡ 2 * top f) where
  -- they have at most d digits
  pub patterns-below : (k : ℕ) (l : List Float) → OfFormat f l → AllBelow (16 ^ d) (patterns f k l)
  unfolding patterns
  patterns-below zero l h = tt
  patterns-below (suc k) [] h = tt
  patterns-below (suc k) (x ∷ l) h = (subst (λ (b : ℕ). pattern_of f x < b) (sym wide) (pattern_small f x (h 0)), patterns-below k l (λ i. h (suc i)))

  -- and each stands for its number
  pub patterns-back : (k : ℕ) (l : List Float) → OfFormat f l → (i : ℕ) → i < k → k ≤ length l → of_bits f (get_or (patterns f k l) i 0) ≡ get_or l i nan
  patterns-back k l h i lt g = ap (of_bits f) (patterns_at f k l i lt g) ∙ pattern_back f (get_or l i nan) (h i)

  -- The settings of lent numbers are sound.
  pub said_sound : (n m : ℕ) (a q h r : List Float) → 1 ≤ n → n ≤ 16 → 1 ≤ m → m ≤ 16 → n * n ≤ length a → n * n ≤ length q → m * n ≤ length h → m * m ≤ length r
      → OfFormat f a → OfFormat f q → OfFormat f h → OfFormat f r → Sound d (said f n m a q h r)
  said_sound n m a q h r n1 n2 m1 m2 la lq lh lr fa fq fh fr =
      record {
        states_least = n1;
        states_most = n2;
        observations_least = m1;
        observations_most = m2;
        patterns_a = (patterns-length f (n * n) a la, patterns-below (n * n) a fa);
        patterns_q = (patterns-length f (n * n) q lq, patterns-below (n * n) q fq);
        patterns_h = (patterns-length f (m * n) h lh, patterns-below (m * n) h fh);
        patterns_r = (patterns-length f (m * m) r lr, patterns-below (m * m) r fr);
      }

  -- ---- read and written again

  below_at : (es : List ℕ) (i : ℕ) → AllBelow (16 ^ d) es → i < length es → get_or es i 0 < 2 * top f
  below_at [] i b h = absurd (not-suc-le-zero h)
  below_at (e ∷ es) zero b h = subst (λ (x : ℕ). e < x) wide b.0
  below_at (e ∷ es) (suc i) b h = below_at es i b.1 (le_of_suc-le-suc h)

  -- numbers that k patterns stand for, in the front of a buffer, have these patterns but for a NaN's
  pub again : (k : ℕ) (es : List ℕ) (l : List Float) → length es ≡ k → AllBelow (16 ^ d) es → k ≤ length l → ((i : ℕ) → i < k → get_or l i nan ≡ of_bits f (get_or es i 0)) → patterns f k l ≡ map (quieted f) es
  again k es l many below fit is =
      ext_get_or 0 (patterns f k l) (map (quieted f) es) (patterns-length f k l fit ∙ sym (length-map es (quieted f) ∙ many))
      (λ i lt.
      let h : i < k = subst (λ (x : ℕ). i < x) (patterns-length f k l fit) lt in
      patterns_at f k l i h fit ∙ ap (pattern_of f) (is i h) ∙ pattern_again f (get_or es i 0) (below_at es i below (omega (arith, many))) ∙ sym (quieted_at es i (omega (arith, many))))
    where
      quieted_at : (es : List ℕ) (i : ℕ) → i < length es → get_or (map (quieted f) es) i 0 ≡ quieted f (get_or es i 0)
      quieted_at [] i h = absurd (not-suc-le-zero h)
      quieted_at (e ∷ es) zero h = refl
      quieted_at (e ∷ es) (suc i) h = quieted_at es i (le_of_suc-le-suc h)

-- where the only NaN is the one that is written, they are the same
module _ (f : Format) where
  same_again : (es : List ℕ) → OneNan f es → map (quieted f) es ≡ es
  same_again [] h = refl
  same_again (e ∷ es) h = ap₂ (λ (x : ℕ) (y : List ℕ). x ∷ y) (one (nan_bits f e) (h 0)) (same_again es (λ i. h (suc i)))
    where
      one : (t : Bool) → (t ≡ true → e ≡ quiet f) → cond t (quiet f) e ≡ e
      one true g = sym (g refl)
      one false g = refl

  pub said_same : (c : Settings) → OneNanOnly f c → said_again f c ≡ c
  said_same c o = λ i. record {
    n = c.n;
    m = c.m;
    a = same_again c.a o.one_a i;
    q = same_again c.q o.one_q i;
    h = same_again c.h o.one_h i;
    r = same_again c.r o.one_r i;
  }
