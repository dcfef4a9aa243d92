-- Bit patterns of a format: their fields, the values that these stand for, and the pattern that `root_bits` puts together. Arithmetic with the format's numbers is a law of two clauses, one a format, each by `omega`. Assumes nothing.
use mathlib.Core.Path.{◌≡◌, refl, sym, ap, ap₂, ◌∙◌}
use mathlib.Core.Bool.{Bool, false, not, cond}
use Prim.Native.Nat.{ℕ, zero, suc, ◌+◌, ◌-◌, ◌*◌, ◌/◌, ◌%◌, ◌^◌, ◌≤◌, ◌<◌}
use native.Mathlib.Nat.{lt_of_lt_of_le, mul-one, mod-lt}
use native.Mathlib.Numerals.{sub-one}
use native.Mathlib.Omega.{arith}
use lib.Dec.{T, leb, eqb}
use lib.Pow.{pow_pos, pow_mono, shl_lt}
use lib.Ieee.{Float, nan, inf, fin, Format, binary32, binary64, prec, emax, low, hid, ones, top, odd, units, of_fields, of_bits, nan_bits, is_nan}
use lib.Ieee.Bits.{of_bits-fits, nan_bits_is}
use lib.Ieee.Exact.{HasValue, odd_sign, units_val}
use borrow.Author.Tests.{lt-leb, ne_eqb}
use Rattle.numbers.specs.Root.{near_root, root_of, sqrt_of}
use Rattle.numbers.specs.Pattern.{root_bits}
use Rattle.numbers.proofs.Same.{same_value}
use Rattle.numbers.proofs.Exists.{wide, half, root_of_digits, sqrt_at, units_fit}
use Rattle.data_type.proofs.NearRoot.{near_digits, bits_is}

-- ---- the fields, as the code reads them: the exponent's, and the digits below the leading one
abbrev pub field : Format → ℕ → ℕ
field f b = b / hid f % suc (ones f)

abbrev pub digits : Format → ℕ → ℕ
digits f b = b % hid f

pub digits_lt : (f : Format) (b : ℕ) → digits f b < hid f
digits_lt f b = mod-lt b (pow_pos (prec f - 1))

-- `lib.Ieee` takes the sign off first
field_is : (f : Format) (b : ℕ) → b % top f / hid f ≡ field f b
field_is binary32 b = omega arith
field_is binary64 b = omega arith

pub of_fields_lem : (f : Format) (s : Bool) (b : ℕ) → leb (top f) b ≡ s → of_bits f b ≡ of_fields f s (field f b) (digits f b)
unfolding of_bits
of_fields_lem f s b e = ap₂ (λ (u : Bool) (x : ℕ). of_fields f u x (digits f b)) e (field_is f b)

-- ---- what the fields stand for: an infinity or a NaN, a subnormal value, a normal one
pub at_ones : (f : Format) (s : Bool) (t : ℕ) → of_fields f s (ones f) t ≡ cond (eqb t 0) (inf s) nan
unfolding of_fields
at_ones binary32 s t = refl
at_ones binary64 s t = refl

at_some : (f : Format) (s : Bool) (t x : ℕ) → suc x < ones f → of_fields f s (suc x) t ≡ odd (prec f) s (hid f + t) x (low f)
unfolding of_fields
at_some f s t x h = ap (λ (b : Bool). cond b (cond (eqb t 0) (inf s) nan) (odd (prec f) s (hid f + t) x (low f))) (ne_eqb (suc x) (ones f) (differ (suc x) (ones f) h))
  where
    differ : (a b : ℕ) → a < b → a ≡ b → ⊥
    differ a b h e = omega arith

pub subnormal : (f : Format) (s : Bool) (t : ℕ) → HasValue (of_fields f s 0 t) s t (2 ^ low f)
unfolding of_fields
subnormal f s t = rw (mul-one t) at (odd_sign (prec f) s t 0 (low f))

pub normal : (f : Format) (s : Bool) (e t : ℕ) → (e ≡ 0 → ⊥) → e < ones f → HasValue (of_fields f s e t) s ((hid f + t) * 2 ^ (e - 1)) (2 ^ low f)
normal f s zero t z h = absurd (z refl)
normal f s (suc x) t z h = rw (sub-one (suc x), at_some f s t x h) (odd_sign (prec f) s (hid f + t) x (low f))

-- ---- s · 2 ^ k smallest values as a pattern
-- the sign is clear, and the leading digit of s adds one to the field
in_fields : (f : Format) (s k : ℕ) → hid f ≤ s → s < 2 ^ prec f → suc k < ones f → (k * hid f + s < top f) × (field f (k * hid f + s) ≡ suc k) × (hid f + digits f (k * hid f + s) ≡ s)
in_fields binary32 s k lo hi few = omega arith
in_fields binary64 s k lo hi few = omega arith

-- far below the overflow
enough : (f : Format) (k : ℕ) → suc k < ones f → prec f + k ≤ low f + suc (emax f)
enough binary32 k h = omega arith
enough binary64 k h = omega arith

-- what has a value is no NaN
has_value : (z : Float) (a c : ℕ) → HasValue z false a c → T (not (is_nan z))
unfolding is_nan
has_value nan a c h = absurd h
has_value (inf s) a c h = tt
has_value (fin s m e) a c h = tt

module _ (f : Format) (s k : ℕ) (lo : hid f ≤ s) (hi : s < 2 ^ prec f) (few : suc k < ones f) where
  pattern_is : of_bits f (k * hid f + s) ≡ odd (prec f) false s k (low f)
  pattern_is =
      let b = k * hid f + s in
      let w = in_fields f s k lo hi few in
      of_fields_lem f false b (lt-leb (top f) b w.0)
      ∙ ap (λ (x : ℕ). of_fields f false x (digits f b)) w.1
      ∙ at_some f false (digits f b) k few
      ∙ ap (λ (t : ℕ). odd (prec f) false t k (low f)) w.2

  pattern_value : HasValue (of_bits f (k * hid f + s)) false (s * 2 ^ k) (2 ^ low f)
  pattern_value = rw pattern_is (odd_sign (prec f) false s k (low f))

  pattern_units : of_bits f (k * hid f + s) ≡ units f false s k
  pattern_units =
      let fine : s * 2 ^ k < 2 ^ (low f + suc (emax f)) = lt_of_lt_of_le (shl_lt (prec f) k hi) (pow_mono (enough f k few)) in
      same_value f (of_bits f (k * hid f + s)) (units f false s k) false (s * 2 ^ k) (2 ^ low f) (of_bits-fits f (k * hid f + s)) (units_fit f s k hi fine) (pow_pos (low f)) pattern_value (units_val f false s k fine)

  pattern_no_nan : T (not (nan_bits f (k * hid f + s)))
  pattern_no_nan = rw nan_bits_is (has_value (of_bits f (k * hid f + s)) (s * 2 ^ k) (2 ^ low f) pattern_value)

-- ---- the pattern of a root
-- A value is m · 2 ^ (prec + d) · 4 ^ -low, for an m of prec digits: d is `base` where the exponent's field is 1, and goes up with the field.
abbrev pub base : Format → ℕ
base f = low f - prec f

-- the field of the root stays below the one that marks an infinity
half_few : (f : Format) (d : ℕ) → d < ones f + (base f - 1) → suc (half d) < ones f
half_few binary32 d h = omega arith
half_few binary64 d h = omega arith

module _ (f : Format) (m d : ℕ) (lo : hid f ≤ m) (hi : m < 2 ^ prec f) (few : d < ones f + (base f - 1)) where
  pub root_no_nan : T (not (nan_bits f (root_bits f m d)))
  root_no_nan =
      let r = near_digits f m d lo hi in
      rw (bits_is f m d) (pattern_no_nan f (near_root (prec f) (wide (prec f) m d)) (half d) r.least r.most (half_few f d few))

  -- x is `a` of the smallest values, and `a` with `low` zeros after it is m with prec + d
  pub root_result : (x : Float) (a : ℕ) → HasValue x false a (2 ^ low f) → 0 < a → a * 2 ^ low f ≡ m * 2 ^ (prec f + d) → of_bits f (root_bits f m d) ≡ sqrt_of f x
  root_result x a v z e =
      let r = near_digits f m d lo hi in
      ap (λ (b : ℕ). of_bits f b) (bits_is f m d)
      ∙ pattern_units f (near_root (prec f) (wide (prec f) m d)) (half d) r.least r.most (half_few f d few)
      ∙ sym (sqrt_at f x a v z ∙ ap (λ (w : ℕ). root_of f w) e ∙ root_of_digits f m d lo hi)
