-- Two values of a format that are the same number with the same sign are one value. Assumes nothing.
use mathlib.Core.Path.{◌≡◌, sym, ap, ap₂, ◌∙◌}
use Prim.Native.Nat.{ℕ, ◌+◌, ◌-◌, ◌*◌, ◌/◌, ◌^◌, ◌<◌}
use native.Mathlib.Nat.{mul_right_comm, eq_of_mul-eq-mul_right}
use mathlib.Core.Bool.{Bool, cond}
use lib.IntN.{ℤ}
use lib.Dec.{T}
use lib.Ieee.{Float, nan, inf, fin, Format, prec, low, hid, top, up, down, size, fits, to_bits, of_bits}
use lib.Ieee.Fits.{down_pos}
use lib.Ieee.Bits.{of_bits-to_bits}
use lib.Ieee.Nearest.{div_same}
use lib.Ieee.Exact.{HasValue}

-- a bit pattern turns on the sign and the size alone
bits_of_lem : (f : Format) (s t : Bool) (m : ℕ) (e : ℤ) (n : ℕ) (d : ℤ) → s ≡ t → m * up e * down d ≡ n * up d * down e → to_bits f (fin s m e) ≡ to_bits f (fin t n d)
unfolding to_bits
bits_of_lem f s t m e n d p q =
    let l = 2 ^ low f in
    let x : m * up e * l * down d ≡ n * up d * l * down e = mul_right_comm (m * up e) l (down d) ∙ ap (λ (z : ℕ). z * l) q ∙ mul_right_comm (n * up d) (down e) l in
    let k : m * up e * l / down e ≡ n * up d * l / down d = div_same (m * up e * l) (down e) (n * up d * l) (down d) (down_pos e) (down_pos d) x in
    ap₂ (λ (b : Bool) (w : ℕ). cond b (top f) 0 + (size w - prec f) * hid f + w / 2 ^ (size w - prec f)) p k

pub same_value : (f : Format) (x y : Float) (s : Bool) (a c : ℕ) → T (fits f x) → T (fits f y) → 0 < c → HasValue x s a c → HasValue y s a c → x ≡ y
same_value f nan y s a c F G C h k = absurd h
same_value f (inf t) y s a c F G C h k = absurd h
same_value f (fin t m e) nan s a c F G C h k = absurd k
same_value f (fin t m e) (inf u) s a c F G C h k = absurd k
same_value f (fin t m e) (fin u n d) s a c F G C h k =
    let q : m * up e * down d ≡ n * up d * down e =
    eq_of_mul-eq-mul_right c C (m * up e * down d) (n * up d * down e)
    (mul_right_comm (m * up e) (down d) c
    ∙ ap (λ (z : ℕ). z * down d) h.1
    ∙ mul_right_comm a (down e) (down d)
    ∙ ap (λ (z : ℕ). z * down e) (sym k.1)
    ∙ mul_right_comm (n * up d) c (down e)) in
    sym (of_bits-to_bits f (fin t m e) F) ∙ ap (λ (b : ℕ). of_bits f b) (bits_of_lem f t u m e n d (h.0 ∙ sym k.0) q) ∙ of_bits-to_bits f (fin u n d) G
