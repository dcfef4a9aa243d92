-- Of two floats that are whole numbers, `!=` says whether the numbers differ; both zeros are 0. Assumes nothing.
use mathlib.Core.Path.{◌≡◌, refl, sym, ap, ap₂, ◌∙◌}
use mathlib.Core.Bool.{Bool, true, false, not, ◌&&◌, ◌||◌, beq, true≢false, false≢true}
use Prim.Native.Nat.{ℕ, zero, suc, ◌*◌, ◌<◌}
use native.Mathlib.Nat.{mul-one, mul_assoc, mul_comm, mul-pos, zero-mul, eq_of_mul-eq-mul_right}
use borrow.Author.Tests.{eqb-true, eq-eqb}
use lib.IntN.{ℤ, pos, nat_abs, neg_ℤ, pos-ne-negsuc}
use lib.Dec.{eqb}
use lib.Ieee.{Float, nan, inf, fin, up, down, level, eq, ne}
use lib.Ieee.Fits.{down_pos}
use Rattle.numbers.specs.Whole.{signed, Whole}
use Rattle.numbers.proofs.Exact.{abs_signed}

both : (b c : Bool) → (b && c) ≡ true → (b ≡ true) × (c ≡ true)
both true c h = (refl, h)
both false c h = absurd (false≢true h)

-- ±p k = ±q k says ±p = ±q
level_signed : (s t : Bool) (p q k : ℕ) → 0 < k → level s (p * k) t (q * k) ≡ true → signed s p ≡ signed t q
level_signed s t p q k K h = go s t (both (eqb (p * k) (q * k)) (beq s t || eqb (p * k) 0) h).1
  where
    same : p ≡ q
    same = eq_of_mul-eq-mul_right k K p q (eqb-true (p * k) (q * k) (both (eqb (p * k) (q * k)) (beq s t || eqb (p * k) 0) h).0)

    none : eqb (p * k) 0 ≡ true → p ≡ 0
    none e = eq_of_mul-eq-mul_right k K p 0 (eqb-true (p * k) 0 e ∙ sym (zero-mul k))

    go : (s t : Bool) → (beq s t || eqb (p * k) 0) ≡ true → signed s p ≡ signed t q
    go true true e = ap (signed true) same
    go false false e = ap (signed false) same
    go true false e = ap (signed true) (none e) ∙ ap (signed false) (sym (none e) ∙ same)
    go false true e = ap (signed false) (none e) ∙ ap (signed true) (sym (none e) ∙ same)

minus_self : (p : ℕ) → neg_ℤ (pos p) ≡ pos p → p ≡ 0
minus_self zero e = refl
minus_self (suc p) e = absurd (pos-ne-negsuc (suc p) p (sym e))

signed_level : (s t : Bool) (p q k : ℕ) → signed s p ≡ signed t q → level s (p * k) t (q * k) ≡ true
signed_level s t p q k h = go s t h
  where
    same : p ≡ q
    same = sym (abs_signed s p) ∙ ap nat_abs h ∙ abs_signed t q

    none : p ≡ 0 → eqb (p * k) 0 ≡ true
    none e = eq-eqb (p * k) 0 (ap (λ (i : ℕ). i * k) e ∙ zero-mul k)

    first : eqb (p * k) (q * k) ≡ true
    first = eq-eqb (p * k) (q * k) (ap (λ (i : ℕ). i * k) same)

    go : (s t : Bool) → signed s p ≡ signed t q → level s (p * k) t (q * k) ≡ true
    go true true e = rw first
    go false false e = rw first
    go true false e = rw (first, none (minus_self p (e ∙ ap pos (sym same))))
    go false true e = rw (first, none (minus_self p (ap (λ (i : ℕ). neg_ℤ (pos i)) same ∙ sym e)))

-- both over one fraction
eq_is : (x y : Float) (a b : ℤ) (v : Whole x a) (w : Whole y b) → (k : ℕ) × (0 < k) × (eq x y ≡ level v.sign (v.size * k) w.sign (w.size * k))
unfolding eq
eq_is nan y a b v w = absurd v.value
eq_is (inf s) y a b v w = absurd v.value
eq_is (fin s m e) nan a b v w = absurd w.value
eq_is (fin s m e) (inf t) a b v w = absurd w.value
eq_is (fin s m e) (fin t n d) a b v w =
    let p = v.size in
    let q = w.size in
    let ep : m * up e * down d ≡ p * (down e * down d) = ap (λ (i : ℕ). i * down d) (sym (mul-one (m * up e)) ∙ v.value.1) ∙ mul_assoc p (down e) (down d) in
    let eq' : n * up d * down e ≡ q * (down e * down d) = ap (λ (i : ℕ). i * down e) (sym (mul-one (n * up d)) ∙ w.value.1) ∙ mul_assoc q (down d) (down e) ∙ ap (λ (i : ℕ). q * i) (mul_comm (down d) (down e)) in
    (down e * down d, mul-pos (down_pos e) (down_pos d), ap₂ (λ (i j : Bool). level i (m * up e * down d) j (n * up d * down e)) v.value.0 w.value.0 ∙ ap₂ (λ (i j : ℕ). level v.sign i w.sign j) ep eq')

pub eq_numbers : (x y : Float) (a b : ℤ) → Whole x a → Whole y b → eq x y ≡ true → a ≡ b
eq_numbers x y a b v w h =
    let k = eq_is x y a b v w in
    sym v.same ∙ level_signed v.sign w.sign v.size w.size k.0 k.1 (sym k.2 ∙ h) ∙ w.same

pub numbers_eq : (x y : Float) (a b : ℤ) → Whole x a → Whole y b → a ≡ b → eq x y ≡ true
numbers_eq x y a b v w h =
    let k = eq_is x y a b v w in
    k.2 ∙ signed_level v.sign w.sign v.size w.size k.0 (v.same ∙ h ∙ sym w.same)

flag : (b : Bool) → (b ≡ true → ⊥) → not b ≡ true
flag true h = absurd (h refl)
flag false h = refl

pub ne_numbers : (x y : Float) (a b : ℤ) → Whole x a → Whole y b → ne x y ≡ true → a ≡ b → ⊥
unfolding ne
ne_numbers x y a b v w h e = true≢false (sym h ∙ ap not (numbers_eq x y a b v w e))

pub numbers_ne : (x y : Float) (a b : ℤ) → Whole x a → Whole y b → (a ≡ b → ⊥) → ne x y ≡ true
unfolding ne
numbers_ne x y a b v w h = flag (eq x y) (λ e. h (eq_numbers x y a b v w e))
