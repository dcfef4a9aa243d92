-- Sums and products of whole numbers are exact while they stay within 2 ^ prec, and so is a sum_from sum of them while the sum of their abs_sum does. Assumes nothing.
use mathlib.Core.Path.{◌≡◌, refl, sym, ap, ap₂, ◌∙◌, subst}
use mathlib.Core.Logic.{⊎_elim}
use Prim.Native.Nat.{ℕ, zero, suc, ◌+◌, ◌-◌, ◌*◌, ◌^◌, ◌≤◌, ◌<◌, suc-le-suc}
use native.Mathlib.Nat.{le_step, le_of_suc-le-suc, not-suc-le-zero, eq-or-lt_of_le, le-add_left, le-add_right, add_comm, le_trans, le_of_eq, le_of_lt, le_refl, sub-add_cancel, le_of_mul-le-mul_right, zero-lt-suc, mul-one, mul-pos, mul-mul-mul_comm, mul_assoc, mul_comm, mul-sub, add-mul, zero-mul, mul-zero}
use native.Mathlib.Omega.{arith}
use mathlib.Core.Bool.{Bool, true, false, not, cond}
use lib.IntN.{ℤ, pos, negsuc, neg_ℤ, nat_abs, sub_ℕ, ◌+ℤ◌, ◌-ℤ◌, ◌*ℤ◌, +ℤ_idl, +ℤ_comm, neg_ℤ-neg_ℤ, neg_ℤ-+ℤ, +ℤ-neg_ℤ_cancel}
use lib.Dec.{T, ltb, ltb→lt, nltb→le}
use lib.Ieee.{Float, nan, inf, fin, Format, prec, up, down, unlike, round, sum, neg, add, sub, mul}
use lib.Ieee.Fits.{down_pos}
use lib.Ieee.Scale.{round_same}
use lib.Ieee.Back.{round_whole}
use Rattle.numbers.specs.Whole.{signed, Whole, sumℤ, abs_sum, productsℤ}
use Rattle.numbers.specs.Sums.{plus0, sum_from, sum_of_first, products}

-- ---- on numbers
pub abs_signed : (s : Bool) (c : ℕ) → nat_abs (signed s c) ≡ c
abs_signed false c = refl
abs_signed true zero = refl
abs_signed true (suc c) = refl

signed_mul : (s t : Bool) (a b : ℕ) → signed (unlike s t) (a * b) ≡ signed s a *ℤ signed t b
signed_mul false false a b = refl
signed_mul false true a zero = ap (λ (n : ℕ). neg_ℤ (pos n)) (mul-zero a) ∙ sym (ap pos (mul-zero a))
signed_mul false true a (suc b) = refl
signed_mul true false zero b = ap (λ (n : ℕ). neg_ℤ (pos n)) (zero-mul b) ∙ sym (ap pos (zero-mul b))
signed_mul true false (suc a) b = refl
signed_mul true true zero zero = refl
signed_mul true true zero (suc b) = ap pos (zero-mul (suc b)) ∙ sym (ap (λ (n : ℕ). neg_ℤ (pos n)) (zero-mul (suc b)))
signed_mul true true (suc a) zero = ap pos (mul-zero (suc a)) ∙ sym (ap (λ (n : ℕ). neg_ℤ (pos n)) (mul-zero (suc a)))
signed_mul true true (suc a) (suc b) = refl

signed_add : (s : Bool) (a b : ℕ) → signed s (a + b) ≡ signed s a +ℤ signed s b
signed_add false a b = refl
signed_add true a b = neg_ℤ-+ℤ (pos a) (pos b)

less : (a b : ℕ) → b ≤ a → pos (a - b) ≡ pos a +ℤ neg_ℤ (pos b)
less a b h = sym (+ℤ-neg_ℤ_cancel (pos (a - b)) (pos b)) ∙ ap (λ (n : ℕ). pos n +ℤ neg_ℤ (pos b)) (sub-add_cancel h)

less_neg : (a b : ℕ) → b ≤ a → neg_ℤ (pos (a - b)) ≡ pos b +ℤ neg_ℤ (pos a)
less_neg a b h = ap neg_ℤ (less a b h) ∙ neg_ℤ-+ℤ (pos a) (neg_ℤ (pos b)) ∙ ap (λ (z : ℤ). neg_ℤ (pos a) +ℤ z) (neg_ℤ-neg_ℤ (pos b)) ∙ +ℤ_comm (neg_ℤ (pos a)) (pos b)

sub_scale : (a b k : ℕ) → (a * k - b * k) * 1 ≡ (a - b) * k
sub_scale a b k = mul-one (a * k - b * k) ∙ rw (mul_comm a k, mul_comm b k, mul_comm (a - b) k) (sym (mul-sub k a b))

add_scale : (a b k : ℕ) → (a * k + b * k) * 1 ≡ (a + b) * k
add_scale a b k = mul-one (a * k + b * k) ∙ sym (add-mul a b k)

order : (a b k : ℕ) → 0 < k → a * k ≤ b * k → a ≤ b
order a b k K h = le_of_mul-le-mul_right h K

level : (a b : ℕ) → a ≤ b → a - b ≡ 0
level a b h = omega arith

-- ---- what `round` makes of a fraction that is a whole number
made : (f : Format) (r : Bool) (n k c : ℕ) (z : ℤ) → 0 < k → n * 1 ≡ c * k → signed r c ≡ z → nat_abs z ≤ 2 ^ prec f → Whole (round f r n k) z
made f r n k c z K q e h =
    subst (λ (x : Float). Whole x z) (sym (round_same f r n k c 1 K (zero-lt-suc 0) q))
    (record {
      sign = r;
      size = c;
      value = round_whole f r c (le_trans (le_of_eq (sym (abs_signed r c) ∙ ap nat_abs e)) h);
      same = e;
    })

sum_whole : (f : Format) (s : Bool) (a : ℕ) (t : Bool) (b k : ℕ) → 0 < k → nat_abs (signed s a +ℤ signed t b) ≤ 2 ^ prec f → Whole (sum f s (a * k) t (b * k) k) (signed s a +ℤ signed t b)
unfolding sum
sum_whole f false a false b k K h = made f false (a * k + b * k) k (a + b) (pos a +ℤ pos b) K (add_scale a b k) refl h
sum_whole f true a true b k K h = made f true (a * k + b * k) k (a + b) (neg_ℤ (pos a) +ℤ neg_ℤ (pos b)) K (add_scale a b k) (signed_add true a b) h
sum_whole f false a true b k K h = go (ltb (a * k) (b * k)) (ltb→lt (a * k) (b * k)) (nltb→le (a * k) (b * k))
  where
    go : (x : Bool) → (T x → a * k < b * k) → (T (not x) → b * k ≤ a * k) → Whole (cond x (round f true (b * k - a * k) k) (round f false (a * k - b * k) k)) (pos a +ℤ neg_ℤ (pos b))
    go true l g = made f true (b * k - a * k) k (b - a) (pos a +ℤ neg_ℤ (pos b)) K (sub_scale b a k) (less_neg b a (order a b k K (le_of_lt (l tt)))) h
    go false l g = made f false (a * k - b * k) k (a - b) (pos a +ℤ neg_ℤ (pos b)) K (sub_scale a b k) (less a b (order b a k K (g tt))) h
sum_whole f true a false b k K h = go (ltb (a * k) (b * k)) (ltb (b * k) (a * k)) (ltb→lt (a * k) (b * k)) (nltb→le (a * k) (b * k)) (nltb→le (b * k) (a * k))
  where
    z : ℤ
    z = neg_ℤ (pos a) +ℤ pos b

    go : (x y : Bool) → (T x → a * k < b * k) → (T (not x) → b * k ≤ a * k) → (T (not y) → a * k ≤ b * k)
        → Whole (cond x (round f false (b * k - a * k) k) (round f y (a * k - b * k) k)) (neg_ℤ (pos a) +ℤ pos b)
    go true y l g w = made f false (b * k - a * k) k (b - a) (neg_ℤ (pos a) +ℤ pos b) K (sub_scale b a k) (less b a (order a b k K (le_of_lt (l tt))) ∙ +ℤ_comm (pos b) (neg_ℤ (pos a))) h
    go false true l g w = made f true (a * k - b * k) k (a - b) (neg_ℤ (pos a) +ℤ pos b) K (sub_scale a b k) (less_neg a b (order b a k K (g tt)) ∙ +ℤ_comm (pos b) (neg_ℤ (pos a))) h
    go false false l g w =
        made f false (a * k - b * k) k (a - b) (neg_ℤ (pos a) +ℤ pos b) K (sub_scale a b k)
        (ap pos (level a b (order a b k K (w tt))) ∙ sym (ap (λ (n : ℕ). neg_ℤ (pos n)) (level a b (order a b k K (w tt)))) ∙ less_neg a b (order b a k K (g tt)) ∙ +ℤ_comm (pos b) (neg_ℤ (pos a))) h

-- ---- the operations
-- a whole float's fraction
plain : (m : ℕ) (e : ℤ) (c : ℕ) → m * up e * 1 ≡ c * down e → m * up e ≡ c * down e
plain m e c h = sym (mul-one (m * up e)) ∙ h

pub mul_whole : (f : Format) (x y : Float) (a b : ℤ) → Whole x a → Whole y b → nat_abs (a *ℤ b) ≤ 2 ^ prec f → Whole (mul f x y) (a *ℤ b)
unfolding mul
mul_whole f nan y a b v w h = absurd v.value
mul_whole f (inf s) y a b v w h = absurd v.value
mul_whole f (fin s m e) nan a b v w h = absurd w.value
mul_whole f (fin s m e) (inf t) a b v w h = absurd w.value
mul_whole f (fin s m e) (fin t n d) a b v w h =
    let p = v.size in
    let q = w.size in
    made f (unlike s t) (m * up e * (n * up d)) (down e * down d) (p * q) (a *ℤ b) (mul-pos (down_pos e) (down_pos d))
    (mul-one (m * up e * (n * up d)) ∙ ap₂ (λ (i j : ℕ). i * j) (plain m e p v.value.1) (plain n d q w.value.1) ∙ mul-mul-mul_comm p (down e) q (down d))
    (signed_mul s t p q ∙ ap₂ (λ (i j : ℤ). i *ℤ j) (ap (λ (r : Bool). signed r p) v.value.0 ∙ v.same) (ap (λ (r : Bool). signed r q) w.value.0 ∙ w.same))
    h

pub add_whole : (f : Format) (x y : Float) (a b : ℤ) → Whole x a → Whole y b → nat_abs (a +ℤ b) ≤ 2 ^ prec f → Whole (add f x y) (a +ℤ b)
unfolding add
add_whole f nan y a b v w h = absurd v.value
add_whole f (inf s) y a b v w h = absurd v.value
add_whole f (fin s m e) nan a b v w h = absurd w.value
add_whole f (fin s m e) (inf t) a b v w h = absurd w.value
add_whole f (fin s m e) (fin t n d) a b v w h =
    let p = v.size in
    let q = w.size in
    let ea : signed s p ≡ a = ap (λ (r : Bool). signed r p) v.value.0 ∙ v.same in
    let eb : signed t q ≡ b = ap (λ (r : Bool). signed r q) w.value.0 ∙ w.same in
    let ez : signed s p +ℤ signed t q ≡ a +ℤ b = ap₂ (λ (i j : ℤ). i +ℤ j) ea eb in
    let ep : m * up e * down d ≡ p * (down e * down d) = ap (λ (i : ℕ). i * down d) (plain m e p v.value.1) ∙ mul_assoc p (down e) (down d) in
    let eq : n * up d * down e ≡ q * (down e * down d) = ap (λ (i : ℕ). i * down e) (plain n d q w.value.1) ∙ mul_assoc q (down d) (down e) ∙ ap (λ (i : ℕ). q * i) (mul_comm (down d) (down e)) in
    subst (λ (z : ℤ). Whole (sum f s (m * up e * down d) t (n * up d * down e) (down e * down d)) z) ez
    (subst (λ (i : ℕ). Whole (sum f s i t (n * up d * down e) (down e * down d)) (signed s p +ℤ signed t q)) (sym ep)
    (subst (λ (j : ℕ). Whole (sum f s (p * (down e * down d)) t j (down e * down d)) (signed s p +ℤ signed t q)) (sym eq)
    (sum_whole f s p t q (down e * down d) (mul-pos (down_pos e) (down_pos d)) (le_trans (le_of_eq (ap nat_abs ez)) h))))

not_signed : (s : Bool) (c : ℕ) → signed (not s) c ≡ neg_ℤ (signed s c)
not_signed false c = refl
not_signed true c = sym (neg_ℤ-neg_ℤ (pos c))

pub neg_whole : (x : Float) (a : ℤ) → Whole x a → Whole (neg x) (neg_ℤ a)
unfolding neg
neg_whole nan a v = absurd v.value
neg_whole (inf s) a v = absurd v.value
neg_whole (fin s m e) a v = record { sign = not v.sign; size = v.size; value = (ap not v.value.0, v.value.1); same = not_signed v.sign v.size ∙ ap neg_ℤ v.same }

pub sub_whole : (f : Format) (x y : Float) (a b : ℤ) → Whole x a → Whole y b → nat_abs (a -ℤ b) ≤ 2 ^ prec f → Whole (sub f x y) (a -ℤ b)
unfolding sub
sub_whole f x y a b v w h = add_whole f x (neg y) a (neg_ℤ b) v (neg_whole y b w) h

-- both zeros are 0
pub zeros : (s : Bool) → Whole (fin s 0 (pos 0)) (pos 0)
zeros s = record { sign = s; size = 0; value = (refl, refl); same = nought s }
  where
    nought : (s : Bool) → signed s 0 ≡ pos 0
    nought true = refl
    nought false = refl

-- ---- a sum_from sum
gap : (a b : ℕ) → nat_abs (sub_ℕ a b) ≤ a + b
gap a b = go (ltb a b) (ltb→lt a b)
  where
    go : (x : Bool) → (T x → a < b) → nat_abs (cond x (negsuc (b - suc a)) (pos (a - b))) ≤ a + b
    go true h = let l : a < b = h tt in omega arith
    go false h = omega arith

pub abs_add : (a b : ℤ) → nat_abs (a +ℤ b) ≤ nat_abs a + nat_abs b
abs_add (pos a) (pos b) = le_refl (a + b)
abs_add (pos a) (negsuc b) = gap a (suc b)
abs_add (negsuc a) (pos b) = let h : nat_abs (sub_ℕ b (suc a)) ≤ b + suc a = gap b (suc a) in le_trans h (le_of_eq (add_comm b (suc a)))
abs_add (negsuc a) (negsuc b) = omega arith

pub sum_abs : (z : ℤ) (g : ℕ → ℤ) (n : ℕ) → nat_abs (sumℤ z g n) ≤ nat_abs z + abs_sum g n
unfolding sumℤ abs_sum
sum_abs z g zero = omega arith
sum_abs z g (suc n) = let h = abs_add (sumℤ z g n) (g n) in let k = sum_abs z g n in omega arith

pub sum_from_whole : (f : Format) (x : Float) (z : ℤ) (g : ℕ → Float) (w : ℕ → ℤ) (n : ℕ) → Whole x z → ((k : ℕ) → k < n → Whole (g k) (w k)) → nat_abs z + abs_sum w n ≤ 2 ^ prec f → Whole (sum_from f x g n) (sumℤ z w n)
unfolding sum_from sumℤ abs_sum
sum_from_whole f x z g w zero v h b = v
sum_from_whole f x z g w (suc n) v h b =
    add_whole f (sum_from f x g n) (g n) (sumℤ z w n) (w n)
    (sum_from_whole f x z g w n v (λ k l. h k (le_step l)) (omega arith))
    (h n (le_refl (suc n)))
    (let i = abs_add (sumℤ z w n) (w n) in let j = sum_abs z w n in omega arith)

-- ---- a sum_from sum of products
abbrev later : {X : Type 0} → (ℕ → X) → ℕ → X
later x k = x (suc k)

one_of : (w : ℕ → ℤ) (n k : ℕ) → k < n → nat_abs (w k) ≤ abs_sum w n
unfolding abs_sum
one_of w zero k h = absurd (not-suc-le-zero h)
one_of w (suc n) k h = ⊎_elim (λ e. subst (λ (i : ℕ). nat_abs (w i) ≤ abs_sum w n + nat_abs (w n)) (sym e) (le-add_left (nat_abs (w n)) (abs_sum w n))) (λ l. le_trans (one_of w n k l) (le-add_right (abs_sum w n) (nat_abs (w n)))) (eq-or-lt_of_le (le_of_suc-le-suc h))

-- the first term taken off: the same sum, and the same sum of the abs_sum
sum_first : (z : ℤ) (w : ℕ → ℤ) (n : ℕ) → sumℤ z w (suc n) ≡ sumℤ (z +ℤ w 0) (later w) n
unfolding sumℤ
sum_first z w zero = refl
sum_first z w (suc n) = ap (λ (i : ℤ). i +ℤ w (suc n)) (sum_first z w n)

abs_first : (w : ℕ → ℤ) (n : ℕ) → abs_sum w (suc n) ≡ nat_abs (w 0) + abs_sum (later w) n
unfolding abs_sum
abs_first w zero = omega arith
abs_first w (suc n) = let h = abs_first w n in omega arith

module _ (f : Format) (x y : ℕ → Float) (a b : ℕ → ℤ) where
  terms : (n : ℕ) → ((k : ℕ) → k < n → Whole (x k) (a k)) → ((k : ℕ) → k < n → Whole (y k) (b k)) → abs_sum (productsℤ a b) n ≤ 2 ^ prec f
      → (k : ℕ) → k < n → Whole (mul f (x k) (y k)) (a k *ℤ b k)
  terms n v w h k l = mul_whole f (x k) (y k) (a k) (b k) (v k l) (w k l) (le_trans (one_of (productsℤ a b) n k l) h)

  -- from +0
  pub dot_from_zero : (n : ℕ) → ((k : ℕ) → k < n → Whole (x k) (a k)) → ((k : ℕ) → k < n → Whole (y k) (b k)) → abs_sum (productsℤ a b) n ≤ 2 ^ prec f
      → Whole (sum_from f plus0 (products f x y) n) (sumℤ (pos 0) (productsℤ a b) n)
  dot_from_zero n v w h = sum_from_whole f plus0 (pos 0) (products f x y) (productsℤ a b) n (zeros false) (terms n v w h) (omega arith)

  -- from the first product
  pub dot_from_first : (n : ℕ) → ((k : ℕ) → k < suc n → Whole (x k) (a k)) → ((k : ℕ) → k < suc n → Whole (y k) (b k)) → abs_sum (productsℤ a b) (suc n) ≤ 2 ^ prec f
      → Whole (sum_of_first f (products f x y) (suc n)) (sumℤ (pos 0) (productsℤ a b) (suc n))
  dot_from_first n v w h =
      subst (λ (z : ℤ). Whole (sum_of_first f (products f x y) (suc n)) z)
      (ap (λ (z : ℤ). sumℤ z (productsℤ (later a) (later b)) n) (sym (+ℤ_idl (a 0 *ℤ b 0))) ∙ sym (sum_first (pos 0) (productsℤ a b) n))
      (sum_from_whole f (mul f (x 0) (y 0)) (a 0 *ℤ b 0) (products f (later x) (later y)) (productsℤ (later a) (later b)) n
      (terms (suc n) v w h 0 (zero-lt-suc n)) (λ k l. terms (suc n) v w h (suc k) (suc-le-suc l)) (le_trans (le_of_eq (sym (abs_first (productsℤ a b) n))) h))
