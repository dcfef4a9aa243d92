-- The second pass goes by the entries within n by n, a column and all of them. Assumes nothing.
use mathlib.Core.Path.{◌≡◌, ap}
use Prim.Native.Nat.{ℕ, zero, suc, ◌+◌, ◌-◌, ◌<◌, ◌≤◌}
use native.Mathlib.Omega.{arith}
use lib.Ieee.{Float, Format, mul, neg}
use Rattle.numbers.specs.Reciprocal.{recip_of}
use Rattle.grids.specs.Grid.{Same}
use Rattle.factors.specs.Inverse.{back_at, back_column, back}
use Rattle.factors.proofs.Upward.{plus_ext}

-- what is worked out goes by the entries within n by n
backs_local :
    (f : Format) (n : ℕ) (L : ℕ → ℕ → Float) (i : ℕ) → i < n → (g h : ℕ → ℕ → Float) → Same n g h → (j : ℕ) → j < n → back_at f n L g i j ≡ back_at f n L h i j
backs_local f n L i hi g h s j hj =
    ap (λ (x : Float). mul f x (recip_of f (L i i)))
    (plus_ext f (g j i) (h j i) _ _ (n - (i + 1)) (s j i hj hi) (λ k kh. ap (mul f (neg (L (i + 1 + k) i))) (s j (i + 1 + k) hj (omega arith))))

-- entries that agree within n by n agree after the step
back_local : (f : Format) (n : ℕ) (L : ℕ → ℕ → Float) (i : ℕ) → i < n → (g h : ℕ → ℕ → Float) → Same n g h → Same n (back_column f n L g i) (back_column f n L h i)
back_local f n L i hi g h s r c hr hc = cc (backs_local f n L i hi g h s r hr, backs_local f n L i hi g h s c hc, s r c hr hc)

-- entries that agree within n by n agree after the pass
pub back_same : (f : Format) (n : ℕ) (L g h : ℕ → ℕ → Float) (d : ℕ) → d ≤ n → Same n g h → Same n (back f n L g d) (back f n L h d)
unfolding back
back_same f n L g h zero hd s = s
back_same f n L g h (suc d) hd s = back_local f n L (n - suc d) (omega arith) _ _ (back_same f n L g h d (omega arith) s)
