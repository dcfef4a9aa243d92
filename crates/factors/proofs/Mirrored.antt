-- The second pass from the lower triangle: there it writes what the definition has from that triangle on both sides of the diagonal, since what stands there equals its transpose
-- all the way; and both passes one after the other. Assumes nothing.
use mathlib.Core.Path.{◌≡◌, refl, sym, ap, subst, ◌∙◌}
use mathlib.Core.Bool.{cond, ◌&&◌}
use mathlib.Core.List.{List}
use Prim.Native.Nat.{ℕ, zero, suc, ◌+◌, ◌-◌, ◌*◌, ◌<◌, ◌≤◌}
use native.Mathlib.Decide.{ℕ_discrete, dec_lt}
use native.Mathlib.Omega.{arith}
use borrow.Author.Tests.{lt-ltb, le-ltb, le-leb, lt-leb}
use lib.Dec.{ltb}
use lib.ListN.{length}
use lib.Ieee.{Float, Format, mul, neg}
use Rattle.numbers.specs.Reciprocal.{recip_of}
use Rattle.grids.specs.Grid.{grid, cell, Same}
use Rattle.grids.proofs.Grids.{grid_ext, grid_self}
use Rattle.grids.proofs.Steps.{regrid}
use Rattle.factors.specs.Inverse.{solved, back_at, back_column, cross, back, inverse}
use Rattle.factors.specs.Rows.{solved_below, mirrored, row_at, back_row}
use Rattle.factors.proofs.Upward.{plus_ext}
use Rattle.factors.proofs.Crosses.{cross_up, cross-left, cross_off, cross_low, cross_right, cross_sym}
use Rattle.factors.proofs.Downward.{back_same}
use Rattle.factors.proofs.BackRows.{row_local}
use Rattle.factors.proofs.OnlyLower.{back-lower}

-- ---- the lower triangle on both sides

module _ (e : ℕ → ℕ → Float) (r c : ℕ) where
  -- on and above the diagonal stands the transpose
  mirror_up : r ≤ c → mirrored e r c ≡ e c r
  mirror_up h = simp (le-leb r c h)

  -- below it nothing is other
  mirror_low : c < r → mirrored e r c ≡ e r c
  mirror_low h = simp (lt-leb r c h)

-- it equals its transpose
mirror_sym : (e : ℕ → ℕ → Float) (r c : ℕ) → mirrored e r c ≡ mirrored e c r
mirror_sym e r c =
    elim (dec_lt r c) [
      | yes h ↦ mirror_up e r c (omega arith) ∙ sym (mirror_low e c r h)
      | no h ↦ elim (dec_lt c r) [
        | yes k ↦ mirror_low e r c k ∙ sym (mirror_up e c r (omega arith))
        | no k ↦ let q : r ≡ c = omega arith in subst (λ (x : ℕ). mirrored e r x ≡ mirrored e x r) q refl
      ]
    ]

-- so does what the pass makes of entries that do
still_sym : (f : Format) (n : ℕ) (L e : ℕ → ℕ → Float) → ((r c : ℕ) → e r c ≡ e c r) → (d r c : ℕ) → back f n L e d r c ≡ back f n L e d c r
unfolding back
still_sym f n L e s zero r c = s r c
still_sym f n L e s (suc d) r c = cross_sym (back f n L e d) (n - suc d) (back_at f n L (back f n L e d) (n - suc d)) (n - suc d + 1) r c (still_sym f n L e s d r c)

-- entries that agree within n by n agree mirrored
mirror_local : (n : ℕ) (g h : ℕ → ℕ → Float) → Same n g h → Same n (mirrored g) (mirrored h)
mirror_local n g h s r c hr hc = cc (s r c hr hc, s c r hc hr)

-- ---- columns i on done, above the diagonal too

-- E, but above the diagonal, left of column i, as e has it
abbrev pub down_to : ℕ → (ℕ → ℕ → Float) → (ℕ → ℕ → Float) → ℕ → ℕ → Float
down_to i e E r c = cond (ltb r c && ltb c i) (e r c) (E r c)

module _ (i : ℕ) (e E : ℕ → ℕ → Float) (r c : ℕ) where
  -- on and below the diagonal it is E
  down_low : c ≤ r → down_to i e E r c ≡ E r c
  down_low h = simp (le-ltb r c h)

  -- above it, left of column i, e
  down_old : r < c → c < i → down_to i e E r c ≡ e r c
  down_old h k = simp (lt-ltb r c h, lt-ltb c i k)

  -- from column i on it is E
  down_right : i ≤ c → down_to i e E r c ≡ E r c
  down_right h = elim (dec_lt r c) [ yes k ↦ simp (lt-ltb r c k, le-ltb c i h) | no k ↦ down_low (omega arith) ]

-- off column i it is no other for i + 1
down_off : (i : ℕ) (e E F : ℕ → ℕ → Float) (r c : ℕ) → (c ≡ i → ⊥) → E r c ≡ F r c → down_to (i + 1) e E r c ≡ down_to i e F r c
down_off i e E F r c h q =
    elim (dec_lt r c) [
      | yes k ↦ elim (dec_lt c i) [
        | yes m ↦ down_old (i + 1) e E r c k (omega arith) ∙ sym (down_old i e F r c k m)
        | no m ↦ down_right (i + 1) e E r c (omega arith) ∙ q ∙ sym (down_right i e F r c (omega arith))
      ]
      | no k ↦ down_low (i + 1) e E r c (omega arith) ∙ q ∙ sym (down_low i e F r c (omega arith))
    ]

-- a row and its column, worked out from the lower triangle, are what the definition has of entries E that equal their transposes
row_down :
    (f : Format) (n : ℕ) (L e E : ℕ → ℕ → Float) (i : ℕ) → ((r c : ℕ) → E r c ≡ E c r) → (r c : ℕ)
    → back_row f n L (down_to (i + 1) e E) i r c ≡ down_to i e (back_column f n L E i) r c
row_down f n L e E i s r c =
    let D = down_to (i + 1) e E in
    let g = row_at f n L D i in
    let h = back_at f n L E i in
    let X = cross E i h (i + 1) in
    let at : (j : ℕ) → j ≤ i → g j ≡ h j =
    λ j hj. ap (λ (x : Float). mul f x (recip_of f (L i i)))
    (plus_ext f (D i j) (E j i) _ _ (n - (i + 1)) (down_low (i + 1) e E i j hj ∙ s i j) (λ k kh.
    ap (mul f (neg (L (i + 1 + k) i))) (down_low (i + 1) e E (i + 1 + k) j (omega arith) ∙ s (i + 1 + k) j))) in
    elim (ℕ_discrete c i) [
      | yes q ↦
          subst (λ (y : ℕ). cross D i g (i + 1) r y ≡ down_to i e X r y) (sym q)
          (elim (dec_lt r (i + 1)) [
            | yes k ↦ cross_up D i g (i + 1) r k ∙ at r (omega arith) ∙ sym (cross_up E i h (i + 1) r k)
            | no k ↦ cross_low D i g (i + 1) r (omega arith) (λ x. omega arith) ∙ down_low (i + 1) e E r i (omega arith) ∙ sym (cross_low E i h (i + 1) r (omega arith) (λ x. omega arith))
          ]
          ∙ sym (down_right i e X r i (omega arith)))
      | no q ↦ elim (ℕ_discrete r i) [
        | yes p ↦
            subst (λ (x : ℕ). cross D i g (i + 1) x c ≡ down_to i e X x c) (sym p)
            (elim (dec_lt c (i + 1)) [
              | yes k ↦ cross-left D i g (i + 1) c q k ∙ at c (omega arith) ∙ sym (cross-left E i h (i + 1) c q k) ∙ sym (down_low i e X i c (omega arith))
              | no k ↦
                  cross_right D i g (i + 1) c (omega arith) ∙ down_right (i + 1) e E i c (omega arith)
                  ∙ sym (cross_right E i h (i + 1) c (omega arith)) ∙ sym (down_right i e X i c (omega arith))
            ])
        | no p ↦ cross_off D i g (i + 1) r c q p ∙ down_off i e E X r c q (sym (cross_off E i h (i + 1) r c q p))
      ]
    ]

-- ---- in a buffer

module _ (f : Format) (n : ℕ) (L : ℕ → ℕ → Float) (b : List Float) where
  -- before the first row
  pub none-back : b ≡ grid n n (down_to n (cell n b) (back f n L (mirrored (cell n b)) (n - n))) b
  unfolding back
  none-back =
      let e = cell n b in
      let none : n - n ≡ 0 = omega arith in
      sym (grid_self n n b)
      ∙ grid_ext n n _ _ b (λ r c hr hc.
      sym (elim (dec_lt r c) [
        | yes h ↦ down_old n e (mirrored e) r c h hc
        | no h ↦ down_low n e (mirrored e) r c (omega arith) ∙ mirror_sym e r c ∙ mirror_up e c r (omega arith)
      ]))
      ∙ ap (λ (d : ℕ). grid n n (down_to n e (back f n L (mirrored e) d)) b) (sym none)

  -- a row more, downward from m
  pub row_back :
      (z z' : List Float) (m : ℕ) → 0 < m → m ≤ n → n * n ≤ length b
      → z ≡ grid n n (down_to m (cell n b) (back f n L (mirrored (cell n b)) (n - m))) b → z' ≡ grid n n (back_row f n L (cell n z) (m - 1)) z
      → z' ≡ grid n n (down_to (m - 1) (cell n b) (back f n L (mirrored (cell n b)) (n - (m - 1)))) b
  unfolding back
  row_back z z' m some hm fits q p =
      let e = cell n b in
      let d = n - m in
      let E = back f n L (mirrored e) d in
      let here : m ≡ m - 1 + 1 = omega arith in
      let last : m - 1 ≡ n - suc d = omega arith in
      let more : suc d ≡ n - (m - 1) = omega arith in
      p ∙ regrid n (λ g. back_row f n L g (m - 1)) (down_to m e E) b z fits (row_local f n L (m - 1) (omega arith)) q
      ∙ ap (λ (x : ℕ). grid n n (back_row f n L (down_to x e E) (m - 1)) b) here
      ∙ grid_ext n n _ _ b (λ r c hr hc. row_down f n L e E (m - 1) (still_sym f n L (mirrored e) (mirror_sym e) d) r c)
      ∙ ap (λ (x : ℕ). grid n n (down_to (m - 1) e (back_column f n L E x)) b) last
      ∙ ap (λ (x : ℕ). grid n n (down_to (m - 1) e (back f n L (mirrored e) x)) b) more

  -- after the last row
  pub all_back : (z : List Float) (m : ℕ) → m ≡ 0 → z ≡ grid n n (down_to m (cell n b) (back f n L (mirrored (cell n b)) (n - m))) b → z ≡ grid n n (back f n L (mirrored (cell n b)) n) b
  all_back z m h q =
      let e = cell n b in
      let all : n - m ≡ n = omega arith in
      q ∙ ap (λ (d : ℕ). grid n n (down_to m e (back f n L (mirrored e) d)) b) all
      ∙ grid_ext n n _ _ b (λ r c hr hc. down_right m e (back f n L (mirrored e) n) r c (omega arith))

-- ---- both passes

-- one pass after the other: the second reads on and above the diagonal what the first left there, and below it by the transpose
pub both :
    (f : Format) (n : ℕ) (L : ℕ → ℕ → Float) (b z z' : List Float) → n * n ≤ length b
    → z ≡ grid n n (solved_below f L (cell n b) n) b → z' ≡ grid n n (back f n L (mirrored (cell n z)) n) z → z' ≡ grid n n (inverse f n L (cell n b)) b
both f n L b z z' fits q p =
    let e = cell n b in
    let S = solved_below f L e n in
    p ∙ regrid n (λ g. back f n L (mirrored g) n) S b z fits (λ g h s. back_same f n L (mirrored g) (mirrored h) n (omega arith) (mirror_local n g h s)) q
    ∙ grid_ext n n _ _ b
    (back-lower f n L L (λ r c h k. refl) (mirrored S) (solved f L e n) (λ r c h k. mirror_up S r c h ∙ simp (lt-ltb c n k, le-leb r c h)))
