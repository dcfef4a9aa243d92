-- The first pass in the lower triangle, a row at a time: row i takes the column that the pass would write next, and reads only rows that are done. Assumes nothing.
use mathlib.Core.Path.{◌≡◌, refl, sym, ap, ◌∙◌}
use mathlib.Core.List.{List}
use Prim.Native.Nat.{ℕ, suc, ◌+◌, ◌-◌, ◌*◌, ◌<◌, ◌≤◌}
use native.Mathlib.Decide.{dec_lt}
use native.Mathlib.Omega.{arith}
use borrow.Author.Tests.{le-leb, lt-leb, lt-ltb, le-ltb}
use lib.ListN.{length}
use lib.Ieee.{Float, Format, mul, neg}
use Rattle.numbers.specs.Reciprocal.{recip_of}
use Rattle.grids.specs.Grid.{run, grid, cell}
use Rattle.grids.proofs.Grids.{grid-cell, grid_ext, grid_self}
use Rattle.grids.proofs.RowParts.{row_part}
use Rattle.factors.specs.Inverse.{unit_at, solved_at, solved}
use Rattle.factors.specs.Rows.{solved_below}
use Rattle.factors.proofs.Upward.{plus_ext, solve_off, solve_at}

module _ (f : Format) (L e : ℕ → ℕ → Float) (i : ℕ) where
  -- a row that is done has its column, down to the diagonal
  pub side_done : (r c : ℕ) → r < i → c ≤ r → solved_below f L e i r c ≡ solved f L e i c r
  side_done r c h k = simp (lt-ltb r i h, le-leb c r k)

  -- a row that is not done is as it was
  pub side_past : (r c : ℕ) → i ≤ r → solved_below f L e i r c ≡ e r c
  side_past r c h = simp (le-ltb r i h)

  -- so is what lies right of the diagonal
  pub side_right : (r c : ℕ) → r < c → solved_below f L e i r c ≡ e r c
  side_right r c h = elim (dec_lt r i) [ yes k ↦ simp (lt-ltb r i k, lt-leb c r h) | no k ↦ side_past r c (omega arith) ]

-- a row more leaves the others
side_others : (f : Format) (L e : ℕ → ℕ → Float) (i r c : ℕ) → (r ≡ i → ⊥) → solved_below f L e i r c ≡ solved_below f L e (suc i) r c
unfolding solved
side_others f L e i r c q =
    elim (dec_lt r c) [
      | yes h ↦ side_right f L e i r c h ∙ sym (side_right f L e (suc i) r c h)
      | no h ↦ elim (dec_lt r i) [
        | yes k ↦ side_done f L e i r c k (omega arith) ∙ sym (solve_off f L (solved f L e i) i c r q) ∙ sym (side_done f L e (suc i) r c (omega arith) (omega arith))
        | no k ↦ side_past f L e i r c (omega arith) ∙ sym (side_past f L e (suc i) r c (omega arith))
      ]
    ]

-- row i down to the diagonal, by any entries that have the columns before i in their rows
side_here :
    (f : Format) (L e g : ℕ → ℕ → Float) (i c : ℕ) → c ≤ i → ((r : ℕ) → c ≤ r → r < i → g r c ≡ solved_below f L e i r c)
    → solved_at f L (λ r c. g c r) i c ≡ solved_below f L e (suc i) i c
unfolding solved
side_here f L e g i c h same =
    let S = solved f L e i in
    ap (λ (x : Float). mul f x (recip_of f (L i i)))
    (plus_ext f (unit_at i c) (unit_at i c) (λ k. mul f (neg (L i (c + k))) (g (c + k) c)) (λ k. mul f (neg (L i (c + k))) (S c (c + k))) (i - c) refl (λ k kh.
    ap (mul f (neg (L i (c + k)))) (same (c + k) (omega arith) (omega arith) ∙ side_done f L e i (c + k) c (omega arith) (omega arith))))
    ∙ sym (solve_at f L S i c h)
    ∙ sym (side_done f L e (suc i) i c (omega arith) h)

-- before the first row none is done
pub side_start : (f : Format) (n : ℕ) (L : ℕ → ℕ → Float) (b : List Float) → b ≡ grid n n (solved_below f L (cell n b) 0) b
side_start f n L b = sym (grid_self n n b) ∙ grid_ext n n _ _ b (λ r c hr hc. sym (side_past f L (cell n b) 0 r c (omega arith)))

-- a row more
pub side_more :
    (f : Format) (n : ℕ) (L : ℕ → ℕ → Float) (b z z' : List Float) (i : ℕ) → i < n → n * n ≤ length b
    → z ≡ grid n n (solved_below f L (cell n b) i) b → z' ≡ run (i * n) (i + 1) (solved_at f L (λ r c. cell n z c r) i) z
    → z' ≡ grid n n (solved_below f L (cell n b) (suc i)) b
side_more f n L b z z' i hi fits q p =
    let e = cell n b in
    p ∙ row_part n n (solved_below f L e i) (solved_below f L e (suc i)) (solved_at f L (λ r c. cell n z c r) i) b z i (i + 1) hi (omega arith) (omega arith) fits q
    (λ c h. side_here f L e (cell n z) i c (omega arith) (λ r k l. ap (λ (w : List Float). cell n w r c) q ∙ grid-cell n n (solved_below f L e i) b r c (omega arith) (omega arith) fits))
    (λ c h. side_right f L e i i c (omega arith) ∙ sym (side_right f L e (suc i) i c (omega arith)))
    (side_others f L e i)
