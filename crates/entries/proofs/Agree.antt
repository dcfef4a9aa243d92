-- `mult`, `mult_buffered`, and `mult_transb` on the transposed right operand agree on all floats: their sums have the same terms in the same order.
-- Assumes nothing.
use mathlib.Core.Path.{◌≡◌, sym, ap, ◌∙◌}
use mathlib.Core.Bool.{true}
use mathlib.Core.List.{List}
use Prim.Native.Nat.{ℕ, ◌<◌}
use lib.Ieee.{Float, Format, mul}
use Rattle.answers.specs.Answers.{is_done, settled, Answer}
use Rattle.numbers.specs.Sums.{plus0, products}
use Rattle.numbers.proofs.Sums.{sum_same}
use Rattle.grids.specs.Grid.{cell, grid}
use Rattle.grids.proofs.Grids.{grid_ext}
use Rattle.entries.specs.Entries.{product, product_t, Transposed}
use Rattle.entries.specs.Products.{Multiplied, Buffered, MultipliedT}

-- a call that is done leaves the new numbers
left_done : (v : Answer) (new old : List Float) {after : List Float} → after ≡ settled v new old → is_done v ≡ true → after ≡ new
left_done v new old e d = e ∙ rw d

module _ (f : Format) (rows inner cols : ℕ) (a b c : List Float) where
  -- where t holds the transpose of b, an entry of a·b and of a·tᵀ are one sum
  pub transposed_agrees : (t : List Float) → Transposed inner cols b t → (r j : ℕ) → j < cols → product f inner cols a b r j ≡ product_t f inner a t r j
  transposed_agrees t h r j l =
      sum_same f plus0 (products f (cell inner a r) (λ k. cell cols b k j)) (products f (cell inner a r) (cell inner t j)) inner
      (λ k lk. ap (λ (x : Float). mul f (cell inner a r k) x) (sym (h k j lk l)))

  -- `mult` of b and `mult_transb` of its transpose leave the same numbers
  pub mult_transb_agree :
      {v w : Answer} {t c' c'' : List Float} → Transposed inner cols b t → Multiplied f rows inner cols a b c v c' → MultipliedT f rows inner cols a t c w c''
      → is_done v ≡ true → is_done w ≡ true → c' ≡ c''
  mult_transb_agree {v} {w} {t} h p q dv dw =
      left_done v _ c p.after dv ∙ grid_ext rows cols (product f inner cols a b) (product_t f inner a t) c (λ r j lr lj. transposed_agrees t h r j lj)
      ∙ sym (left_done w _ c q.after dw)

  -- `mult` and `mult_buffered` leave the same numbers
  pub mult_buffered_agree :
      {v w : Answer} {x c' c'' x' : List Float} → Multiplied f rows inner cols a b c v c' → Buffered f rows inner cols a b c x w c'' x'
      → is_done v ≡ true → is_done w ≡ true → c' ≡ c''
  mult_buffered_agree {v} {w} p q dv dw = left_done v (grid rows cols (product f inner cols a b) c) c p.after dv ∙ sym (left_done w _ c q.after dw)
