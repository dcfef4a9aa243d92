-- What it says that a product is not refused, `is_done` having said b of its answer v: the buffers hold their matrices, and the sizes are 1 to 16. Assumes nothing.
use mathlib.Core.Path.{◌≡◌, ap}
use mathlib.Core.Bool.{Bool, true}
use mathlib.Core.List.{[], ◌∷◌}
use Prim.Native.Nat.{ℕ, ◌*◌, ◌≤◌, ◌<◌}
use native.Mathlib.Nat.{mul_comm}
use Rattle.answers.specs.Answers.{is_done, first_of, Answer}
use Rattle.answers.specs.Tests.{buffer_test, lent, call_answer}
use Rattle.answers.proofs.Fit.{fit}
use Rattle.answers.proofs.Kept.{accepted}
use Rattle.entries.specs.Answers.{product_answer, buffered_answer, transposed_answer, row_answer}

module _ (rows inner cols la lb lc : ℕ) where
  -- a·b
  pub product_fits : {v : Answer} {b : Bool} → v ≡ product_answer rows inner cols la lb lc → b ≡ is_done v → b ≡ true → (rows * inner ≤ la) × (inner * cols ≤ lb) × (rows * cols ≤ lc) × (1 ≤ cols) × (cols ≤ 16) × (inner ≤ 16)
  unfolding product_answer
  product_fits q d e =
      let h = fit (rows ∷ inner ∷ cols ∷ []) (lent (rows * inner) la ∷ lent (inner * cols) lb ∷ lent (rows * cols) lc ∷ []) [] (accepted q d e) in
      (h.1.0, h.1.1.0, h.1.1.1.0, h.0.2.2.0, h.0.2.2.1, h.0.2.1)

  -- The tests for a·bᵀ are those for a·b: b has as many cells either way.
  pub transposed_asked : product_answer rows inner cols la lb lc ≡ transposed_answer rows inner cols la lb lc
  unfolding product_answer transposed_answer
  transposed_asked = ap (λ (n : ℕ). call_answer (rows ∷ inner ∷ cols ∷ []) (lent (rows * inner) la ∷ lent n lb ∷ lent (rows * cols) lc ∷ []) []) (mul_comm inner cols)

  -- a·bᵀ
  pub transposed_fits : {v : Answer} {b : Bool} → v ≡ transposed_answer rows inner cols la lb lc → b ≡ is_done v → b ≡ true → (rows * inner ≤ la) × (cols * inner ≤ lb) × (rows * cols ≤ lc) × (1 ≤ cols) × (cols ≤ 16) × (inner ≤ 16)
  unfolding transposed_answer
  transposed_fits q d e =
      let h = fit (rows ∷ inner ∷ cols ∷ []) (lent (rows * inner) la ∷ lent (cols * inner) lb ∷ lent (rows * cols) lc ∷ []) [] (accepted q d e) in
      (h.1.0, h.1.1.0, h.1.1.1.0, h.0.2.2.0, h.0.2.2.1, h.0.2.1)

  -- The tests for a·b with an auxiliary are those without, and then the auxiliary's.
  pub buffered_asked : (lx : ℕ) {u v : Answer} → u ≡ product_answer rows inner cols la lb lc → v ≡ first_of u (buffer_test 3 inner lx) → v ≡ buffered_answer rows inner cols la lb lc lx
  unfolding product_answer buffered_answer
  buffered_asked lx p q = simp (q, p)

  -- a·b with an auxiliary, and column 0 of b
  pub buffered_fits :
      (lx : ℕ) {v : Answer} {b : Bool} → v ≡ buffered_answer rows inner cols la lb lc lx → b ≡ is_done v → b ≡ true
      → ((rows * inner ≤ la) × (inner * cols ≤ lb) × (rows * cols ≤ lc) × (1 ≤ cols) × (cols ≤ 16) × (inner ≤ 16)) × ((0 < cols) × (inner * cols ≤ lb) × (inner ≤ lx))
  unfolding buffered_answer
  buffered_fits lx q d e =
      let h = fit (rows ∷ inner ∷ cols ∷ []) (lent (rows * inner) la ∷ lent (inner * cols) lb ∷ lent (rows * cols) lc ∷ lent inner lx ∷ []) [] (accepted q d e) in
      ((h.1.0, h.1.1.0, h.1.1.1.0, h.0.2.2.0, h.0.2.2.1, h.0.2.1), (h.0.2.2.0, h.1.1.0, h.1.1.1.1.0))

-- a·x
pub row_fits : (rows inner la lx lc : ℕ) {v : Answer} {b : Bool} → v ≡ row_answer rows inner la lx lc → b ≡ is_done v → b ≡ true → (1 ≤ inner) × (rows * inner ≤ la) × (inner ≤ lx) × (rows ≤ lc)
unfolding row_answer
row_fits rows inner la lx lc q d e =
    let h = fit (rows ∷ inner ∷ []) (lent (rows * inner) la ∷ lent inner lx ∷ lent rows lc ∷ []) [] (accepted q d e) in
    (h.0.2.0, h.1.0, h.1.1.0, h.1.1.1.0)
