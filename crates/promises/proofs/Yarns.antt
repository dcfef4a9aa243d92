-- A run of the one-state record is a run of the filter at n = 1, so R23 and R24 hold of it: a prediction by value has the numbers of one over buffers of one number.
-- Assumes nothing.
use mathlib.Core.Path.{◌≡◌, refl, sym}
use mathlib.Core.Bool.{true}
use mathlib.Core.List.{List, [], ◌∷◌}
use Prim.Native.Nat.{ℕ, zero, suc, ◌<◌}
use native.Mathlib.Omega.{arith}
use lib.IntN.{ℤ}
use lib.Ieee.{Float, binary32, ne}
use Rattle.std.proofs.Common.{Ok}
use Rattle.numbers.specs.Whole.{Whole}
use Rattle.grids.specs.Grid.{run, grid}
use Rattle.filters.specs.Prediction.{predicted_x, temp_p, predicted_p}
use Rattle.filters.specs.Predicted.{predict_answer, Predicted}
use Rattle.one_state.specs.declared.OneState.{OneState}
use Rattle.one_state.specs.OneState.{predicted}
use Rattle.one_state.proofs.General.{predict_agrees}
use Rattle.promises.specs.Formulas.{Matrix, Spreading, exact_x, exact_p}
use Rattle.promises.specs.Runs.{state, SameFront, Run}
use Rattle.promises.specs.Runs as runs
use Rattle.promises.specs.WholeNumbers.{AllSmallX, AllSmallP, AllUnitUpper, AsOf, DifferX, DifferP}
use Rattle.promises.specs.Yarns.{column, matrix, state_of, YarnRun, end, predict, left}
use Rattle.promises.proofs.WholeNumbers.{whole_numbers}

-- what holds of the only entry holds of each
only : (Q : ℕ → Type 0) → Q 0 → (r : ℕ) → r < 1 → Q r
only Q q zero l = q
only Q q (suc r) l = absurd (omega arith)

only-cell : (Q : ℕ → ℕ → Type 0) → Q 0 0 → (r c : ℕ) → r < 1 → c < 1 → Q r c
only-cell Q q r c lr lc = only (λ r. Q r c) (only (Q 0) q c lc) r lr

-- ---- one prediction
module _ (s : OneState) where
  -- what a prediction over buffers of one number leaves in x, P and temp_P
  abbrev x' : List Float
  x' = run 0 1 (predicted_x binary32 1 (s.a ∷ []) (s.x ∷ [])) (s.x ∷ [])

  abbrev P' : List Float
  P' = grid 1 1 (predicted_p binary32 1 (s.a ∷ []) (s.p ∷ []) (s.q ∷ [])) (s.p ∷ [])

  abbrev temp' : List Float
  temp' = grid 1 1 (temp_p binary32 1 (s.a ∷ []) (s.p ∷ [])) (s.p ∷ [])

  call : Predicted binary32 1 (s.x ∷ []) (s.a ∷ []) (s.p ∷ []) (s.q ∷ []) (s.x ∷ []) (s.p ∷ []) (Ok tt) x' P' x' temp'
  unfolding predict_answer
  call = record { answer = refl; x_after = refl; p_after = refl; predicted_x_after = refl; temp_p_after = refl }

  -- the record's prediction leaves the same numbers
  moved : SameFront 1 (state x' P') (state_of (predicted s))
  moved =
      let agrees = predict_agrees s (s.x ∷ []) (s.a ∷ []) (s.p ∷ []) (s.q ∷ []) (s.x ∷ []) (s.p ∷ []) (Ok tt) x' P' x' temp' refl refl refl refl call refl in
      record { x = only _ (sym agrees.0); P = only-cell _ (sym agrees.1) }

-- ---- a run
pub yarn-run : {ms : List Matrix} {ss : List Spreading} {s e : OneState} → YarnRun ms ss s e → Run binary32 1 ms ss (state_of s) (state_of e)
yarn-run end = runs.end
yarn-run {s = s} (predict ha hq rest) = runs.predict (call s) refl (only-cell _ ha) (only-cell _ hq) (runs.left (moved s) (yarn-run rest))
yarn-run (left x p rest) = runs.left (record { x = only _ x; P = only-cell _ p }) (yarn-run rest)

-- R23: x and p end with exactly the whole numbers that the formulas give
module _ (ms : List Matrix) (ss : List Spreading) (s e : OneState) (went : YarnRun ms ss s e) where
  pub yarn_x_exact : (v : ℤ) → Whole s.x v → AllSmallX binary32 1 ms (column v) → Whole e.x (exact_x 1 ms (column v) 0)
  yarn_x_exact v h small =
      (whole_numbers binary32).exact_x_lem 1 ms ss (state_of s) (state_of e) (column v) (record { run = yarn-run went; start = only _ h; small = small }) 0 (omega arith)

  pub yarn_p_exact : (v : ℤ) → Whole s.p v → AllSmallP binary32 1 ss (matrix v) → Whole e.p (exact_p 1 ss (matrix v) 0 0)
  yarn_p_exact v h small =
      (whole_numbers binary32).exact_p_lem 1 ms ss (state_of s) (state_of e) (matrix v) (record { run = yarn-run went; start = only-cell _ h; small = small }) 0 0 (omega arith) (omega arith)

-- R24: where each a is 1, different starts stay different
module _ (ms : List Matrix) (ss : List Spreading) (s e s' e' : OneState) (went : YarnRun ms ss s e) (went' : YarnRun ms ss s' e') where
  x_first : DifferX 1 (state_of e) (state_of e') → ne e.x e'.x ≡ true
  x_first (zero, l, q) = q
  x_first (suc r, l, q) = absurd (omega arith)

  pub yarn_x_different : (v v' : ℤ) → Whole s.x v → Whole s'.x v' → AllSmallX binary32 1 ms (column v) → AllSmallX binary32 1 ms (column v') → AllUnitUpper 1 ms
      → ne s.x s'.x ≡ true → ne e.x e'.x ≡ true
  yarn_x_different v v' h h' small small' upper d = x_first
      ((whole_numbers binary32).different_x 1 ms ss ss (state_of s) (state_of e) (state_of s') (state_of e') (column v) (column v')
      (record { run = yarn-run went; start = only _ h; small = small }) (record { run = yarn-run went'; start = only _ h'; small = small' }) upper (0, omega arith, d))

  p_first : DifferP 1 (state_of e) (state_of e') → ne e.p e'.p ≡ true
  p_first (zero, zero, lr, lc, q) = q
  p_first (zero, suc c, lr, lc, q) = absurd (omega arith)
  p_first (suc r, c, lr, lc, q) = absurd (omega arith)

  pub yarn_p_different : (v v' : ℤ) → Whole s.p v → Whole s'.p v' → AllSmallP binary32 1 ss (matrix v) → AllSmallP binary32 1 ss (matrix v') → AllUnitUpper 1 (AsOf ss)
      → ne s.p s'.p ≡ true → ne e.p e'.p ≡ true
  yarn_p_different v v' h h' small small' upper d = p_first
      ((whole_numbers binary32).different_p 1 ms ms ss (state_of s) (state_of e) (state_of s') (state_of e') (matrix v) (matrix v')
      (record { run = yarn-run went; start = only-cell _ h; small = small }) (record { run = yarn-run went'; start = only-cell _ h'; small = small' }) upper (0, 0, omega arith, omega arith, d))
