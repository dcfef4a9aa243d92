-- The premise of R23 and R24 can be met, also where the absolute terms sum to 16,777,216 itself: for n = 2, a prediction with a refused call before it and one after it.
-- A, P and Q are those of the checked examples, x = [16777215 1]. The refused calls are a prediction of 17 states and a correction by 0 observations. Assumes nothing.
use mathlib.Core.Path.{◌≡◌, refl}
use mathlib.Core.Bool.{true, false}
use mathlib.Core.List.{List, [], ◌∷◌, map}
use Prim.Native.Nat.{ℕ, zero, suc, ◌+◌, ◌*◌, ◌^◌, ◌≤◌, ◌<◌}
use native.Mathlib.Omega.{arith}
use lib.IntN.{ℤ, pos, negsuc, nat_abs}
use lib.ListN.{get_or}
use lib.Ieee.{Float, Format, binary32, binary64, prec, of_int}
use lib.Ieee.Back.{round_whole}
use Rattle.std.proofs.Common.{Ok, Err}
use Rattle.answers.specs.declared.Refusal.TheVariants.{Size}
use Rattle.numbers.specs.Whole.{Whole, sumℤ, abs_sum}
use Rattle.grids.specs.Grid.{run, grid}
use Rattle.entries.specs.Entries.{numbers}
use Rattle.filters.specs.Prediction.{predicted_x, temp_p, predicted_p}
use Rattle.filters.specs.Predicted.{Predicted, predict_answer}
use Rattle.filters.specs.Lent.{Buffers, correct_answer}
use Rattle.filters.specs.Corrected.{Corrected}
use Rattle.promises.specs.Formulas.{Matrix, Spreading, exact_x}
use Rattle.promises.specs.Runs.{State, state, HoldsMatrix, Run, end, predict}
use Rattle.promises.specs.WholeNumbers.{limit, WholeX, WholeP, AllUnitUpper}
use Rattle.promises.proofs.WholeNumbers.{whole_numbers}
use Rattle.promises.proofs.Refused.{refused_predict_in_a_run, refused_correction_in_a_run}

-- a whole number as a float
int_whole : (f : Format) (z : ℤ) → nat_abs z ≤ 2 ^ prec f → Whole (of_int f z) z
unfolding of_int
int_whole f (pos k) h = record { sign = false; size = k; value = round_whole f false k h; same = refl }
int_whole f (negsuc k) h = record { sign = true; size = suc k; value = round_whole f true (suc k) h; same = refl }

two : (Q : ℕ → Type 0) → Q 0 → Q 1 → (r : ℕ) → r < 2 → Q r
two Q a b zero l = a
two Q a b (suc zero) l = b
two Q a b (suc (suc r)) l = absurd (omega arith)

four : (Q : ℕ → ℕ → Type 0) → Q 0 0 → Q 0 1 → Q 1 0 → Q 1 1 → (r c : ℕ) → r < 2 → c < 2 → Q r c
four Q a b c d r j hr hj = two (λ r. Q r j) (two (Q 0) a b j hj) (two (Q 1) c d j hj) r hr

-- the numbers of a 2 by 2 matrix, and lists of numbers as floats
abbrev entries : List ℤ → Matrix
entries l r c = get_or l (r * 2 + c) (pos 0)

abbrev floats : List ℤ → List Float
floats l = map (of_int binary32) l

-- A, P, Q and x
abbrev a : List ℤ
a = pos 1 ∷ pos 1 ∷ pos 0 ∷ pos 1 ∷ []

abbrev p : List ℤ
p = pos 2 ∷ pos 1 ∷ pos 1 ∷ pos 3 ∷ []

abbrev q : List ℤ
q = pos 1 ∷ pos 0 ∷ pos 0 ∷ pos 1 ∷ []

abbrev x : List ℤ
x = pos 16777215 ∷ pos 1 ∷ []

abbrev start : State
start = state (floats x) (floats p)

-- what the prediction leaves in x, P and temp_P
abbrev x' : List Float
x' = run 0 2 (predicted_x binary32 2 (floats a) (floats x)) (floats x)

abbrev P' : List Float
P' = grid 2 2 (predicted_p binary32 2 (floats a) (floats p) (floats q)) (floats p)

abbrev temp' : List Float
temp' = grid 2 2 (temp_p binary32 2 (floats a) (floats p)) (floats p)

-- the prediction; its work buffers are lent as copies of x and P
call : Predicted binary32 2 (floats x) (floats a) (floats p) (floats q) (floats x) (floats p) (Ok tt) x' P' x' temp'
unfolding predict_answer
call = record { answer = refl; x_after = refl; p_after = refl; predicted_x_after = refl; temp_p_after = refl }

-- before it, a prediction refused for its size
before : Predicted binary32 17 (floats x) [] (floats p) [] [] [] (Err (Size 0)) (floats x) (floats p) [] []
unfolding predict_answer
before = record { answer = refl; x_after = refl; p_after = refl; predicted_x_after = refl; temp_p_after = refl }

-- after it, a correction refused for its size
abbrev buffers : Buffers
buffers = record { x = x'; P = P'; H = []; z = []; R = []; y = []; S = []; K = []; s_inv = []; HP = []; PHt = []; KHP = [] }

after : Corrected binary32 2 0 buffers (Err (Size 1)) buffers
unfolding correct_answer
after = record {
  y_after = refl;
  renewed = record { answer = refl; hp_after = refl; s_after = refl; s_inv_after = refl; pht_after = refl; k_after = refl; x_after = refl; khp_after = refl; p_after = refl };
}

-- the As, and the As and Qs, of the run
abbrev ms : List Matrix
ms = entries a ∷ []

abbrev ss : List Spreading
ss = record { a = entries a; q = entries q } ∷ []

whole_a : HoldsMatrix 2 (floats a) (entries a)
whole_a = four _ (int_whole binary32 (pos 1) (omega arith)) (int_whole binary32 (pos 1) (omega arith)) (int_whole binary32 (pos 0) (omega arith)) (int_whole binary32 (pos 1) (omega arith))

went : Run binary32 2 ms ss start (state x' P')
went = refused_predict_in_a_run (Err (Size 0)) before refl (predict call refl whole_a
    (four _ (int_whole binary32 (pos 1) (omega arith)) (int_whole binary32 (pos 0) (omega arith)) (int_whole binary32 (pos 0) (omega arith)) (int_whole binary32 (pos 1) (omega arith)))
    (refused_correction_in_a_run (Err (Size 1)) after refl end))

pub premise_met_x : WholeX binary32 2 ms ss start (state x' P') (λ r. get_or x r (pos 0))
unfolding abs_sum sumℤ
premise_met_x = record {
  run = went;
  start = two _ (int_whole binary32 (pos 16777215) (omega arith)) (int_whole binary32 (pos 1) (omega arith));
  small = (two _ (omega arith) (omega arith), tt);
}

pub premise_met_p : WholeP binary32 2 ms ss start (state x' P') (entries p)
unfolding abs_sum sumℤ
premise_met_p = record {
  run = went;
  start = four _ (int_whole binary32 (pos 2) (omega arith)) (int_whole binary32 (pos 1) (omega arith)) (int_whole binary32 (pos 1) (omega arith)) (int_whole binary32 (pos 3) (omega arith));
  small = (record { of_a_p = four _ (omega arith) (omega arith) (omega arith) (omega arith); of_a_p_at_q = four _ (omega arith) (omega arith) (omega arith) (omega arith) }, tt);
}

-- what R23 says of it
pub first_entry : Whole (numbers x' 0) (pos 16777216)
unfolding exact_x sumℤ
first_entry = (whole_numbers binary32).exact_x_lem 2 ms ss start (state x' P') (λ r. get_or x r (pos 0)) premise_met_x 0 (omega arith)

pub unit_upper_met : AllUnitUpper 2 ms
unit_upper_met = (record { diagonal = two _ refl refl; below = under }, tt)
  where
    under : (r c : ℕ) → r < 2 → c < r → entries a r c ≡ pos 0
    under zero c hr hc = absurd (omega arith)
    under (suc zero) zero hr hc = refl
    under (suc zero) (suc c) hr hc = absurd (omega arith)
    under (suc (suc r)) c hr hc = absurd (omega arith)

-- ---- the bound as a number, at either width
pub limit_single : limit binary32 ≡ 16777216
limit_single = refl

pub limit_double : limit binary64 ≡ 9007199254740992
limit_double = refl
