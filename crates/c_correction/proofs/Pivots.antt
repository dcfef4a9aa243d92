-- What a refusal of the update and of the correction carries is not cut in its code: refusal 9 carries nothing. Assumes nothing.
use mathlib.Core.Bool.{◌&&◌}
use mathlib.Core.List.{[], ◌∷◌}
use Prim.Native.Nat.{ℕ, ◌*◌, ◌≤◌}
use native.Mathlib.Omega.{arith}
use lib.ListN.{length}
use lib.Ieee.{Format}
use Rattle.answers.specs.Answers.{Answer}
use Rattle.answers.specs.Tests.{lent}
use Rattle.numbers.specs.Finite.{all_finite, entries_finite}
use Rattle.grids.specs.Grid.{cell}
use Rattle.filters.specs.Correction.{pivot_of}
use Rattle.filters.specs.Lent.{Buffers, correct_answer, update_answer}
use Rattle.filters.specs.Corrected.{next_x, next_p, Updated, Corrected, with_y, innovated}
use Rattle.c_codes.specs.Code.{carried}
use Rattle.c_codes.proofs.Small.{pair_small}

pub updated_small : {f : Format} {n m : ℕ} {b e : Buffers} {v : Answer} → Updated f n m b v e → carried v ≤ 99
unfolding update_answer
updated_small {f} {n} {m} {b} u =
    rw u.renewed.answer
    (pair_small n m (
    lent n (length b.x) ∷ lent (n * n) (length b.P) ∷ lent (m * n) (length b.H) ∷ lent (m * m) (length b.R)
    ∷ lent m (length b.y) ∷ lent (m * m) (length b.S) ∷ lent (n * m) (length b.K) ∷ lent (m * m) (length b.s_inv)
    ∷ lent (m * n) (length b.HP) ∷ lent (n * m) (length b.PHt) ∷ lent (n * n) (length b.KHP) ∷ [])
    (pivot_of f n m (cell n b.H) (cell n b.P) (cell m b.R)) (all_finite n (next_x f n m b) && entries_finite n (next_p f n m b)) (omega arith))

pub corrected_small : {f : Format} {n m : ℕ} {b e : Buffers} {v : Answer} → Corrected f n m b v e → carried v ≤ 99
unfolding correct_answer
corrected_small {f} {n} {m} {b} u =
    rw u.renewed.answer
    (pair_small n m (
    lent n (length b.x) ∷ lent (n * n) (length b.P) ∷ lent (m * n) (length b.H) ∷ lent m (length b.z) ∷ lent (m * m) (length b.R)
    ∷ lent m (length b.y) ∷ lent (m * m) (length b.S) ∷ lent (n * m) (length b.K) ∷ lent (m * m) (length b.s_inv)
    ∷ lent (m * n) (length b.HP) ∷ lent (n * m) (length b.PHt) ∷ lent (n * n) (length b.KHP) ∷ [])
    (pivot_of f n m (cell n b.H) (cell n b.P) (cell m b.R))
    (all_finite n (next_x f n m (with_y b (innovated f n m b))) && entries_finite n (next_p f n m (with_y b (innovated f n m b)))) (omega arith))
