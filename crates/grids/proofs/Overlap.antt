-- A row whose last four cells end at its right edge, so that some of them may be written once more, with the number that they hold: they are the row all the same. Assumes nothing.
use mathlib.Core.Path.{◌≡◌, refl, ap, ◌∙◌}
use mathlib.Core.Logic.{⊎_elim}
use mathlib.Core.List.{List}
use Prim.Native.Nat.{ℕ, zero, suc, ◌+◌, ◌<◌, ◌≤◌}
use native.Mathlib.Nat.{not-suc-le-zero, le_of_suc-le-suc, eq-or-lt_of_le}
use native.Mathlib.Omega.{arith}
use lib.ListN.{set, length-set}
use lib.Seq.{set-set, set_comm}
use lib.Ieee.{Float}
use Rattle.grids.specs.Grid.{run}
use Rattle.grids.proofs.Loops.{Writing, all_written}
use Rattle.grids.proofs.Turns.{put4, one_more}

-- a cell of a run written again is as it was
run_again : (at n : ℕ) (g : ℕ → Float) (l : List Float) (i : ℕ) → i < n → set (run at n g l) (at + i) (g i) ≡ run at n g l
unfolding run
run_again at zero g l i h = absurd (not-suc-le-zero h)
run_again at (suc n) g l i h =
    ⊎_elim
    (λ e. ap (λ (k : ℕ). set (set (run at n g l) (at + n) (g n)) (at + k) (g k)) e ∙ set-set (run at n g l) (at + n) (g n) (g n))
    (λ lt. set_comm (run at n g l) (at + n) (at + i) (g n) (g i) (λ e. omega arith) ∙ ap (λ (k : List Float). set k (at + n) (g n)) (run_again at n g l i lt))
    (eq-or-lt_of_le (le_of_suc-le-suc h))

-- i of the n cells are written, or more
record Reached (at n : ℕ) (g : ℕ → Float) (l₀ l : List Float) (i : ℕ) : Type 0 where
  pub j : ℕ
  pub far : i ≤ j
  pub so_far : Writing at n g l₀ l j

module _ {at n : ℕ} {g : ℕ → Float} {l₀ : List Float} where
  -- a cell that is written already, at its place p
  one_again : {l : List Float} {j i p : ℕ} {v : Float} → Writing at n g l₀ l j → i < j → p ≡ at + i → v ≡ g i → Writing at n g l₀ (set l p v) j
  one_again {l} {j} {i} {p} {v} w h e q = record {
    within = w.within;
    size = length-set l p v ∙ w.size;
    so_far = rw (e, q, w.so_far) (run_again at j g l₀ i h);
  }

  -- a cell again or one more
  one-reached : {l : List Float} {i p i' : ℕ} {v : Float} → Reached at n g l₀ l i → i < n → p ≡ at + i → i' ≡ i + 1 → v ≡ g i → Reached at n g l₀ (set l p v) i'
  one-reached {l} {i} {p} {i'} {v} r h e s q =
      ⊎_elim
      (λ (k : i ≡ r.j). record { j = i'; far = omega arith; so_far = one_more r.so_far (omega arith) (e ∙ ap (λ (x : ℕ). at + x) k) (omega arith) (q ∙ ap g k) })
      (λ (k : i < r.j). record { j = r.j; far = omega arith; so_far = one_again r.so_far k e q })
      (eq-or-lt_of_le r.far)

  -- the last four cells, from their place p upward, where j are written
  pub last_four :
      {l l' : List Float} {j last p : ℕ} {t0 t1 t2 t3 : Float} → Writing at n g l₀ l j → last + 4 ≡ n → last ≤ j → p ≡ at + last
      → (t0 ≡ g last) × (t1 ≡ g (last + 1)) × (t2 ≡ g (last + 2)) × (t3 ≡ g (last + 3)) → l' ≡ put4 l p t0 t1 t2 t3
      → l' ≡ run at n g l₀
  last_four {l} {l'} {j} {last} {p} w edge h e t q =
      let r0 : Reached at n g l₀ l last = record { j = j; far = h; so_far = w } in
      let r1 : Reached at n g l₀ _ (last + 1) = one-reached r0 (omega arith) e refl t.0 in
      let r2 : Reached at n g l₀ _ (last + 2) = one-reached {p = p + 1} r1 (omega arith) (omega arith) (omega arith) t.1 in
      let r3 : Reached at n g l₀ _ (last + 3) = one-reached {p = p + 2} r2 (omega arith) (omega arith) (omega arith) t.2 in
      let r4 : Reached at n g l₀ _ n = one-reached {p = p + 3} r3 (omega arith) (omega arith) (omega arith) t.3 in
      q ∙ all_written r4.so_far r4.far
