-- Row i of the upper triangle filled from its right edge on: what is read next lies left of what is written, or in the rows above, so it is as it was. Assumes nothing.
use mathlib.Core.Path.{◌≡◌, refl, ap, ◌∙◌}
use mathlib.Core.List.{List}
use Prim.Native.Nat.{ℕ, ◌+◌, ◌-◌, ◌*◌, ◌<◌, ◌≤◌}
use native.Mathlib.Decide.{dec_lt}
use native.Mathlib.Omega.{arith}
use lib.ListN.{length, get_or, set}
use lib.Ieee.{Float, Format, nan, mul}
use Rattle.grids.specs.Grid.{cell, run}
use Rattle.grids.proofs.Grids.{length_run, run_before, run_past}
use Rattle.grids.proofs.Loops.{begun, all_written}
use Rattle.grids.proofs.Turns.{put4, four_scaled}
use Rattle.upper_rows.specs.Rows.{left}
use Rattle.upper_rows.proofs.Differences.{left_same}
use Rattle.upper_rows.proofs.Parts.{part_others, part_past, part_cell}

-- row i is filled from column c on, as far as it lies right of the diagonal; what lies left of c, the other rows and what lies past the matrix are as they were
pub record Filling (f : Format) (n i : ℕ) (q : Float) (t₀ t : List Float) (c : ℕ) : Type 0 where
  pub within : c ≤ n
  pub size : length t ≡ length t₀
  pub right : (c' : ℕ) → c ≤ c' → i < c' → c' < n → cell n t i c' ≡ mul f (left f (cell n t₀) i c') q
  pub ahead : (c' : ℕ) → c' < c → cell n t i c' ≡ cell n t₀ i c'
  pub others : (r c' : ℕ) → r < n → c' < n → (r ≡ i → ⊥) → cell n t r c' ≡ cell n t₀ r c'
  pub past : (k : ℕ) → n * n ≤ k → get_or t k nan ≡ get_or t₀ k nan

module _ {f : Format} {n i : ℕ} {q : Float} {t₀ : List Float} where
  -- what is left of an entry that is still to be filled is as it was
  still : {t : List Float} {c : ℕ} → Filling f n i q t₀ t c → i < n → (c' : ℕ) → c' < c → left f (cell n t) i c' ≡ left f (cell n t₀) i c'
  still {t} {c} w hi c' h =
      let le = w.within in
      left_same f (cell n t) (cell n t₀) i c' (w.ahead c' h) (λ k lt. w.others k i (omega arith) hi (λ x. omega arith)) (λ k lt. w.others k c' (omega arith) (omega arith) (λ x. omega arith))

  -- m cells more, from column c on
  more_filled :
      {t t' : List Float} {c d : ℕ} (m : ℕ) → Filling f n i q t₀ t d → i < n → n * n ≤ length t → d ≡ c + m
      → t' ≡ run (i * n + c) m (λ j. mul f (left f (cell n t) i (c + j)) q) t
      → Filling f n i q t₀ t' c
  more_filled {t} {t'} {c} {d} m w hi fits e a =
      let g : ℕ → Float = λ j. mul f (left f (cell n t) i (c + j)) q in
      let le = w.within in
      let long : length t' ≡ length t₀ = ap length a ∙ length_run (i * n + c) m g t ∙ w.size in
      record {
        within = omega arith;
        size = long;
        right = λ c' from off lt.
            elim (dec_lt c' (c + m)) [
              | yes k ↦
                  let s : c + (c' - c) ≡ c' = omega arith in
                  ap (λ (z : List Float). cell n z i c') a ∙ part_cell n i c m g t hi (omega arith) fits c' from k
                  ∙ ap (λ (x : ℕ). mul f (left f (cell n t) i x) q) s
                  ∙ ap (λ (x : Float). mul f x q) (still w hi c' (omega arith))
              | no k ↦
                  ap (λ (z : List Float). cell n z i c') a ∙ run_past (i * n + c) m g t (i * n + c') (omega arith) ∙ w.right c' (omega arith) off lt
            ];
        ahead = λ c' h. ap (λ (z : List Float). cell n z i c') a ∙ run_before (i * n + c) m g t (i * n + c') (omega arith) ∙ w.ahead c' (omega arith);
        others = λ r c' hr hc off. ap (λ (z : List Float). cell n z r c') a ∙ part_others n i c m g t hi (omega arith) r c' hr hc off ∙ w.others r c' hr hc off;
        past = λ k h. ap (λ (z : List Float). get_or z k nan) a ∙ part_past n i c m g t hi (omega arith) k h ∙ w.past k h;
      }

  -- a turn of four
  pub four-filled :
      {t t' : List Float} {c d : ℕ} {u0 u1 u2 u3 v0 v1 v2 v3 : Float} → Filling f n i q t₀ t d → i < n → n * n ≤ length t → d ≡ c + 4
      → (u0 ≡ left f (cell n t) i c) × (u1 ≡ left f (cell n t) i (c + 1)) × (u2 ≡ left f (cell n t) i (c + 2)) × (u3 ≡ left f (cell n t) i (c + 3))
      → (v0 ≡ mul f u0 q) × (v1 ≡ mul f u1 q) × (v2 ≡ mul f u2 q) × (v3 ≡ mul f u3 q)
      → t' ≡ put4 t (i * n + c) v0 v1 v2 v3
      → Filling f n i q t₀ t' c
  four-filled {t} {t'} {c} {d} w hi fits e u v a =
      let h : ℕ → Float = λ j. left f (cell n t) i (c + j) in
      let s : c ≡ c + 0 = omega arith in
      more_filled 4 w hi fits e (all_written (four_scaled f h q {at = i * n + c} {n = 4} begun (omega arith) (omega arith) v (u.0 ∙ ap (left f (cell n t) i) s, u.1, u.2, u.3) a) (omega arith))

  -- a turn of one
  pub one-filled :
      {t : List Float} {c d : ℕ} {u : Float} → Filling f n i q t₀ t d → i < n → n * n ≤ length t → d ≡ c + 1 → u ≡ left f (cell n t) i c
      → Filling f n i q t₀ (set t (i * n + c) (mul f u q)) c
  unfolding run
  one-filled {t} {c} {d} {u} w hi fits e a =
      let s : c + 0 ≡ c = omega arith in
      let p : i * n + c + 0 ≡ i * n + c = omega arith in
      more_filled 1 w hi fits e (rw (p, s, a) refl)
