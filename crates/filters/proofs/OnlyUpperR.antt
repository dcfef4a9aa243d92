-- Nothing of R below the diagonal matters to the answer, to x or to P: two calls past refusals 1 and 2 that read the same x, P, H and y (or z), and R alike on and above the diagonal, answer alike and leave the same x and P.
-- S = H·P·Hᵀ + R goes entry by entry, its decomposition reads the upper triangle alone, and so the factor, the inverse, the gain, the new x and P and the last test are the same. Assumes nothing.
use mathlib.Core.Path.{◌≡◌, refl, sym, ap, ap₂, subst, ◌∙◌}
use mathlib.Core.Bool.{Bool, true, false}
use mathlib.Core.List.{List}
use Prim.Native.Nat.{ℕ, ◌<◌, ◌≤◌}
use native.Mathlib.Omega.{arith}
use lib.Ieee.{Float, Format, add, sub}
use Rattle.answers.specs.Answers.{is_done, settled, Answer}
use Rattle.grids.specs.Grid.{cell, SameEntries}
use Rattle.grids.proofs.Grids.{run_ext, grid_ext}
use Rattle.entries.specs.Entries.{numbers}
use Rattle.entries.proofs.Written.{times_alike, times_x_alike}
use Rattle.factors.specs.Decomposition.{SameUpper}
use Rattle.factors.specs.Decomposed.{pivot_answer}
use Rattle.answers.proofs.Kept.{is_done_lem}
use Rattle.answers.proofs.Asked.{goes_on, stops}
use Rattle.factors.proofs.Named.{done_reached}
use Rattle.factors.proofs.OnlyUpper.{reached_upper, decomposed_upper}
use Rattle.factors.proofs.OnlyLower.{inverse-lower}
use Rattle.filters.specs.Correction.{hp_of, residual_of, factor_of, pivot_of, inverse_of, pht_of, gain_of}
use Rattle.filters.specs.Lent.{Buffers, buffers, correct_answer, update_answer}
use Rattle.filters.specs.Corrected.{gain_in, next_x, next_p, pivots_answer, finite_answer, Renewed, Updated, Corrected, with_y, innovation_in, innovated}
use Rattle.filters.proofs.Verdict.{finite_alike}
use Rattle.filters.proofs.Exactly.{past}

-- ---- the entries

module _ (f : Format) (n m : ℕ) (H P R R' : ℕ → ℕ → Float) (same : SameUpper m R R') where
  residual_upper : SameUpper m (residual_of f n H P R) (residual_of f n H P R')
  residual_upper r c h k = ap (add f _) (same r c h k)

  pivot_upper : pivot_of f n m H P R ≡ pivot_of f n m H P R'
  pivot_upper = reached_upper f m (residual_of f n H P R) (residual_of f n H P R') residual_upper

  module _ (taken : m ≤ pivot_of f n m H P R) (I I' : ℕ → ℕ → Float) where
    inverse_upper : SameEntries m m (inverse_of f n m H P R I) (inverse_of f n m H P R' I')
    inverse_upper r c hr hc =
        inverse-lower f m (factor_of f n m H P R) (factor_of f n m H P R')
        (λ i j h k. decomposed_upper f m (residual_of f n H P R) (residual_of f n H P R') residual_upper taken i j k (omega arith)) I I' r c hr hc

    gain_upper : SameEntries n m (gain_of f n m H P R I) (gain_of f n m H P R' I')
    gain_upper = times_alike f n m m (pht_of f n H P) (pht_of f n H P) (inverse_of f n m H P R I) (inverse_of f n m H P R' I') (λ r c hr hc. refl) inverse_upper

-- ---- two updates, with the answers g and h of their gates

-- the one lent b, the other the same x, P, H and y
read_alike : {f : Format} {n m : ℕ} {h w : Answer} (b c d : Buffers) → Renewed f n m h w c d → b.x ≡ c.x → b.P ≡ c.P → b.H ≡ c.H → b.y ≡ c.y
    → Renewed f n m h w (buffers b.x b.P b.H c.z c.R b.y c.S c.K c.s_inv c.HP c.PHt c.KHP) d
read_alike {f} {n} {m} {h} {w} b c d r qx qP qH qy =
    subst (λ (k : List Float). Renewed f n m h w (buffers k b.P b.H c.z c.R b.y c.S c.K c.s_inv c.HP c.PHt c.KHP) d) (sym qx)
    (subst (λ (k : List Float). Renewed f n m h w (buffers c.x k b.H c.z c.R b.y c.S c.K c.s_inv c.HP c.PHt c.KHP) d) (sym qP)
    (subst (λ (k : List Float). Renewed f n m h w (buffers c.x c.P k c.z c.R b.y c.S c.K c.s_inv c.HP c.PHt c.KHP) d) (sym qH)
    (subst (λ (k : List Float). Renewed f n m h w (buffers c.x c.P c.H c.z c.R k c.S c.K c.s_inv c.HP c.PHt c.KHP) d) (sym qy) r)))

module _ (f : Format) (n m : ℕ) (g h v w : Answer) (b c e d : Buffers) (r : Renewed f n m g v b e) (s : Renewed f n m h w c d) (dg : is_done g ≡ true) (dh : is_done h ≡ true)
    (qx : b.x ≡ c.x) (qP : b.P ≡ c.P) (qH : b.H ≡ c.H) (qy : b.y ≡ c.y) (same : SameUpper m (cell m b.R) (cell m c.R)) where
  abbrev H : ℕ → ℕ → Float
  H = cell n b.H

  abbrev P : ℕ → ℕ → Float
  P = cell n b.P

  abbrev R : ℕ → ℕ → Float
  R = cell m b.R

  abbrev R' : ℕ → ℕ → Float
  R' = cell m c.R

  -- the second call as one that was lent the first's x, P, H and y
  abbrev c' : Buffers
  c' = buffers b.x b.P b.H c.z c.R b.y c.S c.K c.s_inv c.HP c.PHt c.KHP

  second : Renewed f n m h w c' d
  second = read_alike b c d s qx qP qH qy

  -- the pivots answer alike
  pivots_alike : pivots_answer f n m b ≡ pivots_answer f n m c'
  pivots_alike = ap (λ (i : ℕ). pivot_answer i m) (pivot_upper f n m H P R R' same)

  -- where every one is taken the gains are alike, and so are the new x and P
  module _ (taken : m ≤ pivot_of f n m H P R) where
    gains : SameEntries n m (gain_in f n m b) (gain_in f n m c')
    gains = gain_upper f n m H P R R' same taken (cell m b.s_inv) (cell m c.s_inv)

    x_alike : (i : ℕ) → i < n → next_x f n m b i ≡ next_x f n m c' i
    x_alike i hi = ap (add f (numbers b.x i)) (times_x_alike f n m (gain_in f n m b) (gain_in f n m c') (numbers b.y) i hi gains)

    p_alike : SameEntries n n (next_p f n m b) (next_p f n m c')
    p_alike i j hi hj = ap (sub f (P i j)) (times_alike f n m n (gain_in f n m b) (gain_in f n m c') (hp_of f n H P) (hp_of f n H P) gains (λ r c hr hc. refl) i j hi hj)

  -- refused at a pivot, or past them all
  left_alike : (t : Bool) → is_done (pivots_answer f n m b) ≡ t → (v ≡ w) × (e.x ≡ d.x) × (e.P ≡ d.P)
  left_alike false q =
      let last = finite_answer n (next_x f n m b) (next_p f n m b) in
      let last' = finite_answer n (next_x f n m c') (next_p f n m c') in
      let q' : is_done (pivots_answer f n m c') ≡ false = ap is_done (sym pivots_alike) ∙ q in
      let told : v ≡ pivots_answer f n m b = past r dg ∙ stops (pivots_answer f n m b) last q in
      let told' : w ≡ pivots_answer f n m c' = past second dh ∙ stops (pivots_answer f n m c') last' q' in
      let no : is_done v ≡ false = ap is_done told ∙ q in
      let no' : is_done w ≡ false = ap is_done told' ∙ q' in
      (told ∙ pivots_alike ∙ sym told', (rw no at r.x_after) ∙ sym (rw no' at second.x_after), (rw no at r.p_after) ∙ sym (rw no' at second.p_after))
  left_alike true q =
      let last = finite_answer n (next_x f n m b) (next_p f n m b) in
      let last' = finite_answer n (next_x f n m c') (next_p f n m c') in
      let taken : m ≤ pivot_of f n m H P R = done_reached f m (residual_of f n H P R) (pivots_answer f n m b) refl (is_done_lem (pivots_answer f n m b) q) in
      let told : v ≡ last = past r dg ∙ goes_on (pivots_answer f n m b) last q in
      let told' : w ≡ last' = past second dh ∙ goes_on (pivots_answer f n m c') last' (ap is_done (sym pivots_alike) ∙ q) in
      let one : v ≡ w = told ∙ finite_alike n (next_x f n m b) (next_x f n m c') (next_p f n m b) (next_p f n m c') (x_alike taken) (p_alike taken) ∙ sym told' in (
        one,
        r.x_after
            ∙ ap₂ (λ (a : Answer) (l : List Float). settled a l b.x) one (run_ext 0 n (next_x f n m b) (next_x f n m c') b.x (x_alike taken))
            ∙ sym second.x_after,
        r.p_after
            ∙ ap₂ (λ (a : Answer) (l : List Float). settled a l b.P) one (grid_ext n n (next_p f n m b) (next_p f n m c') b.P (p_alike taken))
            ∙ sym second.p_after,
      )

  renewed_upper : (v ≡ w) × (e.x ≡ d.x) × (e.P ≡ d.P)
  renewed_upper = left_alike (is_done (pivots_answer f n m b)) refl

-- ---- the public calls

pub update_upper : {f : Format} {n m : ℕ} (b c : Buffers) (v w : Answer) (e d : Buffers) → Updated f n m b v e → Updated f n m c w d → is_done (update_answer n m b) ≡ true → is_done (update_answer n m c) ≡ true
    → b.x ≡ c.x → b.P ≡ c.P → b.H ≡ c.H → b.y ≡ c.y → SameUpper m (cell m b.R) (cell m c.R)
    → (v ≡ w) × (e.x ≡ d.x) × (e.P ≡ d.P)
update_upper {f} {n} {m} b c v w e d p q dg dh qx qP qH qy same =
    renewed_upper f n m (update_answer n m b) (update_answer n m c) v w b c e d p.renewed q.renewed dg dh qx qP qH qy same

-- The correction reads z, and writes y before it reads it.
pub correct_upper : {f : Format} {n m : ℕ} (b c : Buffers) (v w : Answer) (e d : Buffers) → Corrected f n m b v e → Corrected f n m c w d → is_done (correct_answer n m b) ≡ true → is_done (correct_answer n m c) ≡ true
    → b.x ≡ c.x → b.P ≡ c.P → b.H ≡ c.H → b.z ≡ c.z → b.y ≡ c.y → SameUpper m (cell m b.R) (cell m c.R)
    → (v ≡ w) × (e.x ≡ d.x) × (e.P ≡ d.P)
correct_upper {f} {n} {m} b c v w e d p q dg dh qx qP qH qz qy same =
    let read : innovation_in f n m b ≡ innovation_in f n m c = rw (qx, qH, qz, qy) in
    let y : innovated f n m b ≡ innovated f n m c = (rw dg refl) ∙ read ∙ sym (rw dh refl) in
    renewed_upper f n m (correct_answer n m b) (correct_answer n m c) v w (with_y b (innovated f n m b)) (with_y c (innovated f n m c)) e d p.renewed q.renewed dg dh qx qP qH y same
