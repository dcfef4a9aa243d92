-- The innovation and the update, step by step (R18, R19), on entries (r, c) ↦ P r c and on the numbers k ↦ x k of vectors, for n states and m observations. Definitions only.
use Rattle.std.specs.Prelude.{ℕ, Float}
use Rattle.std.specs.Float.{Format}
use Rattle.std.specs.Float.Ieee.{add, sub}
use Rattle.entries.specs.Entries.{times, times_t, times_x}
use Rattle.factors.specs.Decomposition.{reached, decomposed}
use Rattle.factors.specs.Inverse.{inverse}

-- the innovation: what the reading has more than the estimate would give
abbrev pub innovation_of : Format → ℕ → (ℕ → ℕ → Float) → (ℕ → Float) → (ℕ → Float) → ℕ → Float
innovation_of f n H x z i = sub f (z i) (times_x f n H x i)

-- H·P
abbrev pub hp_of : Format → ℕ → (ℕ → ℕ → Float) → (ℕ → ℕ → Float) → ℕ → ℕ → Float
hp_of f n H P = times f n H P

-- the residual's covariance S: (H·P)·Hᵀ, and then R on top
abbrev pub residual_of : Format → ℕ → (ℕ → ℕ → Float) → (ℕ → ℕ → Float) → (ℕ → ℕ → Float) → ℕ → ℕ → Float
residual_of f n H P R r c = add f (times_t f n (hp_of f n H P) H r c) (R r c)

-- what the decomposition leaves of S: the lower factor, or what a refusal leaves
abbrev pub factor_of : Format → ℕ → ℕ → (ℕ → ℕ → Float) → (ℕ → ℕ → Float) → (ℕ → ℕ → Float) → ℕ → ℕ → Float
factor_of f n m H P R = decomposed f m (residual_of f n H P R)

-- the index of the first pivot of S that is refused, and m where every one is taken
abbrev pub pivot_of : Format → ℕ → ℕ → (ℕ → ℕ → Float) → (ℕ → ℕ → Float) → (ℕ → ℕ → Float) → ℕ
pivot_of f n m H P R = reached f m (residual_of f n H P R)

-- the inverse of S from its factor, in a buffer that held i
abbrev pub inverse_of : Format → ℕ → ℕ → (ℕ → ℕ → Float) → (ℕ → ℕ → Float) → (ℕ → ℕ → Float) → (ℕ → ℕ → Float) → ℕ → ℕ → Float
inverse_of f n m H P R i = inverse f m (factor_of f n m H P R) i

-- P·Hᵀ
abbrev pub pht_of : Format → ℕ → (ℕ → ℕ → Float) → (ℕ → ℕ → Float) → ℕ → ℕ → Float
pht_of f n H P = times_t f n P H

-- the gain: P·Hᵀ times the inverse
abbrev pub gain_of : Format → ℕ → ℕ → (ℕ → ℕ → Float) → (ℕ → ℕ → Float) → (ℕ → ℕ → Float) → (ℕ → ℕ → Float) → ℕ → ℕ → Float
gain_of f n m H P R i = times f m (pht_of f n H P) (inverse_of f n m H P R i)

-- x with the gain times the innovation on top
abbrev pub new_x : Format → ℕ → (ℕ → ℕ → Float) → (ℕ → Float) → (ℕ → Float) → ℕ → Float
new_x f m K x y r = add f (x r) (times_x f m K y r)

-- the gain times H·P
abbrev pub khp_of : Format → ℕ → ℕ → (ℕ → ℕ → Float) → (ℕ → ℕ → Float) → (ℕ → ℕ → Float) → ℕ → ℕ → Float
khp_of f n m K H P = times f m K (hp_of f n H P)

-- P less that
abbrev pub new_p : Format → ℕ → ℕ → (ℕ → ℕ → Float) → (ℕ → ℕ → Float) → (ℕ → ℕ → Float) → ℕ → ℕ → Float
new_p f n m K H P r c = sub f (P r c) (khp_of f n m K H P r c)
