-- The decomposition by rows of the upper triangle, on entries (r, c) ↦ e r c: row i holds what column i of the factor has, so that neighbours lie side by side.
-- For the contracts of this crate's functions. Definitions only.
use Rattle.std.specs.Prelude.{◌≡◌, cond, ◌&&◌, List, ℕ, ◌*◌, ◌<◌, ◌≤◌, eqb, ltb, length, get_or, Float}
use Rattle.std.specs.Float.{Format, nan}
use Rattle.std.specs.Float.Ieee.{mul}
use Rattle.numbers.specs.Reciprocal.{recip_of}
use Rattle.numbers.specs.Root.{sqrt_of}
use Rattle.numbers.specs.Sums.{plus0}
use Rattle.grids.specs.Grid.{cell}
use Rattle.factors.specs.Decomposition.{less_dot}

-- what is left of entry (i, c) once the products of the rows above i are taken off
abbrev pub left : Format → (ℕ → ℕ → Float) → ℕ → ℕ → Float
left f e i c = less_dot f (e i c) (λ k. e k i) (λ k. e k c) i

-- row i from the diagonal on: the root on it, and right of it what is left times the root's reciprocal
abbrev pub filled : Format → (ℕ → ℕ → Float) → ℕ → ℕ → Float
filled f e i c = cond (eqb c i) (sqrt_of f (left f e i i)) (mul f (left f e i c) (recip_of f (sqrt_of f (left f e i i))))

-- row i right of the diagonal as column i below it, and +0 in its place
abbrev pub laid : (ℕ → ℕ → Float) → ℕ → ℕ → ℕ → Float
laid e i r c = cond (eqb r i && ltb i c) plus0 (cond (eqb c i && ltb i r) (e i r) (e r c))

-- t' is t with row i of its n by n matrix anew: it has g from column `from` on, and any numbers before that
pub record RowAnew (n i from : ℕ) (g : ℕ → Float) (t t' : List Float) : Type 0 where
  pub size : length t' ≡ length t
  pub row : (c : ℕ) → from ≤ c → c < n → cell n t' i c ≡ g c
  pub others : (r c : ℕ) → r < n → c < n → (r ≡ i → ⊥) → cell n t' r c ≡ cell n t r c
  pub past : (k : ℕ) → n * n ≤ k → get_or t' k nan ≡ get_or t k nan
