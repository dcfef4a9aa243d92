-- What the steps of the decomposition leave: the contracts of the functions below the public one. Definitions only.
use Rattle.std.specs.Prelude.{cond, ◌&&◌, ℕ, eqb, ltb, Float}
use Rattle.std.specs.Float.{Format}
use Rattle.numbers.specs.Sums.{plus0}
use Rattle.factors.specs.Decomposition.{factor, reached, refused_at}

-- the entries after the last column, or after the refusal
abbrev pub swept : Format → ℕ → (ℕ → ℕ → Float) → ℕ → ℕ → Float
swept f n e = cond (ltb (reached f n e) n) (refused_at f e (reached f n e)) (factor f e n)

-- column i above the diagonal +0
abbrev pub clear_column : (ℕ → ℕ → Float) → ℕ → ℕ → ℕ → Float
clear_column e i r c = cond (eqb c i && ltb r i) plus0 (e r c)
