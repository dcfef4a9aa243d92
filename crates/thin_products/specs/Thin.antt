-- A right operand of one to three columns, and where its numbers lie. Definitions only.
use Rattle.std.specs.Prelude.{List, ℕ, zero, suc, ◌+◌, ◌*◌, get_or, Float}
use Rattle.std.specs.Float.{nan}
use Rattle.thin_products.specs.declared.Three.{Three}

-- number k of the three
abbrev pub number_at : Three → ℕ → Float
number_at t zero = t.t0
number_at t (suc zero) = t.t1
number_at t (suc (suc k)) = t.t2

-- entry (k, j) lies up for each row and over for each column further on in b
abbrev pub strided : ℕ → ℕ → List Float → ℕ → ℕ → Float
strided up over b k j = get_or b (k * up + j * over) nan
