-- `turn_wide` meets its contract: few observations ask for nothing, and what is turned is the transpose. Assumes nothing.
use mathlib.Core.Path.{ap, sym, ◌∙◌}
use mathlib.Core.List.{List}
use native.Mathlib.Omega.{arith}
use borrow.Author.Rules.{rules}
use lib.Ieee.{Float}
use Rattle.grids.specs.Grid.{cell}
use Rattle.grids.proofs.Grids.{grid-cell}
use Rattle.turned_updates.proofs.turn_wide.Statement.{statement}
use Rattle.turned_updates.proofs.turn_wide.Tie as tie

returns-then-m-lt4 : tie.Need-returns-then-m-lt4
returns-then-m-lt4 c = λ many. absurd (omega (arith, many, c.if-m-lt4.true))

returns : tie.Need-returns
returns c =
    let a = c.args in
    λ many k j hk hj. sym
    (ap (λ (l : List Float). cell a.m l k j) c.turn.ensures
    ∙ grid-cell a.n a.m (λ k j. cell a.n a.h.now j k) a.t.now k j hk hj c.requires.1)

pub turn_wide_spec : {M : Type 1} → statement M
turn_wide_spec = tie.close (tie.spec returns-then-m-lt4 (λ c κs. search rules) (λ c. search rules) returns)
