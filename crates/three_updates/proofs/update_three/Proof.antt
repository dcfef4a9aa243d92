-- `update_three` meets its contract: what the gain leaves goes by the index, below three as lent and else written; then it is as for any number of observations, by the laws of a refused pivot and of pivots that are taken. Assumes nothing.
use mathlib.Core.Path.{◌≡◌, refl, ◌∙◌}
use mathlib.Core.Bool.{cond}
use mathlib.Core.List.{List}
use Prim.Native.Nat.{ℕ, ◌<◌, ◌≤◌}
use borrow.Author.Tests.{lt-ltb, le-ltb}
use lib.Dec.{ltb}
use lib.Ieee.{Float}
use Rattle.filters.proofs.Calls.{pivot_refused, gain-taken}
use borrow.Author.Rules.{rules}
use Rattle.three_updates.proofs.update_three.Statement.{statement}
use Rattle.three_updates.proofs.update_three.Tie as tie

-- ---- by the index

kept : (i : ℕ) (l old new : List Float) → i < 3 → l ≡ cond (ltb i 3) old new → l ≡ old
kept i l old new h q = q ∙ simp (lt-ltb i 3 h)

written : (i : ℕ) (l old new : List Float) → 3 ≤ i → l ≡ cond (ltb i 3) old new → l ≡ new
written i l old new h q = q ∙ simp (le-ltb i 3 h)

gain_three-i-requires : tie.Need-gain_three-i-requires
gain_three-i-requires c κs = search rules

shape_of-p-then-i-lt3 : tie.Need-shape_of-p-then-i-lt3
shape_of-p-then-i-lt3 c = search rules

shape_of-s-then-i-lt3 : tie.Need-shape_of-s-then-i-lt3
shape_of-s-then-i-lt3 c = search rules

shape_of-k-then-i-lt3 : tie.Need-shape_of-k-then-i-lt3
shape_of-k-then-i-lt3 c = search rules

shape_of-temp_s_inv-then-i-lt3 : tie.Need-shape_of-temp_s_inv-then-i-lt3
shape_of-temp_s_inv-then-i-lt3 c = search rules

shape_of-temp_hp-then-i-lt3 : tie.Need-shape_of-temp_hp-then-i-lt3
shape_of-temp_hp-then-i-lt3 c = search rules

shape_of-temp_pht-then-i-lt3 : tie.Need-shape_of-temp_pht-then-i-lt3
shape_of-temp_pht-then-i-lt3 c = search rules

returns-then-i-lt3 : tie.Need-returns-then-i-lt3
returns-then-i-lt3 c =
    let g = c.gain_three-i.ensures in
    let h : c.gain_three-i.result < 3 = c.if-i-lt3.true in
    pivot_refused _ _ _ _ _ _ h g.0 g.1.0 g.1.1.0 (kept _ _ _ _ h g.1.1.1.0) (kept _ _ _ _ h g.1.1.1.1.0) (kept _ _ _ _ h g.1.1.1.1.1) refl refl refl

renew_cells-requires : tie.Need-renew_cells-requires
renew_cells-requires c κs = search rules

returns : tie.Need-returns
returns c =
    let held = c.requires in
    let g = c.gain_three-i.ensures in
    let h = c.if-i-lt3.false in
    let w = c.renew_cells.ensures in
    gain-taken _ _ _ _ _ held.s_holds held.k_holds held.hp_holds g.1.0 g.1.1.0 _ _ h g.0 (written _ _ _ _ h g.1.1.1.0) (written _ _ _ _ h g.1.1.1.1.0) (written _ _ _ _ h g.1.1.1.1.1) w.0 w.1.0 w.1.1.0 w.1.1.1

pub update_three_spec : {M : Type 1} → statement M
update_three_spec =
    tie.close
    (tie.spec
    gain_three-i-requires
    shape_of-p-then-i-lt3
    shape_of-s-then-i-lt3
    shape_of-k-then-i-lt3
    shape_of-temp_s_inv-then-i-lt3
    shape_of-temp_hp-then-i-lt3
    shape_of-temp_pht-then-i-lt3
    returns-then-i-lt3
    renew_cells-requires
    (λ c. search rules)
    (λ c. search rules)
    (λ c. search rules)
    (λ c. search rules)
    (λ c. search rules)
    (λ c. search rules)
    (λ c. search rules)
    (λ c. search rules)
    returns)
