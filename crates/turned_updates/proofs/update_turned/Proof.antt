-- `update_turned` meets its contract: what its steps leave, by the laws of a refused pivot and of pivots that are taken; the last step's answer is the call's. Assumes nothing.
use mathlib.Core.Path.{refl}
use native.Mathlib.Omega.{arith}
use Rattle.filters.proofs.Calls.{pivot_refused, pivots_taken}
use borrow.Author.Rules.{rules}
use Rattle.turned_updates.proofs.update_turned.Statement.{statement}
use Rattle.turned_updates.proofs.update_turned.Tie as tie

-- ---- the way back from each step to the one before it

abbrev start : tie.After-turn_wide → tie.Start
start c = c.before.before.before.before.before.before.before.before.before.before.before.before.before.before

abbrev turned : tie.After-residual_cells-i → tie.After-turn_wide
turned c = c.before.before.before.before.before

abbrev residual : tie.After-gain_turned → tie.After-residual_cells-i
residual c = c.before.before.before.before.before.before.before.before.before

residual_cells-i-requires : tie.Need-residual_cells-i-requires
residual_cells-i-requires c κs =
    let g = c.requires.1 in
    (g.states, search rules, g.h_holds, g.r_holds, search rules, search rules, g.observations, g.few_states, g.few_observations, search rules, c.turn_wide.ensures)

returns-then-i-m : tie.Need-returns-then-i-m
returns-then-i-m c =
    let r = c.residual_cells-i.ensures in
    pivot_refused _ _ _ _ _ _ c.if-i-m.true r.0 r.1.0 r.1.1 refl refl refl refl refl refl

gain_turned-requires : tie.Need-gain_turned-requires
gain_turned-requires c κs =
    let g = c.requires.1 in
    (g.states, g.p_holds, g.h_holds, search rules, search rules, search rules, search rules, g.observations, g.few_states, g.few_observations, search rules, c.turn_wide.ensures)

renew_cells-requires : tie.Need-renew_cells-requires
renew_cells-requires c κs = omega (arith, (start (turned (residual c.before.before.before.before.before.before.before.before.before))).requires.1)

shape_of-x : tie.Need-shape_of-x
shape_of-x c = c.x-1.given

shape_of-p : tie.Need-shape_of-p
shape_of-p c = c.p-1.given

shape_of-s : tie.Need-shape_of-s
shape_of-s c = c.s-1.given

shape_of-k : tie.Need-shape_of-k
shape_of-k c = c.k-1.given

shape_of-temp_s_inv : tie.Need-shape_of-temp_s_inv
shape_of-temp_s_inv c = c.temp_s_inv-1.given

shape_of-temp_hp : tie.Need-shape_of-temp_hp
shape_of-temp_hp c = c.temp_hp-1.given

shape_of-temp_pht : tie.Need-shape_of-temp_pht
shape_of-temp_pht c = c.temp_pht-1.given

shape_of-temp_khp : tie.Need-shape_of-temp_khp
shape_of-temp_khp c = c.temp_khp-1.given

shape_of-t : tie.Need-shape_of-t
shape_of-t c = c.t-1.given

returns : tie.Need-returns
returns c =
    let held = c.requires.1 in
    let r = c.residual_cells-i.ensures in
    let g = c.gain_turned.ensures in
    let w = c.renew_cells.ensures in
    pivots_taken _ _ _ _ _ held.s_holds held.k_holds held.hp_holds r.1.0 r.1.1 _ _ c.if-i-m.false r.0 g.0 g.1.0 g.1.1 w.0 w.1.0 w.1.1.0 w.1.1.1

pub update_turned_spec : {M : Type 1} → statement M
update_turned_spec =
    tie.close
    (tie.spec
    (λ c κs. search rules)
    residual_cells-i-requires
    (λ c. search rules)
    (λ c. search rules)
    (λ c. search rules)
    (λ c. search rules)
    returns-then-i-m
    gain_turned-requires
    renew_cells-requires
    shape_of-x
    shape_of-p
    shape_of-s
    shape_of-k
    shape_of-temp_s_inv
    shape_of-temp_hp
    shape_of-temp_pht
    shape_of-temp_khp
    shape_of-t
    returns)
