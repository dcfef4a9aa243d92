-- `correct_four` meets its contract: what is read, seen and decomposed, and then a refusal or what is left past the pivots, by the laws of the whole. Assumes nothing.
use mathlib.Core.List.{[]}
use mathlib.Core.Path.{refl}
use native.Mathlib.Omega.{arith}
use Rattle.grids.specs.Grid.{run}
use Rattle.filters.specs.Lent.{Buffers, buffers}
use Rattle.four_by_two.proofs.Whole.{Begun, y_left, refused, renewed}
use Rattle.four_by_two.proofs.correct_four.Statement.{statement}
use Rattle.four_by_two.proofs.correct_four.Tie as tie

-- ---- the way back from each step to the one before it

abbrev rooted : tie.After-finish → tie.After-put
rooted c = c.before.before.before.before.before.before.before.before.before.before.before

-- ---- before the pivots' test

-- the buffers as lent, with the y that is stored
abbrev lent : tie.After-put → Buffers
lent c =
    let a = c.args in
    buffers a.x.now a.p.now a.h.now [] a.r.now c.put_two.new.c a.s.now a.k.now a.temp_s_inv.now a.temp_hp.now a.temp_pht.now a.temp_khp.now

-- what is read, seen and decomposed
begun_is : (c : tie.After-put) → Begun (lent c) c.args.z.now c.read_operands-b.result c.observe-seen.result c.decompose-root.result
begun_is c = record { read = c.read_operands-b.ensures; seen = c.observe-seen.ensures; rooted = c.decompose-root.ensures }

returns-then-root-lt2 : tie.Need-returns-then-root-lt2
unfolding run
returns-then-root-lt2 c = (
  y_left (begun_is c.before.before.before.before) c.args.y.now _ c.put_two.ensures,
  refused (begun_is c.before.before.before.before) _ c.if-root-lt2.true c.put_eight.ensures c.put.ensures refl refl refl refl refl refl,
)

returns : tie.Need-returns
unfolding run
returns c = (
  y_left (begun_is (rooted c.before.before.before.before.before.before.before.before.before.before.before.before)) c.args.y.now _ c.put_two.ensures,
  renewed (begun_is (rooted c.before.before.before.before.before.before.before.before.before.before.before.before)) c.if-root-lt2.false c.args.y.now c.requires.0.y_holds c.put_two.ensures
      _ _ c.finish.ensures c.put_eight.ensures c.put.ensures,
)

-- ---- lengths

read_operands-b-requires : tie.Need-read_operands-b-requires
read_operands-b-requires c κs = let h = c.requires in (h.0.x_holds, h.0.p_holds, h.0.h_holds, h.1, h.0.r_holds)

finish-requires : tie.Need-finish-requires
finish-requires c κs =
    let h = c.requires.0 in
    (h.x_holds, h.p_holds, h.k_holds, h.s_inv_holds, h.pht_holds, h.khp_holds)

pub correct_four_spec : {M : Type 1} → statement M
correct_four_spec =
    tie.close
    (tie.spec
    read_operands-b-requires
    (λ c κs. tt)
    (λ c κs. c.requires.0.y_holds)
    (λ c κs. c.requires.0.hp_holds)
    (λ c κs. tt)
    (λ c κs. c.requires.0.s_holds)
    (λ c. refl)
    (λ c. refl)
    (λ c. omega (arith, c.put_two.auto))
    (λ c. omega (arith, c.put.auto))
    (λ c. omega (arith, c.put_eight.auto))
    returns-then-root-lt2
    finish-requires
    (λ c. omega (arith, c.finish.auto))
    (λ c. omega (arith, c.finish.auto))
    (λ c. omega (arith, c.put_two.auto))
    (λ c. omega (arith, c.put.auto))
    (λ c. omega (arith, c.finish.auto))
    (λ c. omega (arith, c.finish.auto))
    (λ c. omega (arith, c.put_eight.auto))
    (λ c. omega (arith, c.finish.auto))
    (λ c. omega (arith, c.finish.auto))
    returns)
