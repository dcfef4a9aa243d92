-- `by_digits` meets its contract. `Turn` of `proofs/Loop.antt` is the invariant; b, which is halved, is the measure.
use Prim.Native.Nat.{◌<◌}
use native.Mathlib.Omega.{arith}
use Rattle.root_entries.proofs.Loop.{first, up, stay}
use Rattle.root_entries.proofs.by_digits.Goals.{then-t-n, else-t-n}
use Rattle.root_entries.proofs.by_digits.Goals as goal

pub loop-b-init : goal.loop-b-init
loop-b-init c = first 24 _ c.requires

pub loop-b-preserved : goal.loop-b-preserved
loop-b-preserved c =
    let t = c.loop-b.invariant in
    let h : 0 < c.loop-b.b = omega (arith, c.loop-b-test.true) in
    elim c.if-t-n.branch [ then-t-n w ↦ rw w.r-is (up 24 _ _ _ t h w.if-t-n.true) | else-t-n w ↦ rw w.r-is (stay 24 _ _ _ t h w.if-t-n.false) ]
