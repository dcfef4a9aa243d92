-- `root::lifted` meets its contract: `moved_up` of `proofs/Subnormal.antt`.
use native.Mathlib.Omega.{arith}
use lib.Dec.{lit≤}
use lib.Ieee.{binary32}
use Rattle.data_type.proofs.Subnormal.{Moved, moved_up}
use Rattle.data_type.proofs.root.lifted.Goals as goal

pub overflow_sub-up : goal.overflow_sub-up
overflow_sub-up c = let fraction : Moved binary32 32 c.args.t = moved_up binary32 32 _ (lit≤ tt) (λ e. omega (arith, e, c.requires)) c.requires.1 in fraction.zeros

pub returns : goal.returns
returns c = let fraction : Moved binary32 32 c.args.t = moved_up binary32 32 _ (lit≤ tt) (λ e. omega (arith, e, c.requires)) c.requires.1 in (fraction.least, fraction.most, omega arith, fraction.value)
