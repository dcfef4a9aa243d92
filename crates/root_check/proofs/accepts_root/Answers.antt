-- `accepts_root` meets its contract: each return is a case of `proofs/Cases.antt`.
use mathlib.Core.Path.{◌∙◌}
use mathlib.Core.Logic.{⊎_elim}
use native.Mathlib.Nat.{lt_irrefl, lt_of_lt_of_le}
use native.Mathlib.Omega.{arith}
use borrow.Author.Tests.{ltb-true, ne_eqb}
use lib.Dec.{lit≤}
use Rattle.root_check.proofs.Cases.{too_large, too_small, above_least, at_least, out_of_range}
use Rattle.root_check.proofs.accepts_root.Goals as goal

pub returns-then-n-s : goal.returns-then-n-s
returns-then-n-s c = too_large 24 _ _ (omega (arith, c.if-n-s.true))

pub returns-then-q-s : goal.returns-then-q-s
returns-then-q-s c = too_small 24 _ _ (omega (arith, c.if-q-s.true))

pub returns-then-s-lt16777216 : goal.returns-then-s-lt16777216
returns-then-s-lt16777216 c = above_least 24 _ _ (omega (arith, c.if-n-s.false)) (omega (arith, c.if-q-s.false)) c.if-s-gt8388608.true (ltb-true _ _ c.if-s-lt16777216.true-raw)

pub returns-then-s-eq8388608 : goal.returns-then-s-eq8388608
returns-then-s-eq8388608 c = at_least 24 _ _ (lit≤ tt) (omega (arith, c.if-n-s.false)) (omega (arith, c.if-q-s.false)) c.if-s-eq8388608.true

pub returns-else-s-eq8388608 : goal.returns-else-s-eq8388608
returns-else-s-eq8388608 c =
    ne_eqb _ 8388608 c.if-s-eq8388608.false
    ∙ out_of_range 24 _ _ (λ l m. ⊎_elim (λ w. lt_irrefl _ (lt_of_lt_of_le m w.1)) (λ w. lt_irrefl _ (lt_of_lt_of_le l w)) c.else-s-gt8388608.either) c.if-s-eq8388608.false
