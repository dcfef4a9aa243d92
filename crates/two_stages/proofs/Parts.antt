-- A renewal by its parts. Assumes nothing.
use mathlib.Core.Path.{◌≡◌}
use lib.Ieee.{Float}
use Rattle.two_stages.specs.declared.Operands.{Operands}
use Rattle.two_stages.specs.Stages.{made}

-- of equal numbers it is the same
pub made_is :
    (b : Operands) (y : Float) {k l t0 t1 t2 t3 k' l' t0' t1' t2' t3' : Float} → k ≡ k' → l ≡ l' → t0 ≡ t0' → t1 ≡ t1' → t2 ≡ t2' → t3 ≡ t3'
    → made b y k l t0 t1 t2 t3 ≡ made b y k' l' t0' t1' t2' t3'
made_is b y p q r s t u = rw (p, q, r, s, t, u)
