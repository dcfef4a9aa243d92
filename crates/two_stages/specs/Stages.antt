-- The correction of two states by one observation, stage by stage on values. Definitions only.
use Rattle.std.specs.Prelude.{List, Float}
use Rattle.std.specs.Float.{binary32}
use Rattle.std.specs.Float.Ieee.{add, sub, mul}
use Rattle.side_by_side.specs.declared.Four.{Four}
use Rattle.numbers.specs.Sums.{plus0}
use Rattle.grids.specs.Grid.{cell}
use Rattle.entries.specs.Entries.{numbers}
use Rattle.four_values.specs.Values.{square}
use Rattle.two_stages.specs.declared.Operands.{Operands}
use Rattle.two_stages.specs.declared.Seen.{Seen}
use Rattle.two_stages.specs.declared.Renewal.{Renewal}

-- what is read beside P, and P
abbrev pub around : List Float → List Float → List Float → List Float → Four → Operands
around x H z R p = record { x0 = numbers x 0; x1 = numbers x 1; p = p; h0 = cell 2 H 0 0; h1 = cell 2 H 0 1; z = numbers z 0; r = cell 1 R 0 0 }

-- what is read
unfoldable pub lent_in : List Float → List Float → List Float → List Float → List Float → Operands
lent_in x P H z R = around x H z R (square (cell 2 P))

-- a·b + c·d
abbrev pub two : Float → Float → Float → Float → Float
two a b c d = add binary32 (mul binary32 a b) (mul binary32 c d)

-- 0 + u
abbrev pub started : Float → Float
started u = add binary32 plus0 u

-- S from H·P, H and R: 0 + (0 + u0)·h0 + (0 + u1)·h1 + r
abbrev pub residual : Float → Float → Float → Float → Float → Float
residual u0 u1 h0 h1 r = add binary32 (add binary32 (started (mul binary32 (started u0) h0)) (mul binary32 (started u1) h1)) r

-- H·P without its start
abbrev pub first : Operands → Float
first b = two b.h0 b.p.t0 b.h1 b.p.t2

abbrev pub second : Operands → Float
second b = two b.h0 b.p.t1 b.h1 b.p.t3

-- what is seen beside S, and S
abbrev pub beside : Operands → Float → Seen
beside b s = record {
  y = sub binary32 b.z (two b.h0 b.x0 b.h1 b.x1);
  s = s;
  u0 = first b;
  u1 = second b;
  v0 = two b.p.t0 b.h0 b.p.t1 b.h1;
  v1 = two b.p.t2 b.h0 b.p.t3 b.h1;
}

-- the innovation, S, and H·P and P·Hᵀ without their start
unfoldable pub seen : Operands → Seen
seen b = beside b (residual (first b) (second b) b.h0 b.h1 b.r)

-- a number of the gain, from P·Hᵀ and the inverse
abbrev pub gain : Float → Float → Float
gain v i = started (mul binary32 (started v) i)

-- such a number times one of H·P
abbrev pub spread : Float → Float → Float → Float
spread v i u = started (mul binary32 (gain v i) (started u))

-- a renewal of these numbers
abbrev pub made : Operands → Float → Float → Float → Float → Float → Float → Float → Renewal
made b y k0 k1 t0 t1 t2 t3 = record {
  k0 = k0;
  k1 = k1;
  t = record { t0 = t0; t1 = t1; t2 = t2; t3 = t3 };
  w0 = add binary32 b.x0 (mul binary32 k0 y);
  w1 = add binary32 b.x1 (mul binary32 k1 y);
  n = record { t0 = sub binary32 b.p.t0 t0; t1 = sub binary32 b.p.t1 t1; t2 = sub binary32 b.p.t2 t2; t3 = sub binary32 b.p.t3 t3 };
}

-- the gain, the gain times H·P, the new x and the new P, from the inverse of S
unfoldable pub renewal : Operands → Seen → Float → Renewal
renewal b s i = made b s.y (gain s.v0 i) (gain s.v1 i) (spread s.v0 i s.u0) (spread s.v0 i s.u1) (spread s.v1 i s.u0) (spread s.v1 i s.u1)
