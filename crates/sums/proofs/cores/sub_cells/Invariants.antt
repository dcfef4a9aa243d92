-- k of the cells are written.
use Rattle.std.proofs.Common.{◌≡◌, get_or}
use Rattle.std.specs.Float.{binary32, nan}
use Rattle.std.specs.Float.Ieee.{sub}
use Rattle.grids.specs.Grid.{run}
use Rattle.sums.proofs.cores.sub_cells.Given as goal

abbrev pub invariant-loop-k : goal.invariant-loop-k
invariant-loop-k l = l.c ≡ run 0 l.k (λ j. sub binary32 (get_or l.a j nan) (get_or l.b j nan)) l.initial.c
