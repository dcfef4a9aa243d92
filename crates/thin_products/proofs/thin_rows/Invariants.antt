-- The columns lie one and two apart, and r of the rows are written.
use Rattle.std.specs.Float.{binary32}
use Rattle.grids.specs.Grid.{cell}
use Rattle.grids.proofs.Turns.{Rows}
use Rattle.entries.specs.Entries.{times}
use Rattle.thin_products.specs.Thin.{strided}
use Rattle.thin_products.proofs.Laws.{Offsets}
use Rattle.thin_products.proofs.thin_rows.Given as goal

abbrev pub invariant-loop-r : goal.invariant-loop-r
invariant-loop-r l =
    record {
      apart : Offsets l.cols l.over l.one l.two;
      written : Rows l.rows l.cols (times binary32 l.inner (cell l.inner l.a) (strided l.up l.over l.b)) l.fn.c l.c l.r;
    }
