-- The gate says that the buffers fit. Assumes nothing.
use Rattle.std.proofs.Common.{refl}
use Rattle.entries.proofs.Shapes.{row_fits}
use Rattle.products.proofs.rowvector.mult_rowvector.Goals as goal

pub rowvector_cells-requires : goal.rowvector_cells-requires
rowvector_cells-requires c = row_fits _ _ _ _ _ c.in_ok-row.ensures refl refl

pub returns : goal.returns
returns c = record { answer = c.in_ok-row.ensures; after = c.rowvector_cells.ensures }
