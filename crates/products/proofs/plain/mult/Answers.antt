-- The gate says that the matrices fit. Assumes nothing.
use Rattle.std.proofs.Common.{refl}
use Rattle.entries.proofs.Shapes.{product_fits}
use Rattle.products.proofs.plain.mult.Goals as goal

pub mult_cells-requires : goal.mult_cells-requires
mult_cells-requires c = product_fits _ _ _ _ _ _ c.in_ok-product.ensures refl refl

pub returns : goal.returns
returns c = record { answer = c.in_ok-product.ensures; after = c.mult_cells.ensures }
