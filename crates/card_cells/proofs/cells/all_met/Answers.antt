-- One number more at each turn (`proofs/Comparing.antt`).
use Rattle.card_cells.proofs.Comparing.{no_cell, one_cell}
use Rattle.card_cells.proofs.cells.all_met.Goals as goal

pub loop-i-init : goal.loop-i-init
loop-i-init c = no_cell _ _ _ _ _

pub loop-i-preserved : goal.loop-i-preserved
loop-i-preserved c = one_cell _ _ _ _ _ _ _ _ c.loop-i.invariant c.cell_met-more.ensures
