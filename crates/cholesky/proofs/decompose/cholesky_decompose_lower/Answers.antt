-- The gate says that the matrix fits, and the index that comes back whether a pivot is refused. Assumes nothing.
use Rattle.std.proofs.Common.{refl}
use Rattle.answers.proofs.Kept.{accepted}
use Rattle.factors.proofs.Calls.{square_fits, refused_late, all_taken}
use Rattle.cholesky.proofs.decompose.cholesky_decompose_lower.Goals as goal

pub decompose_cells-i-requires : goal.decompose_cells-i-requires
decompose_cells-i-requires c = square_fits _ _ (accepted c.in_ok-square.ensures refl refl)

pub returns-then-i-n : goal.returns-then-i-n
returns-then-i-n c =
    let s = c.decompose_cells-i.ensures in
    refused_late _ _ _ _ _ (accepted c.in_ok-square.ensures refl refl) s.index s.after c.if-i-n.true

pub returns : goal.returns
returns c =
    let s = c.decompose_cells-i.ensures in
    all_taken _ _ _ _ _ (accepted c.in_ok-square.ensures refl refl) s.index s.after _ c.in_ok-square.ensures c.if-i-n.false
