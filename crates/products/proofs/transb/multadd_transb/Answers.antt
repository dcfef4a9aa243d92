-- The gate says that the matrices fit. Assumes nothing.
use Rattle.std.proofs.Common.{refl, ◌∙◌}
use Rattle.std.proofs.lemmas.Result.{err_from_is_err_and}
use Rattle.answers.proofs.Kept.{err_not_done}
use Rattle.entries.proofs.Shapes.{transposed_asked, transposed_fits}
use Rattle.products.proofs.transb.multadd_transb.Goals as goal

pub returns-in_err-product : goal.returns-in_err-product
returns-in_err-product c =
    let p = err_from_is_err_and c.from_residual.result c.from_residual.ensures.1 in
    rw (p.1, p.2) (record { answer = c.in_err-product.ensures ∙ transposed_asked _ _ _ _ _ _; after = rw err_not_done })

pub transb_add_cells-requires : goal.transb_add_cells-requires
transb_add_cells-requires c = let h = transposed_fits _ _ _ _ _ _ (c.in_ok-product.ensures ∙ transposed_asked _ _ _ _ _ _) refl refl in (h.0, h.1, h.2)

pub returns : goal.returns
returns c = record { answer = c.in_ok-product.ensures ∙ transposed_asked _ _ _ _ _ _; after = c.transb_add_cells.ensures }
