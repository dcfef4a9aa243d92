-- `predict` meets its contract: the arrays have the lengths that a prediction for two states asks, so it is never refused (`proofs/Keeping.antt`).
-- Assumes nothing.
use borrow.Author.Rules.{rules}
use Rattle.feeder.proofs.Keeping.{predicted-feeder}
use Rattle.feeder.proofs.predict.Statement.{statement}
use Rattle.feeder.proofs.predict.Tie as tie

slice_bounds-predict-end : tie.Need-slice_bounds-predict-end
slice_bounds-predict-end c = search rules

slice_bounds-predict-end-2 : tie.Need-slice_bounds-predict-end-2
slice_bounds-predict-end-2 c = search rules

slice_bounds-predict-end-3 : tie.Need-slice_bounds-predict-end-3
slice_bounds-predict-end-3 c = search rules

slice_bounds-predict-end-4 : tie.Need-slice_bounds-predict-end-4
slice_bounds-predict-end-4 c = search rules

slice_bounds-predict-end-5 : tie.Need-slice_bounds-predict-end-5
slice_bounds-predict-end-5 c = search rules

slice_bounds-predict-end-6 : tie.Need-slice_bounds-predict-end-6
slice_bounds-predict-end-6 c = search rules

predict-requires : tie.Need-predict-requires
predict-requires c κs = search rules

returns : tie.Need-returns
returns c = predicted-feeder c.args.f _ (search rules) (search rules) c.predict.ensures

pub predict_spec : {M : Type 1} → statement M
predict_spec =
    tie.close
    (tie.spec
    slice_bounds-predict-end
    slice_bounds-predict-end-2
    slice_bounds-predict-end-3
    slice_bounds-predict-end-4
    slice_bounds-predict-end-5
    slice_bounds-predict-end-6
    predict-requires
    returns)
