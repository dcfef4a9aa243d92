-- `yurgamysh_predict` meets its contract: it says what `predict` answers, and leaves what that leaves. Assumes nothing.
use borrow.Author.Rules.{rules}
use Rattle.c_prediction.proofs.yurgamysh_predict.Statement.{statement}
use Rattle.c_prediction.proofs.yurgamysh_predict.Tie as tie

predict-requires : tie.Need-predict-requires
predict-requires c κs = search rules

code_of-requires : tie.Need-code_of-requires
code_of-requires c κs = search rules

shape_of-x : tie.Need-shape_of-x
shape_of-x c = c.x-1.given

shape_of-p : tie.Need-shape_of-p
shape_of-p c = c.p-1.given

shape_of-predicted : tie.Need-shape_of-predicted
shape_of-predicted c = c.predicted-1.given

shape_of-temp : tie.Need-shape_of-temp
shape_of-temp c = c.temp-1.given

returns : tie.Need-returns
returns c = record { answer = _; code = c.code_of.ensures; kept = c.predict.ensures }

pub yurgamysh_predict_spec : {M : Type 1} → statement M
yurgamysh_predict_spec = tie.close (tie.spec predict-requires code_of-requires shape_of-x shape_of-p shape_of-predicted shape_of-temp returns)
