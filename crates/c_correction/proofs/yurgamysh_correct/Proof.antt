-- `yurgamysh_correct` meets its contract: it says what `correct` answers, and leaves what that leaves. Assumes nothing.
use borrow.Author.Rules.{rules}
use Rattle.c_correction.proofs.yurgamysh_correct.Statement.{statement}
use Rattle.c_correction.proofs.yurgamysh_correct.Tie as tie

correct-requires : tie.Need-correct-requires
correct-requires c κs = search rules

code_of-requires : tie.Need-code_of-requires
code_of-requires c κs = search rules

shape_of-x : tie.Need-shape_of-x
shape_of-x c = c.x-1.given

shape_of-p : tie.Need-shape_of-p
shape_of-p c = c.p-1.given

shape_of-y : tie.Need-shape_of-y
shape_of-y c = c.y-1.given

shape_of-s : tie.Need-shape_of-s
shape_of-s c = c.s-1.given

shape_of-k : tie.Need-shape_of-k
shape_of-k c = c.k-1.given

shape_of-temp_s_inv : tie.Need-shape_of-temp_s_inv
shape_of-temp_s_inv c = c.temp_s_inv-1.given

shape_of-temp_hp : tie.Need-shape_of-temp_hp
shape_of-temp_hp c = c.temp_hp-1.given

shape_of-temp_pht : tie.Need-shape_of-temp_pht
shape_of-temp_pht c = c.temp_pht-1.given

shape_of-temp_khp : tie.Need-shape_of-temp_khp
shape_of-temp_khp c = c.temp_khp-1.given

returns : tie.Need-returns
returns c = record { answer = _; code = c.code_of.ensures; kept = c.correct.ensures }

pub yurgamysh_correct_spec : {M : Type 1} → statement M
yurgamysh_correct_spec =
    tie.close
    (tie.spec
    correct-requires
    code_of-requires
    shape_of-x
    shape_of-p
    shape_of-y
    shape_of-s
    shape_of-k
    shape_of-temp_s_inv
    shape_of-temp_hp
    shape_of-temp_pht
    shape_of-temp_khp
    returns)
