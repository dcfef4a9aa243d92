-- `yurgamysh_update` meets its contract: it says what `update_with_innovation` answers, and leaves what that leaves. Assumes nothing.
use borrow.Author.Rules.{rules}
use Rattle.c_correction.proofs.yurgamysh_update.Statement.{statement}
use Rattle.c_correction.proofs.yurgamysh_update.Tie as tie

update_with_innovation-requires : tie.Need-update_with_innovation-requires
update_with_innovation-requires c κs = search rules

code_of-requires : tie.Need-code_of-requires
code_of-requires c κs = search rules

shape_of-x : tie.Need-shape_of-x
shape_of-x c = c.x-1.given

shape_of-p : tie.Need-shape_of-p
shape_of-p c = c.p-1.given

shape_of-s : tie.Need-shape_of-s
shape_of-s c = c.s-1.given

shape_of-k : tie.Need-shape_of-k
shape_of-k c = c.k-1.given

shape_of-temp_s_inv : tie.Need-shape_of-temp_s_inv
shape_of-temp_s_inv c = c.temp_s_inv-1.given

shape_of-temp_hp : tie.Need-shape_of-temp_hp
shape_of-temp_hp c = c.temp_hp-1.given

shape_of-temp_pht : tie.Need-shape_of-temp_pht
shape_of-temp_pht c = c.temp_pht-1.given

shape_of-temp_khp : tie.Need-shape_of-temp_khp
shape_of-temp_khp c = c.temp_khp-1.given

returns : tie.Need-returns
returns c = record { answer = _; code = c.code_of.ensures; kept = c.update_with_innovation.ensures }

pub yurgamysh_update_spec : {M : Type 1} → statement M
yurgamysh_update_spec =
    tie.close
    (tie.spec
    update_with_innovation-requires
    code_of-requires
    shape_of-x
    shape_of-p
    shape_of-s
    shape_of-k
    shape_of-temp_s_inv
    shape_of-temp_hp
    shape_of-temp_pht
    shape_of-temp_khp
    returns)
