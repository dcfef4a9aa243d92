-- `all_on` meets its contract: it is so row by row. Assumes nothing.
use lib.Ieee.{binary32}
use Rattle.entries.specs.Entries.{times_x}
use Rattle.four_values.specs.Values.{in_four, in_large}
use Rattle.four_values.specs.Products.{row_dot}
use Rattle.four_values.proofs.Values.{four_is}
use Rattle.four_states.specs.Steps.{all_on}
use Rattle.four_states.proofs.all_on.Goals as goal

pub returns : goal.returns
unfolding row_dot all_on
returns c =
    let args = c.args in
    four_is _ (times_x binary32 4 (in_large args.a) (in_four args.x)) (c.row_on.ensures, c.row_on-2.ensures, c.row_on-3.ensures, c.row_on-4.ensures)
