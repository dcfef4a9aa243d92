-- `solve_three` meets its contract: the tests say which end it is (`proofs/Ends.antt`). Assumes nothing.
use mathlib.Core.Path.{sym, ◌∙◌}
use lib.Ieee.{binary32, of_bits}
use Rattle.three_solved.proofs.Ends.{first_refused, second_refused, third_refused, all_taken}
use Rattle.three_solved.proofs.solve_three.Goals as goal

pub returns-then-not-taken : goal.returns-then-not-taken
returns-then-not-taken c = first_refused binary32 _ _ _ _ _ _ (sym c.taken.ensures ∙ c.if-not-taken.true)

pub returns-then-not-taken-2 : goal.returns-then-not-taken-2
returns-then-not-taken-2 c =
    second_refused binary32 _ _ _ _ _ _ _ _ (sym c.taken.ensures ∙ c.if-not-taken.false, c.square_root-l00.ensures, c.recip-d0.ensures)
    (sym c.taken-2.ensures ∙ c.if-not-taken-2.true)

pub returns-then-not-taken-3 : goal.returns-then-not-taken-3
returns-then-not-taken-3 c =
    third_refused binary32 _ _ _ _ _ _ _ _ _ _ (sym c.taken.ensures ∙ c.if-not-taken.false, c.square_root-l00.ensures, c.recip-d0.ensures)
    (sym c.taken-2.ensures ∙ c.if-not-taken-2.false, c.square_root-l11.ensures, c.recip-d1.ensures)
    (sym c.taken-3.ensures ∙ c.if-not-taken-3.true)

pub returns : goal.returns
unfolding of_bits
returns c =
    all_taken binary32 _ _ _ _ _ _ _ _ _ _ _ _ (sym c.taken.ensures ∙ c.if-not-taken.false, c.square_root-l00.ensures, c.recip-d0.ensures)
    (sym c.taken-2.ensures ∙ c.if-not-taken-2.false, c.square_root-l11.ensures, c.recip-d1.ensures)
    (sym c.taken-3.ensures ∙ c.if-not-taken-3.false, c.square_root-l22.ensures, c.recip-d2.ensures)
