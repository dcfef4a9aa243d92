-- `decompose` meets its contract: the tests say which case of the decomposition it is. Assumes nothing.
use mathlib.Core.Path.{sym, ◌∙◌}
use lib.Ieee.{of_bits}
use Rattle.four_stages.proofs.Roots.{first_refused, second_refused, both_taken}
use Rattle.four_stages.proofs.decompose.Goals as goal

pub returns-then-not-taken : goal.returns-then-not-taken
unfolding of_bits
returns-then-not-taken c = first_refused _ _ _ (sym c.taken.ensures ∙ c.if-not-taken.true)

pub returns-then-not-taken-2 : goal.returns-then-not-taken-2
unfolding of_bits
returns-then-not-taken-2 c =
    second_refused _ _ _ _ c.square_root-l00.ensures c.recip-d0.ensures
    (sym c.taken.ensures ∙ c.if-not-taken.false)
    (sym c.taken-2.ensures ∙ c.if-not-taken-2.true)

pub returns : goal.returns
unfolding of_bits
returns c =
    both_taken _ _ _ _ _ c.square_root-l00.ensures c.recip-d0.ensures c.square_root-l11.ensures c.recip-d1.ensures
    (sym c.taken.ensures ∙ c.if-not-taken.false)
    (sym c.taken-2.ensures ∙ c.if-not-taken-2.false)
