-- The sum is the definition's.
use Rattle.std.proofs.Common.{arith}
use Rattle.card_text.specs.Spelling.{card_length}
use Rattle.cards.proofs.bytes_of.Goals as goal

pub returns : goal.returns
unfolding card_length
returns c = omega (arith, c.digits_of.ensures, c.digits_of-2.ensures)
