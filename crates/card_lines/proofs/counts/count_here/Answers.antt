use Rattle.std.proofs.Common.{arith}
use Rattle.card_lines.proofs.Counting.{one_digit, two_digits, neither}
use Rattle.card_lines.proofs.counts.count_here.Goals as goal

pub returns-in-49-to-57 : goal.returns-in-49-to-57
returns-in-49-to-57 c = two_digits _ _ _ c.from-tens.ensures c.from-ones.ensures (grind arith) (grind arith) (grind arith) (grind arith) (grind arith) (grind arith)

pub returns-in-48-to-57 : goal.returns-in-48-to-57
returns-in-48-to-57 c = one_digit _ _ c.from.ensures (grind arith) (grind arith) (grind arith) (grind arith)

pub returns-in_default : goal.returns-in_default
returns-in_default c = neither _ (λ a b d e. grind arith) (λ a b d e f g. grind arith)
