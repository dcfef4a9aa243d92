-- Each of the five stretches of bytes that the `match` tells apart is a case of `proofs/Worth.antt`.
use Rattle.std.proofs.Common.{arith}
use Rattle.card_lines.proofs.Worth.{decimal, letter, low, between, high}
use Rattle.card_lines.proofs.digits.other.Goals as goal

pub returns-in-48-to-57 : goal.returns-in-48-to-57
returns-in-48-to-57 c = decimal _ (omega arith) (omega arith)

pub returns-in-97-to-102 : goal.returns-in-97-to-102
returns-in-97-to-102 c = letter _ (omega arith) (omega arith)

pub returns-in_default : goal.returns-in_default
returns-in_default c = low _ (omega arith)

pub returns-in_default-2 : goal.returns-in_default-2
returns-in_default-2 c = between _ (omega arith) (omega arith)

pub returns-in_default-3 : goal.returns-in_default-3
returns-in_default-3 c = high _ (omega arith)
