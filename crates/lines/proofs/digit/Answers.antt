-- Each of the five stretches of bytes that the `match` tells apart is a case of `proofs/Digits.antt`.
use Rattle.std.proofs.Common.{arith, sym}
use Rattle.lines.proofs.Digits.{digit_decimal, digit_letter, digit_low, digit_between, digit_high}
use Rattle.lines.proofs.digit.Goals as goal

pub returns-in-48-to-57 : goal.returns-in-48-to-57
returns-in-48-to-57 c = (omega arith, digit_decimal _ (omega arith) (omega arith))

pub returns-in-97-to-102 : goal.returns-in-97-to-102
returns-in-97-to-102 c = (omega arith, digit_letter _ (omega arith) (omega arith))

pub returns-in_default : goal.returns-in_default
returns-in_default c = sym (digit_low _ (omega arith))

pub returns-in_default-2 : goal.returns-in_default-2
returns-in_default-2 c = sym (digit_between _ (omega arith) (omega arith))

pub returns-in_default-3 : goal.returns-in_default-3
returns-in_default-3 c = sym (digit_high _ (omega arith))
