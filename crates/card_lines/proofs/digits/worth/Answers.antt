-- A digit's worth by its bits, by `proofs/Worth.antt`.
use Rattle.card_lines.proofs.Worth.{worth_is}
use Rattle.card_lines.proofs.digits.worth.Goals as goal

pub returns : goal.returns
returns c = worth_is _ c.requires
