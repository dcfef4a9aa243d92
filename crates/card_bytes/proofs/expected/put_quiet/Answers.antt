-- The eight bytes stand where eight stores would put them (`proofs/Placing.antt`).
use Rattle.card_bytes.proofs.Placing.{quiet_put}
use Rattle.card_bytes.proofs.expected.put_quiet.Goals as goal

pub returns : goal.returns
returns c = quiet_put _ _ _ c.requires c.copy_from_slice.ensures.after
