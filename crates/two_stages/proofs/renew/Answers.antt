-- `renew` meets its contract: the gain and its products as they are called, and the other numbers as they are computed. Assumes nothing.
use Rattle.two_stages.specs.Stages.{renewal}
use Rattle.two_stages.proofs.Parts.{made_is}
use Rattle.two_stages.proofs.renew.Goals as goal

pub returns : goal.returns
unfolding renewal
returns c =
    let last = c in
    let m = last.args in
    made_is m.b m.s.y last.once-k0.ensures last.once-k1.ensures last.twice.ensures last.twice-2.ensures last.twice-3.ensures last.twice-4.ensures
