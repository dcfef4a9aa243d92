-- `correction` meets its contract: where all buffers fit the answer is done, and else the tests from z on come after those before it.
use Rattle.filters.specs.Lent.{from_r}
use Rattle.observation_gates.proofs.Fits.{rest_passes}
use Rattle.observation_gates.proofs.correction.Goals as goal

pub returns-then-all_fit : goal.returns-then-all_fit
returns-then-all_fit c =
    let a = c.args in
    rest_passes a.n a.m a.lx a.lp a.lh a.lz (from_r a.n a.m a.lr a.ly a.ls a.lk a.li a.lhp a.lpht a.lkhp) _ _ c.front_of-h.ensures c.all_fit.ensures c.if-all_fit.true
