-- Each turn adds to each of the four sums its term of row k, after the triangle.
use Rattle.std.proofs.Common.{refl, arith}
use Rattle.entries.proofs.Places.{rows_in}
use Rattle.entries.proofs.Totals.{zero_bits}
use Rattle.first_pass.proofs.Terms.{four_summed, all_four_summed}
use Rattle.first_pass.proofs.sums.four_sums.Goals as goal

pub triangle-t-requires : goal.triangle-t-requires
triangle-t-requires c = let m = c.args in omega (arith, rows_in m.i m.n m.j c.requires.0)

pub loop-k-preserved : goal.loop-k-preserved
loop-k-preserved c = four_summed c.loop-k.invariant c.loop-k-test.true c.more-t.ensures refl refl

pub returns : goal.returns
returns c = all_four_summed c.loop-k.invariant c.loop-k-test.false zero_bits
