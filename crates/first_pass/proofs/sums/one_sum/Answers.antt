-- Each turn adds the term of row k to the first ones.
use Rattle.std.proofs.Common.{refl}
use Rattle.entries.proofs.Totals.{zero_bits}
use Rattle.first_pass.proofs.Terms.{summing, summed, all_summed}
use Rattle.first_pass.proofs.sums.one_sum.Goals as goal

pub loop-k-init : goal.loop-k-init
loop-k-init c = summing c.requires.0 refl refl refl

pub loop-k-preserved : goal.loop-k-preserved
loop-k-preserved c = summed c.loop-k.invariant c.loop-k-test.true refl refl refl refl

pub returns : goal.returns
returns c = all_summed c.loop-k.invariant c.loop-k-test.false zero_bits
