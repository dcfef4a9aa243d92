-- The steps whose reading or noise is not finite: each is its place in the list.
use lib.Ieee.{of_bits}
use Rattle.yarn_shift.proofs.readings.arriving.Goals as goal

pub returns-in-3 : goal.returns-in-3
unfolding of_bits
returns-in-3 c = rw c.in-3.is

pub returns-in-4 : goal.returns-in-4
unfolding of_bits
returns-in-4 c = rw c.in-4.is

pub returns-in-6 : goal.returns-in-6
unfolding of_bits
returns-in-6 c = rw c.in-6.is
