-- The sum is the definition's.
use Rattle.c_codes.specs.Code.{code_of}
use Rattle.c_codes.proofs.code_of.Goals as goal

pub returns : goal.returns
unfolding code_of
returns c = cc
