-- `in_hundredths` meets its contract: each return is a range of the exponent's field (`proofs/Patterns.antt`).
use mathlib.Core.Path.{sym, subst}
use Prim.Native.Nat.{◌-◌, ◌*◌, ◌/◌, ◌%◌, ◌^◌}
use native.Mathlib.Omega.{arith}
use lib.Dec.{T}
use lib.Ieee.{binary32, to_bits, fits}
use Rattle.data_type.proofs.NotNan.{not_nan}
use Rattle.hundredths.proofs.Patterns.{nan_beyond, Shifted, shifted, large, small, middle}
use Rattle.hundredths.proofs.in_hundredths.Goals as goal

pub returns-then-v : goal.returns-then-v
returns-then-v c = nan_beyond c.args.v c.if-v.true

pub float_to_bits-b : goal.float_to_bits-b
float_to_bits-b c = not_nan c.args.v c.if-v.false

pub returns-then-e-gt143 : goal.returns-then-e-gt143
returns-then-e-gt143 c = let held : T (fits binary32 c.args.v) = subst T (sym c.well_formed.0.1) tt in large c.args.v held c.if-e-gt143.true

pub returns-then-e-lt116 : goal.returns-then-e-lt116
returns-then-e-lt116 c = let held : T (fits binary32 c.args.v) = subst T (sym c.well_formed.0.1) tt in small c.args.v held c.if-e-lt116.true

pub overflow_mul-result-2 : goal.overflow_mul-result-2
overflow_mul-result-2 c = let shift : Shifted (150 - to_bits binary32 c.args.v / 8388608) ((1 * 2 ^ (150 - to_bits binary32 c.args.v / 8388608)) % 18446744073709551616) = shifted _ (omega arith) in let s = shift in omega arith

pub returns : goal.returns
returns c = let held : T (fits binary32 c.args.v) = subst T (sym c.well_formed.0.1) tt in let shift : Shifted (150 - to_bits binary32 c.args.v / 8388608) ((1 * 2 ^ (150 - to_bits binary32 c.args.v / 8388608)) % 18446744073709551616) = shifted _ (omega arith) in rw shift.is (middle c.args.v held c.if-e-lt116.false c.if-e-gt143.false)
