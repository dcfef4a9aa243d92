-- Reading the digits that are left behind those that were read gives what reading all eight gives, and there is room below 2^32 for them.
use Rattle.std.proofs.Common.{◌≡◌, ◌+◌, ◌-◌}
use Rattle.lines.specs.Hex.{digits_from}
use Rattle.lines.proofs.Digits.{Room}
use Rattle.lines.proofs.hex8.Given as goal

abbrev pub invariant-loop-b : goal.invariant-loop-b
invariant-loop-b l = record {
  same : digits_from (8 - l.b-index) l.bits l.fn.s (l.fn.at + l.b-index) ≡ digits_from 8 0 l.fn.s l.fn.at;
  room : Room l.bits (8 - l.b-index);
}
