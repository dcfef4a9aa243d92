-- The first i records are corrected, each by its own reading, and the others are as lent; the tally is theirs.
use Rattle.std.proofs.Common.{◌≡◌}
use Rattle.rows.specs.Rows.{each, corrected_by}
use Rattle.rows.proofs.Tallies.{tally_of}
use Rattle.feeders.proofs.correct.Given as goal

abbrev pub invariant-loop-i : goal.invariant-loop-i
invariant-loop-i l =
    record {
      moved : l.feeder-items ≡ each (corrected_by l.readings) l.i l.initial.feeder-items;
      counted : l.tally ≡ tally_of l.fn.feeders l.readings l.i;
    }
