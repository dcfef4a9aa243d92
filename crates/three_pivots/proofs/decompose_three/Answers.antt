-- `decompose_three` meets its contract: the cases of the three pivots say which end it is (`proofs/Ends.antt`). Assumes nothing.
use lib.Ieee.{binary32, of_bits}
use Rattle.three_pivots.proofs.Ends.{rooted, refused, first_refused, second_refused, third_refused, all_taken}
use Rattle.three_pivots.proofs.decompose_three.Goals as goal

pub returns-in_default : goal.returns-in_default
unfolding of_bits
returns-in_default c =
    let k =
    first_refused binary32 c.args.t.now c.requires (refused binary32 _ _ _ c.pivot_of.ensures c.in_default.is) in
    record { index = k.0; after = k.1 }

pub returns-in_default-pivot_of : goal.returns-in_default-pivot_of
returns-in_default-pivot_of c =
    let k =
    second_refused binary32 c.args.t.now c.requires _ _
    (rooted binary32 _ _ _ _ c.pivot_of.ensures c.in-Accepted.is)
    (refused binary32 _ _ _ c.pivot_of-2.ensures c.in_default-pivot_of.is) in
    record { index = k.0; after = k.1 }

pub returns-in_default-pivot_of-2 : goal.returns-in_default-pivot_of-2
returns-in_default-pivot_of-2 c =
    let k =
    third_refused binary32 c.args.t.now c.requires _ _ _ _
    (rooted binary32 _ _ _ _ c.pivot_of.ensures c.in-Accepted.is)
    (rooted binary32 _ _ _ _ c.pivot_of-2.ensures c.in-Accepted-pivot_of.is)
    (refused binary32 _ _ _ c.pivot_of-3.ensures c.in_default-pivot_of-2.is) in
    record { index = k.0; after = k.1 }

pub returns : goal.returns
unfolding of_bits
returns c =
    let k =
    all_taken binary32 c.args.t.now c.requires _ _ _ _ _ _
    (rooted binary32 _ _ _ _ c.pivot_of.ensures c.in-Accepted.is)
    (rooted binary32 _ _ _ _ c.pivot_of-2.ensures c.in-Accepted-pivot_of.is)
    (rooted binary32 _ _ _ _ c.pivot_of-3.ensures c.in-Accepted-pivot_of-2.is) in
    record { index = k.0; after = k.1 }
