-- Seven lines, each where the one before it ended (`proofs/Carded.antt`), and room for what is left of the card behind each.
use Rattle.std.proofs.Common.{arith}
use Rattle.std.specs.Float.{binary32}
use Rattle.card_text.specs.Spelling.{card_length}
use Rattle.card_spelling.proofs.Carded.{card_put, entries_few}
use Rattle.card_spelling.proofs.text.put_card.Goals as goal

pub put_count_line-at_states-requires : goal.put_count_line-at_states-requires
unfolding card_length
put_count_line-at_states-requires c =
    let room = c.requires.8 in
    (omega arith, omega (arith, room))

pub put_count_line-at_observations-requires : goal.put_count_line-at_observations-requires
unfolding card_length
put_count_line-at_observations-requires c =
    let room = c.requires.8 in
    (omega (arith, c.requires), omega (arith, room, c.put_count_line-at_states.ensures.behind, c.put_count_line-at_states.auto.into))

pub put_count_line-at_a-requires : goal.put_count_line-at_a-requires
unfolding card_length
put_count_line-at_a-requires c =
    let room = c.requires.8 in
    (omega (arith, c.requires), omega (arith, room, c.put_count_line-at_states.ensures.behind, c.put_count_line-at_states.auto.into, c.put_count_line-at_observations.ensures.behind, c.put_count_line-at_observations.auto.into))

pub put_entries_line-at_q-requires : goal.put_entries_line-at_q-requires
unfolding card_length
put_entries_line-at_q-requires c =
    let room = c.requires.8 in
    let few = entries_few c.args.n c.args.m c.requires.0 c.requires.1 c.requires.2 c.requires.3 in
    (omega (arith, few), omega (arith, c.requires), omega (arith, room, c.put_count_line-at_states.ensures.behind, c.put_count_line-at_states.auto.into, c.put_count_line-at_observations.ensures.behind, c.put_count_line-at_observations.auto.into, c.put_count_line-at_a.ensures.behind, c.put_count_line-at_a.auto.into))

pub put_entries_line-at_h-requires : goal.put_entries_line-at_h-requires
unfolding card_length
put_entries_line-at_h-requires c =
    let room = c.requires.8 in
    let few = entries_few c.args.n c.args.m c.requires.0 c.requires.1 c.requires.2 c.requires.3 in
    (omega (arith, few), omega (arith, c.requires), omega (arith, room, c.put_count_line-at_states.ensures.behind, c.put_count_line-at_states.auto.into, c.put_count_line-at_observations.ensures.behind, c.put_count_line-at_observations.auto.into, c.put_count_line-at_a.ensures.behind, c.put_count_line-at_a.auto.into, c.put_entries_line-at_q.ensures.behind, c.put_entries_line-at_q.auto.into))

pub put_entries_line-at_r-requires : goal.put_entries_line-at_r-requires
unfolding card_length
put_entries_line-at_r-requires c =
    let room = c.requires.8 in
    let few = entries_few c.args.n c.args.m c.requires.0 c.requires.1 c.requires.2 c.requires.3 in
    (omega (arith, few), omega (arith, c.requires), omega (arith, room, c.put_count_line-at_states.ensures.behind, c.put_count_line-at_states.auto.into, c.put_count_line-at_observations.ensures.behind, c.put_count_line-at_observations.auto.into, c.put_count_line-at_a.ensures.behind, c.put_count_line-at_a.auto.into, c.put_entries_line-at_q.ensures.behind, c.put_entries_line-at_q.auto.into, c.put_entries_line-at_h.ensures.behind, c.put_entries_line-at_h.auto.into))

pub put_entries_line-requires : goal.put_entries_line-requires
unfolding card_length
put_entries_line-requires c =
    let room = c.requires.8 in
    let few = entries_few c.args.n c.args.m c.requires.0 c.requires.1 c.requires.2 c.requires.3 in
    (omega (arith, few), omega (arith, c.requires), omega (arith, room, c.put_count_line-at_states.ensures.behind, c.put_count_line-at_states.auto.into, c.put_count_line-at_observations.ensures.behind, c.put_count_line-at_observations.auto.into, c.put_count_line-at_a.ensures.behind, c.put_count_line-at_a.auto.into, c.put_entries_line-at_q.ensures.behind, c.put_entries_line-at_q.auto.into, c.put_entries_line-at_h.ensures.behind, c.put_entries_line-at_h.auto.into, c.put_entries_line-at_r.ensures.behind, c.put_entries_line-at_r.auto.into))

pub returns : goal.returns
returns c =
    card_put binary32 8 c.args.n c.args.m c.args.a.now c.args.q.now c.args.h.now c.args.r.now c.requires.0 c.requires.2 c.requires.4 c.requires.5 c.requires.6 c.args.into.now
    (c.put_count_line-at_states.ensures.behind, c.put_count_line-at_states.ensures.put)
    (c.put_count_line-at_observations.ensures.behind, c.put_count_line-at_observations.ensures.put)
    (c.put_count_line-at_a.ensures.behind, c.put_count_line-at_a.ensures.put)
    (c.put_entries_line-at_q.ensures.behind, c.put_entries_line-at_q.ensures.put)
    (c.put_entries_line-at_h.ensures.behind, c.put_entries_line-at_h.ensures.put)
    (c.put_entries_line-at_r.ensures.behind, c.put_entries_line-at_r.ensures.put)
    (c.put_entries_line.ensures.behind, c.put_entries_line.ensures.put)
