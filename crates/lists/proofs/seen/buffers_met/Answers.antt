-- One buffer more at each turn (`proofs/Comparing.antt`).
use Rattle.std.proofs.Common.{[], sym, ap, ◌∙◌}
use Rattle.std.proofs.lemmas.List.{get_or-map}
use Rattle.lists.specs.Seen.{buffer_met}
use Rattle.lists.proofs.Comparing.{no_buffer, one_buffer}
use Rattle.lists.proofs.seen.buffers_met.Goals as goal

pub loop-i-init : goal.loop-i-init
loop-i-init c = no_buffer _ _ _

pub loop-i-preserved : goal.loop-i-preserved
loop-i-preserved c =
    let same = sym (get_or-map (λ b. b.now) c.args.buffers.now c.loop-i.i (record { ref_ptr = (0, 0); now = [] }) [] c.loop-i-test.true) in
    one_buffer _ _ _ _ _ _ c.loop-i.invariant (c.buffer_met-more.ensures ∙ ap (buffer_met c.args.s.now c.loop-i.more c.loop-i.i) same)
