-- A line more is counted by what `read_line` and `count` say of it.
use Rattle.std.proofs.Common.{◌∙◌, ap, rules}
use Rattle.root_list.specs.Replay.{start, next, count_of}
use Rattle.root_list.specs.declared.line.Line.{Line}
use Rattle.root_list.proofs.Counting.{under_none, under_more}
use Rattle.roots.proofs.replay.replay.Goals as goal

pub loop-at-init : goal.loop-at-init
loop-at-init g c = (start, under_none, search rules, search rules)

pub loop-at-preserved : goal.loop-at-preserved
loop-at-preserved g c =
    let i = c.loop-at.invariant in
    let e = c.count-t.ensures ∙ ap (λ (l : Line). count_of l c.loop-at.t) c.read_line-l.ensures in
    let ends = c.line_end-end.ensures in (
      rw e (next i.0 c.loop-at-test.true ends),
      rw c.count-t.ensures (under_more c.read_line-l.result _ _ _ i.1 ends.after),
      search rules,
      search rules,
    )
