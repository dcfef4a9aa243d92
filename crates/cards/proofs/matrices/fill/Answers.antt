-- Entry i stands behind the i before it (`ready`), and is the i-th number (`says`).
use Rattle.std.proofs.Common.{◌*◌, ◌+◌, subst, arith, set, ℕ}
use Rattle.std.specs.Float.{binary32}
use native.Mathlib.Nat.{zero-add}
use Rattle.grids.proofs.Loops.{Writing, begun, written, all_written}
use Rattle.card_text.specs.Values.{entries_in}
use Rattle.cards.specs.Read.{floats}
use Rattle.cards.proofs.Filling.{part, all_there, before, ready, says}
use Rattle.cards.proofs.matrices.fill.Goals as goal

pub loop-i-init : goal.loop-i-init
loop-i-init c = begun

pub overflow_mul-i : goal.overflow_mul-i
overflow_mul-i c = omega (arith, before 8 c.args.k c.args.text.now c.requires.0 c.loop-i.i c.loop-i-test.true)

pub slice_bounds-entry_of-count : goal.slice_bounds-entry_of-count
slice_bounds-entry_of-count c = omega (arith, before 8 c.args.k c.args.text.now c.requires.0 c.loop-i.i c.loop-i-test.true)

pub slice_bounds-entry_of-start : goal.slice_bounds-entry_of-start
slice_bounds-entry_of-start c = omega (arith, before 8 c.args.k c.args.text.now c.requires.0 c.loop-i.i c.loop-i-test.true)

pub entry_of-requires : goal.entry_of-requires
entry_of-requires c = ready 8 c.args.k c.args.text.now c.requires.0 c.loop-i.i c.loop-i-test.true

pub loop-i-preserved : goal.loop-i-preserved
loop-i-preserved c =
    let e = says 8 c.args.k c.args.text.now c.requires.0 c.loop-i.i c.loop-i-test.true binary32 c.entry_of.result c.float_of.result c.entry_of.ensures c.float_of.ensures in
    let g = floats binary32 (entries_in 8 c.args.k c.args.text.now) in
    let i = c.loop-i.i in
    rw e (subst (λ (j : ℕ). Writing 0 c.args.k g c.args.into.now (set c.loop-i.into j (g i)) (i + 1)) (zero-add i) (written c.loop-i.invariant c.loop-i-test.true))

pub overflow_mul-result : goal.overflow_mul-result
overflow_mul-result c = omega (arith, all_there 8 c.args.k c.args.text.now c.requires.0)

pub slice_bounds-result-count : goal.slice_bounds-result-count
slice_bounds-result-count c = omega (arith, all_there 8 c.args.k c.args.text.now c.requires.0)

pub slice_bounds-result-start : goal.slice_bounds-result-start
slice_bounds-result-start c = omega (arith, all_there 8 c.args.k c.args.text.now c.requires.0)

pub returns-clause-behind : goal.returns-clause-behind
returns-clause-behind c = part (c.args.k * 9) c.args.text.now

pub returns-clause-filled : goal.returns-clause-filled
returns-clause-filled c = all_written c.loop-i.invariant c.loop-i-test.false
