-- A row that is refused is the first; when none is, the rows laid down are the factor.
use Rattle.std.proofs.Common.{◌≡◌, ◌≤◌, ◌*◌, length, sym, ◌∙◌, arith}
use Rattle.upper_rows.proofs.Laying.{turned_start, turned_more, turned_end}
use Rattle.upper_rows.proofs.Rising.{row_more, row_refused, rows_end, laid-factor, laid_past}
use Rattle.upper_rows.proofs.factor_rows.Goals as goal

pub returns-then-not-fill_row-clause-index : goal.returns-then-not-fill_row-clause-index
returns-then-not-fill_row-clause-index c = row_refused c.loop-i.invariant _ (omega arith) c.if-not-fill_row.true c.fill_row.ensures.taken

pub loop-i-preserved : goal.loop-i-preserved
loop-i-preserved c = row_more c.loop-i.invariant _ _ (omega arith) c.if-not-fill_row.false c.fill_row.ensures.taken c.fill_row.ensures.row

pub loop-j-init : goal.loop-j-init
loop-j-init c = turned_start c.args.n c.loop-i.t

pub loop-j-preserved : goal.loop-j-preserved
loop-j-preserved c =
    let l = c.loop-i in
    let w = c.loop-j in
    let fits : c.args.n * c.args.n ≤ length l.t = omega (arith, l.invariant.size) in
    turned_more c.args.n l.t w.t _ w.j (omega arith) fits w.invariant c.lay_down.ensures

pub returns-clause-index : goal.returns-clause-index
returns-clause-index c =
    let k : c.loop-i.i ≡ c.args.n = omega arith in
    sym k ∙ rows_end c.loop-i.invariant (omega arith)

pub returns-clause-after : goal.returns-clause-after
returns-clause-after c =
    let l = c.loop-i in
    let w = c.loop-j in
    λ h. laid-factor l.invariant w.t (omega arith) (omega arith) (turned_end c.args.n l.t w.t w.j (omega arith) w.invariant)

pub returns-clause-past : goal.returns-clause-past
returns-clause-past c = laid_past c.loop-i.invariant c.loop-j.t _ c.loop-j.invariant
