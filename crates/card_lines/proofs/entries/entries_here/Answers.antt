-- A field and its comma leave one entry fewer (`turn`), and the last one has a newline behind it (`ended`).
use Rattle.std.proofs.Common.{◌≡◌, ◌∙◌, ap, arith, suc, sym, option_copied, ◌-◌, ◌+◌}
use Rattle.card_lines.specs.Front.{entries_first}
use Rattle.card_lines.proofs.Fields.{turn, no_turn, ended}
use Rattle.card_lines.proofs.entries.entries_here.Goals as goal

pub returns-in_err-rest : goal.returns-in_err-rest
returns-in_err-rest c =
    let n = c.loop.counter in
    let j = c.args.k - (n + 1) in
    let e : c.args.k - n ≡ suc j = omega arith in
    ap option_copied c.from_residual.ensures
    ∙ no_turn 8 j c.loop.rest.now c.in_err-rest.ensures
    ∙ ap (λ i. entries_first 8 (suc i) c.loop.rest.now) (sym e)
    ∙ c.loop.invariant

pub loop-preserved : goal.loop-preserved
loop-preserved c =
    let n = c.loop.counter in
    let j = c.args.k - (n + 1) in
    let e : c.args.k - n ≡ suc j = omega arith in
    turn 8 j c.loop.rest.now c.in_ok-rest.rest.now c.in_ok-rest.ensures
    ∙ ap (λ i. entries_first 8 (suc i) c.loop.rest.now) (sym e)
    ∙ c.loop.invariant

pub returns : goal.returns
returns c =
    let e : c.args.k - c.loop.counter ≡ 0 = omega arith in
    c.behind_field-2.ensures
    ∙ ended 8 c.loop.rest.now
    ∙ ap (λ i. entries_first 8 (suc i) c.loop.rest.now) (sym e)
    ∙ c.loop.invariant
