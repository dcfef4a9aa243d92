-- A byte more is counted where it is no digit (`digits_more`); behind the loop each way out is a case of `proofs/Entering.antt`.
use Rattle.std.proofs.Common.{arith, length, take, drop, refl, ℕ, length-take, length-drop, take_all, ◌-◌}
use Rattle.card_text.specs.Values.{are_digits}
use Rattle.card_lines.proofs.Entering.{too_short, digits_more, all_looked, at_most_one, a_field, no_digit, another_end}
use Rattle.card_lines.proofs.eight.behind_field.Goals as goal
use Rattle.card_lines.proofs.eight.behind_field.Goals.{else-others-eq0-via-then-others-eq0+else-text-end, else-others-eq0-via-else-others-eq0}

pub returns-then-text-lt9 : goal.returns-then-text-lt9
returns-then-text-lt9 c = too_short 8 c.args.end c.args.text.now c.if-text-lt9.true c.requires

pub loop-b-init : goal.loop-b-init
unfolding are_digits
loop-b-init c = record { few = omega arith; none = refl }

pub overflow_add-others : goal.overflow_add-others
overflow_add-others c = let r = at_most_one _ c.other-others.result c.other-others.ensures in omega (arith, length-take {A = ℕ})

pub loop-b-preserved : goal.loop-b-preserved
loop-b-preserved c =
    let r = at_most_one _ c.other-others.result c.other-others.ensures in
    record {
      few = omega arith;
      none = digits_more _ c.loop-b.b-index c.loop-b.others c.other-others.result c.loop-b-test.true c.other-others.ensures c.loop-b.invariant.none;
    }

pub returns-then-text-end : goal.returns-then-text-end
returns-then-text-end c =
    let t = c.args.text.now in
    let e = all_looked (take 8 t) c.loop-b.b-index c.loop-b.others c.loop-b-test.false c.loop-b.invariant.none in
    a_field 8 c.args.end t c.loop-b.others e _ c.if-others-eq0.true c.if-text-end.true (take_all (length t - 9) (drop 9 t) (omega (arith, length-drop 9 t)))

pub returns-else-others-eq0 : goal.returns-else-others-eq0
returns-else-others-eq0 c =
    let e = all_looked (take 8 c.args.text.now) c.loop-b.b-index c.loop-b.others c.loop-b-test.false c.loop-b.invariant.none in
    elim c.else-others-eq0.branch [
      | else-others-eq0-via-then-others-eq0+else-text-end w ↦ another_end 8 c.args.end c.args.text.now c.loop-b.others e w.if-text-end.false
      | else-others-eq0-via-else-others-eq0 w ↦ no_digit 8 c.args.end c.args.text.now c.loop-b.others e w.if-others-eq0.false
    ]
