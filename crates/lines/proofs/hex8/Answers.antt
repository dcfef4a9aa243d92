-- A digit that is none or past the end ends the reading, and each that is one makes the number 16 times as large and is added.
use Rattle.std.proofs.Common.{◌≡◌, ◌+◌, ◌-◌, ◌*◌, ◌<◌, arith, sym, ap, ◌∙◌, subst}
use Rattle.std.specs.Prelude.{Some}
use Rattle.lines.specs.Hex.{digit_of, digits_from}
use Rattle.lines.proofs.Digits.{too_short, no_digit, all_read, part_byte, turn_fits, read_more, room_more}
use Rattle.lines.proofs.hex8.Goals as goal

pub returns-in_err-get : goal.returns-in_err-get
returns-in_err-get c = c.from_residual.ensures ∙ too_short 8 0 _ _ (omega arith) (omega (arith, c.in_err-get.ensures.lookup))

pub returns-in_err-digits : goal.returns-in_err-digits
returns-in_err-digits c = c.from_residual-in_err-digits.ensures ∙ too_short 8 0 _ _ (omega arith) (omega (arith, c.in_err-digits.ensures.lookup, c.in_ok-get.ensures.lookup))

pub returns-in_err-bits : goal.returns-in_err-bits
returns-in_err-bits c =
    let b = part_byte c.args.s.now c.in_ok-get.field-0.now c.in_ok-digits.digits.now c.args.at c.loop-b.b-index c.in_ok-get.ensures.lookup.0.2 c.in_ok-digits.ensures.lookup.0.2 (omega (arith, c.in_ok-get.ensures.lookup, c.in_ok-digits.ensures.lookup)) (omega (arith, c.in_ok-get.ensures.lookup, c.in_ok-digits.ensures.lookup)) in
    c.from_residual-in_err-bits.ensures ∙ no_digit _ _ _ _ (omega (arith, c.in_ok-digits.ensures.lookup)) (ap digit_of (sym b) ∙ c.in_err-bits.ensures) ∙ c.loop-b.invariant.same

pub overflow_mul-bits : goal.overflow_mul-bits
overflow_mul-bits c =
    let f : c.loop-b.bits * 16 + 0 < 4294967296 = turn_fits _ 0 (8 - c.loop-b.b-index) (omega arith) (omega (arith, c.in_ok-digits.ensures.lookup)) c.loop-b.invariant.room in
    omega arith

pub loop-b-preserved : goal.loop-b-preserved
loop-b-preserved c =
    let b = part_byte c.args.s.now c.in_ok-get.field-0.now c.in_ok-digits.digits.now c.args.at c.loop-b.b-index c.in_ok-get.ensures.lookup.0.2 c.in_ok-digits.ensures.lookup.0.2 (omega (arith, c.in_ok-get.ensures.lookup, c.in_ok-digits.ensures.lookup)) (omega (arith, c.in_ok-get.ensures.lookup, c.in_ok-digits.ensures.lookup)) in
    let inside : c.loop-b.b-index < 8 = omega (arith, c.in_ok-digits.ensures.lookup) in
    record {
      same = read_more c.args.s.now _ _ _ _ inside c.in_ok-bits.ensures.0 _ (c.in_ok-bits.ensures.1 ∙ ap digit_of b) c.loop-b.invariant.same;
      room = room_more c.args.s.now c.args.at _ _ _ inside c.in_ok-bits.ensures.0 c.loop-b.invariant.room;
    }

pub returns : goal.returns
returns c =
    let none_left : 8 - c.loop-b.b-index ≡ 0 = omega (arith, c.in_ok-digits.ensures.lookup) in
    let all : c.args.at + c.loop-b.b-index ≡ c.args.at + 8 = omega (arith, c.in_ok-digits.ensures.lookup) in
    subst (λ p. Some (record { bits = c.loop-b.bits; next = p }) ≡ digits_from 8 0 c.args.s.now c.args.at) all (all_read (8 - c.loop-b.b-index) _ c.args.s.now _ (omega arith) ∙ c.loop-b.invariant.same)
