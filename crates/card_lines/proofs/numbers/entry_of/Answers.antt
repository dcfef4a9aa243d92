-- A digit more makes the number sixteen times as large and is added (`entry_more`), and there is room for eight of them (`entry_fits`).
use Rattle.std.proofs.Common.{arith, take, refl, length-take-le}
use Rattle.card_text.specs.Values.{spelt_from}
use Rattle.card_lines.proofs.Entering.{each, entry_room, entry_small, entry_fits, entry_more}
use Rattle.card_lines.proofs.numbers.entry_of.Goals as goal

pub loop-b-init : goal.loop-b-init
unfolding spelt_from
loop-b-init c = record { small = omega arith; spelt = refl }

pub overflow_mul-n : goal.overflow_mul-n
overflow_mul-n c =
    let l = length-take-le 8 c.args.text.now c.requires.0 in
    omega (arith, entry_room 8 c.loop-b.n c.loop-b.b-index (omega arith) c.loop-b.invariant.small)

pub worth-requires : goal.worth-requires
worth-requires c = each (take 8 c.args.text.now) c.loop-b.b-index c.requires.1 (omega arith)

pub overflow_add-n : goal.overflow_add-n
overflow_add-n c =
    omega (arith, entry_fits (take 8 c.args.text.now) c.requires.1 c.loop-b.b-index (omega arith) c.loop-b.n c.worth.result c.worth.ensures c.loop-b.invariant.small 8 (length-take-le 8 c.args.text.now c.requires.0))

pub loop-b-preserved : goal.loop-b-preserved
loop-b-preserved c =
    let t = take 8 c.args.text.now in
    let i = c.loop-b.invariant in
    record {
      small = entry_small t c.requires.1 c.loop-b.b-index (omega arith) c.loop-b.n c.worth.result c.worth.ensures i.small;
      spelt = entry_more t c.requires.1 c.loop-b.b-index (omega arith) c.loop-b.n c.worth.result c.worth.ensures i.small i.spelt;
    }
