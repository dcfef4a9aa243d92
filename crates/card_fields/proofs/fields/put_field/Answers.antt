-- The nine stores are the text of the entry and the byte behind it (`proofs/Digits.antt`).
use Rattle.std.proofs.Common.{arith}
use Rattle.card_fields.proofs.Digits.{eight}
use Rattle.card_fields.proofs.fields.put_field.Goals as goal

pub returns : goal.returns
returns c =
    eight c.args.e c.args.end (omega arith) c.digit.result c.digit-2.result c.digit-3.result c.digit-4.result c.digit-5.result c.digit-6.result c.digit-7.result c.digit-8.result
    c.digit.ensures
    c.digit-2.ensures
    c.digit-3.ensures
    c.digit-4.ensures
    c.digit-5.ensures
    c.digit-6.ensures
    c.digit-7.ensures
    c.digit-8.ensures
    c.args.into.now
    c.args.p
