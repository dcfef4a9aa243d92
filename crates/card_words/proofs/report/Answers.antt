-- The words for a card that is refused, and for one that is taken what was written; the writer refuses none that was read.
use Rattle.std.proofs.Common.{arith}
use lib.Dec.{lit≤}
use Rattle.std.specs.Float.{binary32}
use Rattle.cards.proofs.RoundTrip.{eight}
use Rattle.card_words.proofs.Reporting.{words_put, card_put, not_refused}
use Rattle.card_words.proofs.report.Goals as goal

pub returns-in-Err : goal.returns-in-Err
returns-in-Err c =
    let r = words_put binary32 8 c.args.card.now c.read.ensures (lit≤ tt) (lit≤ tt) (lit≤ tt) (lit≤ tt) c.in-Err.why _ _ c.put_words.result c.in-Err.is c.put_words.ensures.long c.put_words.ensures.put in
    record { fits = r.0; long = r.1.0; put = r.1.1 }

pub returns-in-Ok-write : goal.returns-in-Ok-write
returns-in-Ok-write c =
    let r = card_put binary32 8 c.args.card.now c.read.ensures (lit≤ tt) (lit≤ tt) (lit≤ tt) (lit≤ tt) c.in-Ok.n c.in-Ok.m c.in-Ok.is c.write.ensures c.requires c.in-Ok-write.l eight c.in-Ok-write.is in
    record { fits = r.0; long = r.1.0; put = r.1.1 }

pub returns-in-Err-write : goal.returns-in-Err-write
returns-in-Err-write c =
    absurd (not_refused binary32 8 c.args.card.now c.read.ensures (lit≤ tt) (lit≤ tt) (lit≤ tt) (lit≤ tt) c.in-Ok.n c.in-Ok.m c.in-Ok.is c.write.ensures c.requires c.in-Err-write.why c.in-Err-write.is (omega arith) (omega arith) (omega arith) (omega arith))
