-- The key, and behind it the digits and the newline (`proofs/Lining.antt`).
use Rattle.card_spelling.proofs.Lining.{one_put, two_put}
use Rattle.card_spelling.proofs.counts.put_count_line.Goals as goal

pub returns-then-n-lt10-clause-put : goal.returns-then-n-lt10-clause-put
returns-then-n-lt10-clause-put c =
    let a = c.args in
    let b = c.put_bytes-p in
    one_put a.key.now a.at b.result a.n b.ensures.behind a.into.now b.new.into c.put_bytes.new.into b.ensures.put c.if-n-lt10.true c.digit.result c.digit.ensures c.put_bytes.ensures.put

pub returns-else-n-lt10-clause-put : goal.returns-else-n-lt10-clause-put
returns-else-n-lt10-clause-put c =
    let a = c.args in
    let b = c.put_bytes-p in
    two_put a.key.now a.at b.result a.n b.ensures.behind a.into.now b.new.into c.put_bytes-else-n-lt10.new.into b.ensures.put c.if-n-lt10.false c.digit-else-n-lt10.result c.digit-else-n-lt10-2.result c.digit-else-n-lt10.ensures c.digit-else-n-lt10-2.ensures c.put_bytes-else-n-lt10.ensures.put
