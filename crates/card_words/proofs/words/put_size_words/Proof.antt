-- `put_size_words` meets its contract: the bytes that are put are the words of that size. Assumes nothing.
use mathlib.Core.Path.{sym, ap}
use borrow.Author.Rules.{rules}
use Rattle.card_words.specs.Words.{bytes_of, size_words}
use Rattle.card_words.proofs.Wording.{put, other_size}
use Rattle.card_words.proofs.words.put_size_words.Statement.{statement}
use Rattle.card_words.proofs.words.put_size_words.Tie as tie

put_bytes-requires : tie.Need-put_bytes-requires
put_bytes-requires c κs = search rules

put_bytes-requires-else-k-eq0 : tie.Need-put_bytes-requires-else-k-eq0
put_bytes-requires-else-k-eq0 c κs = search rules

shape_of-out-then-k-eq0 : tie.Need-shape_of-out-then-k-eq0
shape_of-out-then-k-eq0 c = search rules

returns-then-k-eq0 : tie.Need-returns-then-k-eq0
unfolding size_words bytes_of
returns-then-k-eq0 c = put _ _ _ _ _ (ap size_words (sym c.if-k-eq0.true)) c.put_bytes.ensures.0 c.put_bytes.ensures.1

shape_of-out-else-k-eq0 : tie.Need-shape_of-out-else-k-eq0
shape_of-out-else-k-eq0 c = search rules

returns-else-k-eq0 : tie.Need-returns-else-k-eq0
unfolding size_words bytes_of
returns-else-k-eq0 c = put _ _ _ _ _ (sym (other_size _ c.if-k-eq0.false)) c.put_bytes-else-k-eq0.ensures.0 c.put_bytes-else-k-eq0.ensures.1

pub put_size_words_spec : {M : Type 1} → statement M
put_size_words_spec =
    tie.close
    (tie.spec
    put_bytes-requires
    put_bytes-requires-else-k-eq0
    shape_of-out-then-k-eq0
    returns-then-k-eq0
    shape_of-out-else-k-eq0
    returns-else-k-eq0)
