-- `put_line_words` meets its contract: the bytes that are put are the words of that line; from 8 on all lines have the same. Assumes nothing.
use mathlib.Core.Path.{sym, ap}
use borrow.Author.Rules.{rules}
use Rattle.card_words.specs.Words.{bytes_of, line_words}
use Rattle.card_words.proofs.Wording.{put, surplus}
use Rattle.card_words.proofs.words.put_line_words.Statement.{statement}
use Rattle.card_words.proofs.words.put_line_words.Tie as tie

put_bytes-requires : tie.Need-put_bytes-requires
put_bytes-requires c κs = search rules

put_bytes-requires-in-2 : tie.Need-put_bytes-requires-in-2
put_bytes-requires-in-2 c κs = search rules

put_bytes-requires-in-3 : tie.Need-put_bytes-requires-in-3
put_bytes-requires-in-3 c κs = search rules

put_bytes-requires-in-4 : tie.Need-put_bytes-requires-in-4
put_bytes-requires-in-4 c κs = search rules

put_bytes-requires-in-5 : tie.Need-put_bytes-requires-in-5
put_bytes-requires-in-5 c κs = search rules

put_bytes-requires-in-6 : tie.Need-put_bytes-requires-in-6
put_bytes-requires-in-6 c κs = search rules

put_bytes-requires-in-7 : tie.Need-put_bytes-requires-in-7
put_bytes-requires-in-7 c κs = search rules

put_bytes-requires-in_default : tie.Need-put_bytes-requires-in_default
put_bytes-requires-in_default c κs = search rules

shape_of-out-in-1 : tie.Need-shape_of-out-in-1
shape_of-out-in-1 c = search rules

returns-in-1 : tie.Need-returns-in-1
unfolding line_words bytes_of
returns-in-1 c = put _ _ _ _ _ (ap line_words (sym c.in-1.is)) c.put_bytes.ensures.0 c.put_bytes.ensures.1

shape_of-out-in-2 : tie.Need-shape_of-out-in-2
shape_of-out-in-2 c = search rules

returns-in-2 : tie.Need-returns-in-2
unfolding line_words bytes_of
returns-in-2 c = put _ _ _ _ _ (ap line_words (sym c.in-2.is)) c.put_bytes-in-2.ensures.0 c.put_bytes-in-2.ensures.1

shape_of-out-in-3 : tie.Need-shape_of-out-in-3
shape_of-out-in-3 c = search rules

returns-in-3 : tie.Need-returns-in-3
unfolding line_words bytes_of
returns-in-3 c = put _ _ _ _ _ (ap line_words (sym c.in-3.is)) c.put_bytes-in-3.ensures.0 c.put_bytes-in-3.ensures.1

shape_of-out-in-4 : tie.Need-shape_of-out-in-4
shape_of-out-in-4 c = search rules

returns-in-4 : tie.Need-returns-in-4
unfolding line_words bytes_of
returns-in-4 c = put _ _ _ _ _ (ap line_words (sym c.in-4.is)) c.put_bytes-in-4.ensures.0 c.put_bytes-in-4.ensures.1

shape_of-out-in-5 : tie.Need-shape_of-out-in-5
shape_of-out-in-5 c = search rules

returns-in-5 : tie.Need-returns-in-5
unfolding line_words bytes_of
returns-in-5 c = put _ _ _ _ _ (ap line_words (sym c.in-5.is)) c.put_bytes-in-5.ensures.0 c.put_bytes-in-5.ensures.1

shape_of-out-in-6 : tie.Need-shape_of-out-in-6
shape_of-out-in-6 c = search rules

returns-in-6 : tie.Need-returns-in-6
unfolding line_words bytes_of
returns-in-6 c = put _ _ _ _ _ (ap line_words (sym c.in-6.is)) c.put_bytes-in-6.ensures.0 c.put_bytes-in-6.ensures.1

shape_of-out-in-7 : tie.Need-shape_of-out-in-7
shape_of-out-in-7 c = search rules

returns-in-7 : tie.Need-returns-in-7
unfolding line_words bytes_of
returns-in-7 c = put _ _ _ _ _ (ap line_words (sym c.in-7.is)) c.put_bytes-in-7.ensures.0 c.put_bytes-in-7.ensures.1

shape_of-out-in_default : tie.Need-shape_of-out-in_default
shape_of-out-in_default c = search rules

returns-in_default : tie.Need-returns-in_default
unfolding line_words bytes_of
returns-in_default c =
    let n = c.in_default.in_default-own.rest in
    put _ _ _ _ _ (sym (surplus _ n.0.0.0.0.0.0.1 n.0.0.0.0.0.1 n.0.0.0.0.1 n.0.0.0.1 n.0.0.1 n.0.1 n.1)) c.put_bytes-in_default.ensures.0 c.put_bytes-in_default.ensures.1

pub put_line_words_spec : {M : Type 1} → statement M
put_line_words_spec =
    tie.close
    (tie.spec
    put_bytes-requires
    put_bytes-requires-in-2
    put_bytes-requires-in-3
    put_bytes-requires-in-4
    put_bytes-requires-in-5
    put_bytes-requires-in-6
    put_bytes-requires-in-7
    put_bytes-requires-in_default
    shape_of-out-in-1
    returns-in-1
    shape_of-out-in-2
    returns-in-2
    shape_of-out-in-3
    returns-in-3
    shape_of-out-in-4
    returns-in-4
    shape_of-out-in-5
    returns-in-5
    shape_of-out-in-6
    returns-in-6
    shape_of-out-in-7
    returns-in-7
    shape_of-out-in_default
    returns-in_default)
