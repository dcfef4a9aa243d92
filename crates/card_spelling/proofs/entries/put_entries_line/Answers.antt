-- The key, and behind it the entries and the newline.
use Rattle.card_fields.proofs.Laid.{then_text}
use Rattle.card_spelling.proofs.entries.put_entries_line.Goals as goal

pub returns-clause-put : goal.returns-clause-put
returns-clause-put c =
    let a = c.args in
    let b = c.put_bytes-p in
    then_text a.into.now b.new.into a.at b.result a.key.now b.ensures.put b.ensures.behind c.put_entries.new.into _ c.put_entries.ensures.put
