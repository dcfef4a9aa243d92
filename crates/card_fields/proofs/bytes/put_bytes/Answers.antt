-- What is copied over a part of the buffer is put there.
use Rattle.std.proofs.Common.{arith}
use Rattle.card_fields.proofs.Laid.{copied}
use Rattle.card_fields.proofs.bytes.put_bytes.Goals as goal

pub returns-clause-put : goal.returns-clause-put
returns-clause-put c = copied c.args.into.now c.copy_from_slice.new.self c.args.bytes.now c.args.at _ c.copy_from_slice.ensures.after (omega arith) c.requires
