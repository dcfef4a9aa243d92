-- The buffers of a correction as a line lends them. Definitions only.
use Rattle.std.specs.Prelude.{◌≡◌, ◌≤◌, length, take}
use Rattle.lists.specs.declared.call.Lent.{Lent}
use Rattle.correction_buffers.specs.declared.Buffers.{Buffers}

-- a buffer has the numbers that its length says; the second half says it of those that are handed out
abbrev pub Holds : Lent → Type 0
Holds l = (l.len ≤ length l.cells) × (l.len ≡ length (take l.len l.cells))

-- each of the twelve does
abbrev pub Fit : Buffers → Type 0
Fit b = Holds b.x × Holds b.p × Holds b.h × Holds b.z × Holds b.r × Holds b.y × Holds b.s × Holds b.k × Holds b.inverse × Holds b.hp × Holds b.pht × Holds b.khp
