-- Whether buffers hold their matrices, asked all at once. Definitions only.
use Rattle.std.specs.Prelude.{Bool, ◌&&◌, List, [], ◌∷◌, leb}
use Rattle.answers.specs.Tests.{Lent}

-- whether each of these does, where it was so far
abbrev pub all_fit : Bool → List Lent → Bool
all_fit so [] = so
all_fit so (b ∷ bs) = all_fit (so && leb b.cells b.len) bs
