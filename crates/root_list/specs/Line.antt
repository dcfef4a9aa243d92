-- What a line of the list holds. Definitions only.
use Rattle.std.specs.Prelude.{Bool, true, false, Option, None, Some, List, ℕ, ◌+◌, eqb, get_or}
use Rattle.lines.specs.declared.words.Word.{Word}
use Rattle.lines.specs.Hex.{hex8_at}
use Rattle.root_list.specs.declared.line.Line.{Line}
use Rattle.root_list.specs.declared.line.Line.TheVariants.{Comment, Pair, Bad}

-- the first where the test holds, else the second
abbrev pub pick : Bool → Line → Line → Line
pick true a b = a
pick false a b = b

-- the pair, where the root ends with the line
abbrev pub ending : ℕ → ℕ → Option Word → Line
ending end arg (Some root) = pick (eqb root.next end) (Pair arg root.bits) Bad
ending end arg None = Bad

-- behind the argument a space (32), then the root
abbrev pub line_with_root : List ℕ → ℕ → Option Word → Line
line_with_root s end (Some arg) = pick (eqb (get_or s arg.next 0) 32) (ending end arg.bits (hex8_at s (arg.next + 1))) Bad
line_with_root s end None = Bad

-- the line from a position up to `end`: a comment where its first byte is `#` (35), else a pair or bad
abbrev pub line_of : List ℕ → ℕ → ℕ → Line
line_of s at end = pick (eqb (get_or s at 0) 35) Comment (line_with_root s end (hex8_at s at))
