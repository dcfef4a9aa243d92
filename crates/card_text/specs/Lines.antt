-- The lines of a text, which is a list of bytes (R34). Definitions only.
use Rattle.std.specs.Prelude.{◌≡◌, Bool, false, ◌||◌, cond, List, [], ◌∷◌, ℕ, zero, suc, ◌<◌, eqb}

-- the byte that ends a line
abbrev pub newline : ℕ
newline = 10

-- the first line of the text is there: a newline ends it
unfoldable pub ends : List ℕ → Bool
ends [] = false
ends (b ∷ t) = eqb b newline || ends t

-- the first line: the bytes before the first newline
unfoldable pub first_line : List ℕ → List ℕ
first_line [] = []
first_line (b ∷ t) = cond (eqb b newline) [] (b ∷ first_line t)

-- what stands behind the first line: the bytes behind the first newline, and nothing where there is none
unfoldable pub behind_line : List ℕ → List ℕ
behind_line [] = []
behind_line (b ∷ t) = cond (eqb b newline) t (behind_line t)

-- what stands behind the first k lines
unfoldable pub behind_lines : ℕ → List ℕ → List ℕ
unfolding behind_line
behind_lines zero t = t
behind_lines (suc k) t = behind_line (behind_lines k t)

-- the first lines of two texts are the same, with whether they are ended
abbrev pub SameLine : List ℕ → List ℕ → Type 0
SameLine s t = (ends s ≡ ends t) × (first_line s ≡ first_line t)

-- the first k lines of two texts are
abbrev pub SameLines : ℕ → List ℕ → List ℕ → Type 0
SameLines k s t = (j : ℕ) → j < k → SameLine (behind_lines j s) (behind_lines j t)
