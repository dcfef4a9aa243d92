-- What a fitter is told of a card that is refused (R36): one line of words. Definitions only.
use Rattle.std.specs.Prelude.{cond, List, [], ◌∷◌, ℕ, eqb, Ok, Err}
use Prim.Native.Char.{code}
use Prim.Native.String as string
use Prim.Native.String.{String}
use Rattle.answers.specs.declared.Refusal.TheVariants.{Size, Short, Range, Pivot, Line, Edition, NotFinite}
use Rattle.answers.specs.Answers.{Answer}

-- the bytes of a text, which has no letter beyond ASCII
unfoldable pub bytes_of : String → List ℕ
bytes_of string.[] = []
bytes_of (string.◌∷◌ c s) = code c ∷ bytes_of s

-- what is said of line k that is not as it must be; from 8 on it is surplus
unfoldable pub line_words : ℕ → List ℕ
unfolding bytes_of
line_words k =
    cond (eqb k 1) (bytes_of "line 1: edition is missing or wrong\n")
    (cond (eqb k 2) (bytes_of "line 2: states is missing or wrong\n")
    (cond (eqb k 3) (bytes_of "line 3: observations is missing or wrong\n")
    (cond (eqb k 4) (bytes_of "line 4: a is missing or wrong, or not followed by states*states entries of eight digits and a newline\n")
    (cond (eqb k 5) (bytes_of "line 5: q is missing or wrong, or not followed by states*states entries of eight digits and a newline\n")
    (cond (eqb k 6) (bytes_of "line 6: h is missing or wrong, or not followed by observations*states entries of eight digits and a newline\n")
    (cond (eqb k 7) (bytes_of "line 7: r is missing or wrong, or not followed by observations*observations entries of eight digits and a newline\n")
    (bytes_of "line 8: something stands behind the last line\n")))))))

-- of the states (0) or the observations (1) that are not 1 to 16
unfoldable pub size_words : ℕ → List ℕ
unfolding bytes_of
size_words k = cond (eqb k 0) (bytes_of "line 2: states is not 1 to 16\n") (bytes_of "line 3: observations is not 1 to 16\n")

-- of each refusal that a card can be given; the others have no words here
unfoldable pub words_of : Answer → List ℕ
unfolding bytes_of line_words size_words
words_of (Ok tt) = []
words_of (Err (Size k)) = size_words k
words_of (Err (Short k)) = []
words_of (Err (Range k)) = []
words_of (Err (Pivot k)) = []
words_of (Err (Line k)) = line_words k
words_of (Err Edition) = bytes_of "line 1: the edition is not 1\n"
words_of (Err NotFinite) = []
