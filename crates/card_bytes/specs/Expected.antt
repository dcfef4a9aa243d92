-- What is expected of a card that is written again: the card, but 7fc00000 at the places that a line names. Definitions only.
use Rattle.std.specs.Prelude.{cond, List, [], ◌∷◌, ℕ, zero, suc, ◌+◌, ltb, length}
use Rattle.std.proofs.lemmas.List.Edits.{sets}
use Rattle.lines.specs.Word.{word_at, lost}

-- `7fc00000`
abbrev pub quiet_text : List ℕ
quiet_text = 55 ∷ 102 ∷ 99 ∷ 48 ∷ 48 ∷ 48 ∷ 48 ∷ 48 ∷ []

-- the text t with 7fc00000 at the place that the word at a position names; as it is where it has no such place
unfoldable pub text_after : List ℕ → ℕ → List ℕ → List ℕ
text_after s at t = cond (ltb (length t) ((word_at s at).bits + 8)) t (sets t (word_at s at).bits quiet_text)

-- the position behind that word; where a text of so many bytes has no such place the line is lost
unfoldable pub word_after : List ℕ → ℕ → ℕ → ℕ
word_after s at len = cond (ltb len ((word_at s at).bits + 8)) lost.next (word_at s at).next

-- the position behind n such words
unfoldable pub words_after : List ℕ → ℕ → ℕ → ℕ → ℕ
words_after s at len zero = at
words_after s at len (suc n) = word_after s (words_after s at len n) len

-- the text with 7fc00000 at the places that they name
unfoldable pub texts_after : List ℕ → ℕ → List ℕ → ℕ → List ℕ
texts_after s at t zero = t
texts_after s at t (suc n) = text_after s (words_after s at (length t) n) (texts_after s at t n)

-- what is expected of a card, where the word at a position says how many places there are and those behind it where; with more places than bytes it is the card, and the line is lost
unfoldable pub expected_text : List ℕ → ℕ → List ℕ → List ℕ
expected_text s at card =
    let w = word_at s at in
    cond (ltb (length card) w.bits) card (texts_after s w.next card w.bits)

-- the position behind these words
unfoldable pub expected_next : List ℕ → ℕ → ℕ → ℕ
expected_next s at len =
    let w = word_at s at in
    cond (ltb len w.bits) lost.next (words_after s w.next len w.bits)
