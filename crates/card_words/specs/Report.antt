-- What the fitter's tool says of a text (R36). Definitions only.
use Rattle.std.specs.Prelude.{cond, List, ℕ}
use Rattle.std.specs.Float.{Format}
use Rattle.answers.specs.Answers.{is_done}
use Rattle.card_text.specs.Card.{card_answer}
use Rattle.card_text.specs.Spelling.{card_text, held}
use Rattle.card_text.specs.Said.{said_again}
use Rattle.card_words.specs.Words.{words_of}

-- a card that is taken comes back, as it is read and written again (R35); of another its first fault is told
unfoldable pub report_of : Format → ℕ → List ℕ → List ℕ
report_of f d s = cond (is_done (card_answer d s)) (card_text d (said_again f (held d s))) (words_of (card_answer d s))
