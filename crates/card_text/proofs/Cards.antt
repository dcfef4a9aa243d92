-- What some texts are answered with, entries having two digits: the smallest card, and the smallest changes that each rule turns on. By computation. Assumes nothing.
use mathlib.Core.Path.{◌≡◌, refl}
use mathlib.Core.List.{List, [], ◌∷◌, ◌++◌}
use Prim.Native.Nat.{ℕ}
use Rattle.lines.specs.Hex.{digit_of}
use Rattle.std.proofs.Common.{Ok, Err}
use Rattle.answers.specs.declared.Refusal.TheVariants.{Size, Line, Edition}
use Rattle.card_text.specs.Lines.{ends, first_line, behind_line, behind_lines}
use Rattle.card_text.specs.Values.{begins, is_count, number_in, comma, are_digits, spelt_from, is_entry, are_entries, entries_in}
use Rattle.card_text.specs.Card.{edition_key, states_key, observations_key, a_key, q_key, h_key, r_key, count_line, count_of, entries_line, entries_of, a_of, card_answer}
use Rattle.card_text.specs.Spelling.{line}

-- `1`, `00` and `00,00`
abbrev one : List ℕ
one = 49 ∷ []

abbrev nought : List ℕ
nought = 48 ∷ 48 ∷ []

abbrev twice : List ℕ
twice = nought ++ (comma ∷ nought)

-- lines 1 to 3 with these values, and lines 4 to 7 with this one in line 4, each with a text behind
abbrev top : List ℕ → List ℕ → List ℕ → List ℕ → List ℕ
top e n m t = line edition_key e (line states_key n (line observations_key m t))

abbrev rest : List ℕ → List ℕ → List ℕ
rest a t = line a_key a (line q_key nought (line h_key nought (line r_key nought t)))

-- Each text and its answer, or what it holds.
pub examples :
    -- the smallest card, and one of two observations
    (card_answer 2 (top one one one (rest nought [])) ≡ Ok tt)
    × (card_answer 2 (top one one (50 ∷ []) (line a_key nought (line q_key nought (line h_key twice (line r_key (twice ++ (comma ∷ twice)) []))))) ≡ Ok tt)
    -- `a=10` says 16
    × (a_of 2 (top one one one (rest (49 ∷ 48 ∷ []) [])) ≡ 16 ∷ [])
    -- `edition=0`, `states=0`, `states=01`
    × (card_answer 2 (top (48 ∷ []) one one (rest nought [])) ≡ Err Edition)
    × (card_answer 2 (top one (48 ∷ []) one (rest nought [])) ≡ Err (Size 0))
    × (card_answer 2 (top one (48 ∷ 49 ∷ []) one (rest nought [])) ≡ Err (Line 2))
    -- `a=0A`, `a=0`
    × (card_answer 2 (top one one one (rest (48 ∷ 65 ∷ []) [])) ≡ Err (Line 4))
    × (card_answer 2 (top one one one (rest (48 ∷ []) [])) ≡ Err (Line 4))
    -- nothing behind line 3; line 5 before line 4
    × (card_answer 2 (top one one one []) ≡ Err (Line 4))
    × (card_answer 2 (top one one one (line q_key nought (line a_key nought (line h_key nought (line r_key nought []))))) ≡ Err (Line 4))
    -- no newline behind line 7; a byte behind it
    × (card_answer 2 (top one one one (line a_key nought (line q_key nought (line h_key nought (r_key ++ nought))))) ≡ Err (Line 7))
    × (card_answer 2 (top one one one (rest nought (48 ∷ []))) ≡ Err (Line 8))
unfolding digit_of ends first_line behind_line behind_lines begins is_count number_in are_digits spelt_from is_entry are_entries entries_in count_line count_of entries_line entries_of card_answer
examples = (refl, refl, refl, refl, refl, refl, refl, refl, refl, refl, refl, refl)
