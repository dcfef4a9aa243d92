-- What the functions find at the front of a text, the rest of a card: R34's lines, one at a time. Definitions only.
use Rattle.std.specs.Prelude.{Bool, true, ◌&&◌, cond, List, ℕ, zero, suc, eqb, ltb, length, get_or, take, drop, Option, Some, None, option_map}
use Rattle.std.specs.Borrow.{Bor}
use Rattle.card_text.specs.Lines.{ends, first_line, behind_line}
use Rattle.card_text.specs.Values.{is_count, number_in, are_digits, are_entries}
use Rattle.card_text.specs.Card.{count_line, count_of, entries_line}

-- a number with the text that goes on behind it
abbrev pub with_rest : Option (ℕ × Bor (List ℕ)) → Option (ℕ × List ℕ)
with_rest r = option_map (λ p. (p.0, p.1.now)) r

-- the count in the first line, which begins with the key, and what stands behind the line
unfoldable pub counted : List ℕ → List ℕ → Option (ℕ × List ℕ)
counted key t = cond (count_line key t) (Some (count_of key t, behind_line t)) None

-- the same from behind the key on
unfoldable pub count_first : List ℕ → Option (ℕ × List ℕ)
count_first t = cond (ends t && is_count (first_line t)) (Some (number_in (first_line t), behind_line t)) None

-- what stands behind the first line, where that is the key and k entries of d digits
unfoldable pub found : ℕ → List ℕ → ℕ → List ℕ → Option (List ℕ)
found d key k t = cond (entries_line d key k t) (Some (behind_line t)) None

-- the same from behind the key on
unfoldable pub entries_first : ℕ → ℕ → List ℕ → Option (List ℕ)
entries_first d k t = cond (ends t && are_entries d k (first_line t)) (Some (behind_line t)) None

-- the text begins with d digits and then the byte c
unfoldable pub field : ℕ → ℕ → List ℕ → Bool
field d c t = are_digits (take d t) && eqb (get_or t d 0) c

-- what stands behind these
unfoldable pub field_first : ℕ → ℕ → List ℕ → Option (List ℕ)
unfolding field
field_first d c t = cond (field d c t) (Some (drop (suc d) t)) None

-- the text begins with k times d digits and a byte
unfoldable pub fields : ℕ → ℕ → List ℕ → Bool
fields d zero t = true
fields d (suc k) t = are_digits (take d t) && (ltb d (length t) && fields d k (drop (suc d) t))
