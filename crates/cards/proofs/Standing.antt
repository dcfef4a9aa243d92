-- Where the entries of a line stand: behind its key a line that is right has its entries, each with a byte behind it, and then the next line begins.
-- Assumes nothing.
use mathlib.Core.Path.{◌≡◌, refl, sym, ap, ◌∙◌}
use mathlib.Core.Bool.{true, false, and-eq-true_iff}
use mathlib.Core.List.{List, ◌∷◌}
use Prim.Native.Nat.{ℕ, suc, ◌*◌, ◌-◌, ◌≤◌}
use native.Mathlib.Omega.{arith}
use lib.ListN.{length, take, drop, length-append}
use Rattle.card_text.specs.Lines.{newline, ends, first_line, behind_line}
use Rattle.card_text.specs.Values.{begins, are_entries, entries_in}
use Rattle.card_text.specs.Card.{keyed, value_of, entries_line, entries_of}
use Rattle.card_text.proofs.Lines.{cut, behind-behind}
use Rattle.card_text.proofs.Keys.{begins_is, keyed_by, value_by, keyed-begins}
use Rattle.card_text.proofs.Entries.{entries-length, entries-front, past}
use Rattle.card_lines.specs.Front.{fields}
use Rattle.card_lines.proofs.Fields.{entries-fields}
use Rattle.card_lines.proofs.Told.{entries-keyed}
use Rattle.cards.proofs.Filling.{part}

module _ (d k : ℕ) (key t : List ℕ) (plain : ends key ≡ false) (right : entries_line d key k t ≡ true) where
  keyed-line : keyed key t ≡ true
  keyed-line = entries-keyed d k key t right

  begun : begins key t ≡ true
  begun = keyed-begins key t keyed-line

  -- the text behind the key
  abbrev v : List ℕ
  v = drop (length key) t

  ended : ends v ≡ true
  ended = sym (keyed_by key t plain begun) ∙ keyed-line

  are : are_entries d k (first_line v) ≡ true
  unfolding entries_line
  are = ap (are_entries d k) (sym (value_by key t plain begun)) ∙ ((and-eq-true_iff (keyed key t) (are_entries d k (value_of key t))).0 right).1

  here : fields d k v ≡ true
  here = ap (fields d k) (cut v ended) ∙ entries-fields d k (first_line v) (behind_line v) are

  says : entries_in d k v ≡ entries_of d key k t
  unfolding entries_of
  says =
      ap (entries_in d k) (cut v ended)
      ∙ entries-front d k (first_line v) (newline ∷ behind_line v) are
      ∙ ap (entries_in d k) (sym (value_by key t plain begun))

  -- behind the entries the next line begins
  rest : drop (k * suc d) v ≡ behind_line t
  rest =
      ap (λ (n : ℕ). drop n v) (sym (entries-length d k (first_line v) are))
      ∙ ap (drop (suc (length (first_line v)))) (cut v ended)
      ∙ past (first_line v) newline (behind_line v) (length (first_line v)) refl
      ∙ sym (ap behind_line (begins_is key t begun) ∙ behind-behind key v plain)

-- The same of a text u that is t: behind the key lies a part of it, and a text r behind the k entries there is what stands behind the line.
pub record Stands (d k : ℕ) (key t u : List ℕ) : Type 0 where
  pub within : length key ≤ length u
  pub fields_here : fields d k (take (length u - length key) (drop (length key) u)) ≡ true
  pub says_here : entries_in d k (take (length u - length key) (drop (length key) u)) ≡ entries_of d key k t
  pub next : (r : List ℕ) → r ≡ drop (k * suc d) (take (length u - length key) (drop (length key) u)) → r ≡ behind_line t

pub stands : (d k : ℕ) (key t : List ℕ) → ends key ≡ false → entries_line d key k t ≡ true → (u : List ℕ) → u ≡ t → Stands d k key t u
stands d k key t plain right u e =
    let p : take (length u - length key) (drop (length key) u) ≡ drop (length key) t = part (length key) u ∙ ap (drop (length key)) e in
    record {
      within = rw e (omega (arith, ap length (begins_is key t (begun d k key t plain right)), length-append key (drop (length key) t)));
      fields_here = ap (fields d k) p ∙ here d k key t plain right;
      says_here = ap (entries_in d k) p ∙ says d k key t plain right;
      next = λ r h. h ∙ ap (drop (k * suc d)) p ∙ rest d k key t plain right;
    }
