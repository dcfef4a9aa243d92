-- A line, spelt and read: of the key, a value and a newline it is the key's line with that value, and a line that is keyed is its key, its value and a newline.
-- By the laws of lines (Lines) and of what begins them (Keys), first for any value, then for a count (Counts) and for entries (Patterns). Assumes nothing.
use mathlib.Core.Path.{◌≡◌, sym, ap, ◌∙◌}
use mathlib.Core.Bool.{true, false, and-eq-true_iff}
use mathlib.Core.List.{List, ◌∷◌, ◌++◌, append_assoc}
use Prim.Native.Nat.{ℕ, ◌≤◌, ◌<◌}
use lib.Seq.{drop-append_seam}
use Rattle.card_text.specs.Lines.{newline, ends, first_line, behind_line}
use Rattle.card_text.specs.Values.{are_entries}
use Rattle.card_text.specs.Card.{keyed, value_of, count_line, count_of, entries_line, entries_of}
use Rattle.card_text.specs.Spelling.{count_text, entries_text, line, Patterns}
use Rattle.card_text.proofs.Lines.{cut, ends-behind, ends_at, first_at, behind_at}
use Rattle.card_text.proofs.Keys.{begins_is, begins_key}
use Rattle.card_text.proofs.Counts.{count_plain, count_is, count_says, count_text_lem}
use Rattle.card_text.proofs.Patterns.{entries_plain, entries-are, entries_say, entries-text, entries-patterns}

-- ---- any value

module _ (key value t : List ℕ) (k : ends key ≡ false) (v : ends value ≡ false) where
  -- the bytes before the newline
  together : line key value t ≡ (key ++ value) ++ (newline ∷ t)
  together = sym (append_assoc key value (newline ∷ t))

  plain : ends (key ++ value) ≡ false
  plain = ends-behind key value k ∙ v

  first-spelt : first_line (line key value t) ≡ key ++ value
  first-spelt = rw together (first_at (key ++ value) t plain)

  keyed-spelt : keyed key (line key value t) ≡ true
  keyed-spelt = rw first-spelt (rw (together, ends_at (key ++ value) t plain) (begins_key key value))

  value_spelt : value_of key (line key value t) ≡ value
  value_spelt = rw first-spelt (drop-append_seam key value)

  behind-spelt : behind_line (line key value t) ≡ t
  behind-spelt = rw together (behind_at (key ++ value) t plain)

keyed-text : (key t : List ℕ) → keyed key t ≡ true → t ≡ line key (value_of key t) (behind_line t)
keyed-text key t e =
    let both = (and-eq-true_iff _ _).0 e in
    cut t both.0 ∙ ap (λ (l : List ℕ). l ++ (newline ∷ behind_line t)) (begins_is key (first_line t) both.1) ∙ append_assoc key (value_of key t) (newline ∷ behind_line t)

-- ---- a count

module _ (key : List ℕ) (n : ℕ) (t : List ℕ) (k : ends key ≡ false) where
  -- what stands behind the line of a count,
  pub count_behind : behind_line (line key (count_text n) t) ≡ t
  count_behind = behind-spelt key (count_text n) t k (count_plain n)

  module _ (h : n < 100) where
    -- it is such a line,
    pub count_line_lem : count_line key (line key (count_text n) t) ≡ true
    unfolding count_line
    count_line_lem = rw (keyed-spelt key (count_text n) t k (count_plain n), value_spelt key (count_text n) t k (count_plain n)) (count_is n h)

    -- and says the count
    pub count_of_lem : count_of key (line key (count_text n) t) ≡ n
    unfolding count_of
    count_of_lem = rw (value_spelt key (count_text n) t k (count_plain n)) (count_says n h)

module _ (key t : List ℕ) (e : count_line key t ≡ true) where
  -- a line that is a key and a count is the spelling of what it says ..
  pub count_line_text : t ≡ line key (count_text (count_of key t)) (behind_line t)
  unfolding count_line count_of
  count_line_text =
      let both = (and-eq-true_iff _ _).0 e in
      keyed-text key t both.0 ∙ ap (λ (l : List ℕ). line key l (behind_line t)) (count_text_lem (value_of key t) both.1)

-- ---- entries

module _ (d : ℕ) (key : List ℕ) (es t : List ℕ) (k : ends key ≡ false) where
  -- what stands behind the line of entries,
  pub entries-behind : behind_line (line key (entries_text d es) t) ≡ t
  entries-behind = behind-spelt key (entries_text d es) t k (entries_plain d es)

  module _ (n : ℕ) (some : 1 ≤ n) (h : Patterns d n es) where
    -- it is such a line,
    pub entries-line : entries_line d key n (line key (entries_text d es) t) ≡ true
    unfolding entries_line
    entries-line = rw (keyed-spelt key (entries_text d es) t k (entries_plain d es), value_spelt key (entries_text d es) t k (entries_plain d es)) (entries-are d n some es h.0)

    -- and says the patterns
    pub entries_of_lem : entries_of d key n (line key (entries_text d es) t) ≡ es
    unfolding entries_of
    entries_of_lem = rw (value_spelt key (entries_text d es) t k (entries_plain d es)) (entries_say d n some es h)

module _ (d : ℕ) (key : List ℕ) (n : ℕ) (t : List ℕ) (e : entries_line d key n t ≡ true) where
  both : (keyed key t ≡ true) × (are_entries d n (value_of key t) ≡ true)
  unfolding entries_line
  both = (and-eq-true_iff _ _).0 e

  -- a line that is a key and n entries is the spelling of what it says ..
  pub entries_line_text : t ≡ line key (entries_text d (entries_of d key n t)) (behind_line t)
  unfolding entries_of
  entries_line_text = keyed-text key t both.0 ∙ ap (λ (l : List ℕ). line key l (behind_line t)) (entries-text d n (value_of key t) both.1)

  -- .. and that is n patterns
  pub entries_line_patterns : Patterns d n (entries_of d key n t)
  unfolding entries_of
  entries_line_patterns = entries-patterns d n (value_of key t) both.1
