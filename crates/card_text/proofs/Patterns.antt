-- Entries with commas between, spelt and read: a text is k entries exactly where it is the spelling of k patterns, and these are what it says.
-- Entry by entry from the first on; each is a law of one entry (Digits). Assumes nothing.
use mathlib.Core.Path.{◌≡◌, refl, sym, ap, ap₂, ◌∙◌, subst}
use mathlib.Core.Logic.{◌↔◌}
use mathlib.Core.Bool.{true, false, true≢false}
use mathlib.Core.List.{List, [], ◌∷◌, ◌++◌}
use Prim.Native.Nat.{ℕ, zero, suc, ◌^◌, ◌≤◌, ◌<◌}
use native.Mathlib.Nat.{le_of_eq}
use native.Mathlib.Omega.{arith}
use lib.ListN.{length, take, drop}
use lib.Seq.{take_all, take_at}
use Rattle.card_text.specs.Lines.{ends}
use Rattle.card_text.specs.Values.{comma, spelt_from, is_entry, are_entries, entries_in}
use Rattle.card_text.specs.Spelling.{entry_text, entries_text, AllBelow, Patterns}
use Rattle.card_text.proofs.Lines.{ends-behind}
use Rattle.card_text.proofs.Entries.{entry_is, entry_parts, more_are, more_first, more_rest, more_cut, past}
use Rattle.card_text.proofs.Digits.{entry_plain, entry_length, digits, entry_spells, entry_text_lem, entry_small}

-- ---- patterns and their spelling

module _ (d : ℕ) where
  -- there is no newline in the spelling of entries
  pub entries_plain : (es : List ℕ) → ends (entries_text d es) ≡ false
  unfolding ends entries_text
  entries_plain [] = refl
  entries_plain (e ∷ []) = entry_plain d e
  entries_plain (e ∷ c ∷ es) = ends-behind (entry_text d e) (comma ∷ entries_text d (c ∷ es)) (entry_plain d e) ∙ entries_plain (c ∷ es)

  -- the spelling of patterns is that many entries ..
  are : (e : ℕ) (es : List ℕ) → are_entries d (suc (length es)) (entries_text d (e ∷ es)) ≡ true
  unfolding are_entries entries_text
  are e [] = entry_is d (entry_text d e) (entry_length d e) (digits d e)
  are e (c ∷ es) = more_are d (length es) (entry_text d e) (entries_text d (c ∷ es)) (entry_length d e) (digits d e) ∙ are c es

  -- .. that say the patterns
  say : (e : ℕ) (es : List ℕ) → AllBelow (16 ^ d) (e ∷ es) → entries_in d (suc (length es)) (entries_text d (e ∷ es)) ≡ e ∷ es
  unfolding entries_in entries_text
  say e [] h = rw (take_all d (entry_text d e) (omega (arith, entry_length d e)), entry_spells d e h.0)
  say e (c ∷ es) h =
      rw (take_at (entry_text d e) (comma ∷ entries_text d (c ∷ es)) d (entry_length d e), entry_spells d e h.0, past (entry_text d e) comma (entries_text d (c ∷ es)) d (entry_length d e))
      (ap (λ (l : List ℕ). e ∷ l) (say c es h.1))

  module _ (k : ℕ) (some : 1 ≤ k) where
    -- The spelling of k numbers is k entries ..
    pub entries-are : (es : List ℕ) → length es ≡ k → are_entries d k (entries_text d es) ≡ true
    entries-are [] h = absurd (omega arith)
    entries-are (e ∷ es) h = subst (λ (x : ℕ). are_entries d x (entries_text d (e ∷ es)) ≡ true) h (are e es)

    -- .. that say the numbers where these are patterns.
    pub entries_say : (es : List ℕ) → Patterns d k es → entries_in d k (entries_text d es) ≡ es
    entries_say [] h = absurd (omega arith)
    entries_say (e ∷ es) h = subst (λ (x : ℕ). entries_in d x (entries_text d (e ∷ es)) ≡ e ∷ es) h.0 (say e es h.1)

-- ---- entries and the patterns that they say

-- the first of several entries
first : (d k : ℕ) (v : List ℕ) → are_entries d (suc (suc k)) v ≡ true → (take d v ≡ entry_text d (spelt_from 0 (take d v))) × (spelt_from 0 (take d v) < 16 ^ d)
first d k v e = let f = more_first d k v e in (entry_text_lem d (take d v) f.0 f.1, entry_small d (take d v) f.0 f.1)

-- and the only one
alone : (d : ℕ) (v : List ℕ) → is_entry d v ≡ true → (take d v ≡ v) × (v ≡ entry_text d (spelt_from 0 v)) × (spelt_from 0 v < 16 ^ d)
alone d v e = let p = entry_parts d v e in (take_all d v (le_of_eq p.0), entry_text_lem d v p.0 p.1, entry_small d v p.0 p.1)

-- k entries are the spelling of what they say ..
pub entries-text : (d k : ℕ) (v : List ℕ) → are_entries d k v ≡ true → v ≡ entries_text d (entries_in d k v)
unfolding are_entries entries_in entries_text
entries-text d zero v e = absurd (true≢false (sym e))
entries-text d (suc zero) v e = rw (alone d v e).0 (alone d v e).1
entries-text d (suc (suc k)) v e = more_cut d k v e ∙ ap₂ (λ (x y : List ℕ). x ++ (comma ∷ y)) (first d k v e).0 (entries-text d (suc k) (drop (suc d) v) (more_rest d k v e))

-- .. which is k patterns
pub entries-patterns : (d k : ℕ) (v : List ℕ) → are_entries d k v ≡ true → Patterns d k (entries_in d k v)
unfolding are_entries entries_in
entries-patterns d zero v e = absurd (true≢false (sym e))
entries-patterns d (suc zero) v e = rw (alone d v e).0 (refl, ((alone d v e).2, tt))
entries-patterns d (suc (suc k)) v e =
    let below = entries-patterns d (suc k) (drop (suc d) v) (more_rest d k v e) in
    (ap suc below.0, ((first d k v e).1, below.1))

-- A text is k entries exactly where it is the spelling of k patterns.
pub entries_exactly : (d k : ℕ) (v : List ℕ) → 1 ≤ k → (are_entries d k v ≡ true) ↔ ((es : List ℕ) × Patterns d k es × (v ≡ entries_text d es))
entries_exactly d k v some = (λ e. (entries_in d k v, entries-patterns d k v e, entries-text d k v e), λ f. ap (are_entries d k) f.2 ∙ entries-are d k some f.0 f.1.0)
