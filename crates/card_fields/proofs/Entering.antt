-- Entries put one by one: the text of all but the last is each of them with a comma behind it; the last one, and the newline behind it, make the line whole.
-- Assumes nothing.
use mathlib.Core.Path.{◌≡◌, refl, sym, ap, ◌∙◌}
use mathlib.Core.List.{List, [], ◌∷◌, ◌++◌, append_assoc}
use Prim.Native.Nat.{ℕ, suc, ◌+◌, ◌*◌, ◌≤◌, ◌<◌}
use native.Mathlib.Nat.{suc-mul, zero-mul}
use native.Mathlib.Omega.{arith}
use lib.ListN.{length, get_or, length-append}
use lib.Seq.{sets}
use lib.Ieee.{Float, Format}
use Rattle.lines.specs.Pattern.{pattern_of}
use Rattle.card_text.specs.Lines.{newline}
use Rattle.card_text.specs.Values.{comma}
use Rattle.card_text.specs.Spelling.{entry_text, entries_text}
use Rattle.card_text.specs.Said.{patterns}
use Rattle.card_text.proofs.Entries.{entries-length}
use Rattle.card_text.proofs.Digits.{entry_length}
use Rattle.card_text.proofs.Patterns.{entries-are}
use Rattle.card_text.proofs.Said.{patterns-length, patterns_more}
use Rattle.card_fields.proofs.Laid.{then_text}

-- ---- the text

module _ (d : ℕ) where
  -- entries with a comma behind each
  unfoldable pub ready : List ℕ → List ℕ
  ready [] = []
  ready (e ∷ es) = entry_text d e ++ (comma ∷ ready es)

  ready_more : (es : List ℕ) (e : ℕ) → ready (es ++ (e ∷ [])) ≡ ready es ++ (entry_text d e ++ (comma ∷ []))
  unfolding ready
  ready_more [] e = refl
  ready_more (c ∷ es) e = ap (λ (t : List ℕ). entry_text d c ++ (comma ∷ t)) (ready_more es e) ∙ sym (append_assoc (entry_text d c) (comma ∷ ready es) (entry_text d e ++ (comma ∷ [])))

  -- the last entry has none
  ready_last : (es : List ℕ) (e : ℕ) → entries_text d (es ++ (e ∷ [])) ≡ ready es ++ entry_text d e
  unfolding ready entries_text
  ready_last [] e = refl
  ready_last (c ∷ []) e = sym (append_assoc (entry_text d c) (comma ∷ []) (entry_text d e))
  ready_last (c ∷ b ∷ es) e = ap (λ (t : List ℕ). entry_text d c ++ (comma ∷ t)) (ready_last (b ∷ es) e) ∙ sym (append_assoc (entry_text d c) (comma ∷ ready (b ∷ es)) (entry_text d e))

  ready_length : (es : List ℕ) → length (ready es) ≡ length es * suc d
  unfolding ready
  ready_length [] = sym (zero-mul (suc d))
  ready_length (e ∷ es) = length-append (entry_text d e) (comma ∷ ready es) ∙ rw (entry_length d e, ready_length es, suc-mul (length es) (suc d)) (omega arith)

-- how long the text of the first k numbers is, with the newline behind it
pub entries_bytes : (f : Format) (x : List Float) (d k : ℕ) → 1 ≤ k → k ≤ length x → suc (length (entries_text d (patterns f k x))) ≡ k * suc d
entries_bytes f x d k some h = entries-length d k (entries_text d (patterns f k x)) (entries-are d k some (patterns f k x) (patterns-length f k x h))

-- ---- the bytes

module _ (d : ℕ) (f : Format) (x : List Float) (j : ℕ) (h : j < length x) (l z w : List ℕ) (at p b : ℕ) (o : Float)
    (e : z ≡ sets l at (ready d (patterns f j x))) (place : p ≡ at + j * suc d) (is : b ≡ pattern_of f (get_or x j o)) where
  -- entry j, and a byte behind it
  entered : (c : ℕ) → w ≡ sets z p (entry_text d b ++ (c ∷ [])) → w ≡ sets l at (ready d (patterns f j x) ++ (entry_text d (pattern_of f (get_or x j o)) ++ (c ∷ [])))
  entered c s =
      then_text l z at p (ready d (patterns f j x)) e
      (place ∙ ap (λ (n : ℕ). at + n) (sym (ready_length d (patterns f j x) ∙ ap (λ (n : ℕ). n * suc d) (patterns-length f j x (omega arith)))))
      w (entry_text d (pattern_of f (get_or x j o)) ++ (c ∷ [])) (s ∙ ap (λ (n : ℕ). sets z p (entry_text d n ++ (c ∷ []))) is)

  -- a turn: the byte is a comma
  pub turn : (k : ℕ) → k ≡ suc j → w ≡ sets z p (entry_text d b ++ (comma ∷ [])) → w ≡ sets l at (ready d (patterns f k x))
  turn k next s = entered comma s ∙ ap (sets l at) (sym (ap (λ (n : ℕ). ready d (patterns f n x)) next ∙ ap (ready d) (patterns_more f j x o h) ∙ ready_more d (patterns f j x) (pattern_of f (get_or x j o))))

  -- the last entry: it is a newline
  pub last : (k : ℕ) → k ≡ suc j → w ≡ sets z p (entry_text d b ++ (newline ∷ [])) → w ≡ sets l at (entries_text d (patterns f k x) ++ (newline ∷ []))
  last k next s =
      entered newline s
      ∙ ap (sets l at)
      (sym (append_assoc (ready d (patterns f j x)) (entry_text d (pattern_of f (get_or x j o))) (newline ∷ []))
      ∙ ap (λ (t : List ℕ). t ++ (newline ∷ []))
      (sym (ap (λ (n : ℕ). entries_text d (patterns f n x)) next ∙ ap (entries_text d) (patterns_more f j x o h) ∙ ready_last d (patterns f j x) (pattern_of f (get_or x j o)))))
