-- Laws of what a text begins with, and of a line that begins with a key: a key has no newline in it, so that it may be looked for in the text as in the line.
-- Assumes nothing.
use mathlib.Core.Path.{◌≡◌, refl, sym, ap, ◌∙◌, subst}
use mathlib.Core.Bool.{true, false, and-eq-true_iff, and-true, true≢false}
use mathlib.Core.List.{List, [], ◌∷◌, ◌++◌}
use Prim.Native.Nat.{ℕ}
use lib.Dec.{eqb}
use lib.ListN.{length, drop}
use lib.Seq.{drop-append_seam}
use borrow.Author.Tests.{eqb-true, eq-eqb}
use Rattle.card_text.specs.Lines.{newline, ends, first_line, behind_line}
use Rattle.card_text.specs.Values.{begins}
use Rattle.card_text.specs.Card.{keyed, value_of}
use Rattle.card_text.proofs.Lines.{cut, ends-behind, first-behind}

-- a text that begins with the key is the key and what stands behind it
pub begins_is : (key t : List ℕ) → begins key t ≡ true → t ≡ key ++ drop (length key) t
unfolding begins
begins_is [] t e = refl
begins_is (b ∷ key) [] e = absurd (true≢false (sym e))
begins_is (b ∷ key) (c ∷ t) e =
    ap (λ (x : ℕ). x ∷ t) (sym (eqb-true b c ((and-eq-true_iff (eqb b c) (begins key t)).0 e).0))
    ∙ ap (λ (x : List ℕ). b ∷ x) (begins_is key t ((and-eq-true_iff (eqb b c) (begins key t)).0 e).1)

-- the key and any text begin with the key
pub begins_key : (key t : List ℕ) → begins key (key ++ t) ≡ true
unfolding begins
begins_key [] t = refl
begins_key (b ∷ key) t = rw (eq-eqb b b refl) (begins_key key t)

module _ (key t : List ℕ) (plain : ends key ≡ false) where
  -- the text behind the key
  abbrev u : List ℕ
  u = drop (length key) t

  -- where the text begins with the key ..
  module _ (e : begins key t ≡ true) where
    -- .. its first line is ended where that behind the key is,
    pub ends_key : ends t ≡ ends u
    ends_key = ap ends (begins_is key t e) ∙ ends-behind key u plain

    -- .. and is the key and the first line behind it
    pub first_key : first_line t ≡ key ++ first_line u
    first_key = ap first_line (begins_is key t e) ∙ first-behind key u plain

    -- so the line is keyed where it is ended, and its value is the first line behind the key
    pub keyed_by : keyed key t ≡ ends u
    keyed_by = rw (first_key, begins_key key (first_line u), ends_key) (and-true (ends u))

    pub value_by : value_of key t ≡ first_line u
    value_by = rw first_key (drop-append_seam key (first_line u))

-- what begins with the key does so whatever stands behind
longer : (key l w : List ℕ) → begins key l ≡ true → begins key (l ++ w) ≡ true
unfolding begins
longer [] l w e = refl
longer (b ∷ key) [] w e = absurd (true≢false (sym e))
longer (b ∷ key) (c ∷ l) w e = rw ((and-eq-true_iff (eqb b c) (begins key l)).0 e).0 (longer key l w ((and-eq-true_iff (eqb b c) (begins key l)).0 e).1)

-- a line that is keyed is one of a text that begins with the key
pub keyed-begins : (key t : List ℕ) → keyed key t ≡ true → begins key t ≡ true
keyed-begins key t e =
    let is-ended = ((and-eq-true_iff (ends t) (begins key (first_line t))).0 e).0 in
    let is-begun = ((and-eq-true_iff (ends t) (begins key (first_line t))).0 e).1 in
    subst (λ (x : List ℕ). begins key x ≡ true) (sym (cut t is-ended)) (longer key (first_line t) (newline ∷ behind_line t) is-begun)
