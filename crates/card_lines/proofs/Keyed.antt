-- A line with a key: where the text begins with the key, the line is right exactly where what stands behind the key is; where it does not, the line is
-- wrong. Assumes nothing.
use mathlib.Core.Path.{◌≡◌, refl, sym, ap, ◌∙◌}
use mathlib.Core.Bool.{Bool, true, false, ◌&&◌}
use mathlib.Core.List.{List, [], ◌∷◌}
use Prim.Native.Nat.{ℕ}
use borrow.Author.Tests.{eq-eqb, ne_eqb, eqb-true, eqb-false}
use lib.Dec.{eqb}
use lib.ListN.{length, take, drop}
use lib.Pointwise.{pointwise}
use Rattle.std.specs.Prelude.{None}
use Rattle.card_text.specs.Lines.{ends, behind_line}
use Rattle.card_text.specs.Values.{begins}
use Rattle.card_text.specs.Card.{keyed, count_line, count_of, entries_line}
use Rattle.card_text.proofs.Lines.{behind-behind}
use Rattle.card_text.proofs.Keys.{begins_is, keyed_by, value_by, keyed-begins}
use Rattle.card_lines.specs.Front.{counted, count_first, found, entries_first}

-- the test of `strip_prefix`
begins_by : (key t : List ℕ) → pointwise eqb (take (length key) t) key ≡ begins key t
unfolding begins
begins_by [] t = refl
begins_by (b ∷ key) [] = refl
begins_by (b ∷ key) (c ∷ t) = by (eqb b c) refl (begins_by key t)
  where
    by : (y : Bool) → eqb b c ≡ y → pointwise eqb (take (length key) t) key ≡ begins key t → (eqb c b && pointwise eqb (take (length key) t) key) ≡ (y && begins key t)
    by true q e = rw (eq-eqb c b (sym (eqb-true b c q))) e
    by false q e = rw (ne_eqb c b (λ (x : c ≡ b). eqb-false b c q (sym x)))

module _ (key t : List ℕ) where
  -- the text does not begin with the key
  module _ (e : pointwise eqb (take (length key) t) key ≡ false) where
    not_keyed : keyed key t ≡ false
    not_keyed = by (keyed key t) refl
      where
        by : (y : Bool) → keyed key t ≡ y → y ≡ false
        by true q = sym (keyed-begins key t q) ∙ sym (begins_by key t) ∙ e
        by false q = refl

    pub no_count : None ≡ counted key t
    unfolding counted count_line
    no_count = rw not_keyed

    pub no_entries : (d k : ℕ) → None ≡ found d key k t
    unfolding found entries_line
    no_entries d k = rw not_keyed

  -- it does, and the key has no newline in it
  module _ (plain : ends key ≡ false) (e : pointwise eqb (take (length key) t) key ≡ true) where
    begun : begins key t ≡ true
    begun = sym (begins_by key t) ∙ e

    behind_key : behind_line t ≡ behind_line (drop (length key) t)
    behind_key = ap behind_line (begins_is key t begun) ∙ behind-behind key (drop (length key) t) plain

    pub count_there : count_first (drop (length key) t) ≡ counted key t
    unfolding counted count_first count_line count_of
    count_there = sym (rw (keyed_by key t plain begun, value_by key t plain begun, behind_key))

    pub entries_there : (d k : ℕ) → entries_first d k (drop (length key) t) ≡ found d key k t
    unfolding found entries_first entries_line
    entries_there d k = sym (rw (keyed_by key t plain begun, value_by key t plain begun, behind_key))
