-- "0 differ" means that every number of a buffer agrees: with its word where the line has one, else with what it was lent with. Assumes nothing.
use mathlib.Core.Path.{◌≡◌, subst⁻¹}
use mathlib.Core.Logic.{⊎_elim}
use mathlib.Core.Bool.{Bool, true, false, cond}
use mathlib.Core.List.{List}
use Prim.Native.Nat.{ℕ, zero, suc, ◌<◌}
use native.Mathlib.Nat.{not-suc-le-zero, le_of_suc-le-suc, eq-or-lt_of_le}
use lib.Dec.{ltb}
use lib.ListN.{get_or}
use lib.Ieee.{Float, nan}
use Rattle.lines.specs.Pattern.{bits_of, same_bits}
use Rattle.lines.specs.Word.{word_at}
use Rattle.lists.specs.declared.seen.Seen.{Seen}
use Rattle.lists.specs.Seen.{float_met}
use Rattle.lists.proofs.Agreed.{met_agreed, float_agreed}
use Rattle.card_cells.specs.Lent.{lent_bits}
use Rattle.card_cells.specs.Cells.{kept_met, cell_met, all_met}

-- ---- one number
kept_agreed : (o : Seen) (b i : ℕ) (x : Float) → (kept_met o b i x).differ ≡ 0 → (o.differ ≡ 0) × (same_bits (bits_of x) (lent_bits b i) ≡ true)
unfolding kept_met
kept_agreed o b i x e = met_agreed _ o _ b i _ _ e

-- the pattern that number i must have: that of the next word, or its own
abbrev pub wanted : List ℕ → Seen → ℕ → ℕ → ℕ → ℕ
wanted s o b k i = cond (ltb i k) (word_at s o.next).bits (lent_bits b i)

pub cell_agreed : (s : List ℕ) (o : Seen) (b k i : ℕ) (x : Float) → (cell_met s o b k i x).differ ≡ 0 → (o.differ ≡ 0) × (same_bits (bits_of x) (wanted s o b k i) ≡ true)
unfolding cell_met
cell_agreed s o b k i x = at (ltb i k)
  where
    at : (t : Bool) → (cond t (float_met s o b i x) (kept_met o b i x)).differ ≡ 0 → (o.differ ≡ 0) × (same_bits (bits_of x) (cond t (word_at s o.next).bits (lent_bits b i)) ≡ true)
    at true e = float_agreed s o b i x e
    at false e = kept_agreed o b i x e

-- ---- the numbers of a buffer
module _ (s : List ℕ) (o : Seen) (b k : ℕ) (l : List Float) where
  -- nothing differed before the first
  pub all_began : (n : ℕ) → (all_met s o b k l n).differ ≡ 0 → o.differ ≡ 0
  unfolding all_met
  all_began zero e = e
  all_began (suc n) e = all_began n (cell_agreed s (all_met s o b k l n) b k n _ e).0

  -- number i is as it must be
  abbrev pub Agrees : ℕ → Type 0
  Agrees i = same_bits (bits_of (get_or l i nan)) (wanted s (all_met s o b k l i) b k i) ≡ true

  pub all_agreed : (n : ℕ) → (all_met s o b k l n).differ ≡ 0 → (i : ℕ) → i < n → Agrees i
  unfolding all_met
  all_agreed zero e i h = absurd (not-suc-le-zero h)
  all_agreed (suc n) e i h =
      let last = cell_agreed s (all_met s o b k l n) b k n (get_or l n nan) e in
      ⊎_elim (λ q. subst⁻¹ Agrees q last.1) (λ below. all_agreed n last.0 i below) (eq-or-lt_of_le (le_of_suc-le-suc h))
