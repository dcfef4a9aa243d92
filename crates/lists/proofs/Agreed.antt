-- "0 differ" means that every number agrees: only a number that is the same as its word leaves 0 differences, and only where there were none before it.
-- Assumes nothing.
use mathlib.Core.Path.{◌≡◌, refl, subst⁻¹}
use mathlib.Core.Logic.{⊎_elim}
use mathlib.Core.Bool.{Bool, true, false, cond}
use mathlib.Core.List.{List}
use Prim.Native.Nat.{ℕ, zero, suc, ◌+◌, ◌≤◌, ◌<◌}
use native.Mathlib.Nat.{not-suc-le-zero, le_of_suc-le-suc, eq-or-lt_of_le}
use native.Mathlib.Omega.{arith}
use lib.Dec.{eqb, ltb}
use lib.ListN.{get_or}
use lib.Ieee.{Float, nan}
use borrow.Author.Tests.{ltb-false, eqb-true}
use Rattle.lines.specs.Pattern.{bits_of, same_bits}
use Rattle.lines.specs.Word.{word_at}
use Rattle.lists.specs.declared.seen.Seen.{Seen}
use Rattle.lists.specs.Seen.{one_up, placed, met_of, float_met, whole_met, cells_met}

-- ---- one number
more_than_none : (n : ℕ) → one_up n ≡ 0 → ⊥
more_than_none n = at (ltb n 0xffffffffffffffff) (ltb-false n 0xffffffffffffffff)
  where
    at : (t : Bool) → (t ≡ false → 0xffffffffffffffff ≤ n) → cond t (n + 1) n ≡ 0 → ⊥
    at true h e = omega arith
    at false h e = let l = h refl in omega arith

-- a number that is not the same is counted
pub counted : (o : Seen) (next b i want found : ℕ) → (met_of false o next b i want found).differ ≡ 0 → ⊥
counted o next b i want found = at (eqb o.differ 0)
  where
    at : (t : Bool) → (placed t o next b i want found).differ ≡ 0 → ⊥
    at true e = more_than_none o.differ e
    at false e = more_than_none o.differ e

pub met_agreed : (same : Bool) (o : Seen) (next b i want found : ℕ) → (met_of same o next b i want found).differ ≡ 0 → (o.differ ≡ 0) × (same ≡ true)
met_agreed true o next b i want found e = (e, refl)
met_agreed false o next b i want found e = absurd (counted o next b i want found e)

pub float_agreed : (s : List ℕ) (o : Seen) (b i : ℕ) (x : Float) → (float_met s o b i x).differ ≡ 0 → (o.differ ≡ 0) × (same_bits (bits_of x) (word_at s o.next).bits ≡ true)
unfolding float_met
float_agreed s o b i x e = met_agreed _ o _ b i _ _ e

pub whole_agreed : (s : List ℕ) (o : Seen) (b i n : ℕ) → (whole_met s o b i n).differ ≡ 0 → (o.differ ≡ 0) × ((word_at s o.next).bits ≡ n)
unfolding whole_met
whole_agreed s o b i n e = let m = met_agreed (eqb (word_at s o.next).bits n) o _ b i _ _ e in (m.0, eqb-true _ _ m.1)

-- ---- the cells of a buffer
module _ (s : List ℕ) (o : Seen) (b : ℕ) (l : List Float) where
  -- nothing differed before the first cell
  pub cells_began : (n : ℕ) → (cells_met s o b l n).differ ≡ 0 → o.differ ≡ 0
  unfolding cells_met
  cells_began zero e = e
  cells_began (suc n) e = cells_began n (float_agreed s (cells_met s o b l n) b n _ e).0

  -- cell k is the number of its word
  abbrev pub Agrees : ℕ → Type 0
  Agrees k = same_bits (bits_of (get_or l k nan)) (word_at s (cells_met s o b l k).next).bits ≡ true

  pub cells_agreed : (n : ℕ) → (cells_met s o b l n).differ ≡ 0 → (k : ℕ) → k < n → Agrees k
  unfolding cells_met
  cells_agreed zero e k h = absurd (not-suc-le-zero h)
  cells_agreed (suc n) e k h =
      let last = float_agreed s (cells_met s o b l n) b n (get_or l n nan) e in
      ⊎_elim (λ q. subst⁻¹ Agrees q last.1) (λ below. cells_agreed n last.0 k below) (eq-or-lt_of_le (le_of_suc-le-suc h))
