-- Two results that satisfy a promise are equal: each promise gives the answer, and every number afterwards, by an equation. Assumes nothing.
use mathlib.Core.Path.{◌≡◌}
use mathlib.Core.List.{List}
use Prim.Native.Nat.{ℕ}
use lib.Ieee.{Float}
use Rattle.answers.specs.Answers.{Answer}
use Rattle.grids.specs.Sums.{Combined, InPlace}
use Rattle.grids.specs.Cells.{Set, SetBoth, RowCopied, ColumnCopied, Copied, Filled, DiagonalSet, Comatrix}

module _ {v w : Answer} {m m' m'' : List Float} where
  -- set leaves one buffer and gives one answer; so do the others below
  pub set_unique : {rows cols r c : ℕ} {x : Float} → Set rows cols m r c x v m' → Set rows cols m r c x w m'' → (v ≡ w) × (m' ≡ m'')
  set_unique p q = (cc, cc)

  pub both_unique : {n r c : ℕ} {x : Float} → SetBoth n m r c x v m' → SetBoth n m r c x w m'' → (v ≡ w) × (m' ≡ m'')
  both_unique p q = (cc, cc)

  pub filled_unique : {rows cols : ℕ} {x : Float} → Filled rows cols m x v m' → Filled rows cols m x w m'' → (v ≡ w) × (m' ≡ m'')
  filled_unique p q = (cc, cc)

  pub diagonal_unique : {n : ℕ} {x : Float} → DiagonalSet n m x v m' → DiagonalSet n m x w m'' → (v ≡ w) × (m' ≡ m'')
  diagonal_unique p q = (cc, cc)

  pub comatrix_unique : {n : ℕ} {d o : Float} → Comatrix n m d o v m' → Comatrix n m d o w m'' → (v ≡ w) × (m' ≡ m'')
  comatrix_unique p q = (cc, cc)

module _ {v w : Answer} {m d d' d'' : List Float} where
  pub row_unique : {rows cols r : ℕ} → RowCopied rows cols m r d v d' → RowCopied rows cols m r d w d'' → (v ≡ w) × (d' ≡ d'')
  row_unique p q = (cc, cc)

  pub column_unique : {rows cols c : ℕ} → ColumnCopied rows cols m c d v d' → ColumnCopied rows cols m c d w d'' → (v ≡ w) × (d' ≡ d'')
  column_unique p q = (cc, cc)

  pub copied_unique : {rows cols : ℕ} → Copied rows cols m d v d' → Copied rows cols m d w d'' → (v ≡ w) × (d' ≡ d'')
  copied_unique p q = (cc, cc)

module _ {op : Float → Float → Float} {rows cols : ℕ} {a b d d' d'' : List Float} {v w : Answer} where
  -- sub leaves one buffer and gives one answer
  pub combined_unique : Combined op rows cols a b d v d' → Combined op rows cols a b d w d'' → (v ≡ w) × (d' ≡ d'')
  combined_unique p q = (cc, cc)

  -- so do the four in-place functions
  pub in_place_unique : InPlace op rows cols a b d v d' → InPlace op rows cols a b d w d'' → (v ≡ w) × (d' ≡ d'')
  in_place_unique p q = (cc, cc)
