-- Two results that satisfy a product's promise are equal: the answer, and every number of each buffer. Assumes nothing.
use mathlib.Core.Path.{◌≡◌}
use mathlib.Core.List.{List}
use Prim.Native.Nat.{ℕ}
use lib.Ieee.{Float, Format}
use Rattle.answers.specs.Answers.{Answer}
use Rattle.entries.specs.Products.{Multiplied, Buffered, MultipliedT, AddedT, ScaledT, RowMultiplied, RowAdded}

module _ (f : Format) (rows inner cols : ℕ) (a b c : List Float) {v w : Answer} {c' c'' : List Float} where
  -- a·b
  pub mult_unique : Multiplied f rows inner cols a b c v c' → Multiplied f rows inner cols a b c w c'' → (v ≡ w) × (c' ≡ c'')
  mult_unique p q = (cc, cc)

  -- a·b with an auxiliary
  pub mult_buffered_unique :
      (x : List Float) {x' x'' : List Float} → Buffered f rows inner cols a b c x v c' x' → Buffered f rows inner cols a b c x w c'' x''
      → (v ≡ w) × (c' ≡ c'') × (x' ≡ x'')
  mult_buffered_unique x p q = (cc, cc, cc)

  -- a·bᵀ
  pub mult_transb_unique : MultipliedT f rows inner cols a b c v c' → MultipliedT f rows inner cols a b c w c'' → (v ≡ w) × (c' ≡ c'')
  mult_transb_unique p q = (cc, cc)

  -- a·bᵀ added
  pub multadd_transb_unique : AddedT f rows inner cols a b c v c' → AddedT f rows inner cols a b c w c'' → (v ≡ w) × (c' ≡ c'')
  multadd_transb_unique p q = (cc, cc)

  -- a·bᵀ scaled
  pub multscale_transb_unique : (scale : Float) → ScaledT f rows inner cols a b scale c v c' → ScaledT f rows inner cols a b scale c w c'' → (v ≡ w) × (c' ≡ c'')
  multscale_transb_unique scale p q = (cc, cc)

  -- a·x, with b for x
  pub mult_rowvector_unique : RowMultiplied f rows inner a b c v c' → RowMultiplied f rows inner a b c w c'' → (v ≡ w) × (c' ≡ c'')
  mult_rowvector_unique p q = (cc, cc)

  -- a·x added, with b for x
  pub multadd_rowvector_unique : RowAdded f rows inner a b c v c' → RowAdded f rows inner a b c w c'' → (v ≡ w) × (c' ≡ c'')
  multadd_rowvector_unique p q = (cc, cc)
