-- Refusals 1 to 3 change nothing (R3, R25): a theorem for each public function that knows no other refusal. Their promises give each lent buffer by the call's answer,
-- and one law says what a refusal makes of that. Of a row of feeders it is cited from `rows`, of a card from `cards`, whose refusals 5 and 6 are among them. Where refusal 4 can follow, the theorems are those of `factors` and `filters`. Assumes nothing.
use mathlib.Core.Path.{◌≡◌, refl}
use mathlib.Core.Bool.{false}
use mathlib.Core.List.{List}
use Prim.Native.Nat.{ℕ}
use lib.Ieee.{Float, Format}
use Rattle.std.specs.Prelude.{Err}
use Rattle.answers.specs.declared.Refusal.{Refusal}
use Rattle.answers.specs.Answers.{is_done, settled, Answer}
use Rattle.grids.specs.Cells.{Set, SetBoth, RowCopied, ColumnCopied, Copied, Filled, DiagonalSet, Comatrix}
use Rattle.grids.specs.Sums.{Combined, InPlace}
use Rattle.entries.specs.Products.{Multiplied, Buffered, MultipliedT, AddedT, ScaledT, RowMultiplied, RowAdded}
use Rattle.factors.specs.Inverted.{Inverted}
use Rattle.filters.specs.Predicted.{PredictedX, PredictedP, Predicted}
use Rattle.one_state.specs.declared.OneState.{OneState}
use Rattle.rows.specs.declared.Corrections.TheVariants.{Refused}
use Rattle.rows.specs.Rows.{PredictedRow, CorrectedRow}
use Rattle.rows.proofs.Theorems.{refused_prediction_keeps, refused_row_keeps}
use Rattle.cards.specs.Read.{CardRead}
use Rattle.cards.specs.Written.{CardWritten}
use Rattle.cards.proofs.Theorems.{refused_keeps, refused_keeps_bytes}

-- the law: what goes by a refusal is as lent
pub refused_leaves : {after : List Float} (v : Answer) (new old : List Float) → is_done v ≡ false → after ≡ settled v new old → after ≡ old
refused_leaves v new old r h = rw r at h

module _ (v : Answer) (no : is_done v ≡ false) where
  -- ---- cells
  module _ {m m' : List Float} where
    pub set_unchanged : {rows cols r c : ℕ} {x : Float} → Set rows cols m r c x v m' → m' ≡ m
    set_unchanged p = refused_leaves v _ _ no p.after

    pub set_symmetric_unchanged : {n r c : ℕ} {x : Float} → SetBoth n m r c x v m' → m' ≡ m
    set_symmetric_unchanged p = refused_leaves v _ _ no p.after

    -- set_all, clear, set_zero
    pub fill_unchanged : {rows cols : ℕ} {x : Float} → Filled rows cols m x v m' → m' ≡ m
    fill_unchanged p = refused_leaves v _ _ no p.after

    pub diagonal_unchanged : {n : ℕ} {x : Float} → DiagonalSet n m x v m' → m' ≡ m
    diagonal_unchanged p = refused_leaves v _ _ no p.after

    -- make_comatrix, make_scalar, make_identity
    pub comatrix_unchanged : {n : ℕ} {x y : Float} → Comatrix n m x y v m' → m' ≡ m
    comatrix_unchanged p = refused_leaves v _ _ no p.after

  -- ---- copies, into d
  module _ {m d d' : List Float} where
    pub row_copy_unchanged : {rows cols r : ℕ} → RowCopied rows cols m r d v d' → d' ≡ d
    row_copy_unchanged p = refused_leaves v _ _ no p.after

    pub column_copy_unchanged : {rows cols c : ℕ} → ColumnCopied rows cols m c d v d' → d' ≡ d
    column_copy_unchanged p = refused_leaves v _ _ no p.after

    pub copy_unchanged : {rows cols : ℕ} → Copied rows cols m d v d' → d' ≡ d
    copy_unchanged p = refused_leaves v _ _ no p.after

  -- ---- sums and differences
  module _ {op : Float → Float → Float} {rows cols : ℕ} {a b c c' : List Float} where
    pub sub_unchanged : Combined op rows cols a b c v c' → c' ≡ c
    sub_unchanged p = refused_leaves v _ _ no p.after

    -- sub_inplace_a, sub_inplace_b, add_inplace_a, add_inplace_b
    pub in_place_unchanged : InPlace op rows cols a b c v c' → c' ≡ c
    in_place_unchanged p = refused_leaves v _ _ no p.after

  -- ---- products
  module _ {f : Format} {rows inner : ℕ} {a b c c' : List Float} where
    pub mult_unchanged : {cols : ℕ} → Multiplied f rows inner cols a b c v c' → c' ≡ c
    mult_unchanged p = refused_leaves v _ _ no p.after

    pub mult_buffered_unchanged : {cols : ℕ} {x x' : List Float} → Buffered f rows inner cols a b c x v c' x' → (c' ≡ c) × (x' ≡ x)
    mult_buffered_unchanged p = (refused_leaves v _ _ no p.after, refused_leaves v _ _ no p.auxiliary)

    pub mult_transb_unchanged : {cols : ℕ} → MultipliedT f rows inner cols a b c v c' → c' ≡ c
    mult_transb_unchanged p = refused_leaves v _ _ no p.after

    pub multadd_transb_unchanged : {cols : ℕ} → AddedT f rows inner cols a b c v c' → c' ≡ c
    multadd_transb_unchanged p = refused_leaves v _ _ no p.after

    pub multscale_transb_unchanged : {cols : ℕ} {scale : Float} → ScaledT f rows inner cols a b scale c v c' → c' ≡ c
    multscale_transb_unchanged p = refused_leaves v _ _ no p.after

    -- with b for the vector
    pub mult_rowvector_unchanged : RowMultiplied f rows inner a b c v c' → c' ≡ c
    mult_rowvector_unchanged p = refused_leaves v _ _ no p.after

    pub multadd_rowvector_unchanged : RowAdded f rows inner a b c v c' → c' ≡ c
    multadd_rowvector_unchanged p = refused_leaves v _ _ no p.after

  -- ---- inverse
  pub inverse_unchanged : {f : Format} {n : ℕ} {l d d' : List Float} → Inverted f n l d v d' → d' ≡ d
  inverse_unchanged p = refused_leaves v _ _ no p.after

  -- ---- predictions
  pub predict_x_unchanged : {f : Format} {n : ℕ} {x A px x' px' : List Float} → PredictedX f n x A px v x' px' → (x' ≡ x) × (px' ≡ px)
  predict_x_unchanged p = (refused_leaves v _ _ no p.x_after, refused_leaves v _ _ no p.predicted_x_after)

  pub predict_p_unchanged : {f : Format} {n : ℕ} {A P Q temp P' temp' : List Float} → PredictedP f n A P Q temp v P' temp' → (P' ≡ P) × (temp' ≡ temp)
  predict_p_unchanged p = (refused_leaves v _ _ no p.p_after, refused_leaves v _ _ no p.temp_p_after)

  pub predict_unchanged : {f : Format} {n : ℕ} {x A P Q px temp x' P' px' temp' : List Float} → Predicted f n x A P Q px temp v x' P' px' temp'
      → (x' ≡ x) × (P' ≡ P) × (px' ≡ px) × (temp' ≡ temp)
  predict_unchanged p = (refused_leaves v _ _ no p.x_after, refused_leaves v _ _ no p.p_after, refused_leaves v _ _ no p.predicted_x_after, refused_leaves v _ _ no p.temp_p_after)

  -- ---- rows of feeders
  module _ {row row' : List OneState} where
    pub predict_row_unchanged : PredictedRow row v row' → row' ≡ row
    predict_row_unchanged p = refused_prediction_keeps p no

    pub correct_row_unchanged : {zs : List Float} → CorrectedRow row zs (Refused v) row' → row' ≡ row
    correct_row_unchanged p = refused_row_keeps p no

-- ---- settings cards, refused with v
module _ {v : Refusal} {f : Format} where
  pub read_card_unchanged : {d : ℕ} {s : List ℕ} {a q h r a' q' h' r' : List Float} → CardRead f d s a q h r (Err v) a' q' h' r'
      → (a' ≡ a) × (q' ≡ q) × (h' ≡ h) × (r' ≡ r)
  read_card_unchanged p = refused_keeps p v refl

  pub write_card_unchanged : {d n m : ℕ} {a q h r : List Float} {b b' : List ℕ} → CardWritten f d n m a q h r b (Err v) b' → b' ≡ b
  write_card_unchanged p = refused_keeps_bytes p v refl
