-- Row i, cell by cell up to the diagonal: its sums read only rows before it, so that what it has written so far does not matter to them. Assumes nothing.
use mathlib.Core.Path.{◌≡◌, refl, sym, ap, ap₂, subst, ◌∙◌}
use mathlib.Core.List.{List}
use Prim.Native.Nat.{ℕ, ◌+◌, ◌-◌, ◌*◌, ◌<◌, ◌≤◌}
use native.Mathlib.Omega.{arith}
use borrow.Author.Tests.{eq-eqb, ne_eqb}
use lib.ListN.{set}
use lib.Ieee.{Float, Format, binary32, of_bits, mul, neg}
use Rattle.numbers.specs.Sums.{plus0}
use Rattle.numbers.specs.Reciprocal.{one, recip_of}
use Rattle.grids.specs.Grid.{cell, run}
use Rattle.grids.proofs.Grids.{inside, run_before}
use Rattle.grids.proofs.Loops.{Writing, all_written}
use Rattle.grids.proofs.Turns.{put4, one_more, four_more}
use Rattle.factors.specs.Inverse.{plus_sum, unit_at}
use Rattle.factors.proofs.Upward.{plus_ext}
use Rattle.first_pass.specs.Below.{term, all_terms, solved_cell}

-- the bits of 1
pub one_bits : of_bits binary32 0x3f800000 ≡ one
unfolding of_bits
one_bits = refl

-- with no terms there is the start
plus_none : (f : Format) (s : Float) (t : ℕ → Float) (n : ℕ) → n ≡ 0 → plus_sum f s t n ≡ s
unfolding plus_sum
plus_none f s t n e = ap (plus_sum f s t) e

module _ (f : Format) (n : ℕ) (l z : List Float) (i : ℕ) (hi : i < n) where
  -- z' is z with the first j cells of row i written
  abbrev pub Row : List Float → ℕ → Type 0
  Row z' j = Writing (i * n) (i + 1) (solved_cell f n l z i) z z' j

  -- the sums are those of z
  terms_unread : (z' : List Float) (j : ℕ) → Row z' j → (c : ℕ) → all_terms f n l z' i c ≡ all_terms f n l z i c
  terms_unread z' j w c =
      plus_ext f plus0 plus0 (λ k. term f n l z' i c (c + k)) (λ k. term f n l z i c (c + k)) (i - c) refl (λ k h.
      ap (mul f (neg (cell n l i (c + k))))
      (ap (λ (x : List Float). cell n x (c + k) c) w.so_far ∙ run_before (i * n) j (solved_cell f n l z i) z ((c + k) * n + c) (inside i n (c + k) c (omega arith) (omega arith))))

  -- left of the diagonal the sum begins at +0
  left_start : (c : ℕ) → c < i → unit_at i c ≡ plus0
  left_start c h = simp (ne_eqb i c (λ x. omega arith))

  -- a cell left of the diagonal
  pub cell-solved :
      (z' : List Float) (j : ℕ) → Row z' j → (c : ℕ) → c < i → {t d v : Float} → d ≡ recip_of f (cell n l i i) → v ≡ mul f t d → t ≡ all_terms f n l z' i c
      → v ≡ solved_cell f n l z i c
  cell-solved z' j w c h d v t =
      let terms : ℕ → Float = λ k. term f n l z i c (c + k) in
      v ∙ ap₂ (mul f) (t ∙ terms_unread z' j w c ∙ ap (λ (s : Float). plus_sum f s terms (i - c)) (sym (left_start c h))) d

  -- four of them, from the cell 4·k on
  pub four_more_solved :
      (z' : List Float) (k : ℕ) → Row z' (k * 4) → k * 4 + 4 ≤ i → {z'' : List Float} {d t0 t1 t2 t3 v0 v1 v2 v3 : Float} → d ≡ recip_of f (cell n l i i)
      → (v0 ≡ mul f t0 d) × (v1 ≡ mul f t1 d) × (v2 ≡ mul f t2 d) × (v3 ≡ mul f t3 d)
      → (t0 ≡ all_terms f n l z' i (k * 4)) × (t1 ≡ all_terms f n l z' i (k * 4 + 1)) × (t2 ≡ all_terms f n l z' i (k * 4 + 2)) × (t3 ≡ all_terms f n l z' i (k * 4 + 3))
      → z'' ≡ put4 z' (i * n + k * 4) v0 v1 v2 v3
      → Row z'' ((k + 1) * 4)
  four_more_solved z' k w h {z''} d v t q =
      let next : k * 4 + 4 ≡ (k + 1) * 4 = omega arith in
      subst (Row z'') next
      (four_more w (omega arith) refl (
        cell-solved z' (k * 4) w (k * 4) (omega arith) d v.0 t.0,
        cell-solved z' (k * 4) w (k * 4 + 1) (omega arith) d v.1 t.1,
        cell-solved z' (k * 4) w (k * 4 + 2) (omega arith) d v.2 t.2,
        cell-solved z' (k * 4) w (k * 4 + 3) (omega arith) d v.3 t.3,
      ) q)

  -- the diagonal's own cell ends the row
  pub row_solved :
      (z' : List Float) (j : ℕ) → Row z' j → j ≤ i → i ≤ j → {u d : Float} → u ≡ one → d ≡ recip_of f (cell n l i i)
      → set z' (i * n + i) (mul f u d) ≡ run (i * n) (i + 1) (solved_cell f n l z i) z
  row_solved z' j w le ge {u} {d} e q =
      let here : j ≡ i = omega arith in
      let unit : unit_at i i ≡ one = simp (eq-eqb i i refl) in
      let start : plus_sum f (unit_at i i) (λ k. term f n l z i i (i + k)) (i - i) ≡ one = plus_none f (unit_at i i) (λ k. term f n l z i i (i + k)) (i - i) (omega arith) ∙ unit in
      let last : mul f u d ≡ solved_cell f n l z i i = ap₂ (mul f) (e ∙ sym start) q in
      all_written (one_more {p = i * n + i} (subst (Row z') here w) (omega arith) refl refl last) (omega arith)
