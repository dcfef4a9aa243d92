-- Row i and column i of a matrix written anew, from their fronts on: which cells are new, and that a cell more, or four more of each, are written. Assumes nothing.
use mathlib.Core.Path.{◌≡◌, refl, sym, ap, subst, ◌∙◌}
use mathlib.Core.Bool.{Bool, true, false, cond, ◌&&◌}
use mathlib.Core.List.{List}
use Prim.Native.Nat.{ℕ, ◌+◌, ◌*◌, ◌<◌, ◌≤◌}
use native.Mathlib.Nat.{add-mul, one-mul}
use native.Mathlib.Decide.{ℕ_discrete, dec_lt}
use native.Mathlib.Omega.{arith}
use borrow.Author.Tests.{lt-ltb, le-ltb, eq-eqb, ne_eqb}
use lib.Dec.{eqb, ltb}
use lib.ListN.{length, set}
use lib.Ieee.{Float}
use Rattle.grids.specs.Grid.{grid, cell, with_cell}
use Rattle.grids.proofs.Grids.{length-grid, grid-cell, grid-set, grid_ext, grid_self, with_same, with_row, with_col}
use Rattle.grids.proofs.Turns.{put4}
use Rattle.factors.specs.Inverse.{cross}

-- ---- which cells are new

module _ (e : ℕ → ℕ → Float) (i : ℕ) (g : ℕ → Float) (m : ℕ) where
  -- column i, above row m
  pub cross_up : (r : ℕ) → r < m → cross e i g m r i ≡ g r
  cross_up r h = simp (eq-eqb i i refl, lt-ltb r m h)

  -- row i, left of column m
  pub cross-left : (c : ℕ) → (c ≡ i → ⊥) → c < m → cross e i g m i c ≡ g c
  cross-left c q h = simp (ne_eqb c i q, eq-eqb i i refl, lt-ltb c m h)

  -- off both
  pub cross_off : (r c : ℕ) → (c ≡ i → ⊥) → (r ≡ i → ⊥) → cross e i g m r c ≡ e r c
  cross_off r c p q = simp (ne_eqb c i p, ne_eqb r i q)

  -- column i from row m on
  pub cross_low : (r : ℕ) → m ≤ r → (r ≡ i → ⊥) → cross e i g m r i ≡ e r i
  cross_low r h q = simp (eq-eqb i i refl, le-ltb r m h, ne_eqb r i q)

  -- row i from column m on
  pub cross_right : (c : ℕ) → m ≤ c → cross e i g m i c ≡ e i c
  cross_right c h = elim (ℕ_discrete c i) [ yes q ↦ subst (λ (x : ℕ). cross e i g m i x ≡ e i x) (sym q) (simp (eq-eqb i i refl, le-ltb i m (omega arith))) | no q ↦ simp (ne_eqb c i q, eq-eqb i i refl, le-ltb c m h) ]

  -- rows after i and from m on
  pub cross_under : (r c : ℕ) → i < r → m ≤ r → cross e i g m r c ≡ e r c
  cross_under r c h k =
      elim (ℕ_discrete c i) [
        | yes q ↦ subst (λ (y : ℕ). cross e i g m r y ≡ e r y) (sym q) (cross_low r k (λ x. omega arith))
        | no q ↦ cross_off r c q (λ x. omega arith)
      ]

-- no cell is new
cross-none : (e : ℕ → ℕ → Float) (i : ℕ) (g : ℕ → Float) (r c : ℕ) → cross e i g 0 r c ≡ e r c
cross-none e i g r c =
    elim (ℕ_discrete r i) [
      | yes q ↦ subst (λ (x : ℕ). cross e i g 0 x c ≡ e x c) (sym q) (cross_right e i g 0 c (omega arith))
      | no q ↦ elim (ℕ_discrete c i) [
        | yes s ↦ subst (λ (y : ℕ). cross e i g 0 r y ≡ e r y) (sym s) (cross_low e i g 0 r (omega arith) q)
        | no s ↦ cross_off e i g 0 r c s q
      ]
    ]

-- the cross of entries that equal their transposes does so too
pub cross_sym : (e : ℕ → ℕ → Float) (i : ℕ) (g : ℕ → Float) (m r c : ℕ) → e r c ≡ e c r → cross e i g m r c ≡ cross e i g m c r
cross_sym e i g m r c q =
    elim (ℕ_discrete c i) [
      | yes p ↦ elim (ℕ_discrete r i) [
        | yes s ↦ subst (λ (x : ℕ). cross e i g m r x ≡ cross e i g m x r) (s ∙ sym p) refl
        | no s ↦ simp (ne_eqb r i s) (ap (cond (eqb c i && ltb r m) (g r)) q)
      ]
      | no p ↦ simp (ne_eqb c i p) (ap (cond (eqb r i && ltb c m) (g c)) q)
    ]

-- ---- a cell more

-- m cells of row i are new, and k of column i
abbrev crossed : (ℕ → ℕ → Float) → ℕ → (ℕ → Float) → ℕ → ℕ → ℕ → ℕ → Float
crossed e i g m k r c = cond (eqb c i && ltb r k) (g r) (cond (eqb r i && ltb c m) (g c) (e r c))

-- a number that is not m is below m + 1 where it is below m
next : (x m : ℕ) → (x ≡ m → ⊥) → ltb x m ≡ ltb x (m + 1)
next x m q = elim (dec_lt x m) [ yes h ↦ lt-ltb x m h ∙ sym (lt-ltb x (m + 1) (omega arith)) | no h ↦ le-ltb x m (omega arith) ∙ sym (le-ltb x (m + 1) (omega arith)) ]

-- either way the same number
either : (b : Bool) (x : Float) → cond b x x ≡ x
either true x = refl
either false x = refl

module _ (e : ℕ → ℕ → Float) (i : ℕ) (g : ℕ → Float) (m k : ℕ) where
  -- the new cell of row i
  row_new : crossed e i g (m + 1) k i m ≡ g m
  row_new =
      simp (eq-eqb i i refl, lt-ltb m (m + 1) (omega arith))
      (elim (ℕ_discrete m i) [
        | yes q ↦ subst (λ (x : ℕ). cond (eqb x i && ltb i k) (g i) (g x) ≡ g x) (sym q) (either (eqb i i && ltb i k) (g i))
        | no q ↦ simp (ne_eqb m i q)
      ])

  -- the cell (i, m) more
  row_more : (r c : ℕ) → with_cell (crossed e i g m k) i m (g m) r c ≡ crossed e i g (m + 1) k r c
  row_more r c =
      elim (ℕ_discrete r i) [
        | yes q ↦
            subst (λ (x : ℕ). with_cell (crossed e i g m k) i m (g m) x c ≡ crossed e i g (m + 1) k x c) (sym q)
            (elim (ℕ_discrete c m) [
              | yes s ↦ subst (λ (y : ℕ). with_cell (crossed e i g m k) i m (g m) i y ≡ crossed e i g (m + 1) k i y) (sym s) (with_same (crossed e i g m k) i m (g m) ∙ sym row_new)
              | no s ↦ with_col (crossed e i g m k) i m (g m) i c s ∙ ap (λ (b : Bool). cond (eqb c i && ltb i k) (g i) (cond (eqb i i && b) (g c) (e i c))) (next c m s)
            ])
        | no q ↦ with_row (crossed e i g m k) i m (g m) r c q ∙ simp (ne_eqb r i q)
      ]

  -- the cell (k, i) more
  column_more : (r c : ℕ) → with_cell (crossed e i g m k) k i (g k) r c ≡ crossed e i g m (k + 1) r c
  column_more r c =
      elim (ℕ_discrete r k) [
        | yes q ↦
            subst (λ (x : ℕ). with_cell (crossed e i g m k) k i (g k) x c ≡ crossed e i g m (k + 1) x c) (sym q)
            (elim (ℕ_discrete c i) [
              | yes s ↦
                  subst (λ (y : ℕ). with_cell (crossed e i g m k) k i (g k) k y ≡ crossed e i g m (k + 1) k y) (sym s)
                  (with_same (crossed e i g m k) k i (g k) ∙ simp (eq-eqb i i refl, lt-ltb k (k + 1) (omega arith)))
              | no s ↦ with_col (crossed e i g m k) k i (g k) k c s ∙ simp (ne_eqb c i s)
            ])
        | no q ↦ with_row (crossed e i g m k) k i (g k) r c q ∙ ap (λ (b : Bool). cond (eqb c i && b) (g r) (cond (eqb r i && ltb c m) (g c) (e r c))) (next r k q)
      ]

-- ---- in a buffer

-- cells 0 to m − 1 of row i and of column i of the n by n matrix in b are anew in z
pub record Crossing (n i : ℕ) (g : ℕ → Float) (b z : List Float) (m : ℕ) : Type 0 where
  pub within : m ≤ i + 1
  pub size : length z ≡ length b
  pub so_far : z ≡ grid n n (cross (cell n b) i g m) b

-- m of the row's and k of the column's
record Arms (n i : ℕ) (g : ℕ → Float) (b z : List Float) (m k : ℕ) : Type 0 where
  pub so_far : z ≡ grid n n (crossed (cell n b) i g m k) b

module _ {n i : ℕ} {g : ℕ → Float} {b : List Float} where
  -- before the first turn none is
  pub none-crossed : Crossing n i g b b 0
  none-crossed = record {
    within = omega arith;
    size = refl;
    so_far = sym (grid_self n n b) ∙ grid_ext n n _ _ b (λ r c hr hc. sym (cross-none (cell n b) i g r c));
  }

  -- after the last both are
  pub all_crossed : {z : List Float} {m : ℕ} → Crossing n i g b z m → i + 1 ≤ m → z ≡ grid n n (cross (cell n b) i g (i + 1)) b
  all_crossed {z} {m} w h = let q : m ≡ i + 1 = omega (arith, w.within) in w.so_far ∙ ap (λ (x : ℕ). grid n n (cross (cell n b) i g x) b) q

  module _ (hi : i < n) (fits : n * n ≤ length b) where
    -- what is read of row i from column m on, and of the rows after i, is as it was
    pub row_unread : {z : List Float} {m : ℕ} → Crossing n i g b z m → (c : ℕ) → m ≤ c → c < n → cell n z i c ≡ cell n b i c
    row_unread {z} {m} w c h hc =
        ap (λ (x : List Float). cell n x i c) w.so_far ∙ grid-cell n n (cross (cell n b) i g m) b i c hi hc fits ∙ cross_right (cell n b) i g m c h

    pub under_unread : {z : List Float} {m : ℕ} → Crossing n i g b z m → (r c : ℕ) → i < r → r < n → c < n → cell n z r c ≡ cell n b r c
    under_unread {z} {m} w r c h hr hc =
        ap (λ (x : List Float). cell n x r c) w.so_far ∙ grid-cell n n (cross (cell n b) i g m) b r c hr hc fits
        ∙ cross_under (cell n b) i g m r c h (omega (arith, w.within))

    -- a number stored in row i, at its place p
    row_set : {z : List Float} {m m' k p : ℕ} {v : Float} → Arms n i g b z m k → m < n → p ≡ i * n + m → m' ≡ m + 1 → v ≡ g m → Arms n i g b (set z p v) m' k
    row_set {z} {m} {m'} {k} {p} {v} w h at more e = record {
      so_far =
          rw (at, e, w.so_far, more)
          (grid-set n n (crossed (cell n b) i g m k) b i m (g m) hi h fits ∙ grid_ext n n _ _ b (λ r c hr hc. row_more (cell n b) i g m k r c));
    }

    -- a number stored in column i
    column-set : {z : List Float} {m k k' p : ℕ} {v : Float} → Arms n i g b z m k → k < n → p ≡ k * n + i → k' ≡ k + 1 → v ≡ g k → Arms n i g b (set z p v) m k'
    column-set {z} {m} {k} {k'} {p} {v} w h at more e = record {
      so_far =
          rw (at, e, w.so_far, more)
          (grid-set n n (crossed (cell n b) i g m k) b k i (g k) h hi fits ∙ grid_ext n n _ _ b (λ r c hr hc. column_more (cell n b) i g m k r c));
    }

    -- as many of both
    level : {z : List Float} {m : ℕ} → Arms n i g b z m m → m ≤ i + 1 → Crossing n i g b z m
    level {z} {m} w h = record { within = h; size = ap length w.so_far ∙ length-grid n n _ b; so_far = w.so_far }

    -- a cell of both more
    pub cross-one : {z : List Float} {m : ℕ} {v : Float} → Crossing n i g b z m → m ≤ i → v ≡ g m → Crossing n i g b (set (set z (i * n + m) v) (m * n + i) v) (m + 1)
    cross-one {z} {m} {v} w h e =
        let start : Arms n i g b z m m = record { so_far = w.so_far } in
        level (column-set (row_set start (omega arith) refl refl e) (omega arith) refl refl e) (omega arith)

    -- four of both more, from their places p and q on
    pub cross-four :
        {z z' z'' : List Float} {m p q : ℕ} {v0 v1 v2 v3 : Float} → Crossing n i g b z m → m + 4 ≤ i + 1 → p ≡ i * n + m → q ≡ m * n + i
        → (v0 ≡ g m) × (v1 ≡ g (m + 1)) × (v2 ≡ g (m + 2)) × (v3 ≡ g (m + 3))
        → z' ≡ put4 z p v0 v1 v2 v3
        → z'' ≡ set (set (set (set z' q v0) (q + n) v1) (q + n + n) v2) (q + n + n + n) v3
        → Crossing n i g b z'' (m + 4)
    cross-four {z} {z'} {z''} {m} {p} {q} {v0} {v1} {v2} {v3} w h at_row at-column v put down =
        let start : Arms n i g b z m m = record { so_far = w.so_far } in
        let r1 : Arms n i g b _ (m + 1) m = row_set start (omega arith) at_row refl v.0 in
        let r2 : Arms n i g b _ (m + 2) m = row_set {p = p + 1} r1 (omega arith) (omega arith) (omega arith) v.1 in
        let r3 : Arms n i g b _ (m + 3) m = row_set {p = p + 2} r2 (omega arith) (omega arith) (omega arith) v.2 in
        let r4 : Arms n i g b _ (m + 4) m = row_set {p = p + 3} r3 (omega arith) (omega arith) (omega arith) v.3 in
        let c0 : Arms n i g b z' (m + 4) m = record { so_far = put ∙ r4.so_far } in
        let c1 : Arms n i g b _ (m + 4) (m + 1) = column-set c0 (omega arith) at-column refl v.0 in
        let c2 : Arms n i g b _ (m + 4) (m + 2) = column-set {p = q + n} c1 (omega arith) (omega (arith, add-mul m 1 n, one-mul n)) (omega arith) v.1 in
        let c3 : Arms n i g b _ (m + 4) (m + 3) = column-set {p = q + n + n} c2 (omega arith) (omega (arith, add-mul m 2 n)) (omega arith) v.2 in
        let c4 : Arms n i g b _ (m + 4) (m + 4) = column-set {p = q + n + n + n} c3 (omega arith) (omega (arith, add-mul m 3 n)) (omega arith) v.3 in
        level (record { so_far = down ∙ c4.so_far }) h
