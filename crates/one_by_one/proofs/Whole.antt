-- From the numbers that the correction stores to what it promises at n = m = 1: S, the gain and its product with H·P are as their calls say, and the rest computes. Assumes nothing.
use mathlib.Core.Path.{◌≡◌, sym, ap, ap₂, ◌∙◌}
use mathlib.Core.Bool.{Bool, true, false, ◌&&◌}
use mathlib.Core.List.{List}
use Prim.Native.Nat.{ℕ, ◌≤◌}
use lib.ListN.{length, set}
use lib.Ieee.{Float, binary32, add, sub, mul}
use lib.Ieee.Scale.{finite}
use Rattle.std.proofs.Common.{Ok, Err}
use Rattle.answers.specs.declared.Refusal.TheVariants.{Pivot, NotFinite}
use Rattle.numbers.specs.Reciprocal.{recip_of}
use Rattle.numbers.specs.Root.{sqrt_of}
use Rattle.numbers.specs.Sums.{plus0, sum_from}
use Rattle.grids.specs.Grid.{cell, run, grid}
use Rattle.entries.specs.Entries.{numbers, times}
use Rattle.factors.specs.Pivots.{pivot_taken}
use Rattle.filters.specs.Correction.{innovation_of, hp_of, residual_of, pht_of, new_x, khp_of, new_p}
use Rattle.filters.specs.Lent.{Buffers}
use Rattle.filters.specs.Corrected.{Renewed}
use Rattle.filters.proofs.Straight.{inverted_one, refused_by_one, renewed_by_one, one_passed, one_failed}

-- of the buffers b and of z: s is S
module _ (b : Buffers) (z : List Float) {s : Float} (told : s ≡ residual_of binary32 1 (cell 1 b.H) (cell 1 b.P) (cell 1 b.R) 0 0) where
  abbrev H : ℕ → ℕ → Float
  H = cell 1 b.H

  abbrev P : ℕ → ℕ → Float
  P = cell 1 b.P

  -- the innovation
  abbrev inn : ℕ → Float
  inn = innovation_of binary32 1 H (numbers b.x) (numbers z)

  -- the pivot is refused
  pub refused :
      (e : Buffers) → pivot_taken s ≡ false
      → e.HP ≡ set b.HP 0 (hp_of binary32 1 H P 0 0)
      → e.S ≡ set b.S 0 (mul binary32 s plus0)
      → e.s_inv ≡ b.s_inv → e.PHt ≡ b.PHt → e.K ≡ b.K → e.x ≡ b.x → e.KHP ≡ b.KHP → e.P ≡ b.P
      → Renewed binary32 1 1 (Ok tt) (Err (Pivot 0)) b e
  unfolding run grid
  refused e t vg vs vi vt vk vx vh vp =
      refused_by_one binary32 1 b e (ap pivot_taken (sym told) ∙ t) vg (vs ∙ ap (λ (a : Float). set b.S 0 (mul binary32 a plus0)) told) vi vt vk vx vh vp

  -- it is taken: l is the root of S, d the root's reciprocal, k the gain, and t the gain times H·P
  module _ {l : Float} (d : Float) (taken : pivot_taken s ≡ true) (root : l ≡ sqrt_of binary32 s) (recip : d ≡ recip_of binary32 l) where
    abbrev K : ℕ → ℕ → Float
    K = times binary32 1 (pht_of binary32 1 H P) (λ r c. inverted_one binary32 d)

    abbrev X : ℕ → Float
    X = new_x binary32 1 K (numbers b.x) inn

    abbrev N : ℕ → ℕ → Float
    N = new_p binary32 1 1 K H P

    module _
        {k t : Float} (gain : k ≡ K 0 0) (spread : t ≡ khp_of binary32 1 1 K H P 0 0) (e : Buffers)
        (y : List Float) (holds : 1 ≤ length y) (stored : b.y ≡ set y 0 (inn 0))
        (vg : e.HP ≡ set b.HP 0 (hp_of binary32 1 H P 0 0))
        (vs : e.S ≡ set b.S 0 l)
        (vi : e.s_inv ≡ set b.s_inv 0 (inverted_one binary32 d))
        (vt : e.PHt ≡ set b.PHt 0 (pht_of binary32 1 H P 0 0))
        (vk : e.K ≡ set b.K 0 k)
        (vh : e.KHP ≡ set b.KHP 0 t) where
      -- the new x and the new P as they are computed
      abbrev w : Float
      w = add binary32 (numbers b.x 0) (mul binary32 k (inn 0))

      abbrev n : Float
      n = sub binary32 (P 0 0) t

      w_is : w ≡ X 0
      unfolding sum_from
      w_is = ap (λ (g : Float). add binary32 (numbers b.x 0) (mul binary32 g (inn 0))) gain

      n_is : n ≡ N 0 0
      n_is = ap (sub binary32 (P 0 0)) spread

      module _ {q : Bool} (says : q ≡ finite w && finite n) where
        fine : q ≡ finite (X 0) && finite (N 0 0)
        fine = says ∙ ap₂ (λ (i j : Float). finite i && finite j) w_is n_is

        -- the last test is passed, and x and P are stored
        pub passed : q ≡ true → e.x ≡ set b.x 0 w → e.P ≡ set b.P 0 n → Renewed binary32 1 1 (Ok tt) (Ok tt) b e
        unfolding run grid
        passed u vx vp =
            renewed_by_one binary32 1 b e z d (Ok tt) l y holds stored (ap pivot_taken (sym told) ∙ taken) (root ∙ ap (sqrt_of binary32) told) recip (one_passed X N q fine u)
            vg vs vi vt (vk ∙ ap (set b.K 0) gain) (vh ∙ ap (set b.KHP 0) spread) (vx ∙ ap (set b.x 0) w_is) (vp ∙ ap (set b.P 0) n_is)

        -- it is not, and they stay
        pub failed : q ≡ false → e.x ≡ b.x → e.P ≡ b.P → Renewed binary32 1 1 (Ok tt) (Err NotFinite) b e
        unfolding run grid
        failed u vx vp =
            renewed_by_one binary32 1 b e z d (Err NotFinite) l y holds stored (ap pivot_taken (sym told) ∙ taken) (root ∙ ap (sqrt_of binary32) told) recip (one_failed X N q fine u)
            vg vs vi vt (vk ∙ ap (set b.K 0) gain) (vh ∙ ap (set b.KHP 0) spread) vx vp
