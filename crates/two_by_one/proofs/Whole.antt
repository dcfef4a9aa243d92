-- From what the stages leave to what the correction promises at n = 2 and m = 1: a sum that is started last is the definition's (`late_zeros/proofs/Starts.antt`), and the rest computes. Assumes nothing.
use mathlib.Core.Path.{◌≡◌, sym, ap, ap₂, ◌∙◌}
use mathlib.Core.Bool.{Bool, true, false, ◌&&◌}
use mathlib.Core.List.{List}
use Prim.Native.Nat.{ℕ, ◌≤◌}
use lib.ListN.{length, set}
use lib.Ieee.{Float, binary32, add, mul}
use lib.Ieee.Scale.{finite}
use Rattle.std.proofs.Common.{Ok, Err}
use Rattle.answers.specs.declared.Refusal.TheVariants.{Pivot, NotFinite}
use Rattle.numbers.specs.Reciprocal.{recip_of}
use Rattle.numbers.specs.Root.{sqrt_of}
use Rattle.numbers.specs.Sums.{plus0, sum_from}
use Rattle.late_zeros.proofs.Starts.{ordered}
use Rattle.grids.specs.Grid.{cell, run, grid}
use Rattle.entries.specs.Entries.{numbers, times}
use Rattle.factors.specs.Pivots.{pivot_taken}
use Rattle.filters.specs.Correction.{innovation_of, hp_of, residual_of, pht_of, new_x, khp_of, new_p}
use Rattle.filters.specs.Lent.{Buffers}
use Rattle.filters.specs.Corrected.{Renewed}
use Rattle.filters.proofs.Straight.{inverted_one, refused_by_one, renewed_by_one, two_passed, two_failed}
use Rattle.two_stages.specs.declared.Operands.{Operands}
use Rattle.two_stages.specs.declared.Seen.{Seen}
use Rattle.two_stages.specs.declared.Renewal.{Renewal}
use Rattle.two_stages.specs.Stages.{lent_in, started, seen, made, renewal}
use Rattle.two_stages.proofs.Parts.{made_is}

-- l is the root of S, d the root's reciprocal, and w the renewal
pub record Ended (o : Operands) (s : Seen) (l d : Float) (w : Renewal) : Type 0 where
  pub taken : pivot_taken s.s ≡ true
  pub root : l ≡ sqrt_of binary32 s.s
  pub recip : d ≡ recip_of binary32 l
  pub new : w ≡ renewal o s (inverted_one binary32 d)

-- ---- before the pivot: o is what is read of the buffers b and of z, and s what is seen of it

pub record Begun (b : Buffers) (z : List Float) (o : Operands) (s : Seen) : Type 0 where
  pub read : o ≡ lent_in b.x b.P b.H z b.R
  pub told : s ≡ seen o

module _ {b : Buffers} {z : List Float} {o : Operands} {s : Seen} (begun : Begun b z o s) where
  abbrev H : ℕ → ℕ → Float
  H = cell 2 b.H

  abbrev P : ℕ → ℕ → Float
  P = cell 2 b.P

  abbrev R : ℕ → ℕ → Float
  R = cell 1 b.R

  abbrev lent : Operands
  lent = lent_in b.x b.P b.H z b.R

  all_seen : s ≡ seen lent
  all_seen = begun.told ∙ ap seen begun.read

  abbrev inn : ℕ → Float
  inn = innovation_of binary32 2 H (numbers b.x) (numbers z)

  y_is : s.y ≡ inn 0
  unfolding seen lent_in sum_from
  y_is = ap (λ (t : Seen). t.y) all_seen

  pub y_left : (y y' : List Float) → y' ≡ set y 0 s.y → y' ≡ run 0 1 inn y
  unfolding run
  y_left y y' e = e ∙ ap (set y 0) y_is

  -- the numbers of H·P
  g0_is : started s.u0 ≡ hp_of binary32 2 H P 0 0
  unfolding seen lent_in sum_from
  g0_is = ap (λ (t : Seen). started t.u0) all_seen ∙ ordered binary32 (H 0 0) (P 0 0) (H 0 1) (P 1 0)

  g1_is : started s.u1 ≡ hp_of binary32 2 H P 0 1
  unfolding seen lent_in sum_from
  g1_is = ap (λ (t : Seen). started t.u1) all_seen ∙ ordered binary32 (H 0 0) (P 0 1) (H 0 1) (P 1 1)

  -- those of P·Hᵀ
  f0_is : started s.v0 ≡ pht_of binary32 2 H P 0 0
  unfolding seen lent_in sum_from
  f0_is = ap (λ (t : Seen). started t.v0) all_seen ∙ ordered binary32 (P 0 0) (H 0 0) (P 0 1) (H 0 1)

  f1_is : started s.v1 ≡ pht_of binary32 2 H P 1 0
  unfolding seen lent_in sum_from
  f1_is = ap (λ (t : Seen). started t.v1) all_seen ∙ ordered binary32 (P 1 0) (H 0 0) (P 1 1) (H 0 1)

  -- S
  s_is : s.s ≡ residual_of binary32 2 H P R 0 0
  unfolding seen lent_in sum_from
  s_is =
      ap (λ (t : Seen). t.s) all_seen
      ∙ ap₂ (λ (g h : Float). add binary32 (add binary32 (started (mul binary32 g (H 0 0))) (mul binary32 h (H 0 1))) (R 0 0))
      (ordered binary32 (H 0 0) (P 0 0) (H 0 1) (P 1 0)) (ordered binary32 (H 0 0) (P 0 1) (H 0 1) (P 1 1))

  hp_left : (l l' : List Float) → l' ≡ set (set l 0 (started s.u0)) 1 (started s.u1) → l' ≡ grid 1 2 (hp_of binary32 2 H P) l
  unfolding run grid
  hp_left l l' e = e ∙ ap₂ (λ (g h : Float). set (set l 0 g) 1 h) g0_is g1_is

  -- the pivot is refused
  pub refused :
      (e : Buffers) → pivot_taken s.s ≡ false
      → e.HP ≡ set (set b.HP 0 (started s.u0)) 1 (started s.u1)
      → e.S ≡ set b.S 0 (mul binary32 s.s plus0)
      → e.s_inv ≡ b.s_inv → e.PHt ≡ b.PHt → e.K ≡ b.K → e.x ≡ b.x → e.KHP ≡ b.KHP → e.P ≡ b.P
      → Renewed binary32 2 1 (Ok tt) (Err (Pivot 0)) b e
  refused e t vg vs vi vt vk vx vh vp =
      refused_by_one binary32 2 b e (ap pivot_taken (sym s_is) ∙ t) (hp_left b.HP e.HP vg) (vs ∙ ap (λ (a : Float). set b.S 0 (mul binary32 a plus0)) s_is) vi vt vk vx vh vp

  -- ---- after it

  module _ {l d : Float} {w : Renewal} (ended : Ended o s l d w) where
    abbrev J : ℕ → ℕ → Float
    J r c = inverted_one binary32 d

    abbrev K : ℕ → ℕ → Float
    K = times binary32 1 (pht_of binary32 2 H P) J

    abbrev T : ℕ → ℕ → Float
    T = khp_of binary32 2 1 K H P

    w_is : w ≡ made lent (inn 0) (K 0 0) (K 1 0) (T 0 0) (T 0 1) (T 1 0) (T 1 1)
    unfolding renewal sum_from
    w_is =
        let k : Float → Float = λ f. started (mul binary32 f (inverted_one binary32 d)) in
        let t : Float → Float → Float = λ f g. started (mul binary32 (k f) g) in
        ended.new ∙ made_is o s.y (ap k f0_is) (ap k f1_is) (ap₂ t f0_is g0_is) (ap₂ t f0_is g1_is) (ap₂ t f1_is g0_is) (ap₂ t f1_is g1_is)
        ∙ ap₂ (λ (p : Operands) (y : Float). made p y (K 0 0) (K 1 0) (T 0 0) (T 0 1) (T 1 0) (T 1 1)) begun.read y_is

    abbrev X : ℕ → Float
    X = new_x binary32 1 K (numbers b.x) inn

    abbrev N : ℕ → ℕ → Float
    N = new_p binary32 2 1 K H P

    -- the test, which says it of the renewal, says it of the new x and P
    fine : {q : Bool} → q ≡ (finite w.w0 && finite w.w1) && (((finite w.n.t0 && finite w.n.t1) && finite w.n.t2) && finite w.n.t3)
        → q ≡ (finite (X 0) && finite (X 1)) && (((finite (N 0 0) && finite (N 0 1)) && finite (N 1 0)) && finite (N 1 1))
    unfolding lent_in sum_from
    fine h = h ∙ ap (λ (v : Renewal). (finite v.w0 && finite v.w1) && (((finite v.n.t0 && finite v.n.t1) && finite v.n.t2) && finite v.n.t3)) w_is

    -- what is stored whatever the verdict is
    module _ (e : Buffers) (y : List Float) (holds : 1 ≤ length y) (stored : b.y ≡ set y 0 s.y)
        (vg : e.HP ≡ set (set b.HP 0 (started s.u0)) 1 (started s.u1))
        (vs : e.S ≡ set b.S 0 l)
        (vi : e.s_inv ≡ set b.s_inv 0 (inverted_one binary32 d))
        (vt : e.PHt ≡ set (set b.PHt 0 (started s.v0)) 1 (started s.v1))
        (vk : e.K ≡ set (set b.K 0 w.k0) 1 w.k1)
        (vh : e.KHP ≡ set (set (set (set b.KHP 0 w.t.t0) 1 w.t.t1) 2 w.t.t2) 3 w.t.t3) where
      pht_left : e.PHt ≡ grid 2 1 (pht_of binary32 2 H P) b.PHt
      unfolding run grid
      pht_left = vt ∙ ap₂ (λ (f g : Float). set (set b.PHt 0 f) 1 g) f0_is f1_is

      k_left : e.K ≡ grid 2 1 K b.K
      unfolding run grid
      k_left = vk ∙ ap (λ (v : Renewal). set (set b.K 0 v.k0) 1 v.k1) w_is

      khp_left : e.KHP ≡ grid 2 2 T b.KHP
      unfolding run grid
      khp_left = vh ∙ ap (λ (v : Renewal). set (set (set (set b.KHP 0 v.t.t0) 1 v.t.t1) 2 v.t.t2) 3 v.t.t3) w_is

      module _ {q : Bool} (says : q ≡ (finite w.w0 && finite w.w1) && (((finite w.n.t0 && finite w.n.t1) && finite w.n.t2) && finite w.n.t3)) where
        -- it is passed, and x and P are stored
        pub passed :
            q ≡ true → e.x ≡ set (set b.x 0 w.w0) 1 w.w1
            → e.P ≡ set (set (set (set b.P 0 w.n.t0) 1 w.n.t1) 2 w.n.t2) 3 w.n.t3
            → Renewed binary32 2 1 (Ok tt) (Ok tt) b e
        unfolding run grid lent_in sum_from
        passed t vx vp =
            renewed_by_one binary32 2 b e z d (Ok tt) l y holds (y_left y b.y stored) (ap pivot_taken (sym s_is) ∙ ended.taken) (ended.root ∙ ap (sqrt_of binary32) s_is) ended.recip
            (two_passed X N q (fine says) t) (hp_left b.HP e.HP vg) vs vi pht_left k_left khp_left
            (vx ∙ ap (λ (v : Renewal). set (set b.x 0 v.w0) 1 v.w1) w_is)
            (vp ∙ ap (λ (v : Renewal). set (set (set (set b.P 0 v.n.t0) 1 v.n.t1) 2 v.n.t2) 3 v.n.t3) w_is)

        -- it is not, and they stay
        pub failed : q ≡ false → e.x ≡ b.x → e.P ≡ b.P → Renewed binary32 2 1 (Ok tt) (Err NotFinite) b e
        failed t vx vp =
            renewed_by_one binary32 2 b e z d (Err NotFinite) l y holds (y_left y b.y stored) (ap pivot_taken (sym s_is) ∙ ended.taken) (ended.root ∙ ap (sqrt_of binary32) s_is) ended.recip
            (two_failed X N q (fine says) t) (hp_left b.HP e.HP vg) vs vi pht_left k_left khp_left vx vp
