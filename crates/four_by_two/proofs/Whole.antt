-- From what the stages leave to what the correction promises at n = 4 and m = 2: each stage's value is made of the general definition's entries, those of the stage before being its operands. Assumes nothing.
use mathlib.Core.Path.{◌≡◌, sym, ap, ap₂, ◌∙◌}
use mathlib.Core.Bool.{Bool, cond}
use mathlib.Core.List.{List, []}
use Prim.Native.Nat.{ℕ, ◌<◌, ◌≤◌}
use native.Mathlib.Omega.{arith}
use borrow.Author.Tests.{le-ltb}
use lib.ListN.{length}
use lib.Ieee.{Float, binary32}
use Rattle.side_by_side.specs.declared.Four.{Four}
use Rattle.side_by_side.specs.declared.Eight.{Eight}
use Rattle.side_by_side.specs.declared.Sixteen.{Sixteen}
use Rattle.std.proofs.Common.{Ok, Err}
use Rattle.answers.specs.declared.Refusal.TheVariants.{Pivot, NotFinite}
use Rattle.answers.specs.Answers.{settled, Answer}
use Rattle.numbers.specs.Reciprocal.{recip_of}
use Rattle.numbers.specs.Sums.{sum_from}
use Rattle.grids.specs.Grid.{cell, run, grid}
use Rattle.entries.specs.Entries.{numbers}
use Rattle.entries.proofs.Written.{front-cell}
use Rattle.factors.specs.Decomposed.{pivot_answer}
use Rattle.factors.specs.Decomposition.{reached, decomposed}
use Rattle.filters.specs.Correction.{innovation_of, hp_of, residual_of, factor_of, pivot_of, inverse_of, pht_of, gain_of, khp_of}
use Rattle.filters.specs.Lent.{Buffers, buffers}
use Rattle.filters.specs.Corrected.{pivots_answer, finite_answer, next_x, next_p, Renewed}
use Rattle.filters.proofs.Calls.{pivot_refused}
use Rattle.four_stages.specs.declared.Operands.{Operands}
use Rattle.four_stages.specs.declared.Root.{Root}
use Rattle.four_stages.specs.declared.Seen.{Seen}
use Rattle.four_values.specs.Values.{of_two, four, square, wide, tall, large, in_four, in_square, in_wide, in_large}
use Rattle.four_stages.specs.Stages.{lent_in, innovation, projected, residual, Observed, Rooted, inverted, crossed, gained, spread, lessened, moved, fine}
use Rattle.four_renewals.specs.Finished.{inverse_in, gain_in, spread_in, new_p_in, new_x_in, Finished}
use Rattle.four_values.proofs.Values.{square_put, four_put, wide_put, tall_put, large_put}
use Rattle.four_stages.proofs.Stages.{projected_of, crossed_of, residual_of_lem, inverted_of, gained_of, spread_of, lessened_of, moved_of, fine_of}
use Rattle.four_stages.proofs.Roots.{reached_of, decomposed_of}

-- what is read of the buffers b and of z, what is seen of it, and its decomposition
pub record Begun (b : Buffers) (z : List Float) (o : Operands) (s : Seen) (root : Root) : Type 0 where
  pub read : o ≡ lent_in b.x b.P b.H z b.R
  pub seen : Observed o s
  pub rooted : Rooted s.s root

-- the buffers that are written past the pivots
abbrev late : Buffers → Buffers
late b = buffers b.x b.P [] [] [] [] [] b.K b.s_inv [] b.PHt b.KHP

module _ {b : Buffers} {z : List Float} {o : Operands} {s : Seen} {root : Root} (begun : Begun b z o s root) where
  abbrev H : ℕ → ℕ → Float
  H = cell 4 b.H

  abbrev P : ℕ → ℕ → Float
  P = cell 4 b.P

  abbrev R : ℕ → ℕ → Float
  R = cell 2 b.R

  abbrev I : ℕ → ℕ → Float
  I = cell 2 b.s_inv

  x_read : o.x ≡ four (numbers b.x)
  unfolding lent_in
  x_read = ap (λ (p : Operands). p.x) begun.read

  p_read : o.p ≡ large P
  unfolding lent_in
  p_read = ap (λ (p : Operands). p.p) begun.read

  h_read : o.h ≡ wide H
  unfolding lent_in
  h_read = ap (λ (p : Operands). p.h) begun.read

  r_read : o.r ≡ square R
  unfolding lent_in
  r_read = ap (λ (p : Operands). p.r) begun.read

  -- the innovation
  abbrev inn : ℕ → Float
  inn = innovation_of binary32 4 H (numbers b.x) (numbers z)

  y0_is : s.y0 ≡ inn 0
  unfolding innovation lent_in sum_from
  y0_is = begun.seen.y0_is ∙ ap (λ (p : Operands). innovation p 0) begun.read

  y1_is : s.y1 ≡ inn 1
  unfolding innovation lent_in sum_from
  y1_is = begun.seen.y1_is ∙ ap (λ (p : Operands). innovation p 1) begun.read

  pub y_left : (y y' : List Float) → y' ≡ run 0 2 (of_two s.y0 s.y1) y → y' ≡ run 0 2 inn y
  unfolding run
  y_left y y' e = e ∙ rw (y0_is, y1_is)

  g_is : s.g ≡ wide (hp_of binary32 4 H P)
  g_is = begun.seen.g_is ∙ ap₂ projected h_read p_read ∙ projected_of H P

  s_is : s.s ≡ square (residual_of binary32 4 H P R)
  s_is =
      begun.seen.s_is ∙ ap (λ (g : Eight). residual g o.h o.r) g_is ∙ ap₂ (residual (wide (hp_of binary32 4 H P))) h_read r_read
      ∙ residual_of_lem (hp_of binary32 4 H P) H R

  taken_is : root.taken ≡ pivot_of binary32 4 2 H P R
  taken_is = begun.rooted.taken_is ∙ ap (λ (t : Four). reached binary32 2 (in_square t)) s_is ∙ reached_of (residual_of binary32 4 H P R)

  l_is : root.l ≡ square (factor_of binary32 4 2 H P R)
  l_is = begun.rooted.l_is ∙ ap (λ (t : Four). square (decomposed binary32 2 (in_square t))) s_is ∙ decomposed_of (residual_of binary32 4 H P R)

  hp_left : (l l' : List Float) → l' ≡ grid 2 4 (in_wide s.g) l → l' ≡ grid 2 4 (hp_of binary32 4 H P) l
  hp_left l l' e = e ∙ ap (λ (g : Eight). grid 2 4 (in_wide g) l) g_is ∙ wide_put (hp_of binary32 4 H P) l

  s_left : (l l' : List Float) → l' ≡ run 0 4 (in_four root.l) l → l' ≡ grid 2 2 (factor_of binary32 4 2 H P R) l
  s_left l l' e = e ∙ ap (λ (t : Four). run 0 4 (in_four t) l) l_is ∙ square_put (factor_of binary32 4 2 H P R) l

  -- a pivot is refused
  pub refused :
      (e : Buffers) → root.taken < 2 → e.HP ≡ grid 2 4 (in_wide s.g) b.HP → e.S ≡ run 0 4 (in_four root.l) b.S
      → e.s_inv ≡ b.s_inv → e.PHt ≡ b.PHt → e.K ≡ b.K → e.x ≡ b.x → e.KHP ≡ b.KHP → e.P ≡ b.P
      → Renewed binary32 4 2 (Ok tt) (Err (Pivot root.taken)) b e
  refused e h vg vs vi vt vk vx vh vp =
      pivot_refused binary32 4 2 b e root.taken h taken_is (hp_left b.HP e.HP vg) (s_left b.S e.S vs) vi vt vk vx vh vp

  -- both are taken
  module _ (h : 2 ≤ root.taken) (y : List Float) (fits : 2 ≤ length y) (stored : b.y ≡ run 0 2 (of_two s.y0 s.y1) y) where
    -- the y that was stored is read again
    y0_read : s.y0 ≡ numbers b.y 0
    y0_read = sym (front-cell 2 (of_two s.y0 s.y1) y b.y 0 (omega arith) fits stored)

    y1_read : s.y1 ≡ numbers b.y 1
    y1_read = sym (front-cell 2 (of_two s.y0 s.y1) y b.y 1 (omega arith) fits stored)

    abbrev L : ℕ → ℕ → Float
    L = factor_of binary32 4 2 H P R

    abbrev G : ℕ → ℕ → Float
    G = gain_of binary32 4 2 H P R I

    told : pivots_answer binary32 4 2 b ≡ Ok tt
    told =
        let none : pivot_answer root.taken 2 ≡ Ok tt = simp (le-ltb root.taken 2 h) in
        ap (λ (k : ℕ). pivot_answer k 2) (sym taken_is) ∙ none

    i_is : inverse_in o s root ≡ square (inverse_of binary32 4 2 H P R I)
    i_is =
        ap₂ (inverted root.l.t2) (begun.rooted.d_is h).0 (begun.rooted.d_is h).1
        ∙ ap (λ (l : Four). inverted l.t2 (recip_of binary32 l.t0) (recip_of binary32 l.t3)) l_is ∙ inverted_of L I

    f_is : crossed o.p o.h ≡ tall (pht_of binary32 4 H P)
    f_is = ap₂ crossed p_read h_read ∙ crossed_of H P

    k_is : gain_in o s root ≡ tall G
    k_is = ap₂ gained f_is i_is ∙ gained_of (pht_of binary32 4 H P) (inverse_of binary32 4 2 H P R I)

    t_is : spread_in o s root ≡ large (khp_of binary32 4 2 G H P)
    t_is = ap₂ spread k_is g_is ∙ spread_of G (hp_of binary32 4 H P)

    n_is : new_p_in o s root ≡ large (next_p binary32 4 2 b)
    n_is = ap₂ lessened p_read t_is ∙ lessened_of P (khp_of binary32 4 2 G H P)

    w_is : new_x_in o s root ≡ four (next_x binary32 4 2 b)
    w_is =
        ap₂ (λ (x : Four) (k : Eight). moved x k s.y0 s.y1) x_read k_is
        ∙ ap₂ (moved (four (numbers b.x)) (tall G)) y0_read y1_read ∙ moved_of (numbers b.x) G (numbers b.y)

    fine_is : cond (fine (new_x_in o s root) (new_p_in o s root)) (Ok tt) (Err NotFinite) ≡ finite_answer 4 (next_x binary32 4 2 b) (next_p binary32 4 2 b)
    fine_is =
        ap₂ (λ (x : Four) (p : Sixteen). cond {A = Answer} (fine x p) (Ok tt) (Err NotFinite)) w_is n_is
        ∙ ap (λ (t : Bool). cond {A = Answer} t (Ok tt) (Err NotFinite)) (fine_of (next_x binary32 4 2 b) (next_p binary32 4 2 b))

    pub renewed :
        (v : Answer) (e : Buffers) → Finished o s root v (late b) (late e) → e.HP ≡ grid 2 4 (in_wide s.g) b.HP → e.S ≡ run 0 4 (in_four root.l) b.S
        → Renewed binary32 4 2 (Ok tt) v b e
    renewed v e done vg vs = record {
      answer = rw told (done.answer ∙ fine_is);
      hp_after = hp_left b.HP e.HP vg;
      s_after = s_left b.S e.S vs;
      s_inv_after = rw told (done.s_inv_after ∙ ap (λ (x : Four). run 0 4 (in_four x) b.s_inv) i_is ∙ square_put _ b.s_inv);
      pht_after = rw told (done.pht_after ∙ ap (λ (x : Eight). grid 2 4 (in_wide x) b.PHt) f_is ∙ tall_put _ b.PHt);
      k_after = rw told (done.k_after ∙ ap (λ (x : Eight). grid 2 4 (in_wide x) b.K) k_is ∙ tall_put _ b.K);
      x_after = done.x_after ∙ ap (λ (x : Four). settled v (run 0 4 (in_four x) b.x) b.x) w_is ∙ ap (λ (j : List Float). settled v j b.x) (four_put _ b.x);
      khp_after = rw told (done.khp_after ∙ ap (λ (x : Sixteen). grid 4 4 (in_large x) b.KHP) t_is ∙ large_put _ b.KHP);
      p_after = done.p_after ∙ ap (λ (x : Sixteen). settled v (grid 4 4 (in_large x) b.P) b.P) n_is ∙ ap (λ (j : List Float). settled v j b.P) (large_put _ b.P);
    }
