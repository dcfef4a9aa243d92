-- The stages past the pivots as they are called, one on what the other gave: together they are the definition's. Assumes nothing.
use mathlib.Core.Path.{◌≡◌, ap, ap₂, ◌∙◌}
use mathlib.Core.Bool.{cond}
use Rattle.side_by_side.specs.declared.Four.{Four}
use Rattle.side_by_side.specs.declared.Eight.{Eight}
use Rattle.side_by_side.specs.declared.Sixteen.{Sixteen}
use Rattle.std.proofs.Common.{Ok, Err}
use Rattle.answers.specs.declared.Refusal.TheVariants.{NotFinite}
use Rattle.answers.specs.Answers.{settled, Answer}
use Rattle.grids.specs.Grid.{run, grid}
use Rattle.filters.specs.Lent.{Buffers}
use Rattle.four_values.specs.Values.{in_four, in_wide, in_large}
use Rattle.four_stages.specs.declared.Operands.{Operands}
use Rattle.four_stages.specs.declared.Root.{Root}
use Rattle.four_stages.specs.declared.Seen.{Seen}
use Rattle.four_stages.specs.Stages.{inverted, crossed, gained, spread, lessened, moved, fine}
use Rattle.four_renewals.specs.Finished.{gain_in, spread_in, new_p_in, new_x_in, Finished}

module _
    (b : Operands) (s : Seen) (root : Root) (i : Four) (f k : Eight) (t n : Sixteen) (w : Four)
    (qg : (i ≡ inverted root.l.t2 root.d0 root.d1) × (f ≡ crossed b.p b.h) × (k ≡ gained f i))
    (qt : t ≡ spread k s.g) (qn : n ≡ lessened b.p t) (qw : w ≡ moved b.x k s.y0 s.y1) where
  k_in : k ≡ gain_in b s root
  k_in = qg.2 ∙ ap₂ gained qg.1 qg.0

  t_in : t ≡ spread_in b s root
  t_in = qt ∙ ap (λ (j : Eight). spread j s.g) k_in

  n_in : n ≡ new_p_in b s root
  n_in = qn ∙ ap (lessened b.p) t_in

  w_in : w ≡ new_x_in b s root
  w_in = qw ∙ ap (λ (j : Eight). moved b.x j s.y0 s.y1) k_in

  pub finished :
      (v : Answer) (l e : Buffers) → v ≡ cond (fine w n) (Ok tt) (Err NotFinite)
      → e.s_inv ≡ run 0 4 (in_four i) l.s_inv → e.PHt ≡ grid 2 4 (in_wide f) l.PHt → e.K ≡ grid 2 4 (in_wide k) l.K → e.KHP ≡ grid 4 4 (in_large t) l.KHP
      → e.x ≡ settled v (run 0 4 (in_four w) l.x) l.x → e.P ≡ settled v (grid 4 4 (in_large n) l.P) l.P
      → Finished b s root v l e
  finished v l e a vi vf vk vt vx vp = record {
    answer = a ∙ ap₂ (λ (x : Four) (p : Sixteen). cond {A = Answer} (fine x p) (Ok tt) (Err NotFinite)) w_in n_in;
    s_inv_after = vi ∙ ap (λ (x : Four). run 0 4 (in_four x) l.s_inv) qg.0;
    pht_after = vf ∙ ap (λ (x : Eight). grid 2 4 (in_wide x) l.PHt) qg.1;
    k_after = vk ∙ ap (λ (x : Eight). grid 2 4 (in_wide x) l.K) k_in;
    khp_after = vt ∙ ap (λ (x : Sixteen). grid 4 4 (in_large x) l.KHP) t_in;
    x_after = vx ∙ ap (λ (x : Four). settled v (run 0 4 (in_four x) l.x) l.x) w_in;
    p_after = vp ∙ ap (λ (x : Sixteen). settled v (grid 4 4 (in_large x) l.P) l.P) n_in;
  }
