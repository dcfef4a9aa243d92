-- What the correction of four states by two observations leaves past the pivots, in the buffers e of those in l. Definitions only.
use Rattle.std.specs.Prelude.{◌≡◌, cond, Ok, Err}
use Rattle.side_by_side.specs.declared.Four.{Four}
use Rattle.side_by_side.specs.declared.Eight.{Eight}
use Rattle.side_by_side.specs.declared.Sixteen.{Sixteen}
use Rattle.answers.specs.declared.Refusal.TheVariants.{NotFinite}
use Rattle.answers.specs.Answers.{settled, Answer}
use Rattle.grids.specs.Grid.{run, grid}
use Rattle.filters.specs.Lent.{Buffers}
use Rattle.four_values.specs.Values.{in_four, in_wide, in_large}
use Rattle.four_stages.specs.declared.Operands.{Operands}
use Rattle.four_stages.specs.declared.Root.{Root}
use Rattle.four_stages.specs.declared.Seen.{Seen}
use Rattle.four_stages.specs.Stages.{inverted, crossed, gained, spread, lessened, moved, fine}

module _ (b : Operands) (s : Seen) (root : Root) where
  abbrev pub inverse_in : Four
  inverse_in = inverted root.l.t2 root.d0 root.d1

  abbrev pub gain_in : Eight
  gain_in = gained (crossed b.p b.h) inverse_in

  abbrev pub spread_in : Sixteen
  spread_in = spread gain_in s.g

  abbrev pub new_p_in : Sixteen
  new_p_in = lessened b.p spread_in

  abbrev pub new_x_in : Four
  new_x_in = moved b.x gain_in s.y0 s.y1

  pub record Finished (v : Answer) (l e : Buffers) : Type 0 where
    pub answer : v ≡ cond (fine new_x_in new_p_in) (Ok tt) (Err NotFinite)
    pub s_inv_after : e.s_inv ≡ run 0 4 (in_four inverse_in) l.s_inv
    pub pht_after : e.PHt ≡ grid 2 4 (in_wide (crossed b.p b.h)) l.PHt
    pub k_after : e.K ≡ grid 2 4 (in_wide gain_in) l.K
    pub khp_after : e.KHP ≡ grid 4 4 (in_large spread_in) l.KHP
    pub x_after : e.x ≡ settled v (run 0 4 (in_four new_x_in) l.x) l.x
    pub p_after : e.P ≡ settled v (grid 4 4 (in_large new_p_in) l.P) l.P
