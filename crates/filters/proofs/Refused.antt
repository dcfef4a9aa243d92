-- A call of the innovation, the update or the correction that is refused with 1, 2 or 3 leaves every lent buffer as lent.
-- Such an answer is the gate's, since the pivots are told by 4 or by done, and the last test by 9 or by done; and each promise gives a buffer by the gate's answer, by that up to the pivots or by the call's. Assumes nothing.
use mathlib.Core.Path.{◌≡◌, sym, ap, ◌∙◌}
use mathlib.Core.Bool.{false, ◌&&◌}
use mathlib.Core.List.{List}
use Prim.Native.Nat.{ℕ, ◌≤◌}
use native.Mathlib.Omega.{arith}
use lib.Ieee.{Float, Format}
use Rattle.answers.specs.Answers.{number_of, is_done, first_of, Answer}
use Rattle.answers.proofs.Kept.{not_done}
use Rattle.numbers.specs.Finite.{all_finite, entries_finite}
use Rattle.grids.specs.Grid.{cell}
use Rattle.factors.proofs.Calls.{refused_at_gate}
use Rattle.filters.specs.Correction.{pivot_of}
use Rattle.filters.specs.Lent.{Buffers, correct_answer, update_answer}
use Rattle.filters.specs.Corrected.{Innovated, next_x, next_p, pivots_answer, Renewed, Updated, Corrected, with_y, innovated}
use Rattle.filters.specs.Outcomes.{AsLent}
use Rattle.filters.proofs.Verdict.{earlier}

-- The innovation writes y alone.
pub innovation_keeps : {f : Format} {n m : ℕ} {x H z y : List Float} (v : Answer) {y' : List Float} → Innovated f n m x H z y v y' → 1 ≤ number_of v → number_of v ≤ 3 → y' ≡ y
innovation_keeps v c l h = rw (not_done v l) at c.after

module _ {f : Format} {n m : ℕ} (g v : Answer) (b e : Buffers) (r : Renewed f n m g v b e) (l : 1 ≤ number_of v) (h : number_of v ≤ 3) where
  -- such an answer came before the last test ..
  early : v ≡ first_of g (pivots_answer f n m b)
  early = earlier (first_of g (pivots_answer f n m b)) (all_finite n (next_x f n m b) && entries_finite n (next_p f n m b)) v r.answer l (omega arith)

  -- .. and before the pivots
  at_gate : is_done g ≡ false
  at_gate = refused_at_gate g (pivot_of f n m (cell n b.H) (cell n b.P) (cell m b.R)) m v early l h

  -- what an update with the gate's answer g leaves, y aside
  renewed_keeps : e.y ≡ b.y → AsLent b e
  renewed_keeps y =
      let no = not_done v l in
      let no_pivot : is_done (first_of g (pivots_answer f n m b)) ≡ false = ap is_done (sym early) ∙ no in
      record {
        x = rw no at r.x_after;
        P = rw no at r.p_after;
        y = y;
        S = rw at_gate at r.s_after;
        K = rw no_pivot at r.k_after;
        s_inv = rw no_pivot at r.s_inv_after;
        HP = rw at_gate at r.hp_after;
        PHt = rw no_pivot at r.pht_after;
        KHP = rw no_pivot at r.khp_after;
      }

pub update_keeps : {f : Format} {n m : ℕ} (b : Buffers) (v : Answer) (e : Buffers) → Updated f n m b v e → 1 ≤ number_of v → number_of v ≤ 3 → AsLent b e
update_keeps {n = n} {m} b v e c l h = renewed_keeps (update_answer n m b) v b e c.renewed l h c.y_after

pub correct_keeps : {f : Format} {n m : ℕ} (b : Buffers) (v : Answer) (e : Buffers) → Corrected f n m b v e → 1 ≤ number_of v → number_of v ≤ 3 → AsLent b e
correct_keeps {f} {n} {m} b v e c l h =
    let given = with_y b (innovated f n m b) in
    let gate = at_gate (correct_answer n m b) v given e c.renewed l h in
    let k = renewed_keeps (correct_answer n m b) v given e c.renewed l h c.y_after in
    record { x = k.x; P = k.P; y = rw gate at c.y_after; S = k.S; K = k.K; s_inv = k.s_inv; HP = k.HP; PHt = k.PHt; KHP = k.KHP }
