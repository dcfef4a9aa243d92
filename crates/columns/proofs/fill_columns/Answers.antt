-- A pivot that is refused is the first; after the last column none was.
use Rattle.std.proofs.Common.{◌≡◌, ℕ, refl, sym, ap, ◌∙◌, add-one, arith}
use borrow.Author.Count.{below_more}
use Rattle.std.specs.Float.{Float, binary32}
use lib.Ieee.{of_bits}
use Rattle.grids.specs.Grid.{grid, cell}
use Rattle.grids.proofs.Grids.{grid_self}
use Rattle.factors.specs.Pivots.{pivot_taken}
use Rattle.factors.specs.Decomposition.{factor, pivot_at, last_recip}
use Rattle.factors.proofs.First.{first_is, first-none}
use Rattle.factors.proofs.Sweep.{swept_refused, swept-taken}
use Rattle.columns.proofs.Stepping.{taken_more, refused_here}
use Rattle.columns.proofs.fill_columns.Goals as goal

pub loop-i-init : goal.loop-i-init
unfolding factor last_recip of_bits
loop-i-init c = record { last = refl; done = sym (grid_self c.args.n c.args.n c.args.t.now); taken = λ k h. absurd (omega arith) }

pub returns-in_default : goal.returns-in_default
returns-in_default c =
    let m = c.args in
    let w = c.loop-i in
    let e = cell m.n m.t.now in
    let g = c.fill_column in
    let z = refused_here binary32 m.n m.t.now w.i (omega arith) (omega arith) w.t w.invariant.done w.d _ g.result _ g.ensures.pivot g.ensures.after c.in_default.is w.invariant.last in
    let r = first_is (λ i. pivot_taken (pivot_at binary32 e i)) m.n w.i (omega arith) w.invariant.taken z.0 in record {
      index = sym r;
      after = z.1 ∙ ap (λ (h : ℕ → ℕ → Float). grid m.n m.n h m.t.now) (sym (swept_refused binary32 m.n e w.i (omega arith) r));
    }

pub loop-i-preserved : goal.loop-i-preserved
loop-i-preserved c =
    let m = c.args in
    let w = c.loop-i in
    let g = c.fill_column in
    let z = taken_more binary32 m.n m.t.now w.i (omega arith) (omega arith) w.t w.invariant.done w.d _ _ g.result _ g.ensures.pivot g.ensures.after c.in-Accepted.is in
    record { last = rw add-one z.1; done = rw add-one z.2; taken = below_more _ _ w.invariant.taken z.0 }

pub returns : goal.returns
returns c =
    let m = c.args in
    let e = cell m.n m.t.now in
    let w = c.loop-i in
    let k : w.i ≡ m.n = omega arith in
    let r = first-none (λ i. pivot_taken (pivot_at binary32 e i)) m.n (rw k at w.invariant.taken) in record {
      index = sym r;
      after = (rw k at w.invariant.done) ∙ ap (λ (g : ℕ → ℕ → Float). grid m.n m.n g m.t.now) (sym (swept-taken binary32 m.n e m.n (omega arith) r));
    }
