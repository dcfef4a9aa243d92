-- `correct_cells` meets its contract: where (n, m) is (2, 1) or (4, 2), what is said of those sizes is said of n and m; elsewhere y is the innovation, and the update reads it there. Assumes nothing.
use mathlib.Core.Path.{◌≡◌, sym, subst}
use mathlib.Core.List.{[]}
use Prim.Native.Nat.{ℕ, ◌≤◌}
use native.Mathlib.Omega.{arith}
use borrow.Author.Tests.{eqb-true}
use lib.ListN.{length}
use lib.Ieee.{binary32}
use Rattle.std.proofs.Common.{Ok}
use Rattle.answers.specs.Answers.{Answer}
use Rattle.grids.specs.Grid.{cell, run}
use Rattle.entries.specs.Entries.{numbers}
use Rattle.filters.specs.Correction.{innovation_of}
use Rattle.filters.specs.Lent.{Buffers, buffers, Held}
use Rattle.filters.specs.Corrected.{Renewed, with_y}
use Rattle.filters.proofs.CorrectionFits.{held_with}
use Rattle.reading_cells.proofs.correct_cells.Statement.{statement}
use Rattle.reading_cells.proofs.correct_cells.Tie as tie

-- ---- where the function began, from each of its cases

abbrev begun : tie.After-slice_known-9-1 → tie.Start
begun c = c.before.before.before.before.before.before.before.before.before.before.before.before

abbrev start1 : tie.Then-m-eq1 → tie.Start
start1 c = begun c.before.before

abbrev start2 : tie.Then-m-eq2 → tie.Start
start2 c = begun c.before.before.before

abbrev start3 : tie.Joined-else-n-eq4 → tie.Start
start3 c = begun c.before.before

-- ---- k states and l observations in the place of n and m

-- the buffers as lent; z has no place among those of the update
abbrev lent : tie.Start → Buffers
lent s =
    let a = s.args in
    buffers a.x.now a.p.now a.h.now [] a.r.now a.y.now a.s.now a.k.now a.temp_s_inv.now a.temp_hp.now a.temp_pht.now a.temp_khp.now

-- they hold what they are to hold
abbrev Fits : tie.Start → ℕ → ℕ → Type 0
Fits s k l = Held k l (lent s) × (l ≤ length s.args.z.now)

fits : (s : tie.Start) (k l : ℕ) → s.args.n ≡ k → s.args.m ≡ l → Fits s k l
fits s k l p q = subst (λ (i : ℕ). Fits s i l) p (subst (Fits s s.args.n) q s.requires)

-- the innovation is in y, and the update from it in the others
abbrev Left : tie.Start → Answer → Buffers → ℕ → ℕ → Type 0
Left s v e k l =
    let a = s.args in
    (e.y ≡ run 0 l (innovation_of binary32 k (cell k a.h.now) (numbers a.x.now) (numbers a.z.now)) a.y.now)
    × Renewed binary32 k l (Ok tt) v (with_y (lent s) e.y) e

left : (s : tie.Start) (k l : ℕ) {v : Answer} {e : Buffers} → s.args.n ≡ k → s.args.m ≡ l → Left s v e k l → Left s v e s.args.n s.args.m
left s k l {v} {e} p q h = subst (Left s v e s.args.n) (sym q) (subst (λ (i : ℕ). Left s v e i l) (sym p) h)

abbrev end1 : tie.After-correct_two → Buffers
end1 d =
    let a = d.args in
    let l = d.correct_two.new in
    buffers l.x l.p a.h.now [] a.r.now l.y l.s l.k l.temp_s_inv l.temp_hp l.temp_pht l.temp_khp

abbrev end2 : tie.After-correct_four → Buffers
end2 d =
    let a = d.args in
    let l = d.correct_four.new in
    buffers l.x l.p a.h.now [] a.r.now l.y l.s l.k l.temp_s_inv l.temp_hp l.temp_pht l.temp_khp

pub correct_cells_spec : {M : Type 1} → statement M
correct_cells_spec =
    tie.close
    (tie.spec
    (λ c κs. let t = c.before.before.before.before.before.before.before.before.before in fits (start1 t) 2 1 t.if-n-eq2.true (eqb-true _ _ t.if-m-eq1.true-raw))
    (λ c. c.x-1.given)
    (λ c. c.p-1.given)
    (λ c. c.y-1.given)
    (λ c. c.s-1.given)
    (λ c. c.k-1.given)
    (λ c. c.temp_s_inv-1.given)
    (λ c. c.temp_hp-1.given)
    (λ c. c.temp_pht-1.given)
    (λ c. c.temp_khp-1.given)
    (λ c. let d = c.before.before.before.before.before.before.before.before.before.before.before.before.before.before.before.before.before.before in let t = d.before.before.before.before.before.before.before.before.before.before in left (start1 t) 2 1 {e = end1 d} t.if-n-eq2.true (eqb-true _ _ t.if-m-eq1.true-raw) d.correct_two.ensures)
    (λ c κs. let t = c.before.before.before.before.before.before.before.before.before in fits (start2 t) 4 2 t.if-n-eq4.true (eqb-true _ _ t.if-m-eq2.true-raw))
    (λ c. c.x-then-m-eq2-1.given)
    (λ c. c.p-then-m-eq2-1.given)
    (λ c. c.y-then-m-eq2-1.given)
    (λ c. c.s-then-m-eq2-1.given)
    (λ c. c.k-then-m-eq2-1.given)
    (λ c. c.temp_s_inv-then-m-eq2-1.given)
    (λ c. c.temp_hp-then-m-eq2-1.given)
    (λ c. c.temp_pht-then-m-eq2-1.given)
    (λ c. c.temp_khp-then-m-eq2-1.given)
    (λ c. let d = c.before.before.before.before.before.before.before.before.before.before.before.before.before.before.before.before.before.before in let t = d.before.before.before.before.before.before.before.before.before.before in left (start2 t) 4 2 {e = end2 d} t.if-n-eq4.true (eqb-true _ _ t.if-m-eq2.true-raw) d.correct_four.ensures)
    (λ c κs. let s = start3 c.before in let h = s.requires.0 in (h.states, h.x_holds, h.h_holds, s.requires.1, h.y_holds))
    (λ c κs. let s = start3 c.before.before.before.before.before.before.before.before.before.before.before.before in let h = s.requires.0 in held_with _ _ (lent s) _ [] h (omega (arith, h.y_holds)))
    (λ c. c.x-2-1.given)
    (λ c. c.p-2-1.given)
    (λ c. c.y-2-1.given)
    (λ c. c.s-2-1.given)
    (λ c. c.k-2-1.given)
    (λ c. c.temp_s_inv-2-1.given)
    (λ c. c.temp_hp-2-1.given)
    (λ c. c.temp_pht-2-1.given)
    (λ c. c.temp_khp-2-1.given)
    (λ c. (c.innovate_cells.ensures, c.update_cells.ensures)))
