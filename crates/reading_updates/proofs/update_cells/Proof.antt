-- `update_cells` meets its contract: where m is three, what is said of three observations is said of m; elsewhere it is the update as it stands. Assumes nothing.
use mathlib.Core.Path.{sym, subst}
use mathlib.Core.List.{[]}
use Prim.Native.Nat.{ℕ}
use lib.Ieee.{binary32}
use Rattle.std.proofs.Common.{Ok}
use Rattle.filters.specs.Lent.{buffers, Held}
use Rattle.filters.specs.Corrected.{Renewed}
use borrow.Author.Rules.{rules}
use Rattle.reading_updates.proofs.update_cells.Statement.{statement}
use Rattle.reading_updates.proofs.update_cells.Tie as tie

update_three-requires : tie.Need-update_three-requires
update_three-requires c κs =
    let a = c.args in
    subst (λ (i : ℕ). Held a.n i (buffers a.x.now a.p.now a.h.now [] a.r.now a.y.now a.s.now a.k.now a.temp_s_inv.now a.temp_hp.now a.temp_pht.now a.temp_khp.now)) c.if-m-eq3.true c.requires

-- the buffers as lent, and as the update of three observations leaves them
returns-then-m-eq3 : tie.Need-returns-then-m-eq3
returns-then-m-eq3 c =
    let a = c.args in
    let l = c.update_three.new in
    subst (λ (i : ℕ). Renewed binary32 a.n i (Ok tt) c.update_three.result (buffers a.x.now a.p.now a.h.now [] a.r.now a.y.now a.s.now a.k.now a.temp_s_inv.now a.temp_hp.now a.temp_pht.now a.temp_khp.now)
    (buffers l.x l.p a.h.now [] a.r.now a.y.now l.s l.k l.temp_s_inv l.temp_hp l.temp_pht l.temp_khp)) (sym c.if-m-eq3.true) c.update_three.ensures

pub update_cells_spec : {M : Type 1} → statement M
update_cells_spec =
    tie.close
    (tie.spec
    update_three-requires
    (λ c. search rules)
    (λ c. search rules)
    (λ c. search rules)
    (λ c. search rules)
    (λ c. search rules)
    (λ c. search rules)
    (λ c. search rules)
    (λ c. search rules)
    returns-then-m-eq3
    (λ c κs. search rules)
    (λ c. search rules)
    (λ c. search rules)
    (λ c. search rules)
    (λ c. search rules)
    (λ c. search rules)
    (λ c. search rules)
    (λ c. search rules)
    (λ c. search rules)
    (λ c. search rules))
