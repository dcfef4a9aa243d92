-- `finish` meets its contract: each buffer as its call leaves it, and the answer by the last test. Assumes nothing.
use mathlib.Core.Path.{refl, sym, ap, ◌∙◌}
use mathlib.Core.Bool.{Bool, cond}
use native.Mathlib.Omega.{arith}
use Rattle.answers.specs.Answers.{Answer}
use Rattle.std.proofs.Common.{Ok, Err}
use Rattle.answers.specs.declared.Refusal.TheVariants.{NotFinite}
use Rattle.grids.specs.Grid.{run}
use Rattle.four_renewals.proofs.Finished.{finished}
use Rattle.four_renewals.proofs.finish.Statement.{statement}
use Rattle.four_renewals.proofs.finish.Tie as tie

returns-then-is_fine : tie.Need-returns-then-is_fine
unfolding run
returns-then-is_fine c =
    finished _ _ _ _ _ _ _ _ _ c.gain_of-gain.ensures c.spread_of-t.ensures c.lessen-n.ensures c.move_by-w.ensures
    (Ok tt) _ _ (ap (λ (t : Bool). cond {A = Answer} t (Ok tt) (Err NotFinite)) (sym c.if-is_fine.true ∙ c.is_fine.ensures))
    c.put.ensures c.put_eight.ensures c.put_eight-2.ensures c.put_sixteen.ensures c.put-then-is_fine.ensures c.put_sixteen-then-is_fine.ensures

returns : tie.Need-returns
unfolding run
returns c =
    finished _ _ _ _ _ _ _ _ _ c.gain_of-gain.ensures c.spread_of-t.ensures c.lessen-n.ensures c.move_by-w.ensures
    (Err NotFinite) _ _ (ap (λ (t : Bool). cond {A = Answer} t (Ok tt) (Err NotFinite)) (sym c.if-is_fine.false ∙ c.is_fine.ensures))
    c.put.ensures c.put_eight.ensures c.put_eight-2.ensures c.put_sixteen.ensures refl refl

pub finish_spec : {M : Type 1} → statement M
finish_spec =
    tie.close
    (tie.spec
    (λ c κs. tt)
    (λ c κs. tt)
    (λ c κs. tt)
    (λ c κs. tt)
    (λ c κs. c.requires.3)
    (λ c κs. c.requires.4)
    (λ c κs. c.requires.2)
    (λ c κs. c.requires.5)
    (λ c κs. tt)
    (λ c κs. c.requires.0)
    (λ c κs. c.requires.1)
    (λ c. omega (arith, c.put-then-is_fine.auto))
    (λ c. omega (arith, c.put_sixteen-then-is_fine.auto))
    (λ c. omega (arith, c.put_eight-2.auto))
    (λ c. omega (arith, c.put.auto))
    (λ c. omega (arith, c.put_eight.auto))
    (λ c. omega (arith, c.put_sixteen.auto))
    returns-then-is_fine
    (λ c. omega (arith, c.put_eight-2.auto))
    (λ c. omega (arith, c.put.auto))
    (λ c. omega (arith, c.put_eight.auto))
    (λ c. omega (arith, c.put_sixteen.auto))
    returns)
