-- The steps whose reading or noise is not finite: each is a case of `Brings`.
use mathlib.Core.Path.{◌≡◌, refl}
use lib.Ieee.{of_bits}
use native.Mathlib.Omega.{arith}
use borrow.Author.Tests.{eq-eqb, ne_eqb}
use Rattle.shift.proofs.arrivals.arriving.Goals as goal

pub returns-in-11 : goal.returns-in-11
unfolding of_bits
returns-in-11 c = let at : c.args.step ≡ 11 = c.in-11.is in (λ h. omega arith, rw (eq-eqb c.args.step 11 at), λ h. absurd (omega arith))

pub returns-in-13 : goal.returns-in-13
unfolding of_bits
returns-in-13 c = let at : c.args.step ≡ 13 = c.in-13.is in (λ h. omega arith, rw (ne_eqb c.args.step 11 (λ h. omega arith), ne_eqb c.args.step 15 (λ h. omega arith)), λ h. refl)

pub returns-in-15 : goal.returns-in-15
unfolding of_bits
returns-in-15 c =
    let at : c.args.step ≡ 15 = c.in-15.is in
    (λ h. omega arith, rw (ne_eqb c.args.step 11 (λ h. omega arith), eq-eqb c.args.step 15 at), λ h. absurd (omega arith))
