-- `is_fine` meets its contract: the tests of the rows one after another, after that of x. Assumes nothing.
use mathlib.Core.Bool.{Bool, ◌&&◌}
use mathlib.Core.Path.{◌≡◌, sym, ap, ◌∙◌}
use Prim.Native.Nat.{ℕ}
use Rattle.numbers.specs.Finite.{every, all_finite, entries_finite}
use Rattle.four_values.specs.Values.{in_large}
use Rattle.four_stages.specs.Stages.{fine}
use Rattle.four_stages.proofs.Stages.{both, not_first}
use Rattle.four_stages.proofs.is_fine.Goals as goal

pub returns-then-also : goal.returns-then-also
unfolding fine every
returns-then-also c =
    let so_far : Bool → ℕ → Bool = λ t r. t && all_finite 4 (in_large c.args.n r) in
    let rows : c.also-rows.result ≡ entries_finite 4 (in_large c.args.n) =
    c.also-rows.ensures ∙ ap (λ (t : Bool). so_far t 3) (c.also-3.ensures ∙ ap (λ (t : Bool). so_far t 2) (c.also-2.ensures ∙ ap (λ (t : Bool). so_far t 1) c.also.ensures)) in
    both _ _ _ (sym c.also-4.ensures ∙ c.if-also.true) rows

pub returns-else-also : goal.returns-else-also
unfolding fine
returns-else-also c = c.if-also.false ∙ not_first _ _ (sym c.also-4.ensures ∙ c.if-also.false)
