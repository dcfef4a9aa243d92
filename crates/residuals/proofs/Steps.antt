-- The steps one after the other: from temp_HP as the call leaves it, and the factor of S as it is formed from that, to the definitions. Assumes nothing.
use mathlib.Core.Path.{◌≡◌, refl, ap, ◌∙◌}
use mathlib.Core.List.{List}
use Prim.Native.Nat.{ℕ, ◌*◌, ◌≤◌}
use lib.ListN.{length}
use lib.Ieee.{Float, Format, add}
use Rattle.grids.specs.Grid.{cell, grid, Same}
use Rattle.grids.proofs.Grids.{grid_ext}
use Rattle.entries.specs.Entries.{product, product_t}
use Rattle.entries.proofs.Written.{written, times_t_alike}
use Rattle.factors.specs.Decomposition.{reached, decomposed}
use Rattle.factors.proofs.Local.{reached_local, decomposed_local}
use Rattle.filters.specs.Correction.{hp_of, residual_of, factor_of, pivot_of}

-- temp_HP = H·P, and the factor of temp_HP·Hᵀ + R: the index, and the factor
pub residual-taken :
    (f : Format) (n m : ℕ) (P H R HP S HP' : List Float) {S' : List Float} {i : ℕ} → m * n ≤ length HP → HP' ≡ grid m n (product f n n H P) HP
    → i ≡ reached f m (λ r c. add f (product_t f n HP' H r c) (cell m R r c))
    → S' ≡ grid m m (decomposed f m (λ r c. add f (product_t f n HP' H r c) (cell m R r c))) S
    → (i ≡ pivot_of f n m (cell n H) (cell n P) (cell m R)) × (S' ≡ grid m m (factor_of f n m (cell n H) (cell n P) (cell m R)) S)
residual-taken f n m P H R HP S HP' fits e₁ e₂ e₃ =
    let same : Same m (λ r c. add f (product_t f n HP' H r c) (cell m R r c)) (residual_of f n (cell n H) (cell n P) (cell m R)) =
    λ r c hr hc. ap (λ (x : Float). add f x (cell m R r c))
    (times_t_alike f m n m (cell n HP') (hp_of f n (cell n H) (cell n P)) (cell n H) (cell n H) (written m n _ HP HP' fits e₁) (λ r c hr hc. refl) r c hr hc) in (
      e₂ ∙ reached_local f m _ _ same,
      e₃ ∙ grid_ext m m _ _ S (decomposed_local f m _ _ same),
    )
