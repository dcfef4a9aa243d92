-- A product by way of the transpose: its entries are those of a·bᵀ. Assumes nothing.
use mathlib.Core.Path.{◌≡◌, sym, ap, ◌∙◌}
use mathlib.Core.List.{List}
use Prim.Native.Nat.{ℕ, ◌*◌, ◌≤◌}
use lib.ListN.{length}
use lib.Ieee.{Float, Format}
use Rattle.grids.specs.Grid.{cell, grid}
use Rattle.grids.proofs.Grids.{grid-cell, grid_ext}
use Rattle.entries.specs.Entries.{product, product_t}
use Rattle.entries.proofs.Agree.{transposed_agrees}

-- where t holds bᵀ, written over t₀, and c' is a·t, written over c, it is a·bᵀ
pub by_transpose :
    (f : Format) (rows inner cols : ℕ) (a b c c' t t₀ : List Float) → t ≡ grid inner cols (λ k j. cell inner b j k) t₀
    → c' ≡ grid rows cols (product f inner cols a t) c → inner * cols ≤ length t₀
    → c' ≡ grid rows cols (product_t f inner a b) c
by_transpose f rows inner cols a b c c' t t₀ e q fits =
    q
    ∙ grid_ext rows cols (product f inner cols a t) (product_t f inner a b) c
    (λ r j lr lj. transposed_agrees f rows inner cols a t c b (λ k i lk li. sym (ap (λ (l : List Float). cell cols l k i) e ∙ grid-cell inner cols (λ k j. cell inner b j k) t₀ k i lk li fits)) r j lj)
