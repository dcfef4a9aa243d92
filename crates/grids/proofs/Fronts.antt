-- A buffer whose first n numbers are stored at once, as `&mut l[..n]` lends them: a list, and what lies past it in the buffer. It is a run, cell by cell. Assumes nothing.
use mathlib.Core.Path.{◌≡◌, sym, ap, ◌∙◌}
use mathlib.Core.Logic.{⊎_elim}
use mathlib.Core.List.{List, ◌++◌}
use Prim.Native.Nat.{ℕ, ◌-◌, ◌<◌, ◌≤◌}
use native.Mathlib.Nat.{zero-add}
use native.Mathlib.Omega.{arith}
use lib.ListN.{length, get_or, take, drop, length-append, length-drop, length-take, replicate, length-replicate}
use lib.Seq.{get_or-append_right, get_or-drop, ext_get_or}
use lib.Ieee.{Float, nan}
use Rattle.std.proofs.lemmas.List.{get_or_append_left, get_or-replicate, get_or-take}
use Rattle.grids.specs.Grid.{run}
use Rattle.grids.proofs.Grids.{length_run, run_past, run-cell, below_or}

-- n numbers in front of what l holds past them
pub front_run : (n : ℕ) (g : ℕ → Float) (l ys : List Float) → n ≤ length l → length ys ≡ n → ((j : ℕ) → j < n → get_or ys j nan ≡ g j) → ys ++ drop n l ≡ run 0 n g l
front_run n g l ys fits long here =
    ext_get_or nan (ys ++ drop n l) (run 0 n g l) (omega (arith, length-append ys (drop n l), length-drop n l, length_run 0 n g l)) (λ i lt.
    ⊎_elim
    (λ (h : i < n). get_or_append_left ys (drop n l) nan i (omega arith) ∙ here i h ∙ sym (rw zero-add at (run-cell 0 n g l i h (omega arith))))
    (λ (h : n ≤ i).
    get_or-append_right ys (drop n l) i nan (omega arith)
    ∙ get_or-drop n l (i - length ys) nan
    ∙ ap (λ (k : ℕ). get_or l k nan) (omega arith)
    ∙ sym (run_past 0 n g l i (omega arith)))
    (below_or i n))

-- n times one number
pub front_filled : (n : ℕ) (x : Float) (l : List Float) → n ≤ length l → replicate n x ++ drop n l ≡ run 0 n (λ i. x) l
front_filled n x l fits = front_run n (λ i. x) l (replicate n x) fits (length-replicate n x) (λ j h. get_or-replicate n j x nan h)

-- the first n numbers of another buffer
pub front_copied : (n : ℕ) (k l : List Float) → n ≤ length k → n ≤ length l → take n k ++ drop n l ≡ run 0 n (λ i. get_or k i nan) l
front_copied n k l long fits = front_run n (λ i. get_or k i nan) l (take n k) fits (omega (arith, length-take n k)) (λ j h. get_or-take n k j nan h)
