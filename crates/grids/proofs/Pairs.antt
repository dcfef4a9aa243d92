-- A loop that stores an operation of two buffers' entries in the first of them, entry by entry, and what a call that does so promises.
-- The entry that a turn reads in the buffer that it writes is still as lent. Assumes nothing.
use mathlib.Core.Path.{◌≡◌, sym, ap, ◌∙◌}
use mathlib.Core.Bool.{Bool, true, false}
use mathlib.Core.List.{List}
use Prim.Native.Nat.{ℕ, ◌+◌, ◌*◌}
use native.Mathlib.Nat.{zero-add}
use native.Mathlib.Omega.{arith}
use lib.ListN.{length, get_or, set}
use lib.Ieee.{Float, Format, nan, add}
use Rattle.answers.specs.Answers.{is_done, Answer}
use Rattle.grids.specs.Grid.{run}
use Rattle.grids.specs.Cells.{pair_answer}
use Rattle.grids.specs.Sums.{InPlace}
use Rattle.grids.proofs.Grids.{run_more, run_past, run_ext, grid_flat}
use Rattle.grids.proofs.Calls.{written_by, kept_by}
use Rattle.numbers.proofs.Commute.{terms_commute}

-- one entry more, in a
pub stored_more :
    (op : Float → Float → Float) (i : ℕ) (a b l : List Float) (v : Float) → l ≡ run 0 i (λ k. op (get_or a k nan) (get_or b k nan)) a → v ≡ op (get_or l i nan) (get_or b i nan)
    → set l i v ≡ run 0 (i + 1) (λ k. op (get_or a k nan) (get_or b k nan)) a
stored_more op i a b l v e q =
    let same : get_or l i nan ≡ get_or a i nan = ap (λ (z : List Float). get_or z i nan) e ∙ run_past 0 i _ a i (omega arith) in
    rw (q, same, e, run_more 0 i (λ k. op (get_or a k nan) (get_or b k nan)) a, zero-add)

module _ {op : Float → Float → Float} {rows cols : ℕ} {a b d : List Float} {v : Answer} {done : Bool} where
  -- A call that is done has stored the entries of the matrix.
  pub stored_in :
      {d' : List Float} → v ≡ pair_answer rows cols (length a) (length b) → done ≡ is_done v → done ≡ true → d' ≡ run 0 (rows * cols) (λ k. op (get_or a k nan) (get_or b k nan)) d
      → InPlace op rows cols a b d v d'
  stored_in e p t q = record { answer = e; after = written_by d e p t (q ∙ sym (grid_flat rows cols (λ k. op (get_or a k nan) (get_or b k nan)) d)) }

  -- One that is refused has left the buffer as lent.
  pub left_in : v ≡ pair_answer rows cols (length a) (length b) → done ≡ is_done v → done ≡ false → InPlace op rows cols a b d v d
  left_in e p t = record { answer = e; after = kept_by _ e p t }

-- A sum stored in its right term's place is the one with its terms exchanged.
pub added_right : (f : Format) (n : ℕ) (a b d : List Float) → run 0 n (λ k. add f (get_or b k nan) (get_or a k nan)) d ≡ run 0 n (λ k. add f (get_or a k nan) (get_or b k nan)) d
added_right f n a b d = run_ext 0 n _ _ d (λ k h. terms_commute f (get_or b k nan) (get_or a k nan))
