-- What a call over a row leaves, by its answer: done, each record is what the step makes of it; refused, the row is as lent. One law for both calls. Assumes nothing.
use mathlib.Core.Path.{◌≡◌, ap, ◌∙◌}
use mathlib.Core.Bool.{Bool, true, false, cond}
use mathlib.Core.List.{List}
use Prim.Native.Nat.{ℕ, ◌<◌}
use lib.ListN.{length, get_or}
use Rattle.answers.specs.Answers.{is_done, settled, Answer}
use Rattle.rows.specs.Rows.{each}
use Rattle.rows.proofs.Each.{each-length, each_at}

-- row' is what the call with the step g and the answer v leaves of the row
module _ {A : Type 0} (g : ℕ → A → A) (v : Answer) (row row' : List A) (after : row' ≡ settled v (each g (length row) row) row) where
  -- done, all of it is anew ..
  pub all_anew : is_done v ≡ true → row' ≡ each g (length row) row
  all_anew done = after ∙ rw done

  -- .. each record what the step makes of it ..
  pub anew_at : is_done v ≡ true → (i : ℕ) (d : A) → i < length row → get_or row' i d ≡ g i (get_or row i d)
  anew_at done i d h = ap (λ (l : List A). get_or l i d) (all_anew done) ∙ each_at g (length row) i row d h h

  -- .. refused, it is as lent ..
  pub all_kept : is_done v ≡ false → row' ≡ row
  all_kept refused = after ∙ rw refused

  -- .. and either way as long as it was
  pub same_length : length row' ≡ length row
  same_length = go (is_done v) (ap length after)
    where
      go : (b : Bool) → length row' ≡ length (cond b (each g (length row) row) row) → length row' ≡ length row
      go true e = e ∙ each-length g (length row) row
      go false e = e
