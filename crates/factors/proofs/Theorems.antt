-- What the decomposition promises further, of any call that keeps its promise `Decomposed`: refusals 1 to 3 keep the buffer, refusal 4 exactly, only the upper triangle matters, the factor's diagonal, one outcome.
-- The answer says which pivots are taken, by the laws of the first index that fails; the buffer is read cell by cell. Assumes nothing.
use mathlib.Core.Path.{◌≡◌, sym, ap, ◌∙◌}
use mathlib.Core.Bool.{true, false}
use mathlib.Core.List.{List}
use mathlib.Core.Logic.{◌⊎◌}
use Prim.Native.Nat.{ℕ, ◌<◌, ◌≤◌}
use native.Mathlib.Omega.{arith}
use lib.Dec.{T}
use lib.ListN.{length}
use lib.Ieee.{Float, Format, fits}
use lib.Ieee.Scale.{finite}
use lib.Ieee.Positive.{positive}
use Rattle.std.proofs.Common.{Ok, Err}
use Rattle.answers.specs.declared.Refusal.TheVariants.{Pivot}
use Rattle.answers.specs.Answers.{number_of, is_done, Answer}
use Rattle.numbers.specs.Reciprocal.{recip_of}
use Rattle.numbers.specs.Root.{sqrt_of}
use Rattle.grids.specs.Cells.{square_answer}
use Rattle.grids.specs.Grid.{grid, cell}
use Rattle.grids.proofs.Grids.{grid-cell}
use Rattle.factors.specs.Pivots.{pivot_taken}
use Rattle.factors.specs.Decomposition.{pivot_at, reached, decomposed, FirstRefused, SameUpper}
use Rattle.factors.specs.Decomposed.{pivot_answer, Decomposed}
use Rattle.factors.proofs.First.{first_is}
use Rattle.factors.proofs.Named.{first_done, names_first, named_first, named_before, done_where_taken, done_reached, taken_where_done}
use Rattle.factors.proofs.Calls.{refused_at_gate, square_fits}
use Rattle.factors.proofs.OnlyUpper.{reached_upper, decomposed_upper, refused_upper}
use Rattle.factors.proofs.Diagonal.{pivot_refused, diagonal_is, diagonal_both}

-- ---- a call on a matrix that is not refused with 1 or 2

module _ (f : Format) (n : ℕ) (t : List Float) (v : Answer) (t' : List Float) (call : Decomposed f n t v t') (fit : is_done (square_answer n (length t)) ≡ true) where
  -- its answer goes by the index reached
  answered : v ≡ pivot_answer (reached f n (cell n t)) n
  answered = call.answer ∙ rw fit

  -- its buffer is the grid of the definition
  renewed : t' ≡ grid n n (decomposed f n (cell n t)) t
  renewed = call.after ∙ rw fit

  -- what it leaves, cell by cell
  left_at : (r c : ℕ) → r < n → c < n → cell n t' r c ≡ decomposed f n (cell n t) r c
  left_at r c hr hc =
      ap (λ (l : List Float). cell n l r c) renewed ∙ grid-cell n n (decomposed f n (cell n t)) t r c hr hc (square_fits n (length t) fit)

  -- It answers 4 with i where i is the index of the first pivot that is not above zero or not finite ..
  pub says_4 : (i : ℕ) → FirstRefused f n (cell n t) i → v ≡ Err (Pivot i)
  says_4 = names_first f n (cell n t) v answered

  -- .. and only there.
  pub only_4 : (i : ℕ) → v ≡ Err (Pivot i) → FirstRefused f n (cell n t) i
  only_4 = named_first f n (cell n t) v answered

  -- It is done where every pivot is above zero and finite ..
  pub says_done : ((k : ℕ) → k < n → pivot_taken (pivot_at f (cell n t) k) ≡ true) → v ≡ Ok tt
  says_done = done_where_taken f n (cell n t) v answered

  -- A diagonal entry of the matrix that is NaN or infinite is refused, at its index or before it.
  pub not_finite_says_4 : (i : ℕ) → i < n → finite (cell n t i i) ≡ false → (k : ℕ) × (k ≤ i) × (v ≡ Err (Pivot k))
  not_finite_says_4 i h b = named_before f n (cell n t) v answered i h (pivot_refused f (cell n t) i b)

  -- where it is done no pivot stopped it
  reached_all : v ≡ Ok tt → n ≤ reached f n (cell n t)
  reached_all = done_reached f n (cell n t) v answered

-- Refused with 1, 2 or 3 it leaves the buffer as lent.
pub refused_keeps : (f : Format) (n : ℕ) (t : List Float) (v : Answer) (t' : List Float) → Decomposed f n t v t' → 1 ≤ number_of v → number_of v ≤ 3 → t' ≡ t
refused_keeps f n t v t' call l h = rw (refused_at_gate (square_answer n (length t)) (reached f n (cell n t)) n v call.answer l h) at call.after

-- ---- a call that is done

module _ (f : Format) (n : ℕ) (t : List Float) (v : Answer) (t' : List Float) (call : Decomposed f n t v t') (done : v ≡ Ok tt) where
  -- it was not refused with 1 or 2
  pub done_fits : is_done (square_answer n (length t)) ≡ true
  done_fits = first_done (square_answer n (length t)) (pivot_answer (reached f n (cell n t)) n) (sym call.answer ∙ done)

  -- .. and only there: every pivot is above zero and finite.
  pub only_done : (k : ℕ) → k < n → pivot_taken (pivot_at f (cell n t) k) ≡ true
  only_done = taken_where_done f n (cell n t) v (answered f n t v t' call done_fits) done

  -- the cell on the diagonal, and what was reached
  diagonal_at : (i : ℕ) → i < n → cell n t' i i ≡ decomposed f n (cell n t) i i
  diagonal_at i h = left_at f n t v t' call done_fits i i h h

  all_taken : n ≤ reached f n (cell n t)
  all_taken = reached_all f n t v t' call done_fits done

  -- Each entry on the diagonal of the factor is the root of its pivot ..
  pub diagonal_root : (i : ℕ) → i < n → cell n t' i i ≡ sqrt_of f (pivot_at f (cell n t) i)
  diagonal_root i h = diagonal_at i h ∙ diagonal_is f n (cell n t) all_taken i h

  -- .. and is finite and above zero, and so is its reciprocal, where the numbers of the matrix are values of the format, as those of a lent buffer are.
  pub diagonal_positive :
      ((r c : ℕ) → r < n → c < n → T (fits f (cell n t r c))) → (i : ℕ) → i < n → T (positive (cell n t' i i)) × T (positive (recip_of f (cell n t' i i)))
  diagonal_positive held i h = rw (diagonal_at i h) (diagonal_both f n (cell n t) all_taken (held 0 0 (omega arith) (omega arith)) i h)

-- ---- two calls

-- Two calls on matrices that have the same diagonal and upper triangle answer alike, and where they are done leave alike.
pub only_upper :
    (f : Format) (n : ℕ) (t u : List Float) (v w : Answer) (t' u' : List Float) → Decomposed f n t v t' → Decomposed f n u w u'
    → is_done (square_answer n (length t)) ≡ true → is_done (square_answer n (length u)) ≡ true → SameUpper n (cell n t) (cell n u)
    → (v ≡ w) × (v ≡ Ok tt → (r c : ℕ) → r < n → c < n → cell n t' r c ≡ cell n u' r c)
only_upper f n t u v w t' u' a b ft fu same =
    let e = cell n t in
    let g = cell n u in (
      answered f n t v t' a ft ∙ ap (λ (i : ℕ). pivot_answer i n) (reached_upper f n e g same) ∙ sym (answered f n u w u' b fu),
      λ d r c hr hc.
          left_at f n t v t' a ft r c hr hc ∙ decomposed_upper f n e g same (reached_all f n t v t' a ft d) r c hr hc ∙ sym (left_at f n u w u' b fu r c hr hc),
    )

-- Where they are refused, the cells on the diagonal, above it and in the columns done are alike: every cell that either has written is among them.
pub only_upper_refused :
    (f : Format) (n : ℕ) (t u : List Float) (v w : Answer) (t' u' : List Float) → Decomposed f n t v t' → Decomposed f n u w u'
    → is_done (square_answer n (length t)) ≡ true → is_done (square_answer n (length u)) ≡ true → SameUpper n (cell n t) (cell n u)
    → (i : ℕ) → v ≡ Err (Pivot i) → (r c : ℕ) → r < n → c < n → (r ≤ c) ⊎ (c < i) → cell n t' r c ≡ cell n u' r c
only_upper_refused f n t u v w t' u' a b ft fu same i q r c hr hc at =
    let e = cell n t in
    let first = only_4 f n t v t' a ft i q in
    left_at f n t v t' a ft r c hr hc
    ∙ refused_upper f n e (cell n u) same i first.within (first_is (λ k. pivot_taken (pivot_at f e k)) n i first.within first.before first.here) r c hr hc at
    ∙ sym (left_at f n u w u' b fu r c hr hc)

-- Two results of one call are equal.
pub unique : (f : Format) (n : ℕ) (t : List Float) (v w : Answer) (t' t'' : List Float) → Decomposed f n t v t' → Decomposed f n t w t'' → (v ≡ w) × (t' ≡ t'')
unique f n t v w t' t'' p q = (cc, cc)
