-- What the innovation, the update and the correction promise (R6, R18 to R20): the answer, and every number of each of the twelve buffers. Definitions only.
use Rattle.std.specs.Prelude.{◌≡◌, cond, ◌&&◌, List, ℕ, length, Float, Ok, Err}
use Rattle.std.specs.Float.{Format}
use Rattle.answers.specs.declared.Refusal.TheVariants.{NotFinite}
use Rattle.answers.specs.Answers.{first_of, settled, Answer}
use Rattle.numbers.specs.Finite.{all_finite, entries_finite}
use Rattle.grids.specs.Grid.{cell, run, grid}
use Rattle.entries.specs.Entries.{numbers}
use Rattle.factors.specs.Decomposed.{pivot_answer}
use Rattle.filters.specs.Correction.{innovation_of, hp_of, factor_of, pivot_of, inverse_of, pht_of, gain_of, new_x, khp_of, new_p}
use Rattle.filters.specs.Lent.{Buffers, buffers, correct_answer, update_answer, innovation_answer}

-- innovation: y = z − H·x
pub record Innovated (f : Format) (n m : ℕ) (x H z y : List Float) (v : Answer) (y' : List Float) : Type 0 where
  pub answer : v ≡ innovation_answer n m (length x) (length H) (length z) (length y)
  pub after : y' ≡ settled v (run 0 m (innovation_of f n (cell n H) (numbers x) (numbers z)) y) y

-- of an update with the buffers b: the gain
abbrev pub gain_in : Format → ℕ → ℕ → Buffers → ℕ → ℕ → Float
gain_in f n m b = gain_of f n m (cell n b.H) (cell n b.P) (cell m b.R) (cell m b.s_inv)

-- the new x, and the new P
abbrev pub next_x : Format → ℕ → ℕ → Buffers → ℕ → Float
next_x f n m b = new_x f m (gain_in f n m b) (numbers b.x) (numbers b.y)

abbrev pub next_p : Format → ℕ → ℕ → Buffers → ℕ → ℕ → Float
next_p f n m b = new_p f n m (gain_in f n m b) (cell n b.H) (cell n b.P)

-- refusal 4 of the first pivot of S that is refused
abbrev pub pivots_answer : Format → ℕ → ℕ → Buffers → Answer
pivots_answer f n m b = pivot_answer (pivot_of f n m (cell n b.H) (cell n b.P) (cell m b.R)) m

-- refusal 9 where some number of the new x, or some entry of the new P, is not finite
abbrev pub finite_answer : ℕ → (ℕ → Float) → (ℕ → ℕ → Float) → Answer
finite_answer n x P = cond (all_finite n x && entries_finite n P) (Ok tt) (Err NotFinite)

-- What the update from the y in the buffers b leaves in the buffers e, g being the answer to refusals 1 and 2 and v the call's.
-- Past 1 and 2 temp_HP and S are written, whatever the pivots are; past 4 temp_S_inv, temp_PHt, K and temp_KHP, whatever x and P would become.
-- Those two go by v, so that every refusal leaves them as lent.
module _ (f : Format) (n m : ℕ) (g v : Answer) (b : Buffers) where
  -- the matrices that are read, as lent
  abbrev H : ℕ → ℕ → Float
  H = cell n b.H

  abbrev P : ℕ → ℕ → Float
  P = cell n b.P

  abbrev R : ℕ → ℕ → Float
  R = cell m b.R

  -- the answer to refusals 1, 2 and 4
  abbrev u : Answer
  u = first_of g (pivots_answer f n m b)

  pub record Renewed (e : Buffers) : Type 0 where
    pub answer : v ≡ first_of u (finite_answer n (next_x f n m b) (next_p f n m b))
    pub hp_after : e.HP ≡ settled g (grid m n (hp_of f n H P) b.HP) b.HP
    pub s_after : e.S ≡ settled g (grid m m (factor_of f n m H P R) b.S) b.S
    pub s_inv_after : e.s_inv ≡ settled u (grid m m (inverse_of f n m H P R (cell m b.s_inv)) b.s_inv) b.s_inv
    pub pht_after : e.PHt ≡ settled u (grid n m (pht_of f n H P) b.PHt) b.PHt
    pub k_after : e.K ≡ settled u (grid n m (gain_in f n m b) b.K) b.K
    pub x_after : e.x ≡ settled v (run 0 n (next_x f n m b) b.x) b.x
    pub khp_after : e.KHP ≡ settled u (grid n n (khp_of f n m (gain_in f n m b) H P) b.KHP) b.KHP
    pub p_after : e.P ≡ settled v (grid n n (next_p f n m b) b.P) b.P

-- the buffers with y renewed
abbrev pub with_y : Buffers → List Float → Buffers
with_y b y = buffers b.x b.P b.H b.z b.R y b.S b.K b.s_inv b.HP b.PHt b.KHP

-- y with the innovation written
abbrev pub innovation_in : Format → ℕ → ℕ → Buffers → List Float
innovation_in f n m b = run 0 m (innovation_of f n (cell n b.H) (numbers b.x) (numbers b.z)) b.y

-- the y of a correction: the innovation, past refusals 1 and 2
abbrev pub innovated : Format → ℕ → ℕ → Buffers → List Float
innovated f n m b = settled (correct_answer n m b) (innovation_in f n m b) b.y

-- update_with_innovation: y is read and stays
pub record Updated (f : Format) (n m : ℕ) (b : Buffers) (v : Answer) (e : Buffers) : Type 0 where
  pub renewed : Renewed f n m (update_answer n m b) v b e
  pub y_after : e.y ≡ b.y

-- correct: the innovation in y, and then the update from it
pub record Corrected (f : Format) (n m : ℕ) (b : Buffers) (v : Answer) (e : Buffers) : Type 0 where
  pub y_after : e.y ≡ innovated f n m b
  pub renewed : Renewed f n m (correct_answer n m b) v (with_y b (innovated f n m b)) e
