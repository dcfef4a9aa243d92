-- The words of the theorems on the correction: what two calls, or a call and what was lent to it, have in common, and which pivots are taken. Definitions only.
use Rattle.std.specs.Prelude.{◌≡◌, true, false, ◌⊎◌, List, ℕ, ◌<◌, Float}
use Rattle.std.specs.Float.{Format}
use Rattle.std.specs.Float.Ieee.Scale.{finite}
use Rattle.answers.specs.Answers.{Answer}
use Rattle.grids.specs.Grid.{cell, grid}
use Rattle.factors.specs.Pivots.{pivot_taken}
use Rattle.factors.specs.Decomposition.{pivot_at}
use Rattle.entries.specs.Entries.{numbers}
use Rattle.filters.specs.Correction.{hp_of, residual_of, factor_of, inverse_of, pht_of, khp_of}
use Rattle.filters.specs.Lent.{Buffers}
use Rattle.filters.specs.Corrected.{gain_in, next_x, next_p}

-- two calls gave one answer, v and w, and left every buffer that a correction writes alike, in e and d
pub record SameOutcome (v w : Answer) (e d : Buffers) : Type 0 where
  pub answer : v ≡ w
  pub x : e.x ≡ d.x
  pub P : e.P ≡ d.P
  pub y : e.y ≡ d.y
  pub S : e.S ≡ d.S
  pub K : e.K ≡ d.K
  pub s_inv : e.s_inv ≡ d.s_inv
  pub HP : e.HP ≡ d.HP
  pub PHt : e.PHt ≡ d.PHt
  pub KHP : e.KHP ≡ d.KHP

-- every buffer that a correction writes is as lent; H, z and R are only read
pub record AsLent (b e : Buffers) : Type 0 where
  pub x : e.x ≡ b.x
  pub P : e.P ≡ b.P
  pub y : e.y ≡ b.y
  pub S : e.S ≡ b.S
  pub K : e.K ≡ b.K
  pub s_inv : e.s_inv ≡ b.s_inv
  pub HP : e.HP ≡ b.HP
  pub PHt : e.PHt ≡ b.PHt
  pub KHP : e.KHP ≡ b.KHP

-- what refusal 4 leaves: x, P, K, temp_S_inv, temp_PHt and temp_KHP are as lent, y is the one given, temp_HP is as computed, and S as the decomposition leaves it
pub record Kept4 (f : Format) (n m : ℕ) (y : List Float) (b e : Buffers) : Type 0 where
  pub x : e.x ≡ b.x
  pub P : e.P ≡ b.P
  pub K : e.K ≡ b.K
  pub s_inv : e.s_inv ≡ b.s_inv
  pub PHt : e.PHt ≡ b.PHt
  pub KHP : e.KHP ≡ b.KHP
  pub y_is : e.y ≡ y
  pub HP : e.HP ≡ grid m n (hp_of f n (cell n b.H) (cell n b.P)) b.HP
  pub S : e.S ≡ grid m m (factor_of f n m (cell n b.H) (cell n b.P) (cell m b.R)) b.S

-- What the steps leave besides x and P, from the y given, once every pivot is taken: y, temp_HP, the lower factor in S, its inverse, temp_PHt, the gain, temp_KHP.
pub record Worked (f : Format) (n m : ℕ) (y : List Float) (b e : Buffers) : Type 0 where
  pub y_is : e.y ≡ y
  pub HP : e.HP ≡ grid m n (hp_of f n (cell n b.H) (cell n b.P)) b.HP
  pub S : e.S ≡ grid m m (factor_of f n m (cell n b.H) (cell n b.P) (cell m b.R)) b.S
  pub s_inv : e.s_inv ≡ grid m m (inverse_of f n m (cell n b.H) (cell n b.P) (cell m b.R) (cell m b.s_inv)) b.s_inv
  pub PHt : e.PHt ≡ grid n m (pht_of f n (cell n b.H) (cell n b.P)) b.PHt
  pub K : e.K ≡ grid n m (gain_in f n m b) b.K
  pub KHP : e.KHP ≡ grid n n (khp_of f n m (gain_in f n m b) (cell n b.H) (cell n b.P)) b.KHP

-- what refusal 9 leaves: x and P are as lent, and the seven others as the accepted call leaves them
pub record Kept9 (f : Format) (n m : ℕ) (y : List Float) (b e : Buffers) : Type 0 where
  pub x : e.x ≡ b.x
  pub P : e.P ≡ b.P
  pub worked : Worked f n m y b e

-- the residual's covariance before it is decomposed
abbrev pub covariance : Format → ℕ → ℕ → Buffers → ℕ → ℕ → Float
covariance f n m b = residual_of f n (cell n b.H) (cell n b.P) (cell m b.R)

-- every pivot of it is taken
abbrev pub AllTaken : Format → ℕ → ℕ → Buffers → Type 0
AllTaken f n m b = (k : ℕ) → k < m → pivot_taken (pivot_at f (covariance f n m b) k) ≡ true

-- ---- which numbers are finite

-- each of the n numbers k ↦ x k and of the n by n entries (r, c) ↦ P r c
abbrev pub EachFinite : ℕ → (ℕ → Float) → (ℕ → ℕ → Float) → Type 0
EachFinite n x P = ((r : ℕ) → r < n → finite (x r) ≡ true) × ((r c : ℕ) → r < n → c < n → finite (P r c) ≡ true)

-- one of them is not
abbrev pub SomeNotFinite : ℕ → (ℕ → Float) → (ℕ → ℕ → Float) → Type 0
SomeNotFinite n x P = ((r : ℕ) × (r < n) × (finite (x r) ≡ false)) ⊎ ((r : ℕ) × (c : ℕ) × (r < n) × (c < n) × (finite (P r c) ≡ false))

-- so of the new x and P of an update with the buffers b, its y among them
abbrev pub NextFinite : Format → ℕ → ℕ → Buffers → Type 0
NextFinite f n m b = EachFinite n (next_x f n m b) (next_p f n m b)

abbrev pub NextNotFinite : Format → ℕ → ℕ → Buffers → Type 0
NextNotFinite f n m b = SomeNotFinite n (next_x f n m b) (next_p f n m b)

-- so of what the buffers x and P begin with
abbrev pub HeldFinite : ℕ → List Float → List Float → Type 0
HeldFinite n x P = EachFinite n (numbers x) (cell n P)

abbrev pub HeldNotFinite : ℕ → List Float → List Float → Type 0
HeldNotFinite n x P = SomeNotFinite n (numbers x) (cell n P)

-- each number of the buffer l that was finite, wherever it stands, is finite in l'
abbrev pub StaysFinite : List Float → List Float → Type 0
StaysFinite l l' = (i : ℕ) → finite (numbers l i) ≡ true → finite (numbers l' i) ≡ true
