-- The buffers that a correction lends, in the order of R5, and the answers of its calls to refusals 1 and 2. Definitions only.
use Rattle.std.specs.Prelude.{List, [], ◌∷◌, ◌++◌, ℕ, ◌*◌, ◌≤◌, length, Float}
use Rattle.answers.specs.Answers.{Answer}
use Rattle.answers.specs.Tests.{Lent, lent, call_answer}

-- the twelve
pub record Buffers : Type 0 where
  pub x : List Float
  pub P : List Float
  pub H : List Float
  pub z : List Float
  pub R : List Float
  pub y : List Float
  pub S : List Float
  pub K : List Float
  pub s_inv : List Float
  pub HP : List Float
  pub PHt : List Float
  pub KHP : List Float

-- made of these
abbrev pub buffers : List Float → List Float → List Float → List Float → List Float → List Float → List Float → List Float → List Float → List Float → List Float → List Float → Buffers
buffers x P H z R y S K s_inv HP PHt KHP = record { x = x; P = P; H = H; z = z; R = R; y = y; S = S; K = K; s_inv = s_inv; HP = HP; PHt = PHt; KHP = KHP }

-- ---- refusals 1 and 2, for n states and m observations; each buffer is lent with so many numbers

-- x, P and H
abbrev pub front : ℕ → ℕ → ℕ → ℕ → ℕ → List Lent
front n m x P H = lent n x ∷ lent (n * n) P ∷ lent (m * n) H ∷ []

-- R, y, S, K, temp_S_inv, temp_HP, temp_PHt and temp_KHP
abbrev pub from_r : ℕ → ℕ → ℕ → ℕ → ℕ → ℕ → ℕ → ℕ → ℕ → ℕ → List Lent
from_r n m R y S K s_inv HP PHt KHP =
    lent (m * m) R ∷ lent m y ∷ lent (m * m) S ∷ lent (n * m) K ∷ lent (m * m) s_inv ∷ lent (m * n) HP ∷ lent (n * m) PHt ∷ lent (n * n) KHP ∷ []

-- those of a call with the buffers b
abbrev pub front_of : ℕ → ℕ → Buffers → List Lent
front_of n m b = front n m (length b.x) (length b.P) (length b.H)

abbrev pub from_r_of : ℕ → ℕ → Buffers → List Lent
from_r_of n m b = from_r n m (length b.R) (length b.y) (length b.S) (length b.K) (length b.s_inv) (length b.HP) (length b.PHt) (length b.KHP)

-- the correction: z stands between H and R
unfoldable pub correct_answer : ℕ → ℕ → Buffers → Answer
correct_answer n m b = call_answer (n ∷ m ∷ []) (front_of n m b ++ lent m (length b.z) ∷ from_r_of n m b) []

-- the update has no z
unfoldable pub update_answer : ℕ → ℕ → Buffers → Answer
update_answer n m b = call_answer (n ∷ m ∷ []) (front_of n m b ++ from_r_of n m b) []

-- the innovation alone: x, H, z, y
unfoldable pub innovation_answer : ℕ → ℕ → ℕ → ℕ → ℕ → ℕ → Answer
innovation_answer n m lx lh lz ly = call_answer (n ∷ m ∷ []) (lent n lx ∷ lent (m * n) lh ∷ lent m lz ∷ lent m ly ∷ []) []

-- ---- what the work below the gates asks: sizes of 1 to 16, and each buffer has its matrix' cells

-- of an update
pub record Held (n m : ℕ) (b : Buffers) : Type 0 where
  pub states : 1 ≤ n
  pub few_states : n ≤ 16
  pub observations : 1 ≤ m
  pub few_observations : m ≤ 16
  pub x_holds : n ≤ length b.x
  pub p_holds : n * n ≤ length b.P
  pub h_holds : m * n ≤ length b.H
  pub r_holds : m * m ≤ length b.R
  pub y_holds : m ≤ length b.y
  pub s_holds : m * m ≤ length b.S
  pub k_holds : n * m ≤ length b.K
  pub s_inv_holds : m * m ≤ length b.s_inv
  pub hp_holds : m * n ≤ length b.HP
  pub pht_holds : n * m ≤ length b.PHt
  pub khp_holds : n * n ≤ length b.KHP
