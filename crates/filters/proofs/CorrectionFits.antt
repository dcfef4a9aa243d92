-- What it says that a call is not refused with 1 or 2: the sizes are 1 to 16, and the buffers hold their matrices. Assumes nothing.
use mathlib.Core.Path.{◌≡◌}
use mathlib.Core.Bool.{true}
use mathlib.Core.List.{List, [], ◌∷◌, ◌++◌}
use Prim.Native.Nat.{ℕ, ◌*◌, ◌≤◌}
use lib.ListN.{length}
use lib.Ieee.{Float}
use Rattle.answers.specs.Answers.{number_of, is_done}
use Rattle.answers.specs.Tests.{lent}
use Rattle.answers.proofs.Fit as fits
use Rattle.answers.proofs.Fit.{fit}
use Rattle.answers.proofs.Table.{at_most_3}
use Rattle.filters.specs.Lent.{Buffers, buffers, front_of, from_r_of, correct_answer, update_answer, innovation_answer, Held}

-- n states and m observations; x, H, z and y of so many numbers
pub record Observed (n m lx lh lz ly : ℕ) : Type 0 where
  pub states : 1 ≤ n
  pub x_holds : n ≤ lx
  pub h_holds : m * n ≤ lh
  pub z_holds : m ≤ lz
  pub y_holds : m ≤ ly

-- the sizes, x, P, H, and the buffers from R on
held : (n m : ℕ) (b : Buffers) → fits.Sizes (n ∷ m ∷ []) → n ≤ length b.x → n * n ≤ length b.P → m * n ≤ length b.H → fits.Buffers (from_r_of n m b) → Held n m b
held n m b s x P H l =
    let k = l.1.1.1.1 in
    record {
      states = s.0;
      few_states = s.1;
      observations = s.2.0;
      few_observations = s.2.1;
      x_holds = x;
      p_holds = P;
      h_holds = H;
      r_holds = l.0;
      y_holds = l.1.0;
      s_holds = l.1.1.0;
      k_holds = l.1.1.1.0;
      s_inv_holds = k.0;
      hp_holds = k.1.0;
      pht_holds = k.1.1.0;
      khp_holds = k.1.1.1.0;
    }

-- Where the answer for an innovation is done, its buffers hold what they are to hold.
pub innovation_fits : (n m lx lh lz ly : ℕ) → is_done (innovation_answer n m lx lh lz ly) ≡ true → Observed n m lx lh lz ly
unfolding innovation_answer
innovation_fits n m lx lh lz ly e =
    let h = fit (n ∷ m ∷ []) (lent n lx ∷ lent (m * n) lh ∷ lent m lz ∷ lent m ly ∷ []) [] e in
    let l = h.1 in
    record { states = h.0.0; x_holds = l.0; h_holds = l.1.0; z_holds = l.1.1.0; y_holds = l.1.1.1.0 }

-- So for an update.
pub update_fits : (n m : ℕ) (b : Buffers) → is_done (update_answer n m b) ≡ true → Held n m b
unfolding update_answer
update_fits n m b e =
    let h = fit (n ∷ m ∷ []) (front_of n m b ++ from_r_of n m b) [] e in
    held n m b h.0 h.1.0 h.1.1.0 h.1.1.1.0 h.1.1.1.1

-- So for a correction, of which z is one buffer more.
pub correct_fits : (n m : ℕ) (b : Buffers) → is_done (correct_answer n m b) ≡ true → Held n m b × (m ≤ length b.z)
unfolding correct_answer
correct_fits n m b e =
    let h = fit (n ∷ m ∷ []) (front_of n m b ++ lent m (length b.z) ∷ from_r_of n m b) [] e in
    (held n m b h.0 h.1.0 h.1.1.0 h.1.1.1.0 h.1.1.1.1.1, h.1.1.1.1.0)

-- The doors say no more than 3.
pub update_at_most_3 : (n m : ℕ) (b : Buffers) → number_of (update_answer n m b) ≤ 3
unfolding update_answer
update_at_most_3 n m b = at_most_3 (n ∷ m ∷ []) (front_of n m b ++ from_r_of n m b) []

pub correct_at_most_3 : (n m : ℕ) (b : Buffers) → number_of (correct_answer n m b) ≤ 3
unfolding correct_answer
correct_at_most_3 n m b = at_most_3 (n ∷ m ∷ []) (front_of n m b ++ lent m (length b.z) ∷ from_r_of n m b) []

-- The buffers hold what they are to hold with another y that is long enough, and whatever z is.
pub held_with : (n m : ℕ) (b : Buffers) (y z : List Float) → Held n m b → m ≤ length y → Held n m (buffers b.x b.P b.H z b.R y b.S b.K b.s_inv b.HP b.PHt b.KHP)
held_with n m b y z h l = record {
  states = h.states;
  few_states = h.few_states;
  observations = h.observations;
  few_observations = h.few_observations;
  x_holds = h.x_holds;
  p_holds = h.p_holds;
  h_holds = h.h_holds;
  r_holds = h.r_holds;
  y_holds = l;
  s_holds = h.s_holds;
  k_holds = h.k_holds;
  s_inv_holds = h.s_inv_holds;
  hp_holds = h.hp_holds;
  pht_holds = h.pht_holds;
  khp_holds = h.khp_holds;
}
