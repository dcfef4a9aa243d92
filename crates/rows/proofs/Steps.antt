-- The steps of the functions: how many records a call works on, one turn, and what the call says. Assumes nothing.
use mathlib.Core.Path.{◌≡◌, refl, sym, ap, subst, ◌∙◌}
use mathlib.Core.Bool.{Bool, true, false, cond}
use mathlib.Core.List.{List}
use Prim.Native.Nat.{ℕ, ◌≤◌}
use native.Mathlib.Omega.{arith}
use lib.Ieee.{Float}
use Rattle.answers.specs.Answers.{is_done, settled, Answer}
use Rattle.factors.specs.Decomposition.{first_not}
use Rattle.one_state.specs.declared.OneState.{OneState}
use Rattle.one_state.specs.declared.Corrected.{Corrected}
use Rattle.one_state.specs.declared.Corrected.TheVariants.{Accepted, Refused}
use Rattle.one_state.specs.OneState.{with_xp, with_blind, renewed, blinded, corrected, answer_of, handed_back}
use Rattle.one_state.proofs.Cases.{comes_back, handed_back_lem}
use Rattle.rows.specs.declared.Tally.{Tally}
use Rattle.rows.specs.Rows.{reading, readings_answer, how_many, told_of, tallied, Turned}
use Rattle.rows.proofs.Refusals.{readings_only_done}

-- how many records a call works on: they are not more than there are ..
pub at_most : (v : Answer) (n k : ℕ) → k ≡ settled v n 0 → k ≤ n
at_most v n k e = subst (λ (m : ℕ). m ≤ n) (sym e) (go (is_done v))
  where
    go : (t : Bool) → cond t n 0 ≤ n
    go true = omega arith
    go false = omega arith

-- .. and not more than the readings
pub enough : (n m k : ℕ) → k ≡ settled (readings_answer n m) n 0 → k ≤ m
enough n m k e = subst (λ (j : ℕ). j ≤ m) (sym e) (go (is_done (readings_answer n m)) refl)
  where
    go : (t : Bool) → is_done (readings_answer n m) ≡ t → cond t n 0 ≤ m
    go true h = (readings_only_done n m h).1
    go false h = omega arith

-- what a correction hands back has the other four numbers of s
rest_stays : (s : OneState) (z : Float) (u : OneState) → handed_back (corrected s z) ≡ u → with_blind (with_xp s u.x u.p) u.blind ≡ u
rest_stays s z u e = subst (λ (t : OneState). with_blind (with_xp s t.x t.p) t.blind ≡ t) (sym (handed_back_lem s z) ∙ e) (go (is_done (answer_of (corrected s z))))
  where
    go : (b : Bool) → let t = cond b (renewed s z) (blinded s) in with_blind (with_xp s t.x t.p) t.blind ≡ t
    go true = refl
    go false = refl

-- the two ways out of a turn; u is the record that the correction hands back, and t' the tally
module _ (s : OneState) (zs : List Float) (i : ℕ) (t : Tally) (u : OneState) (t' : Tally) where
  turned : (b : Bool) → handed_back (corrected s (reading zs i)) ≡ u → is_done (answer_of (corrected s (reading zs i))) ≡ b → t' ≡ tallied b i t → Turned s zs i t u.x u.p u.blind t'
  turned b e d h = record { feeder_after = rest_stays s (reading zs i) u e ∙ sym e; tally_after = h ∙ ap (λ (a : Bool). tallied a i t) (sym d) }

  pub accepted_turn : corrected s (reading zs i) ≡ Accepted u → t' ≡ tallied true i t → Turned s zs i t u.x u.p u.blind t'
  accepted_turn e = turned true (ap handed_back e) (ap (λ (c : Corrected). is_done (answer_of c)) e)

  pub refused_turn : (v : Answer) → corrected s (reading zs i) ≡ Refused u v → t' ≡ tallied false i t → Turned s zs i t u.x u.p u.blind t'
  refused_turn v e = turned false (ap handed_back e) (ap (λ (c : Corrected). is_done (answer_of c)) e ∙ (comes_back s (reading zs i) u v e).1)

-- what the call says goes by the tally of the feeders that it works on
pub told-settled : (p : ℕ → Bool) (n m k : ℕ) → k ≡ settled (readings_answer n m) n 0 → told_of n m (how_many p k) (first_not p k) ≡ told_of n m (how_many p n) (first_not p n)
told-settled p n m k e = ap (λ (j : ℕ). told_of n m (how_many p j) (first_not p j)) e ∙ go (is_done (readings_answer n m)) refl
  where
    go : (t : Bool) → is_done (readings_answer n m) ≡ t → told_of n m (how_many p (settled (readings_answer n m) n 0)) (first_not p (settled (readings_answer n m) n 0)) ≡ told_of n m (how_many p n) (first_not p n)
    go true h = rw h refl
    go false h = rw h refl
