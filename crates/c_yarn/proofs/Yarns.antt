-- The one-state filter behind a pointer, by what its correction finds. Assumes nothing.
use mathlib.Core.Path.{◌≡◌, refl, sym, ap, ◌∙◌}
use mathlib.Core.Bool.{false, true≢false}
use Prim.Native.Nat.{ℕ}
use lib.Dec.{eqb}
use lib.Ieee.{Float}
use Rattle.std.proofs.Common.{Ok}
use Rattle.answers.specs.Answers.{is_done, Answer}
use Rattle.c_codes.specs.Code.{code_of}
use Rattle.c_codes.proofs.Codes.{done_is_zero}
use Rattle.one_state.specs.declared.OneState.{OneState}
use Rattle.one_state.specs.declared.Corrected.{Corrected}
use Rattle.one_state.specs.declared.Corrected.TheVariants.{Accepted, Refused}
use Rattle.one_state.specs.OneState.{blinded, with_blind, corrected, answer_of, handed_back}
use Rattle.one_state.proofs.Cases.{comes_back, handed_back_lem}
use Rattle.c_yarn.specs.Yarn.{CorrectedYarn, Tried}

-- the two ways out of a correction by value; c is its code
module _ (s : OneState) (z : Float) (c : ℕ) (t : OneState) where
  pub accepted : corrected s z ≡ Accepted t → c ≡ code_of (Ok tt) → Tried s z c t
  accepted e k =
      record {
        coded = k ∙ sym (ap (λ (r : Corrected). code_of (answer_of r)) e);
        handed = sym (ap handed_back e);
        counted = λ q. absurd (true≢false (sym (ap (λ (n : ℕ). eqb n 0) (k ∙ done_is_zero (Ok tt) refl)) ∙ q));
      }

  pub refused : (v : Answer) → corrected s z ≡ Refused t v → c ≡ code_of v → Tried s z c t
  refused v e k =
      record {
        coded = k ∙ sym (ap (λ (r : Corrected). code_of (answer_of r)) e);
        handed = sym (ap handed_back e);
        counted = λ _. let w : t ≡ blinded s = (comes_back s z t v e).0 in ap (λ (u : OneState). with_blind s u.blind) w ∙ sym w;
      }

-- a correction that is refused leaves the six numbers and puts the count one up
pub refused_counts : {v : Answer} {s t : OneState} {z : Float} → CorrectedYarn s z v t → is_done v ≡ false → t ≡ blinded s
refused_counts {v} {s} {t} {z} call d = call.after ∙ handed_back_lem s z ∙ rw (sym (ap is_done call.answer) ∙ d)

-- two results that keep the promise are equal
pub corrected_yarn_unique : {v w : Answer} {s t u : OneState} {z : Float} → CorrectedYarn s z v t → CorrectedYarn s z w u → (v ≡ w) × (t ≡ u)
corrected_yarn_unique p q = (cc, cc)
