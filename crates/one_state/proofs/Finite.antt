-- What is finite in a record, before a correction and after it: accepted, the new x and p are, and so were those before; a record that is spoilt and a bad reading are refused. By the test of the new x and p, and since what is
-- not finite stays so when something is added to it or taken from it. Assumes nothing.
use mathlib.Core.Path.{◌≡◌, refl, sym, ap, ◌∙◌}
use mathlib.Core.Bool.{Bool, true, false, ◌&&◌, true≢false}
use Prim.Native.Nat.{ℕ}
use native.Mathlib.Omega.{arith}
use lib.Ieee.{Float, binary32}
use lib.Ieee.Scale.{finite}
use Rattle.std.proofs.Common.{Err}
use Rattle.answers.specs.declared.Refusal.TheVariants.{Pivot, NotFinite}
use Rattle.answers.specs.Answers.{Answer}
use Rattle.numbers.proofs.Every.{then_fails}
use Rattle.numbers.proofs.NotFinite.{not_finite_plus, plus_not_finite, not_finite_less, not_finite_times, times_not_finite}
use Rattle.numbers.specs.Sums.{plus0}
use Rattle.factors.specs.Pivots.{pivot_taken}
use Rattle.one_state.specs.declared.OneState.{OneState}
use Rattle.one_state.specs.declared.Corrected.{Corrected}
use Rattle.one_state.specs.declared.Corrected.TheVariants.{Accepted, Refused}
use Rattle.one_state.specs.OneState.{spread, predicted, renewed, blinded, finite_xp, corrected, handed_back}
use Rattle.one_state.proofs.Cases.{accepted, not_finite, refused}

-- one of two tests fails, and with it one of two others
carries : (a b c d : Bool) → (a ≡ false → c ≡ false) → (b ≡ false → d ≡ false) → a && b ≡ false → c && d ≡ false
carries false b c d f g e = ap (λ (t : Bool). t && d) (f refl)
carries true false c d f g e = then_fails c d (g refl)
carries true true c d f g e = absurd (true≢false e)

-- an accepted record is no refused one
no_accepted : {A : Type 0} (t s : OneState) (v : Answer) → Refused s v ≡ Accepted t → A
no_accepted t s v e = let n : ◌≡◌ {A = ℕ} 0 1 = cc in absurd (omega arith)

-- A prediction does not mend a record that is spoilt.
pub predicted_spoilt : (s : OneState) → finite_xp s ≡ false → finite_xp (predicted s) ≡ false
unfolding predicted
predicted_spoilt s bad =
    carries (finite s.x) (finite s.p) (finite (predicted s).x) (finite (predicted s).p)
    (λ h. times_not_finite binary32 s.a s.x h)
    (λ h. not_finite_plus binary32 _ s.q (plus_not_finite binary32 plus0 _ (not_finite_times binary32 _ s.a (plus_not_finite binary32 plus0 _ (times_not_finite binary32 s.a s.p h)))))
    bad

module _ (s : OneState) (z : Float) where
  -- a new x or p that is not finite is refused, with 4 or with 9
  pub comes_back_refused : finite_xp (renewed s z) ≡ false → (v : Answer) × (corrected s z ≡ Refused (blinded s) v)
  comes_back_refused bad = go (pivot_taken (spread binary32 s.h s.p s.r)) refl
    where
      go : (t : Bool) → pivot_taken (spread binary32 s.h s.p s.r) ≡ t → (v : Answer) × (corrected s z ≡ Refused (blinded s) v)
      go true k = ((Err NotFinite), not_finite s z k bad)
      go false k = (Err (Pivot 0), refused s z k)

  -- A record whose x or p is not finite is refused ..
  pub spoilt : finite_xp s ≡ false → (v : Answer) × (corrected s z ≡ Refused (blinded s) v)
  spoilt bad =
      comes_back_refused
      (carries (finite s.x) (finite s.p) (finite (renewed s z).x) (finite (renewed s z).p) (λ h. not_finite_plus binary32 _ _ h) (λ h. not_finite_less binary32 _ _ h) bad)

  -- .. and so is any record by a reading that is NaN or infinite.
  pub bad_reading : finite z ≡ false → (v : Answer) × (corrected s z ≡ Refused (blinded s) v)
  bad_reading bad =
      comes_back_refused
      (ap (λ (t : Bool). t && finite (renewed s z).p) (plus_not_finite binary32 s.x _ (times_not_finite binary32 _ _ (not_finite_less binary32 z _ bad))))

  -- Accepted, the new x and p are finite ..
  pub accepted_finite : (t : OneState) → corrected s z ≡ Accepted t → finite_xp t ≡ true
  accepted_finite t e = go (pivot_taken (spread binary32 s.h s.p s.r)) (finite_xp (renewed s z)) refl refl
    where
      go : (a b : Bool) → pivot_taken (spread binary32 s.h s.p s.r) ≡ a → finite_xp (renewed s z) ≡ b → finite_xp t ≡ true
      go true true k q = let w : Accepted (renewed s z) ≡ Accepted t = sym (accepted s z k q) ∙ e in let same : renewed s z ≡ t = cc in ap finite_xp (sym same) ∙ q
      go true false k q = no_accepted t (blinded s) (Err NotFinite) (sym (not_finite s z k q) ∙ e)
      go false b k q = no_accepted t (blinded s) (Err (Pivot 0)) (sym (refused s z k) ∙ e)

  -- .. and so were those before.
  pub found_finite : (t : OneState) → corrected s z ≡ Accepted t → finite_xp s ≡ true
  found_finite t e = go (finite_xp s) refl
    where
      go : (b : Bool) → finite_xp s ≡ b → finite_xp s ≡ true
      go true q = q
      go false q = let w = spoilt q in no_accepted t (blinded s) w.0 (sym w.1 ∙ e)

  -- Whatever it answers, a finite x and p stay finite.
  pub stays_finite : finite_xp s ≡ true → finite_xp (handed_back (corrected s z)) ≡ true
  stays_finite h = go (pivot_taken (spread binary32 s.h s.p s.r)) (finite_xp (renewed s z)) refl refl
    where
      go : (a b : Bool) → pivot_taken (spread binary32 s.h s.p s.r) ≡ a → finite_xp (renewed s z) ≡ b → finite_xp (handed_back (corrected s z)) ≡ true
      go true true k q = ap (λ (c : Corrected). finite_xp (handed_back c)) (accepted s z k q) ∙ q
      go true false k q = ap (λ (c : Corrected). finite_xp (handed_back c)) (not_finite s z k q) ∙ h
      go false b k q = ap (λ (c : Corrected). finite_xp (handed_back c)) (refused s z k) ∙ h
