-- The three cases of a correction, from those of the pivot step on S and from the test of the new x and p. Assumes nothing.
use mathlib.Core.Path.{◌≡◌, refl, sym, ap, subst, ◌∙◌}
use mathlib.Core.Bool.{Bool, true, false, cond}
use Prim.Native.Nat.{ℕ}
use native.Mathlib.Omega.{arith}
use lib.Ieee.{Float, Format, binary32, add, sub, mul}
use lib.Ieee.Scale.{finite}
use Rattle.numbers.specs.Reciprocal.{one, recip_of}
use Rattle.numbers.specs.Root.{sqrt_of}
use Rattle.numbers.proofs.NotFinite.{plus_not_finite}
use Rattle.std.proofs.Common.{Err}
use Rattle.answers.specs.declared.Refusal.TheVariants.{Pivot, NotFinite}
use Rattle.answers.specs.Answers.{is_done, Answer}
use Rattle.pivots.specs.declared.Pivot.TheVariants as pivot
use Rattle.factors.specs.Pivots.{pivot_taken}
use Rattle.factors.proofs.Taken.{not_finite_refused}
use Rattle.pivots.specs.Pivots.{pivot_of}
use Rattle.one_state.specs.declared.OneState.{OneState}
use Rattle.one_state.specs.declared.Corrected.TheVariants.{Accepted, Refused}
use Rattle.one_state.specs.OneState.{timed, innovation, spread, renewed, with_xp, with_blind, SameSix, one_up, blinded, finite_xp, corrected, answer_of, handed_back}

-- ---- the pivot step on t

by_accepted : (b : Bool) (r i t l d : Float) → cond b (pivot.Accepted r i) (pivot.Refused t) ≡ pivot.Accepted l d → (b ≡ true) × (d ≡ i)
by_accepted true r i t l d e = (refl, cc)
by_accepted false r i t l d e = let z : ◌≡◌ {A = ℕ} 0 1 = cc in absurd (omega arith)

-- a step that accepts took t, and carries the reciprocal of t's root
pub accepts : (f : Format) (t l d : Float) → pivot_of f t ≡ pivot.Accepted l d → (pivot_taken t ≡ true) × (d ≡ recip_of f (sqrt_of f t))
accepts f t l d e = by_accepted (pivot_taken t) (sqrt_of f t) (recip_of f (sqrt_of f t)) t l d e

by_refused : (b : Bool) (r i t u : Float) → cond b (pivot.Accepted r i) (pivot.Refused t) ≡ pivot.Refused u → b ≡ false
by_refused true r i t u e = let z : ◌≡◌ {A = ℕ} 0 1 = cc in absurd (omega arith)
by_refused false r i t u e = refl

-- one that refuses did not take t
pub refuses : (f : Format) (t u : Float) → pivot_of f t ≡ pivot.Refused u → pivot_taken t ≡ false
refuses f t u e = by_refused (pivot_taken t) (sqrt_of f t) (recip_of f (sqrt_of f t)) t u e

-- ---- the correction

module _ (s : OneState) (z : Float) where
  -- where S is taken and the new x and p are finite the record is renewed
  pub accepted : pivot_taken (spread binary32 s.h s.p s.r) ≡ true → finite_xp (renewed s z) ≡ true → corrected s z ≡ Accepted (renewed s z)
  unfolding corrected
  accepted e q = rw (e, q)

  -- where S is taken and they are not it is blinded
  pub not_finite : pivot_taken (spread binary32 s.h s.p s.r) ≡ true → finite_xp (renewed s z) ≡ false → corrected s z ≡ Refused (blinded s) (Err NotFinite)
  unfolding corrected
  not_finite e q = rw (e, q)

  -- where S is not taken it is blinded too
  pub refused : pivot_taken (spread binary32 s.h s.p s.r) ≡ false → corrected s z ≡ Refused (blinded s) (Err (Pivot 0))
  unfolding corrected
  refused e = rw e

  -- An r that is NaN or infinite is refused.
  pub not_finite_r : finite s.r ≡ false → corrected s z ≡ Refused (blinded s) (Err (Pivot 0))
  not_finite_r e = refused (not_finite_refused _ (plus_not_finite binary32 _ s.r e))

  -- what comes back refused is the record blinded, with a refusal
  pub comes_back : (t : OneState) (v : Answer) → corrected s z ≡ Refused t v → (t ≡ blinded s) × (is_done v ≡ false)
  unfolding corrected
  comes_back t v e = go (pivot_taken (spread binary32 s.h s.p s.r)) (finite_xp (renewed s z)) e
    where
      go : (a b : Bool) → cond a (cond b (Accepted (renewed s z)) (Refused (blinded s) (Err NotFinite))) (Refused (blinded s) (Err (Pivot 0))) ≡ Refused t v → (t ≡ blinded s) × (is_done v ≡ false)
      go true true q = let n : ◌≡◌ {A = ℕ} 0 1 = cc in absurd (omega arith)
      go true false q = let w : v ≡ Err NotFinite = cc in (cc, ap is_done w)
      go false b q = let w : v ≡ Err (Pivot 0) = cc in (cc, ap is_done w)

  -- What is handed back, by the answer: the record renewed, or blinded ..
  pub handed_back_lem : handed_back (corrected s z) ≡ cond (is_done (answer_of (corrected s z))) (renewed s z) (blinded s)
  unfolding corrected
  handed_back_lem = go (pivot_taken (spread binary32 s.h s.p s.r)) (finite_xp (renewed s z))
    where
      go : (a b : Bool)
          → let c = cond a (cond b (Accepted (renewed s z)) (Refused (blinded s) (Err NotFinite))) (Refused (blinded s) (Err (Pivot 0))) in
          handed_back c ≡ cond (is_done (answer_of c)) (renewed s z) (blinded s)
      go true true = refl
      go true false = refl
      go false b = refl

  -- .. its count ..
  pub handed_count : (handed_back (corrected s z)).blind ≡ cond (is_done (answer_of (corrected s z))) 0 (one_up s.blind)
  handed_count = ap (λ (t : OneState). t.blind) handed_back_lem ∙ go (is_done (answer_of (corrected s z)))
    where
      go : (b : Bool) → (cond b (renewed s z) (blinded s)).blind ≡ cond b 0 (one_up s.blind)
      go true = refl
      go false = refl

  -- .. and refused, its six numbers, as they were.
  pub six_stay : is_done (answer_of (corrected s z)) ≡ false → SameSix s (handed_back (corrected s z))
  six_stay d =
      let e : handed_back (corrected s z) ≡ blinded s = handed_back_lem ∙ rw d refl in
      subst (SameSix s) (sym e) (record { same_x = refl; same_p = refl; same_a = refl; same_q = refl; same_h = refl; same_r = refl })

  -- ---- as the code goes: d is what the pivot step carries

  -- the record with x and p by the reciprocal d of S's root, blind no more
  abbrev by : Float → OneState
  by d =
      let k = timed binary32 (timed binary32 s.p s.h) (mul binary32 (mul binary32 one d) d) in
      with_blind (with_xp s (add binary32 s.x (mul binary32 k (innovation binary32 s.h s.x z))) (sub binary32 s.p (timed binary32 k (timed binary32 s.h s.p)))) 0

  module _ (l d : Float) (step : pivot_of binary32 (spread binary32 s.h s.p s.r) ≡ pivot.Accepted l d) where
    -- d is the reciprocal of S's root
    same : by d ≡ renewed s z
    same = ap by (accepts binary32 _ l d step).1

    pub goes_through : (a b : Bool) → a ≡ finite (by d).x → b ≡ finite (by d).p → a ≡ true → b ≡ true → Accepted (by d) ≡ corrected s z
    goes_through a b ea eb ta tb =
        ap Accepted same ∙ sym (accepted (accepts binary32 _ l d step).0 (ap finite_xp (sym same) ∙ rw (sym ea ∙ ta, sym eb ∙ tb) refl))

    pub comes_back_x : (a : Bool) → a ≡ finite (by d).x → a ≡ false → Refused (blinded s) (Err NotFinite) ≡ corrected s z
    comes_back_x a ea ta = sym (not_finite (accepts binary32 _ l d step).0 (ap finite_xp (sym same) ∙ rw (sym ea ∙ ta) refl))

    pub comes_back_p : (a b : Bool) → a ≡ finite (by d).x → b ≡ finite (by d).p → a ≡ true → b ≡ false → Refused (blinded s) (Err NotFinite) ≡ corrected s z
    comes_back_p a b ea eb ta tb =
        sym (not_finite (accepts binary32 _ l d step).0 (ap finite_xp (sym same) ∙ rw (sym ea ∙ ta, sym eb ∙ tb) refl))
