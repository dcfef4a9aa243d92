-- What a correction of a row says that is not refused: how many feeders were accepted, and which was the first that was not. By the laws of the first index at which a test fails, and of how many hold. Assumes nothing.
use mathlib.Core.Path.{◌≡◌, refl, sym}
use mathlib.Core.Bool.{Bool, true, false, cond}
use mathlib.Core.List.{[]}
use Prim.Native.Nat.{ℕ, ◌<◌, ◌≤◌}
use native.Mathlib.Omega.{arith}
use borrow.Author.Tests.{lt-ltb, le-ltb, ltb-true, ltb-false}
use lib.Dec.{ltb}
use Rattle.factors.specs.Decomposition.{first_not}
use Rattle.factors.proofs.First.{first_is, first-none, first_found, first_all}
use Rattle.rows.specs.declared.Corrections.{Corrections}
use Rattle.rows.specs.declared.Corrections.TheVariants.{All, Part}
use Rattle.rows.specs.Rows.{how_many, accepted_by, first_refused_by}
use Rattle.rows.proofs.Tallies.{how_many_all}

-- a first refused that is named is below n ..
below : (n k f a i : ℕ) (b : Bool) → ltb f n ≡ b → cond b (Part k f) (All n) ≡ Part a i → (f ≡ i) × (i < n)
below n k f a i true q e = let s : f ≡ i = cc in (s, omega (arith, ltb-true f n q))
below n k f a i false q e = let z : ◌≡◌ {A = ℕ} 0 1 = cc in absurd (omega arith)

-- .. and where none is named there is none below n
none_below : (n k f : ℕ) (b : Bool) → ltb f n ≡ b → first_refused_by (cond b (Part k f) (All n)) ≡ [] → n ≤ f
none_below n k f true q e = let z : ◌≡◌ {A = ℕ} 0 1 = cc in absurd (omega arith)
none_below n k f false q e = ltb-false f n q

-- p says of each of n feeders whether it was accepted
module _ (p : ℕ → Bool) (n : ℕ) where
  -- what the call says of them
  abbrev pub outcome : Corrections
  outcome = cond (ltb (first_not p n) n) (Part (how_many p n) (first_not p n)) (All n)

  -- how many were accepted
  pub counted : accepted_by outcome ≡ how_many p n
  counted = go (ltb (first_not p n) n) refl
    where
      go : (b : Bool) → ltb (first_not p n) n ≡ b → accepted_by (cond b (Part (how_many p n) (first_not p n)) (All n)) ≡ how_many p n
      go true q = refl
      go false q = sym (how_many_all p n (first_all p n (ltb-false (first_not p n) n q)))

  -- the index that is named was refused, and none before it ..
  pub named_least : (k i : ℕ) → outcome ≡ Part k i → (i < n) × ((j : ℕ) → j < i → p j ≡ true) × (p i ≡ false)
  named_least k i e =
      let w = below n (how_many p n) (first_not p n) k i (ltb (first_not p n) n) refl e in
      let f = first_found p n i w.1 w.0 in
      (w.1, f.0, f.1)

  -- .. and one that was refused, with none before it, is named
  pub least_named : (i : ℕ) → i < n → ((j : ℕ) → j < i → p j ≡ true) → p i ≡ false → outcome ≡ Part (how_many p n) i
  least_named i h before here = rw (first_is p n i h before here, lt-ltb i n h)

  -- where none is named all were accepted ..
  pub none_named : first_refused_by outcome ≡ [] → (i : ℕ) → i < n → p i ≡ true
  none_named e = first_all p n (none_below n (how_many p n) (first_not p n) (ltb (first_not p n) n) refl e)

  -- .. and where all were accepted none is named
  pub all_told : ((i : ℕ) → i < n → p i ≡ true) → outcome ≡ All n
  all_told all = rw (first-none p n all, le-ltb n n (omega arith))
