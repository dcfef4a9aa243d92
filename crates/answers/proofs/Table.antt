-- The table of refusals 1 to 3 (R3), for the sizes, buffers and places of any call: each answer is given exactly when the table says.
-- Of each list either all pass or there is a first that fails; a first that fails decides the answer, and where all pass the next list does. Assumes nothing.
use mathlib.Core.Path.{◌≡◌, refl, sym, ap, ◌∙◌, subst}
use mathlib.Core.Logic.{◌⊎◌, inl, inr, ⊎_elim}
use mathlib.Core.Bool.{Bool, true, false, not, cond, true≢false}
use mathlib.Core.List.{List, [], ◌∷◌, ◌++◌, append-nil}
use Prim.Native.Nat.{ℕ, zero, suc, ◌+◌, ◌≤◌}
use native.Mathlib.Omega.{arith}
use native.Mathlib.Nat.{add-zero, add-suc, suc-add, zero-add}
use lib.Dec.{ltb}
use Rattle.std.proofs.Common.{Ok, Err}
use Rattle.answers.specs.declared.Refusal.TheVariants.{Size, Short, Range}
use Rattle.answers.specs.Answers.{number_of, is_done, Answer}
use Rattle.answers.specs.Tests.{size_taken, buffer_test, Lent, Place, size_tests, buffer_tests, place_tests, after_tests, call_answer}
use Rattle.answers.specs.Exactly.{All, FirstNot, holds, inside, Given, size, short, range, done}
use Rattle.answers.proofs.Asked.{stays}

-- ---- any list of tests
decide : {A : Type 0} (p : A → Bool) (xs : List A) → All p xs ⊎ ((k : ℕ) × (y : A) × FirstNot p xs k y)
decide p [] = inl tt
decide {A = A} p (x ∷ xs) = go (p x) refl (decide p xs)
  where
    go : (b : Bool) → p x ≡ b → All p xs ⊎ ((k : ℕ) × (y : A) × FirstNot p xs k y) → All p (x ∷ xs) ⊎ ((k : ℕ) × (y : A) × FirstNot p (x ∷ xs) k y)
    go false e r = inr (0, x, (refl, e))
    go true e r = ⊎_elim (λ a. inl (e, a)) (λ f. inr (suc f.0, f.1, (e, f.2))) r

-- Tests numbered from j, of which the one on x is Ok where p holds of x, and else what `says` makes of its number and of x.
module _ {A : Type 0} (p : A → Bool) (says : ℕ → A → Answer) (tests : ℕ → List A → List Answer)
    (stop : (k : ℕ) (x : A) → is_done (says k x) ≡ false)
    (none : (j : ℕ) → tests j [] ≡ [])
    (more : (j : ℕ) (x : A) (xs : List A) → tests j (x ∷ xs) ≡ cond (p x) (Ok tt) (says j x) ∷ tests (suc j) xs) where
  pass : (j : ℕ) (xs : List A) (ws : List Answer) → All p xs → after_tests (Ok tt) (tests j xs ++ ws) ≡ after_tests (Ok tt) ws
  pass j [] ws h = rw (none j)
  pass j (x ∷ xs) ws h = rw (more j x xs, h.0) (pass (suc j) xs ws h.1)

  fail : (j : ℕ) (xs : List A) (ws : List Answer) (k : ℕ) (y : A) → FirstNot p xs k y → after_tests (Ok tt) (tests j xs ++ ws) ≡ says (j + k) y
  fail j [] ws k y h = absurd h
  fail j (x ∷ xs) ws zero y h = rw (more j x xs, h.1, add-zero j) (stays (says j x) (tests (suc j) xs ++ ws) (stop j x) ∙ ap (says j) h.0)
  fail j (x ∷ xs) ws (suc k) y h = rw (more j x xs, h.0, add-suc j k, ← suc-add j k) (fail (suc j) xs ws k y h.1)

-- ---- the three lists of a call
short_test : (j : ℕ) (b : Lent) → buffer_test j b.cells b.len ≡ cond (holds b) (Ok tt) (Err (Short j))
short_test j b = go (ltb b.len b.cells)
  where
    go : (t : Bool) → cond {A = Answer} t (Err (Short j)) (Ok tt) ≡ cond (not t) (Ok tt) (Err (Short j))
    go true = refl
    go false = refl

short_more : (j : ℕ) (b : Lent) (bs : List Lent) → buffer_tests j (b ∷ bs) ≡ cond (holds b) (Ok tt) (Err (Short j)) ∷ buffer_tests (suc j) bs
short_more j b bs = ap (λ (v : Answer). v ∷ buffer_tests (suc j) bs) (short_test j b)

module _ (ns : List ℕ) (bs : List Lent) (ps : List Place) where
  abbrev places : List Answer
  places = place_tests ps

  abbrev buffers : List Answer
  buffers = buffer_tests 0 bs ++ places

  sizes_pass : All size_taken ns → call_answer ns bs ps ≡ after_tests (Ok tt) buffers
  sizes_pass h = pass size_taken (λ k n. Err (Size k)) size_tests (λ k n. refl) (λ j. refl) (λ j x xs. refl) 0 ns buffers h

  sizes_fail : (k n : ℕ) → FirstNot size_taken ns k n → call_answer ns bs ps ≡ Err (Size k)
  sizes_fail k n h = fail size_taken (λ k n. Err (Size k)) size_tests (λ k n. refl) (λ j. refl) (λ j x xs. refl) 0 ns buffers k n h ∙ ap (λ (i : ℕ). Err (Size i)) (zero-add k)

  buffers_pass : All holds bs → after_tests (Ok tt) buffers ≡ after_tests (Ok tt) places
  buffers_pass h = pass holds (λ k b. Err (Short k)) buffer_tests (λ k b. refl) (λ j. refl) short_more 0 bs places h

  buffers_fail : (k : ℕ) (b : Lent) → FirstNot holds bs k b → after_tests (Ok tt) buffers ≡ Err (Short k)
  buffers_fail k b h = fail holds (λ k b. Err (Short k)) buffer_tests (λ k b. refl) (λ j. refl) short_more 0 bs places k b h ∙ ap (λ (i : ℕ). Err (Short i)) (zero-add k)

  places_pass : All inside ps → after_tests (Ok tt) places ≡ Ok tt
  places_pass h = ap (λ (ws : List Answer). after_tests (Ok tt) ws) (sym (append-nil places)) ∙ pass inside (λ k p. Err (Range p.which)) (λ k. place_tests) (λ k p. refl) (λ j. refl) (λ j x xs. refl) 0 ps [] h

  places_fail : (k : ℕ) (p : Place) → FirstNot inside ps k p → after_tests (Ok tt) places ≡ Err (Range p.which)
  places_fail k p h = ap (λ (ws : List Answer). after_tests (Ok tt) ws) (sym (append-nil places)) ∙ fail inside (λ k p. Err (Range p.which)) (λ k. place_tests) (λ k p. refl) (λ j. refl) (λ j x xs. refl) 0 ps [] k p h

  -- what the table gives is the answer
  pub given_is : (v : Answer) → Given ns bs ps v → call_answer ns bs ps ≡ v
  given_is v (size k n h) = sizes_fail k n h
  given_is v (short k b a h) = sizes_pass a ∙ buffers_fail k b h
  given_is v (range k p a b h) = sizes_pass a ∙ buffers_pass b ∙ places_fail k p h
  given_is v (done a b h) = sizes_pass a ∙ buffers_pass b ∙ places_pass h

  found : (v : Answer) → Given ns bs ps v → Given ns bs ps (call_answer ns bs ps)
  found v g = subst (λ (w : Answer). Given ns bs ps w) (sym (given_is v g)) g

  -- and the answer is what the table gives
  pub is_given : Given ns bs ps (call_answer ns bs ps)
  is_given =
      ⊎_elim
      (λ a. ⊎_elim
      (λ b. ⊎_elim (λ h. found (Ok tt) (done a b h)) (λ h. found (Err (Range h.1.which)) (range h.0 h.1 a b h.2)) (decide inside ps))
      (λ h. found (Err (Short h.0)) (short h.0 h.1 a h.2)) (decide holds bs))
      (λ h. found (Err (Size h.0)) (size h.0 h.1 h.2)) (decide size_taken ns)

  numbered : (v : Answer) → Given ns bs ps v → number_of v ≤ 3
  numbered v (size k n h) = omega arith
  numbered v (short k b a h) = omega arith
  numbered v (range k p a b h) = omega arith
  numbered v (done a b c) = omega arith

  -- no test says more than 3
  pub at_most_3 : number_of (call_answer ns bs ps) ≤ 3
  at_most_3 = numbered (call_answer ns bs ps) is_given

  from_done : (v : Answer) → Given ns bs ps v → is_done v ≡ true → All size_taken ns × All holds bs × All inside ps
  from_done v (size k n h) e = absurd (true≢false (sym e))
  from_done v (short k b a h) e = absurd (true≢false (sym e))
  from_done v (range k p a b h) e = absurd (true≢false (sym e))
  from_done v (done a b c) e = (a, b, c)

  -- a call that is not refused passed every test ..
  pub passed : is_done (call_answer ns bs ps) ≡ true → All size_taken ns × All holds bs × All inside ps
  passed = from_done (call_answer ns bs ps) is_given

  -- .. and one that passes them all is not refused
  pub passes : All size_taken ns → All holds bs → All inside ps → is_done (call_answer ns bs ps) ≡ true
  passes a b c = ap is_done (given_is (Ok tt) (done a b c))
