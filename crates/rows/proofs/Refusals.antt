-- Which calls over a row are refused, and with what: by the two tests of the answer, one after the other. Assumes nothing.
use mathlib.Core.Path.{◌≡◌, refl, sym, ap, ◌∙◌}
use mathlib.Core.Bool.{Bool, true, false, cond, true≢false}
use Prim.Native.Nat.{ℕ, ◌<◌, ◌≤◌}
use native.Mathlib.Omega.{arith}
use lib.Dec.{leb, ltb}
use borrow.Author.Tests.{lt-ltb, le-ltb, le-leb, lt-leb, ltb-true, ltb-false, leb-true, leb-false}
use Rattle.std.proofs.Common.{Ok, Err}
use Rattle.answers.specs.declared.Refusal.TheVariants.{Size, Short}
use Rattle.answers.specs.Answers.{number_of, is_done, first_of, Answer}
use Rattle.answers.proofs.Kept.{is_done_lem}
use Rattle.rows.specs.declared.Corrections.TheVariants.{All, Part, Refused}
use Rattle.rows.specs.Rows.{row_answer, readings_answer, told_of, call_answer}

-- ---- a row of n records, with m readings

-- the answer, a being whether the row is taken and b whether the readings are fewer
abbrev asked : Bool → Bool → Answer
asked a b = first_of (cond a (Ok tt) (Err (Size 0))) (cond b (Err (Short 1)) (Ok tt))

-- size 0 says that the row is not taken
only_size : (a b : Bool) → asked a b ≡ Err (Size 0) → a ≡ false
only_size true true e = absurd (omega (arith, ap number_of e))
only_size true false e = absurd (omega (arith, ap number_of e))
only_size false b e = refl

-- buffer 1, that it is and the readings are fewer
only_short : (a b : Bool) → asked a b ≡ Err (Short 1) → (a ≡ true) × (b ≡ true)
only_short true true e = (refl, refl)
only_short true false e = absurd (omega (arith, ap number_of e))
only_short false b e = absurd (omega (arith, ap number_of e))

-- done, that it is and they are not
only_neither : (a b : Bool) → is_done (asked a b) ≡ true → (a ≡ true) × (b ≡ false)
only_neither true true e = absurd (true≢false (sym e))
only_neither true false e = (refl, refl)
only_neither false b e = absurd (true≢false (sym e))

module _ (n m : ℕ) where
  -- 1 where the row has more than twelve records ..
  pub readings_1 : 12 < n → readings_answer n m ≡ Err (Size 0)
  readings_1 h = rw (lt-leb n 12 h)

  -- .. 2 where it has not, and the readings are fewer ..
  pub readings_2 : n ≤ 12 → m < n → readings_answer n m ≡ Err (Short 1)
  readings_2 h l = rw (le-leb n 12 h, lt-ltb m n l)

  -- .. done where they are not ..
  pub readings_done : n ≤ 12 → n ≤ m → readings_answer n m ≡ Ok tt
  readings_done h l = rw (le-leb n 12 h, le-ltb m n l)

  -- .. and none of them elsewhere
  pub readings_only_1 : readings_answer n m ≡ Err (Size 0) → 12 < n
  readings_only_1 e = leb-false n 12 (only_size (leb n 12) (ltb m n) e)

  pub readings_only_2 : readings_answer n m ≡ Err (Short 1) → (n ≤ 12) × (m < n)
  readings_only_2 e = let w = only_short (leb n 12) (ltb m n) e in (leb-true n 12 w.0, ltb-true m n w.1)

  pub readings_only_done : is_done (readings_answer n m) ≡ true → (n ≤ 12) × (n ≤ m)
  readings_only_done e = let w = only_neither (leb n 12) (ltb m n) e in (leb-true n 12 w.0, ltb-false m n w.1)

  -- readings past the last record do not matter to it
  pub readings_enough : n ≤ m → readings_answer n m ≡ row_answer n
  readings_enough l = rw (le-ltb m n l) (go (leb n 12))
    where
      go : (a : Bool) → first_of (cond a (Ok tt) (Err (Size 0))) (Ok tt) ≡ cond a (Ok tt) (Err (Size 0))
      go true = refl
      go false = refl

-- ---- a row of n records, without readings: as with n of them

module _ (n : ℕ) where
  -- 1 where there are more than twelve ..
  pub row_1 : 12 < n → row_answer n ≡ Err (Size 0)
  row_1 h = rw (lt-leb n 12 h)

  -- .. done where there are not ..
  pub row_done : n ≤ 12 → row_answer n ≡ Ok tt
  row_done h = rw (le-leb n 12 h)

  -- .. and neither elsewhere
  pub row_only_1 : row_answer n ≡ Err (Size 0) → 12 < n
  row_only_1 e = readings_only_1 n n (readings_enough n n (omega arith) ∙ e)

  pub row_only_done : is_done (row_answer n) ≡ true → n ≤ 12
  row_only_done e = (readings_only_done n n (ap is_done (readings_enough n n (omega arith)) ∙ e)).0

-- ---- what the call says

-- of its own answer v, b being whether some feeder was refused, and f the first
told_as : (v : Answer) (b : Bool) (n a f : ℕ) → call_answer (cond (is_done v) (cond b (Part a f) (All n)) (Refused v)) ≡ v
told_as v b n a f = go (is_done v) b refl
  where
    go : (d b : Bool) → is_done v ≡ d → call_answer (cond d (cond b (Part a f) (All n)) (Refused v)) ≡ v
    go true true e = sym (is_done_lem v e)
    go true false e = sym (is_done_lem v e)
    go false b e = refl

module _ (n m a f : ℕ) where
  -- its own answer is that of the row and its readings
  pub told_answer : call_answer (told_of n m a f) ≡ readings_answer n m
  told_answer = told_as (readings_answer n m) (ltb f n) n a f

  -- done, the first refused decides
  pub told_done : is_done (readings_answer n m) ≡ true → told_of n m a f ≡ cond (ltb f n) (Part a f) (All n)
  told_done d = rw d

  -- refused, it says with what
  pub told_refused : is_done (readings_answer n m) ≡ false → told_of n m a f ≡ Refused (readings_answer n m)
  told_refused d = rw d
