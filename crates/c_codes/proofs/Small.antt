-- What a refusal carries is not cut in its code, in a call of up to 99 sizes and 99 buffers: a pivot's index is below 16. Assumes nothing.
use mathlib.Core.Path.{◌≡◌, refl}
use mathlib.Core.Bool.{Bool, true, false, cond}
use mathlib.Core.List.{List, [], ◌∷◌, ◌++◌}
use Prim.Native.Nat.{ℕ, suc, ◌+◌, ◌≤◌}
use native.Mathlib.Omega.{arith}
use borrow.Author.Tests.{ltb-true}
use lib.Dec.{ltb}
use lib.ListN.{length}
use Rattle.std.proofs.Common.{Ok, Err}
use Rattle.answers.specs.declared.Refusal.TheVariants.{Size, Short, Range, Pivot, NotFinite}
use Rattle.answers.specs.Answers.{is_done, first_of, Answer}
use Rattle.answers.specs.Tests.{size_taken, Lent, Place, size_tests, buffer_tests, place_tests, after_tests, call_answer}
use Rattle.answers.proofs.Fit.{fit}
use Rattle.c_codes.specs.Code.{carried}

-- each of the tests carries at most 99
abbrev pub Small : List Answer → Type 0
Small [] = Unit {0}
Small (w ∷ ws) = (carried w ≤ 99) × Small ws

-- the row is 0 and the column 1
abbrev pub Which : List Place → Type 0
Which [] = Unit {0}
Which (p ∷ ps) = (p.which ≤ 99) × Which ps

either : (t : Bool) (v w : Answer) → carried v ≤ 99 → carried w ≤ 99 → carried (cond t v w) ≤ 99
either true v w hv hw = hv
either false v w hv hw = hw

pub after : (v : Answer) (ws : List Answer) → carried v ≤ 99 → Small ws → carried (after_tests v ws) ≤ 99
after v [] h s = h
after v (w ∷ ws) h s = after (first_of v w) ws (either (is_done v) w v s.0 h) s.1

both : (vs ws : List Answer) → Small vs → Small ws → Small (vs ++ ws)
both [] ws s t = t
both (v ∷ vs) ws s t = (s.0, both vs ws s.1 t)

sizes : (k : ℕ) (ns : List ℕ) → k + length ns ≤ 99 → Small (size_tests k ns)
sizes k [] h = tt
sizes k (n ∷ ns) h = (either (size_taken n) (Ok tt) (Err (Size k)) (omega arith) (omega arith), sizes (suc k) ns (omega arith))

pub buffers : (k : ℕ) (bs : List Lent) → k + length bs ≤ 99 → Small (buffer_tests k bs)
buffers k [] h = tt
buffers k (b ∷ bs) h = (either (ltb b.len b.cells) (Err (Short k)) (Ok tt) (omega arith) (omega arith), buffers (suc k) bs (omega arith))

places : (ps : List Place) → Which ps → Small (place_tests ps)
places [] h = tt
places (p ∷ ps) h = (either (ltb p.index p.size) (Ok tt) (Err (Range p.which)) (omega arith) h.0, places ps h.1)

-- refusals 1 to 3, of any call
pub call_small : (ns : List ℕ) (bs : List Lent) (ps : List Place) → length ns ≤ 99 → length bs ≤ 99 → Which ps → carried (call_answer ns bs ps) ≤ 99
call_small ns bs ps hn hb hp =
    after (Ok tt) (size_tests 0 ns ++ (buffer_tests 0 bs ++ place_tests ps)) (omega arith)
    (both (size_tests 0 ns) (buffer_tests 0 bs ++ place_tests ps) (sizes 0 ns (omega arith))
    (both (buffer_tests 0 bs) (place_tests ps) (buffers 0 bs (omega arith)) (places ps hp)))

-- refusal 4 of the pivot i of m, after them: where i is m every pivot was taken
pub pivot_small : (g : Answer) (i m : ℕ) → carried g ≤ 99 → (is_done g ≡ true → m ≤ 16) → carried (first_of g (cond (ltb i m) (Err (Pivot i)) (Ok tt))) ≤ 99
pivot_small g i m h taken = of_gate (is_done g) refl
  where
    of_test : (t : Bool) → ltb i m ≡ t → m ≤ 16 → carried (cond t (Err (Pivot i)) (Ok tt)) ≤ 99
    of_test true e l = omega (arith, ltb-true i m e)
    of_test false e l = omega arith

    of_gate : (t : Bool) → is_done g ≡ t → carried (cond t (cond (ltb i m) (Err (Pivot i)) (Ok tt)) g) ≤ 99
    of_gate true e = of_test (ltb i m) refl (taken e)
    of_gate false e = h

-- so of a call with the sizes n and m, as the update's and the correction's, where refusal 9 may follow, which carries nothing
pub pair_small : (n m : ℕ) (bs : List Lent) (i : ℕ) (t : Bool) → length bs ≤ 99
    → carried (first_of (first_of (call_answer (n ∷ m ∷ []) bs []) (cond (ltb i m) (Err (Pivot i)) (Ok tt))) (cond t (Ok tt) (Err NotFinite))) ≤ 99
pair_small n m bs i t h =
    let u = first_of (call_answer (n ∷ m ∷ []) bs []) (cond (ltb i m) (Err (Pivot i)) (Ok tt)) in
    either (is_done u) (cond t (Ok tt) (Err NotFinite)) u (either t (Ok tt) (Err NotFinite) (omega arith) (omega arith))
    (pivot_small (call_answer (n ∷ m ∷ []) bs []) i m (call_small (n ∷ m ∷ []) bs [] (omega arith) h tt) (λ e. (fit (n ∷ m ∷ []) bs [] e).0.2.1))
