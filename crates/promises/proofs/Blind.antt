-- R32: over any sequence of calls a record's count is the number of corrections refused in a row at the end, or 255 where that is more. By the latest call: an accepted correction puts both to 0, a refused one adds one to both, and
-- nothing else moves either. The rest follows by the list of answers. Assumes nothing.
use mathlib.Core.Path.{◌≡◌, refl, sym, ap, ◌∙◌}
use mathlib.Core.Bool.{Bool, true, false, cond, not, ◌&&◌, true≢false}
use mathlib.Core.List.{List, [], ◌∷◌}
use Prim.Native.Nat.{ℕ, suc, ◌+◌, ◌≤◌, ◌<◌, min}
use native.Mathlib.Nat.{min-eq_left}
use native.Mathlib.Omega.{arith}
use lib.ListN.{length}
use Rattle.answers.specs.Answers.{is_done, Answer}
use Rattle.one_state.specs.declared.OneState.{OneState}
use Rattle.one_state.specs.OneState.{predicted, one_up, corrected, answer_of}
use Rattle.one_state.proofs.Cases.{handed_count}
use Rattle.promises.specs.Blind.{Shift, start, predict, correct, between, in_a_row, all_refused, sees}

-- one more of a number that stops at 255 stops there
one_more : (n : ℕ) → one_up (min n 255) ≡ min (suc n) 255
one_more n = omega arith

-- the latest correction, on both sides
counted : (b : Bool) (c n : ℕ) → c ≡ min n 255 → cond b 0 (one_up c) ≡ min (cond b 0 (suc n)) 255
counted true c n e = refl
counted false c n e = ap one_up e ∙ one_more n

-- The theorem that a user would quote.
pub blind_for : {s e : OneState} {vs : List Answer} → Shift s vs e → s.blind ≤ 255 → e.blind ≡ min (in_a_row s.blind vs) 255
unfolding in_a_row predicted
blind_for start h = sym (min-eq_left h)
blind_for (predict shift) h = blind_for shift h
blind_for (correct {s} {e} {vs} z shift) h = handed_count e z ∙ counted (is_done (answer_of (corrected e z))) e.blind (in_a_row s.blind vs) (blind_for shift h)
blind_for (between same shift) h = same ∙ blind_for shift h

-- ---- what follows

-- where every one was refused, all of them count
one_longer : (b t : Bool) (c n k : ℕ) → (t ≡ true → n ≡ c + k) → not b && t ≡ true → cond b 0 (suc n) ≡ c + suc k
one_longer true t c n k rest h = absurd (true≢false (sym h))
one_longer false t c n k rest h = omega (arith, rest h)

all_in_a_row : (c : ℕ) (vs : List Answer) → all_refused vs ≡ true → in_a_row c vs ≡ c + length vs
unfolding in_a_row all_refused
all_in_a_row c [] h = omega arith
all_in_a_row c (v ∷ vs) h = one_longer (is_done v) (all_refused vs) c (in_a_row c vs) (length vs) (all_in_a_row c vs) h

-- in a row from 0, none is the same as that the last was accepted or there was none
none_in_a_row : (vs : List Answer) → (in_a_row 0 vs ≡ 0 → sees vs ≡ true) × (sees vs ≡ true → in_a_row 0 vs ≡ 0)
unfolding in_a_row
none_in_a_row [] = (λ _. refl, λ _. refl)
none_in_a_row (v ∷ vs) = go (is_done v)
  where
    go : (b : Bool) → (cond b 0 (suc (in_a_row 0 vs)) ≡ 0 → b ≡ true) × (b ≡ true → cond b 0 (suc (in_a_row 0 vs)) ≡ 0)
    go true = (λ _. refl, λ _. refl)
    go false = (λ k. absurd (omega arith), λ k. absurd (true≢false (sym k)))

module _ {s e : OneState} {vs : List Answer} (shift : Shift s vs e) where
  -- After refusals alone, predictions between them included, it is the smaller of what it was with their number added, and 255 ..
  pub after_refusals : s.blind ≤ 255 → all_refused vs ≡ true → e.blind ≡ min (s.blind + length vs) 255
  after_refusals h all = blind_for shift h ∙ ap (λ (n : ℕ). min n 255) (all_in_a_row s.blind vs all)

  -- .. and where the last correction was accepted it is 0, whatever predictions came after it.
  pub after_accepted : (v : Answer) (us : List Answer) → vs ≡ v ∷ us → is_done v ≡ true → s.blind ≤ 255 → e.blind ≡ 0
  unfolding in_a_row
  after_accepted v us first done h = blind_for shift h ∙ rw (first, done) refl

  from_0 : s.blind ≡ 0 → e.blind ≡ min (in_a_row 0 vs) 255
  from_0 h = blind_for shift (omega arith) ∙ ap (λ (c : ℕ). min (in_a_row c vs) 255) h

  -- Of a record that started at 0: 0 says that the last correction was accepted or there was none yet, and nothing else does ..
  pub zero_says : s.blind ≡ 0 → (e.blind ≡ 0 → sees vs ≡ true) × (sees vs ≡ true → e.blind ≡ 0)
  zero_says h = (λ z. (none_in_a_row vs).0 (omega (arith, from_0 h)), λ q. omega (arith, from_0 h, (none_in_a_row vs).1 q))

  -- .. below 255 it is how many were refused in a row, and 255 says that there were as many or more.
  pub exact_below : s.blind ≡ 0 → e.blind < 255 → e.blind ≡ in_a_row 0 vs
  exact_below h small = omega (arith, from_0 h)

  pub full_says : s.blind ≡ 0 → e.blind ≡ 255 → 255 ≤ in_a_row 0 vs
  full_says h full = omega (arith, from_0 h)
