-- The code of a card that is read or written says everything: what it carries is not cut, and two results that keep the promise are equal. Assumes nothing.
use mathlib.Core.Path.{◌≡◌, sym, ◌∙◌}
use mathlib.Core.List.{List, [], ◌∷◌, ◌++◌}
use Prim.Native.Nat.{ℕ, ◌≤◌}
use native.Mathlib.Omega.{arith}
use lib.Ieee.{Float, Format}
use Rattle.answers.specs.Answers.{Answer}
use Rattle.answers.specs.Tests.{lent, buffer_tests}
use Rattle.card_text.specs.Card as card
use Rattle.card_text.specs.Card.{states_of, observations_of, card_answer, read_answer}
use Rattle.card_text.specs.Spelling.{card_length}
use Rattle.card_text.proofs.FirstBad.{carried_small}
use Rattle.cards.specs.Written.{sizes_answer, write_answer}
use Rattle.cards.proofs.Theorems.{read_unique, write_unique}
use Rattle.c_codes.specs.Code.{carried}
use Rattle.c_codes.proofs.Small.{after, buffers, call_small}
use Rattle.c_cards.specs.Into.{CardInto}
use Rattle.c_cards.specs.Out.{CardOut, LengthOut}

-- the line's number, the size's or the buffer's is below 100
pub card_small : (d : ℕ) (s : List ℕ) (la lq lh lr : ℕ) → carried (read_answer d s la lq lh lr) ≤ 99
unfolding read_answer
card_small d s la lq lh lr =
    let bs = card.buffers (states_of s) (observations_of s) la lq lh lr in
    after (card_answer d s) (buffer_tests 0 bs) (omega (arith, carried_small d s)) (buffers 0 bs (omega arith))

-- two results that keep the promise are equal
pub card_into_unique : {f : Format} {d : ℕ} {s : List ℕ} {a q h r a₁ q₁ h₁ r₁ a₂ q₂ h₂ r₂ : List Float} {n m n₁ m₁ n₂ m₂ : ℕ} {v w : Answer}
    → CardInto f d s a q h r n m v a₁ q₁ h₁ r₁ n₁ m₁ → CardInto f d s a q h r n m w a₂ q₂ h₂ r₂ n₂ m₂
    → (v ≡ w) × (a₁ ≡ a₂) × (q₁ ≡ q₂) × (h₁ ≡ h₂) × (r₁ ≡ r₂) × (n₁ ≡ n₂) × (m₁ ≡ m₂)
card_into_unique x y =
    let b = read_unique x.buffers (rw (y.answer, sym x.answer) at y).buffers in
    (cc, b.1, b.2, b.3, b.4, cc, cc)

-- ---- the writer

-- the size's number or the buffer's is below 100
pub write_small : (d n m la lq lh lr lb : ℕ) → carried (write_answer d n m la lq lh lr lb) ≤ 99
unfolding write_answer
write_small d n m la lq lh lr lb = call_small (n ∷ m ∷ []) (card.buffers n m la lq lh lr ++ (lent (card_length d n m) lb ∷ [])) [] (omega arith) (omega arith) tt

pub sizes_small : (n m : ℕ) → carried (sizes_answer n m) ≤ 99
unfolding sizes_answer
sizes_small n m = call_small (n ∷ m ∷ []) [] [] (omega arith) (omega arith) tt

-- two results that keep the promise are equal
pub card_out_unique : {f : Format} {d n m : ℕ} {a q h r : List Float} {b b₁ b₂ : List ℕ} {l l₁ l₂ : ℕ} {v w : Answer}
    → CardOut f d n m a q h r b l v b₁ l₁ → CardOut f d n m a q h r b l w b₂ l₂ → (v ≡ w) × (b₁ ≡ b₂) × (l₁ ≡ l₂)
card_out_unique x y = (x.answer ∙ sym y.answer, (write_unique x.bytes y.bytes).1, cc)

pub length_out_unique : {d n m l l₁ l₂ : ℕ} {v w : Answer} → LengthOut d n m l v l₁ → LengthOut d n m l w l₂ → (v ≡ w) × (l₁ ≡ l₂)
length_out_unique x y = (x.answer ∙ sym y.answer, cc)
