-- What the promises of the reader and of the writer say further: two results are equal, and a refused call changes nothing. Assumes nothing.
use mathlib.Core.Path.{◌≡◌, refl, sym, ap, ◌∙◌}
use mathlib.Core.Bool.{false}
use mathlib.Core.List.{List}
use Prim.Native.Nat.{ℕ, ◌*◌, ◌≤◌}
use borrow.Author.Tests.{le-leb, le-ltb}
use lib.ListN.{length}
use lib.Ieee.{Float, Format}
use Rattle.std.specs.Prelude.{Result, Ok, Err}
use Rattle.answers.specs.declared.Refusal.{Refusal}
use Rattle.answers.specs.Answers.{is_done, Answer}
use Rattle.answers.specs.Tests.{buffer_test}
use Rattle.card_text.specs.Card.{states_of, observations_of, read_answer}
use Rattle.card_text.specs.Spelling.{card_length}
use Rattle.answers.proofs.Kept.{err_not_done}
use Rattle.cards.specs.Read.{told, CardRead}
use Rattle.cards.specs.Written.{write_answer, measured, CardWritten}

-- two results that keep the promise are equal
pub read_unique : {f : Format} {d : ℕ} {s : List ℕ} {a q h r a₁ q₁ h₁ r₁ a₂ q₂ h₂ r₂ : List Float} {v w : Result (ℕ × ℕ) Refusal}
    → CardRead f d s a q h r v a₁ q₁ h₁ r₁ → CardRead f d s a q h r w a₂ q₂ h₂ r₂ → (v ≡ w) × (a₁ ≡ a₂) × (q₁ ≡ q₂) × (h₁ ≡ h₂) × (r₁ ≡ r₂)
read_unique x y = (x.answer ∙ sym y.answer, x.a_after ∙ sym y.a_after, x.q_after ∙ sym y.q_after, x.h_after ∙ sym y.h_after, x.r_after ∙ sym y.r_after)

-- what is said tells the answer: Err where it is a refusal, and that one; both sizes where it is done
pub told_refused : (w : Answer) (u : Refusal) (s : List ℕ) → Err u ≡ told w s → w ≡ Err u
told_refused (Ok x) u s e = absurd (cc)
told_refused (Err v) u s e = cc

pub told_sizes : (w : Answer) (n m : ℕ) (s : List ℕ) → Ok (n, m) ≡ told w s → (w ≡ Ok tt) × (n ≡ states_of s) × (m ≡ observations_of s)
told_sizes (Ok x) n m s e = let p : ◌≡◌ {A = ℕ × ℕ} (n, m) (states_of s, observations_of s) = cc in (refl, ap (λ (x : ℕ × ℕ). x.0) p, ap (λ (x : ℕ × ℕ). x.1) p)
told_sizes (Err v) n m s e = absurd (cc)

module _ {f : Format} {d : ℕ} {s : List ℕ} {a q h r a' q' h' r' : List Float} {v : Result (ℕ × ℕ) Refusal} (kept : CardRead f d s a q h r v a' q' h' r') where
  -- where the card, or a buffer, is refused, every buffer is as it was
  pub refused_card_keeps : is_done (read_answer d s (length a) (length q) (length h) (length r)) ≡ false → (a' ≡ a) × (q' ≡ q) × (h' ≡ h) × (r' ≡ r)
  refused_card_keeps e = (kept.a_after ∙ rw e, kept.q_after ∙ rw e, kept.h_after ∙ rw e, kept.r_after ∙ rw e)

  -- so it is where the reader says Err
  pub refused_keeps : (u : Refusal) → v ≡ Err u → (a' ≡ a) × (q' ≡ q) × (h' ≡ h) × (r' ≡ r)
  refused_keeps u e = refused_card_keeps (ap is_done (told_refused (read_answer d s (length a) (length q) (length h) (length r)) u s (sym e ∙ kept.answer)) ∙ err_not_done u)

-- ---- the writer

-- two results that keep the promise are equal
pub write_unique : {f : Format} {d n m : ℕ} {a q h r : List Float} {b b₁ b₂ : List ℕ} {v w : Result ℕ Refusal}
    → CardWritten f d n m a q h r b v b₁ → CardWritten f d n m a q h r b w b₂ → (v ≡ w) × (b₁ ≡ b₂)
write_unique x y = (x.answer ∙ sym y.answer, x.bytes ∙ sym y.bytes)

-- where the sizes are taken and each matrix has its numbers, the test of the bytes alone decides: they are short exactly where they are fewer than the card has
pub bytes_alone : (d n m la lq lh lr lb : ℕ) → 1 ≤ n → n ≤ 16 → 1 ≤ m → m ≤ 16 → n * n ≤ la → n * n ≤ lq → m * n ≤ lh → m * m ≤ lr
    → write_answer d n m la lq lh lr lb ≡ buffer_test 4 (card_length d n m) lb
unfolding write_answer
bytes_alone d n m la lq lh lr lb n1 n2 m1 m2 ha hq hh hr =
    rw (le-leb 1 n n1, le-leb n 16 n2, le-leb 1 m m1, le-leb m 16 m2, le-ltb la (n * n) ha, le-ltb lq (n * n) hq, le-ltb lh (m * n) hh, le-ltb lr (m * m) hr)

-- what is said tells the answer: Err where it is a refusal, and that one; the length where it is done
pub measured_refused : (w : Answer) (u : Refusal) (l : ℕ) → Err u ≡ measured w l → w ≡ Err u
measured_refused (Ok x) u l e = absurd (cc)
measured_refused (Err v) u l e = cc

pub measured-length : (w : Answer) (k l : ℕ) → Ok k ≡ measured w l → (w ≡ Ok tt) × (k ≡ l)
measured-length (Ok x) k l e = (refl, cc)
measured-length (Err v) k l e = absurd (cc)

module _ {f : Format} {d n m : ℕ} {a q h r : List Float} {b b' : List ℕ} {v : Result ℕ Refusal} (kept : CardWritten f d n m a q h r b v b') where
  -- where a size, or a buffer, is refused, every byte is as it was
  pub refused_write_keeps : is_done (write_answer d n m (length a) (length q) (length h) (length r) (length b)) ≡ false → b' ≡ b
  refused_write_keeps e = kept.bytes ∙ rw e

  -- so it is where the writer says Err
  pub refused_keeps_bytes : (u : Refusal) → v ≡ Err u → b' ≡ b
  refused_keeps_bytes u e = refused_write_keeps (ap is_done (measured_refused (write_answer d n m (length a) (length q) (length h) (length r) (length b)) u _ (sym e ∙ kept.answer)) ∙ err_not_done u)
