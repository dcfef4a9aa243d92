-- The cases of what is expected of a card, by what the tests and the calls on the way found. Assumes nothing.
use mathlib.Core.Path.{◌≡◌, refl, sym, ap, ◌∙◌, subst}
use mathlib.Core.List.{List, ◌++◌}
use Prim.Native.Nat.{ℕ, ◌+◌, ◌-◌, ◌≤◌, ◌<◌}
use native.Mathlib.Numerals.{add-one}
use native.Mathlib.Omega.{arith}
use lib.ListN.{length, take, drop}
use lib.Seq.{sets, sets-eq}
use borrow.Rule.Slice.PartMut.{put_mid}
use Rattle.std.proofs.lemmas.List.{append_assoc, drop-drop}
use Rattle.card_bytes.specs.Expected.{quiet_text, text_after, word_after, texts_after, words_after}

-- ---- one place
-- `7fc00000` copied over eight bytes
pub quiet_put : (t ys : List ℕ) (p : ℕ) → p + 8 ≤ length t → ys ≡ quiet_text → put_mid p (p + 8 - p) t ys ≡ sets t p quiet_text
quiet_put t ys p h e =
    let eight : p + 8 - p ≡ 8 = omega arith in
    subst (λ n. put_mid p n t ys ≡ sets t p quiet_text) (sym eight) (subst (λ l. put_mid p 8 t l ≡ sets t p quiet_text) (sym e) (ap (λ r. take p t ++ (quiet_text ++ r)) (drop-drop 8 p t) ∙ sym (append_assoc (take p t) quiet_text (drop (p + 8) t)) ∙ sym (sets-eq quiet_text t p h)))

-- ---- all of them
-- of the places that the words from `at` on name, i are in the text
pub record Placed (s : List ℕ) (at : ℕ) (t : List ℕ) (many : ℕ) (text : List ℕ) (next i : ℕ) : Type 0 where
  pub within : i ≤ many
  pub whole : length text ≡ length t
  pub made : text ≡ texts_after s at t i
  pub place : next ≡ words_after s at (length t) i

module _ (s : List ℕ) (at : ℕ) (t : List ℕ) (many : ℕ) where
  pub none-placed : Placed s at t many t at 0
  unfolding texts_after words_after
  none-placed = record { within = omega arith; whole = refl; made = refl; place = refl }

  pub one_placed :
      (text : List ℕ) (next i : ℕ) (text' : List ℕ) (next' : ℕ) →
      i < many → Placed s at t many text next i → length text' ≡ length text →
      next' ≡ word_after s next (length text) → text' ≡ text_after s next text →
      Placed s at t many text' next' (i + 1)
  unfolding texts_after words_after
  one_placed text next i text' next' h r kept e f = record {
    within = omega arith;
    whole = kept ∙ r.whole;
    made = rw (add-one i, f, r.made, r.place);
    place = rw (add-one i, e, r.whole, r.place);
  }
