-- Words that are put into the front of a buffer, and which words they are. Assumes nothing.
use mathlib.Core.Path.{◌≡◌, refl, ap, ◌∙◌}
use mathlib.Core.Bool.{Bool, true, false, cond, true≢false}
use mathlib.Core.List.{List, [], ◌∷◌}
use Prim.Native.Nat.{ℕ, ◌+◌, ◌≤◌}
use native.Mathlib.Nat.{zero-add}
use lib.Dec.{eqb, lit≤}
use lib.ListN.{length}
use lib.Seq.{sets}
use borrow.Author.Tests.{ne_eqb}
use Rattle.std.proofs.Common.{Ok, Err}
use Rattle.answers.specs.declared.Refusal.TheVariants.{Size, Short, Range, Pivot, Line, Edition, NotFinite}
use Rattle.answers.specs.Answers.{is_done, Answer}
use Rattle.card_text.specs.FirstBad.{CardGiven, bad_line, other_edition, bad_states, bad_observations, right}
use Rattle.card_words.specs.Words.{bytes_of, line_words, size_words, words_of}

module _ (t w b b' : List ℕ) (l : ℕ) (e : t ≡ w) where
  -- the bytes t, which are the words w, were put, l of them
  pub told : l ≡ length t → b' ≡ sets b 0 t → (l ≡ length w) × (b' ≡ sets b 0 w)
  told long is = (long ∙ ap length e, is ∙ ap (sets b 0) e)

  -- from the front on
  pub put : l ≡ 0 + length t → b' ≡ sets b 0 t → (l ≡ length w) × (b' ≡ sets b 0 w)
  put long = told (long ∙ zero-add (length t))

-- from 8 on a line is surplus
pub surplus : (k : ℕ) → (k ≡ 1 → ⊥) → (k ≡ 2 → ⊥) → (k ≡ 3 → ⊥) → (k ≡ 4 → ⊥) → (k ≡ 5 → ⊥) → (k ≡ 6 → ⊥) → (k ≡ 7 → ⊥) → line_words k ≡ line_words 8
unfolding line_words
surplus k n1 n2 n3 n4 n5 n6 n7 = rw (ne_eqb k 1 n1, ne_eqb k 2 n2, ne_eqb k 3 n3, ne_eqb k 4 n4, ne_eqb k 5 n5, ne_eqb k 6 n6, ne_eqb k 7 n7)

-- a size that is not the first is the second
pub other_size : (k : ℕ) → (k ≡ 0 → ⊥) → size_words k ≡ size_words 1
unfolding size_words
other_size k n = rw (ne_eqb k 0 n)

-- ---- all of them are short

either : (y : Bool) (s t : List ℕ) → length s ≤ 128 → length t ≤ 128 → length (cond y s t) ≤ 128
either true s t hs ht = hs
either false s t hs ht = ht

pub words_at_most : (v : Answer) → length (words_of v) ≤ 128
unfolding words_of line_words size_words bytes_of
words_at_most (Ok tt) = lit≤ tt
words_at_most (Err (Size k)) = either (eqb k 0) _ _ (lit≤ tt) (lit≤ tt)
words_at_most (Err (Short k)) = lit≤ tt
words_at_most (Err (Range k)) = lit≤ tt
words_at_most (Err (Pivot k)) = lit≤ tt
words_at_most (Err (Line k)) =
    either (eqb k 1) _ _ (lit≤ tt)
    (either (eqb k 2) _ _ (lit≤ tt)
    (either (eqb k 3) _ _ (lit≤ tt)
    (either (eqb k 4) _ _ (lit≤ tt)
    (either (eqb k 5) _ _ (lit≤ tt)
    (either (eqb k 6) _ _ (lit≤ tt)
    (either (eqb k 7) _ _ (lit≤ tt) (lit≤ tt)))))))
words_at_most (Err Edition) = lit≤ tt
words_at_most (Err NotFinite) = lit≤ tt

-- ---- and there are some for every refusal that a card is given

some : (y : Bool) (s t : List ℕ) → 1 ≤ length s → 1 ≤ length t → 1 ≤ length (cond y s t)
some true s t hs ht = hs
some false s t hs ht = ht

pub words_some : (d : ℕ) (s : List ℕ) (v : Answer) → CardGiven d s v → is_done v ≡ false → 1 ≤ length (words_of v)
unfolding words_of line_words size_words bytes_of
words_some d s v (bad_line k l h above g) r =
    some (eqb k 1) _ _ (lit≤ tt)
    (some (eqb k 2) _ _ (lit≤ tt)
    (some (eqb k 3) _ _ (lit≤ tt)
    (some (eqb k 4) _ _ (lit≤ tt)
    (some (eqb k 5) _ _ (lit≤ tt)
    (some (eqb k 6) _ _ (lit≤ tt)
    (some (eqb k 7) _ _ (lit≤ tt) (lit≤ tt)))))))
words_some d s v (other_edition g t) r = lit≤ tt
words_some d s v (bad_states above g t) r = lit≤ tt
words_some d s v (bad_observations above g t) r = lit≤ tt
words_some d s v (right above) r = absurd (true≢false r)
