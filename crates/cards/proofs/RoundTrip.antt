-- The writer and the reader together (R35): what is written is taken, and gives back the sizes and the numbers; what was read is written again, but for the patterns of NaN.
-- By the text of the settings on the one side (`card_text/proofs/Theorems.antt`) and the patterns of the numbers on the other (`card_text/proofs/Said.antt`).
-- Over the format and the digits of an entry, which are as many as the format has. Assumes nothing.
use mathlib.Core.Path.{◌≡◌, refl, sym, ap, ◌∙◌, subst}
use mathlib.Core.Bool.{true}
use mathlib.Core.List.{List, map}
use Prim.Native.Nat.{ℕ, ◌*◌, ◌^◌, ◌≤◌}
use native.Mathlib.Nat.{zero-add}
use lib.ListN.{length, get_or, take, drop}
use lib.Seq.{take_at, drop_at}
use lib.Ieee.{Float, nan, Format, binary32, binary64, top}
use Rattle.std.specs.Prelude.{Result, Ok}
use Rattle.answers.specs.declared.Refusal.{Refusal}
use Rattle.answers.specs.Answers.{is_done, Answer}
use Rattle.lines.specs.Pattern.{quieted}
use Rattle.grids.specs.Grid.{run}
use Rattle.grids.proofs.Grids.{length_run, run-cell, run_ext}
use Rattle.card_text.specs.Card.{states_of, observations_of, a_of, q_of, h_of, r_of, card_answer, read_answer}
use Rattle.card_text.specs.Spelling.{Settings, Patterns, Sound, card_text, held, card_length}
use Rattle.card_text.specs.Said.{OfFormat, patterns, said, said_again, OneNanOnly}
use Rattle.card_text.proofs.Theorems.{text-taken, text-held, taken-text, taken_sound}
use Rattle.card_text.proofs.Length.{sound_length}
use Rattle.card_text.proofs.Buffers.{right_taken, taken_right}
use Rattle.card_text.proofs.Said.{patterns-back, said_sound, again, said_same}
use Rattle.cards.specs.Read.{floats, CardRead}
use Rattle.cards.specs.Written.{write_answer, in_front, CardWritten}
use Rattle.cards.proofs.Theorems.{told_sizes, measured-length}
use Rattle.cards.proofs.Writing.{Fits, write_fits, said-length}

-- eight digits are as many as binary32 has, and sixteen as many as binary64
pub eight : 16 ^ 8 ≡ 2 * top binary32
eight = refl

pub sixteen : 16 ^ 16 ≡ 2 * top binary64
sixteen = refl

-- ---- what was written

module _ {f : Format} {d n m l : ℕ} {a q h r : List Float} {b b' : List ℕ} (w : CardWritten f d n m a q h r b (Ok l) b') where
  abbrev v : Answer
  v = write_answer d n m (length a) (length q) (length h) (length r) (length b)

  done : v ≡ Ok tt
  done = (measured-length v l (card_length d n m) w.answer).0

  -- its length is that of its sizes
  pub written_length : l ≡ card_length d n m
  written_length = (measured-length v l (card_length d n m) w.answer).1

  -- every size and buffer was as it must be
  fits : Fits d n m (length a) (length q) (length h) (length r) (length b)
  fits = write_fits d n m (length a) (length q) (length h) (length r) (length b) (ap is_done done)

  text_long : length (card_text d (said f n m a q h r)) ≡ l
  text_long = said-length f d n m a q h r b fits ∙ sym written_length

  in_front_lem : b' ≡ in_front (card_text d (said f n m a q h r)) b
  in_front_lem = w.bytes ∙ rw done

  -- the card stands in front,
  pub written_text : take l b' ≡ card_text d (said f n m a q h r)
  written_text = ap (take l) in_front_lem ∙ take_at (card_text d (said f n m a q h r)) (drop (length (card_text d (said f n m a q h r))) b) l text_long

  -- and past it every byte is as it was
  pub past_written : drop l b' ≡ drop l b
  past_written = ap (drop l) in_front_lem ∙ drop_at (card_text d (said f n m a q h r)) (drop (length (card_text d (said f n m a q h r))) b) l text_long ∙ ap (λ (k : ℕ). drop k b) text_long

  module _ (wide : 16 ^ d ≡ 2 * top f) (fa : OfFormat f a) (fq : OfFormat f q) (fh : OfFormat f h) (fr : OfFormat f r) where
    sound : Sound d (said f n m a q h r)
    sound = said_sound f d wide n m a q h r fits.states_least fits.states_most fits.observations_least fits.observations_most fits.a fits.q fits.h fits.r fa fq fh fr

    -- The reader takes every card that is written ..
    pub written_taken : card_answer d (take l b') ≡ Ok tt
    written_taken = ap (card_answer d) written_text ∙ text-taken d (said f n m a q h r) sound

    -- .. and it holds what it was written of.
    pub written_held : held d (take l b') ≡ said f n m a q h r
    written_held = ap (held d) written_text ∙ text-held d (said f n m a q h r) sound

    -- Read into buffers with room for it, it gives back both sizes, and every number of the four matrices: the same bits, and a NaN as a NaN.
    module _ {a₀ q₀ h₀ r₀ a' q' h' r' : List Float} {u : Result (ℕ × ℕ) Refusal} (c : CardRead f d (take l b') a₀ q₀ h₀ r₀ u a' q' h' r') (la : n * n ≤ length a₀) (lq : n * n ≤ length q₀) (lh : m * n ≤ length h₀) (lr : m * m ≤ length r₀) where
      abbrev s : List ℕ
      s = take l b'

      states : states_of s ≡ n
      states = ap (λ (x : Settings). x.n) written_held

      observations : observations_of s ≡ m
      observations = ap (λ (x : Settings). x.m) written_held

      read_done : read_answer d s (length a₀) (length q₀) (length h₀) (length r₀) ≡ Ok tt
      read_done = right_taken d s (length a₀) (length q₀) (length h₀) (length r₀) written_taken (rw states la) (rw states lq) (rw (states, observations) lh) (rw observations lr)

      -- a matrix of k entries
      matrix : (k k' : ℕ) (es : List ℕ) (x x₀ : List Float) → k' ≡ k → es ≡ patterns f k x → OfFormat f x → k ≤ length x → run 0 k' (floats f es) x₀ ≡ run 0 k (λ i. get_or x i nan) x₀
      matrix k k' es x x₀ ek ee fx lx =
          ap (λ (j : ℕ). run 0 j (floats f es) x₀) ek
          ∙ ap (λ (e : List ℕ). run 0 k (floats f e) x₀) ee
          ∙ run_ext 0 k (floats f (patterns f k x)) (λ i. get_or x i nan) x₀ (λ i lt. patterns-back f d wide k x fx i lt lx)

      pub comes_back : (u ≡ Ok (n, m)) × (a' ≡ run 0 (n * n) (λ i. get_or a i nan) a₀) × (q' ≡ run 0 (n * n) (λ i. get_or q i nan) q₀) × (h' ≡ run 0 (m * n) (λ i. get_or h i nan) h₀) × (r' ≡ run 0 (m * m) (λ i. get_or r i nan) r₀)
      comes_back = (
        c.answer ∙ rw (read_done, states, observations),
        c.a_after ∙ rw read_done (matrix (n * n) (states_of s * states_of s) (a_of d s) a a₀ (rw states) (ap (λ (x : Settings). x.a) written_held) fa fits.a),
        c.q_after ∙ rw read_done (matrix (n * n) (states_of s * states_of s) (q_of d s) q q₀ (rw states) (ap (λ (x : Settings). x.q) written_held) fq fits.q),
        c.h_after ∙ rw read_done (matrix (m * n) (observations_of s * states_of s) (h_of d s) h h₀ (rw (states, observations)) (ap (λ (x : Settings). x.h) written_held) fh fits.h),
        c.r_after ∙ rw read_done (matrix (m * m) (observations_of s * observations_of s) (r_of d s) r r₀ (rw observations) (ap (λ (x : Settings). x.r) written_held) fr fits.r),
      )

-- ---- what was read, and written again

module _ {f : Format} {d n m l : ℕ} {s : List ℕ} {a₀ q₀ h₀ r₀ a q h r : List Float} {b b' : List ℕ} (wide : 16 ^ d ≡ 2 * top f) (c : CardRead f d s a₀ q₀ h₀ r₀ (Ok (n, m)) a q h r) (written : CardWritten f d n m a q h r b (Ok l) b') where
  read : (read_answer d s (length a₀) (length q₀) (length h₀) (length r₀) ≡ Ok tt) × (n ≡ states_of s) × (m ≡ observations_of s)
  read = told_sizes (read_answer d s (length a₀) (length q₀) (length h₀) (length r₀)) n m s c.answer

  taken : is_done (read_answer d s (length a₀) (length q₀) (length h₀) (length r₀)) ≡ true
  taken = ap is_done read.0

  w : CardWritten f d (states_of s) (observations_of s) a q h r b (Ok l) b'
  w = subst (λ (y : ℕ). CardWritten f d (states_of s) y a q h r b (Ok l) b') read.2 (subst (λ (x : ℕ). CardWritten f d x m a q h r b (Ok l) b') read.1 written)

  card_done : card_answer d s ≡ Ok tt
  card_done = taken_right d s (length a₀) (length q₀) (length h₀) (length r₀) taken

  held_sound : Sound d (held d s)
  held_sound = taken_sound d s card_done

  -- a matrix of k entries
  same_matrix : (k : ℕ) (es : List ℕ) (x x₀ : List Float) → Patterns d k es → k ≤ length x → x ≡ run 0 k (floats f es) x₀ → patterns f k x ≡ map (quieted f) es
  same_matrix k es x x₀ p lx e =
      again f d wide k es x p.0 p.1 lx
      (λ i lt. ap (λ (z : List Float). get_or z i nan) e ∙ ap (λ (j : ℕ). get_or (run 0 k (floats f es) x₀) j nan) (sym (zero-add i)) ∙ run-cell 0 k (floats f es) x₀ i lt (subst (λ (j : ℕ). j ≤ length x₀) (sym (zero-add k)) (subst (λ (j : ℕ). k ≤ j) (ap length e ∙ length_run 0 k (floats f es) x₀) lx)))

  same_said : said f (states_of s) (observations_of s) a q h r ≡ said_again f (held d s)
  same_said = λ i. record {
    n = states_of s;
    m = observations_of s;
    a = same_matrix (states_of s * states_of s) (a_of d s) a a₀ held_sound.patterns_a (fits w).a (c.a_after ∙ rw taken) i;
    q = same_matrix (states_of s * states_of s) (q_of d s) q q₀ held_sound.patterns_q (fits w).q (c.q_after ∙ rw taken) i;
    h = same_matrix (observations_of s * states_of s) (h_of d s) h h₀ held_sound.patterns_h (fits w).h (c.h_after ∙ rw taken) i;
    r = same_matrix (observations_of s * observations_of s) (r_of d s) r r₀ held_sound.patterns_r (fits w).r (c.r_after ∙ rw taken) i;
  }

  -- A card that is read and written again says the same, with the one pattern that is written for a NaN wherever a NaN stands; it is as long as it was.
  pub written_again : take l b' ≡ card_text d (said_again f (held d s))
  written_again = written_text w ∙ ap (card_text d) same_said

  pub as_long : l ≡ length s
  as_long = written_length w ∙ sym (ap length (taken-text d s card_done) ∙ sound_length d (held d s) held_sound)

  -- Where it has no other NaN it is the same, byte by byte.
  pub same_bytes : OneNanOnly f (held d s) → take l b' ≡ s
  same_bytes o = written_again ∙ ap (card_text d) (said_same f (held d s) o) ∙ sym (taken-text d s card_done)
