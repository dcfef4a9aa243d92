-- What the reading of a card is answered with, and what it leaves: a card that is refused stays so, else the room in the buffers decides. Assumes nothing.
use mathlib.Core.Path.{◌≡◌, sym, ap, ◌∙◌, subst}
use mathlib.Core.Bool.{true}
use mathlib.Core.List.{List, []}
use Prim.Native.Nat.{ℕ, ◌*◌, ◌≤◌}
use lib.Dec.{lit≤}
use lib.ListN.{length}
use lib.Ieee.{Float, Format}
use Rattle.std.specs.Prelude.{Ok, Err}
use Rattle.answers.specs.declared.Refusal.{Refusal}
use Rattle.answers.specs.Answers.{is_done, Answer}
use Rattle.answers.specs.Tests.{buffer_tests, after_tests}
use Rattle.answers.proofs.Fit.{fit}
use Rattle.grids.specs.Grid.{run}
use Rattle.card_text.specs.Lines.{behind_lines}
use Rattle.card_text.specs.Card.{a_key, q_key, h_key, r_key, entries_line, entries_of, states_of, observations_of, card_answer, buffers, read_answer}
use Rattle.card_text.specs.FirstBad.{good}
use Rattle.card_text.proofs.FirstBad.{done_right}
use Rattle.card_text.proofs.Buffers.{card-first, then_buffers}
use Rattle.answers.proofs.Kept.{err_not_done}
use Rattle.cards.specs.Read.{floats, CardRead}
use Rattle.cards.specs.Steps.{room_answer, Right}

-- room for all four matrices
pub room_fits : (n m la lq lh lr : ℕ) → is_done (room_answer n m la lq lh lr) ≡ true → (n * n ≤ la) × (n * n ≤ lq) × (m * n ≤ lh) × (m * m ≤ lr)
unfolding room_answer
room_fits n m la lq lh lr e = let b = (fit [] (buffers n m la lq lh lr) [] e).1 in (b.0, b.1.0, b.1.1.0, b.1.1.1.0)

module _ (d : ℕ) (s : List ℕ) where
  -- a card that is refused stays so
  pub card_decides : (la lq lh lr : ℕ) (v : Refusal) → card_answer d s ≡ Err v → read_answer d s la lq lh lr ≡ Err v
  card_decides la lq lh lr v e = card-first d s la lq lh lr (ap is_done e ∙ err_not_done v) ∙ e

  module _ (n m : ℕ) (done : card_answer d s ≡ Ok tt) (en : n ≡ states_of s) (em : m ≡ observations_of s) where
    -- the room decides
    pub room_decides : (la lq lh lr : ℕ) (v : Answer) → v ≡ room_answer n m la lq lh lr → read_answer d s la lq lh lr ≡ v
    unfolding room_answer
    room_decides la lq lh lr v e =
        then_buffers d s la lq lh lr done
        ∙ sym (e ∙ ap (λ (x : ℕ). after_tests (Ok tt) (buffer_tests 0 (buffers x m la lq lh lr))) en ∙ ap (λ (x : ℕ). after_tests (Ok tt) (buffer_tests 0 (buffers (states_of s) x la lq lh lr))) em)

    -- lines 4 to 7 are as they must be
    pub lines_right : (t : List ℕ) → t ≡ behind_lines 3 s → Right d n m t
    unfolding good behind_lines
    lines_right t e =
        let r = done_right d s done in
        subst (Right d n m) (sym e) record {
          a = ap (λ (x : ℕ). entries_line d a_key (x * x) (behind_lines 3 s)) en ∙ (r 4 (lit≤ tt)).0;
          q = ap (λ (x : ℕ). entries_line d q_key (x * x) (behind_lines 4 s)) en ∙ (r 5 (lit≤ tt)).0;
          h = ap (λ (x : ℕ). entries_line d h_key (m * x) (behind_lines 5 s)) en ∙ ap (λ (x : ℕ). entries_line d h_key (x * states_of s) (behind_lines 5 s)) em ∙ (r 6 (lit≤ tt)).0;
          r = ap (λ (x : ℕ). entries_line d r_key (x * x) (behind_lines 6 s)) em ∙ (r 7 (lit≤ tt)).0;
        }

module _ (f : Format) (d : ℕ) (s : List ℕ) (a q h r : List Float) where
  -- refused: no buffer is changed
  pub refused : (v : Refusal) → read_answer d s (length a) (length q) (length h) (length r) ≡ Err v → CardRead f d s a q h r (Err v) a q h r
  refused v e = let n = err_not_done v in record { answer = rw e; a_after = rw (e, n); q_after = rw (e, n); h_after = rw (e, n); r_after = rw (e, n) }

  -- taken: both sizes, and the entries in the buffers
  pub taken : (n m : ℕ) (a' q' h' r' : List Float) → n ≡ states_of s → m ≡ observations_of s
      → read_answer d s (length a) (length q) (length h) (length r) ≡ Ok tt
      → (t : List ℕ) → t ≡ behind_lines 3 s
      → a' ≡ run 0 (n * n) (floats f (entries_of d a_key (n * n) t)) a
      → q' ≡ run 0 (n * n) (floats f (entries_of d q_key (n * n) (behind_lines 1 t))) q
      → h' ≡ run 0 (m * n) (floats f (entries_of d h_key (m * n) (behind_lines 2 t))) h
      → r' ≡ run 0 (m * m) (floats f (entries_of d r_key (m * m) (behind_lines 3 t))) r
      → CardRead f d s a q h r (Ok (n, m)) a' q' h' r'
  unfolding behind_lines
  taken n m a' q' h' r' en em e t here ea eq eh er = record {
    answer = rw (e, en, em);
    a_after = rw e (rw (here, en) at ea);
    q_after = rw e (rw (here, en) at eq);
    h_after = rw e (rw (here, en, em) at eh);
    r_after = rw e (rw (here, em) at er);
  }
