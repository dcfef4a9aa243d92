-- The lines of a card put one behind the other are the card: from the last line on, each with what comes behind it. Assumes nothing.
use mathlib.Core.Path.{◌≡◌}
use mathlib.Core.List.{List}
use Prim.Native.Nat.{ℕ, ◌*◌, ◌≤◌}
use native.Mathlib.Nat.{mul-pos}
use lib.ListN.{length}
use lib.Seq.{sets}
use lib.Ieee.{Float, Format}
use Rattle.card_text.specs.Card.{edition_key, states_key, observations_key, a_key, q_key, h_key, r_key}
use Rattle.card_text.specs.Spelling.{card_text}
use Rattle.card_text.proofs.Length.{squares}
use Rattle.card_text.proofs.Theorems.{behind1, behind2, behind3, behind4, behind5, behind6}
use Rattle.card_text.specs.Said.{said}
use Rattle.card_spelling.proofs.Lining.{CountPut, EntriesPut, behind_count, behind-entries}

module _ (f : Format) (d n m : ℕ) (a q h r : List Float) (n-some : 1 ≤ n) (m-some : 1 ≤ m) (in_a : n * n ≤ length a) (in_q : n * n ≤ length q) (in-h : m * n ≤ length h) where
  -- the list after line 1, after line 2, .. and the position there
  pub card_put : (l : List ℕ) {l1 l2 l3 l4 l5 l6 l7 : List ℕ} {p1 p2 p3 p4 p5 p6 p7 : ℕ}
      → CountPut l 0 edition_key 1 l1 p1
      → CountPut l1 p1 states_key n l2 p2
      → CountPut l2 p2 observations_key m l3 p3
      → EntriesPut f d l3 p3 a_key a (n * n) l4 p4
      → EntriesPut f d l4 p4 q_key q (n * n) l5 p5
      → EntriesPut f d l5 p5 h_key h (m * n) l6 p6
      → EntriesPut f d l6 p6 r_key r (m * m) l7 p7
      → l7 ≡ sets l 0 (card_text d (said f n m a q h r))
  unfolding card_text
  card_put l {l1} {l2} {l3} {l4} {l5} {l6} {l7} {p1} {p2} {p3} {p4} {p5} {p6} e1 e2 e3 e4 e5 e6 e7 =
      let c = said f n m a q h r in
      let from6 = behind-entries l5 p5 h_key l6 p6 (behind6 d c) l7 e7.1 f d h (m * n) (mul-pos m-some n-some) in-h e6 in
      let from5 = behind-entries l4 p4 q_key l5 p5 (behind5 d c) l7 from6 f d q (n * n) (mul-pos n-some n-some) in_q e5 in
      let from4 = behind-entries l3 p3 a_key l4 p4 (behind4 d c) l7 from5 f d a (n * n) (mul-pos n-some n-some) in_a e4 in
      let from3 = behind_count l2 p2 observations_key l3 p3 (behind3 d c) l7 from4 m e3 in
      let from2 = behind_count l1 p1 states_key l2 p2 (behind2 d c) l7 from3 n e2 in
      behind_count l 0 edition_key l1 p1 (behind1 d c) l7 from2 1 e1

-- how many entries a matrix has at least and at most
pub entries_few : (n m : ℕ) → 1 ≤ n → n ≤ 16 → 1 ≤ m → m ≤ 16 → (1 ≤ n * n) × (n * n ≤ 256) × (1 ≤ m * n) × (m * n ≤ 256) × (1 ≤ m * m) × (m * m ≤ 256)
entries_few n m ln hn lm hm = let most = squares n m hn hm in (mul-pos ln ln, most.0, mul-pos lm ln, most.1, mul-pos lm lm, most.2)
