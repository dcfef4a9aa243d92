-- From what the cores leave to what a call promises, over plain lists: refused at a pivot, accepted, refused at the door. Assumes nothing.
use mathlib.Core.Path.{◌≡◌, refl, sym, ap, subst, ◌∙◌}
use mathlib.Core.Bool.{true, false}
use mathlib.Core.List.{List}
use Prim.Native.Nat.{ℕ, ◌*◌, ◌≤◌, ◌<◌}
use native.Mathlib.Omega.{arith}
use borrow.Author.Tests.{lt-ltb, le-ltb}
use lib.ListN.{length}
use lib.Ieee.{Float, Format, add, sub}
use Rattle.std.proofs.Common.{Ok, Err}
use Rattle.answers.specs.declared.Refusal.TheVariants.{Pivot}
use Rattle.answers.specs.Answers.{is_done, settled, Answer}
use Rattle.grids.specs.Grid.{cell, run, grid, SameEntries}
use Rattle.grids.proofs.Grids.{run_ext, grid_ext}
use Rattle.entries.specs.Entries.{times, numbers}
use Rattle.factors.specs.Decomposed.{pivot_answer}
use Rattle.factors.specs.Inverse.{inverse}
use Rattle.factors.proofs.OnlyLower.{inverse-lower}
use Rattle.filters.specs.Correction.{hp_of, factor_of, pivot_of, inverse_of, pht_of, gain_of, new_x, khp_of}
use Rattle.filters.specs.Lent.{Buffers, buffers, update_answer, correct_answer}
use Rattle.filters.specs.Corrected.{pivots_answer, finite_answer, next_x, next_p, Renewed, with_y, innovation_in, innovated, Updated, Corrected}
use Rattle.filters.proofs.Verdict.{finite_alike}
use Rattle.entries.proofs.Written.{written, times_alike, times_x_alike}

-- the buffers with another z
abbrev pub with_z : Buffers → List Float → Buffers
with_z b z = buffers b.x b.P b.H z b.R b.y b.S b.K b.s_inv b.HP b.PHt b.KHP

module _ (f : Format) (n m : ℕ) (b e : Buffers) where
  abbrev H : ℕ → ℕ → Float
  H = cell n b.H

  abbrev P : ℕ → ℕ → Float
  P = cell n b.P

  abbrev R : ℕ → ℕ → Float
  R = cell m b.R

  abbrev I : ℕ → ℕ → Float
  I = cell m b.s_inv

  -- the pivot i is refused: temp_HP and S are written, and the rest is as lent
  pub pivot_refused : (i : ℕ) → i < m → i ≡ pivot_of f n m H P R → e.HP ≡ grid m n (hp_of f n H P) b.HP → e.S ≡ grid m m (factor_of f n m H P R) b.S
      → e.s_inv ≡ b.s_inv → e.PHt ≡ b.PHt → e.K ≡ b.K → e.x ≡ b.x → e.KHP ≡ b.KHP → e.P ≡ b.P
      → Renewed f n m (Ok tt) (Err (Pivot i)) b e
  pivot_refused i h q hp s vi vt vk vx vh vp =
      let named : pivot_answer i m ≡ Err (Pivot i) = simp (lt-ltb i m h) in
      let told : pivots_answer f n m b ≡ Err (Pivot i) = ap (λ (k : ℕ). pivot_answer k m) (sym q) ∙ named in
      record {
        answer = rw told refl;
        hp_after = hp;
        s_after = s;
        s_inv_after = rw told vi;
        pht_after = rw told vt;
        k_after = rw told vk;
        x_after = vx;
        khp_after = rw told vh;
        p_after = vp;
      }

  module _ (s_fits : m * m ≤ length b.S) (k_fits : n * m ≤ length b.K) (HP-fits : m * n ≤ length b.HP) (hp : e.HP ≡ grid m n (hp_of f n H P) b.HP) (s : e.S ≡ grid m m (factor_of f n m H P R) b.S) where
    -- the inverse goes by the factor
    inverse_same : SameEntries m m (inverse f m (cell m e.S) I) (inverse_of f n m H P R I)
    inverse_same r c hr hc =
        inverse-lower f m (cell m e.S) (factor_of f n m H P R) (λ i j h k. written m m (factor_of f n m H P R) b.S e.S s_fits s i j k (omega arith)) I I r c hr hc

    -- every pivot is taken, and v says whether the new x and P are finite
    pub gain-taken : (i : ℕ) (v : Answer) → m ≤ i → i ≡ pivot_of f n m H P R
        → e.s_inv ≡ grid m m (inverse_of f n m H P R I) b.s_inv
        → e.PHt ≡ grid n m (pht_of f n H P) b.PHt
        → e.K ≡ grid n m (gain_of f n m H P R I) b.K
        → v ≡ finite_answer n (new_x f m (cell m e.K) (numbers b.x) (numbers b.y)) (λ r c. sub f (P r c) (times f m (cell m e.K) (cell n e.HP) r c))
        → e.x ≡ settled v (run 0 n (new_x f m (cell m e.K) (numbers b.x) (numbers b.y)) b.x) b.x
        → e.KHP ≡ grid n n (times f m (cell m e.K) (cell n e.HP)) b.KHP
        → e.P ≡ settled v (grid n n (λ r c. sub f (P r c) (times f m (cell m e.K) (cell n e.HP) r c)) b.P) b.P
        → Renewed f n m (Ok tt) v b e
    gain-taken i v h q vi vt vk vv vx vh vp =
        let none : pivot_answer i m ≡ Ok tt = simp (le-ltb i m h) in
        let told : pivots_answer f n m b ≡ Ok tt = ap (λ (k : ℕ). pivot_answer k m) (sym q) ∙ none in
        let G = gain_of f n m H P R I in
        let k_same : SameEntries n m (cell m e.K) G = written n m G b.K e.K k_fits vk in
        let KHP-same : SameEntries n n (times f m (cell m e.K) (cell n e.HP)) (khp_of f n m G H P) =
        times_alike f n m n (cell m e.K) G (cell n e.HP) (hp_of f n H P) k_same (written m n (hp_of f n H P) b.HP e.HP HP-fits hp) in
        let x-same : (r : ℕ) → r < n → new_x f m (cell m e.K) (numbers b.x) (numbers b.y) r ≡ next_x f n m b r =
        λ r hr. ap (add f (numbers b.x r)) (times_x_alike f n m (cell m e.K) G (numbers b.y) r hr k_same) in
        let p_same : SameEntries n n (λ r c. sub f (P r c) (times f m (cell m e.K) (cell n e.HP) r c)) (next_p f n m b) =
        λ r c hr hc. ap (sub f (P r c)) (KHP-same r c hr hc) in
        record {
          answer = rw told (vv ∙ finite_alike n _ _ _ _ x-same p_same);
          hp_after = hp;
          s_after = s;
          s_inv_after = rw told vi;
          pht_after = rw told vt;
          k_after = rw told vk;
          x_after = vx ∙ ap (λ (l : List Float). settled v l b.x) (run_ext 0 n _ _ b.x x-same);
          khp_after = rw told (vh ∙ grid_ext n n _ _ b.KHP KHP-same);
          p_after = vp ∙ ap (λ (l : List Float). settled v l b.P) (grid_ext n n _ _ b.P p_same);
        }

    -- the same, where the inverse and the gain are told by what S holds
    pub pivots_taken : (i : ℕ) (v : Answer) → m ≤ i → i ≡ pivot_of f n m H P R
        → e.s_inv ≡ grid m m (inverse f m (cell m e.S) I) b.s_inv
        → e.PHt ≡ grid n m (pht_of f n H P) b.PHt
        → e.K ≡ grid n m (times f m (pht_of f n H P) (inverse f m (cell m e.S) I)) b.K
        → v ≡ finite_answer n (new_x f m (cell m e.K) (numbers b.x) (numbers b.y)) (λ r c. sub f (P r c) (times f m (cell m e.K) (cell n e.HP) r c))
        → e.x ≡ settled v (run 0 n (new_x f m (cell m e.K) (numbers b.x) (numbers b.y)) b.x) b.x
        → e.KHP ≡ grid n n (times f m (cell m e.K) (cell n e.HP)) b.KHP
        → e.P ≡ settled v (grid n n (λ r c. sub f (P r c) (times f m (cell m e.K) (cell n e.HP) r c)) b.P) b.P
        → Renewed f n m (Ok tt) v b e
    pivots_taken i v h q vi vt vk =
        gain-taken i v h q
        (vi ∙ grid_ext m m _ _ b.s_inv inverse_same)
        vt
        (vk ∙ grid_ext n m _ _ b.K (times_alike f n m m (pht_of f n H P) (pht_of f n H P) (inverse f m (cell m e.S) I) (inverse_of f n m H P R I) (λ r c hr hc. refl) inverse_same))

-- what the update leaves does not go by z, nor by the y afterwards
retold : (f : Format) (n m : ℕ) (g v : Answer) (b e : Buffers) (z z' y' : List Float) → Renewed f n m g v b e → Renewed f n m g v (with_z b z) (with_z (with_y e y') z')
retold f n m g v b e z z' y' r = record {
  answer = r.answer;
  hp_after = r.hp_after;
  s_after = r.s_after;
  s_inv_after = r.s_inv_after;
  pht_after = r.pht_after;
  k_after = r.k_after;
  x_after = r.x_after;
  khp_after = r.khp_after;
  p_after = r.p_after;
}

-- ---- a public call: g is the answer to refusals 1 and 2, v the call's

module _ (f : Format) (n m : ℕ) (g v : Answer) (b e : Buffers) where
  -- past the door, what the core left
  past_the_door : is_done g ≡ true → Renewed f n m (Ok tt) v b e → Renewed f n m g v b e
  past_the_door done r = record {
    answer = rw done r.answer;
    hp_after = rw done r.hp_after;
    s_after = rw done r.s_after;
    s_inv_after = rw done r.s_inv_after;
    pht_after = rw done r.pht_after;
    k_after = rw done r.k_after;
    x_after = r.x_after;
    khp_after = rw done r.khp_after;
    p_after = r.p_after;
  }

-- at the door
at_the_door : (f : Format) (n m : ℕ) (g v : Answer) (b : Buffers) (y : List Float) → v ≡ g → is_done g ≡ false → Renewed f n m g v (with_y b y) b
at_the_door f n m g v b y q kept = subst (λ (w : Answer). Renewed f n m g w (with_y b y) b) (sym q) (record {
  answer = simp kept;
  hp_after = simp kept;
  s_after = simp kept;
  s_inv_after = simp kept;
  pht_after = simp kept;
  k_after = simp kept;
  x_after = simp kept;
  khp_after = simp kept;
  p_after = simp kept;
})

-- The update is accepted at the door, and its work done; or it is refused there.
pub update_past : (f : Format) (n m : ℕ) (b : Buffers) (v : Answer) (e : Buffers) → is_done (update_answer n m b) ≡ true → e.y ≡ b.y → Renewed f n m (Ok tt) v b e → Updated f n m b v e
update_past f n m b v e d y r = record { renewed = past_the_door f n m (update_answer n m b) v b e d r; y_after = y }

pub update_refused : (f : Format) (n m : ℕ) (b : Buffers) (v : Answer) → v ≡ update_answer n m b → is_done v ≡ false → Updated f n m b v b
update_refused f n m b v q d = record { renewed = at_the_door f n m (update_answer n m b) v b b.y q (ap is_done (sym q) ∙ d); y_after = refl }

-- So the correction: the innovation went into y, and the update read it there. The update's own lists have no z.
pub correct_past : (f : Format) (n m : ℕ) (b : Buffers) (v : Answer) (e : Buffers) (z : List Float) → is_done (correct_answer n m b) ≡ true → e.y ≡ innovation_in f n m b
    → Renewed f n m (Ok tt) v (with_z (with_y b e.y) z) (with_z e z) → Corrected f n m b v e
correct_past f n m b v e z d q r =
    let same : e.y ≡ innovated f n m b = q ∙ rw d in
    record {
      y_after = same;
      renewed = subst (λ (y : List Float). Renewed f n m (correct_answer n m b) v (with_y b y) e) same
          (past_the_door f n m (correct_answer n m b) v (with_y b e.y) e d (retold f n m (Ok tt) v (with_z (with_y b e.y) z) (with_z e z) b.z e.z e.y r));
    }

pub correct_refused : (f : Format) (n m : ℕ) (b : Buffers) (v : Answer) → v ≡ correct_answer n m b → is_done v ≡ false → Corrected f n m b v b
correct_refused f n m b v q d =
    let kept : is_done (correct_answer n m b) ≡ false = ap is_done (sym q) ∙ d in
    record { y_after = rw kept; renewed = at_the_door f n m (correct_answer n m b) v b (innovated f n m b) q kept }
