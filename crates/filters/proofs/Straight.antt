-- From the numbers that a correction in straight lines stores to what it promises, over plain lists. For n states and m observations the inverse of S is known by its entries, as J, and the innovation by its numbers, as Y.
-- With one observation S is one number, and which way it goes is its pivot's test. Assumes nothing.
use mathlib.Core.Path.{◌≡◌, refl, sym, ap, ◌∙◌}
use mathlib.Core.Bool.{Bool, true, false, cond, ◌&&◌}
use mathlib.Core.List.{List}
use Prim.Native.Nat.{ℕ, zero, suc, ◌≤◌, ◌<◌}
use native.Mathlib.Omega.{arith}
use lib.ListN.{length, set}
use lib.Ieee.{Float, Format, add, sub, mul}
use lib.Ieee.Scale.{finite}
use Rattle.std.proofs.Common.{Ok, Err}
use Rattle.answers.specs.declared.Refusal.TheVariants.{Pivot, NotFinite}
use Rattle.answers.specs.Answers.{settled, Answer}
use Rattle.numbers.specs.Reciprocal.{one, recip_of}
use Rattle.numbers.specs.Root.{sqrt_of}
use Rattle.numbers.specs.Sums.{plus0}
use Rattle.numbers.specs.Finite.{every}
use Rattle.grids.specs.Grid.{cell, run, grid, SameEntries}
use Rattle.grids.proofs.Grids.{run_ext, grid_ext}
use Rattle.entries.specs.Entries.{times, numbers}
use Rattle.entries.proofs.Written.{first_alike, front-cell, times_alike}
use Rattle.factors.specs.Pivots.{pivot_taken}
use Rattle.factors.specs.Decomposition.{less_dot, factor, last_recip, first_not, reached, decomposed}
use Rattle.factors.specs.Decomposed.{pivot_answer}
use Rattle.factors.specs.Inverse.{plus_sum, solved, back, inverse}
use Rattle.filters.specs.Correction.{innovation_of, hp_of, residual_of, factor_of, inverse_of, pht_of, gain_of, new_x, khp_of, new_p}
use Rattle.filters.specs.Lent.{Buffers}
use Rattle.filters.specs.Corrected.{pivots_answer, finite_answer, next_x, next_p, Renewed}
use Rattle.filters.proofs.Verdict.{finite_alike}
use Rattle.filters.proofs.Calls.{pivot_refused}

-- v says whether the numbers x and the entries P' are finite
pub record Verdict (n : ℕ) (x : ℕ → Float) (P' : ℕ → ℕ → Float) (v : Answer) : Type 0 where
  pub told : v ≡ finite_answer n x P'

-- ---- any sizes, past the pivots

module _ (f : Format) (n m : ℕ) (b e : Buffers) (J : ℕ → ℕ → Float) (Y : ℕ → Float) where
  abbrev H : ℕ → ℕ → Float
  H = cell n b.H

  abbrev P : ℕ → ℕ → Float
  P = cell n b.P

  abbrev R : ℕ → ℕ → Float
  R = cell m b.R

  abbrev I : ℕ → ℕ → Float
  I = cell m b.s_inv

  -- the gain, the new x and the new P, by J and Y
  abbrev K : ℕ → ℕ → Float
  K = times f m (pht_of f n H P) J

  abbrev X : ℕ → Float
  X = new_x f m K (numbers b.x) Y

  abbrev N : ℕ → ℕ → Float
  N = new_p f n m K H P

  -- every pivot is taken, and v says whether the new x and P are finite
  pub renewed_by :
      (v : Answer) (y : List Float) → m ≤ length y → b.y ≡ run 0 m Y y
      → pivots_answer f n m b ≡ Ok tt → SameEntries m m J (inverse_of f n m H P R I)
      → Verdict n X N v
      → e.HP ≡ grid m n (hp_of f n H P) b.HP
      → e.S ≡ grid m m (factor_of f n m H P R) b.S
      → e.s_inv ≡ grid m m J b.s_inv
      → e.PHt ≡ grid n m (pht_of f n H P) b.PHt
      → e.K ≡ grid n m K b.K
      → e.KHP ≡ grid n n (khp_of f n m K H P) b.KHP
      → e.x ≡ settled v (run 0 n X b.x) b.x
      → e.P ≡ settled v (grid n n N b.P) b.P
      → Renewed f n m (Ok tt) v b e
  renewed_by v y fits told none j_same vv hp s vi vt vk vh vx vp =
      let G = gain_of f n m H P R I in
      let k_same : SameEntries n m K G = times_alike f n m m (pht_of f n H P) (pht_of f n H P) J (inverse_of f n m H P R I) (λ r c hr hc. refl) j_same in
      let KHP-same : SameEntries n n (khp_of f n m K H P) (khp_of f n m G H P) = times_alike f n m n K G (hp_of f n H P) (hp_of f n H P) k_same (λ r c hr hc. refl) in
      let x-same : (r : ℕ) → r < n → X r ≡ next_x f n m b r =
      λ r hr. ap (add f (numbers b.x r)) (first_alike f (K r) Y (G r) (numbers b.y) m (λ k h. k_same r k hr h) (λ k h. sym (front-cell m Y y b.y k h fits told))) in
      let p_same : SameEntries n n N (next_p f n m b) = λ r c hr hc. ap (sub f (P r c)) (KHP-same r c hr hc) in
      record {
        answer = rw none (vv.told ∙ finite_alike n _ _ _ _ x-same p_same);
        hp_after = hp;
        s_after = s;
        s_inv_after = rw none (vi ∙ grid_ext m m _ _ b.s_inv j_same);
        pht_after = rw none vt;
        k_after = rw none (vk ∙ grid_ext n m _ _ b.K k_same);
        x_after = vx ∙ ap (λ (l : List Float). settled v l b.x) (run_ext 0 n _ _ b.x x-same);
        khp_after = rw none (vh ∙ grid_ext n n _ _ b.KHP KHP-same);
        p_after = vp ∙ ap (λ (l : List Float). settled v l b.P) (grid_ext n n _ _ b.P p_same);
      }

-- ---- a matrix of one entry

module _ (f : Format) (e : ℕ → ℕ → Float) where
  -- its pivot is the entry: taken, nothing is refused
  none_of_one : pivot_taken (e 0 0) ≡ true → pivot_answer (reached f 1 e) 1 ≡ Ok tt
  unfolding first_not factor less_dot
  none_of_one t = rw t refl

  -- refused, the decomposition leaves it times +0
  refused_one : pivot_taken (e 0 0) ≡ false → decomposed f 1 e 0 0 ≡ mul f (e 0 0) plus0
  unfolding first_not factor less_dot last_recip
  refused_one t = rw t refl

  -- and taken, its root
  root_of_one : pivot_taken (e 0 0) ≡ true → decomposed f 1 e 0 0 ≡ sqrt_of f (e 0 0)
  unfolding first_not factor less_dot
  root_of_one t = rw t refl

-- the inverse from the factor, d being the factor's reciprocal
abbrev pub inverted_one : Format → Float → Float
inverted_one f d = mul f (mul f one d) d

inverse_of_one : (f : Format) (L i : ℕ → ℕ → Float) → inverse f 1 L i 0 0 ≡ inverted_one f (recip_of f (L 0 0))
unfolding plus_sum solved back
inverse_of_one f L i = refl

-- two matrices of one entry are the same where it is
one_same : (e g : ℕ → ℕ → Float) → e 0 0 ≡ g 0 0 → SameEntries 1 1 e g
one_same e g q zero zero hr hc = q
one_same e g q zero (suc c) hr hc = absurd (omega arith)
one_same e g q (suc r) c hr hc = absurd (omega arith)

-- ---- any states and one observation

module _ (f : Format) (n : ℕ) (b e : Buffers) where
  abbrev residual : ℕ → ℕ → Float
  residual = residual_of f n (cell n b.H) (cell n b.P) (cell 1 b.R)

  -- the pivot is refused
  pub refused_by_one :
      pivot_taken (residual 0 0) ≡ false
      → e.HP ≡ grid 1 n (hp_of f n (cell n b.H) (cell n b.P)) b.HP
      → e.S ≡ set b.S 0 (mul f (residual 0 0) plus0)
      → e.s_inv ≡ b.s_inv → e.PHt ≡ b.PHt → e.K ≡ b.K → e.x ≡ b.x → e.KHP ≡ b.KHP → e.P ≡ b.P
      → Renewed f n 1 (Ok tt) (Err (Pivot 0)) b e
  unfolding run grid first_not factor less_dot
  refused_by_one t hp s vi vt vk vx vh vp =
      pivot_refused f n 1 b e 0 (omega arith) (rw t refl) hp (s ∙ ap (set b.S 0) (sym (refused_one f residual t))) vi vt vk vx vh vp

  -- It is taken: l is its root, and d the root's reciprocal. y holds the innovation from z.
  module _ (z : List Float) (d : Float) where
    abbrev Y : ℕ → Float
    Y = innovation_of f n (cell n b.H) (numbers b.x) (numbers z)

    abbrev J : ℕ → ℕ → Float
    J r c = inverted_one f d

    pub renewed_by_one :
        (v : Answer) (l : Float) (y : List Float) → 1 ≤ length y → b.y ≡ run 0 1 Y y
        → pivot_taken (residual 0 0) ≡ true → l ≡ sqrt_of f (residual 0 0) → d ≡ recip_of f l
        → Verdict n (X f n 1 b e J Y) (N f n 1 b e J Y) v
        → e.HP ≡ grid 1 n (hp_of f n (cell n b.H) (cell n b.P)) b.HP
        → e.S ≡ set b.S 0 l
        → e.s_inv ≡ set b.s_inv 0 (inverted_one f d)
        → e.PHt ≡ grid n 1 (pht_of f n (cell n b.H) (cell n b.P)) b.PHt
        → e.K ≡ grid n 1 (K f n 1 b e J Y) b.K
        → e.KHP ≡ grid n n (khp_of f n 1 (K f n 1 b e J Y) (cell n b.H) (cell n b.P)) b.KHP
        → e.x ≡ settled v (run 0 n (X f n 1 b e J Y) b.x) b.x
        → e.P ≡ settled v (grid n n (N f n 1 b e J Y) b.P) b.P
        → Renewed f n 1 (Ok tt) v b e
    unfolding run grid
    renewed_by_one v l y fits told t root recip vv hp s vi vt vk vh vx vp =
        let L = decomposed f 1 residual in
        let l_is : L 0 0 ≡ l = root_of_one f residual t ∙ sym root in
        let same : inverted_one f d ≡ inverse f 1 L (cell 1 b.s_inv) 0 0 = ap (inverted_one f) (recip ∙ ap (recip_of f) (sym l_is)) ∙ sym (inverse_of_one f L (cell 1 b.s_inv)) in
        renewed_by f n 1 b e J Y v y fits told (none_of_one f residual t)
        (one_same J (inverse f 1 L (cell 1 b.s_inv)) same)
        vv hp (s ∙ ap (set b.S 0) (sym l_is)) vi vt vk vh vx vp

-- ---- the last test, of the new x and P, as the code makes it: passed, or not

and_and : (a b c : Bool) → (a && b) && c ≡ a && (b && c)
and_and true b c = refl
and_and false b c = refl

module _ (x : ℕ → Float) (P' : ℕ → ℕ → Float) where
  -- one state: r says it of both numbers
  module _ (r : Bool) (says : r ≡ finite (x 0) && finite (P' 0 0)) where
    pub one_passed : r ≡ true → Verdict 1 x P' (Ok tt)
    unfolding every
    one_passed u = record { told = ap (λ (t : Bool). cond {A = Answer} t (Ok tt) (Err NotFinite)) (sym u ∙ says) }

    pub one_failed : r ≡ false → Verdict 1 x P' (Err NotFinite)
    unfolding every
    one_failed u = record { told = ap (λ (t : Bool). cond {A = Answer} t (Ok tt) (Err NotFinite)) (sym u ∙ says) }

  -- two states: r says it of all six
  module _ (r : Bool) (says : r ≡ (finite (x 0) && finite (x 1)) && (((finite (P' 0 0) && finite (P' 0 1)) && finite (P' 1 0)) && finite (P' 1 1))) where
    all_six : (t : Bool) → r ≡ t → cond {A = Answer} t (Ok tt) (Err NotFinite) ≡ finite_answer 2 x P'
    unfolding every
    all_six t u =
        ap (λ (q : Bool). cond {A = Answer} q (Ok tt) (Err NotFinite)) (sym u ∙ says)
        ∙ ap (λ (q : Bool). cond ((finite (x 0) && finite (x 1)) && q) (Ok tt) (Err NotFinite)) (and_and (finite (P' 0 0) && finite (P' 0 1)) (finite (P' 1 0)) (finite (P' 1 1)))

    pub two_passed : r ≡ true → Verdict 2 x P' (Ok tt)
    two_passed u = record { told = all_six true u }

    pub two_failed : r ≡ false → Verdict 2 x P' (Err NotFinite)
    two_failed u = record { told = all_six false u }
