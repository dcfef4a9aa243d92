-- What the promises of the correction say further: each decides its result, refusals 4 and 9 keep x and P, and `correct` is the innovation and then the update. By their equations. Assumes nothing.
use mathlib.Core.Path.{◌≡◌, refl, sym, ap, subst, ◌∙◌}
use mathlib.Core.Bool.{true, false}
use mathlib.Core.List.{List, [], ◌∷◌, ◌++◌}
use Prim.Native.Nat.{ℕ, ◌*◌}
use lib.ListN.{length}
use lib.Ieee.{Float, Format}
use Rattle.std.proofs.Common.{Ok, Err}
use Rattle.answers.specs.declared.Refusal.TheVariants.{Pivot, NotFinite}
use Rattle.answers.specs.Answers.{is_done, first_of, Answer}
use Rattle.answers.specs.Tests.{lent}
use Rattle.answers.specs.Exactly.{holds}
use Rattle.answers.proofs.Table.{passed, passes}
use Rattle.answers.proofs.Asked.{goes_on}
use Rattle.grids.specs.Grid.{cell}
use Rattle.grids.proofs.Grids.{length_run}
use Rattle.entries.specs.Entries.{numbers}
use Rattle.filters.specs.Correction.{innovation_of}
use Rattle.filters.specs.Lent.{Buffers, front_of, from_r_of, correct_answer, update_answer, innovation_answer}
use Rattle.filters.specs.Corrected.{pivots_answer, Innovated, Renewed, Updated, Corrected, with_y, innovation_in, innovated}
use Rattle.filters.specs.Outcomes.{SameOutcome, Kept4, Worked, Kept9, covariance}
use Rattle.factors.proofs.Named.{done_where_taken}
use Rattle.filters.proofs.Exactly.{past, told_by_pivots, all_passed, update_only_9, correct_only_9}

-- ---- two results of one call are equal
pub innovation_unique : {f : Format} {n m : ℕ} {x H z y : List Float} {v w : Answer} {y' y'' : List Float}
    → Innovated f n m x H z y v y' → Innovated f n m x H z y w y'' → (v ≡ w) × (y' ≡ y'')
innovation_unique p q = (cc, cc)

renewed_unique : {f : Format} {n m : ℕ} {g v w : Answer} {b e d : Buffers} → Renewed f n m g v b e → Renewed f n m g w b d → e.y ≡ d.y → SameOutcome v w e d
renewed_unique p q r = record { answer = cc; x = cc; P = cc; y = r; S = cc; K = cc; s_inv = cc; HP = cc; PHt = cc; KHP = cc }

pub update_unique : {f : Format} {n m : ℕ} {b : Buffers} {v w : Answer} {e d : Buffers} → Updated f n m b v e → Updated f n m b w d → SameOutcome v w e d
update_unique p q = renewed_unique p.renewed q.renewed (p.y_after ∙ sym q.y_after)

pub correct_unique : {f : Format} {n m : ℕ} {b : Buffers} {v w : Answer} {e d : Buffers} → Corrected f n m b v e → Corrected f n m b w d → SameOutcome v w e d
correct_unique p q = renewed_unique p.renewed q.renewed (p.y_after ∙ sym q.y_after)

-- ---- refusal 4 keeps x, P, K, temp_S_inv, temp_PHt and temp_KHP

renewed_4 : {f : Format} {n m : ℕ} {g v : Answer} (b : Buffers) {e : Buffers} (y : List Float) (i : ℕ) → Renewed f n m g v b e → is_done g ≡ true → v ≡ Err (Pivot i) → e.y ≡ y → Kept4 f n m y b e
renewed_4 {f} {n} {m} {g} b y i r past q s =
    let no = ap is_done q in
    let stopped : is_done (first_of g (pivots_answer f n m b)) ≡ false = ap is_done (goes_on g (pivots_answer f n m b) past ∙ sym (told_by_pivots r past i q) ∙ q) in
    record {
      x = rw no at r.x_after;
      P = rw no at r.p_after;
      K = rw stopped at r.k_after;
      s_inv = rw stopped at r.s_inv_after;
      PHt = rw stopped at r.pht_after;
      KHP = rw stopped at r.khp_after;
      y_is = s;
      HP = rw past at r.hp_after;
      S = rw past at r.s_after;
    }

-- the correction's y is the innovation
pub refusal_4_keeps : {f : Format} {n m : ℕ} (b : Buffers) {v : Answer} {e : Buffers} (i : ℕ) → Corrected f n m b v e → is_done (correct_answer n m b) ≡ true → v ≡ Err (Pivot i) → Kept4 f n m (innovation_in f n m b) b e
refusal_4_keeps {f} {n} {m} b {v} {e} i c past q =
    let k = renewed_4 {g = correct_answer n m b} (with_y b (innovated f n m b)) (innovation_in f n m b) i c.renewed past q (rw past at c.y_after) in
    record { x = k.x; P = k.P; K = k.K; s_inv = k.s_inv; PHt = k.PHt; KHP = k.KHP; y_is = k.y_is; HP = k.HP; S = k.S }

-- the update's y is as lent
pub update_refusal_4_keeps : {f : Format} {n m : ℕ} (b : Buffers) {v : Answer} {e : Buffers} (i : ℕ) → Updated f n m b v e → is_done (update_answer n m b) ≡ true → v ≡ Err (Pivot i) → Kept4 f n m b.y b e
update_refusal_4_keeps b i u past q = renewed_4 b b.y i u.renewed past q u.y_after

-- ---- refusal 9 keeps x and P, and leaves the seven others as the accepted call does

-- past the gate and the pivots the seven go by neither v nor what x and P would become
renewed_worked : {f : Format} {n m : ℕ} {g v : Answer} (b : Buffers) {e : Buffers} (y : List Float) → Renewed f n m g v b e → is_done g ≡ true → pivots_answer f n m b ≡ Ok tt → e.y ≡ y → Worked f n m y b e
renewed_worked {f} {n} {m} {g} b y r past q s =
    let taken : is_done (first_of g (pivots_answer f n m b)) ≡ true = ap is_done (goes_on g (pivots_answer f n m b) past ∙ q) in
    record {
      y_is = s;
      HP = rw past at r.hp_after;
      S = rw past at r.s_after;
      s_inv = rw taken at r.s_inv_after;
      PHt = rw taken at r.pht_after;
      K = rw taken at r.k_after;
      KHP = rw taken at r.khp_after;
    }

renewed_9 : {f : Format} {n m : ℕ} {g v : Answer} (b : Buffers) {e : Buffers} (y : List Float) → Renewed f n m g v b e → is_done g ≡ true → pivots_answer f n m b ≡ Ok tt → v ≡ Err NotFinite → e.y ≡ y → Kept9 f n m y b e
renewed_9 b y r past taken q s =
    let no = ap is_done q in
    record { x = rw no at r.x_after; P = rw no at r.p_after; worked = renewed_worked b y r past taken s }

-- what the seven hold does not go by the y that was lent
heard : {f : Format} {n m : ℕ} (b : Buffers) {e : Buffers} (given y : List Float) → Worked f n m y (with_y b given) e → Worked f n m y b e
heard b given y w = record { y_is = w.y_is; HP = w.HP; S = w.S; s_inv = w.s_inv; PHt = w.PHt; K = w.K; KHP = w.KHP }

module _ {f : Format} {n m : ℕ} (b : Buffers) {v : Answer} {e : Buffers} where
  -- The correction that is done leaves these in the seven, y being the innovation ..
  pub correct_done_leaves : Corrected f n m b v e → v ≡ Ok tt → Worked f n m (innovation_in f n m b) b e
  correct_done_leaves c q =
      let d = all_passed c.renewed q in
      heard b (innovated f n m b) (innovation_in f n m b) (renewed_worked (with_y b (innovated f n m b)) (innovation_in f n m b) c.renewed d.0 d.1 (rw d.0 at c.y_after))

  -- .. and the one that is refused with 9 the same, with x and P as lent.
  pub refusal_9_keeps : Corrected f n m b v e → v ≡ Err NotFinite → Kept9 f n m (innovation_in f n m b) b e
  refusal_9_keeps c q =
      let w = correct_only_9 f n m b v e c q in
      let taken = done_where_taken f m (covariance f n m b) (pivots_answer f n m b) refl w.1 in
      let k = renewed_9 (with_y b (innovated f n m b)) (innovation_in f n m b) c.renewed w.0 taken q (rw w.0 at c.y_after) in
      record { x = k.x; P = k.P; worked = heard b (innovated f n m b) (innovation_in f n m b) k.worked }

  -- So the update, whose y is as lent.
  pub update_done_leaves : Updated f n m b v e → v ≡ Ok tt → Worked f n m b.y b e
  update_done_leaves u q = let d = all_passed u.renewed q in renewed_worked b b.y u.renewed d.0 d.1 u.y_after

  pub update_refusal_9_keeps : Updated f n m b v e → v ≡ Err NotFinite → Kept9 f n m b.y b e
  update_refusal_9_keeps u q =
      let w = update_only_9 f n m b v e u q in
      renewed_9 b b.y u.renewed w.0 (done_where_taken f m (covariance f n m b) (pivots_answer f n m b) refl w.1) q u.y_after

-- ---- `correct` is the innovation and then the update

-- two updates of the same buffers, neither refused with 1 or 2, whatever their doors were
both_past : {f : Format} {n m : ℕ} (g h v w : Answer) (b e d : Buffers) → is_done g ≡ true → is_done h ≡ true → Renewed f n m g v b e → Renewed f n m h w b d → e.y ≡ d.y → SameOutcome v w e d
both_past g h v w b e d p q r s y =
    let one : v ≡ w = past r p ∙ sym (past s q) in
    record {
      answer = one;
      x = cc;
      P = cc;
      y = y;
      S = (rw p at r.s_after) ∙ sym (rw q at s.s_after);
      K = (rw p at r.k_after) ∙ sym (rw q at s.k_after);
      s_inv = (rw p at r.s_inv_after) ∙ sym (rw q at s.s_inv_after);
      HP = (rw p at r.hp_after) ∙ sym (rw q at s.hp_after);
      PHt = (rw p at r.pht_after) ∙ sym (rw q at s.pht_after);
      KHP = (rw p at r.khp_after) ∙ sym (rw q at s.khp_after);
    }

-- where the door of a correction is open, so are those of the innovation and of the update from a y of the same length
doors : (n m : ℕ) (b : Buffers) (y : List Float) → length y ≡ length b.y → is_done (correct_answer n m b) ≡ true
    → (is_done (innovation_answer n m (length b.x) (length b.H) (length b.z) (length b.y)) ≡ true) × (is_done (update_answer n m (with_y b y)) ≡ true)
unfolding correct_answer innovation_answer update_answer
doors n m b y q e =
    let ns = n ∷ m ∷ [] in
    let x = lent n (length b.x) in
    let H = lent (m * n) (length b.H) in
    let z = lent m (length b.z) in
    let old = lent m (length b.y) in
    let h = passed ns (front_of n m b ++ z ∷ from_r_of n m b) [] e in
    let l = h.1 in
    let r = l.1.1.1.1 in
    let new : holds (lent m (length y)) ≡ true = subst (λ (k : ℕ). holds (lent m k) ≡ true) (sym q) r.1.0 in (
      passes ns (x ∷ H ∷ z ∷ old ∷ []) [] h.0 (l.0, (l.1.1.0, (l.1.1.1.0, (r.1.0, tt)))) tt,
      passes ns (front_of n m b ++ from_r_of n m (with_y b y)) [] h.0 (l.0, (l.1.0, (l.1.1.0, (r.0, (new, r.1.1))))) tt,
    )

-- Past refusals 1 and 2 a correction, and an innovation followed by an update from the y that it left, give one answer and leave the same numbers.
pub correct_is_innovation_then_update :
    {f : Format} {n m : ℕ} (b : Buffers) {u v w : Answer} {y : List Float} {e d : Buffers}
    → Corrected f n m b v e → Innovated f n m b.x b.H b.z b.y u y → Updated f n m (with_y b y) w d
    → is_done (correct_answer n m b) ≡ true
    → SameOutcome v w e d
correct_is_innovation_then_update {f} {n} {m} b {u} {v} {w} {y} {e} {d} c i t gc =
    let gi : is_done u ≡ true = ap is_done i.answer ∙ (doors n m b b.y refl gc).0 in
    let left : y ≡ innovation_in f n m b = rw gi at i.after in
    let same : innovated f n m b ≡ y = (rw gc refl) ∙ sym left in
    both_past (correct_answer n m b) (update_answer n m (with_y b y)) v w (with_y b y) e d gc
    (doors n m b y (ap length left ∙ length_run 0 m (innovation_of f n (cell n b.H) (numbers b.x) (numbers b.z)) b.y) gc).1
    (subst (λ (k : List Float). Renewed f n m (correct_answer n m b) v (with_y b k) e) same c.renewed) t.renewed
    (c.y_after ∙ same ∙ sym t.y_after)
