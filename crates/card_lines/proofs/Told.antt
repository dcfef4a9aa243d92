-- What the functions' results tell: the first line is right or wrong, what it holds, and what stands behind it. Assumes nothing.
use mathlib.Core.Path.{◌≡◌, refl, ap}
use mathlib.Core.Bool.{Bool, true, false, cond, and-eq-true_iff}
use mathlib.Core.List.{List}
use Prim.Native.Nat.{ℕ}
use Rattle.std.specs.Prelude.{Some, None}
use Rattle.card_text.specs.Lines.{ends, first_line, behind_line}
use Rattle.card_text.specs.Values.{begins, is_count, are_entries as entries_are}
use Rattle.card_text.specs.Card.{keyed, value_of, count_line, count_of, entries_line}
use Rattle.card_lines.specs.Front.{counted, found}

-- a line that is right has its key, and is ended
pub keyed-ends : (key t : List ℕ) → keyed key t ≡ true → ends t ≡ true
keyed-ends key t h = ((and-eq-true_iff (ends t) (begins key (first_line t))).0 h).0

pub count_keyed : (key t : List ℕ) → count_line key t ≡ true → keyed key t ≡ true
unfolding count_line
count_keyed key t h = ((and-eq-true_iff (keyed key t) (is_count (value_of key t))).0 h).0

pub entries-keyed : (d k : ℕ) (key t : List ℕ) → entries_line d key k t ≡ true → keyed key t ≡ true
unfolding entries_line
entries-keyed d k key t h = ((and-eq-true_iff (keyed key t) (entries_are d k (value_of key t))).0 h).0

-- the test y was passed, or was not, and x is what it was to find
passed : {A : Type 0} (y : Bool) (x z : A) → Some z ≡ cond y (Some x) None → (y ≡ true) × (z ≡ x)
passed true x z e = (refl, cc)
passed false x z e = absurd (cc)

failed : {A : Type 0} (y : Bool) (x : A) → None ≡ cond y (Some x) None → y ≡ false
failed true x e = absurd (cc)
failed false x e = refl

module _ (key t : List ℕ) where
  pub not_counted : None ≡ counted key t → count_line key t ≡ false
  unfolding counted
  not_counted e = failed (count_line key t) (count_of key t, behind_line t) e

  pub a_count : (n : ℕ) (u : List ℕ) → Some (n, u) ≡ counted key t → (count_line key t ≡ true) × (n ≡ count_of key t) × (u ≡ behind_line t)
  unfolding counted
  a_count n u e =
      let p = passed (count_line key t) (count_of key t, behind_line t) (n, u) e in
      (p.0, ap (λ (x : ℕ × List ℕ). x.0) p.1, ap (λ (x : ℕ × List ℕ). x.1) p.1)

  pub not_entries : (d k : ℕ) → None ≡ found d key k t → entries_line d key k t ≡ false
  unfolding found
  not_entries d k e = failed (entries_line d key k t) (behind_line t) e

  pub are_entries : (d k : ℕ) (u : List ℕ) → Some u ≡ found d key k t → (entries_line d key k t ≡ true) × (u ≡ behind_line t)
  unfolding found
  are_entries d k u e = passed (entries_line d key k t) (behind_line t) u e
