-- A line of entries behind its key, by the fields that the code looks at: d digits and a comma, at the end a newline. Where the first field is there, the
-- line is right exactly where the rest of it is; where it is not, the line is wrong. Assumes nothing.
use mathlib.Core.Path.{◌≡◌, refl, sym, ap, ◌∙◌, subst}
use mathlib.Core.Bool.{Bool, true, false, ◌&&◌, cond, and-eq-true_iff, true≢false}
use mathlib.Core.List.{List, ◌∷◌, ◌++◌}
use Prim.Native.Nat.{ℕ, zero, suc, ◌+◌, ◌*◌, ◌≤◌, ◌<◌}
use native.Mathlib.Nat.{not-suc-le-zero, le_of_suc-le-suc, zero-mul, suc-mul, add_comm}
use native.Mathlib.Omega.{arith}
use borrow.Author.Tests.{eqb-true, eq-eqb, lt-ltb, ltb-true}
use lib.Dec.{eqb, ltb}
use lib.ListN.{length, get_or, take, drop, length-append, length-drop, get_or-append}
use lib.Seq.{take_at, take-append-le, drop-append-le, get_or_at, split_at, length-take-le, drop-drop}
use Rattle.std.specs.Prelude.{Some, None}
use Rattle.card_text.specs.Lines.{newline, ends, first_line, behind_line}
use Rattle.card_text.specs.Values.{comma, are_digits, spelt_from, are_entries, entries_in}
use Rattle.card_text.proofs.Lines.{cut, ends-behind, first-behind, behind-behind, ends_at, first_at, behind_at}
use Rattle.card_text.proofs.Entries.{digits_plain, entry_is, entry_parts, more_are, held, more_comma, more_room, more_first, more_rest}
use Rattle.card_lines.specs.Front.{entries_first, field, field_first, fields}

-- ---- a field that is there

module _ (d b : ℕ) (t : List ℕ) (h : field d (suc b) t ≡ true) where
  tests : (are_digits (take d t) ≡ true) × (eqb (get_or t d 0) (suc b) ≡ true)
  unfolding field
  tests = let both = (and-eq-true_iff (are_digits (take d t)) (eqb (get_or t d 0) (suc b))).0 h in (both.0, both.1)

  behind : get_or t d 0 ≡ suc b
  behind = eqb-true (get_or t d 0) (suc b) tests.1

  room : d < length t
  room = held t d b behind

  whole : length (take d t) ≡ d
  whole = length-take-le d t (omega (arith, room))

  apart : t ≡ take d t ++ (suc b ∷ drop (suc d) t)
  apart = split_at t d 0 room ∙ ap (λ (c : ℕ). take d t ++ (c ∷ drop (suc d) t)) behind

-- d digits, a comma, and then u
more : (d k : ℕ) (e u : List ℕ) → length e ≡ d → are_digits e ≡ true → entries_first d (suc (suc k)) (e ++ (comma ∷ u)) ≡ entries_first d (suc k) u
unfolding entries_first ends first_line behind_line
more d k e u l h =
    rw (
      ends-behind e (comma ∷ u) (digits_plain e h),
      first-behind e (comma ∷ u) (digits_plain e h),
      behind-behind e (comma ∷ u) (digits_plain e h),
      more_are d k e (first_line u) l h,
    )

-- d digits and a newline
last : (d : ℕ) (e u : List ℕ) → length e ≡ d → are_digits e ≡ true → entries_first d 1 (e ++ (newline ∷ u)) ≡ Some u
unfolding entries_first are_entries
last d e u l h = rw (ends_at e u (digits_plain e h), first_at e u (digits_plain e h), behind_at e u (digits_plain e h), entry_is d e l h)

-- ---- a line that is right has its first field

-- what stands behind a longer text does not matter to its first field
field-front : (d b : ℕ) (v w : List ℕ) → d < length v → are_digits (take d v) ≡ true → get_or v d 0 ≡ b → field d b (v ++ w) ≡ true
unfolding field
field-front d b v w g h e = rw (take-append-le d v w (omega arith), h, get_or-append v w 0 d g) (eq-eqb (get_or v d 0) b e)

right_more : (d k : ℕ) (t : List ℕ) → ends t ≡ true → are_entries d (suc (suc k)) (first_line t) ≡ true → field d comma t ≡ true
right_more d k t e h =
    let v = first_line t in
    subst (λ (x : List ℕ). field d comma x ≡ true) (sym (cut t e))
    (field-front d comma v (newline ∷ behind_line t) (more_room d k v h) (more_first d k v h).1 (more_comma d k v h))

right_last : (d : ℕ) (t : List ℕ) → ends t ≡ true → are_entries d 1 (first_line t) ≡ true → field d newline t ≡ true
unfolding are_entries field
right_last d t e h =
    let p = entry_parts d (first_line t) h in
    subst (λ (x : List ℕ). (are_digits (take d x) && eqb (get_or x d 0) newline) ≡ true) (sym (cut t e))
    (rw (take_at (first_line t) (newline ∷ behind_line t) d p.0, p.1, get_or_at (first_line t) newline (behind_line t) 0 d p.0))

-- so one whose first field is not there is wrong
wrong : (d k b : ℕ) (t : List ℕ) → (ends t ≡ true → are_entries d k (first_line t) ≡ true → field d b t ≡ true) → field d b t ≡ false → None ≡ entries_first d k t
unfolding entries_first
wrong d k b t h missing = by (ends t) (are_entries d k (first_line t)) refl refl
  where
    by : (y z : Bool) → ends t ≡ y → are_entries d k (first_line t) ≡ z → None ≡ cond (y && z) (Some (behind_line t)) None
    by true true e g = absurd (true≢false (sym (h e g) ∙ missing))
    by true false e g = refl
    by false z e g = refl

-- ---- the code's turns: a field, and what is still to be read behind it

-- what a field's test finds
is_field : (d b : ℕ) (t u : List ℕ) → Some u ≡ field_first d b t → (field d b t ≡ true) × (u ≡ drop (suc d) t)
unfolding field_first
is_field d b t u e = by (field d b t) e
  where
    by : (y : Bool) → Some u ≡ cond y (Some (drop (suc d) t)) None → (y ≡ true) × (u ≡ drop (suc d) t)
    by true e = (refl, cc)
    by false e = absurd (cc)

no_field : (d b : ℕ) (t : List ℕ) → None ≡ field_first d b t → field d b t ≡ false
unfolding field_first
no_field d b t e = by (field d b t) e
  where
    by : (y : Bool) → None ≡ cond y (Some (drop (suc d) t)) None → y ≡ false
    by true e = absurd (cc)
    by false e = refl

module _ (d k : ℕ) (t : List ℕ) where
  pub turn : (u : List ℕ) → Some u ≡ field_first d comma t → entries_first d (suc k) u ≡ entries_first d (suc (suc k)) t
  turn u e =
      let f = is_field d comma t u e in
      rw f.1
      (sym (ap (entries_first d (suc (suc k))) (apart d 43 t f.0) ∙ more d k (take d t) (drop (suc d) t) (whole d 43 t f.0) (tests d 43 t f.0).0))

  pub no_turn : None ≡ field_first d comma t → None ≡ entries_first d (suc (suc k)) t
  no_turn e = wrong d (suc (suc k)) comma t (right_more d k t) (no_field d comma t e)

pub ended : (d : ℕ) (t : List ℕ) → field_first d newline t ≡ entries_first d 1 t
unfolding field_first
ended d t = by (field d newline t) refl
  where
    by : (y : Bool) → field d newline t ≡ y → cond y (Some (drop (suc d) t)) None ≡ entries_first d 1 t
    by true h = sym (ap (entries_first d 1) (apart d 9 t h) ∙ last d (take d t) (drop (suc d) t) (whole d 9 t h) (tests d 9 t h).0)
    by false h = wrong d 1 newline t (right_last d t) h

-- a field that is there lies within the card
pub field_fits : (d b : ℕ) (t : List ℕ) → field d (suc b) t ≡ true → suc d ≤ length t
field_fits = room

-- ---- entries that are read: where each of them stands, and what it says

-- entries with commas between, and a newline behind them, are as many fields
pub entries-fields : (d k : ℕ) (v w : List ℕ) → are_entries d k v ≡ true → fields d k (v ++ (newline ∷ w)) ≡ true
unfolding are_entries fields
entries-fields d zero v w h = absurd (true≢false (sym h))
entries-fields d (suc zero) v w h =
    let p = entry_parts d v h in
    rw (take_at v (newline ∷ w) d p.0, p.1, longer v w p.0)
  where
    longer : (v w : List ℕ) → length v ≡ d → ltb d (length (v ++ (newline ∷ w))) ≡ true
    longer v w e = lt-ltb d (length (v ++ (newline ∷ w))) (omega (arith, length-append v (newline ∷ w)))
entries-fields d (suc (suc k)) v w h =
    let g = more_room d k v h in
    rw (
      take-append-le d v (newline ∷ w) (omega arith),
      (more_first d k v h).1,
      lt-ltb d (length (v ++ (newline ∷ w))) (omega (arith, length-append v (newline ∷ w))),
      drop-append-le (suc d) v (newline ∷ w) g,
    )
    (entries-fields d (suc k) (drop (suc d) v) w (more_rest d k v h))

one_past : (d i : ℕ) (t : List ℕ) → drop (i * suc d) (drop (suc d) t) ≡ drop (suc i * suc d) t
one_past d i t = drop-drop (i * suc d) (suc d) t ∙ ap (λ (n : ℕ). drop n t) (add_comm (suc d) (i * suc d) ∙ sym (suc-mul i (suc d)))

pub entry_there : (d k : ℕ) (t : List ℕ) (i : ℕ) → i < k → get_or (entries_in d k t) i 0 ≡ spelt_from 0 (take d (drop (i * suc d) t))
unfolding entries_in
entry_there d zero t i h = absurd (not-suc-le-zero h)
entry_there d (suc k) t zero h = rw (zero-mul (suc d))
entry_there d (suc k) t (suc i) h =
    entry_there d k (drop (suc d) t) i (le_of_suc-le-suc h)
    ∙ ap (λ (u : List ℕ). spelt_from 0 (take d u)) (one_past d i t)

-- the tests of the first field, and of the others
first_of : (d k : ℕ) (t : List ℕ) → fields d (suc k) t ≡ true → (are_digits (take d t) ≡ true) × (d < length t) × (fields d k (drop (suc d) t) ≡ true)
unfolding fields
first_of d k t h =
    let both = (and-eq-true_iff (are_digits (take d t)) (ltb d (length t) && fields d k (drop (suc d) t))).0 h in
    let two = (and-eq-true_iff (ltb d (length t)) (fields d k (drop (suc d) t))).0 both.1 in
    (both.0, ltb-true d (length t) two.0, two.1)

pub field_there : (d k : ℕ) (t : List ℕ) (i : ℕ) → fields d k t ≡ true → i < k → (are_digits (take d (drop (i * suc d) t)) ≡ true) × (i * suc d + suc d ≤ length t)
field_there d zero t i h g = absurd (not-suc-le-zero g)
field_there d (suc k) t zero h g = let f = first_of d k t h in rw (zero-mul (suc d)) (f.0, omega (arith, f.1))
field_there d (suc k) t (suc i) h g =
    let f = first_of d k t h in
    let r = field_there d k (drop (suc d) t) i f.2 (le_of_suc-le-suc g) in (
      ap (λ (u : List ℕ). are_digits (take d u)) (sym (one_past d i t)) ∙ r.0,
      omega (arith, suc-mul i (suc d), r.1, f.1, length-drop (suc d) t),
    )
