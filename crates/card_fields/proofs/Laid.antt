-- Bytes put into a list, one behind the other: a text is put in parts, each where the one before it ended. Assumes nothing.
use mathlib.Core.Path.{◌≡◌, sym, ap, ap₂, ◌∙◌}
use mathlib.Core.List.{List, [], ◌∷◌, ◌++◌, append_assoc}
use Prim.Native.Nat.{ℕ, suc, ◌+◌, ◌≤◌}
use native.Mathlib.Nat.{add-zero}
use native.Mathlib.Omega.{arith}
use lib.ListN.{length, set, take, drop}
use lib.Seq.{sets, sets-eq, drop-drop}
use borrow.Rule.Slice.PartMut.{put_mid}

-- two texts
both : (u t l : List ℕ) (p : ℕ) → sets (sets l p u) (p + length u) t ≡ sets l p (u ++ t)
both [] t l p = ap (λ (q : ℕ). sets l q t) (add-zero p)
both (x ∷ u) t l p = ap (λ (q : ℕ). sets (sets (set l p x) (suc p) u) q t) (sum p (length u)) ∙ both u t (set l p x) (suc p)
  where
    sum : (p n : ℕ) → p + suc n ≡ suc p + n
    sum p n = omega arith

module _ (l z : List ℕ) (p q : ℕ) (u : List ℕ) (e : z ≡ sets l p u) (place : q ≡ p + length u) where
  -- a text behind what was put
  pub then_text : (w t : List ℕ) → w ≡ sets z q t → w ≡ sets l p (u ++ t)
  then_text w t h = h ∙ ap₂ (λ (y : List ℕ) (r : ℕ). sets y r t) e place ∙ both u t l p

  -- a byte behind it
  pub then_byte : (x y : ℕ) → x ≡ y → set z q x ≡ sets l p (u ++ (y ∷ []))
  then_byte x y h = then_text (set z q x) (y ∷ []) (ap (set z q) h)

-- bytes that are copied over a part of the list are put there
pub copied : (l z t : List ℕ) (p k : ℕ) → z ≡ t → k ≡ length t → p + length t ≤ length l → put_mid p k l z ≡ sets l p t
copied l z t p k e n h =
    ap₂ (λ (y : List ℕ) (j : ℕ). take p l ++ (y ++ drop j (drop p l))) e n
    ∙ ap (λ (r : List ℕ). take p l ++ (t ++ r)) (drop-drop (length t) p l)
    ∙ sym (append_assoc (take p l) t (drop (p + length t) l))
    ∙ sym (sets-eq t l p h)
