-- Entries put into the front of a buffer, one by one: entry i stands d digits and a byte further on for each entry before it. Assumes nothing.
use mathlib.Core.Path.{◌≡◌, sym, ap, ◌∙◌}
use mathlib.Core.Bool.{true}
use mathlib.Core.List.{List}
use Prim.Native.Nat.{ℕ, zero, suc, ◌+◌, ◌*◌, ◌-◌, ◌≤◌, ◌<◌}
use native.Mathlib.Nat.{zero-mul, suc-mul}
use native.Mathlib.Omega.{arith}
use lib.ListN.{length, take, drop, length-drop}
use lib.Seq.{take_all}
use lib.Ieee.{Float, Format, of_bits}
use Rattle.card_text.specs.Values.{are_digits, spelt_from, entries_in}
use Rattle.card_lines.specs.Front.{fields}
use Rattle.card_lines.proofs.Fields.{entry_there, field_there}
use Rattle.cards.specs.Read.{floats}

-- the part of a text from byte n on
pub part : (n : ℕ) (t : List ℕ) → take (length t - n) (drop n t) ≡ drop n t
part n t = take_all (length t - n) (drop n t) (omega (arith, length-drop n t))

-- a text that begins with k entries has as many bytes
pub all_there : (d k : ℕ) (t : List ℕ) → fields d k t ≡ true → k * suc d ≤ length t
all_there d zero t fs = rw zero-mul (omega arith)
all_there d (suc k) t fs = omega (arith, suc-mul k (suc d), (field_there d (suc k) t k fs (omega arith)).1)

module _ (d k : ℕ) (t : List ℕ) (fs : fields d k t ≡ true) (i : ℕ) (h : i < k) where
  -- so many stand before entry i, and it lies within the text
  pub before : i * suc d + suc d ≤ length t
  before = (field_there d k t i fs h).1

  -- the text goes on with entry i
  pub ready : (d ≤ length (take (length t - i * suc d) (drop (i * suc d) t))) × (are_digits (take d (take (length t - i * suc d) (drop (i * suc d) t))) ≡ true)
  ready = rw (part (i * suc d) t) (omega (arith, before, length-drop (i * suc d) t), (field_there d k t i fs h).0)

  -- what it says
  pub says : (f : Format) (b : ℕ) (x : Float) → b ≡ spelt_from 0 (take d (take (length t - i * suc d) (drop (i * suc d) t))) → x ≡ of_bits f b → x ≡ floats f (entries_in d k t) i
  says f b x is ex = ex ∙ ap (of_bits f) (is ∙ ap (λ (u : List ℕ). spelt_from 0 (take d u)) (part (i * suc d) t) ∙ sym (entry_there d k t i h))
