-- A space lies within the list, and behind a lost word there is no other. Assumes nothing.
use mathlib.Core.Path.{◌≡◌, sym}
use mathlib.Core.List.{List}
use Prim.Native.Nat.{ℕ, ◌≤◌, ◌<◌}
use native.Mathlib.Nat.{lt_of_not-le}
use native.Mathlib.Omega.{arith}
use lib.ListN.{length, get_or, get_or-eq_default}
use borrow.Author.Tests.{ne_eqb}
use Rattle.lines.specs.Word.{lost, word_at}

-- a space stands within the list, since past its end `get_or` answers 0
pub held : (s : List ℕ) (p : ℕ) → get_or s p 0 ≡ 32 → p < length s
held s p e = lt_of_not-le (λ (h : length s ≤ p). let z = get_or-eq_default s 0 h in omega arith)

no_space : (s : List ℕ) (at : ℕ) → (get_or s at 0 ≡ 32 → ⊥) → lost ≡ word_at s at
no_space s at h = rw (ne_eqb (get_or s at 0) 32 h)

-- Behind a word that is none there is no other, however long the list: no list of a machine reaches that position.
pub lost_stays : (s : List ℕ) → length s ≤ lost.next → word_at s lost.next ≡ lost
lost_stays s h = sym (no_space s lost.next (λ (e : get_or s lost.next 0 ≡ 32). let g = held s lost.next e in omega arith))
