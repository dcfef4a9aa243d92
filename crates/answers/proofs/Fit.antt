-- What it says in numbers that a call is not refused with 1, 2 or 3: each size is 1 to 16, each buffer has its matrix' cells, each row and column is below its size.
-- Every test was passed. Assumes nothing.
use mathlib.Core.Path.{◌≡◌, refl, sym}
use mathlib.Core.Bool.{Bool, true, false, ◌&&◌, true≢false}
use mathlib.Core.List.{List, [], ◌∷◌}
use Prim.Native.Nat.{ℕ, ◌≤◌, ◌<◌}
use lib.Dec.{leb, ltb}
use borrow.Author.Tests.{leb-true, ltb-true, ltb-false, not-true}
use Rattle.answers.specs.Answers.{is_done}
use Rattle.answers.specs.Tests.{size_taken, Lent, Place, call_answer}
use Rattle.answers.specs.Exactly.{All, holds, inside}
use Rattle.answers.proofs.Table.{passed}

abbrev pub Sizes : List ℕ → Type 0
Sizes [] = Unit {0}
Sizes (n ∷ ns) = (1 ≤ n) × (n ≤ 16) × Sizes ns

abbrev pub Buffers : List Lent → Type 0
Buffers [] = Unit {0}
Buffers (b ∷ bs) = (b.cells ≤ b.len) × Buffers bs

abbrev pub Places : List Place → Type 0
Places [] = Unit {0}
Places (p ∷ ps) = (p.index < p.size) × Places ps

left : (a b : Bool) → (a && b) ≡ true → a ≡ true
left true b e = refl
left false b e = e

right : (a b : Bool) → (a && b) ≡ true → b ≡ true
right true b e = e
right false b e = absurd (true≢false (sym e))

sizes : (ns : List ℕ) → All size_taken ns → Sizes ns
sizes [] h = tt
sizes (n ∷ ns) h = (leb-true 1 n (left (leb 1 n) (leb n 16) h.0), leb-true n 16 (right (leb 1 n) (leb n 16) h.0), sizes ns h.1)

buffers : (bs : List Lent) → All holds bs → Buffers bs
buffers [] h = tt
buffers (b ∷ bs) h = (ltb-false b.len b.cells (not-true (ltb b.len b.cells) h.0), buffers bs h.1)

places : (ps : List Place) → All inside ps → Places ps
places [] h = tt
places (p ∷ ps) h = (ltb-true p.index p.size h.0, places ps h.1)

pub fit : (ns : List ℕ) (bs : List Lent) (ps : List Place) → is_done (call_answer ns bs ps) ≡ true → Sizes ns × Buffers bs × Places ps
fit ns bs ps e = let h = passed ns bs ps e in (sizes ns h.0, buffers bs h.1, places ps h.2)
