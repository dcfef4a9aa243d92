-- What a line says before its buffers. Definitions only.
use Rattle.std.specs.Prelude.{Bool, true, false, cond, List, ℕ, eqb, ltb, Float}
use Rattle.std.specs.Float.{binary32}
use Rattle.std.specs.Float.Ieee.{of_bits}
use Rattle.lines.specs.Word.{word_at}
use Rattle.lists.specs.declared.call.Shape.{Shape}
use Rattle.lists.specs.declared.call.Head.{Head}
use Rattle.lists.specs.declared.call.Spelt.{Spelt}

-- the size, row or column that bits spell: ffffffff stands for the largest usize
abbrev pub whole_of : ℕ → ℕ
whole_of b = cond (eqb b 0xffffffff) 0xffffffffffffffff b

-- the one at a position, where one is wanted; else 0, and nothing is read
abbrev pub whole_at : List ℕ → ℕ → Bool → Spelt ℕ
whole_at s at true = record { value = whole_of (word_at s at).bits; next = (word_at s at).next }
whole_at s at false = record { value = 0; next = at }

-- the float at a position, where one is wanted; else +0, and nothing is read
abbrev pub real_at : List ℕ → ℕ → Bool → Spelt Float
real_at s at true = record { value = of_bits binary32 (word_at s at).bits; next = (word_at s at).next }
real_at s at false = record { value = of_bits binary32 0; next = at }

-- the sizes, the row, the column and the floats that a shape takes, one behind the other
unfoldable pub head_at : List ℕ → ℕ → Shape → Head
head_at s at h =
    let first = whole_at s at (ltb 0 h.sizes) in
    let second = whole_at s first.next (ltb 1 h.sizes) in
    let third = whole_at s second.next (ltb 2 h.sizes) in
    let row = whole_at s third.next h.row in
    let column = whole_at s row.next h.column in
    let u = real_at s column.next (ltb 0 h.floats) in
    let v = real_at s u.next (ltb 1 h.floats) in
    record { first = first.value; second = second.value; third = third.value; row = row.value; column = column.value; u = u.value; v = v.value; next = v.next }
