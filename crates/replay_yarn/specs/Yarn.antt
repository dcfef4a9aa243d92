-- A line of the one-state filter: the record x, p, a, q, h, r and how often it was refused in a row, behind a count of seven, before the call and after it. Definitions only.
use Rattle.std.specs.Prelude.{cond, List, ℕ, eqb, ltb, Float, Ok}
use Rattle.std.specs.Float.{binary32}
use Rattle.std.specs.Float.Ieee.{of_bits}
use Rattle.answers.specs.Answers.{Answer}
use Rattle.lines.specs.Word.{word_at, lost}
use Rattle.lists.specs.declared.call.Shape.{Shape}
use Rattle.lists.specs.declared.seen.Seen.{Seen}
use Rattle.lists.specs.Call.{head_at}
use Rattle.lists.specs.Seen.{answer_met, float_met, whole_met, go_to}
use Rattle.one_state.specs.declared.OneState.{OneState}
use Rattle.one_state.specs.OneState.{predicted, corrected, answer_of, handed_back}
use Rattle.lists.specs.declared.call.Spelt.{Spelt}

-- the position behind a count of seven; behind any other the line is lost
abbrev pub seven_at : List ℕ → ℕ → ℕ
seven_at s at = cond (eqb (word_at s at).bits 7) (word_at s at).next lost.next

-- the byte at a position, and the position behind it; behind a larger number the line is lost
abbrev pub blind_at : List ℕ → ℕ → Spelt ℕ
blind_at s at = cond (ltb (word_at s at).bits 256) (record { value = (word_at s at).bits; next = (word_at s at).next }) (record { value = 0; next = lost.next })

-- the number at a position
abbrev pub number_at : List ℕ → ℕ → Float
number_at s at = of_bits binary32 (word_at s at).bits

-- the record at a position, and the position behind it
unfoldable pub lent_at : List ℕ → ℕ → Spelt OneState
lent_at s at =
    let x = seven_at s at in
    let p = (word_at s x).next in
    let a = (word_at s p).next in
    let q = (word_at s a).next in
    let h = (word_at s q).next in
    let r = (word_at s h).next in
    let b = blind_at s (word_at s r).next in
    record { value = record { x = number_at s x; p = number_at s p; a = number_at s a; q = number_at s q; h = number_at s h; r = number_at s r; blind = b.value }; next = b.next }

-- the answer v and the record y that came back against the words at a position
unfoldable pub yarn_met : List ℕ → ℕ → Answer → OneState → Seen
yarn_met s at v y =
    let o = answer_met s at v in
    let x = float_met s (go_to (seven_at s o.next) o) 0 0 y.x in
    let p = float_met s x 0 1 y.p in
    let a = float_met s p 0 2 y.a in
    let q = float_met s a 0 3 y.q in
    let h = float_met s q 0 4 y.h in
    let r = float_met s h 0 5 y.r in
    whole_met s r 0 6 y.blind

-- the prediction of the line's record, against the rest of the line
unfoldable pub predict_met : List ℕ → ℕ → Shape → Seen
predict_met s at h =
    let l = lent_at s (head_at s at h).next in
    yarn_met s l.next (Ok tt) (predicted l.value)

-- its correction by the line's reading
unfoldable pub correct_met : List ℕ → ℕ → Shape → Seen
correct_met s at h =
    let l = lent_at s (head_at s at h).next in
    let c = corrected l.value (head_at s at h).u in
    yarn_met s l.next (answer_of c) (handed_back c)
