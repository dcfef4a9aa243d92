-- What the inverse promises further, of any call that keeps its promise `Inverted`: no pivot is asked, it equals its transpose, only the lower triangle of L matters, one outcome.
-- The buffer is read cell by cell. Assumes nothing.
use mathlib.Core.Path.{◌≡◌, refl, sym, ap, ◌∙◌}
use mathlib.Core.List.{List}
use Prim.Native.Nat.{ℕ, ◌<◌}
use lib.ListN.{length}
use lib.Ieee.{Float, Format}
use Rattle.std.proofs.Common.{Ok}
use Rattle.answers.specs.Answers.{is_done, settled, Answer}
use Rattle.grids.specs.Grid.{grid, cell}
use Rattle.grids.proofs.Grids.{grid-cell}
use Rattle.factors.specs.Inverse.{SameLower, inverse}
use Rattle.factors.specs.Inverted.{Inverted}
use Rattle.factors.proofs.InverseCalls.{squares_fit}
use Rattle.factors.proofs.OnlyLower.{inverse_sym, inverse-lower}

-- The inverse asks for no pivot: its answer goes by the size and the two lengths, whatever L holds, be it an infinity, a NaN or a zero on its diagonal.
pub no_pivot :
    (f : Format) (n : ℕ) (l m b d : List Float) (v w : Answer) (b' d' : List Float) → Inverted f n l b v b' → Inverted f n m d w d'
    → length l ≡ length m → length b ≡ length d → v ≡ w
no_pivot f n l m b d v w b' d' p q e h = p.answer ∙ (rw (e, h) refl) ∙ sym q.answer

-- what a call leaves, cell by cell
left : (f : Format) (n : ℕ) (l b : List Float) (v : Answer) (b' : List Float) → Inverted f n l b v b' → v ≡ Ok tt → (r c : ℕ) → r < n → c < n → cell n b' r c ≡ inverse f n (cell n l) (cell n b) r c
left f n l b v b' call d r c hr hc =
    ap (λ (w : List Float). cell n w r c) (call.after ∙ ap (λ (x : Answer). settled x (grid n n (inverse f n (cell n l) (cell n b)) b) b) d)
    ∙ grid-cell n n _ b r c hr hc (squares_fit n (length l) (length b) (ap is_done (sym call.answer ∙ d))).1

-- What a call leaves equals its transpose, whatever L holds.
pub transposed :
    (f : Format) (n : ℕ) (l b : List Float) (v : Answer) (b' : List Float) → Inverted f n l b v b' → v ≡ Ok tt
    → (r c : ℕ) → r < n → c < n → cell n b' r c ≡ cell n b' c r
transposed f n l b v b' call d r c hr hc =
    left f n l b v b' call d r c hr hc ∙ inverse_sym f n (cell n l) (cell n b) r c hr hc ∙ sym (left f n l b v b' call d c r hc hr)

-- Two calls on factors with the same diagonal and lower triangle leave alike, whatever lies above the diagonals and whatever their destinations held.
pub only-lower :
    (f : Format) (n : ℕ) (l m b d : List Float) (v w : Answer) (b' d' : List Float) → Inverted f n l b v b' → Inverted f n m d w d' → v ≡ Ok tt → w ≡ Ok tt
    → SameLower n (cell n l) (cell n m) → (r c : ℕ) → r < n → c < n → cell n b' r c ≡ cell n d' r c
only-lower f n l m b d v w b' d' p q dv dw same r c hr hc =
    left f n l b v b' p dv r c hr hc ∙ inverse-lower f n (cell n l) (cell n m) same (cell n b) (cell n d) r c hr hc ∙ sym (left f n m d w d' q dw r c hr hc)

-- Two results of one call are equal.
pub unique : (f : Format) (n : ℕ) (l b : List Float) (v w : Answer) (b' b'' : List Float) → Inverted f n l b v b' → Inverted f n l b w b'' → (v ≡ w) × (b' ≡ b'')
unique f n l b v w b' b'' p q = (cc, cc)
