-- The filter of one yarn (R21), in the general filter's order of operations at n = m = 1, and its count of corrections refused in a row (R32). Definitions only.
use Rattle.std.specs.Prelude.{◌≡◌, Bool, cond, ◌&&◌, ℕ, min, ◌+◌, Float, Ok, Err}
use Rattle.std.specs.Float.{Format, binary32}
use Rattle.std.specs.Float.Ieee.{add, sub, mul}
use Rattle.std.specs.Float.Ieee.Scale.{finite}
use Rattle.answers.specs.declared.Refusal.TheVariants.{Pivot, NotFinite}
use Rattle.answers.specs.Answers.{Answer}
use Rattle.numbers.specs.Reciprocal.{one, recip_of}
use Rattle.numbers.specs.Root.{sqrt_of}
use Rattle.numbers.specs.Sums.{plus0}
use Rattle.factors.specs.Pivots.{pivot_taken}
use Rattle.one_state.specs.declared.OneState.{OneState}
use Rattle.one_state.specs.declared.Corrected.{Corrected}
use Rattle.one_state.specs.declared.Corrected.TheVariants.{Accepted, Refused}

-- a product by `mult` or `mult_transb`: its total starts at +0, so −0 becomes +0
abbrev pub timed : Format → Float → Float → Float
timed f a b = add f plus0 (mul f a b)

-- ---- prediction

-- a·x by mult_rowvector
abbrev pub predicted_x : Format → Float → Float → Float
predicted_x f a x = mul f a x

-- (a·p)·a, then + q
abbrev pub predicted_p : Format → Float → Float → Float → Float
predicted_p f a p q = add f (timed f (timed f a p) a) q

-- ---- correction

-- the innovation z − h·x
abbrev pub innovation : Format → Float → Float → Float → Float
innovation f h x z = sub f z (mul f h x)

-- S = (h·p)·h + r
abbrev pub spread : Format → Float → Float → Float → Float
spread f h p r = add f (timed f (timed f h p) h) r

-- The inverse of S from its root l: a product of two reciprocals, with the first pass's 1 before it.
abbrev pub inverted : Format → Float → Float
inverted f l = mul f (mul f one (recip_of f l)) (recip_of f l)

-- the gain (p·h)·S⁻¹
abbrev pub gain : Format → Float → Float → Float → Float
gain f h p r = timed f (timed f p h) (inverted f (sqrt_of f (spread f h p r)))

-- x + k·y
abbrev pub corrected_x : Format → Float → Float → Float → Float → Float → Float
corrected_x f x p h r z = add f x (mul f (gain f h p r) (innovation f h x z))

-- p − k·(h·p)
abbrev pub corrected_p : Format → Float → Float → Float → Float
corrected_p f p h r = sub f p (timed f (gain f h p r) (timed f h p))

-- ---- the record

-- the record of six numbers of which no correction was refused yet
abbrev pub fresh : Float → Float → Float → Float → Float → Float → OneState
fresh x p a q h r = record { x = x; p = p; a = a; q = q; h = h; r = r; blind = 0 }

-- s with another x and p
abbrev pub with_xp : OneState → Float → Float → OneState
with_xp s x p = record { x = x; p = p; a = s.a; q = s.q; h = s.h; r = s.r; blind = s.blind }

-- s with another count
abbrev pub with_blind : OneState → ℕ → OneState
with_blind s c = record { x = s.x; p = s.p; a = s.a; q = s.q; h = s.h; r = s.r; blind = c }

-- the six numbers of t are those of s
pub record SameSix (s t : OneState) : Type 0 where
  pub same_x : t.x ≡ s.x
  pub same_p : t.p ≡ s.p
  pub same_a : t.a ≡ s.a
  pub same_q : t.q ≡ s.q
  pub same_h : t.h ≡ s.h
  pub same_r : t.r ≡ s.r

-- A prediction leaves the count.
unfoldable pub predicted : OneState → OneState
predicted s = with_xp s (predicted_x binary32 s.a s.x) (predicted_p binary32 s.a s.p s.q)

-- an accepted correction puts it back to 0
abbrev pub renewed : OneState → Float → OneState
renewed s z = with_blind (with_xp s (corrected_x binary32 s.x s.p s.h s.r z) (corrected_p binary32 s.p s.h s.r)) 0

-- one refusal more, stopping at 255
abbrev pub one_up : ℕ → ℕ
one_up c = min (c + 1) 255

-- a refused correction counts, and changes nothing else
abbrev pub blinded : OneState → OneState
blinded s = with_blind s (one_up s.blind)

-- the record's x and p are finite
abbrev pub finite_xp : OneState → Bool
finite_xp s = finite s.x && finite s.p

-- A pivot that is refused hands the record back blinded, with 4 and index 0; a new x or p that is not finite does so with 9.
unfoldable pub corrected : OneState → Float → Corrected
corrected s z = cond (pivot_taken (spread binary32 s.h s.p s.r)) (cond (finite_xp (renewed s z)) (Accepted (renewed s z)) (Refused (blinded s) (Err NotFinite))) (Refused (blinded s) (Err (Pivot 0)))

-- ---- what a correction says: refusal 4 and the pivot's index, refusal 9, or done; and the record that it hands back

abbrev pub answer_of : Corrected → Answer
answer_of (Accepted s) = Ok tt
answer_of (Refused s v) = v

abbrev pub handed_back : Corrected → OneState
handed_back (Accepted s) = s
handed_back (Refused s v) = s
