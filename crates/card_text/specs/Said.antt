-- What a card says of sizes and lent numbers, and what it says when it is read and written again (R35). Definitions only.
use Rattle.std.specs.Prelude.{◌≡◌, true, List, map, ℕ, ◌*◌, T, get_or, take, Float}
use Rattle.std.specs.Float.{nan, Format}
use Rattle.std.specs.Float.Ieee.{fits, nan_bits}
use Rattle.lines.specs.Pattern.{quiet, pattern_of, quieted}
use Rattle.card_text.specs.Spelling.{Settings}

-- every number of the buffer is one of the format, as each f32 is one of binary32; past the end stands NaN, which every format has
abbrev pub OfFormat : Format → List Float → Type 0
OfFormat f l = (i : ℕ) → T (fits f (get_or l i nan))

-- the patterns of the first k numbers of a buffer
unfoldable pub patterns : Format → ℕ → List Float → List ℕ
patterns f k l = map (pattern_of f) (take k l)

-- the settings of n states and m observations: both sizes, and the patterns of the four matrices that the buffers begin with
abbrev pub said : Format → ℕ → ℕ → List Float → List Float → List Float → List Float → Settings
said f n m a q h r = record {
  n = n;
  m = m;
  a = patterns f (n * n) a;
  q = patterns f (n * n) q;
  h = patterns f (m * n) h;
  r = patterns f (m * m) r;
}

-- the same settings, with the one pattern that is written for a NaN wherever a NaN stands
abbrev pub said_again : Format → Settings → Settings
said_again f c = record {
  n = c.n;
  m = c.m;
  a = map (quieted f) c.a;
  q = map (quieted f) c.q;
  h = map (quieted f) c.h;
  r = map (quieted f) c.r;
}

-- every pattern of a NaN among these is that one
abbrev pub OneNan : Format → List ℕ → Type 0
OneNan f es = (i : ℕ) → nan_bits f (get_or es i 0) ≡ true → get_or es i 0 ≡ quiet f

-- so it is in all four matrices
pub record OneNanOnly (f : Format) (c : Settings) : Type 0 where
  pub one_a : OneNan f c.a
  pub one_q : OneNan f c.q
  pub one_h : OneNan f c.h
  pub one_r : OneNan f c.r
