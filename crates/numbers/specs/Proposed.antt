-- A root that is proposed, and the test that it has to pass (R37). Definitions only.
use Rattle.std.specs.Prelude.{Bool, true, ◌&&◌, cond, ℕ, ◌+◌, ◌-◌, ◌*◌, ◌/◌, ◌^◌, ◌≤◌, ◌<◌, eqb, leb, ltb}
use Rattle.numbers.specs.Root.{sq}

-- entry i of the table of roots: the largest e with e·e at most i·2^20
abbrev pub IsEntry : ℕ → ℕ → Type 0
IsEntry i e = (e * e ≤ i * 1048576) × (i * 1048576 < (e + 1) * (e + 1))

-- the entry that a number of the table holds: the first 16 of its 64 binary digits
abbrev pub entry_in : ℕ → ℕ
entry_in w = w / 281474976710656

-- Whether s is what R10 asks of the root of n, in a format of p digits: s has p digits, n lies within half a unit of s on either side, and where s is the least of them not below it.
-- The fraction whose root is s·2^F is n·4^F.
unfoldable pub accepts : ℕ → ℕ → ℕ → Bool
accepts p n s =
    leb (2 ^ (p - 1)) s
    && ltb s (2 ^ p)
    && ltb (sq (2 * s - 1)) (4 * n)
    && ltb (4 * n) (sq (2 * s + 1))
    && cond (eqb s (2 ^ (p - 1))) (leb (sq s) n) true
