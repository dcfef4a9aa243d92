-- `root::square_root` meets its contract. Each return is a case of `proofs/Cases.antt`; a subnormal and a normal value meet in m and d. Assumes nothing.
use mathlib.Core.Path.{◌≡◌, sym, subst}
use mathlib.Core.Logic.{⊎_elim}
use Prim.Native.Nat.{◌≤◌, ◌<◌}
use native.Mathlib.Omega.{arith}
use borrow.Author.Rules.{rules}
use lib.Dec.{T}
use lib.Ieee.{binary32, fits, of_bits}
use Rattle.numbers.specs.Root.{sqrt_of}
use Rattle.numbers.specs.Pattern.{root_bits}
use Rattle.data_type.proofs.Patterns.{root_no_nan}
use Rattle.data_type.proofs.NotNan.{not_nan}
use Rattle.data_type.proofs.Cases.{own_nan, case_zero, case_sub, case_normal, case_inf, case_minus_zero, case_minus}
use Rattle.data_type.proofs.root.square_root.Statement.{statement}
use Rattle.data_type.proofs.root.square_root.Lts.{in-0+else-t-eq0, in-1-to-254}
use Rattle.data_type.proofs.root.square_root.Tie as tie

-- what owning an `f32` tells: the format holds it
held : (c : tie.Start) → T (fits binary32 c.args.x)
held c = subst T (sym c.well_formed.0.1) tt

-- what m and d are, whichever way they came: within `root_bits`'s range, and x comes to them
scaled : (c : tie.Joined-e) → (8388608 ≤ c.match-e.a.m) × (c.match-e.a.m < 16777216) × (c.match-e.a.d < 379) × (of_bits binary32 (root_bits binary32 c.match-e.a.m c.match-e.a.d) ≡ sqrt_of binary32 c.args.x)
scaled c =
    let F = held c.before.before.before in
    let l = c.if-b-ge2147483648.false in
    elim c.match-e.branch [
      | in-0+else-t-eq0 w ↦ let q = w.lifted-a.ensures in rw w.a-is (q.0, q.1, q.2, case_sub binary32 _ F _ _ q.0 q.1 q.2 q.3 w.in-0.is w.if-t-eq0.false l)
      | in-1-to-254 w ↦ rw w.a-is (omega arith, omega arith, omega arith, case_normal binary32 _ F (omega (arith, w.in-1-to-254)) (omega (arith, w.in-1-to-254)) l)
    ]

returns-then-x : tie.Need-returns-then-x
returns-then-x c = own_nan binary32 c.args.x c.if-x.true

float_to_bits-b : tie.Need-float_to_bits-b
float_to_bits-b c = not_nan c.args.x c.if-x.false

overflow_cast-e : tie.Need-overflow_cast-e
overflow_cast-e c = search rules

returns-then-b : tie.Need-returns-then-b
returns-then-b c = case_minus_zero binary32 _ (held c.before.before.before) c.if-b.true

returns-else-b : tie.Need-returns-else-b
returns-else-b c = case_minus binary32 _ (held c.before.before.before) c.if-b-ge2147483648.true c.if-b.false

returns-then-t-eq0 : tie.Need-returns-then-t-eq0
returns-then-t-eq0 c = case_zero binary32 _ (held c.before.before.before.before) c.in-0.is c.if-t-eq0.true

lifted-a-requires : tie.Need-lifted-a-requires
lifted-a-requires c κs = search rules

returns-in-255 : tie.Need-returns-in-255
returns-in-255 c = case_inf binary32 _ (held c.before.before.before) c.in-255.is c.if-b-ge2147483648.false c.if-x.false

overflow_add-a : tie.Need-overflow_add-a
overflow_add-a c = search rules

overflow_cast-a : tie.Need-overflow_cast-a
overflow_cast-a c = search rules

overflow_add-a-in-1-to-254 : tie.Need-overflow_add-a-in-1-to-254
overflow_add-a-in-1-to-254 c = search rules

root_bits-requires : tie.Need-root_bits-requires
root_bits-requires c κs = let h = scaled c in (h.0, h.1, h.2)

float_from_bits-result : tie.Need-float_from_bits-result
float_from_bits-result c =
    let h = scaled c.before in
    rw c.root_bits.ensures (root_no_nan binary32 _ _ h.0 h.1 h.2)

returns : tie.Need-returns
returns c = rw c.root_bits.ensures (scaled c.before).3

pub square_root_spec : {M : Type 1} → statement M
square_root_spec =
    tie.close
    (tie.spec
    returns-then-x
    float_to_bits-b
    overflow_cast-e
    returns-then-b
    returns-else-b
    returns-then-t-eq0
    lifted-a-requires
    returns-in-255
    overflow_add-a
    overflow_cast-a
    overflow_add-a-in-1-to-254
    root_bits-requires
    float_from_bits-result
    returns)
