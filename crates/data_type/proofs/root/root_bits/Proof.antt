-- `root::root_bits` meets its contract: v with 23 zeros after it is the radicand that `root_bits` names, and its root has 24 digits. Assumes nothing.
use mathlib.Core.Path.{◌≡◌, sym, ap, ◌∙◌}
use mathlib.Core.Logic.{⊎_elim}
use Prim.Native.Nat.{ℕ, ◌*◌, ◌^◌, ◌<◌}
use native.Mathlib.Omega.{arith}
use borrow.Author.Rules.{rules}
use lib.Dec.{lit≤}
use lib.Ieee.{binary32}
use Rattle.numbers.specs.Root.{near_root}
use Rattle.numbers.proofs.Exists.{wide}
use Rattle.data_type.proofs.NearRoot.{wide_even, wide_odd, near_digits, bits_is}
use Rattle.data_type.proofs.root.root_bits.Statement.{statement}
use Rattle.data_type.proofs.root.root_bits.Lts.{then-d-eq0, else-d-eq0}
use Rattle.data_type.proofs.root.root_bits.Tie as tie

radicand : (c : tie.Joined-d-eq0) → c.if-d-eq0.v * 2 ^ 23 ≡ wide 24 c.args.m c.args.d
radicand c = elim c.if-d-eq0.branch [ then-d-eq0 w ↦ ap (λ (x : ℕ). x * 2 ^ 23) w.v-is ∙ wide_even 24 _ _ (lit≤ tt) w.if-d-eq0.true | else-d-eq0 w ↦ ap (λ (x : ℕ). x * 2 ^ 23) w.v-is ∙ wide_odd 24 _ _ w.if-d-eq0.false ]

root : (c : tie.After-near_root-s) → c.near_root-s.result ≡ near_root 24 (wide 24 c.args.m c.args.d)
root c = c.near_root-s.ensures ∙ ap (near_root 24) (radicand c.before)

small : (c : tie.After-near_root-s) → c.near_root-s.result < 2 ^ 24
small c = let s = c.before.before in rw (root c) (near_digits binary32 s.args.m s.args.d s.requires.0 s.requires.1).most

overflow_mul-v : tie.Need-overflow_mul-v
overflow_mul-v c = search rules

near_root-s-requires : tie.Need-near_root-s-requires
near_root-s-requires c κs = elim c.if-d-eq0.branch [ then-d-eq0 w ↦ rw w.v-is (omega (arith, c.requires)) | else-d-eq0 w ↦ rw w.v-is (omega (arith, c.requires)) ]

overflow_add-result : tie.Need-overflow_add-result
overflow_add-result c = search rules

overflow_mul-result : tie.Need-overflow_mul-result
overflow_mul-result c = search rules

overflow_cast-result : tie.Need-overflow_cast-result
overflow_cast-result c = omega (arith, small c)

overflow_add-result-2 : tie.Need-overflow_add-result-2
overflow_add-result-2 c = omega (arith, small c)

returns : tie.Need-returns
returns c = let s = c.before.before in rw (root c) (sym (bits_is binary32 s.args.m s.args.d))

pub root_bits_spec : {M : Type 1} → statement M
root_bits_spec =
    tie.close
    (tie.spec overflow_mul-v near_root-s-requires overflow_add-result overflow_mul-result overflow_cast-result overflow_add-result-2 returns)
