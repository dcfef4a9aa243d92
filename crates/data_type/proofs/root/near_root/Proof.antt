-- `root::near_root` meets its contract: what the test accepts is the whole number next to the root, whoever proposed it; else, with r the whole part, n is past the half exactly where n - r * r is above r. Assumes nothing.
use mathlib.Core.Path.{◌≡◌, sym, ◌∙◌}
use mathlib.Core.Bool.{true}
use native.Mathlib.Omega.{arith}
use borrow.Author.Rules.{rules}
use Rattle.numbers.proofs.Accepted.{accepted_root}
use Rattle.data_type.proofs.NearRoot.{near_stay, near_up}
use Rattle.data_type.proofs.root.near_root.Statement.{statement}
use Rattle.data_type.proofs.root.near_root.Tie as tie

overflow_mul-n : tie.Need-overflow_mul-n
overflow_mul-n c = search rules

proposed-s-requires : tie.Need-proposed-s-requires
proposed-s-requires c κs = search rules

accepts_root-passed-requires : tie.Need-accepts_root-passed-requires
accepts_root-passed-requires c κs = search rules

returns-then-passed : tie.Need-returns-then-passed
returns-then-passed c =
    let h : c.accepts_root-passed.result ≡ true = c.if-passed.true in
    accepted_root 24 _ _ (sym c.accepts_root-passed.ensures ∙ h)

by_digits-r-requires : tie.Need-by_digits-r-requires
by_digits-r-requires c κs = search rules

overflow_mul-r : tie.Need-overflow_mul-r
overflow_mul-r c = search rules

overflow_sub-n : tie.Need-overflow_sub-n
overflow_sub-n c = search rules

overflow_add-result : tie.Need-overflow_add-result
overflow_add-result c = search rules

returns-then-n-r : tie.Need-returns-then-n-r
returns-then-n-r c = near_stay 24 _ _ (by_digits-r-requires c.before.before c.by_digits-r.lifetimes) c.by_digits-r.ensures (omega (arith, c.if-n-r.true))

returns-else-n-r : tie.Need-returns-else-n-r
returns-else-n-r c = near_up 24 _ _ (by_digits-r-requires c.before.before c.by_digits-r.lifetimes) c.by_digits-r.ensures (omega (arith, c.if-n-r.false))

pub near_root_spec : {M : Type 1} → statement M
near_root_spec =
    tie.close
    (tie.spec
    overflow_mul-n
    proposed-s-requires
    accepts_root-passed-requires
    returns-then-passed
    by_digits-r-requires
    overflow_mul-r
    overflow_sub-n
    overflow_add-result
    returns-then-n-r
    returns-else-n-r)
