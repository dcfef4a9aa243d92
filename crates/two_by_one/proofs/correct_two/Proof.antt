-- `correct_two` meets its contract: what is read and seen, and then a refusal or what is left past the pivot, by the laws of the whole. Assumes nothing.
use mathlib.Core.List.{[]}
use mathlib.Core.Path.{refl, sym, ◌∙◌}
use native.Mathlib.Omega.{arith}
use lib.Ieee.{of_bits}
use lib.ListN.{length-set, set}
use borrow.Author.Tests.{not-true, not-false}
use Rattle.filters.specs.Lent.{Buffers, buffers}
use Rattle.two_by_one.proofs.Whole.{Begun, Ended, y_left, refused, passed, failed}
use Rattle.two_by_one.proofs.correct_two.Statement.{statement}
use Rattle.two_by_one.proofs.correct_two.Tie as tie

-- ---- the way back from each step to the one before it

abbrev start : tie.After-observe-seen → tie.Start
start c = c.before.before.before.before.before.before.before.before.before.before.before.before.before.before

abbrev observed : tie.After-put_two → tie.After-observe-seen
observed c = c.before.before.before.before

abbrev projected : tie.After-taken → tie.After-put_two
projected c = c.before.before.before

abbrev tested : tie.After-renew-v → tie.After-taken
tested c = c.before.before.before.before

abbrev renewed : tie.After-is_fine → tie.After-renew-v
renewed c = c.before.before.before.before.before.before.before.before.before.before.before.before.before.before.before.before.before

-- ---- before the pivot

-- the buffers as lent, with the y that is stored
abbrev lent : tie.After-taken → Buffers
lent c =
    let a = c.args in
    buffers a.x.now a.p.now a.h.now [] a.r.now (set a.y.now 0 c.observe-seen.result.y) a.s.now a.k.now a.temp_s_inv.now a.temp_hp.now a.temp_pht.now a.temp_khp.now

-- what is read and seen
begun_is : (c : tie.After-taken) → Begun (lent c) c.args.z.now c.read_operands-b.result c.observe-seen.result
begun_is c = record { read = c.read_operands-b.ensures; told = c.observe-seen.ensures }

returns-then-not-taken : tie.Need-returns-then-not-taken
unfolding of_bits
returns-then-not-taken c =
    let t = c.before.before in
    (y_left (begun_is t) _ _ refl, refused (begun_is t) _ (sym t.taken.ensures ∙ not-true _ c.if-not-taken.true-raw) t.put_two.ensures refl refl refl refl refl refl refl)

-- ---- past it

ended : (c : tie.After-renew-v) → Ended (observed (projected (tested c))).read_operands-b.result (observed (projected (tested c))).observe-seen.result c.square_root-l.result c.recip-d.result c.renew-v.result
unfolding of_bits
ended c = record { taken = sym c.taken.ensures ∙ not-false _ c.if-not-taken.false-raw; root = c.square_root-l.ensures; recip = c.recip-d.ensures; new = c.renew-v.ensures }

returns-then-is_fine : tie.Need-returns-then-is_fine
unfolding of_bits
returns-then-is_fine c =
    let q = c.before.before.before.before.before.before.before.before.before in
    let w = renewed q.before in
    let t = tested w in (
      y_left (begun_is t) _ _ refl,
      passed (begun_is t) (ended w) _ t.args.y.now t.requires.0.y_holds refl t.put_two.ensures refl refl c.put_two-2.ensures c.put_two-3.ensures c.put.ensures
          q.is_fine.ensures c.if-is_fine.true c.put_two-then-is_fine.ensures c.put-then-is_fine.ensures,
    )

returns : tie.Need-returns
unfolding of_bits
returns c =
    let q = c.before in
    let w = renewed q in
    let t = tested w in (
      y_left (begun_is t) _ _ refl,
      failed (begun_is t) (ended w) _ t.args.y.now t.requires.0.y_holds refl t.put_two.ensures refl refl c.put_two-2.ensures c.put_two-3.ensures c.put.ensures
          q.is_fine.ensures c.if-is_fine.false refl refl,
    )

-- ---- lengths

read_operands-b-requires : tie.Need-read_operands-b-requires
read_operands-b-requires c κs = let h = c.requires in (h.0.x_holds, h.0.p_holds, h.0.h_holds, h.1, h.0.r_holds)

pub correct_two_spec : {M : Type 1} → statement M
correct_two_spec =
    tie.close
    (tie.spec
    read_operands-b-requires
    (λ c κs. tt)
    (λ c. c.requires.0.y_holds)
    (λ c κs. c.requires.0.hp_holds)
    (λ c κs. tt)
    (λ c. c.requires.0.s_holds)
    (λ c. refl)
    (λ c. refl)
    (λ c. rw length-set)
    (λ c. rw length-set)
    (λ c. omega (arith, c.put_two.auto))
    returns-then-not-taken
    (λ c κs. tt)
    (λ c κs. tt)
    (λ c κs. tt)
    (λ c. c.requires.0.s_holds)
    (λ c. c.requires.0.s_inv_holds)
    (λ c κs. c.requires.0.pht_holds)
    (λ c κs. c.requires.0.k_holds)
    (λ c κs. c.requires.0.khp_holds)
    (λ c κs. tt)
    (λ c κs. c.requires.0.x_holds)
    (λ c κs. c.requires.0.p_holds)
    (λ c. omega (arith, c.put_two-then-is_fine.auto))
    (λ c. omega (arith, c.put-then-is_fine.auto))
    (λ c. rw length-set)
    (λ c. rw length-set)
    (λ c. omega (arith, c.put_two-3.auto))
    (λ c. rw length-set)
    (λ c. omega (arith, c.put_two.auto))
    (λ c. omega (arith, c.put_two-2.auto))
    (λ c. omega (arith, c.put.auto))
    returns-then-is_fine
    (λ c. refl)
    (λ c. refl)
    (λ c. rw length-set)
    (λ c. rw length-set)
    (λ c. omega (arith, c.put_two-3.auto))
    (λ c. rw length-set)
    (λ c. omega (arith, c.put_two.auto))
    (λ c. omega (arith, c.put_two-2.auto))
    (λ c. omega (arith, c.put.auto))
    returns)
