-- `correct_one` meets its contract: S, the gain and its product with H·P are as their calls say, and the rest is by computation; which pivot is taken, and whether the new x and P are finite, the tests say. Assumes nothing.
use mathlib.Core.List.{[]}
use mathlib.Core.Path.{◌≡◌, refl, sym, ◌∙◌}
use lib.ListN.{length-set, set, get_or}
use lib.Ieee.{binary32, nan, sub, mul, of_bits}
use Rattle.numbers.specs.Sums.{sum_from}
use Rattle.grids.specs.Grid.{cell, run}
use Rattle.filters.specs.Correction.{residual_of}
use Rattle.filters.specs.Lent.{Buffers, buffers}
use borrow.Author.Tests.{not-true, not-false}
use Rattle.one_by_one.proofs.Whole.{refused, passed, failed}
use Rattle.one_by_one.proofs.correct_one.Statement.{statement}
use Rattle.one_by_one.proofs.correct_one.Tie as tie

-- ---- the way back from each step to the one before it

abbrev seen : tie.After-taken → tie.After-one_more-s00
seen c = c.before

abbrev tested : tie.After-twice-t00 → tie.After-taken
tested c = c.before.before.before.before.before

-- the buffers as lent, with the y that is stored
abbrev lent : tie.After-one_more-s00 → Buffers
lent c =
    let a = c.args in
    buffers a.x.now a.p.now a.h.now [] a.r.now (set a.y.now 0 (sub binary32 (get_or a.z.now 0 nan) (mul binary32 (get_or a.h.now 0 nan) (get_or a.x.now 0 nan)))) a.s.now a.k.now a.temp_s_inv.now a.temp_hp.now a.temp_pht.now a.temp_khp.now

-- S
s_is : (c : tie.After-one_more-s00) → c.one_more-s00.result ≡ residual_of binary32 1 (cell 1 (lent c).H) (cell 1 (lent c).P) (cell 1 (lent c).R) 0 0
unfolding sum_from
s_is c = c.one_more-s00.ensures

returns-then-not-taken : tie.Need-returns-then-not-taken
unfolding run sum_from of_bits
returns-then-not-taken c =
    let t = c.before in
    let s = seen t in
    (refl, refused (lent s) s.args.z.now (s_is s) _ (sym t.taken.ensures ∙ not-true _ c.if-not-taken.true-raw) refl refl refl refl refl refl refl refl)

returns-then-two : tie.Need-returns-then-two
unfolding run sum_from of_bits
returns-then-two c =
    let h = c.before.before in
    let t = tested h in
    let s = seen t in (
      refl,
      passed (lent s) s.args.z.now (s_is s) h.recip-d0.result (sym t.taken.ensures ∙ not-false _ h.if-not-taken.false-raw) h.square_root-l00.ensures h.recip-d0.ensures h.once-k00.ensures h.twice-t00.ensures _
          s.args.y.now s.requires.0.y_holds refl refl refl refl refl refl refl c.two.ensures c.if-two.true refl refl,
    )

returns : tie.Need-returns
unfolding run sum_from of_bits
returns c =
    let h = c.before.before in
    let t = tested h in
    let s = seen t in (
      refl,
      failed (lent s) s.args.z.now (s_is s) h.recip-d0.result (sym t.taken.ensures ∙ not-false _ h.if-not-taken.false-raw) h.square_root-l00.ensures h.recip-d0.ensures h.once-k00.ensures h.twice-t00.ensures _
          s.args.y.now s.requires.0.y_holds refl refl refl refl refl refl refl c.two.ensures c.if-two.false refl refl,
    )

pub correct_one_spec : {M : Type 1} → statement M
correct_one_spec =
    tie.close
    (tie.spec
    (λ c. c.requires.0.x_holds)
    (λ c. c.requires.0.p_holds)
    (λ c. c.requires.0.h_holds)
    (λ c. c.requires.0.r_holds)
    (λ c. c.requires.1)
    (λ c κs. tt)
    (λ c. c.requires.0.y_holds)
    (λ c. c.requires.0.hp_holds)
    (λ c κs. tt)
    (λ c. c.requires.0.s_holds)
    (λ c. rw length-set)
    (λ c. rw length-set)
    (λ c. rw length-set)
    returns-then-not-taken
    (λ c κs. tt)
    (λ c κs. tt)
    (λ c κs. tt)
    (λ c κs. tt)
    (λ c. c.requires.0.s_holds)
    (λ c. c.requires.0.s_inv_holds)
    (λ c. c.requires.0.pht_holds)
    (λ c. c.requires.0.k_holds)
    (λ c. c.requires.0.khp_holds)
    (λ c κs. tt)
    (λ c. c.requires.0.x_holds)
    (λ c. c.requires.0.p_holds)
    (λ c. rw length-set)
    (λ c. rw length-set)
    (λ c. rw length-set)
    (λ c. rw length-set)
    (λ c. rw length-set)
    (λ c. rw length-set)
    (λ c. rw length-set)
    (λ c. rw length-set)
    (λ c. rw length-set)
    returns-then-two
    (λ c. rw length-set)
    (λ c. rw length-set)
    (λ c. rw length-set)
    (λ c. rw length-set)
    (λ c. rw length-set)
    (λ c. rw length-set)
    (λ c. rw length-set)
    returns)
