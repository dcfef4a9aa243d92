-- `OneState::correct` meets its contract, by the cases of its pivot and of the test of the new x and p: d is the reciprocal of S's root, for that is what an accepted pivot carries (`proofs/Cases.antt`).
-- Assumes nothing.
use mathlib.Core.Path.{sym, ap, ◌∙◌}
use borrow.Author.Rules.{rules}
use lib.Ieee.{binary32, of_bits}
use Rattle.std.proofs.Common.{Err}
use Rattle.answers.specs.declared.Refusal.TheVariants.{Pivot, NotFinite}
use Rattle.one_state.specs.declared.OneState.{OneState}
use Rattle.one_state.specs.declared.Corrected.TheVariants.{Refused}
use Rattle.one_state.proofs.Cases.{refuses, refused, goes_through, comes_back_x, comes_back_p}
use Rattle.one_state.proofs.OneState.correct.Statement.{statement}
use Rattle.one_state.proofs.OneState.correct.Lts.{else-is_finite-via-then-is_finite+else-is_finite-2, else-is_finite-via-else-is_finite}
use Rattle.one_state.proofs.OneState.correct.Tie as tie

pivot_of-requires : tie.Need-pivot_of-requires
pivot_of-requires c κs = search rules

enum_known-d : tie.Need-enum_known-d
enum_known-d c = search rules

is_finite-requires : tie.Need-is_finite-requires
is_finite-requires c κs = search rules

is_finite-requires-then-is_finite : tie.Need-is_finite-requires-then-is_finite
is_finite-requires-then-is_finite c κs = search rules

blinded-requires : tie.Need-blinded-requires
blinded-requires c κs = search rules

enum_told-1 : tie.Need-enum_told-1
enum_told-1 c = search rules

blinded-requires-in-Refused : tie.Need-blinded-requires-in-Refused
blinded-requires-in-Refused c κs = search rules

returns-then-is_finite-2 : tie.Need-returns-then-is_finite-2
unfolding of_bits
returns-then-is_finite-2 c =
    let m = c.args in
    goes_through m.self m.z _ _ (sym c.pivot_of.ensures ∙ c.in-Accepted.is) _ _ c.is_finite.ensures c.is_finite-then-is_finite.ensures c.if-is_finite.true c.if-is_finite-2.true

returns-else-is_finite : tie.Need-returns-else-is_finite
unfolding of_bits
returns-else-is_finite c =
    let m = c.args in
    let step = sym c.pivot_of.ensures ∙ c.in-Accepted.is in
    ap (λ (s : OneState). Refused s (Err NotFinite)) c.blinded.ensures
    ∙ elim c.else-is_finite.branch [
      | else-is_finite-via-then-is_finite+else-is_finite-2 w ↦ comes_back_p m.self m.z _ _ step _ _ c.is_finite.ensures w.is_finite-then-is_finite.ensures w.if-is_finite.true w.if-is_finite-2.false
      | else-is_finite-via-else-is_finite w ↦ comes_back_x m.self m.z _ _ step _ c.is_finite.ensures w.if-is_finite.false
    ]

returns-in-Refused : tie.Need-returns-in-Refused
unfolding of_bits
returns-in-Refused c =
    let m = c.args in
    ap (λ (s : OneState). Refused s (Err (Pivot 0))) c.blinded-in-Refused.ensures
    ∙ sym (refused m.self m.z (refuses binary32 _ _ (sym c.pivot_of.ensures ∙ c.in-Refused.is)))

pub correct_spec : {M : Type 1} → statement M
correct_spec =
    tie.close
    (tie.spec
    pivot_of-requires
    enum_known-d
    is_finite-requires
    is_finite-requires-then-is_finite
    blinded-requires
    enum_told-1
    blinded-requires-in-Refused
    returns-then-is_finite-2
    returns-else-is_finite
    returns-in-Refused)
