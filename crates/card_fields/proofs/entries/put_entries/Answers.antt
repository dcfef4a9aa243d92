-- An entry more and its comma (`turn`); the last entry, and the newline behind it, make the line whole (`last`).
use Rattle.std.proofs.Common.{◌≡◌, ◌∙◌, ◌-◌, ◌+◌, ap, refl, arith, ℕ}
use Rattle.std.proofs.lemmas.List.Edits.{sets}
use Rattle.std.specs.Float.{binary32}
use native.Mathlib.Numerals.{add-one}
use Rattle.card_text.specs.Said.{patterns}
use Rattle.card_fields.proofs.Entering.{ready, turn, last}
use Rattle.card_fields.proofs.entries.put_entries.Goals as goal

pub loop-i-init : goal.loop-i-init
unfolding ready patterns
loop-i-init c = refl

pub loop-i-preserved : goal.loop-i-preserved
loop-i-preserved c =
    let l = c.loop-i in
    turn 8 binary32 c.args.x.now l.i (omega arith) c.args.into.now l.into _ c.args.at _ _ _ l.invariant refl c.bits_of.ensures (l.i + 1) (add-one l.i) c.put_field.ensures

pub returns-clause-put : goal.returns-clause-put
returns-clause-put c =
    let l = c.loop-i in
    let whole : l.i ≡ c.args.k - 1 = omega arith in
    let put = l.invariant ∙ ap (λ (j : ℕ). sets c.args.into.now c.args.at (ready 8 (patterns binary32 j c.args.x.now))) whole in
    last 8 binary32 c.args.x.now (c.args.k - 1) (omega arith) c.args.into.now l.into _ c.args.at _ _ _ put refl c.bits_of-2.ensures c.args.k (omega arith) c.put_field-2.ensures
