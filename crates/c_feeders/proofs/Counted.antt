-- What a correction of a row says in numbers, by its cases; and what follows of the call. Assumes nothing.
use mathlib.Core.Path.{◌≡◌, refl, sym, ap, ◌∙◌}
use mathlib.Core.Bool.{Bool, true, false, true≢false}
use mathlib.Core.List.{List}
use Prim.Native.Nat.{ℕ}
use lib.Dec.{eqb}
use lib.ListN.{length}
use lib.Ieee.{Float}
use borrow.Author.Tests.{eq-eqb, ne_eqb}
use Rattle.answers.specs.Answers.{is_done, settled, Answer}
use Rattle.c_codes.specs.Code.{code_of}
use Rattle.c_codes.proofs.Codes.{zero_is_done, done_is_zero}
use Rattle.one_state.specs.declared.OneState.{OneState}
use Rattle.rows.specs.declared.Corrections.{Corrections}
use Rattle.rows.specs.declared.Corrections.TheVariants.{All, Part, Refused}
use Rattle.rows.specs.Rows.{corrections_of, call_answer, CorrectedRow}
use Rattle.rows.proofs.Theorems.{refused_row_keeps}
use Rattle.c_feeders.specs.declared.Counts.{Counts}
use Rattle.c_feeders.specs.Row.{counts_of, Said, CorrectedInto}

-- the three cases; n is how many feeders there are
module _ (c : Corrections) (n : ℕ) where
  pub all_said : (k : ℕ) → c ≡ All k → Said c n 0 (record { accepted = k; first_refused = n })
  unfolding code_of
  all_said k e = record { coded = rw e refl; counted = rw e refl }

  pub part_said : (k i : ℕ) → c ≡ Part k i → Said c n 0 (record { accepted = k; first_refused = i })
  unfolding code_of
  part_said k i e = record { coded = rw e refl; counted = rw e refl }

  pub refused_said : (v : Answer) (code : ℕ) → c ≡ Refused v → code ≡ code_of v → Said c n code (record { accepted = 0; first_refused = n })
  refused_said v code e h = record { coded = h ∙ sym (ap (λ (d : Corrections). code_of (call_answer d)) e); counted = rw e refl }

-- the code is 0 exactly where the call is done
code_tests : (v : Answer) (code : ℕ) → code ≡ code_of v → eqb code 0 ≡ is_done v
code_tests v code e = go (is_done v) refl
  where
    go : (b : Bool) → is_done v ≡ b → eqb code 0 ≡ b
    go true h = eq-eqb code 0 (e ∙ done_is_zero v h)
    go false h = ne_eqb code 0 (λ z. true≢false (sym (ap is_done (zero_is_done v (sym e ∙ z))) ∙ h))

-- what a call leaves in the counts, by its code; d are the counts that it says, and held those that were lent
module _ {row row' : List OneState} {zs : List Float} {c : Corrections} {code : ℕ} {d : Counts} (held : Counts) (call : CorrectedRow row zs c row') (said : Said c (length row) code d) where
  done_there : eqb code 0 ≡ is_done (call_answer (corrections_of row zs))
  done_there = code_tests (call_answer c) code said.coded ∙ ap (λ (e : Corrections). is_done (call_answer e)) call.says

  into : (e : Counts) → e ≡ settled (call_answer (corrections_of row zs)) (counts_of (corrections_of row zs) (length row)) held → CorrectedInto row zs held code row' e
  into e h = record { coded = said.coded ∙ ap (λ (k : Corrections). code_of (call_answer k)) call.says; row_after = record { says = refl; after = call.after }; counts_after = h }

  pub counts_stored : eqb code 0 ≡ true → CorrectedInto row zs held code row' d
  counts_stored t = into d (said.counted ∙ ap (λ (k : Corrections). counts_of k (length row)) call.says ∙ rw (sym done_there ∙ t) refl)

  pub counts_left : eqb code 0 ≡ false → CorrectedInto row zs held code row' held
  counts_left t = into held (rw (sym done_there ∙ t) refl)

-- a call that is refused leaves row and counts as lent
pub refused_leaves : {row row' : List OneState} {zs : List Float} {held e : Counts} {code : ℕ} → CorrectedInto row zs held code row' e → is_done (call_answer (corrections_of row zs)) ≡ false → (row' ≡ row) × (e ≡ held)
refused_leaves call d = (refused_row_keeps call.row_after d, call.counts_after ∙ rw d refl)

-- two results that keep the promise are equal
pub corrected_into_unique : {row row' row'' : List OneState} {zs : List Float} {held e f : Counts} {code code' : ℕ} → CorrectedInto row zs held code row' e → CorrectedInto row zs held code' row'' f
    → (code ≡ code') × (row' ≡ row'') × (e ≡ f)
corrected_into_unique p q = (p.coded ∙ sym q.coded, p.row_after.after ∙ sym q.row_after.after, p.counts_after ∙ sym q.counts_after)
