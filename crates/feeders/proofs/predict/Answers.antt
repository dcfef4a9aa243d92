-- A turn makes one record more anew (`one_turn`); all n are those of the whole row (`front_anew`), and n is all of them or none.
use Rattle.std.proofs.Common.{◌≡◌, ℕ, ◌≤◌, List, ◌++◌, length, take, drop, refl, sym, ap, ◌∙◌, arith, length-take}
use Rattle.answers.specs.Answers.{settled}
use Rattle.one_state.specs.declared.OneState.{OneState}
use Rattle.one_state.specs.OneState.{predicted}
use Rattle.rows.specs.Rows.{each, row_answer, predicted_row}
use Rattle.rows.proofs.Each.{each-length, each-settled}
use Rattle.rows.proofs.Steps.{at_most}
use Rattle.feeders.proofs.Loop.{one_turn, front_anew}
use Rattle.feeders.proofs.predict.Goals as goal

pub loop-feeder-init : goal.loop-feeder-init
unfolding each
loop-feeder-init c = refl

pub loop-feeder-preserved : goal.loop-feeder-preserved
loop-feeder-preserved c = one_turn (λ i s. predicted s) c.loop-feeder.feeder-index _ _ _ (omega arith) c.loop-feeder.invariant c.moved.ensures

pub returns : goal.returns
returns c =
    let F = c.args.feeders.now in
    let n = c.to_predict-n.result in
    let g : ℕ → OneState → OneState = λ i s. predicted s in
    let few : n ≤ length F = at_most (row_answer (length F)) (length F) n c.to_predict-n.ensures in
    let all : c.loop-feeder.feeder-index ≡ n = omega (arith, length-take n F) in
    let front : c.loop-feeder.feeder-items ≡ each g n (take n F) = c.loop-feeder.invariant ∙ ap (λ (k : ℕ). each g k (take n F)) all in
    let whole : c.loop-feeder.feeder-items ++ drop n F ≡ each g n F = ap (λ (row : List OneState). row ++ drop n F) front ∙ front_anew g n F in
    let v : c.row_answer.result ≡ row_answer (length F) = c.row_answer.ensures ∙ ap row_answer (ap length whole ∙ each-length g n F) in
    record {
      answer = v;
      after =
          whole
          ∙ ap (λ (k : ℕ). each g k F) c.to_predict-n.ensures
          ∙ each-settled g (row_answer (length F)) (length F) F
          ∙ ap (λ a. settled a (predicted_row F) F) (sym v);
    }
