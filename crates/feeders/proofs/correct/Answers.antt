-- A turn makes one record more anew (`one_turn`), and counts it; all n are those of the whole row (`front_anew`), and n is all of them or none.
use Rattle.std.proofs.Common.{◌≡◌, ℕ, ◌<◌, ◌≤◌, List, ◌++◌, length, take, drop, sym, ap, ◌∙◌, refl, arith, add-one, length-take}
use native.Mathlib.Nat.{le_refl}
use Rattle.std.proofs.lemmas.List.{get_or-take}
use Rattle.answers.specs.Answers.{settled, is_done}
use Rattle.one_state.specs.declared.OneState.{OneState}
use Rattle.one_state.specs.OneState.{corrected, answer_of}
use Rattle.rows.specs.declared.Tally.{Tally}
use Rattle.rows.specs.Rows.{each, feeder, reading, no_feeder, readings_answer, corrected_by, accepted_at, tallied, told_of}
use Rattle.rows.proofs.Each.{each-length, each-settled, each_past}
use Rattle.rows.proofs.Steps.{at_most, enough, told-settled}
use Rattle.rows.proofs.Tallies.{tally_of, tally_none, tally_more, how_many_small}
use Rattle.feeders.proofs.Loop.{one_turn, front_anew}
use Rattle.feeders.proofs.correct.Goals as goal

pub loop-i-init : goal.loop-i-init
unfolding each
loop-i-init c = record { moved = refl; counted = c.none_yet-tally.ensures ∙ tally_none c.args.feeders.now c.args.readings.now }

pub take_turn-turn-requires : goal.take_turn-turn-requires
take_turn-turn-requires c =
    let F = c.args.feeders.now in
    let Z = c.args.readings.now in
    let n = c.to_correct-n.result in
    let m = enough (length F) (length Z) n c.to_correct-n.ensures in
    let few = how_many_small (accepted_at F Z) c.loop-i.i in
    let a = ap (λ (t : Tally). t.accepted) c.loop-i.invariant.counted in
    (omega (arith, m, length-take n F), omega (arith, few, a))

pub loop-i-preserved : goal.loop-i-preserved
loop-i-preserved c =
    let F = c.args.feeders.now in
    let Z = c.args.readings.now in
    let n = c.to_correct-n.result in
    let i = c.loop-i.i in
    let v = c.loop-i.invariant in
    let t = c.take_turn-turn.ensures in
    let here : i < n = omega (arith, length-take n F) in
    let same : feeder c.loop-i.feeder-items i ≡ feeder F i =
    ap (λ (row : List OneState). feeder row i) v.moved ∙ each_past (corrected_by Z) i i (take n F) no_feeder (le_refl i) ∙ get_or-take n F i no_feeder here in
    record {
      moved = one_turn (corrected_by Z) i (take n F) c.loop-i.feeder-items _ (omega arith) v.moved t.feeder_after;
      counted =
          t.tally_after
          ∙ ap (λ (s : OneState). tallied (is_done (answer_of (corrected s (reading Z i)))) i c.loop-i.tally) same
          ∙ ap (λ (k : Tally). tallied (accepted_at F Z i) i k) v.counted
          ∙ tally_more F Z i
          ∙ ap (tally_of F Z) (sym (add-one i));
    }

pub returns : goal.returns
returns c =
    let F = c.args.feeders.now in
    let Z = c.args.readings.now in
    let n = c.to_correct-n.result in
    let g = corrected_by Z in
    let v = c.loop-i.invariant in
    let few : n ≤ length F = at_most (readings_answer (length F) (length Z)) (length F) n c.to_correct-n.ensures in
    let all : c.loop-i.i ≡ n = omega (arith, length-take n F) in
    let front : c.loop-i.feeder-items ≡ each g n (take n F) = v.moved ∙ ap (λ (k : ℕ). each g k (take n F)) all in
    let whole : c.loop-i.feeder-items ++ drop n F ≡ each g n F = ap (λ (row : List OneState). row ++ drop n F) front ∙ front_anew g n F in
    let ended : c.loop-i.i ≡ settled (readings_answer (length F) (length Z)) (length F) 0 = all ∙ c.to_correct-n.ensures in
    record {
      says =
          c.told.ensures
          ∙ ap (λ (k : ℕ). told_of k (length Z) c.loop-i.tally.accepted c.loop-i.tally.first) (ap length whole ∙ each-length g n F)
          ∙ ap (λ (t : Tally). told_of (length F) (length Z) t.accepted t.first) v.counted
          ∙ told-settled (accepted_at F Z) (length F) (length Z) c.loop-i.i ended;
      after =
          whole
          ∙ ap (λ (k : ℕ). each g k F) c.to_correct-n.ensures
          ∙ each-settled g (readings_answer (length F) (length Z)) (length F) F;
    }
