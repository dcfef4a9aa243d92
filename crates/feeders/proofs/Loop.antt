-- A loop over a row of records, in place. A turn at i takes the row in which the first i records are made anew by a step g to the row with the record at i put by what g makes of it (`one_turn`, which both calls cite); so the loop, of n turns,
-- leaves the first n made anew: `loops` says so of any loop of the logic. There the invariant counts the turns that are left. Assumes `Logic`.
use mathlib.Core.Path.{◌≡◌, refl, sym, ap, ◌∙◌, subst}
use Rattle.std.specs.Prelude.{Float}
use Rattle.std.proofs.lemmas.List.{get_or-set_same, set-set}
use Prim.Native.Nat.{ℕ, zero, suc, ◌+◌, ◌<◌, ◌≤◌}
use native.Mathlib.Nat.{add-zero, add-suc, zero-add, suc-add, lt_of_le_of_lt, lt_of_lt_of_le, le-add_right, lt-suc_self}
use mathlib.Core.List.{List, [], ◌∷◌, ◌++◌}
use lib.ListN.{length, set, take, drop}
use lib.WfN.{lt-wf_rel}
use seplogic.Ra.Ura.{Ura}
use base.Fraction.{full_share}
use mir.Syntax.{Body, loop}
use base.Logic.{SProp, ent, ex, guard, via, ex_i, ex_e, guard_i, guard_e}
use prog.Wp.{Out, Env, after_turn, Wp, Tables}
use types.Logic.{Logic}
use sound.Loop.{loop_rule}
use types.Kit.{Item, ‵, ⋆}
use denote.Index.{row}
use Rattle.one_state.specs.declared.OneState.{OneState}
use Rattle.one_state.specs.contracts.OneState as R
use Rattle.one_state.specs.OneState.{with_xp, with_blind}
use Rattle.rows.specs.Rows.{no_feeder, feeder, each}
use Rattle.rows.proofs.Each.{each_more}

-- the index moved on
pub one_more : (i : ℕ) → i + 1 ≡ suc i
one_more i = add-suc i zero ∙ ap suc (add-zero i)

-- a turn
pub one_turn : (g : ℕ → OneState → OneState) (i : ℕ) (row now : List OneState) (s : OneState) → i < length row → now ≡ each g i row → s ≡ g i (feeder now i) → set now i s ≡ each g (i + 1) row
one_turn g i row now s l e r =
    ap (λ (x : OneState). set now i x) r
    ∙ ap (λ (t : List OneState). set t i (g i (feeder t i))) e
    ∙ each_more g i row no_feeder l
    ∙ ap (λ (k : ℕ). each g k row) (sym (one_more i))

-- the first n of a row made anew as a part of it, with the rest after them
pub front_anew : (g : ℕ → OneState → OneState) (n : ℕ) (row : List OneState) → each g n (take n row) ++ drop n row ≡ each g n row
unfolding each
front_anew g zero row = refl
front_anew g (suc n) [] = refl
front_anew g (suc n) (s ∷ row) = ap (λ (t : List OneState). g zero s ∷ t) (front_anew (λ i. g (suc i)) n row)

-- a record that is put in three parts: its x, its p and its count
module _ (row : List OneState) (i : ℕ) (l : i < length row) (x p : Float) (n : ℕ) where
  abbrev with_x : OneState
  with_x = record (feeder row i) { x = x }

  -- the row with one part, and with two
  abbrev one_put : List OneState
  one_put = set row i with_x

  abbrev two_put : List OneState
  two_put = set one_put i (record (feeder one_put i) { p = p })

  two_are : two_put ≡ set row i (with_xp (feeder row i) x p)
  two_are = rw (get_or-set_same row i with_x no_feeder l, set-set)

  pub three_parts : set two_put i (record (feeder two_put i) { blind = n }) ≡ set row i (with_blind (with_xp (feeder row i) x p) n)
  three_parts = rw (two_are, get_or-set_same row i (with_xp (feeder row i) x p) no_feeder l, set-set)

-- n turns over the row ys, which lies at (b, o); Rest is what else there is once i turns are done, and Left what is to hold when the loop is left
module _ {M : Type 1} {𝓤 : Ura M} (𝓛 : Logic 𝓤) (𝓣 : Tables 𝓤 𝓛.H) (En : Env 𝓤 𝓛.H) (turn : Body) (Left : Out → SProp 𝓤)
    (g : ℕ → OneState → OneState) (ys : List OneState) (b o n : ℕ) (within : n ≤ length ys) (Rest : ℕ → List (Item 𝓤)) where
  -- i turns are done
  open 𝓛 use {H}

  abbrev pub At : ℕ → List (Item 𝓤)
  At i = ‵ (row R.the_row full_share (each g i ys) b o) ∷ Rest i

  -- and the record at i is put by what the step makes of it
  abbrev pub Put : ℕ → List (Item 𝓤)
  Put i = ‵ (row R.the_row full_share (set (each g i ys) i (g i (feeder (each g i ys) i))) b o) ∷ Rest (suc i)

  abbrev Turn : SProp 𝓤 → SProp 𝓤
  Turn X = Wp 𝓤 H 𝓣.C 𝓣.Λ En turn (after_turn 𝓤 H X Left)

  -- the invariant, where t turns are left
  abbrev Inv : ℕ → SProp 𝓤
  Inv t = ex 𝓤 (λ (i : ℕ). guard 𝓤 (i + t ≡ n) (⋆ 𝓛 (At i)))

  abbrev Below : ℕ → SProp 𝓤
  Below t = ex 𝓤 (λ (t' : ℕ). guard 𝓤 (t' < t) (Inv t'))

  module _ (more : (i : ℕ) (X : SProp 𝓤) → i < n → ent 𝓤 (⋆ 𝓛 (Put i)) X → ent 𝓤 (⋆ 𝓛 (At i)) (Turn X)) (ends : (X : SProp 𝓤) → ent 𝓤 (⋆ 𝓛 (At n)) (Turn X)) where
    reached : (t i : ℕ) → suc i + t ≡ n → ent 𝓤 (⋆ 𝓛 (At (suc i))) (Below (suc t))
    reached t i e =
        via 𝓤 (Inv t)
        (via 𝓤 (guard 𝓤 (suc i + t ≡ n) (⋆ 𝓛 (At (suc i)))) (guard_i 𝓤 (suc i + t ≡ n) (⋆ 𝓛 (At (suc i))) e)
        (ex_i 𝓤 (λ (j : ℕ). guard 𝓤 (j + t ≡ n) (⋆ 𝓛 (At j))) (suc i)))
        (via 𝓤 (guard 𝓤 (t < suc t) (Inv t)) (guard_i 𝓤 (t < suc t) (Inv t) (lt-suc_self t)) (ex_i 𝓤 (λ (u : ℕ). guard 𝓤 (u < suc t) (Inv u)) t))

    turn_at : (t i : ℕ) → i + t ≡ n → ent 𝓤 (⋆ 𝓛 (At i)) (Turn (Below t))
    turn_at zero i e = subst (λ (k : ℕ). ent 𝓤 (⋆ 𝓛 (At k)) (Turn (Below zero))) (sym e ∙ add-zero i) (ends (Below zero))
    turn_at (suc t) i e =
        let small : i < n = subst (λ (k : ℕ). i < k) (sym (add-suc i t) ∙ e) (lt_of_le_of_lt (le-add_right i t) (lt-suc_self (i + t))) in
        more i (Below (suc t)) small
        (subst (λ (ls : List OneState). ent 𝓤 (⋆ 𝓛 (‵ (row R.the_row full_share ls b o) ∷ Rest (suc i))) (Below (suc t))) (sym (each_more g i ys _ (lt_of_lt_of_le small within)))
        (reached t i (suc-add i t ∙ sym (add-suc i t) ∙ e)))

    turns : (t : ℕ) → ent 𝓤 (Inv t) (Turn (Below t))
    turns t = ex_e 𝓤 (λ (i : ℕ). guard 𝓤 (i + t ≡ n) (⋆ 𝓛 (At i))) (λ i. guard_e 𝓤 (i + t ≡ n) (⋆ 𝓛 (At i)) (λ e. turn_at t i e))

    -- The law: from the row as it was, to what holds when the loop is left.
    pub loops : ent 𝓤 (⋆ 𝓛 (At 0)) (Wp 𝓤 H 𝓣.C 𝓣.Λ En (loop turn) Left)
    loops =
        via 𝓤 (Inv n)
        (via 𝓤 (guard 𝓤 (0 + n ≡ n) (⋆ 𝓛 (At 0))) (guard_i 𝓤 (0 + n ≡ n) (⋆ 𝓛 (At 0)) (zero-add n))
        (ex_i 𝓤 (λ (j : ℕ). guard 𝓤 (j + n ≡ n) (⋆ 𝓛 (At j))) 0))
        (loop_rule 𝓤 H 𝓛.laws 𝓣 ◌<◌ lt-wf_rel.wf En turn Left Inv turns n)
