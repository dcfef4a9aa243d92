-- One step more of a shift: it is counted once, and a refusal leaves the tension's estimate as it was. Assumes nothing.
use mathlib.Core.Path.{◌≡◌, refl, sym, ap, ◌∙◌}
use mathlib.Core.Bool.{Bool, true, false, cond}
use Prim.Native.Nat.{ℕ, ◌+◌}
use native.Mathlib.Omega.{arith}
use lib.Ieee.{Float}
use Rattle.answers.specs.Answers.{is_done}
use Rattle.std.specs.Prelude.{None, Some}
use Rattle.wire.specs.Wire.{Reading, Outcome}
use Rattle.feeder.specs.declared.Feeder.{Feeder}
use Rattle.shift.specs.declared.step.Step.{Step}
use Rattle.shift.specs.declared.tally.Tally.{Tally}
use Rattle.shift.specs.Readings.{Brings}
use Rattle.feeder.specs.Feeder.{at_start, tension_of}
use Rattle.shift.specs.Step.{taken, Advanced}
use Rattle.shift.specs.Tally.{none, one_taken, one_refused, count_of, counted, total, start, next, Tallied}

pub at_start_lem : Tallied 0 at_start none
at_start_lem = record { shift = start; all = refl; kept = refl }

one_more : (o : Outcome) (b a : Float) (t : Tally) → total (count_of o b a t) ≡ total t + 1
one_more None b a t = omega arith
one_more (Some v) b a t = go (is_done v)
  where
    go : (d : Bool) → total (cond d (one_taken t) (one_refused b a t)) ≡ total t + 1
    go true = omega arith
    go false = omega arith

still_kept : (o : Outcome) (b a : Float) (t : Tally) → (taken o ≡ false → a ≡ b) → t.before ≡ t.after → (count_of o b a t).before ≡ (count_of o b a t).after
still_kept None b a t k h = h
still_kept (Some v) b a t k h = go (is_done v) k
  where
    go : (d : Bool) → (d ≡ false → a ≡ b) → (cond d (one_taken t) (one_refused b a t)).before ≡ (cond d (one_taken t) (one_refused b a t)).after
    go true k = h
    go false k = sym (k refl)

pub go_on : {n : ℕ} {f : Feeder} {t : Tally} {g : Reading} {s : Step} → Tallied n f t → Brings n g → Advanced f g s → Tallied (n + 1) s.after (counted s t)
go_on {n} {f} {t} {g} {s} w r d =
    record {
      shift = next g s w.shift r d;
      all = one_more s.outcome (tension_of s.predicted) (tension_of s.after) t ∙ ap (λ (k : ℕ). k + 1) w.all;
      kept = still_kept s.outcome (tension_of s.predicted) (tension_of s.after) t (λ h. ap tension_of (d.kept h)) w.kept;
    }
