-- What lies in the cell of a record, and of a trial: which values are of the record, and what is known of them. Assumes nothing.
use mathlib.Core.Path.{refl}
use mathlib.Core.List.{List, [], ◌∷◌}
use Prim.Native.Nat.{ℕ, ◌<◌, ◌^◌}
use mir.Val.{Val, vunit}
use denote.Laws.{Is}
use denote.Struct.Laws as LL
use Rattle.one_state.specs.declared.OneState.{OneState}
use Rattle.one_state.specs.OneState.{with_blind}
use Rattle.one_state.specs.contracts.OneState as R
use Rattle.one_state.proofs.OneState.TheLaws as R'
use Rattle.c_yarn.specs.declared.Trial.{Trial}
use Rattle.c_yarn.specs.contracts.Trial as U
use Rattle.c_yarn.proofs.Trial.TheLaws as U'

-- the only value of a list
abbrev pub only : List Val → Val
only [] = vunit
only (v ∷ vs) = v

abbrev pub vals : OneState → List Val
vals = LL.vals R.the_type R'.the_laws

-- a record and what lies in its cell
abbrev pub Stored : OneState → Type 0
Stored s = Is R.the_row s (vals s)

-- the record of a trial lies in the trial's cell
pub after_stored : (t : Trial) (vs : List Val) → Is U.the_row t vs → Stored t.after
after_stored t vs is = (LL.owed U.the_type U'.the_laws t vs is).1.0

-- the code is a usize, and the count a byte
pub code_fits : (t : Trial) (vs : List Val) → Is U.the_row t vs → t.code < 2 ^ 64
code_fits t vs is = (LL.owed U.the_type U'.the_laws t vs is).0.1

pub count_fits : (s : OneState) → Stored s → s.blind < 2 ^ 8
count_fits s is = (LL.owed R.the_type R'.the_laws s (vals s) is).1.1.1.1.1.1.0.1

-- a record with another byte for its count
pub counted-stored : (s : OneState) (c : ℕ) → Stored s → c < 2 ^ 8 → Stored (with_blind s c)
counted-stored s c is small =
    let was = LL.owed R.the_type R'.the_laws s (vals s) is in
    LL.owes R.the_type R'.the_laws (with_blind s c) (was.0, (was.1.0, (was.1.1.0, (was.1.1.1.0, (was.1.1.1.1.0, (was.1.1.1.1.1.0, ((refl, small), tt)))))))
