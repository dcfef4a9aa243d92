-- What an answer says: its number, and the values that it carries (R3). Definitions only.
-- A later refusal is one more case of `Refusal` and one more line in `number_of` and in `carried_by`; nothing else here goes by cases.
use Rattle.std.specs.Prelude.{Bool, cond, List, [], ◌∷◌, ℕ, eqb, Result, Ok, Err}
use Rattle.answers.specs.declared.Refusal.{Refusal}
use Rattle.answers.specs.declared.Refusal.TheVariants.{Size, Short, Range, Pivot, Line, Edition, NotFinite}

-- what a call says: it did its work, or why not
abbrev pub Answer : Type 0
Answer = Result (Unit {0}) Refusal

-- the number of the refusal, and 0 for a call that is done
abbrev pub number_of : Answer → ℕ
number_of (Ok tt) = 0
number_of (Err (Size k)) = 1
number_of (Err (Short k)) = 2
number_of (Err (Range k)) = 3
number_of (Err (Pivot k)) = 4
number_of (Err (Line k)) = 5
number_of (Err Edition) = 6
number_of (Err NotFinite) = 9

-- what the answer carries: which size, which buffer, which of row (0) and column (1), the pivot's index, the number of a card's line; 6 and 9 are the number alone
abbrev pub carried_by : Answer → List ℕ
carried_by (Ok tt) = []
carried_by (Err (Size k)) = k ∷ []
carried_by (Err (Short k)) = k ∷ []
carried_by (Err (Range k)) = k ∷ []
carried_by (Err (Pivot k)) = k ∷ []
carried_by (Err (Line k)) = k ∷ []
carried_by (Err Edition) = []
carried_by (Err NotFinite) = []

-- the call did its work: its number is 0
abbrev pub is_done : Answer → Bool
is_done v = eqb (number_of v) 0

-- the first refusal stays: v where it is one, and otherwise w
abbrev pub first_of : Answer → Answer → Answer
first_of v w = cond (is_done v) w v

-- what a lent buffer holds after the call: the new numbers where the answer is done, and as lent where the call is refused
abbrev pub settled : {A : Type 0} → Answer → A → A → A
settled v new old = cond (is_done v) new old
