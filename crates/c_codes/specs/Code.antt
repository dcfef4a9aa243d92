-- An answer as one number, for callers that have no enum of ours. Definitions only.
use Rattle.std.specs.Prelude.{◌≡◌, ℕ, ◌+◌, ◌*◌, min, get_or}
use Rattle.answers.specs.Answers.{number_of, carried_by, Answer}

-- which size, buffer, row or column, or pivot it is; 0 where the answer carries nothing
abbrev pub carried : Answer → ℕ
carried v = get_or (carried_by v) 0 0

-- The code: the refusal's number in the hundreds, and what it carries in the last two digits: 99 where that is above 99. Ok is 0.
unfoldable pub code_of : Answer → ℕ
code_of v = number_of v * 100 + min (carried v) 99

-- What an exported function says with the code r: there is an answer with this code that keeps the promise.
pub record Told (Promise : Answer → Type 0) (r : ℕ) : Type 0 where
  pub answer : Answer
  pub code : r ≡ code_of answer
  pub kept : Promise answer
