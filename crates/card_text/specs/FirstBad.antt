-- Which answer a card is given exactly when (R34): the first thing from the top that is wrong. Definitions only.
use Rattle.std.specs.Prelude.{◌≡◌, Bool, true, false, List, ℕ, zero, suc, ◌*◌, ◌≤◌, ◌<◌, eqb, Ok, Err}
use Rattle.answers.specs.declared.Refusal.TheVariants.{Size, Line, Edition}
use Rattle.answers.specs.Answers.{Answer}
use Rattle.answers.specs.Tests.{size_taken}
use Rattle.card_text.specs.Lines.{behind_lines}
use Rattle.card_text.specs.Card.{edition_key, states_key, observations_key, a_key, q_key, h_key, r_key, count_line, count_of, entries_line, states_of, observations_of, nothing}

-- line k of the card s, counted from 1, is as it must be; from line 8 on that is: there is nothing behind line 7
unfoldable pub good : ℕ → List ℕ → ℕ → Bool
good d s zero = true
good d s (suc zero) = count_line edition_key s
good d s (suc (suc zero)) = count_line states_key (behind_lines 1 s)
good d s (suc (suc (suc zero))) = count_line observations_key (behind_lines 2 s)
good d s (suc (suc (suc (suc zero)))) = entries_line d a_key (states_of s * states_of s) (behind_lines 3 s)
good d s (suc (suc (suc (suc (suc zero))))) = entries_line d q_key (states_of s * states_of s) (behind_lines 4 s)
good d s (suc (suc (suc (suc (suc (suc zero)))))) = entries_line d h_key (observations_of s * states_of s) (behind_lines 5 s)
good d s (suc (suc (suc (suc (suc (suc (suc zero))))))) = entries_line d r_key (observations_of s * observations_of s) (behind_lines 6 s)
good d s (suc (suc (suc (suc (suc (suc (suc (suc k)))))))) = nothing (behind_lines 7 s)

-- what line k says is taken: edition 1, and sizes from 1 to 16; any entry is
unfoldable pub taken : List ℕ → ℕ → Bool
taken s zero = true
taken s (suc zero) = eqb (count_of edition_key s) 1
taken s (suc (suc zero)) = size_taken (states_of s)
taken s (suc (suc (suc zero))) = size_taken (observations_of s)
taken s (suc (suc (suc (suc k)))) = true

-- every line above line k is as it must be, and what it says is taken
abbrev pub RightAbove : ℕ → List ℕ → ℕ → Type 0
RightAbove d s k = (j : ℕ) → j < k → (good d s j ≡ true) × (taken s j ≡ true)

-- A row for each answer: when it is given.
pub data CardGiven (d : ℕ) (s : List ℕ) : Answer → Type 0 where
  -- 5: line k, of 1 to 8, is not as it must be, and nothing is wrong above it
  bad_line : (k : ℕ) → 1 ≤ k → k ≤ 8 → RightAbove d s k → good d s k ≡ false → CardGiven d s (Err (Line k))
  -- 6: line 1 is well formed, and says another edition
  other_edition : good d s 1 ≡ true → taken s 1 ≡ false → CardGiven d s (Err Edition)
  -- 1 of the states: nothing is wrong above line 2, which is well formed and says a size that is not taken
  bad_states : RightAbove d s 2 → good d s 2 ≡ true → taken s 2 ≡ false → CardGiven d s (Err (Size 0))
  -- 1 of the observations, the same of line 3
  bad_observations : RightAbove d s 3 → good d s 3 ≡ true → taken s 3 ≡ false → CardGiven d s (Err (Size 1))
  -- none of them
  right : RightAbove d s 9 → CardGiven d s (Ok tt)
