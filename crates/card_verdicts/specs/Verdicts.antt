-- What judging a card finds, step by step: the head of a card, and its matrices. Definitions only.
use Rattle.std.specs.Prelude.{◌≡◌, true, List, ℕ, ◌≤◌, Result, Ok, Err}
use Rattle.std.specs.Borrow.{Bor}
use Rattle.answers.specs.declared.Refusal.{Refusal}
use Rattle.answers.specs.Answers.{first_of, Answer}
use Rattle.answers.specs.Tests.{size_test, after_tests}
use Rattle.card_text.specs.Lines.{behind_line, behind_lines}
use Rattle.card_text.specs.Card.{count_line, count_of, states_of, observations_of, line_test, head_tests, matrix_tests}

-- what lines 1 to 3 are answered with
unfoldable pub head_answer : List ℕ → Answer
head_answer s = after_tests (Ok tt) (head_tests (states_of s) (observations_of s) s)

-- what the others are answered with, of a card of n states and m observations
unfoldable pub matrices_answer : ℕ → ℕ → ℕ → List ℕ → Answer
matrices_answer d n m s = after_tests (Ok tt) (matrix_tests d n m s)

-- what a line with a size is answered with: line number `line`, which is the first of the text t, and the size of index `which`
abbrev pub size_line_answer : List ℕ → ℕ → ℕ → List ℕ → Answer
size_line_answer key line which t = first_of (line_test line (count_line key t)) (size_test which (count_of key t))

-- the line with a size is taken: n is the size, from 1 to 16, and u stands behind the line
pub record IsSize (key : List ℕ) (line which : ℕ) (t : List ℕ) (n : ℕ) (u : List ℕ) : Type 0 where
  pub done : size_line_answer key line which t ≡ Ok tt
  pub counted : count_line key t ≡ true
  pub size : n ≡ count_of key t
  pub least : 1 ≤ n
  pub most : n ≤ 16
  pub behind : u ≡ behind_line t

-- what judging such a line finds: the size and the rest, or a refusal
abbrev pub SizedBy : List ℕ → ℕ → ℕ → List ℕ → Result (ℕ × Bor (List ℕ)) Refusal → Type 0
SizedBy key line which t (Ok p) = IsSize key line which t p.0 p.1.now
SizedBy key line which t (Err v) = size_line_answer key line which t ≡ Err v

-- the sizes n and m are those of the card, from 1 to 16, and t is the card from line 4 on
pub record Headed (s : List ℕ) (n m : ℕ) (t : List ℕ) : Type 0 where
  pub states : n ≡ states_of s
  pub observations : m ≡ observations_of s
  pub states_least : 1 ≤ n
  pub states_most : n ≤ 16
  pub observations_least : 1 ≤ m
  pub observations_most : m ≤ 16
  pub rest : t ≡ behind_lines 3 s

-- what judging finds where the card is answered with w: both sizes and the rest where that is done, and else w
abbrev pub Judged : Answer → List ℕ → Result (ℕ × ℕ × Bor (List ℕ)) Refusal → Type 0
Judged w s (Ok p) = (w ≡ Ok tt) × Headed s p.0 p.1 p.2.now
Judged w s (Err v) = w ≡ Err v
