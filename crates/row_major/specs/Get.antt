-- What get promises: the cell, or the refusal. Definitions only.
use Rattle.std.specs.Prelude.{◌≡◌, List, ℕ, length, Float, Result, Ok, Err}
use Rattle.answers.specs.Answers.{Answer}
use Rattle.answers.specs.declared.Refusal.{Refusal}
use Rattle.grids.specs.Grid.{cell}
use Rattle.grids.specs.Cells.{cell_answer}

-- a call of get gives the value where the answer is done, and else the refusal
abbrev pub read_as : Answer → Float → Result Float Refusal
read_as (Ok tt) x = Ok x
read_as (Err why) x = Err why

-- get: the cell (r, c) of the buffer m
abbrev pub Got : ℕ → ℕ → List Float → ℕ → ℕ → Result Float Refusal → Type 0
Got rows cols m r c g = g ≡ read_as (cell_answer rows cols (length m) r c) (cell cols m r c)
