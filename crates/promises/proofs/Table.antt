-- The table of checked examples (R26) holds: one claim, by computation. Assumes nothing.
use mathlib.Core.Path.{◌≡◌, refl}
use mathlib.Core.Bool.{true}
use lib.Ieee.{add, sub, mul, div, neg, lt, of_bits, to_bits, is_nan}
use Rattle.numbers.specs.Root.{sqrt_of}
use Rattle.numbers.specs.Proposed.{accepts}
use Rattle.numbers.specs.Sums.{sum_from}
use Rattle.numbers.specs.Finite.{every}
use Rattle.grids.specs.Grid.{run, grid}
use Rattle.factors.specs.Pivots.{pivot_taken}
use Rattle.factors.specs.Decomposition.{less_dot, factor, last_recip, first_not}
use Rattle.factors.specs.Inverse.{plus_sum, solved, back}
use Rattle.one_state.specs.OneState.{predicted, corrected}
use Rattle.rows.specs.Rows.{each, how_many}
use Rattle.lines.specs.Hex.{digit_of}
use Rattle.card_text.specs.Lines.{ends, first_line, behind_line, behind_lines}
use Rattle.card_text.specs.Values.{begins, is_count, number_in, are_digits, spelt_from, is_entry, are_entries, entries_in}
use Rattle.card_text.specs.Card.{count_line, count_of, entries_line, entries_of, card_answer, read_answer}
use Rattle.card_text.specs.Spelling.{count_text, entry_text, entries_text, card_text, card_length}
use Rattle.card_text.specs.Said.{patterns}
use Rattle.cards.specs.Written.{write_answer}
use Rattle.promises.specs.Cards as cards
use Rattle.promises.specs.Table.{table}

pub checked : table ≡ true
unfolding table predicted corrected each how_many every sqrt_of accepts sum_from run grid pivot_taken less_dot factor last_recip first_not plus_sum solved back add sub mul div neg lt of_bits to_bits digit_of ends first_line behind_line behind_lines begins is_count number_in are_digits spelt_from is_entry are_entries entries_in count_line count_of entries_line entries_of card_answer read_answer count_text entry_text entries_text card_text card_length is_nan patterns write_answer cards.returns cards.cut
checked = refl
