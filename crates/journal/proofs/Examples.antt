-- The paper's journal prints what the paper says: it is computed from the definitions. Assumes nothing.
use mathlib.Core.Path.{refl}
use lib.Count.{ones, ones_in}
use Rattle.ints.specs.Range.{in_range}
use Rattle.ints.specs.Digits.{digits, value}
use Rattle.rounding.specs.Round.{tie_of, rounded_of, nearest_of, round}
use Rattle.refusals.specs.Rows.{number_of, refusal_by, by_table}
use Rattle.amounts.specs.Amounts.{cents_in_limits, points_in_limits}
use Rattle.amounts.specs.Text.{cents_text, text_of, sign_of, decimal, width_of, width_in}
use Rattle.postings.specs.Kinds.{kind_of, unknown_kind, fields_of, stands_beyond, stray_number, out_of_range}
use Rattle.postings.specs.BitMaps.{bits_from}
use Rattle.riders.specs.Rules.{answered_by, left_by}
use Rattle.riders.specs.Lines.{line_of, part_of}
use Rattle.riders.specs.Runs.{run_in_limits}
use Rattle.riders.specs.Months.{month_in_limits}
use Rattle.electric_rules.specs.Book.{opened_of}
use Rattle.electric_rules.specs.Levels.{level_line}
use Rattle.records.specs.Fields.{twos_complement, field_of}
use Rattle.records.specs.Records.{record_length, fields_at, zero_present, read_of}
use Rattle.journal.specs.Journal.{lines_from, electric_lines, bad_division, opened_by, journal_of}
use Rattle.journal.specs.Examples.{ExampleHolds}
use Rattle.journal.specs.Lines as lines

pub example_holds : ExampleHolds
unfolding journal_of opened_by bad_division electric_lines lines_from lines.record_line read_of number_of by_table refusal_by unknown_kind kind_of fields_of stands_beyond stray_number out_of_range record_length ones ones_in bits_from fields_at zero_present field_of twos_complement value opened_of answered_by left_by run_in_limits cents_in_limits points_in_limits month_in_limits in_range level_line line_of part_of round nearest_of rounded_of tie_of cents_text text_of sign_of decimal width_of width_in digits
example_holds = refl
