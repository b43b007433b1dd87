-- Of what a posting gives: the number that comes back is the refusal table's, and a refusal leaves the book as it was. Assumes nothing.
use Rattle.riders.specs.Rules.{NumberByTable, RefusalKeepsBook}
use Rattle.electric_rules.specs.Refusals.{rules}
use Rattle.riders.specs.Rules as any

pub number_by_table : NumberByTable rules
number_by_table = any.number_by_table rules

pub refusal_keeps_book : RefusalKeepsBook rules
refusal_keeps_book = any.refusal_keeps_book rules
