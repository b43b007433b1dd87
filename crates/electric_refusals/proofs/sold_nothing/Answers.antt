-- `sold_nothing` is row 10 of the table: of a settlement the sum of the sales is compared, of any other kind nothing. Assumes nothing.
use mathlib.Core.Path.{sym, ap, ◌∙◌}
use Rattle.postings.specs.declared.kinds.Kind.{Kind}
use Rattle.electric_rules.specs.Ranges.{book_within}
use Rattle.electric_rules.specs.Refusals.{nothing_sold}
use Rattle.electric_rules.proofs.Sold.{sum_fits, no_kwh_read}
use Rattle.electric_refusals.proofs.sold_nothing.Goals as goal

pub overflow_add-result : goal.overflow_add-result
overflow_add-result c = sum_fits c.args.book.period (book_within _ c.requires).period

pub returns-in-Settle : goal.returns-in-Settle
returns-in-Settle c =
    no_kwh_read c.args.book.period (book_within _ c.requires).period
    ∙ ap (λ (kind : Kind). nothing_sold kind c.args.book) (sym c.in-Settle.is)
