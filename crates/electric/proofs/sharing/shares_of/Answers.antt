-- `sharing::shares_of` is a settlement's shares at the rates of the book's division. Assumes nothing.
use Rattle.std.proofs.Common.{ap, ◌∙◌}
use Rattle.electric_rules.specs.declared.Rates.{Rates}
use Rattle.electric_rules.specs.Rates.{rates_of}
use Rattle.electric_rules.specs.Ranges.{book_within, period_yes}
use Rattle.electric_rules.specs.Sizes.{division_rates}
use Rattle.electric_settlement.specs.Shares.{shares_or0, shares_or0_is}
use Rattle.electric.proofs.sharing.shares_of.Goals as goal

pub returns : goal.returns
returns c =
    let b = c.args.book.now in
    c.shares_of.ensures
    ∙ ap (λ (r : Rates). shares_or0 r b.period) c.rates_of-rates.ensures
    ∙ shares_or0_is (rates_of b.division) b.period (division_rates b.division) (period_yes b.period (book_within b c.requires).period)
