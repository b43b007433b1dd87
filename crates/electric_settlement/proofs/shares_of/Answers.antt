-- `electric_settlement::shares_of` works them out where rates and period are within their ranges. Assumes nothing.
use mathlib.Core.Path.{sym, ◌∙◌}
use mathlib.Core.Bool.{◌&&◌}
use Rattle.ints.specs.Flags.{both}
use Rattle.electric_rules.specs.Rates.{rates_in_range}
use Rattle.electric_rules.specs.Ranges.{period_within}
use Rattle.electric_rules.specs.Sizes.{rates_within}
use Rattle.electric_settlement.proofs.shares_of.Goals as goal

pub invariant_of-shares : goal.invariant_of-shares
invariant_of-shares c =
    let s = c.args in
    let found = both (rates_in_range s.rates) _ ((λ i. sym c.in_range.ensures i && sym c.in_limits.ensures i) ∙ c.if-in_range-in_limits.true) in
    record { rates_within = rates_within s.rates found.0; period_within = period_within s.period found.1 }
