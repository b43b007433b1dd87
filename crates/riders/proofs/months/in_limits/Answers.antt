-- `months::in_limits` tests the month and what is settled. Assumes nothing.
use mathlib.Core.Path.{refl}
use Rattle.riders.specs.Months.{month_in_limits}
use Rattle.riders.proofs.months.in_limits.Goals as goal

pub returns : goal.returns
unfolding month_in_limits
returns c =
    refl
