-- The customers' share and the next quarter for every quarter (01, Steam book, Settle): R, and nothing open but what rounding leaves, where
-- the quarter is within its limits; else no share, and the quarter as it was. Law: within the limits they are document 01's. Assumes nothing.
use Rattle.std.specs.Prelude.{◌≡◌, cond, ℤ, pos}
use Rattle.amounts.specs.Amounts.{cents}
use Rattle.steam_rules.specs.declared.Period.{Period}
use Rattle.steam_rules.specs.Book.{period_of}
use Rattle.steam_rules.specs.Settlement.{share_of, remainder_after}
use Rattle.steam_rules.specs.Limits.{period_in_limits}
use Rattle.steam_rules.specs.Ranges.{PeriodWithin, period_yes}
use Rattle.steam_settlement.specs.declared.Shared.{Shared}

abbrev pub shared_as : ℤ → Period → Shared
shared_as share period = record { share = cents share; period = period }

unfoldable pub shared_or0 : Period → Shared
shared_or0 period = cond (period_in_limits period) (shared_as (share_of period) (period_of (pos 0) (pos 0) (remainder_after period))) (shared_as (pos 0) period)

pub shared_or0_is : (period : Period) → PeriodWithin period → shared_or0 period ≡ shared_as (share_of period) (period_of (pos 0) (pos 0) (remainder_after period))
unfolding shared_or0
shared_or0_is period h = simp (period_yes period h)
