-- A settlement's weight and shares, as the code passes them on; and the shares for any rates and period: the rules' own where both are within
-- their ranges, else none. Law: within the ranges they are the rules'. Assumes nothing.
use Rattle.std.specs.Prelude.{◌≡◌, true, cond, ◌&&◌, ℤ, pos}
use Rattle.amounts.specs.Amounts.{cents}
use Rattle.electric_rules.specs.declared.Rates.{Rates}
use Rattle.electric_rules.specs.declared.Period.{Period}
use Rattle.electric_rules.specs.Book.{remainder}
use Rattle.electric_rules.specs.Rates.{rates_in_range}
use Rattle.electric_rules.specs.Settlement.{share_of, remainder_after, weight_by, secondary_share, primary_share}
use Rattle.electric_rules.specs.Limits.{period_in_limits}
use Rattle.electric_settlement.specs.declared.Weight.{Weight}
use Rattle.electric_settlement.specs.declared.Shares.{Shares}

abbrev pub as_weight : ℤ → Weight
as_weight w = record { 0 = w }

abbrev pub shares_of : Rates → Period → Shares
shares_of rates period =
    record {
      share = cents (share_of rates period);
      weight = as_weight (weight_by rates period);
      secondary = cents (secondary_share rates period);
      primary = cents (primary_share rates period);
      remainder = remainder (remainder_after rates period);
    }

-- nothing is shared, and the remainder stays
abbrev no_shares : Period → Shares
no_shares period = record { share = cents (pos 0); weight = as_weight (pos 0); secondary = cents (pos 0); primary = cents (pos 0); remainder = period.remainder }

abbrev pub shares_or0 : Rates → Period → Shares
shares_or0 rates period = cond (rates_in_range rates && period_in_limits period) (shares_of rates period) (no_shares period)

pub shares_or0_is : (rates : Rates) (period : Period) → rates_in_range rates ≡ true → period_in_limits period ≡ true → shares_or0 rates period ≡ shares_of rates period
shares_or0_is rates period r p = simp (r, p)
