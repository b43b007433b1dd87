-- How large the shares are of a settlement today, of a book within its limits. Assumes nothing.
use Rattle.std.specs.Prelude.{Bool, true, false, cond, ◌||◌, ℤ, pos}
use Rattle.ints.specs.Order.{signed}
use Rattle.ints.specs.Range.{Within}
use Rattle.electric_rules.specs.declared.Rates.{Rates}
use Rattle.electric_rules.specs.declared.Period.{Period}
use Rattle.electric_rules.specs.declared.ElectricBook.{ElectricBook}
use Rattle.electric_rules.specs.Rates.{rates_of}
use Rattle.electric_rules.specs.Next.{provisional_of}
use Rattle.electric_rules.specs.Ranges.{BookWithin}
use Rattle.electric_rules.specs.Settlement.{secondary_share, primary_share, no_kwh, provisional_share}
use Rattle.electric_rules.specs.Sizes.{RatesWithin, rates_within, division_rates, secondary_within, primary_within}

-- a provisional share is no larger than the share
provisional_within : (share : Rates → Period → ℤ) (r : Rates) (p : Period) → Within 9000000000000 (share r p) → (settled : Bool) → Within 9000000000000 (provisional_share share r settled p)
unfolding provisional_share
provisional_within share r p h settled = go (settled || no_kwh p)
  where
    go : (none : Bool) → Within 9000000000000 (cond none (pos 0) (share r p))
    go true = omega signed
    go false = h

module _ (b : ElectricBook) (w : BookWithin b) where
  rates : RatesWithin (rates_of b.division)
  rates = rates_within _ (division_rates b.division)

  pub shares_small : Within 9000000000000 (secondary_share (rates_of b.division) b.period) × Within 9000000000000 (primary_share (rates_of b.division) b.period)
  shares_small =
      let secondary = secondary_within _ b.period rates w.period in
      (omega signed, primary_within _ b.period rates w.period)

  pub provisional_small : Within 9000000000000 (provisional_of secondary_share b) × Within 9000000000000 (provisional_of primary_share b)
  provisional_small =
      (provisional_within secondary_share _ b.period shares_small.0 b.settled, provisional_within primary_share _ b.period shares_small.1 b.settled)
