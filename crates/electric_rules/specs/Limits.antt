-- What an electric book may store (01, Posting records, the last line; Refusals, 6): one definition for the book that a posting finds and
-- for the one that it would leave.
use Rattle.std.specs.Prelude.{Bool, ◌&&◌, leb, pos, neg_ℤ}
use Rattle.ints.specs.Range.{in_range}
use Rattle.amounts.specs.Amounts.{cents_in_limits}
use Rattle.riders.specs.Months.{month_in_limits}
use Rattle.riders.specs.Runs.{run_in_limits}
use Rattle.electric_rules.specs.declared.Kwh.{Kwh}
use Rattle.electric_rules.specs.declared.Remainder.{Remainder}
use Rattle.electric_rules.specs.declared.Level.{Level}
use Rattle.electric_rules.specs.declared.Period.{Period}
use Rattle.electric_rules.specs.declared.ElectricBook.{ElectricBook}
use Rattle.electric_rules.specs.Calendar.{settles}

-- Ss and Sp up to 10^10
abbrev pub kwh_in_limits : Kwh → Bool
kwh_in_limits sales = in_range (pos 0) (pos 10000000000) sales.0

-- |rem| up to 50,000
abbrev pub remainder_in_limits : Remainder → Bool
remainder_in_limits rem = in_range (neg_ℤ (pos 50000)) (pos 50000) rem.0

abbrev pub level_in_limits : Level → Bool
level_in_limits l =
    cents_in_limits l.carried && (cents_in_limits l.interest && (run_in_limits l.pending && (run_in_limits l.first && run_in_limits l.second)))

abbrev pub period_in_limits : Period → Bool
period_in_limits p =
    cents_in_limits p.cost && (kwh_in_limits p.sales.secondary && (kwh_in_limits p.sales.primary && remainder_in_limits p.remainder))

-- division up to 1, month 1 to 12, settled only in a month that settles
abbrev pub dates_in_limits : ElectricBook → Bool
dates_in_limits b = leb b.division 1 && month_in_limits b.month (settles b.month) b.settled

abbrev pub in_limits : ElectricBook → Bool
in_limits b = dates_in_limits b && (period_in_limits b.period && (level_in_limits b.secondary && level_in_limits b.primary))
