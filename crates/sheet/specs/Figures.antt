-- The figures that the factor sheet states and no settlement works out (02, a; source document 002, sheet 127).
use Rattle.std.specs.Prelude.{ℕ, ℤ, pos, ◌+ℤ◌, ◌-ℤ◌, ◌*ℤ◌, Option, Some, None}
use Rattle.rounding.specs.Round.{round}
use Rattle.amounts.specs.Amounts.{points}
use Rattle.amounts.specs.declared.Points.{Points}
use Rattle.riders.specs.Months.{month_after}
use Rattle.electric_rules.specs.declared.Rates.{Rates}
use Rattle.electric_rules.specs.declared.Period.{Period}
use Rattle.electric_rules.specs.declared.Level.{Level}
use Rattle.electric_rules.specs.declared.EnteringRun.{EnteringRun}
use Rattle.electric_rules.specs.declared.EnteringRun.TheVariants.{First, Second}
use Rattle.electric_rules.specs.Calendar.{entering}

-- row 2: B = base × (Ss + Sp), rounded to cents
unfoldable pub base_cost : Rates → Period → ℤ
base_cost r p = round (r.base *ℤ (p.sales.secondary.0 +ℤ p.sales.primary.0)) (pos 1000)

-- row 3: row 1 less row 2
unfoldable pub first_interim : Rates → Period → ℤ
first_interim r p = p.cost.0 -ℤ base_cost r p

-- row 4.2: kWh times loss factor, rounded to whole kWh at each level
unfoldable pub adjusted : ℤ → ℤ → ℤ
adjusted sold loss = round (sold *ℤ loss) (pos 100000)

-- row 12: the factor of the run that stays when this one enters; none enters for a month that does not settle
abbrev pub factor_beside : Option EnteringRun → Level → Points
factor_beside (Some First) l = l.second.factor
factor_beside (Some Second) l = l.first.factor
factor_beside None l = points (pos 0)

-- what a month settles enters at the end of the third month after it
unfoldable pub previous_factor : ℕ → Level → Points
previous_factor month l = factor_beside (entering (month_after (month_after (month_after month)))) l

-- row 13: row 11 and row 12
abbrev pub annual_factor : Points → Points → Points
annual_factor current previous = points (current.0 +ℤ previous.0)
