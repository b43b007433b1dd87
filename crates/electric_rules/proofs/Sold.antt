-- That no kWh were sold in a period, as code tests it: by the sum of its words. Assumes nothing.
use mathlib.Core.Path.{◌≡◌, ◌∙◌}
use lib.Dec.{eqb}
use lib.IntN.{pos, ◌+ℤ◌}
use mir.Syntax.{w64}
use mir.Val.{SFits, to_z, of_z}
use mir.Facts.{to_z-of_z}
use Rattle.ints.specs.Bound.{bounds, b_between, fits64}
use Rattle.ints.specs.Machine.{eq_z, eq_z_bits, zero64}
use Rattle.electric_rules.specs.declared.Period.{Period}
use Rattle.electric_rules.specs.Settlement.{no_kwh}
use Rattle.electric_rules.specs.Ranges.{PeriodWithin}

module _ (p : Period) (w : PeriodWithin p) where
  secondary : SFits w64 p.sales.secondary.0
  secondary = fits64 (b_between w.secondary) tt

  primary : SFits w64 p.sales.primary.0
  primary = fits64 (b_between w.primary) tt

  pub sum_fits : SFits w64 (to_z w64 (of_z w64 p.sales.secondary.0) +ℤ to_z w64 (of_z w64 p.sales.primary.0))
  sum_fits = fits64 (search bounds depth 30) tt

  pub no_kwh_read : eqb (of_z w64 (to_z w64 (of_z w64 p.sales.secondary.0) +ℤ to_z w64 (of_z w64 p.sales.primary.0))) 0 ≡ no_kwh p
  no_kwh_read = eq_z_bits sum_fits zero64 ∙ (λ i. eq_z (to_z-of_z secondary i +ℤ to_z-of_z primary i) (pos 0))
