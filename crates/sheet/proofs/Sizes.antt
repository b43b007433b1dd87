-- How large the figures of the sheet can be, for books in limits and for any rates that a sheet may state. Assumes nothing.
use Rattle.std.specs.Prelude.{ℕ, ℤ, pos, ◌+ℤ◌, ◌-ℤ◌, ◌*ℤ◌, Option, Some, None}
use Rattle.ints.specs.Order.{signed, sum}
use Rattle.ints.specs.Range.{Between, Within}
use Rattle.ints.specs.Bound.{bounds, within_by}
use Rattle.rounding.proofs.RoundLaws.{rounds, round_between}
use Rattle.rounding.proofs.WeightLaws.{weighable_true}
use Rattle.electric_rules.specs.declared.Rates.{Rates}
use Rattle.electric_rules.specs.declared.Period.{Period}
use Rattle.electric_rules.specs.declared.Level.{Level}
use Rattle.electric_rules.specs.declared.EnteringRun.{EnteringRun}
use Rattle.electric_rules.specs.declared.EnteringRun.TheVariants.{First, Second}
use Rattle.electric_rules.specs.Settlement.{weight_by}
use Rattle.electric_rules.specs.Ranges.{LevelWithin, PeriodWithin}
use Rattle.electric_rules.specs.Sizes.{RatesWithin, can_be_weighed, weight_within}
use Rattle.sheet.specs.Figures.{base_cost, first_interim, adjusted, factor_beside, previous_factor}

pub adjusted_within :
    (sold loss : ℤ) → Between (pos 0) (pos 10000000000) sold → Between (pos 100000) (pos 199999) loss →
    Between (pos 0) (pos 20000000000) (adjusted sold loss)
unfolding adjusted
adjusted_within sold loss h k =
    round_between (pos 0) (pos 20000000000) (sold *ℤ loss) (pos 100000) (omega signed) (weighable_true (sold *ℤ loss) (can_be_weighed sold loss h k))

module _ (r : Rates) (p : Period) (rs : RatesWithin r) (ps : PeriodWithin p) where
  pub base_within : Within 2000000000000 (base_cost r p)
  unfolding base_cost
  base_within = within_by (search (bounds, rounds) depth 30) tt

  pub interim_within : Within 3000000000000 (first_interim r p)
  unfolding first_interim
  interim_within = let b = base_within in within_by (search bounds depth 30) tt

  pub total_within : Between (pos 0) (pos 40000000000) (adjusted p.sales.secondary.0 r.secondary +ℤ adjusted p.sales.primary.0 r.primary)
  total_within =
      let x = adjusted p.sales.secondary.0 r.secondary in
      let y = adjusted p.sales.primary.0 r.primary in
      let s = adjusted_within p.sales.secondary.0 r.secondary ps.secondary rs.secondary in
      let t = adjusted_within p.sales.primary.0 r.primary ps.primary rs.primary in
      record { above = omega (signed, sum x y); below = omega (signed, sum x y) }

  pub rest_within : Within 200000 (pos 100000 -ℤ weight_by r p)
  rest_within = let w = weight_within r p rs ps in within_by (search bounds depth 30) tt

beside_within : (entered : Option EnteringRun) (l : Level) → LevelWithin l → Within 99999 (factor_beside entered l).0
beside_within None l h = omega signed
beside_within (Some First) l h = h.second.factor
beside_within (Some Second) l h = h.first.factor

pub previous_within : (month : ℕ) (l : Level) → LevelWithin l → Within 99999 (previous_factor month l).0
unfolding previous_factor
previous_within month l h = beside_within _ l h
