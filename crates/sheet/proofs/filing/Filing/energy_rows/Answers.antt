-- `Filing::energy_rows` is rows 4 to 4.3. Assumes nothing.
use Rattle.std.proofs.Common.{◌≡◌, ◌∙◌, [], ◌∷◌, to_z, of_z, w64, pos, ◌+ℤ◌, ◌-ℤ◌}
use Rattle.ints.specs.Bound.{bounds, fits64}
use Rattle.ints.specs.Exact.{exacts, exact}
use Rattle.ints.specs.Range.{Between, between_same}
use Rattle.electric_rules.specs.Book.{kwh}
use Rattle.electric_rules.specs.Sizes.{weight_within}
use Rattle.sheet_rows.specs.declared.cells.Cell.TheVariants.{Blank, Energy}
use Rattle.sheet_rows.specs.Cells.{in_thousandths}
use Rattle.sheet_rows.specs.Rows.{row}
use Rattle.sheet.specs.Figures.{adjusted}
use Rattle.sheet.specs.Sheet.{sheet_by}
use Rattle.sheet.proofs.Sizes.{adjusted_within}
use Rattle.sheet.proofs.filing.Filing.energy_rows.Goals as goal
use Rattle.sheet.proofs.filing.Filing.energy_rows.Goals.{After-adjusted-primary}

module _ (c : After-adjusted-primary) where
  secondary_loss : to_z w64 (of_z w64 c.args.self.rates.secondary) ≡ c.args.self.rates.secondary
  secondary_loss = exact (search (exacts, c.args.self.rates_within.secondary) depth 30) tt

  primary_loss : to_z w64 (of_z w64 c.args.self.rates.primary) ≡ c.args.self.rates.primary
  primary_loss = exact (search (exacts, c.args.self.rates_within.primary) depth 30) tt

  secondary_is : c.adjusted-secondary.result ≡ kwh (adjusted c.args.self.found.period.sales.secondary.0 c.args.self.rates.secondary)
  secondary_is = c.adjusted-secondary.ensures ∙ (λ i. kwh (adjusted c.args.self.found.period.sales.secondary.0 (secondary_loss i)))

  primary_is : c.adjusted-primary.result ≡ kwh (adjusted c.args.self.found.period.sales.primary.0 c.args.self.rates.primary)
  primary_is = c.adjusted-primary.ensures ∙ (λ i. kwh (adjusted c.args.self.found.period.sales.primary.0 (primary_loss i)))

  secondary_small : Between (pos 0) (pos 20000000000) c.adjusted-secondary.result.0
  secondary_small =
      let s = c.args.self in
      between_same (λ i. (secondary_is i).0) (adjusted_within _ _ s.found_within.period.secondary s.rates_within.secondary)

  primary_small : Between (pos 0) (pos 20000000000) c.adjusted-primary.result.0
  primary_small =
      let s = c.args.self in
      between_same (λ i. (primary_is i).0) (adjusted_within _ _ s.found_within.period.primary s.rates_within.primary)

  weight_small : Between (pos 0) (pos 100000) c.args.weight.0
  weight_small = let s = c.args.self in between_same (λ i. (c.requires i).0) (weight_within s.rates s.found.period s.rates_within s.found_within.period)

pub overflow_add-secondary : goal.overflow_add-secondary
overflow_add-secondary c =
    let d = (goal.at.overflow_add-secondary c).After-adjusted-primary in
    let secondary = secondary_small d in
    let primary = primary_small d in
    fits64 (search (bounds, secondary, primary) depth 30) tt

pub overflow_sub-weight : goal.overflow_sub-weight
overflow_sub-weight c =
    let weight = weight_small (goal.at.overflow_sub-weight c).After-adjusted-primary in fits64 (search (bounds, weight) depth 30) tt

pub returns : goal.returns
unfolding sheet_by
returns c =
    let d = (goal.at.returns c).After-adjusted-primary in
    let secondary = secondary_small d in
    let primary = primary_small d in
    let weight = weight_small d in
    let es = secondary_is d in
    let ep = primary_is d in
    let ls = secondary_loss d in
    let lp = primary_loss d in
    let total : to_z w64 (of_z w64 (to_z w64 (of_z w64 c.adjusted-secondary.result.0) +ℤ to_z w64 (of_z w64 c.adjusted-primary.result.0))) ≡ c.adjusted-secondary.result.0 +ℤ c.adjusted-primary.result.0 = exact (search (exacts, secondary, primary) depth 30) tt in
    let sum = total ∙ (λ i. (es i).0 +ℤ (ep i).0) in
    let rest : to_z w64 (of_z w64 (pos 100000 -ℤ to_z w64 (of_z w64 c.args.weight.0))) ≡ pos 100000 -ℤ c.args.weight.0 = exact (search (exacts, weight) depth 30) tt in
    let whole : to_z w64 (of_z w64 c.args.weight.0) ≡ c.args.weight.0 = exact (search (exacts, weight) depth 30) tt in
    let part = whole ∙ (λ i. (c.requires i).0) in
    let other = rest ∙ (λ i. pos 100000 -ℤ (c.requires i).0) in
    λ i. c.of_levels.ensures i
    ∷ (c.of_levels-2.ensures ∙ (λ j. row "4.1" "Loss factors (L)" Blank (in_thousandths (ls j)) (in_thousandths (lp j)))) i
    ∷ (c.new.ensures ∙ (λ j. row "4.2" "S_A adjusted for losses" (Energy (kwh (sum j))) (Energy (es j)) (Energy (ep j)))) i
    ∷ (c.of_levels-3.ensures ∙ (λ j. row "4.3" "Loss factor weights" Blank (in_thousandths (part j)) (in_thousandths (other j)))) i ∷ []
