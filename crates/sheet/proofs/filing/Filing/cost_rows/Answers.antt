-- `Filing::cost_rows` is rows 1 to 3. Assumes nothing.
use Rattle.std.proofs.Common.{◌≡◌, ◌∙◌, [], ◌∷◌, to_z, of_z, w64, ◌-ℤ◌}
use Rattle.ints.specs.Bound.{bounds, fits64}
use Rattle.ints.specs.Exact.{exacts, exact}
use Rattle.ints.specs.Range.{Within, between_same}
use Rattle.amounts.specs.Amounts.{cents}
use Rattle.sheet_rows.specs.declared.cells.Cell.TheVariants.{Blank, Money}
use Rattle.sheet_rows.specs.Rows.{row}
use Rattle.sheet.specs.Figures.{first_interim}
use Rattle.sheet.specs.Sheet.{sheet_by}
use Rattle.sheet.proofs.Sizes.{base_within}
use Rattle.sheet.proofs.filing.Filing.cost_rows.Goals as goal
use Rattle.sheet.proofs.filing.Filing.cost_rows.Goals.{After-base_cost-base}

base_small : (c : After-base_cost-base) → Within 2000000000000 c.base_cost-base.result.0
base_small c =
    let s = c.args.self in
    between_same (λ i. (c.base_cost-base.ensures i).0) (base_within s.rates s.found.period s.rates_within s.found_within.period)

pub overflow_sub-cost : goal.overflow_sub-cost
overflow_sub-cost c =
    let base = base_small (goal.at.overflow_sub-cost c).After-base_cost-base in
    let cost = c.args.self.found_within.period.cost in
    fits64 (search (bounds, base, cost) depth 30) tt

pub returns : goal.returns
unfolding sheet_by first_interim
returns c =
    let s = c.args.self in
    let base = base_small (goal.at.returns c).After-base_cost-base in
    let e = c.base_cost-base.ensures in
    let cost = s.found_within.period.cost in
    let interim : to_z w64 (of_z w64 (to_z w64 (of_z w64 s.found.period.cost.0) -ℤ to_z w64 (of_z w64 c.base_cost-base.result.0))) ≡ s.found.period.cost.0 -ℤ c.base_cost-base.result.0 = exact (search (exacts, base, cost) depth 30) tt in
    let third = interim ∙ (λ i. s.found.period.cost.0 -ℤ (e i).0) in
    λ i. c.of_total.ensures i ∷ (c.of_total-2.ensures ∙ (λ j. row "2" "Base energy cost (B)" (Money (e j)) Blank Blank)) i ∷ (c.of_total-3.ensures ∙ (λ j. row "3" "First Interim Total" (Money (cents (third j))) Blank Blank)) i ∷ []
