-- `Settling::weight` is the secondary level's weight: what is weighed lies within the limits of `rounding::weight`. Assumes nothing.
use mathlib.Core.Path.{◌∙◌}
use lib.IntN.{◌*ℤ◌}
use mir.Syntax.{w64}
use mir.Val.{SFits, to_z, of_z}
use mir.Facts.{to_z-of_z}
use Rattle.ints.specs.Bound.{b_between, bounds, fits64}
use Rattle.ints.specs.Machine.{handed_on}
use Rattle.rounding.specs.Weight.{weight_or0}
use Rattle.rounding.proofs.WeightLaws.{weight_or0_is}
use Rattle.electric_rules.specs.Settlement.{weight_by}
use Rattle.electric_rules.specs.Sizes.{weighable_secondary, weighable_primary}
use Rattle.electric_settlement.specs.Shares.{as_weight}
use Rattle.electric_settlement.proofs.settling.Settling.weight.Goals as goal

pub overflow_mul-self : goal.overflow_mul-self
overflow_mul-self c =
    let s = c.args.self in fits64 (search (bounds, s.rates_within, s.period_within) depth 30) tt

pub overflow_mul-self-2 : goal.overflow_mul-self-2
overflow_mul-self-2 c =
    let s = c.args.self in fits64 (search (bounds, s.rates_within, s.period_within) depth 30) tt

pub returns : goal.returns
unfolding weight_by
returns c =
    let s = c.args.self in
    let r = s.rates_within in
    let p = s.period_within in
    let ks : SFits w64 s.period.sales.secondary.0 = fits64 (b_between p.secondary) tt in
    let kp : SFits w64 s.period.sales.primary.0 = fits64 (b_between p.primary) tt in
    let ls : SFits w64 s.rates.secondary = fits64 (b_between r.secondary) tt in
    let lp : SFits w64 s.rates.primary = fits64 (b_between r.primary) tt in
    let first : SFits w64 (to_z w64 (of_z w64 s.period.sales.secondary.0) *ℤ to_z w64 (of_z w64 s.rates.secondary)) = fits64 (search (bounds, r, p) depth 30) tt in
    let second : SFits w64 (to_z w64 (of_z w64 s.period.sales.primary.0) *ℤ to_z w64 (of_z w64 s.rates.primary)) = fits64 (search (bounds, r, p) depth 30) tt in
    (λ i.
    as_weight
    ((handed_on weight_or0 c.weight.result first second c.weight.type_inv c.weight.ensures
    ∙ (λ j. weight_or0 (to_z-of_z ks j *ℤ to_z-of_z ls j) (to_z-of_z kp j *ℤ to_z-of_z lp j))
    ∙ weight_or0_is _ _ (weighable_secondary s.rates s.period r p) (weighable_primary s.rates s.period r p))
    i))
