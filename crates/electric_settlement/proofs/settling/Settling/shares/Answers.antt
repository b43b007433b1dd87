-- `Settling::shares` rounds what is to be shared to the customers' share, and that by the weight to the secondary level's. Assumes nothing.
use mathlib.Core.Path.{◌≡◌, ap, ◌∙◌}
use lib.IntN.{ℤ, pos, ◌-ℤ◌, ◌*ℤ◌}
use mir.Syntax.{w64}
use mir.Val.{to_z, of_z}
use Rattle.ints.specs.Bound.{bounds, fits64}
use Rattle.ints.specs.Exact.{exacts, exact}
use Rattle.ints.specs.Range.{Between, Within, between_same}
use Rattle.rounding.specs.Round.{round}
use Rattle.amounts.specs.Amounts.{cents}
use Rattle.amounts.specs.declared.Cents.{Cents}
use Rattle.electric_rules.specs.declared.Remainder.{Remainder}
use Rattle.electric_rules.specs.Book.{remainder}
use Rattle.electric_rules.specs.Settlement.{shareable_of, share_of, remainder_after, weight_by, secondary_share, primary_share}
use Rattle.electric_rules.specs.Sizes.{shareable_within, share_within, weight_within, secondary_within}
use Rattle.electric_settlement.specs.Shares.{as_weight}
use Rattle.electric_settlement.specs.declared.settling.Settling.{Settling}
use Rattle.electric_settlement.specs.declared.Weight.{Weight}
use Rattle.electric_settlement.proofs.settling.Settling.shares.Goals as goal

-- what the code has worked out, and how large it is
module _ (s : Settling) {shareable : Remainder} (e : shareable ≡ remainder (shareable_of s.rates s.period)) where
  shareable_small : Within 400000000000000000 shareable.0
  shareable_small = between_same (λ i. (e i).0) (shareable_within s.rates s.period s.rates_within s.period_within)

  module _ {share : Cents} (f : share ≡ cents (round shareable.0 (pos 100000))) where
    share_is : share ≡ cents (share_of s.rates s.period)
    unfolding share_of
    share_is = f ∙ ap (λ (parts : Remainder). cents (round parts.0 (pos 100000))) e

    share_small : Within 4100000000000 share.0
    share_small = between_same (λ i. (share_is i).0) (share_within s.rates s.period s.rates_within s.period_within)

    module _ {weight : Weight} (g : weight ≡ as_weight (weight_by s.rates s.period)) where
      weight_small : Between (pos 0) (pos 100000) weight.0
      weight_small = between_same (λ i. (g i).0) (weight_within s.rates s.period s.rates_within s.period_within)

      secondary_is :
          {secondary : Cents} → secondary ≡ cents (round (to_z w64 (of_z w64 (to_z w64 (of_z w64 share.0) *ℤ to_z w64 (of_z w64 weight.0)))) (pos 100000)) →
          secondary ≡ cents (secondary_share s.rates s.period)
      unfolding secondary_share
      secondary_is h =
          let share = share_small in
          let weight = weight_small in
          h
          ∙ ap (λ (z : ℤ). cents (round z (pos 100000))) (exact (search (exacts, share, weight) depth 30) tt)
          ∙ (λ i. cents (round ((share_is i).0 *ℤ (g i).0) (pos 100000)))

pub overflow_mul-share : goal.overflow_mul-share
overflow_mul-share c =
    let s = c.args.self in
    let share = share_small s c.shareable-shareable.ensures c.whole_cents-share.ensures in
    let weight = weight_small s c.shareable-shareable.ensures c.whole_cents-share.ensures c.weight-weight.ensures in
    fits64 (search (bounds, share, weight) depth 30) tt

pub overflow_sub-result : goal.overflow_sub-result
overflow_sub-result c =
    let s = c.args.self in
    let share = share_small s c.shareable-shareable.ensures c.whole_cents-share.ensures in
    let secondary_is = secondary_is s c.shareable-shareable.ensures c.whole_cents-share.ensures c.weight-weight.ensures c.whole_cents-secondary.ensures in
    let secondary = between_same (λ i. (secondary_is i).0) (secondary_within s.rates s.period s.rates_within s.period_within) in
    fits64 (search (bounds, share, secondary) depth 30) tt

pub overflow_mul-result : goal.overflow_mul-result
overflow_mul-result c =
    let share = share_small c.args.self c.shareable-shareable.ensures c.whole_cents-share.ensures in
    fits64 (search (bounds, share) depth 30) tt

pub overflow_sub-result-2 : goal.overflow_sub-result-2
overflow_sub-result-2 c =
    let shareable = shareable_small c.args.self c.shareable-shareable.ensures in
    let share = share_small c.args.self c.shareable-shareable.ensures c.whole_cents-share.ensures in
    fits64 (search (bounds, shareable, share) depth 30) tt

pub returns : goal.returns
unfolding remainder_after primary_share
returns c =
    let s = c.args.self in
    let e = c.shareable-shareable.ensures in
    let share_is = share_is s e c.whole_cents-share.ensures in
    let secondary_is = secondary_is s e c.whole_cents-share.ensures c.weight-weight.ensures c.whole_cents-secondary.ensures in
    let shareable = shareable_small s e in
    let share = share_small s e c.whole_cents-share.ensures in
    let secondary = between_same (λ i. (secondary_is i).0) (secondary_within s.rates s.period s.rates_within s.period_within) in
    let rest : to_z w64 (of_z w64 (to_z w64 (of_z w64 c.whole_cents-share.result.0) -ℤ to_z w64 (of_z w64 c.whole_cents-secondary.result.0))) ≡ c.whole_cents-share.result.0 -ℤ c.whole_cents-secondary.result.0 = exact (search (exacts, share, secondary) depth 30) tt in
    let left : to_z w64 (of_z w64 (to_z w64 (of_z w64 c.shareable-shareable.result.0) -ℤ to_z w64 (of_z w64 (pos 100000 *ℤ to_z w64 (of_z w64 c.whole_cents-share.result.0))))) ≡ c.shareable-shareable.result.0 -ℤ pos 100000 *ℤ c.whole_cents-share.result.0 = exact (search (exacts, shareable, share) depth 30) tt in
    let primary = rest ∙ (λ i. (share_is i).0 -ℤ (secondary_is i).0) in
    let remains = left ∙ (λ i. (e i).0 -ℤ pos 100000 *ℤ (share_is i).0) in
    λ i. record { share = share_is i; weight = c.weight-weight.ensures i; secondary = secondary_is i; primary = cents (primary i); remainder = remainder (remains i) }
