-- `Settling::shared` rounds what is to be shared to the customers' share, and opens the next quarter with what rounding leaves. Assumes nothing.
use Rattle.std.specs.Prelude.{◌≡◌, pos, ◌-ℤ◌, ◌*ℤ◌}
use Rattle.std.proofs.Common.{◌∙◌}
use mir.Syntax.{w64}
use mir.Val.{to_z, of_z}
use Rattle.ints.specs.Bound.{bounds, fits64}
use Rattle.ints.specs.Exact.{exacts, e_eq, exact}
use Rattle.ints.specs.Range.{Within, between_same}
use Rattle.rounding.proofs.RoundLaws.{rounds}
use Rattle.rounding.specs.Round.{round}
use Rattle.steam_rules.specs.Book.{period_of}
use Rattle.steam_rules.specs.Settlement.{share_of, remainder_after}
use Rattle.steam_rules.specs.Sizes.{shareable_within, share_within}
use Rattle.steam_settlement.specs.Shares.{shared_as}
use Rattle.steam_settlement.proofs.settling.Settling.shared.Goals as goal
use Rattle.steam_settlement.proofs.settling.Settling.shared.Goals.{After-round_div}

-- how large what is shared is
shareable_small : (c : After-round_div) → Within 9000000000000000 c.shareable-shareable.result.0
shareable_small c = between_same (λ i. (c.shareable-shareable.ensures i).0) (shareable_within c.args.self.period c.args.self.period_within)

-- what the code has rounded is the share
share_is : (c : After-round_div) → to_z w64 (of_z w64 c.round_div.result) ≡ share_of c.args.self.period
unfolding share_of
share_is c =
    let e = c.shareable-shareable.ensures in
    let shareable = shareable_small c in
    let rounded : to_z w64 (of_z w64 c.round_div.result) ≡ round c.shareable-shareable.result.0 (pos 10000) = exact (search (exacts, rounds, e_eq, shareable) depth 30) tt in
    rounded ∙ (λ i. round (e i).0 (pos 10000))

-- and how large the share is
share_small : (c : After-round_div) → Within 1000000000000 (to_z w64 (of_z w64 c.round_div.result))
share_small c = between_same (share_is c) (share_within c.args.self.period c.args.self.period_within)

pub overflow_mul-remainder : goal.overflow_mul-remainder
overflow_mul-remainder c =
    let share = share_small (goal.at.overflow_mul-remainder c).After-round_div in
    fits64 (search (bounds, share) depth 30) tt

pub overflow_sub-remainder : goal.overflow_sub-remainder
overflow_sub-remainder c =
    let share = share_small (goal.at.overflow_sub-remainder c).After-round_div in
    let shareable = shareable_small (goal.at.overflow_sub-remainder c).After-round_div in
    fits64 (search (bounds, shareable, share) depth 30) tt

pub returns : goal.returns
unfolding remainder_after
returns c =
    let rounded = (goal.at.returns c).After-round_div in
    let share = share_small rounded in
    let shareable = shareable_small rounded in
    let e = share_is rounded in
    let left : to_z w64 (of_z w64 (to_z w64 (of_z w64 c.shareable-shareable.result.0) -ℤ to_z w64 (of_z w64 (pos 10000 *ℤ to_z w64 (of_z w64 (to_z w64 (of_z w64 c.round_div.result))))))) ≡ c.shareable-shareable.result.0 -ℤ pos 10000 *ℤ to_z w64 (of_z w64 c.round_div.result) = exact (search (exacts, shareable, share) depth 30) tt in
    let remainder = left ∙ (λ i. (c.shareable-shareable.ensures i).0 -ℤ pos 10000 *ℤ e i) in
    λ i. shared_as (e i) (period_of (pos 0) (pos 0) (remainder i))
