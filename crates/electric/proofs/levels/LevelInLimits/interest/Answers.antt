-- `LevelInLimits::interest` is the month's interest on the balance that bears it. Assumes nothing.
use Rattle.ints.specs.Bound.{bounds, fits64}
use Rattle.ints.specs.Exact.{exacts, e_eq, exact}
use Rattle.ints.specs.Range.{Within}
use Rattle.rounding.proofs.RoundLaws.{rounds}
use Rattle.amounts.specs.Amounts.{same_cents}
use Rattle.electric_rules.specs.Levels.{bearing_of, interest_on}
use Rattle.electric.proofs.levels.LevelInLimits.interest.Goals as goal

pub overflow_add-balance-4 : goal.overflow_add-balance-4
overflow_add-balance-4 c =
    let carried = c.args.self.within.carried in
    let pending = c.args.self.within.pending.due in
    let first = c.args.self.within.first.due in
    let second = c.args.self.within.second.due in
    let provisional : Within 9000000000000 c.args.provisional_share.0 = c.requires in
    fits64 (search (bounds, carried, pending, first, second, provisional) depth 30) tt

pub overflow_mul-month_end : goal.overflow_mul-month_end
overflow_mul-month_end c =
    let rate = c.args.month_end.ranged.0 in
    let carried = c.args.self.within.carried in
    let pending = c.args.self.within.pending.due in
    let first = c.args.self.within.first.due in
    let second = c.args.self.within.second.due in
    let provisional : Within 9000000000000 c.args.provisional_share.0 = c.requires in
    fits64 (search (bounds, rate, carried, pending, first, second, provisional) depth 30) tt

pub returns : goal.returns
unfolding interest_on bearing_of
returns c =
    let rate = c.args.month_end.ranged.0 in
    let carried = c.args.self.within.carried in
    let pending = c.args.self.within.pending.due in
    let first = c.args.self.within.first.due in
    let second = c.args.self.within.second.due in
    let provisional : Within 9000000000000 c.args.provisional_share.0 = c.requires in
    same_cents (exact (search (exacts, rounds, e_eq, rate, carried, pending, first, second, provisional) depth 30) tt)
