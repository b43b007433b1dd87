-- `Settling::shareable` is what the period is to share. Assumes nothing.
use Rattle.ints.specs.Bound.{bounds, fits64}
use Rattle.ints.specs.Exact.{exacts, exact}
use Rattle.electric_rules.specs.Book.{same_remainder}
use Rattle.electric_rules.specs.Settlement.{variance_of, shareable_of}
use Rattle.electric_settlement.proofs.settling.Settling.shareable.Goals as goal

pub overflow_mul-variance-2 : goal.overflow_mul-variance-2
overflow_mul-variance-2 c =
    let s = c.args.self in fits64 (search (bounds, s.rates_within, s.period_within) depth 30) tt

pub overflow_sub-variance : goal.overflow_sub-variance
overflow_sub-variance c =
    let s = c.args.self in fits64 (search (bounds, s.rates_within, s.period_within) depth 30) tt

pub overflow_mul-result : goal.overflow_mul-result
overflow_mul-result c =
    let s = c.args.self in fits64 (search (bounds, s.rates_within, s.period_within) depth 30) tt

pub overflow_add-result : goal.overflow_add-result
overflow_add-result c =
    let s = c.args.self in fits64 (search (bounds, s.rates_within, s.period_within) depth 30) tt

pub returns : goal.returns
unfolding shareable_of variance_of
returns c =
    let s = c.args.self in same_remainder (exact (search (exacts, s.rates_within, s.period_within) depth 30) tt)
