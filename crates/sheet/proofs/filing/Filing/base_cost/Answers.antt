-- `Filing::base_cost` is B in cents. Assumes nothing.
use Rattle.ints.specs.Bound.{bounds, fits64}
use Rattle.ints.specs.Exact.{exacts, e_eq, exact}
use Rattle.rounding.proofs.RoundLaws.{rounds}
use Rattle.amounts.specs.Amounts.{same_cents}
use Rattle.sheet.specs.Figures.{base_cost}
use Rattle.sheet.proofs.filing.Filing.base_cost.Goals as goal

pub overflow_mul-self : goal.overflow_mul-self
overflow_mul-self c =
    let s = c.args.self in fits64 (search (bounds, s.rates_within, s.found_within.period) depth 30) tt

pub returns : goal.returns
unfolding base_cost
returns c =
    let s = c.args.self in
    same_cents (exact (search (exacts, rounds, e_eq, c.round_div.ensures, s.rates_within, s.found_within.period) depth 30) tt)
