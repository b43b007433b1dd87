-- `Bill::line_at` is the rounded line of the usage. Assumes nothing.
use Rattle.ints.specs.Bound.{bounds, fits64}
use Rattle.ints.specs.Exact.{exacts, e_eq, exact}
use Rattle.amounts.specs.Amounts.{same_cents}
use Rattle.rounding.proofs.RoundLaws.{rounds}
use Rattle.steam.proofs.bills.Bill.line_at.Goals as goal

pub overflow_mul-self : goal.overflow_mul-self
overflow_mul-self c =
    let usage = c.args.self.ranged.0 in
    fits64 (search (bounds, usage, c.requires) depth 30) tt

pub returns : goal.returns
returns c =
    let usage = c.args.self.ranged.0 in
    same_cents (exact (search (exacts, rounds, e_eq, usage, c.requires) depth 30) tt)
