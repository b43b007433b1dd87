-- An example: after a call by a numeral, `rounds` has the size of the quotient and its value. Assumes nothing.
use Rattle.ints.specs.Bound.{bounds, b_eq, fits64}
use Rattle.ints.specs.Exact.{exacts, e_eq, exact}
use Rattle.rounding.proofs.RoundLaws.{rounds}
use Rattle.rounding.proofs.examples.hundredths.Goals as goal

pub overflow_sub-result : goal.overflow_sub-result
overflow_sub-result c =
    fits64 (search (bounds, rounds, b_eq) depth 30) tt

pub returns : goal.returns
returns c =
    exact (search (exacts, rounds, e_eq) depth 30) tt
