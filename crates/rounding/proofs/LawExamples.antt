-- How the laws of rounding are used (src/examples.rt has the uses in code). Nothing cites them. Assumes nothing.
use Rattle.std.specs.Prelude.{ℕ, ◌%◌, ◌≤◌, ℤ, pos, ◌-ℤ◌, ◌*ℤ◌}
use Rattle.std.proofs.Common.{arith}
use Rattle.ints.specs.Order.{signed}
use Rattle.ints.specs.Range.{Between, Within}
use Rattle.rounding.specs.Round.{round}
use Rattle.rounding.proofs.RoundLaws.{round_leaves, round_between}

-- what rounding leaves is at most half of the divisor
remainder_small : (a : ℤ) → Within 50000 (a -ℤ pos 100000 *ℤ round a (pos 100000))
remainder_small a = round_leaves 50000 a (omega arith)

-- a range, by the multiples of the divisor at its ends
hundredths_between : (a : ℤ) → Between (pos 0) (pos 100000) a → Between (pos 0) (pos 1000) (round a (pos 100))
hundredths_between a h = round_between (pos 0) (pos 1000) a (pos 100) (omega signed) h

-- the one law of the rule for a half, `tie_small`, holds of ties to the even neighbour too
even_tie_small : (whole : ℕ) → whole % 2 ≤ 1
even_tie_small whole = omega arith
