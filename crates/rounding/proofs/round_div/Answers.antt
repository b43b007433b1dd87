-- `rounding::round_div` is `round`: the nearest whole number of the sizes, with the sign of the dividend. Assumes nothing.
use mathlib.Core.Path.{◌∙◌, sym, ap}
use native.Mathlib.Omega.{arith}
use lib.IntN.{nat_abs}
use mir.Syntax.{w64}
use mir.Facts.{to_z-of_z}
use Rattle.ints.specs.Order.{signed}
use Rattle.ints.specs.Machine.{reads, size_read}
use Rattle.rounding.proofs.Signs.{Parts, quotient_small, quotient_is}
use Rattle.rounding.proofs.RoundLaws.{round_below}
use Rattle.rounding.proofs.round_div.Goals as goal
use Rattle.rounding.proofs.round_div.Goals.{After-nearest}

pub returns-then-b-lt1 : goal.returns-then-b-lt1
returns-then-b-lt1 c =
    sym (round_below c.args.a c.args.b (omega signed))

parts : (c : After-nearest) → Parts c.args.a c.args.b c.size.result c.size-2.result
parts c =
    record { dividend = size_read c.ranges.a c.size.ensures; divisor = size_read c.ranges.b c.size-2.ensures; positive = omega signed }

pub with_sign-requires : goal.with_sign-requires
with_sign-requires c =
    omega (arith, quotient_small (parts (goal.at.with_sign-requires c).After-nearest) c.nearest.ensures, ap nat_abs (to_z-of_z c.ranges.a))

pub returns : goal.returns
returns c =
    reads w64 c.with_sign.result c.with_sign.type_inv
    ∙ c.with_sign.ensures
    ∙ rw (to_z-of_z c.ranges.a) (quotient_is (parts (goal.at.returns c).After-nearest) c.nearest.ensures)
