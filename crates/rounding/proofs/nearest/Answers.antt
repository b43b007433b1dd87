-- `rounding::nearest` is `nearest_of`, by the quotient and the remainder. Assumes nothing.
use Rattle.rounding.specs.Round.{nearest_of}
use Rattle.rounding.proofs.nearest.Goals as goal

pub returns : goal.returns
unfolding nearest_of
returns c =
    c.rounded.ensures
