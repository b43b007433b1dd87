-- `rounding::tie` is the rule for a half. Assumes nothing.
use mathlib.Core.Path.{refl}
use Rattle.rounding.specs.Round.{tie_of}
use Rattle.rounding.proofs.tie.Goals as goal

pub returns : goal.returns
unfolding tie_of
returns c =
    refl
