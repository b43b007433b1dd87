-- `LevelInLimits::adjusted` adds the amount to the carried cents. Assumes nothing.
use Rattle.ints.specs.Exact.{exacts, exact}
use Rattle.electric.proofs.Parts.{same_carried}
use Rattle.electric.proofs.levels.LevelInLimits.adjusted.Goals as goal

pub returns : goal.returns
returns c =
    same_carried c.args.self.level (exact (search (exacts, c.args.self.within, c.requires) depth 30) tt)
