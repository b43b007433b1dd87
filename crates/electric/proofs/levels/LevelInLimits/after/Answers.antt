-- `LevelInLimits::after` is the level with the interest accrued and handed over. Assumes nothing.
use mathlib.Core.Path.{◌≡◌, ap, ◌∙◌}
use lib.IntN.{◌+ℤ◌}
use mir.Syntax.{w64}
use mir.Val.{to_z, of_z}
use Rattle.ints.specs.Bound.{bounds, fits64}
use Rattle.ints.specs.Exact.{exacts, exact}
use Rattle.ints.specs.Range.{Within}
use Rattle.electric_rules.specs.Levels.{handed_over}
use Rattle.electric.proofs.Parts.{same_interest}
use Rattle.electric.proofs.levels.LevelInLimits.after.Goals as goal

pub overflow_add-accrued : goal.overflow_add-accrued
overflow_add-accrued c =
    let interest : Within 300000000000 c.args.interest.0 = c.requires in
    fits64 (search (bounds, interest, c.args.self.within.interest) depth 30) tt

pub returns : goal.returns
returns c =
    let l = c.args.self in
    let interest : Within 300000000000 c.args.interest.0 = c.requires in
    let e : to_z w64 (of_z w64 (to_z w64 (of_z w64 l.level.interest.0) +ℤ to_z w64 (of_z w64 c.args.interest.0))) ≡ l.level.interest.0 +ℤ c.args.interest.0 = exact (search (exacts, interest, l.within.interest) depth 30) tt in
    c.handed_over.ensures ∙ ap (handed_over c.args.entering) (same_interest l.level e)
