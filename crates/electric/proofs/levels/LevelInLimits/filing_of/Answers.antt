-- `LevelInLimits::filing_of` files what the level owes. Assumes nothing.
use mathlib.Core.Path.{◌≡◌, ◌∙◌}
use lib.IntN.{ℤ}
use mir.Syntax.{w64}
use mir.Val.{SFits}
use mir.Facts.{to_z-of_z}
use borrow.Author.Rules.{rules}
use Rattle.ints.specs.Exact.{exacts, exact}
use Rattle.ints.specs.Range.{Within}
use Rattle.refusals.specs.Rows.{stored_or_12}
use Rattle.riders.specs.Runs.{filed_run, run_in_limits}
use Rattle.electric_rules.specs.Levels.{owed_by}
use Rattle.electric.proofs.levels.LevelInLimits.filing_of.Goals as goal

same_filed : {a b x y : ℤ} → a ≡ b → x ≡ y → stored_or_12 (run_in_limits (filed_run a x)) (filed_run a x) ≡ stored_or_12 (run_in_limits (filed_run b y)) (filed_run b y)
same_filed e f = λ i. stored_or_12 (run_in_limits (filed_run (e i) (f i))) (filed_run (e i) (f i))

pub returns : goal.returns
unfolding owed_by
returns c =
    let l = c.args.self in
    let share : Within 9000000000000 c.args.share.0 = c.requires in
    let f : SFits w64 c.args.estimate.0 = search rules in
    c.filed.ensures ∙ same_filed (exact (search (exacts, share, l.within.carried, l.within.interest) depth 30) tt) (to_z-of_z f)
