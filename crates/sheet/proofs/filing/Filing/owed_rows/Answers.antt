-- `Filing::owed_rows` is rows 7 to 10. Assumes nothing.
use Rattle.std.proofs.Common.{[], ◌∷◌}
use Rattle.sheet.specs.Sheet.{sheet_by}
use Rattle.sheet.proofs.filing.Filing.owed_rows.Goals as goal

pub returns : goal.returns
unfolding sheet_by
returns c = λ i. c.of_levels.ensures i ∷ c.of_levels-2.ensures i ∷ c.of_levels-3.ensures i ∷ c.of_levels-4.ensures i ∷ []
