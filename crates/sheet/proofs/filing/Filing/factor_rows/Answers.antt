-- `Filing::factor_rows` is rows 11 to 13. Assumes nothing.
use Rattle.std.proofs.Common.{◌∙◌, [], ◌∷◌}
use Rattle.ints.specs.Range.{between_same}
use Rattle.sheet_rows.specs.declared.cells.Cell.TheVariants.{Blank, Factor}
use Rattle.sheet_rows.specs.Rows.{row}
use Rattle.sheet.specs.Figures.{annual_factor}
use Rattle.sheet.specs.Sheet.{sheet_by}
use Rattle.sheet.proofs.Sizes.{previous_within}
use Rattle.sheet.proofs.filing.Filing.factor_rows.Goals as goal

pub annual-requires : goal.annual-requires
annual-requires c =
    let s = c.args.self in
    (s.settled_within.secondary.pending.factor, between_same (λ i. (c.previous-secondary_before.ensures i).0) (previous_within s.found.month s.found.secondary s.found_within.secondary))

pub annual-requires-2 : goal.annual-requires-2
annual-requires-2 c =
    let s = c.args.self in
    (s.settled_within.primary.pending.factor, between_same (λ i. (c.previous-primary_before.ensures i).0) (previous_within s.found.month s.found.primary s.found_within.primary))

pub returns : goal.returns
unfolding sheet_by
returns c =
    let s = c.args.self in
    let es = c.previous-secondary_before.ensures in
    let ep = c.previous-primary_before.ensures in
    let fs = c.annual.ensures ∙ (λ j. annual_factor s.settled.secondary.pending.factor (es j)) in
    let fp = c.annual-2.ensures ∙ (λ j. annual_factor s.settled.primary.pending.factor (ep j)) in
    λ i. c.of_levels.ensures i
    ∷ (c.of_levels-2.ensures ∙ (λ j. row "12" "Previous period cost adjustment factor" Blank (Factor (es j)) (Factor (ep j)))) i
    ∷ (c.of_levels-3.ensures ∙ (λ j. row "13" "Current annual cost adjustment factor" Blank (Factor (fs j)) (Factor (fp j)))) i ∷ []
