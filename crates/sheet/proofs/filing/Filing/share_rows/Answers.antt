-- `Filing::share_rows` is rows 5 and 6. Assumes nothing.
use Rattle.std.proofs.Common.{◌≡◌, ◌∙◌, [], ◌∷◌, to_z, of_z, w64}
use Rattle.ints.specs.Exact.{exacts, exact}
use Rattle.sheet_rows.specs.declared.cells.Cell.TheVariants.{Blank, Money}
use Rattle.sheet_rows.specs.Cells.{as_percentage}
use Rattle.sheet_rows.specs.Rows.{row}
use Rattle.sheet.specs.Sheet.{sheet_by}
use Rattle.sheet.proofs.filing.Filing.share_rows.Goals as goal

pub returns : goal.returns
unfolding sheet_by
returns c =
    let r = c.args.self.rates in
    let e = c.requires in
    let percentage : to_z w64 (of_z w64 r.percentage) ≡ r.percentage = exact (search (exacts, c.args.self.rates_within.percentage) depth 30) tt in
    λ i. (c.of_total.ensures ∙ (λ j. row "5" "Customer Responsibility" (as_percentage (percentage j)) Blank Blank)) i
    ∷ (c.new.ensures ∙ (λ j. row "6" "Second Interim Total by voltage level" (Money (e j).share) (Money (e j).secondary) (Money (e j).primary))) i ∷ []
