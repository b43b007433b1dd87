-- `put_right` stores as much of the text as the field has room for, up to where that ends. Assumes nothing.
use Rattle.std.proofs.Common.{◌∙◌, arith, ◌-◌}
use Rattle.std.proofs.lemmas.List.Edits.{sets}
use Rattle.sheet_rows.specs.Cells.{cell_text}
use Rattle.sheet_rows.proofs.CellTexts.{front_taken}
use Rattle.sheet_rows.proofs.put_right.Goals as goal

pub returns : goal.returns
returns c =
    let p = c.put.ensures in
    let front = front_taken (cell_text c.args.cell) _ p.0 p.2 (omega (arith, p.1)) c.min-length.ensures in
    c.put-2.ensures ∙ (λ i. sets c.args.row.now (c.args.end - front.0 i) (front.1 i))
