-- `Cell::put` stores the cell's text. Assumes nothing.
use Rattle.std.proofs.Common.{refl, sym, ap, arith, []}
use Rattle.amounts.proofs.Texts.{stored}
use Rattle.sheet_rows.specs.Cells.{cell_text}
use Rattle.sheet_rows.proofs.CellTexts.{stored_as, percent_behind}
use Rattle.sheet_rows.proofs.cells.Cell.put.Goals as goal

pub returns-in-Blank : goal.returns-in-Blank
unfolding cell_text
returns-in-Blank c = stored_as c.args.text.now {most = 0} (ap cell_text (sym c.in-Blank.is)) (refl, omega arith, stored [] _ _ (omega arith) refl) (omega arith)

pub returns-in-Money : goal.returns-in-Money
unfolding cell_text
returns-in-Money c = stored_as c.args.text.now (ap cell_text (sym c.in-Money.is)) c.put.ensures (omega arith)

pub returns-in-Factor : goal.returns-in-Factor
unfolding cell_text
returns-in-Factor c = stored_as c.args.text.now (ap cell_text (sym c.in-Factor.is)) c.put-in-Factor.ensures (omega arith)

pub returns-in-Energy : goal.returns-in-Energy
unfolding cell_text
returns-in-Energy c = stored_as c.args.text.now (ap cell_text (sym c.in-Energy.is)) c.put_energy.ensures (omega arith)

pub returns-in-Proportion : goal.returns-in-Proportion
unfolding cell_text
returns-in-Proportion c =
    stored_as c.args.text.now (ap cell_text (sym c.in-Proportion.is)) (percent_behind _ _ c.put-length.ensures (omega (arith, c.told-text)) c.put_percent.ensures) (omega arith)

pub returns-in-Percentage : goal.returns-in-Percentage
unfolding cell_text
returns-in-Percentage c =
    stored_as c.args.text.now (ap cell_text (sym c.in-Percentage.is)) (percent_behind _ _ c.put_percentage-length.ensures (omega (arith, c.told-text)) c.put_percent-in-Percentage.ensures) (omega arith)
