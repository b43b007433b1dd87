-- `Row::text` is the row's text. Assumes nothing.
use Rattle.sheet_rows.specs.Rows.{shown}
use Rattle.sheet_rows.proofs.Laying.{row_laid}
use Rattle.sheet_rows.proofs.Row.text.Goals as goal

pub returns : goal.returns
returns c = row_laid (shown c.args.self) c.put_left.ensures c.put_left-2.ensures c.put_right.ensures c.put_right-2.ensures c.put_right-3.ensures
