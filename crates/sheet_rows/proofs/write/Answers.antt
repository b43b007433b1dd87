-- `write` stores the rows where the page has room for them. Assumes nothing.
use Rattle.std.proofs.Common.{arith, map}
use Rattle.std.proofs.lemmas.List.{length-map}
use Rattle.amounts.proofs.Texts.{text_refused, text_accepted}
use Rattle.sheet_rows.specs.Rows.{shown, rows_text}
use Rattle.sheet_rows.proofs.Laying.{length_rows}
use Rattle.sheet_rows.proofs.write.Goals as goal

pub returns-then-page-rows : goal.returns-then-page-rows
returns-then-page-rows c =
    let rows = map shown c.args.rows.now in
    text_refused (rows_text rows) _ (omega (arith, c.if-page-rows.true, length_rows rows, length-map c.args.rows.now shown))

pub returns : goal.returns
returns c =
    let rows = map shown c.args.rows.now in
    let long = length_rows rows in
    let many = length-map c.args.rows.now shown in
    text_accepted (rows_text rows) _ (omega (arith, long, many)) (omega (arith, c.if-page-rows.false)) c.put_rows.ensures
