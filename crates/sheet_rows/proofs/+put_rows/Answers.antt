-- `put_rows` stores the first row and its line feed, and the rows below behind them. Assumes nothing.
use Rattle.std.proofs.Common.{◌≡◌, refl, ◌∙◌, arith, ap, sym, map, List, [], ◌∷◌, length}
use Rattle.std.proofs.lemmas.List.Edits.{sets}
use Rattle.sheet_rows.specs.declared.Row.{Row}
use Rattle.sheet_rows.specs.Rows.{shown, rows_text}
use Rattle.sheet_rows.proofs.Laying.{rows_stored}
use Rattle.sheet_rows.proofs.+put_rows.Goals as goal

pub returns-in-Some : goal.returns-in-Some
returns-in-Some t c =
    let page = c.args.page.now in
    let at = c.args.at in
    rows_stored (shown c.in-Some.row.now) (map shown c.in-Some.below.now) page at (c.put.ensures ∙ ap (sets page at) c.text.ensures) c.put_rows.ensures
    ∙ ap (λ (rows : List Row). sets page at (rows_text (map shown rows))) (sym c.in-Some.ensures.cases.0)

pub returns-in_default : goal.returns-in_default
unfolding rows_text
returns-in_default t c = none c.args.rows.now c.in_default.ensures.cases
  where
    none : (rows : List Row) → length rows ≡ 0 → c.args.page.now ≡ sets c.args.page.now c.args.at (rows_text (map shown rows))
    none [] e = refl
    none (row ∷ rows) e = absurd (omega arith)
