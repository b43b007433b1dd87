-- `Page::put_journal` prints by what the input opens. Assumes nothing.
use mathlib.Core.Path.{sym, ap, ◌∙◌}
use native.Mathlib.Omega.{arith}
use Rattle.std.specs.Prelude.{Ok}
use Rattle.journal.proofs.Openings.{opened_there, records_printed, refusal_printed}
use Rattle.journal.specs.Journal.{electric_lines, steam_lines}
use Rattle.journal.proofs.page.Page.put_journal.Goals as goal

pub put_records-requires : goal.put_records-requires
put_records-requires c =
    let there = opened_there c.args.input.now (sym (c.in-Ok-Electric.is ∙ ap Ok c.in-Ok-Electric.field-0-is) ∙ c.opened.ensures) in
    (c.requires, omega arith, there.0, there.1)

pub returns-in-Ok-Electric : goal.returns-in-Ok-Electric
unfolding electric_lines
returns-in-Ok-Electric c =
    records_printed c.args.input.now (sym (c.in-Ok-Electric.is ∙ ap Ok c.in-Ok-Electric.field-0-is) ∙ c.opened.ensures) c.put_records.ensures

pub put_records-requires-in-Ok-Steam : goal.put_records-requires-in-Ok-Steam
put_records-requires-in-Ok-Steam c =
    let there = opened_there c.args.input.now (sym (c.in-Ok-Steam.is ∙ ap Ok c.in-Ok-Steam.field-0-is) ∙ c.opened.ensures) in
    (c.requires, omega arith, there.0, there.1)

pub returns-in-Ok-Steam : goal.returns-in-Ok-Steam
unfolding steam_lines
returns-in-Ok-Steam c =
    records_printed c.args.input.now (sym (c.in-Ok-Steam.is ∙ ap Ok c.in-Ok-Steam.field-0-is) ∙ c.opened.ensures) c.put_records-in-Ok-Steam.ensures

pub returns-in-Err : goal.returns-in-Err
returns-in-Err c = refusal_printed c.args.input.now (sym c.in-Err.is ∙ c.opened.ensures) c.put_refused.ensures
