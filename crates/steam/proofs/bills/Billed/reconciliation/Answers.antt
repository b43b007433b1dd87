-- `Billed::reconciliation` lets what is due under the reconciliation fall by the rest of the line. Assumes nothing.
use Rattle.std.specs.Prelude.{◌-ℤ◌}
use Rattle.std.proofs.Common.{◌∙◌}
use Rattle.amounts.specs.Amounts.{cents, same_cents}
use Rattle.steam_rules.specs.Book.{reconciliation_of}
use Rattle.steam.proofs.BillLines.{lines_small, rest_falls}
use Rattle.steam.proofs.bills.Billed.reconciliation.Goals as goal

pub due_less-due-requires : goal.due_less-due-requires
due_less-due-requires c =
    let s = c.args.self in
    let lines = lines_small s in
    (s.bill.book_within.runs.reconciliation.due, lines.all, lines.fourth)

pub returns : goal.returns
returns c =
    let s = c.args.self in
    let e = s.lines_are in
    let r = s.bill.book.reconciliation in
    let due = c.due_less-due.ensures ∙ (λ i. cents (r.run.due.0 -ℤ ((e i).all.0 -ℤ (e i).fourth.0))) ∙ same_cents (rest_falls s.bill.posting.first s.bill.book s.bill.book_within.runs.factors.count r.run.due.0) in
    λ i. reconciliation_of (record { factor = r.run.factor; due = due i }) r.months
