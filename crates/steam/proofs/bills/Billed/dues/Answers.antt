-- `Billed::dues` lets what is due under each run fall by its part, which lies between two lines. Assumes nothing.
use Rattle.std.specs.Prelude.{[], ◌∷◌, pos, ◌-ℤ◌}
use Rattle.std.proofs.Common.{◌∙◌}
use Rattle.ints.specs.Order.{signed}
use Rattle.ints.specs.Range.{Within}
use Rattle.amounts.specs.Amounts.{cents}
use Rattle.steam.proofs.BillLines.{due_at, lines_small, dues_small, dues_fall}
use Rattle.steam.proofs.bills.Billed.dues.Goals as goal

pub due_less-due_1-requires : goal.due_less-due_1-requires
due_less-due_1-requires c =
    let lines = lines_small c.args.self in
    let dues = dues_small c.args.self in
    let none : Within 60000000000 (pos 0) = omega signed in
    search (dues, lines, none)

pub due_less-due_2-requires : goal.due_less-due_2-requires
due_less-due_2-requires c =
    let lines = lines_small c.args.self in
    let dues = dues_small c.args.self in
    search (dues, lines)

pub due_less-due_3-requires : goal.due_less-due_3-requires
due_less-due_3-requires c =
    let lines = lines_small c.args.self in
    let dues = dues_small c.args.self in
    search (dues, lines)

pub due_less-due_4-requires : goal.due_less-due_4-requires
due_less-due_4-requires c =
    let lines = lines_small c.args.self in
    let dues = dues_small c.args.self in
    search (dues, lines)

pub returns : goal.returns
returns c =
    let s = c.args.self in
    let e = s.lines_are in
    let due = due_at s.bill.book in
    let w = s.bill.book_within.runs in
    (λ i.
    c.due_less-due_1.ensures i ∷ c.due_less-due_2.ensures i ∷ c.due_less-due_3.ensures i ∷ c.due_less-due_4.ensures i ∷ [])
    ∙ (λ i.
    cents (due 0 -ℤ ((e i).first.0 -ℤ pos 0)) ∷ cents (due 1 -ℤ ((e i).second.0 -ℤ (e i).first.0)) ∷ cents (due 2 -ℤ ((e i).third.0 -ℤ (e i).second.0))
    ∷ cents (due 3 -ℤ ((e i).fourth.0 -ℤ (e i).third.0))
    ∷ [])
    ∙ dues_fall s.bill.posting.first s.bill.book w.factors.count w.dues.count
