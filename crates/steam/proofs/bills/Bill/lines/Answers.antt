-- `Bill::lines` gives the lines of the factors up to each run: each is the line at their sum. Assumes nothing.
use Rattle.std.specs.Prelude.{ℤ, pos, ◌*ℤ◌}
use Rattle.std.proofs.Common.{◌∙◌}
use Rattle.rounding.specs.Round.{round}
use Rattle.amounts.specs.Amounts.{cents}
use Rattle.amounts.specs.declared.Cents.{Cents}
use Rattle.riders.specs.Lines.{line_of}
use Rattle.steam.proofs.BillLines.{TotalsWithin, totals_within}
use Rattle.steam.proofs.bills.Bill.lines.Goals as goal
use Rattle.steam.proofs.bills.Bill.lines.Goals.{After-totals_of-totals}

within : (c : After-totals_of-totals) → TotalsWithin c.totals_of-totals.result
within c = let w = c.args.self.book_within.runs in totals_within _ _ w.factors w.reconciliation.factor c.totals_of-totals.ensures

pub line_at-requires : goal.line_at-requires
line_at-requires c = (within (goal.at.line_at-requires c).After-totals_of-totals).first

pub line_at-requires-2 : goal.line_at-requires-2
line_at-requires-2 c = (within (goal.at.line_at-requires-2 c).After-totals_of-totals).second

pub line_at-requires-3 : goal.line_at-requires-3
line_at-requires-3 c = (within (goal.at.line_at-requires-3 c).After-totals_of-totals).third

pub line_at-requires-4 : goal.line_at-requires-4
line_at-requires-4 c = (within (goal.at.line_at-requires-4 c).After-totals_of-totals).fourth

pub line_at-requires-5 : goal.line_at-requires-5
line_at-requires-5 c = (within (goal.at.line_at-requires-5 c).After-totals_of-totals).all

pub returns : goal.returns
unfolding line_of
returns c =
    let u = c.args.self.posting.first in
    let e = c.totals_of-totals.ensures in
    let line : ℤ → Cents = λ z. cents (round (u *ℤ z) (pos 100)) in
    (λ i. record { first = c.line_at.ensures i; second = c.line_at-2.ensures i; third = c.line_at-3.ensures i; fourth = c.line_at-4.ensures i; all = c.line_at-5.ensures i })
    ∙ (λ i. record { first = line (e i).first.0; second = line (e i).second.0; third = line (e i).third.0; fourth = line (e i).fourth.0; all = line (e i).all.0 })
