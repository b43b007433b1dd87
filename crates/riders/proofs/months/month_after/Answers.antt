-- `months::month_after` moves the month on as the rules do. Assumes nothing.
use mathlib.Core.Path.{sym}
use borrow.Author.Tests.{lt-ltb, le-ltb}
use Rattle.riders.specs.Months.{month_after}
use Rattle.riders.proofs.months.month_after.Goals as goal

pub returns-then-month-lt12 : goal.returns-then-month-lt12
unfolding month_after
returns-then-month-lt12 c =
    sym (simp (lt-ltb _ _ c.if-month-lt12.true))

pub returns-else-month-lt12 : goal.returns-else-month-lt12
unfolding month_after
returns-else-month-lt12 c =
    sym (simp (le-ltb _ _ c.if-month-lt12.false))
