-- `month_ends::ended` is the rules' book after a month's end: the run that enters, then the reconciliation's month, then the month moves on.
-- Assumes nothing.
use Rattle.std.proofs.Common.{sym, subst}
use Rattle.ints.specs.Range.{Within}
use Rattle.riders.specs.Runs.{RunWithin}
use Rattle.steam_rules.specs.declared.SteamBook.{SteamBook}
use Rattle.steam_rules.specs.Calendar.{entering_one}
use Rattle.steam.proofs.MonthEnds.{placed_as, entered_within}
use Rattle.steam.proofs.month_ends.ended.Goals as goal

pub entered-entered-requires : goal.entered-entered-requires
entered-entered-requires c = (c.requires, placed_as c.entering-run.ensures (entering_one c.args.book.month))

pub reconciled-requires : goal.reconciled-requires
reconciled-requires c =
    let placed = placed_as c.entering-run.ensures (entering_one c.args.book.month) in
    subst (λ (b : SteamBook). Within 2000000000000 b.carried.0 × RunWithin b.reconciliation.run) (sym c.entered-entered.ensures) (entered_within _ _ placed c.requires)
