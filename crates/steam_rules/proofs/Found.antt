-- What the limits tell of the book that a posting finds: a month of the year, four runs, and no cents due to a reconciliation that has no
-- month left. Assumes nothing.
use mathlib.Core.Path.{◌≡◌, sym, ap, ◌∙◌}
use mathlib.Core.Bool.{Bool, true, false, not, ◌&&◌, ◌||◌}
use lib.Dec.{leb, eqb}
use lib.IntN.{pos}
use lib.ListN.{length}
use borrow.Author.Tests.{not-false}
use Rattle.ints.specs.Flags.{both}
use Rattle.ints.specs.Machine.{eq_z, eq_z_true}
use Rattle.postings.specs.declared.kinds.Kind.TheVariants.{Reconcile}
use Rattle.riders.specs.Months.{month_in_limits}
use Rattle.riders.specs.Runs.{run_in_limits}
use Rattle.steam_rules.specs.declared.SteamBook.{SteamBook}
use Rattle.steam_rules.specs.Calendar.{settles}
use Rattle.steam_rules.specs.Limits.{reconciliation_in_limits, in_limits}
use Rattle.steam_rules.specs.Ranges.{Others, tested, BookWithin, book_within}
use Rattle.steam_rules.specs.Refusals.{still_runs}

module _ (b : SteamBook) (limits : not (in_limits b) ≡ false) where
  others : Others b
  others = (tested b (not-false _ limits)).0

  pub dates : month_in_limits b.month (settles b.month) b.settled ≡ true
  dates = others.month

  found : BookWithin b
  found = book_within b (not-false _ limits)

  pub four_factors : length b.factors ≡ 4
  four_factors = found.runs.factors.count

  pub four_dues : length b.dues ≡ 4
  four_dues = found.runs.dues.count

  -- where none runs, a reconciliation may begin
  pub none_due : still_runs Reconcile b ≡ false → b.reconciliation.run.due.0 ≡ pos 0
  unfolding reconciliation_in_limits
  none_due free =
      let r = b.reconciliation in
      let none : eqb r.months 0 ≡ true = not-false _ free in
      let rest = (both (run_in_limits r.run) _ (both (leb r.months 24) _ others.reconciliation).1).1 in
      let nothing = ap (λ (none : Bool). not none || (eq_z r.run.factor.0 (pos 0) && eq_z r.run.due.0 (pos 0))) (sym none) ∙ rest in
      eq_z_true r.run.due.0 (pos 0) (both (eq_z r.run.factor.0 (pos 0)) _ nothing).1
