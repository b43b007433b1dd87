-- What a steam book may store (01, Posting records, the last line; Refusals, 6): one definition for the book that a posting finds and for
-- the one that it would leave.
use Rattle.std.specs.Prelude.{Bool, not, ◌&&◌, ◌||◌, List, leb, eqb, pos, neg_ℤ, length}
use Rattle.std.specs.List.{list_all}
use Rattle.ints.specs.Machine.{eq_z}
use Rattle.ints.specs.Range.{in_range}
use Rattle.amounts.specs.Amounts.{cents_in_limits, points_in_limits}
use Rattle.amounts.specs.declared.Cents.{Cents}
use Rattle.amounts.specs.declared.Points.{Points}
use Rattle.riders.specs.Months.{month_in_limits}
use Rattle.riders.specs.Runs.{run_in_limits}
use Rattle.steam_rules.specs.declared.Mmbtu.{Mmbtu}
use Rattle.steam_rules.specs.declared.Remainder.{Remainder}
use Rattle.steam_rules.specs.declared.Period.{Period}
use Rattle.steam_rules.specs.declared.Reconciliation.{Reconciliation}
use Rattle.steam_rules.specs.declared.SteamBook.{SteamBook}
use Rattle.steam_rules.specs.Calendar.{settles}

-- B and quarters up to 10^8
unfoldable pub mmbtu_in_limits : Mmbtu → Bool
mmbtu_in_limits sales = in_range (pos 0) (pos 100000000) sales.0

-- |rem| up to 5,000
unfoldable pub remainder_in_limits : Remainder → Bool
remainder_in_limits rem = in_range (neg_ℤ (pos 5000)) (pos 5000) rem.0

unfoldable pub period_in_limits : Period → Bool
period_in_limits p = cents_in_limits p.cost && (mmbtu_in_limits p.sales && remainder_in_limits p.remainder)

-- ---- arrays of four

-- four elements, which an array of four always has, each of them within its limits
abbrev pub all_four : {A : Type 0} → (A → Bool) → List A → Bool
all_four test xs = eqb (length xs) 4 && list_all test xs

unfoldable pub quarters_in_limits : List Mmbtu → Bool
quarters_in_limits quarters = all_four mmbtu_in_limits quarters

unfoldable pub factors_in_limits : List Points → Bool
factors_in_limits factors = all_four points_in_limits factors

unfoldable pub dues_in_limits : List Cents → Bool
dues_in_limits dues = all_four cents_in_limits dues

-- ---- the reconciliation: months left up to 24, neither factor nor cents where none is left

unfoldable pub reconciliation_in_limits : Reconciliation → Bool
reconciliation_in_limits r =
    leb r.months 24 && (run_in_limits r.run && (not (eqb r.months 0) || (eq_z r.run.factor.0 (pos 0) && eq_z r.run.due.0 (pos 0))))

-- ---- the book

-- the four runs, pending and the reconciliation
unfoldable pub runs_in_limits : SteamBook → Bool
runs_in_limits b =
    run_in_limits b.pending && (factors_in_limits b.factors && (dues_in_limits b.dues && reconciliation_in_limits b.reconciliation))

unfoldable pub in_limits : SteamBook → Bool
in_limits b =
    month_in_limits b.month (settles b.month) b.settled
    && (period_in_limits b.period && (quarters_in_limits b.quarters && (cents_in_limits b.carried && runs_in_limits b)))
