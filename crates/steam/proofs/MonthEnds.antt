-- What a month's end makes of the runs, over what the code stores. Assumes nothing.
use mathlib.Core.Path.{◌≡◌, sym, subst}
use Prim.Native.Nat.{ℕ, ◌<◌}
use Rattle.std.specs.Prelude.{Option, Some, None, IfSome}
use native.Mathlib.Omega.{arith}
use lib.IntN.{ℤ, pos, ◌+ℤ◌}
use lib.ListN.{set}
use Rattle.ints.specs.Order.{signed}
use Rattle.ints.specs.Range.{Within}
use Rattle.ints.specs.Bound.{b_between, b_add, within_by}
use Rattle.amounts.specs.Amounts.{cents}
use Rattle.riders.specs.declared.Run.{Run}
use Rattle.riders.specs.Runs.{no_run, RunWithin}
use Rattle.steam_rules.specs.declared.SteamBook.{SteamBook}
use Rattle.steam_rules.specs.Next.{entered}
use Rattle.steam_rules.specs.Fours.{at}
use Rattle.steam_rules.specs.Ranges.{BookWithin}
use Rattle.steam.proofs.BillLines.{due_at}

-- ---- the run that enters

-- a book with a run entered, over what the code stores
abbrev pub entered_as : SteamBook → ℕ → ℤ → Run → SteamBook
entered_as b place carried none =
    record {
      month = b.month;
      settled = b.settled;
      period = b.period;
      quarters = b.quarters;
      carried = cents carried;
      pending = none;
      factors = set b.factors place b.pending.factor;
      dues = set b.dues place b.pending.due;
      reconciliation = b.reconciliation;
    }

pub run_enters : (place : ℕ) (b : SteamBook) {carried : ℤ} {none : Run} → carried ≡ b.carried.0 +ℤ due_at b place → none ≡ no_run → entered_as b place carried none ≡ entered (Some place) b
unfolding entered
run_enters place b e n = λ i. entered_as b place (e i) (n i)

-- a run with a place below 4, if there is one
abbrev pub Placed : Option ℕ → Type 0
Placed run = IfSome run (λ (place : ℕ). place < 4)

pub placed_as : {run other : Option ℕ} → run ≡ other → Placed other → Placed run
placed_as e placed = subst Placed (sym e) placed

-- how large the account can be before the reconciliation's month
pub entered_within : (run : Option ℕ) (b : SteamBook) → Placed run → BookWithin b → Within 2000000000000 (entered run b).carried.0 × RunWithin (entered run b).reconciliation.run
unfolding entered
entered_within None b m w = (let carried = w.carried in omega signed, w.runs.reconciliation)
entered_within (Some i) b m w = (
  within_by (b_add (b_between w.carried) (b_between (at (cents (pos 0)) w.runs.dues i (omega arith)))) tt,
  w.runs.reconciliation,
)
