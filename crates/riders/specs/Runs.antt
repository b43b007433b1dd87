-- A run (01, Electric book and Steam book): a factor, the cents that are due under it, and what it may store. Laws: what the
-- limits tell. Assumes nothing.
use Rattle.std.specs.Prelude.{◌≡◌, Bool, ◌&&◌, ℤ, pos, ◌-ℤ◌, ◌*ℤ◌}
use Rattle.std.proofs.Math.Bool.{true}
use Rattle.ints.specs.Flags.{both}
use Rattle.ints.specs.Range.{Within}
use Rattle.rounding.specs.Round.{round}
use Rattle.amounts.specs.Amounts.{cents, points, cents_in_limits, points_in_limits, cents_within, points_within}
use Rattle.riders.specs.declared.Run.{Run}

-- a factor and cents due
abbrev pub run : ℤ → ℤ → Run
run factor due = record { factor = points factor; due = cents due }

abbrev pub no_run : Run
no_run = run (pos 0) (pos 0)

-- d falls by a part of a line
abbrev pub due_less : ℤ → Run → Run
due_less part r = record { factor = r.factor; due = cents (r.due.0 -ℤ part) }

-- the factor that is to bring in the cents owed over these sales: round(100 × cents / sales)
unfoldable pub factor_for : ℤ → ℤ → ℤ
factor_for owed sales = round (pos 100 *ℤ owed) sales

-- what is filed for cents owed: that factor, and those cents
abbrev pub filed_run : ℤ → ℤ → Run
filed_run owed sales = run (factor_for owed sales) owed

unfoldable pub run_in_limits : Run → Bool
run_in_limits r = points_in_limits r.factor && cents_in_limits r.due

-- ---- what the limits tell

pub record RunWithin (r : Run) : Type 0 where
  pub factor : Within 99999 r.factor.0
  pub due : Within 1000000000000 r.due.0

pub run_within : (r : Run) → run_in_limits r ≡ true → RunWithin r
unfolding run_in_limits
run_within r e =
    let p = both (points_in_limits r.factor) _ e in
    record { factor = points_within r.factor p.0; due = cents_within r.due p.1 }
