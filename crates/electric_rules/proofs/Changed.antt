-- The limits of a level and of a book of which some parts are changed: where all lay within their limits before, the changed parts decide
-- (01, Refusals, 6 and 12). Assumes nothing.
use Rattle.std.specs.Prelude.{Bool, false, cond, ◌≡◌, refl, true, ◌&&◌, leb, ℤ, pos, Option, Some, None}
use Rattle.std.proofs.Common.{arith}
use Rattle.std.proofs.Math.Bool.{and-true}
use Rattle.ints.specs.Flags.{both}
use Rattle.ints.specs.Order.{signed}
use Rattle.ints.specs.Range.{in_range}
use Rattle.rounding.proofs.RoundLaws.{round_leaves}
use Rattle.amounts.specs.Amounts.{cents, cents_in_limits, points_in_limits}
use Rattle.amounts.specs.declared.Cents.{Cents}
use Rattle.postings.specs.declared.Posting.{Posting}
use Rattle.riders.specs.declared.Run.{Run}
use Rattle.riders.specs.Months.{month_after, month_in_limits, next_month, settled_month}
use Rattle.riders.specs.Runs.{no_run, run_in_limits}
use Rattle.electric_rules.specs.declared.Sales.{Sales}
use Rattle.electric_rules.specs.declared.Rates.{Rates}
use Rattle.electric_rules.specs.declared.Level.{Level}
use Rattle.electric_rules.specs.declared.Period.{Period}
use Rattle.electric_rules.specs.declared.EnteringRun.{EnteringRun}
use Rattle.electric_rules.specs.declared.EnteringRun.TheVariants.{First, Second}
use Rattle.electric_rules.specs.declared.ElectricBook.{ElectricBook}
use Rattle.electric_rules.specs.Book.{remainder, sales_of}
use Rattle.electric_rules.specs.Calendar.{settles}
use Rattle.electric_rules.specs.Settlement.{shareable_of, share_of, remainder_after}
use Rattle.electric_rules.specs.Levels.{filed_level, accrued_level, into_first, into_second, handed_over}
use Rattle.electric_rules.specs.Limits.{kwh_in_limits, remainder_in_limits, level_in_limits, period_in_limits, dates_in_limits, in_limits}
use Rattle.electric_rules.specs.Ranges.{period_yes}
use Rattle.electric_rules.specs.Next.{is_secondary, level_at, with_period, with_levels, with_level_at, settled_with, month_ended}

-- ---- a level

no_run_in_limits : run_in_limits no_run ≡ true
unfolding run_in_limits points_in_limits cents_in_limits in_range
no_run_in_limits = refl

-- what is carried and accrued decides where the runs are within their limits
runs_kept : (l : Level) → run_in_limits l.pending ≡ true → run_in_limits l.first ≡ true → run_in_limits l.second ≡ true → level_in_limits l ≡ cents_in_limits l.carried && cents_in_limits l.interest
runs_kept l pending first second = simp (pending, first, second, and-true)

module _ (l : Level) (within : level_in_limits l ≡ true) where
  amounts : (cents_in_limits l.carried ≡ true) × (cents_in_limits l.interest ≡ true)
  amounts =
      let carried = both (cents_in_limits l.carried) _ within in
      (carried.0, (both (cents_in_limits l.interest) _ carried.1).0)

  runs : (run_in_limits l.pending ≡ true) × (run_in_limits l.first ≡ true) × (run_in_limits l.second ≡ true)
  runs =
      let pending = both (run_in_limits l.pending) _ (both (cents_in_limits l.interest) _ (both (cents_in_limits l.carried) _ within).1).1 in
      let first = both (run_in_limits l.first) _ pending.1 in
      (pending.0, first.0, first.1)

  -- an adjustment: what is carried
  pub carried_decides : (carried : Cents) → level_in_limits (record { carried = carried; interest = l.interest; pending = l.pending; first = l.first; second = l.second }) ≡ cents_in_limits carried
  carried_decides carried = simp (amounts.1, runs.0, runs.1, runs.2, and-true)

  -- a bill: what is due under either run
  pub dues_decide :
      (first second : Cents) →
      level_in_limits (record { carried = l.carried; interest = l.interest; pending = l.pending; first = record { factor = l.first.factor; due = first }; second = record { factor = l.second.factor; due = second } })
      ≡ cents_in_limits first && cents_in_limits second
  unfolding run_in_limits
  dues_decide first second =
      simp (amounts.0, amounts.1, runs.0, (both (points_in_limits l.first.factor) _ runs.1).0, (both (points_in_limits l.second.factor) _ runs.2).0)

  -- a settlement: the run that is filed, since nothing is carried or accrued
  pub filed_decides : (filed : Run) → level_in_limits (filed_level filed l) ≡ run_in_limits filed
  unfolding cents_in_limits in_range
  filed_decides filed = simp (runs.1, runs.2, and-true)

  -- a month's end: what is carried and accrued, since runs move as they are
  pub ended_decides : (run : Option EnteringRun) (interest : ℤ) → let next = handed_over run (accrued_level interest l) in level_in_limits next ≡ cents_in_limits next.carried && cents_in_limits next.interest
  ended_decides None interest = runs_kept (accrued_level interest l) runs.0 runs.1 runs.2
  ended_decides (Some First) interest = runs_kept (into_first (accrued_level interest l)) no_run_in_limits runs.0 runs.2
  ended_decides (Some Second) interest = runs_kept (into_second (accrued_level interest l)) no_run_in_limits runs.1 runs.0

-- ---- the book

-- what a settlement leaves of its period is within its limits
settled_period : (rates : Rates) (period : Period) → period_in_limits (record { cost = cents (pos 0); sales = sales_of (pos 0) (pos 0); remainder = remainder (remainder_after rates period) }) ≡ true
unfolding remainder_after share_of
settled_period rates period =
    period_yes _ (record { cost = omega signed; secondary = omega signed; primary = omega signed; remainder = round_leaves 50000 (shareable_of rates period) (omega arith) })

module _ (b : ElectricBook) (within : in_limits b ≡ true) where
  dates : (leb b.division 1 ≡ true) × (month_in_limits b.month (settles b.month) b.settled ≡ true)
  dates = both (leb b.division 1) _ (both (dates_in_limits b) _ within).0

  period : (cents_in_limits b.period.cost ≡ true) × (kwh_in_limits b.period.sales.secondary ≡ true) × (kwh_in_limits b.period.sales.primary ≡ true) × (remainder_in_limits b.period.remainder ≡ true)
  period =
      let cost = both (cents_in_limits b.period.cost) _ (both (period_in_limits b.period) _ (both (dates_in_limits b) _ within).1).0 in
      let secondary = both (kwh_in_limits b.period.sales.secondary) _ cost.1 in
      let primary = both (kwh_in_limits b.period.sales.primary) _ secondary.1 in
      (cost.0, secondary.0, primary.0, primary.1)

  pub levels : (level_in_limits b.secondary ≡ true) × (level_in_limits b.primary ≡ true)
  levels = both (level_in_limits b.secondary) _ (both (period_in_limits b.period) _ (both (dates_in_limits b) _ within).1).1

  -- cost
  pub cost_decides : (cost : Cents) → in_limits (with_period b (record { cost = cost; sales = b.period.sales; remainder = b.period.remainder })) ≡ cents_in_limits cost
  cost_decides cost = simp (dates.0, dates.1, period.1, period.2, period.3, levels.0, levels.1, and-true)

  -- sales
  pub sales_decide : (sales : Sales) → in_limits (with_period b (record { cost = b.period.cost; sales = sales; remainder = b.period.remainder })) ≡ kwh_in_limits sales.secondary && kwh_in_limits sales.primary
  sales_decide sales = simp (dates.0, dates.1, period.0, period.3, levels.0, levels.1, and-true)

  -- a bill or an adjustment: the level that it names
  pub named_in_limits : (named : ℤ) → level_in_limits (level_at named b) ≡ true
  named_in_limits named = go (is_secondary named)
    where
      go : (t : Bool) → level_in_limits (cond t b.secondary b.primary) ≡ true
      go true = levels.0
      go false = levels.1

  pub level_decides : (named : ℤ) (l : Level) → in_limits (with_level_at named b l) ≡ level_in_limits l
  level_decides named l = go (is_secondary named)
    where
      go : (t : Bool) → in_limits (cond t (with_levels b l b.primary) (with_levels b b.secondary l)) ≡ level_in_limits l
      go true = simp (dates.0, dates.1, period.0, period.1, period.2, period.3, levels.1, and-true)
      go false = simp (dates.0, dates.1, period.0, period.1, period.2, period.3, levels.0)

  -- a settlement in a month that settles: the runs that are filed
  pub settlement_decides :
      settles b.month ≡ true → (rates : Rates) (secondary primary : Run) →
      in_limits (settled_with b (remainder (remainder_after rates b.period)) (filed_level secondary b.secondary) (filed_level primary b.primary)) ≡ run_in_limits secondary && run_in_limits primary
  settlement_decides allowed rates secondary primary =
      simp (dates.0, settled_month b.month (settles b.month) b.settled dates.1 allowed, settled_period rates b.period, filed_decides b.secondary levels.0 secondary, filed_decides b.primary levels.1 primary)

  -- a month's end: either level
  pub month_end_decides : (p : Posting) → in_limits (month_ended b p) ≡ level_in_limits (month_ended b p).secondary && level_in_limits (month_ended b p).primary
  month_end_decides p =
      simp (dates.0, next_month b.month (settles (month_after b.month)), period.0, period.1, period.2, period.3)
