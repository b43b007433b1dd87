-- The electric book (01, Electric book): amounts put together, the fresh book and the opening.
use Rattle.std.specs.Prelude.{◌≡◌, false, List, [], ◌∷◌, ℕ, ltb, ℤ, pos, Result, Ok, Err}
use Rattle.std.specs.Result.{result_unwrap_or}
use Rattle.refusals.specs.Rows.{Row, row, by_table}
use Rattle.refusals.specs.declared.Refusal.{Refusal}
use Rattle.refusals.specs.declared.Refusal.TheVariants.{OutOfRange}
use Rattle.amounts.specs.Amounts.{cents}
use Rattle.riders.specs.declared.Run.{Run}
use Rattle.riders.specs.Runs.{no_run}
use Rattle.electric_rules.specs.declared.Kwh.{Kwh}
use Rattle.electric_rules.specs.declared.Remainder.{Remainder}
use Rattle.electric_rules.specs.declared.Level.{Level}
use Rattle.electric_rules.specs.declared.Sales.{Sales}
use Rattle.electric_rules.specs.declared.Period.{Period}
use Rattle.electric_rules.specs.declared.ElectricBook.{ElectricBook}

abbrev pub kwh : ℤ → Kwh
kwh z = record { 0 = z }

abbrev pub remainder : ℤ → Remainder
remainder z = record { 0 = z }

abbrev pub sales_of : ℤ → ℤ → Sales
sales_of secondary primary = record { secondary = kwh secondary; primary = kwh primary }

abbrev pub period_of : ℤ → Sales → ℤ → Period
period_of cost sales rem = record { cost = cents cost; sales = sales; remainder = remainder rem }

-- C and I, then pending and the two runs
abbrev pub level_of : ℤ → ℤ → Run → Run → Run → Level
level_of carried interest pending first second =
    record { carried = cents carried; interest = cents interest; pending = pending; first = first; second = second }

-- ---- fresh: month June, all else zero

abbrev pub no_period : Period
no_period = period_of (pos 0) (sales_of (pos 0) (pos 0)) (pos 0)

abbrev pub fresh_level : Level
fresh_level = level_of (pos 0) (pos 0) no_run no_run no_run

abbrev pub fresh_of : ℕ → ElectricBook
fresh_of division =
    record { division = division; month = 6; settled = false; period = no_period; secondary = fresh_level; primary = fresh_level }

-- ---- opening

-- 7: the division is out of range
abbrev pub opening_rows : ℕ → List Row
opening_rows division = row OutOfRange (ltb 1 division) ∷ []

unfoldable pub opened_of : ℕ → Result ElectricBook Refusal
opened_of division = by_table (opening_rows division) (Ok (fresh_of division)) Err

-- the book that an opening hands back: L&P's where it is refused
abbrev pub handed_back : ℕ → ElectricBook
handed_back division = result_unwrap_or (opened_of division) (fresh_of 0)

-- a remainder is the same where its number is
pub same_remainder : {a b : ℤ} → a ≡ b → remainder a ≡ remainder b
same_remainder e = λ i. remainder (e i)
