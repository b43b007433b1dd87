-- The factor sheet of a settlement (02, a; source document 002, sheet 127), and what writing it gives.
use Rattle.std.specs.Prelude.{List, [], ◌∷◌, ◌++◌, ℕ, ltb, length, pos, ◌+ℤ◌, ◌-ℤ◌, Result}
use Rattle.refusals.specs.Writer.{written_by, buffer_left}
use Rattle.refusals.specs.declared.Refusal.{Refusal}
use Rattle.refusals.specs.declared.Refusal.TheVariants.{BufferTooShort}
use Rattle.amounts.specs.Amounts.{cents}
use Rattle.postings.specs.declared.Posting.{Posting}
use Rattle.electric_rules.specs.declared.Rates.{Rates}
use Rattle.electric_rules.specs.declared.Sales.{Sales}
use Rattle.electric_rules.specs.declared.ElectricBook.{ElectricBook}
use Rattle.electric_rules.specs.Book.{kwh}
use Rattle.electric_rules.specs.Rates.{rates_of}
use Rattle.electric_rules.specs.Settlement.{share_of, weight_by, secondary_share, primary_share}
use Rattle.electric_rules.specs.Next.{next_of}
use Rattle.electric_rules.specs.Refusals.{rows_of}
use Rattle.sheet_rows.specs.declared.cells.Cell.TheVariants.{Blank, Money, Factor, Energy}
use Rattle.sheet_rows.specs.Cells.{in_thousandths, as_percentage}
use Rattle.sheet_rows.specs.Rows.{Row, row, rows_text}
use Rattle.sheet.specs.Figures.{base_cost, first_interim, adjusted, previous_factor, annual_factor}
use Rattle.refusals.specs.Rows as refusal

-- the sheet, row by row: number, label, total, secondary, primary. By the rates, the book that the settlement finds, the settled book and the
-- estimates. Labels are source document 002's, and cut where they are printed
unfoldable pub sheet_by : Rates → ElectricBook → ElectricBook → Sales → List Row
sheet_by r found settled estimates =
    let p = found.period in
    let adjusted_secondary = adjusted p.sales.secondary.0 r.secondary in
    let adjusted_primary = adjusted p.sales.primary.0 r.primary in
    let filed_secondary = settled.secondary.pending in
    let filed_primary = settled.primary.pending in
    let previous_secondary = previous_factor found.month found.secondary in
    let previous_primary = previous_factor found.month found.primary in
    let annual_secondary = annual_factor filed_secondary.factor previous_secondary in
    let annual_primary = annual_factor filed_primary.factor previous_primary in
    row "1" "Total energy cost (F, P, and E)" (Money p.cost) Blank Blank
    ∷ row "2" "Base energy cost (B)" (Money (cents (base_cost r p))) Blank Blank
    ∷ row "3" "First Interim Total" (Money (cents (first_interim r p))) Blank Blank
    ∷ row "4" "Base energy (S_A) by voltage level" Blank (Energy p.sales.secondary) (Energy p.sales.primary)
    ∷ row "4.1" "Loss factors (L)" Blank (in_thousandths r.secondary) (in_thousandths r.primary)
    ∷ row "4.2" "S_A adjusted for losses" (Energy (kwh (adjusted_secondary +ℤ adjusted_primary))) (Energy (kwh adjusted_secondary)) (Energy (kwh adjusted_primary))
    ∷ row "4.3" "Loss factor weights" Blank (in_thousandths (weight_by r p)) (in_thousandths (pos 100000 -ℤ weight_by r p))
    ∷ row "5" "Customer Responsibility" (as_percentage r.percentage) Blank Blank
    ∷ row "6" "Second Interim Total by voltage level" (Money (cents (share_of r p))) (Money (cents (secondary_share r p))) (Money (cents (primary_share r p)))
    ∷ row "7" "Adjustment for Under / Over recovery for prior periods (C)" Blank (Money found.secondary.carried) (Money found.primary.carried)
    ∷ row "8" "Interest (I)" Blank (Money found.secondary.interest) (Money found.primary.interest)
    ∷ row "9" "Fuel Adjustment Clause" Blank (Money filed_secondary.due) (Money filed_primary.due)
    ∷ row "10" "Estimated recovery period sales kWh (S_R)" Blank (Energy estimates.secondary) (Energy estimates.primary)
    ∷ row "11" "Current period cost adjustment factor" Blank (Factor filed_secondary.factor) (Factor filed_primary.factor)
    ∷ row "12" "Previous period cost adjustment factor" Blank (Factor previous_secondary) (Factor previous_primary)
    ∷ row "13" "Current annual cost adjustment factor" Blank (Factor annual_secondary) (Factor annual_primary)
    ∷ []

-- the settle posting with these two estimates
abbrev pub settlement_of : Sales → Posting
settlement_of estimates = record { kind = 4; first = estimates.secondary.0; second = estimates.primary.0; third = pos 0 }

-- the sheet of that settlement, and its text
abbrev pub sheet_of : ElectricBook → Sales → List Row
sheet_of b estimates = sheet_by (rates_of b.division) b (next_of b (settlement_of estimates)) estimates

unfoldable pub sheet_text : ElectricBook → Sales → List ℕ
sheet_text b estimates = rows_text (sheet_of b estimates)

-- the settlement's own refusal, then 13: a page under 1,296 bytes
abbrev pub refusal_rows : ElectricBook → Sales → List ℕ → List refusal.Row
refusal_rows b estimates page = rows_of b (settlement_of estimates) ++ (refusal.row BufferTooShort (ltb (length page) 1296) ∷ [])

-- what the writer of the sheet answers, and what it leaves on the page: every byte as it was where it refuses
unfoldable pub sheet_written : ElectricBook → Sales → List ℕ → Result ℕ Refusal
sheet_written b estimates page = written_by (refusal_rows b estimates page) (sheet_text b estimates)

unfoldable pub sheet_left : ElectricBook → Sales → List ℕ → List ℕ
sheet_left b estimates page = buffer_left (refusal_rows b estimates page) (sheet_text b estimates) page
