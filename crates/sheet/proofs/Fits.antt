-- No cell of a sheet is cut, for any rates that a sheet may state, and the sheet of every accepted settlement is 16 × 81 bytes. Assumes nothing.
use Rattle.std.specs.Prelude.{refl, ℕ, T, leb, length, ℤ, pos, nat_abs, codes}
use Rattle.std.proofs.Common.{arith, leb→le}
use Rattle.std.proofs.lemmas.List.{length-append}
use Rattle.ints.specs.Order.{signed}
use Rattle.ints.specs.Range.{Between, Within}
use Rattle.ints.specs.Bound.{b_between, b_add, within_by, between_abs}
use Rattle.amounts.specs.Text.{cents_text, points_text, text_of, decimal}
use Rattle.amounts.proofs.Texts.{text_most, decimal_most}
use Rattle.riders.specs.Months.{month_after}
use Rattle.electric_rules.specs.Rates.{rates_of}
use Rattle.electric_rules.specs.Next.{next_of}
use Rattle.electric_rules.specs.Sizes.{rates_within, division_rates, share_within, secondary_within, primary_within, weight_within}
use Rattle.sheet_rows.specs.declared.cells.Cell.{Cell}
use Rattle.sheet_rows.specs.declared.cells.Cell.TheVariants.{Blank, Money, Factor, Energy, Proportion, Percentage}
use Rattle.sheet_rows.specs.Cells.{thousandths_text, cell_text}
use Rattle.sheet_rows.specs.Rows.{Row}
use Rattle.sheet_rows.proofs.Laying.{length_row}
use Rattle.sheet.specs.Figures.{previous_factor}
use Rattle.sheet.specs.Sheet.{sheet_by, settlement_of}
use Rattle.sheet.specs.Claims.{RunThatStays, CellFits, RowFits, EverySheetFits, SheetFills}
use Rattle.sheet.proofs.Sizes.{base_within, interim_within, adjusted_within, total_within, rest_within, previous_within}
use Rattle.sheet.proofs.Accepted.{accepted}
use Rattle.sheet.proofs.Writing.{length_sheet}

-- ranges in which a cell's text has at most fifteen characters
abbrev CellWithin : Cell → Type 0
CellWithin Blank = Unit
CellWithin (Money cents) = Within 9999999999999 cents.0
CellWithin (Factor points) = Within 999999 points.0
CellWithin (Energy energy) = Between (pos 0) (pos 99999999999999) energy.0
CellWithin (Proportion part) = Within 999999 part.0
CellWithin (Percentage percentage) = Between (pos 0) (pos 999) percentage.0

cell_fits : (cell : Cell) → CellWithin cell → CellFits cell
unfolding cell_text cents_text points_text thousandths_text
cell_fits Blank h = record { short = omega arith; whole = tt }
cell_fits (Money cents) h = let n = between_abs cents.0 h in record { short = text_most 2 10 cents.0 (omega arith); whole = tt }
cell_fits (Factor points) h =
    let n = between_abs points.0 h in let m = text_most 4 1 points.0 (omega arith) in record { short = omega arith; whole = tt }
cell_fits (Energy energy) h =
    let n = between_abs energy.0 h in let m = decimal_most 13 (nat_abs energy.0) (omega arith) in record { short = omega arith; whole = h.above }
cell_fits (Proportion part) h =
    let n = between_abs part.0 h in
    let m = text_most 3 2 part.0 (omega arith) in
    record { short = omega (arith, length-append (text_of 3 part.0) (codes "%")); whole = tt }
cell_fits (Percentage percentage) h =
    let n = between_abs percentage.0 h in
    let m = decimal_most 2 (nat_abs percentage.0) (omega arith) in
    record { short = omega (arith, length-append (decimal (nat_abs percentage.0)) (codes "%")); whole = h.above }

-- a range is within a wider one, about 0 or from 0 on
narrow : {low high z : ℤ} {most : ℕ} (h : Between low high z) → T (leb (b_between h).size most) → Within most z
narrow h t = within_by (b_between h) t

from_0 : {low high most : ℕ} {z : ℤ} → Between (pos low) (pos high) z → T (leb high most) → Between (pos 0) (pos most) z
from_0 {low} {high} {most} h t = let wide = leb→le high most t in record { above = omega signed; below = omega signed }

fits : (r : Row) → T (leb (length r.number) 4) → CellWithin r.total → CellWithin r.secondary → CellWithin r.primary → RowFits r
fits r n t s p =
    record { characters = length_row r; number = leb→le (length r.number) 4 n; total = cell_fits r.total t; secondary = cell_fits r.secondary s; primary = cell_fits r.primary p }

infixr 4 ◌then◌
◌then◌ : {A B : Type 0} → A → B → A × B
◌then◌ first below = (first, below)

pub every_sheet_fits : EverySheetFits
unfolding sheet_by
every_sheet_fits r b n e rs bs ns es ep =
    let p = b.period in
    let ps = bs.period in
    let adjusted_secondary = adjusted_within p.sales.secondary.0 r.secondary ps.secondary rs.secondary in
    let adjusted_primary = adjusted_within p.sales.primary.0 r.primary ps.primary rs.primary in
    let before = previous_within b.month b.secondary bs.secondary in
    let above = previous_within b.month b.primary bs.primary in
    let qs = ns.secondary.pending.factor in
    let qp = ns.primary.pending.factor in
    fits _ tt (narrow ps.cost tt) tt tt
    then fits _ tt (narrow (base_within r p rs ps) tt) tt tt
    then fits _ tt (narrow (interim_within r p rs ps) tt) tt tt
    then fits _ tt tt (from_0 ps.secondary tt) (from_0 ps.primary tt)
    then fits _ tt tt (narrow rs.secondary tt) (narrow rs.primary tt)
    then fits _ tt (from_0 (total_within r p rs ps) tt) (from_0 adjusted_secondary tt) (from_0 adjusted_primary tt)
    then fits _ tt tt (narrow (weight_within r p rs ps) tt) (narrow (rest_within r p rs ps) tt)
    then fits _ tt (from_0 rs.percentage tt) tt tt
    then fits _ tt (narrow (share_within r p rs ps) tt) (narrow (secondary_within r p rs ps) tt) (narrow (primary_within r p rs ps) tt)
    then fits _ tt tt (narrow bs.secondary.carried tt) (narrow bs.primary.carried tt)
    then fits _ tt tt (narrow bs.secondary.interest tt) (narrow bs.primary.interest tt)
    then fits _ tt tt (narrow ns.secondary.pending.due tt) (narrow ns.primary.pending.due tt)
    then fits _ tt tt (from_0 es tt) (from_0 ep tt)
    then fits _ tt tt (narrow qs tt) (narrow qp tt)
    then fits _ tt tt (narrow before tt) (narrow above tt)
    then fits _ tt tt (within_by (b_add (b_between qs) (b_between before)) tt) (within_by (b_add (b_between qp) (b_between above)) tt)
    then tt

pub run_that_stays : RunThatStays
unfolding previous_factor month_after
run_that_stays l = (refl, refl)

pub sheet_fills : SheetFills
unfolding sheet_by
sheet_fills b e k =
    let a = accepted b e k in
    (refl, every_sheet_fits (rates_of b.division) b (next_of b (settlement_of e)) e (rates_within _ (division_rates b.division)) a.found a.settled a.secondary a.primary, length_sheet b e)
