-- The claims of the factor sheet (02, a): which run stays, that the sheet fills its page, and that no cell of it is cut. Proved in
-- proofs/Fits.antt.
use Rattle.std.specs.Prelude.{◌≡◌, List, [], ◌∷◌, ◌*◌, ◌≤◌, length, pos, ◌≤ℤ◌, None}
use Rattle.ints.specs.Range.{Between}
use Rattle.refusals.specs.Rows.{refusal_by}
use Rattle.electric_rules.specs.declared.Rates.{Rates}
use Rattle.electric_rules.specs.declared.Sales.{Sales}
use Rattle.electric_rules.specs.declared.Level.{Level}
use Rattle.electric_rules.specs.declared.ElectricBook.{ElectricBook}
use Rattle.electric_rules.specs.Ranges.{BookWithin}
use Rattle.electric_rules.specs.Refusals.{rows_of}
use Rattle.electric_rules.specs.Sizes.{RatesWithin}
use Rattle.sheet_rows.specs.declared.cells.Cell.{Cell}
use Rattle.sheet_rows.specs.declared.cells.Cell.TheVariants.{Blank, Money, Factor, Energy, Proportion, Percentage}
use Rattle.sheet_rows.specs.Cells.{cell_text}
use Rattle.sheet_rows.specs.Rows.{Row, row_text}
use Rattle.sheet.specs.Figures.{previous_factor}
use Rattle.sheet.specs.Sheet.{sheet_by, settlement_of, sheet_of, sheet_text}

-- run 2 stays when a settlement of November enters, run 1 when one of May does
abbrev pub RunThatStays : Type 0
RunThatStays = (l : Level) → (previous_factor 11 l ≡ l.second.factor) × (previous_factor 5 l ≡ l.first.factor)

-- what is printed without a sign is not below 0
abbrev pub NoSignLost : Cell → Type 0
NoSignLost Blank = Unit
NoSignLost (Money cents) = Unit
NoSignLost (Factor points) = Unit
NoSignLost (Energy energy) = pos 0 ≤ℤ energy.0
NoSignLost (Proportion part) = Unit
NoSignLost (Percentage percentage) = pos 0 ≤ℤ percentage.0

pub record CellFits (c : Cell) : Type 0 where
  pub short : length (cell_text c) ≤ 15
  pub whole : NoSignLost c

-- a row is 80 characters, of which the number and the cells are whole: only a label is cut
pub record RowFits (r : Row) : Type 0 where
  pub characters : length (row_text r) ≡ 80
  pub number : length r.number ≤ 4
  pub total : CellFits r.total
  pub secondary : CellFits r.secondary
  pub primary : CellFits r.primary

abbrev pub RowsFit : List Row → Type 0
RowsFit [] = Unit
RowsFit (r ∷ rows) = RowFits r × RowsFit rows

-- so it is of any rates that a sheet may state, and of any books and estimates within their limits
abbrev pub EverySheetFits : Type 0
EverySheetFits =
    (r : Rates) (found settled : ElectricBook) (estimates : Sales) → RatesWithin r → BookWithin found → BookWithin settled →
    Between (pos 1) (pos 10000000000) estimates.secondary.0 → Between (pos 1) (pos 10000000000) estimates.primary.0 →
    RowsFit (sheet_by r found settled estimates)

-- the sheet of every accepted settlement is exactly 16 × 81 bytes
abbrev pub SheetFills : Type 0
SheetFills =
    (b : ElectricBook) (estimates : Sales) → refusal_by (rows_of b (settlement_of estimates)) ≡ None →
    (length (sheet_of b estimates) ≡ 16) × RowsFit (sheet_of b estimates) × (length (sheet_text b estimates) ≡ 16 * 81)
