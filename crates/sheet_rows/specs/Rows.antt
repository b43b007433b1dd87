-- How a row of the factor sheet is laid out (02, a).
use Rattle.std.specs.Prelude.{codes, List, [], ◌∷◌, ◌++◌, ℕ, ◌-◌, length, take, replicate}
use Prim.Native.String.{String}
use Rattle.sheet_rows.specs.Cells.{cell_text}
use Rattle.sheet_rows.specs.declared.cells.Cell.{Cell}
use Rattle.sheet_rows.specs.declared.Row as code

-- a row of the sheet: its number, its label as it is spelled, and what stands in its cells
pub record Row : Type 0 where
  pub number : List ℕ
  pub label : List ℕ
  pub total : Cell
  pub secondary : Cell
  pub primary : Cell

abbrev pub row_of : List ℕ → List ℕ → Cell → Cell → Cell → Row
row_of number label total secondary primary = record { number = number; label = label; total = total; secondary = secondary; primary = primary }

abbrev pub row : String → String → Cell → Cell → Cell → Row
row number label = row_of (codes number) (codes label)

-- a row of the code, by the texts that it refers to
abbrev pub shown : code.Row → Row
shown r = row_of r.number.now r.label.now r.total r.secondary r.primary

abbrev pub blanks : ℕ → List ℕ
blanks count = replicate count 32

-- a text at the left or the right of a field, cut where the field ends
unfoldable pub set_left : ℕ → List ℕ → List ℕ
set_left width text = take width text ++ blanks (width - length text)

unfoldable pub set_right : ℕ → List ℕ → List ℕ
set_right width text = blanks (width - length text) ++ take width text

-- row number in 4 and label in 31, both set left, then total, secondary and primary in 15 each, set right
unfoldable pub row_text : Row → List ℕ
row_text r =
    set_left 4 r.number ++ set_left 31 r.label ++ set_right 15 (cell_text r.total) ++ set_right 15 (cell_text r.secondary) ++ set_right 15 (cell_text r.primary)

-- the rows, one below the other, each with a line feed
unfoldable pub rows_text : List Row → List ℕ
rows_text [] = []
rows_text (r ∷ rows) = row_text r ++ codes "\n" ++ rows_text rows
