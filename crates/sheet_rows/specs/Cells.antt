-- What a cell of the factor sheet prints (02, a): no operator or dollar sign.
use Rattle.std.specs.Prelude.{◌≡◌, refl, codes, List, [], ◌++◌, ℕ, ℤ, nat_abs}
use Rattle.amounts.specs.Text.{decimal, text_of, cents_text, points_text}
use Rattle.sheet_rows.specs.declared.cells.Cell.{Cell}
use Rattle.sheet_rows.specs.declared.cells.Cell.TheVariants.{Blank, Money, Factor, Energy, Proportion, Percentage}
use Rattle.sheet_rows.specs.declared.cells.Thousandths.{Thousandths}

abbrev pub in_thousandths : ℤ → Cell
in_thousandths part = Proportion (record { 0 = part })

abbrev pub as_percentage : ℤ → Cell
as_percentage percentage = Percentage (record { 0 = percentage })

-- thousandths of a percent have three digits after the point
unfoldable pub thousandths_text : Thousandths → List ℕ
thousandths_text part = text_of 3 part.0

pub thousandths_text_is : (part : Thousandths) → thousandths_text part ≡ text_of 3 part.0
unfolding thousandths_text
thousandths_text_is part = refl

-- money and factors in document 01's form; kWh and percentages whole, by their size, since on a sheet none is below 0 (EverySheetFits)
unfoldable pub cell_text : Cell → List ℕ
cell_text Blank = []
cell_text (Money cents) = cents_text cents
cell_text (Factor points) = points_text points
cell_text (Energy energy) = decimal (nat_abs energy.0)
cell_text (Proportion part) = thousandths_text part ++ codes "%"
cell_text (Percentage percentage) = decimal (nat_abs percentage.0) ++ codes "%"
