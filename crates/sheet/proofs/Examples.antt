-- The example holds. Its numbers are computed from the definitions; their texts by twenty digits at most, since as many steps as a number says
-- are more than the check has room for. Assumes nothing.
use Rattle.std.specs.Prelude.{◌≡◌, refl, Bool, true, ◌&&◌, T, ltb, codes, List, [], ◌∷◌, ◌++◌, ℕ, ◌/◌, ◌^◌, ℤ, nat_abs}
use Rattle.std.proofs.Common.{sym, ap, ltb→lt}
use Rattle.ints.specs.Digits.{digits}
use Rattle.ints.specs.Flags.{T_left, T_right}
use Rattle.rounding.specs.Round.{tie_of, rounded_of, nearest_of, round}
use Rattle.rounding.specs.Weight.{weight_of}
use Rattle.amounts.specs.Text.{characters, cents_text, points_text, text_of, sign_of, decimal, width_in}
use Rattle.amounts.proofs.Widths.{few_steps}
use Rattle.postings.specs.Kinds.{kind_of}
use Rattle.riders.specs.Months.{month_after}
use Rattle.riders.specs.Runs.{factor_for}
use Rattle.electric_rules.specs.Settlement.{variance_of, shareable_of, share_of, weight_by, secondary_share, primary_share}
use Rattle.electric_rules.specs.Levels.{owed_by}
use Rattle.sheet_rows.specs.declared.cells.Cell.{Cell}
use Rattle.sheet_rows.specs.declared.cells.Cell.TheVariants.{Blank, Money, Factor, Energy, Proportion, Percentage}
use Rattle.sheet_rows.specs.Cells.{thousandths_text, cell_text}
use Rattle.sheet_rows.specs.Rows.{Row, set_left, set_right, row_text, rows_text}
use Rattle.sheet.specs.Figures.{base_cost, first_interim, adjusted, previous_factor}
use Rattle.sheet.specs.Sheet.{sheet_text, sheet_by}
use Rattle.sheet.specs.Examples.{ExampleHolds}

-- ---- a text by twenty digits at most

abbrev whole : ℕ → List ℕ
whole n = characters (digits 10 (width_in 19 n) n)

abbrev pointed : ℕ → ℤ → List ℕ
pointed places z = sign_of z ++ (whole (nat_abs z / 10 ^ places) ++ (46 ∷ characters (digits 10 places (nat_abs z))))

whole_is : (n : ℕ) → T (ltb n (10 ^ 20)) → decimal n ≡ whole n
unfolding decimal
whole_is n t = ap (λ (w : ℕ). characters (digits 10 w n)) (sym (few_steps 19 n (ltb→lt n (10 ^ 20) t)))

pointed_is : (places : ℕ) (z : ℤ) → T (ltb (nat_abs z / 10 ^ places) (10 ^ 20)) → text_of places z ≡ pointed places z
unfolding text_of
pointed_is places z t = ap (λ (l : List ℕ). sign_of z ++ (l ++ (46 ∷ characters (digits 10 places (nat_abs z))))) (whole_is (nat_abs z / 10 ^ places) t)

-- ---- and so that of a cell

abbrev few : Cell → Bool
few Blank = true
few (Money cents) = ltb (nat_abs cents.0 / 10 ^ 2) (10 ^ 20)
few (Factor points) = ltb (nat_abs points.0 / 10 ^ 4) (10 ^ 20)
few (Energy kwh) = ltb (nat_abs kwh.0) (10 ^ 20)
few (Proportion part) = ltb (nat_abs part.0 / 10 ^ 3) (10 ^ 20)
few (Percentage percentage) = ltb (nat_abs percentage.0) (10 ^ 20)

abbrev cell : Cell → List ℕ
cell Blank = []
cell (Money cents) = pointed 2 cents.0
cell (Factor points) = pointed 4 points.0
cell (Energy kwh) = whole (nat_abs kwh.0)
cell (Proportion part) = pointed 3 part.0 ++ codes "%"
cell (Percentage percentage) = whole (nat_abs percentage.0) ++ codes "%"

cell_is : (c : Cell) → T (few c) → cell_text c ≡ cell c
unfolding cell_text cents_text points_text thousandths_text
cell_is Blank t = refl
cell_is (Money cents) t = pointed_is 2 cents.0 t
cell_is (Factor points) t = pointed_is 4 points.0 t
cell_is (Energy kwh) t = whole_is (nat_abs kwh.0) t
cell_is (Proportion part) t = ap (λ (l : List ℕ). l ++ codes "%") (pointed_is 3 part.0 t)
cell_is (Percentage percentage) t = ap (λ (l : List ℕ). l ++ codes "%") (whole_is (nat_abs percentage.0) t)

-- ---- and of rows

abbrev all_few : List Row → Bool
all_few [] = true
all_few (r ∷ rows) = few r.total && (few r.secondary && (few r.primary && all_few rows))

abbrev lines : List Row → List ℕ
lines [] = []
lines (r ∷ rows) =
    set_left 4 r.number ++ set_left 31 r.label ++ set_right 15 (cell r.total) ++ set_right 15 (cell r.secondary) ++ set_right 15 (cell r.primary) ++ codes "\n" ++ lines rows

lines_are : (rows : List Row) → T (all_few rows) → rows_text rows ≡ lines rows
unfolding rows_text row_text
lines_are [] t = refl
lines_are (r ∷ rows) t =
    let s = T_right (few r.total) _ t in
    let p = T_right (few r.secondary) _ s in
    let total = cell_is r.total (T_left (few r.total) _ t) in
    let secondary = cell_is r.secondary (T_left (few r.secondary) _ s) in
    let primary = cell_is r.primary (T_left (few r.primary) _ p) in
    λ i. set_left 4 r.number ++ set_left 31 r.label ++ set_right 15 (total i) ++ set_right 15 (secondary i) ++ set_right 15 (primary i) ++ codes "\n" ++ lines_are rows (T_right (few r.primary) _ p) i

pub example_holds : ExampleHolds
unfolding sheet_text sheet_by set_left set_right sign_of width_in digits base_cost first_interim adjusted previous_factor variance_of shareable_of share_of weight_by weight_of secondary_share primary_share owed_by round nearest_of rounded_of tie_of kind_of factor_for month_after
example_holds = lines_are _ tt
