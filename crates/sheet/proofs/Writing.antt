-- What the writer of the sheet gives: the settlement's own refusal, else what the writer of its text gives. Assumes nothing.
use Rattle.std.specs.Prelude.{◌≡◌, List, [], ◌∷◌, ◌++◌, ℕ, ltb, length, drop, None, Some, Option, Ok, Err}
use Rattle.std.proofs.Common.{sym, ap, ◌∙◌}
use Rattle.refusals.specs.Rows.{row, refusal_by, given_by, by_table}
use Rattle.refusals.specs.Writer.{too_short}
use Rattle.refusals.specs.declared.Refusal.{Refusal}
use Rattle.refusals.specs.declared.Refusal.TheVariants.{BufferTooShort}
use Rattle.refusals.proofs.TableLaws.{decided_earlier, decided_later}
use Rattle.refusals.proofs.WriterLaws.{writer_refuses}
use Rattle.amounts.specs.Text.{text_rows, text_written, text_left}
use Rattle.electric_rules.specs.declared.ElectricBook.{ElectricBook}
use Rattle.electric_rules.specs.declared.Sales.{Sales}
use Rattle.electric_rules.specs.Refusals.{rows_of}
use Rattle.sheet_rows.proofs.Laying.{length_rows}
use Rattle.sheet.specs.Sheet.{sheet_by, settlement_of, sheet_of, sheet_text, refusal_rows, sheet_written, sheet_left}

pub length_sheet : (b : ElectricBook) (e : Sales) → length (sheet_text b e) ≡ 1296
unfolding sheet_text sheet_by
length_sheet b e = length_rows (sheet_of b e)

module _ (b : ElectricBook) (e : Sales) (page : List ℕ) where
  pub refused : {refusal : Refusal} → refusal_by (rows_of b (settlement_of e)) ≡ Some refusal → (Err refusal ≡ sheet_written b e page) × (page ≡ sheet_left b e page)
  unfolding sheet_written sheet_left
  refused {refusal} k =
      writer_refuses (refusal_rows b e page) (sheet_text b e) page refusal (decided_earlier (rows_of b (settlement_of e)) (row BufferTooShort (ltb (length page) 1296) ∷ []) refusal k)

  module _ (k : refusal_by (rows_of b (settlement_of e)) ≡ None) where
    -- row 13 is left of the table, and the sheet is as long as that says
    table_is : refusal_by (text_rows (sheet_text b e) page) ≡ refusal_by (refusal_rows b e page)
    unfolding too_short
    table_is =
        ap (λ (n : ℕ). refusal_by (row BufferTooShort (ltb (length page) n) ∷ [])) (length_sheet b e)
        ∙ sym (decided_later (rows_of b (settlement_of e)) (row BufferTooShort (ltb (length page) 1296) ∷ []) k)

    pub answered : text_written (sheet_text b e) page ≡ sheet_written b e page
    unfolding text_written sheet_written by_table
    answered = ap (λ (o : Option Refusal). given_by o (Ok (length (sheet_text b e))) Err) table_is

    pub left : text_left (sheet_text b e) page ≡ sheet_left b e page
    unfolding text_left sheet_left by_table
    left = ap (λ (o : Option Refusal). given_by o (sheet_text b e ++ drop (length (sheet_text b e)) page) (λ (refusal : Refusal). page)) table_is
