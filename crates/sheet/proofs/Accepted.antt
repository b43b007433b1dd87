-- What an accepted settlement shows: both books lie within their limits, and the estimates in their ranges. Assumes nothing.
use Rattle.std.specs.Prelude.{◌≡◌, None, pos}
use Rattle.std.proofs.lemmas.Bool.{not-false}
use Rattle.ints.specs.Range.{Between}
use Rattle.refusals.specs.Rows.{refusal_by}
use Rattle.refusals.proofs.TableLaws.{none_holds}
use Rattle.postings.specs.declared.Book.TheVariants.{Electric}
use Rattle.postings.specs.Kinds.{kind_of}
use Rattle.postings.specs.Ranged.{none_out_of_range}
use Rattle.electric_rules.specs.declared.ElectricBook.{ElectricBook}
use Rattle.electric_rules.specs.declared.Sales.{Sales}
use Rattle.electric_rules.specs.Next.{next_of}
use Rattle.electric_rules.specs.Ranges.{BookWithin, book_within}
use Rattle.electric_rules.specs.Refusals.{rows_of}
use Rattle.sheet.specs.Sheet.{settlement_of}

pub record Accepted (b : ElectricBook) (e : Sales) : Type 0 where
  pub found : BookWithin b
  pub settled : BookWithin (next_of b (settlement_of e))
  pub secondary : Between (pos 1) (pos 10000000000) e.secondary.0
  pub primary : Between (pos 1) (pos 10000000000) e.primary.0

pub accepted : (b : ElectricBook) (e : Sales) → refusal_by (rows_of b (settlement_of e)) ≡ None → Accepted b e
unfolding kind_of
accepted b e k =
    let none = none_holds (rows_of b (settlement_of e)) k in
    let ranged = none_out_of_range Electric (settlement_of e) none.1.1.1.0 in
    record {
      found = book_within b (not-false _ none.1.1.0);
      settled = book_within (next_of b (settlement_of e)) (not-false _ none.1.1.1.1.1.1.0);
      secondary = ranged.0;
      primary = ranged.1.0;
    }
