-- An opened book is within its limits, and a posting keeps it so: a refusal leaves the book, and row 12 refuses any other. Assumes nothing.
use mathlib.Core.Path.{◌≡◌, refl}
use mathlib.Core.Bool.{true}
use Prim.Native.Nat.{ℕ}
use lib.Dec.{leb}
use borrow.Author.Tests.{not-false, ltb-false, le-leb}
use Rattle.std.specs.Prelude.{Result, Ok, Err}
use Rattle.std.specs.Result.{result_unwrap_or}
use Rattle.ints.specs.Range.{in_range}
use Rattle.refusals.specs.declared.Refusal.{Refusal}
use Rattle.refusals.proofs.TableLaws.{by_table_lem}
use Rattle.amounts.specs.Amounts.{cents_in_limits, points_in_limits}
use Rattle.postings.specs.declared.Posting.{Posting}
use Rattle.postings.specs.declared.Answer.{Answer}
use Rattle.riders.specs.Rules.{left_by, by_rules}
use Rattle.riders.specs.Histories.{Entry, kept_after}
use Rattle.riders.specs.Months.{month_in_limits}
use Rattle.riders.specs.Runs.{run_in_limits}
use Rattle.electric_rules.specs.declared.ElectricBook.{ElectricBook}
use Rattle.electric_rules.specs.Book.{fresh_of, opening_rows, opened_of, handed_back}
use Rattle.electric_rules.specs.Limits.{in_limits}
use Rattle.electric_rules.specs.Refusals.{rules}
use Rattle.electric_rules.specs.Claim.{NeverOutOfLimits}

left_within : (b : ElectricBook) (p : Posting) → in_limits b ≡ true → in_limits (left_by rules b p) ≡ true
left_within b p h =
    by_rules rules (λ (next : ElectricBook) (answer : Result Answer Refusal). in_limits next ≡ true) b p
    (λ none. not-false _ none.1.1.1.1.1.1.0) (λ refusal. h)

fresh_within : (division : ℕ) → leb division 1 ≡ true → in_limits (fresh_of division) ≡ true
unfolding run_in_limits cents_in_limits points_in_limits in_range month_in_limits
fresh_within division e = simp e

handed_back_within : (division : ℕ) → in_limits (handed_back division) ≡ true
unfolding opened_of
handed_back_within division =
    by_table_lem (λ (opened : Result ElectricBook Refusal). in_limits (result_unwrap_or opened (fresh_of 0)) ≡ true) (opening_rows division) (Ok (fresh_of division)) Err
    (λ none. fresh_within division (le-leb division 1 (ltb-false 1 division none.0))) (λ refusal. fresh_within 0 refl)

pub never_out_of_limits : NeverOutOfLimits
unfolding NeverOutOfLimits
never_out_of_limits division postings =
    kept_after rules (λ (t : Unit {0}) (e : Entry). t) (λ (b : ElectricBook) (t : Unit {0}). in_limits b ≡ true) (λ b t p h. left_within b p h) _ tt postings (handed_back_within division)
