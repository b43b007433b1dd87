-- An opened book is within its limits, and a posting keeps it so: a refusal leaves the book, and row 12 refuses any other. Assumes nothing.
use mathlib.Core.Path.{◌≡◌, refl}
use mathlib.Core.Bool.{true}
use mathlib.Core.List.{List}
use lib.IntN.{pos}
use Rattle.std.specs.Prelude.{Result, Ok, Err}
use Rattle.std.specs.Result.{result_unwrap_or}
use borrow.Author.Tests.{not-false}
use Rattle.ints.specs.Range.{in_range}
use Rattle.refusals.specs.declared.Refusal.{Refusal}
use Rattle.refusals.proofs.TableLaws.{by_table_lem}
use Rattle.amounts.specs.Amounts.{cents_in_limits, points_in_limits}
use Rattle.postings.specs.declared.Posting.{Posting}
use Rattle.postings.specs.declared.Answer.{Answer}
use Rattle.riders.specs.Rules.{left_by, by_rules}
use Rattle.riders.specs.Histories.{Entry, kept_after}
use Rattle.riders.specs.Months.{month_in_limits}
use Rattle.riders.specs.Runs.{run_in_limits}
use Rattle.steam_rules.specs.declared.Mmbtu.{Mmbtu}
use Rattle.steam_rules.specs.declared.SteamBook.{SteamBook}
use Rattle.steam_rules.specs.Book.{mmbtu, four, fresh_of}
use Rattle.steam_rules.specs.Calendar.{settles}
use Rattle.steam_rules.specs.Limits.{remainder_in_limits, mmbtu_in_limits, period_in_limits, quarters_in_limits, factors_in_limits, dues_in_limits, reconciliation_in_limits, runs_in_limits, in_limits}
use Rattle.steam_rules.specs.Opening.{opened_of, handed_back}
use Rattle.steam_rules.specs.Refusals.{rules}
use Rattle.steam_rules.specs.Claim.{NeverOutOfLimits}

left_within : (b : SteamBook) (p : Posting) → in_limits b ≡ true → in_limits (left_by rules b p) ≡ true
left_within b p h =
    by_rules rules (λ (next : SteamBook) (answer : Result Answer Refusal). in_limits next ≡ true) b p
    (λ none. not-false _ none.1.1.1.1.1.1.1.1.0) (λ refusal. h)

fresh_within : (quarters : List Mmbtu) → quarters_in_limits quarters ≡ true → in_limits (fresh_of quarters) ≡ true
unfolding in_limits period_in_limits mmbtu_in_limits remainder_in_limits runs_in_limits factors_in_limits dues_in_limits reconciliation_in_limits run_in_limits cents_in_limits points_in_limits in_range month_in_limits settles
fresh_within quarters e = simp e

no_sales : quarters_in_limits (four (mmbtu (pos 0))) ≡ true
unfolding quarters_in_limits mmbtu_in_limits in_range
no_sales = refl

opened_within : (quarters : List Mmbtu) → in_limits (handed_back quarters) ≡ true
unfolding opened_of
opened_within quarters =
    let zeros = fresh_of (four (mmbtu (pos 0))) in
    by_table_lem (λ (opened : Result SteamBook Refusal). in_limits (result_unwrap_or opened zeros) ≡ true) _ (Ok (fresh_of quarters)) Err
    (λ none. fresh_within quarters (not-false _ none.0)) (λ refusal. fresh_within _ no_sales)

pub never_out_of_limits : NeverOutOfLimits
unfolding NeverOutOfLimits
never_out_of_limits quarters postings =
    kept_after rules (λ (t : Unit {0}) (e : Entry). t) (λ (b : SteamBook) (t : Unit {0}). in_limits b ≡ true) (λ b t p h. left_within b p h) _ tt postings (opened_within quarters)
