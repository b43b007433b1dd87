-- `sharing::provisional_shares` is what a settlement today would share, or nothing where there is none. Assumes nothing.
use Rattle.std.specs.Prelude.{◌≡◌, Bool, cond, ◌||◌, pos}
use Rattle.std.proofs.Common.{ap, sym, ◌∙◌}
use Rattle.amounts.specs.Amounts.{cents}
use Rattle.amounts.specs.declared.Cents.{Cents}
use Rattle.electric_rules.specs.declared.ElectricBook.{ElectricBook}
use Rattle.electric_rules.specs.Rates.{rates_of}
use Rattle.electric_rules.specs.Next.{provisional_of}
use Rattle.electric_rules.specs.Ranges.{book_within}
use Rattle.electric_rules.specs.Settlement.{secondary_share, primary_share, no_kwh, provisional_share}
use Rattle.electric_rules.proofs.Sold.{sum_fits, no_kwh_read}
use Rattle.electric.proofs.sharing.provisional_shares.Goals as goal

-- either level's, by whether there is none
module _ (b : ElectricBook) where
  abbrev by : Bool → Cents × Cents
  by none = (cents (cond none (pos 0) (secondary_share (rates_of b.division) b.period)), cents (cond none (pos 0) (primary_share (rates_of b.division) b.period)))

  by_rules : {none : Bool} → b.settled || no_kwh b.period ≡ none → by none ≡ (cents (provisional_of secondary_share b), cents (provisional_of primary_share b))
  unfolding provisional_share
  by_rules e = ap by (sym e)

pub overflow_add-sales : goal.overflow_add-sales
overflow_add-sales c = sum_fits c.args.book.now.period (book_within _ c.requires).period

pub returns-then-book-sales : goal.returns-then-book-sales
returns-then-book-sales c =
    let b = c.args.book.now in
    by_rules b (ap (λ (none : Bool). b.settled || none) (sym (no_kwh_read b.period (book_within b c.requires).period)) ∙ c.if-book-sales.true)

pub returns : goal.returns
returns c =
    let b = c.args.book.now in
    (λ i. ((c.shares_of-shares.ensures i).secondary, (c.shares_of-shares.ensures i).primary))
    ∙ by_rules b (ap (λ (none : Bool). b.settled || none) (sym (no_kwh_read b.period (book_within b c.requires).period)) ∙ c.if-book-sales.false)
