-- `effects::sales` tests and stores the sales that the posting makes, of one level and of the other. Assumes nothing.
use Rattle.std.specs.Prelude.{◌≡◌}
use Rattle.std.proofs.Common.{rules, ap, refl, sym, ◌∙◌}
use lib.IntN.{ℤ}
use Rattle.ints.specs.Bound.{bounds, fits64}
use Rattle.ints.specs.Exact.{exacts, exact}
use Rattle.refusals.specs.Rows.{stored_or_12}
use Rattle.refusals.proofs.TableLaws.{stored_within}
use Rattle.riders.specs.Posts.{first_refuses, second_refuses, refused, stored}
use Rattle.electric_rules.specs.Book.{kwh}
use Rattle.electric_rules.proofs.Changed.{sales_decide}
use Rattle.electric_rules.specs.Limits.{kwh_in_limits}
use Rattle.electric_rules.specs.Next.{with_period, sales_added}
use Rattle.electric_rules.specs.Ranges.{book_within}
use Rattle.electric.proofs.effects.sales.Goals as goal
use Rattle.electric.proofs.effects.sales.Goals.{After-stored, After-stored-2}

-- what is tested is what the rules test
secondary_is : (c : After-stored) → let sales = (sales_added c.args.book.now.period c.args.posting).sales in c.stored.result ≡ stored_or_12 (kwh_in_limits sales.secondary) sales.secondary
secondary_is c =
    let period = (book_within _ c.requires.0).period in
    c.stored.ensures ∙ ap (λ (z : ℤ). stored_or_12 (kwh_in_limits (kwh z)) (kwh z)) (exact (search (exacts, period, c.requires.1) depth 30) tt)

primary_is : (c : After-stored-2) → let sales = (sales_added c.args.book.now.period c.args.posting).sales in c.stored-2.result ≡ stored_or_12 (kwh_in_limits sales.primary) sales.primary
primary_is c =
    let period = (book_within _ c.requires.0).period in
    c.stored-2.ensures ∙ ap (λ (z : ℤ). stored_or_12 (kwh_in_limits (kwh z)) (kwh z)) (exact (search (exacts, period, c.requires.1) depth 30) tt)

pub overflow_add-sales : goal.overflow_add-sales
overflow_add-sales c =
    let period = (book_within _ c.requires.0).period in
    fits64 (search (bounds, period, c.requires.1) depth 30) tt

pub overflow_add-sales-2 : goal.overflow_add-sales-2
overflow_add-sales-2 c =
    let period = (book_within _ c.requires.0).period in
    fits64 (search (bounds, period, c.requires.1) depth 30) tt

pub returns-in_err-stored : goal.returns-in_err-stored
returns-in_err-stored c =
    let tested = secondary_is (goal.at.returns-in_err-stored c).After-stored in
    refused (sales_decide c.args.book.now c.requires.0 _) _ _ _ _ (first_refuses _ _ _ (sym c.in_err-stored.was ∙ tested)) (search rules)

pub returns-in_err-stored-2 : goal.returns-in_err-stored-2
returns-in_err-stored-2 c =
    let secondary = stored_within _ _ (sym c.in_ok-stored.was ∙ secondary_is (goal.at.returns-in_err-stored-2 c).After-stored) in
    let tested = primary_is (goal.at.returns-in_err-stored-2 c).After-stored-2 in
    refused (sales_decide c.args.book.now c.requires.0 _) _ _ _ _ (second_refuses _ _ _ secondary.0 (sym c.in_err-stored-2.was ∙ tested)) (search rules)

pub returns : goal.returns
returns c =
    let b = c.args.book.now in
    let secondary = stored_within _ _ (sym c.in_ok-stored.was ∙ secondary_is (goal.at.returns c).After-stored) in
    let primary = stored_within _ _ (sym c.in_ok-stored-2.was ∙ primary_is (goal.at.returns c).After-stored-2) in
    stored (sales_decide b c.requires.0 _) _ _ _ (simp (secondary.0, primary.0)) refl (λ i. with_period b (record { cost = b.period.cost; sales = record { secondary = secondary.1 i; primary = primary.1 i }; remainder = b.period.remainder }))
