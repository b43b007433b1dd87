-- `effects::cost` tests and stores the cost that the posting makes. Assumes nothing.
use Rattle.std.specs.Prelude.{◌≡◌}
use Rattle.std.proofs.Common.{rules, ap, refl, sym, ◌∙◌}
use Rattle.ints.specs.Bound.{bounds, fits64}
use Rattle.ints.specs.Exact.{exacts, exact}
use Rattle.refusals.specs.Rows.{stored_or_12}
use Rattle.refusals.proofs.TableLaws.{stored_within}
use Rattle.amounts.specs.Amounts.{same_cents, cents_in_limits}
use Rattle.amounts.specs.declared.Cents.{Cents}
use Rattle.riders.specs.Posts.{refused, stored}
use Rattle.electric_rules.proofs.Changed.{cost_decides}
use Rattle.electric_rules.specs.Next.{with_period, cost_added}
use Rattle.electric_rules.specs.Ranges.{book_within}
use Rattle.electric.proofs.effects.cost.Goals as goal
use Rattle.electric.proofs.effects.cost.Goals.{After-stored}

-- what is tested is the cost that the rules test
tested_is : (c : After-stored) → let cost = (cost_added c.args.book.now.period c.args.posting).cost in c.stored.result ≡ stored_or_12 (cents_in_limits cost) cost
tested_is c =
    let period = (book_within _ c.requires.0).period in
    c.stored.ensures ∙ ap (λ (cost : Cents). stored_or_12 (cents_in_limits cost) cost) (same_cents (exact (search (exacts, period, c.requires.1) depth 30) tt))

pub overflow_add-cost-3 : goal.overflow_add-cost-3
overflow_add-cost-3 c =
    let period = (book_within _ c.requires.0).period in
    fits64 (search (bounds, period, c.requires.1) depth 30) tt

pub returns-in_err-book : goal.returns-in_err-book
returns-in_err-book c =
    let tested = tested_is (goal.at.returns-in_err-book c).After-stored in
    refused (cost_decides c.args.book.now c.requires.0 _) _ _ _ _ (sym c.in_err-book.was ∙ tested) (search rules)

pub returns : goal.returns
returns c =
    let b = c.args.book.now in
    let cost = stored_within _ _ (sym c.in_ok-book.was ∙ tested_is (goal.at.returns c).After-stored) in
    stored (cost_decides b c.requires.0 _) _ _ _ cost.0 refl (λ i. with_period b (record { cost = cost.1 i; sales = b.period.sales; remainder = b.period.remainder }))
