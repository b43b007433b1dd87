-- `effects::cost` tests and stores the cost that the posting makes. Assumes nothing.
use Rattle.std.specs.Prelude.{◌≡◌, ◌+ℤ◌}
use Rattle.std.proofs.Common.{rules, ap, refl, sym, ◌∙◌}
use Rattle.ints.specs.Bound.{bounds, fits64}
use Rattle.ints.specs.Exact.{exacts, exact}
use Rattle.refusals.specs.Rows.{stored_or_12}
use Rattle.refusals.proofs.TableLaws.{stored_within}
use Rattle.amounts.specs.Amounts.{cents, same_cents, cents_in_limits}
use Rattle.amounts.specs.declared.Cents.{Cents}
use Rattle.steam_rules.specs.Next.{with_period, cost_posted, next_at, answer_at}
use Rattle.steam_rules.specs.Ranges.{book_within}
use Rattle.steam_rules.proofs.Changed.{cost_decides}
use Rattle.riders.specs.Posts.{refused, stored}
use Rattle.steam.proofs.effects.cost.Goals as goal
use Rattle.steam.proofs.effects.cost.Goals.{After-stored}

-- what is tested is the cost that the rules test
tested_is : (c : After-stored) → c.stored.result ≡ stored_or_12 (cents_in_limits (cents (c.args.book.now.period.cost.0 +ℤ c.args.posting.first))) (cents (c.args.book.now.period.cost.0 +ℤ c.args.posting.first))
tested_is c =
    let k = (book_within c.args.book.now c.requires.0).period.cost in
    let n = c.requires.1.0 in
    c.stored.ensures ∙ ap (λ (amount : Cents). stored_or_12 (cents_in_limits amount) amount) (same_cents (exact (search (exacts, k, n) depth 30) tt))

pub overflow_add-cost : goal.overflow_add-cost
overflow_add-cost c =
    let k = (book_within c.args.book.now c.requires.0).period.cost in
    let n = c.requires.1.0 in
    fits64 (search (bounds, k, n) depth 30) tt

pub returns-in_err-book : goal.returns-in_err-book
unfolding next_at cost_posted
returns-in_err-book c =
    let b = c.args.book.now in
    let tested = tested_is (goal.at.returns-in_err-book c).After-stored in
    refused (cost_decides b c.requires.0 _) _ _ _ _ (sym c.in_err-book.was ∙ tested) (search rules)

pub returns : goal.returns
unfolding next_at answer_at cost_posted
returns c =
    let b = c.args.book.now in
    let cost = stored_within _ _ (sym c.in_ok-book.was ∙ tested_is (goal.at.returns c).After-stored) in
    stored (cost_decides b c.requires.0 _) _ _ _ cost.0 refl (λ i. with_period b (record { cost = cost.1 i; sales = b.period.sales; remainder = b.period.remainder }))
