-- `effects::sales` tests and stores the sales that the posting makes. Assumes nothing.
use Rattle.std.specs.Prelude.{◌≡◌, ◌+ℤ◌}
use Rattle.std.proofs.Common.{rules, ap, refl, sym, ◌∙◌}
use Rattle.ints.specs.Bound.{bounds, fits64}
use Rattle.ints.specs.Exact.{exacts, exact}
use Rattle.refusals.specs.Rows.{stored_or_12}
use Rattle.refusals.proofs.TableLaws.{stored_within}
use Rattle.steam_rules.specs.declared.Mmbtu.{Mmbtu}
use Rattle.steam_rules.specs.Book.{mmbtu, same_mmbtu}
use Rattle.steam_rules.specs.Next.{with_period, sales_posted, next_at, answer_at}
use Rattle.steam_rules.specs.Limits.{mmbtu_in_limits}
use Rattle.steam_rules.specs.Ranges.{book_within}
use Rattle.steam_rules.proofs.Changed.{sales_decides}
use Rattle.riders.specs.Posts.{refused, stored}
use Rattle.steam.proofs.effects.sales.Goals as goal
use Rattle.steam.proofs.effects.sales.Goals.{After-stored}

-- what is tested are the sales that the rules test
tested_are : (c : After-stored) → c.stored.result ≡ stored_or_12 (mmbtu_in_limits (mmbtu (c.args.book.now.period.sales.0 +ℤ c.args.posting.first))) (mmbtu (c.args.book.now.period.sales.0 +ℤ c.args.posting.first))
tested_are c =
    let k = (book_within c.args.book.now c.requires.0).period.sales in
    let n = c.requires.1.0 in
    c.stored.ensures ∙ ap (λ (sold : Mmbtu). stored_or_12 (mmbtu_in_limits sold) sold) (same_mmbtu (exact (search (exacts, k, n) depth 30) tt))

pub overflow_add-sales : goal.overflow_add-sales
overflow_add-sales c =
    let k = (book_within c.args.book.now c.requires.0).period.sales in
    let n = c.requires.1.0 in
    fits64 (search (bounds, k, n) depth 30) tt

pub returns-in_err-book : goal.returns-in_err-book
unfolding next_at sales_posted
returns-in_err-book c =
    let b = c.args.book.now in
    let tested = tested_are (goal.at.returns-in_err-book c).After-stored in
    refused (sales_decides b c.requires.0 _) _ _ _ _ (sym c.in_err-book.was ∙ tested) (search rules)

pub returns : goal.returns
unfolding next_at answer_at sales_posted
returns c =
    let b = c.args.book.now in
    let sales = stored_within _ _ (sym c.in_ok-book.was ∙ tested_are (goal.at.returns c).After-stored) in
    stored (sales_decides b c.requires.0 _) _ _ _ sales.0 refl (λ i. with_period b (record { cost = b.period.cost; sales = sales.1 i; remainder = b.period.remainder }))
